-- What a port sends and receives in a slot.
use Rattle.std.specs.Prelude.{◌≡◌, ◌≢◌, ℕ}
use Rattle.image_defs.specs.declared.image.{LinkIn.LinkIn, LinkOut.LinkOut, PortImage.PortImage, Image.Image}
use Rattle.image_defs.specs.{Places.Stands, WellFormed.ReceivesFrom}

abbrev pub link_in : ℕ → ℕ → LinkIn
link_in slot sender = record { slot = slot; sender = sender }

-- the port sends to this reader in this slot
pub record SendsTo (port : PortImage) (slot reader : ℕ) : Type 0 where
  pub sent : LinkOut
  pub sends : Stands port.outs sent
  pub slot_is : sent.slot ≡ slot
  pub reads : Stands sent.readers reader

-- another port, which receives in this slot what port p sends
pub record IsReader (image : Image) (p slot r : ℕ) : Type 0 where
  pub other : r ≢ p
  pub receives : ReceivesFrom image r slot p
