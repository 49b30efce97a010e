-- What a pass finds its words by: for each send and each receipt of its port, the slot and the word of bank 0.
use Rattle.std.specs.Prelude.{◌≡◌, ℕ, ◌<◌, List, Some, length, slice_get}
use Rattle.image_defs.specs.{Places.IsPort, declared.image.Image.Image, declared.image.LinkIn.LinkIn, declared.image.LinkOut.LinkOut}
use Rattle.image_defs.specs.declared.image.PortImage.{PortImage}
use Rattle.event_defs.specs.Places.{IsSend}
use Rattle.slot_words.specs.{declared.links.Link.Link, Layout.send_word}

-- link number k is of this slot
pub record HasSlot (links : List Link) (slot k : ℕ) : Type 0 where
  pub link : Link
  pub is : slice_get links k ≡ Some link
  pub slot_is : link.slot ≡ slot

-- the words of the first n sends of port p
pub record AreSendLinks (image : Image) (banks p : ℕ) (outs : List LinkOut) (n : ℕ) (links : List Link) : Type 0 where
  pub long : length links ≡ n
  pub each : (i : ℕ) (link : LinkOut) → i < n → slice_get outs i ≡ Some link
      → slice_get links i ≡ Some (record { slot = link.slot; word = send_word image banks p i 0 })

-- the word of bank 0 of the send that a port receives from by this link
pub record IsSourceWord (image : Image) (banks : ℕ) (link : LinkIn) (word : ℕ) : Type 0 where
  pub i : ℕ
  pub sent : LinkOut
  pub send : IsSend image link.sender i sent
  pub same_slot : sent.slot ≡ link.slot
  pub is : word ≡ send_word image banks link.sender i 0

-- those of the first n receipts of a port
pub record AreReceiptLinks (image : Image) (banks : ℕ) (ins : List LinkIn) (n : ℕ) (links : List Link) : Type 0 where
  pub long : length links ≡ n
  pub each : (j : ℕ) (link : LinkIn) → j < n → slice_get ins j ≡ Some link
      → (word : ℕ) × (slice_get links j ≡ Some (record { slot = link.slot; word = word })) × IsSourceWord image banks link word

-- the words of all sends and of all receipts of port p
abbrev pub AreSendLinksOf : Image → ℕ → ℕ → List Link → Type 0
AreSendLinksOf image banks p links = (port : PortImage) → IsPort image p port → AreSendLinks image banks p port.outs (length port.outs) links

abbrev pub AreReceiptLinksOf : Image → ℕ → ℕ → List Link → Type 0
AreReceiptLinksOf image banks p links = (port : PortImage) → IsPort image p port → AreReceiptLinks image banks port.ins (length port.ins) links
