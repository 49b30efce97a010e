-- The next event of a port at its place.
use Rattle.std.specs.Prelude.{◌≡◌, ℕ, ◌+◌, ◌<◌, ◌≤◌, true, false, List, Some, slice_get}
use Rattle.logic_four.specs.declared.V4.{V4}
use Rattle.image_defs.specs.{declared.image.LinkIn.LinkIn, declared.image.LinkOut.LinkOut, declared.image.PortImage.PortImage, Places.Each, Places.Stands}
use Rattle.event_defs.specs.declared.place.Action.TheVariants.{Ask, Put, Take, Tell, Done}
use Rattle.event_defs.specs.{declared.place.Action.Action, declared.place.Place.Place, Places.is_in, Places.known_of}

-- ---- where something is missing, by the slots that are put and taken

module _ (port : PortImage) (puts takes : List ℕ) where
  -- what it sends in the slots below this one is put, and what it receives there is taken
  pub record IsDoneBelow (slot : ℕ) : Type 0 where
    pub all_put : Each (λ link. link.slot < slot → is_in link.slot puts ≡ true) port.outs
    pub all_taken : Each (λ link. link.slot < slot → is_in link.slot takes ≡ true) port.ins

  -- the least slot in which something is missing is that of this link, number i of what it sends, and
  -- its Put is missing
  pub record SendsNext (i : ℕ) (link : LinkOut) : Type 0 where
    pub is : slice_get port.outs i ≡ Some link
    pub missing : is_in link.slot puts ≡ false
    pub below : IsDoneBelow link.slot

  -- the least slot in which something is missing is that of this link, number j of what it receives,
  -- and its Take alone is missing
  pub record ReceivesNext (j : ℕ) (link : LinkIn) : Type 0 where
    pub is : slice_get port.ins j ≡ Some link
    pub missing : is_in link.slot takes ≡ false
    pub below : IsDoneBelow link.slot
    pub put_there : Each (λ out. out.slot ≡ link.slot → is_in out.slot puts ≡ true) port.outs

  -- nothing is missing
  pub record EndsNext : Type 0 where
    pub all_put : Each (λ link. is_in link.slot puts ≡ true) port.outs
    pub all_taken : Each (λ link. is_in link.slot takes ≡ true) port.ins

-- ---- the next event, with so many banks

module _ (port : PortImage) (place : Place) where
  -- a Put is missing, and this is the least of its readers that isn't known to have finished the turn
  -- that is so many before
  pub record AsksNext (banks reader : ℕ) : Type 0 where
    pub i : ℕ
    pub link : LinkOut
    pub sends : SendsNext port place.puts place.takes i link
    pub reads : Stands link.readers reader
    pub lags : known_of place reader + banks < place.turn
    pub least : (r : ℕ) → Stands link.readers r → r < reader → place.turn ≤ known_of place r + banks

  -- a Put is missing, and each of its readers is known to have finished that turn
  pub record PutsNext (banks slot : ℕ) : Type 0 where
    pub i : ℕ
    pub link : LinkOut
    pub slot_is : link.slot ≡ slot
    pub sends : SendsNext port place.puts place.takes i link
    pub ready : (r : ℕ) → Stands link.readers r → place.turn ≤ known_of place r + banks

  -- a Take alone is missing
  pub record TakesNext (slot : ℕ) : Type 0 where
    pub j : ℕ
    pub link : LinkIn
    pub slot_is : link.slot ≡ slot
    pub receives : ReceivesNext port place.puts place.takes j link

  -- nothing is missing
  abbrev pub TellsNext : Type 0
  TellsNext = EndsNext port place.puts place.takes

  -- this is what the port does next, where it executes turns up to this one, and has these values in
  -- the slots of its turn
  abbrev pub IsNext : ℕ → ℕ → (ℕ → V4) → Action → Type 0
  IsNext banks until value (Ask reader) = (place.turn ≤ until) × AsksNext banks reader
  IsNext banks until value (Put slot v) = (place.turn ≤ until) × PutsNext banks slot × (v ≡ value slot)
  IsNext banks until value (Take slot) = (place.turn ≤ until) × TakesNext slot
  IsNext banks until value Tell = (place.turn ≤ until) × TellsNext
  IsNext banks until value Done = place.turn ≡ until + 1
