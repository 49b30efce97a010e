-- What a port finds at hand in its turn, and what the items of its turn are.
use Rattle.std.proofs.Common.{◌≡◌, ◌∙◌, inl, inr, ℕ, ◌+◌, ◌-◌, ◌*◌, ◌<◌, ◌≤◌, List, get_or, slice_get, Some, sym, ap, subst, refl, arith}
use Rattle.std.proofs.lemmas.{Bool.cases_lt, Option.get_or_from_slice_get}
use Rattle.logic_four.specs.declared.V4.TheVariants.{Zero, One, Undef, HighZ}
use Rattle.logic_four.specs.{declared.V4.V4, Values.code_of}
use Rattle.image_defs.specs.Places.{item_slots, in_slots, IsPort, IsItemIn}
use Rattle.image_defs.specs.WellFormed.{IsWellFormed, IsThere, IsOperand, IsPast}
use Rattle.image_defs.specs.declared.image.{Source.Source, Source.TheVariants.Own, Source.TheVariants.Got, Source.TheVariants.Const, LinkIn.LinkIn}
use Rattle.image_defs.specs.{declared.image.PortImage.PortImage, declared.image.Image.Image, Steps.past_value, Steps.item_value, Steps.IsImageStep}
use Rattle.image_defs.specs.{Frames.frame, Ports.PortView, Ports.CanExecute, Ports.value_in}
use Rattle.image_defs.proofs.lemmas.{PlaceLemmas.Rises, PlaceLemmas.rises, PlaceLemmas.at_map, ValueLemmas.value_meets}
use Rattle.port_bank.proofs.PlaceLemmas.{number_few}
use Rattle.port_bank.specs.Reads.{IsAtHand, value_taken, now_in, past_in}
use Rattle.port_bank.specs.Flat.{place_count, operand_of, IsWithin}

-- what stands in the place of a port is that port
pub port_image_found : (image : Image) (p : ℕ) (port port_image : PortImage) (ports : List PortImage) → IsPort image p port → ports ≡ image.ports → port_image ≡ get_or ports p port_image → port ≡ port_image
port_image_found image p port port_image ports is whole there = sym (there ∙ ap (λ xs. get_or xs p port_image) whole ∙ get_or_from_slice_get image.ports p port port_image is)

-- the image makes a right step at the port's turn
pub turn_meets : (view : PortView) → IsWellFormed view.image → 1 ≤ view.turn → IsImageStep view.image view.stimulus view.turn (past_in view) (now_in view)
turn_meets view fits first =
    let turn : view.turn - 1 + 1 ≡ view.turn = omega arith in
    subst (λ t. IsImageStep view.image view.stimulus t (past_in view) (frame view.image view.stimulus t)) turn ((value_meets view.image view.stimulus fits).steps (view.turn - 1))

-- the item of a slot meets its equation at the port's turn
pub item_meets : (view : PortView) (port : PortImage) (i slot : ℕ) → IsWellFormed view.image → 1 ≤ view.turn → IsPort view.image view.port port → IsItemIn port.work i slot
    → value_in view slot ≡ item_value view.image view.stimulus view.turn (past_in view) (now_in view).value view.port port.ins port.work i
item_meets view port i slot fits first is stands = (turn_meets view fits first).values view.port i slot port is stands

-- what a source names stands in a slot that there is
pub there_within : (image : Image) (p : ℕ) (port : PortImage) (source : Source) → IsWellFormed image → IsPort image p port → IsThere port source → IsWithin image.slots source
there_within image p port (Own slot last) fits is (i, stands) = (fits.ports p port is).item_slots_within i slot stands
there_within image p port (Got slot last) fits is (i, stands) = (fits.ports p port is).in_slots_within i slot stands
there_within image p port (Const v) fits is there = tt

-- its place is one of a bank's
pub place_within : (slots : ℕ) (source : Source) → IsWithin slots source → (operand_of slots source).number < 2 * place_count slots
place_within slots (Own slot last) low = omega (arith, number_few last)
place_within slots (Got slot last) low = omega (arith, number_few last)
place_within slots (Const v) low = code_low v where
  code_low : (w : V4) → 2 * (2 * slots + code_of w) < 2 * place_count slots
  code_low Zero = omega arith
  code_low One = omega arith
  code_low Undef = omega arith
  code_low HighZ = omega arith

-- of two places in an ascending list the one with the lesser number comes first
stands_before : (xs : List ℕ) (i n s t : ℕ) → Rises xs → slice_get xs i ≡ Some s → slice_get xs n ≡ Some t → s < t → i < n
stands_before xs i n s t up here there less = elim (cases_lt i n) [
  | inl before ↦ before
  | inr past ↦ elim (cases_lt n i) [
    | inl behind ↦ absurd (omega (arith, up n i t s behind there here))
    | inr same ↦ (let e : i ≡ n = omega arith in let alike : Some s ≡ Some t = sym here ∙ ap (slice_get xs) e ∙ there in let equal : s ≡ t = cc in absurd (omega arith))
  ]
]

-- an operand of the item that the port executes next is at hand
pub operand_at_hand : (view : PortView) (slot : ℕ) (source : Source) (can : CanExecute view slot) → IsWellFormed view.image → IsOperand can.port slot source → IsAtHand view can.port source
operand_at_hand view slot (Own s last) can fits operand = of_place operand.there where
  of_place : (i : ℕ) × (slice_get (item_slots can.port.work) i ≡ Some s) → IsAtHand view can.port (Own s last)
  of_place (i, stands) =
      (i, stands, λ now. stands_before (item_slots can.port.work) i view.executed s slot (rises (item_slots can.port.work) (fits.ports view.port can.port can.is).items) stands can.next (operand.before now))
operand_at_hand view slot (Got s last) can fits operand = of_place operand.there where
  of_link : (i : ℕ) → (link : LinkIn) × (slice_get can.port.ins i ≡ Some link) × (link.slot ≡ s) → IsAtHand view can.port (Got s last)
  of_link i (link, there, same) = (i, link, there, same, λ now. can.received_before i link there (subst (λ t. t < slot) (sym same) (operand.before now)))

  of_place : (i : ℕ) × (slice_get (in_slots can.port.ins) i ≡ Some s) → IsAtHand view can.port (Got s last)
  of_place (i, stands) = of_link i (at_map (λ link. link.slot) can.port.ins i s stands)
operand_at_hand view slot (Const v) can fits operand = tt

-- a source of the last turn is at hand, and has what it had in that turn
pub past_at_hand : (view : PortView) (port : PortImage) (source : Source) → IsPast port source → IsAtHand view port source
past_at_hand view port (Own s last) past = let is = past.last in of_place past.there where
  of_place : (i : ℕ) × (slice_get (item_slots port.work) i ≡ Some s) → IsAtHand view port (Own s last)
  of_place (i, stands) = (i, stands, λ now. absurd (cc))
past_at_hand view port (Got s last) past = of_place past.there where
  of_link : (i : ℕ) → (link : LinkIn) × (slice_get port.ins i ≡ Some link) × (link.slot ≡ s) → IsAtHand view port (Got s last)
  of_link i (link, there, same) = let is = past.last in (i, link, there, same, λ now. absurd (cc))

  of_place : (i : ℕ) × (slice_get (in_slots port.ins) i ≡ Some s) → IsAtHand view port (Got s last)
  of_place (i, stands) = of_link i (at_map (λ link. link.slot) port.ins i s stands)
past_at_hand view port (Const v) past = tt

pub past_taken : (view : PortView) (port : PortImage) (source : Source) → IsPast port source → value_taken view port source ≡ past_value view.port port.ins (past_in view).value source
past_taken view port (Own s last) past = ap (λ l. value_taken view port (Own s l)) past.last ∙ ap (λ l. past_value view.port port.ins (past_in view).value (Own s l)) (sym past.last)
past_taken view port (Got s last) past = ap (λ l. value_taken view port (Got s l)) past.last ∙ ap (λ l. past_value view.port port.ins (past_in view).value (Got s l)) (sym past.last)
past_taken view port (Const v) past = refl
