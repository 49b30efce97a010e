-- Links of rising slots, searched for by their slot.
use Rattle.std.proofs.Common.{◌≡◌, ◌≢◌, ◌↔◌, IsTrue, Bool, false, nat_eq, ◌==◌, slice_index_or, rules, tests, ℕ, ◌≤◌, List, [], ◌∷◌, length, map, Some, slice_get, sym, ap, ◌∙◌, subst, refl, arith}
use Rattle.std.proofs.lemmas.Option.{slice_get-map, get_or_from_slice_get}
use Rattle.std.specs.{List.Sorted.IsStrictlyIncreasing, Option.option_map}
use Rattle.list_laws.proofs.{Places.one_there, Members.mapped_at}
use Rattle.image_defs.specs.Places.{Each, Stands, IsPort, item_slots, in_slots, out_slots}
use Rattle.image_defs.specs.declared.image.{LinkIn.LinkIn, LinkOut.LinkOut, PortImage.PortImage, Image.Image}
use Rattle.image_defs.specs.WellFormed.{IsLinkOut, IsLinkIn}
use Rattle.image_check.specs.code.{Links.SendsTo, Links.IsReader, Links.link_in, Shapes.IsRising}
use Rattle.image_check.proofs.SearchLemmas.{one_place}

-- the slot of a member of a list
slot_there : {X : Type 0} (f : X → ℕ) (xs : List X) (slots : List ℕ) (i slot : ℕ) (x : X) → slots ≡ map f xs → slice_get xs i ≡ Some x → f x ≡ slot → slice_get slots i ≡ Some slot
slot_there f xs slots i slot x are here is = ap (λ ys. slice_get ys i) are ∙ slice_get-map f xs i ∙ ap (option_map f) here ∙ ap Some is

-- the member of a slot that was found
member : {X : Type 0} (f : X → ℕ) (xs : List X) (slots : List ℕ) (i slot : ℕ) → slots ≡ map f xs → slice_get slots i ≡ Some slot → (x : X) × (slice_get xs i ≡ Some x) × (f x ≡ slot)
member f xs slots i slot are here = mapped_at f xs i slot (subst (λ ys. slice_get ys i ≡ Some slot) are here)

-- it is the only one
only : {X : Type 0} (f : X → ℕ) (xs : List X) (slots : List ℕ) (i j slot : ℕ) (x y : X) → slots ≡ map f xs → IsStrictlyIncreasing slots → slice_get slots i ≡ Some slot → slice_get xs i ≡ Some x
    → slice_get xs j ≡ Some y → f y ≡ slot → y ≡ x
only f xs slots i j slot x y are up found here there is =
    let place = one_place slots j i slot up (slot_there f xs slots j slot y are there is) found in
    one_there xs j i y x place there here

-- ---- sends

pub sends_none : (port : PortImage) (slots : List ℕ) (slot reader : ℕ) → slots ≡ out_slots port.outs → (Stands slots slot → ⊥) → IsTrue false ↔ SendsTo port slot reader
sends_none port slots slot reader are none =
    (λ f. cc, λ to. absurd (none (to.sends.0, slot_there (λ (l : LinkOut). l.slot) port.outs slots to.sends.0 slot to.sent are to.sends.1 to.slot_is)))

pub sends_some : (port : PortImage) (slots : List ℕ) (outs : List LinkOut) (place slot reader : ℕ) (r : Bool) → slots ≡ out_slots port.outs → IsRising port → slice_get slots place ≡ Some slot → outs ≡ port.outs
    → ((link : LinkOut) → slice_get outs place ≡ Some link → IsTrue r ↔ Stands link.readers reader) → IsTrue r ↔ SendsTo port slot reader
sends_some port slots outs place slot reader r are rising found same reads = (sends, back) where
  at : (link : LinkOut) × (slice_get port.outs place ≡ Some link) × (link.slot ≡ slot)
  at = member (λ l. l.slot) port.outs slots place slot are found

  reads_there : (link : LinkOut) → slice_get port.outs place ≡ Some link → IsTrue r ↔ Stands link.readers reader
  reads_there link here = reads link (ap (λ xs. slice_get xs place) same ∙ here)

  sends : IsTrue r → SendsTo port slot reader
  sends is_true = record { sent = at.0; sends = (place, at.1); slot_is = at.2; reads = (reads_there at.0 at.1).0 is_true }

  back : SendsTo port slot reader → IsTrue r
  back to =
      let up = subst IsStrictlyIncreasing (sym are) rising.outs in
      let one : to.sent ≡ at.0 = only (λ (l : LinkOut). l.slot) port.outs slots place to.sends.0 slot at.0 to.sent are up found at.1 to.sends.1 to.slot_is in
      (reads_there at.0 at.1).1 (subst (λ (l : LinkOut). Stands l.readers reader) one to.reads)

-- ---- receipts

pub receives_none : (port : PortImage) (slots : List ℕ) (slot sender : ℕ) → slots ≡ in_slots port.ins → (Stands slots slot → ⊥) → IsTrue false ↔ Stands port.ins (link_in slot sender)
receives_none port slots slot sender are none =
    (λ f. cc, λ at. absurd (none (at.0, slot_there (λ (l : LinkIn). l.slot) port.ins slots at.0 slot (link_in slot sender) are at.1 refl)))

same_number : (s t : ℕ) → IsTrue (s == t) ↔ (s ≡ t)
same_number s t = (λ e. search (rules, tests), λ e. search (rules, tests))

-- the link of the slot has this sender or another
pub receives_some : (port : PortImage) (slots : List ℕ) (ins : List LinkIn) (place slot sender : ℕ) (d : LinkIn) → slots ≡ in_slots port.ins → IsRising port → slice_get slots place ≡ Some slot → ins ≡ port.ins
    → IsTrue (nat_eq (slice_index_or ins place d).sender sender) ↔ Stands port.ins (link_in slot sender)
receives_some port slots ins place slot sender d are rising found same = (stands, back) where
  at : (l : LinkIn) × (slice_get port.ins place ≡ Some l) × (l.slot ≡ slot)
  at = member (λ l. l.slot) port.ins slots place slot are found

  read : slice_index_or ins place d ≡ at.0
  read = ap (λ (xs : List LinkIn). slice_index_or xs place d) same ∙ get_or_from_slice_get port.ins place at.0 d at.1

  said : IsTrue (nat_eq at.0.sender sender) ↔ (at.0.sender ≡ sender)
  said = same_number at.0.sender sender

  stands : IsTrue (nat_eq (slice_index_or ins place d).sender sender) → Stands port.ins (link_in slot sender)
  stands is_true =
      let e = said.0 (subst (λ (l : LinkIn). IsTrue (nat_eq l.sender sender)) read is_true) in
      (place, subst (λ s. slice_get port.ins place ≡ Some (link_in slot s)) e (subst (λ t. slice_get port.ins place ≡ Some (link_in t at.0.sender)) at.2 at.1))

  back : Stands port.ins (link_in slot sender) → IsTrue (nat_eq (slice_index_or ins place d).sender sender)
  back there =
      let up = subst IsStrictlyIncreasing (sym are) rising.ins in
      let one : link_in slot sender ≡ at.0 = only (λ (l : LinkIn). l.slot) port.ins slots place there.0 slot at.0 (link_in slot sender) are up found at.1 there.1 refl in
      subst (λ (l : LinkIn). IsTrue (nat_eq l.sender sender)) (sym read) (said.1 (ap (λ (l : LinkIn). l.sender) (sym one)))

-- a link out, by what is said of its readers
pub link_out_by : (image : Image) (p : ℕ) (port : PortImage) (slots : List ℕ) (link : LinkOut) (readers : List ℕ) (r : Bool) → slots ≡ item_slots port.work → IsStrictlyIncreasing link.readers → (link.readers ≡ [] → ⊥)
    → Stands slots link.slot → readers ≡ link.readers → IsTrue r ↔ Each (IsReader image p link.slot) readers → IsTrue r ↔ IsLinkOut image p port link
link_out_by image p port slots link readers r is rising some item same said = (out, back) where
  some_of : (xs : List ℕ) → (xs ≡ [] → ⊥) → 1 ≤ length xs
  some_of [] none = absurd (none refl)
  some_of (x ∷ xs) none = omega arith

  out : IsTrue r → IsLinkOut image p port link
  out is_true =
      let each = subst (Each (IsReader image p link.slot)) same (said.0 is_true) in
      record {
        item = subst (λ (xs : List ℕ). Stands xs link.slot) is item;
        some = some_of link.readers some;
        rising = rising;
        other = λ i x here. (each i x here).other;
        received = λ i x here. (each i x here).receives;
      }

  back : IsLinkOut image p port link → IsTrue r
  back l = said.1 (subst (Each (IsReader image p link.slot)) (sym same) (λ i x here. record { other = l.other i x here; receives = l.received i x here }))

-- ---- the ports at the other ends

pub link_in_some : (image : Image) (p : ℕ) (link : LinkIn) (sender : PortImage) (r : Bool) → IsPort image link.sender sender → IsTrue r ↔ SendsTo sender link.slot p → IsTrue r ↔ IsLinkIn image p link
link_in_some image p link sender r is sent = (gives, back) where
  gives : IsTrue r → IsLinkIn image p link
  gives so = let to = sent.0 so in record { sender = sender; is = is; sent = to.sent; sends = to.sends; slot = to.slot_is; reads = to.reads }

  back : IsLinkIn image p link → IsTrue r
  back there =
      let same = one_there image.ports link.sender link.sender there.sender sender refl there.is is in
      sent.1 (record { sent = there.sent; sends = subst (λ (q : PortImage). Stands q.outs there.sent) same there.sends; slot_is = there.slot; reads = there.reads })

pub reader_some : (image : Image) (p slot reader : ℕ) (port : PortImage) (r : Bool) → (reader ≢ p) → IsPort image reader port → IsTrue r ↔ Stands port.ins (link_in slot p) → IsTrue r ↔ IsReader image p slot reader
reader_some image p slot reader port r other is received = (gives, back) where
  gives : IsTrue r → IsReader image p slot reader
  gives so = record { other = other; receives = record { port = port; is = is; receives = received.0 so } }

  back : IsReader image p slot reader → IsTrue r
  back there =
      let same = one_there image.ports reader reader there.receives.port port refl there.receives.is is in
      received.1 (subst (λ (q : PortImage). Stands q.ins (link_in slot p)) same there.receives.receives)
