-- The memories of a port, one by one.
use Rattle.std.proofs.Common.{◌≡◌, ◌≢◌, ◌∙◌, ◌⊎◌, inl, inr, ℕ, ◌+◌, ◌<◌, List, length, get_or, set, slice_get, Some, sym, ap, subst, arith}
use Rattle.std.proofs.lemmas.{Bool.Decides.eqb_tells, List.length-set, List.get_or-set_same, List.get_or-set_other}
use Rattle.std.proofs.lemmas.Option.{slice_get_within, slice_get-get_or, get_or_from_slice_get}
use Rattle.list_laws.proofs.{Places.one_there, Ranges.last_or}
use Rattle.image_defs.specs.{declared.image.BlockWork.BlockWork, Ports.PortView}
use Rattle.port_array.specs.{Acts.LaneMemory, code.Acts.Acted, code.Acts.AreActed}

-- a member of a list by its place
pub member_at : {X : Type 0} (xs : List X) (i : ℕ) (x : X) → i < length xs → x ≡ get_or xs i x → slice_get xs i ≡ Some x
member_at xs i x within is = slice_get-get_or xs i x within ∙ ap Some (sym is)

-- what stands in a list after one member is set
pub set_place : {X : Type 0} (xs : List X) (m : ℕ) (v : X) (k : ℕ) (x : X) → slice_get (set xs m v) k ≡ Some x → ((k ≡ m) × (v ≡ x)) ⊎ ((k ≢ m) × (slice_get xs k ≡ Some x))
set_place {X} xs m v k x there = elim (eqb_tells k m) [
  | inl h ↦ inl (h.1, sym (get_or-set_same xs m v v (subst (λ i. i < length xs) h.1 within)) ∙ ap (λ i. get_or (set xs m v) i v) (sym h.1) ∙ get_or_from_slice_get (set xs m v) k x v there)
  | inr h ↦ inr (h.1, slice_get-get_or xs k x within ∙ ap Some (sym (get_or-set_other xs m k v x h.1) ∙ get_or_from_slice_get (set xs m v) k x x there))
] where
  within : k < length xs
  within = omega (arith, length-set xs m v, slice_get_within (set xs m v) k x there)

module _ (blocks : List BlockWork) (now : List LaneMemory) (m : ℕ) (block : BlockWork) (new : LaneMemory) (here : slice_get blocks m ≡ Some block) where
  -- one memory more went through an edge
  pub acted_more : (view : PortView) (old : List LaneMemory) (one : LaneMemory) → AreActed view blocks m old now → slice_get now m ≡ Some one → Acted view block one new → AreActed view blocks (m + 1) old (set now m new)
  acted_more view old one so_far stood acted = record {
    acted = λ b other first memory low at was there. elim (set_place now m new b memory there) [
      | inl h ↦
          let same : block ≡ other = one_there blocks m b block other (sym h.0) here at in
          let begun : one ≡ first = one_there old m b one first (sym h.0) (so_far.rest m one (omega arith) stood) was in
          rw (← h.1, ← same, ← begun) acted
      | inr h ↦ so_far.acted b other first memory (elim (last_or b m low) [ inl before ↦ before | inr same ↦ absurd (h.0 same) ]) at was h.1
    ];
    rest = λ b memory from there. elim (set_place now m new b memory there) [
      | inl h ↦ absurd (omega (arith, h.0))
      | inr h ↦ so_far.rest b memory (omega arith) h.1
    ];
  }
