-- What the rule implies.
use Rattle.std.proofs.Common.{List, Some, ap, eq-eqb, if◌then◌else◌, inl, inr, length, ne_eqb, sym, ℕ, ◌+◌, ◌<◌, ◌∙◌, ◌≡◌, ◌≢◌}
use Rattle.std.proofs.lemmas.Bool.{cases_eq}
use Rattle.std.specs.Prelude.{◌↔◌}
use mathlib.Core.Option.{some}
use lib.ListN.{get_elem?}
use Rattle.image_defs.specs.declared.image.Image.{Image}
use Rattle.event_defs.specs.declared.place.Place.{Place}
use Rattle.atomic_table.specs.Table.{State}
use Rattle.slot_words.specs.Rule.{AreDistinct, AreInTurn, AreOwned, Kept}
use Rattle.slot_words.specs.declared.{feed.Feed.Ghosts, rule.Key.Key, rule.TheConstants.UNCLAIMED, rule.View.View}
use Rattle.slot_words.specs.Layout.{progress_in, turns_told}

pub told_none : (n : ℕ) → n ≡ UNCLAIMED → turns_told n ≡ 0
told_none n e = ap (λ b. if b then 0 else n) (eq-eqb n UNCLAIMED e)

pub told_some : (n : ℕ) → (n ≡ UNCLAIMED → ⊥) → turns_told n ≡ n
told_some n other = ap (λ b. if b then 0 else n) (ne_eqb n UNCLAIMED other)

-- a progress word tells the turns before its port's, also where no seat has the port
pub counts : {D : Type 0} (image : Image) (feed : D) (banks until : ℕ) (words : List ℕ) (views : List (View D)) (place : ℕ → Place) (owner : ℕ → ℕ)
    → AreOwned image feed banks words views place owner → AreInTurn image banks until words place → (r : ℕ) → r < length image.ports → turns_told (progress_in words r) + 1 ≡ (place r).turn
counts image feed banks until words views place owner owned turns r inside = elim (cases_eq (progress_in words r) UNCLAIMED) [
  | inl free ↦ ap (λ n. n + 1) (told_none (progress_in words r) free) ∙ sym (ap (λ (a : Place). a.turn) (owned.fresh r inside free))
  | inr claimed ↦ ap (λ n. n + 1) (told_some (progress_in words r) claimed) ∙ turns.progress r inside claimed
]

module _ {F D : Type 0} (g : Ghosts F D) (key : Key D) (s : State (Unit {0}) (View D)) (kept : Kept g key s) where
  -- a progress word is unclaimed exactly where no seat has its port's pass
  pub unclaimed_is : (p : ℕ) → p < length key.image.value.ports → (progress_in s.words p ≡ UNCLAIMED) ↔ ((id : ℕ) (v : View D) → get_elem? s.views id ≡ some v → v.port ≢ Some p)
  unclaimed_is p inside = (
    (λ free id v at port_is. (kept.owned.mine id p v at port_is).claimed free),
    (λ nobody. elim (cases_eq (progress_in s.words p) UNCLAIMED) [
      | inl free ↦ free
      | inr claimed ↦ let has = kept.owned.seen p inside claimed in absurd (nobody (kept.owner p) has.view has.at has.port_is)
    ]),
  )

  pub rule_distinct : AreDistinct s.views
  rule_distinct one other p v w at_one at_other one_is other_is =
      (kept.owned.mine one p v at_one one_is).owner_is ∙ sym (kept.owned.mine other p w at_other other_is).owner_is
