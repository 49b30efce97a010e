-- Steps after steps.
use Rattle.std.proofs.Common.{List, [], add-zero, ap, arith, refl, subst, sym, zero-add, ℕ, ◌++◌, ◌+◌, ◌∷◌, ◌≡◌, ◌≤◌}
use Rattle.net_defs.specs.declared.stimulus.Stimulus.{Stimulus}
use Rattle.image_defs.specs.{Places.IsPort, declared.image.Image.Image, declared.image.PortImage.PortImage}
use Rattle.event_defs.specs.{Counts.moved_in, Counts.moves, Steps.AreSteps, Steps.CoreState, Steps.IsStep, declared.place.CoreStep.CoreStep}
use Rattle.event_defs.specs.declared.place.CoreStep.TheVariants.{Done, Moved, NotYet}

pub moved_join : (one other : List CoreStep) → moved_in (one ++ other) ≡ moved_in one + moved_in other
unfolding moved_in
moved_join [] other = sym (zero-add (moved_in other))
moved_join (answer ∷ one) other = let rest = moved_join one other in omega arith

pub moved_one : (answer : CoreStep) → moved_in (answer ∷ []) ≡ moves answer
unfolding moved_in
moved_one answer = add-zero (moves answer)

pub moves_few : (answer : CoreStep) → moves answer ≤ 1
moves_few (Moved e) = omega arith
moves_few NotYet = omega arith
moves_few Done = omega arith

module _ (image : Image) (stimulus : Stimulus) (banks until : ℕ) where
  pub steps_join : (one other : List ℕ) (old middle new : CoreState) (first second : List CoreStep)
      → AreSteps image stimulus banks until one old first middle → AreSteps image stimulus banks until other middle second new
      → AreSteps image stimulus banks until (one ++ other) old (first ++ second) new
  unfolding AreSteps
  steps_join [] other old middle new first second before after =
      subst (λ (xs : List CoreStep). AreSteps image stimulus banks until other old (xs ++ second) new) (sym before.0)
      (subst (λ (s : CoreState). AreSteps image stimulus banks until other s second new) before.1 after)
  steps_join (p ∷ one) other old middle new first second before after = (
    before.0,
    before.1,
    before.2 ++ second,
    before.3,
    before.4,
    ap (λ xs. xs ++ second) before.5,
    before.6,
    steps_join one other before.3 middle new before.2 second before.7 after,
  )

  pub steps_one : (p : ℕ) (port : PortImage) (old new : CoreState) (answer : CoreStep) → IsPort image p port → IsStep image stimulus banks until p port old answer new
      → AreSteps image stimulus banks until (p ∷ []) old (answer ∷ []) new
  unfolding AreSteps
  steps_one p port old new answer is step = (port, answer, [], new, is, refl, step, (refl, refl))
