-- What a step keeps, and what its answer says.
use Rattle.std.proofs.Common.{Bool, ap, arith, if◌then◌else◌, inl, inr, refl, subst, sym, ℕ, ◌+◌, ◌∙◌, ◌≡◌, ◌↔◌}
use Rattle.event_defs.specs.declared.place.Event.TheVariants.{Ask, Put, Take, Tell}
use Rattle.event_defs.specs.declared.place.{Event.Event, Place.Place}
use Rattle.crew_run.specs.Steps as step
use Rattle.crew_run.specs.{Steps.steps_of, declared.stepper.Step.Step}
use Rattle.crew_run.specs.declared.stepper.Step.TheVariants.{Done, Moved, NotYet}
use Rattle.slot_words.specs.plain.Passes.{CrossbarView, IsFit, IsOf, PassView, one_step}
use Rattle.port_run.proofs.lemmas.NextLemmas.{event_not_short, event_not_wait, wait_short}
use Rattle.port_run.specs.Steps.{IsEvent, IsShort, IsStepOf, IsWait, ends_turn}
use Rattle.port_run.specs.{Pairs.HasMade, Pairs.RunView, Pairs.with_pass, Same.IsSame, Same.Takes}

-- what no step changes, and how many atomic steps it was
pub record IsNext (old new : PassView) (made : ℕ) : Type 0 where
  pub table : new.table ≡ old.table
  pub port : new.port ≡ old.port
  pub image : new.image ≡ old.image
  pub stimulus : new.feed ≡ old.feed
  pub banks : new.banks ≡ old.banks
  pub steps : new.steps ≡ old.steps + made

module _ (until : ℕ) (old new : PassView) where
  made_one : (x : Place) (w n : ℕ) → new ≡ one_step old x w n → IsNext old new 1
  made_one x w n is = record {
    table = ap (λ (p : PassView). p.table) is;
    port = ap (λ (p : PassView). p.port) is;
    image = ap (λ (p : PassView). p.image) is;
    stimulus = ap (λ (p : PassView). p.feed) is;
    banks = ap (λ (p : PassView). p.banks) is;
    steps = ap (λ (p : PassView). p.steps) is;
  }

  event_next : (e : Event) → IsEvent until old e new → IsNext old new 1
  event_next (Ask reader) made = made_one _ _ _ made.makes.asks.is
  event_next (Put slot) made = made_one _ _ _ made.makes.is
  event_next (Take slot) made = made_one _ _ _ made.makes.looks.is
  event_next Tell made = made_one _ _ _ made.makes.is

  wait_next : IsWait until old new → IsNext old new 1
  wait_next wait = elim wait.waits [
    | inl ask ↦ made_one _ _ _ ask.asks.is
    | inr take ↦ made_one _ _ _ take.looks.is
  ]

  pub step_next : (answer : Step) → IsStepOf until old answer new → IsNext old new (steps_of answer)
  step_next Moved is = event_next is.0 is.1
  step_next NotYet is = wait_next is
  step_next Done is = subst (λ n. IsNext old n 0) (sym is.1) (record { table = refl; port = refl; image = refl; stimulus = refl; banks = refl; steps = omega arith })

  pub step_of : (bar : CrossbarView) (answer : Step) → IsOf bar old → IsStepOf until old answer new → IsOf bar new
  step_of bar answer own is =
      let next = step_next answer is in
      record { table = next.table ∙ own.table; image = next.image ∙ own.image; feed = next.stimulus ∙ own.feed; banks = next.banks ∙ own.banks }

  -- an event raises the turn where it ends it
  event_turn : (e : Event) → IsEvent until old e new → new.place.turn ≡ old.place.turn + (if ends_turn e then 1 else 0)
  event_turn (Ask reader) made = let same : new.place.turn ≡ old.place.turn = ap (λ (p : PassView). p.place.turn) made.makes.asks.is in omega arith
  event_turn (Put slot) made = let same : new.place.turn ≡ old.place.turn = ap (λ (p : PassView). p.place.turn) made.makes.is in omega arith
  event_turn (Take slot) made = let same : new.place.turn ≡ old.place.turn = ap (λ (p : PassView). p.place.turn) made.makes.looks.is in omega arith
  event_turn Tell made = ap (λ (p : PassView). p.place.turn) made.makes.is

  wait_turn : IsWait until old new → new.place.turn ≡ old.place.turn
  wait_turn wait = elim wait.waits [
    | inl ask ↦ ap (λ (p : PassView). p.place.turn) ask.asks.is
    | inr take ↦ ap (λ (p : PassView). p.place.turn) take.looks.is
  ]

  pub step_stays : (answer : Step) → IsStepOf until old answer new → ¬ step.Moved answer → new.place.turn ≡ old.place.turn
  step_stays Moved is other = absurd (other refl)
  step_stays NotYet is other = wait_turn is
  step_stays Done is other = ap (λ (p : PassView). p.place.turn) is.1

  pub step_done : (answer : Step) → IsStepOf until old answer new → step.Done answer ↔ HasMade until old
  step_done Moved is = ((λ e. cc), (λ e. let early = is.1.early in absurd (omega arith)))
  step_done NotYet is = ((λ e. cc), (λ e. let early = is.early in absurd (omega arith)))
  step_done Done is = ((λ _. is.0), (λ _. refl))

  step_waits : (answer : Step) → IsFit old → IsStepOf until old answer new → step.NotYet answer ↔ ((¬ step.Done answer) × IsShort until new)
  step_waits Moved fit is = ((λ e. cc), (λ both. absurd (event_not_short until old new fit is.0 is.1 both.1)))
  step_waits NotYet fit is = ((λ _. ((λ e. cc), wait_short until old new fit is)), (λ _. refl))
  step_waits Done fit is = ((λ e. cc), (λ both. absurd (both.0 refl)))

-- ---- by the block

module _ (old new : RunView) where
  pub step_same : (bar : CrossbarView) (answer : Step) → IsStepOf old.until old.pass answer new.pass → new ≡ with_pass old new.pass → IsSame bar old bar new
  step_same bar answer is block =
      let next = step_next old.until old.pass new.pass answer is in
      record {
        bar = refl;
        port = next.port;
        image = next.image;
        stimulus = next.stimulus;
        window = ap (λ (run : RunView). run.window) block;
        first_row = ap (λ (run : RunView). run.first_row) block;
        until = ap (λ (run : RunView). run.until) block;
      }

  pub takes_turn : (tells : Bool) → Takes old tells new → new.pass.place.turn ≡ old.pass.place.turn + (if tells then 1 else 0)
  takes_turn tells takes = subst (λ t. new.pass.place.turn ≡ old.pass.place.turn + (if t then 1 else 0)) (sym takes.1) (event_turn old.until old.pass new.pass takes.0 takes.2)

  pub step_moved : (answer : Step) → IsFit old.pass → IsStepOf old.until old.pass answer new.pass → step.Moved answer ↔ ((tells : Bool) × Takes old tells new)
  step_moved Moved fit is = ((λ _. (ends_turn is.0, (is.0, refl, is.1))), (λ _. refl))
  step_moved NotYet fit is = ((λ e. cc), (λ takes. absurd (event_not_wait old.until old.pass new.pass fit takes.1.0 takes.1.2 is)))
  step_moved Done fit is = ((λ e. cc), (λ takes. let early = takes.1.2.early in let over = is.0 in absurd (omega arith)))

  pub run_waits : (answer : Step) → IsFit old.pass → IsStepOf old.until old.pass answer new.pass → new ≡ with_pass old new.pass → step.NotYet answer ↔ ((¬ step.Done answer) × IsShort new.until new.pass)
  run_waits answer fit is block =
      subst (λ n. step.NotYet answer ↔ ((¬ step.Done answer) × IsShort n new.pass)) (sym (ap (λ (run : RunView). run.until) block))
      (step_waits old.until old.pass new.pass answer fit is)
