-- The states of a crossbar are sound states of a core, and steps of ports are events there.
use Rattle.std.proofs.Common.{List, Some, ap, inl, inr, length, refl, set, subst, sym, true, ℕ, ◌+◌, ◌∙◌, ◌≡◌, ◌≤◌}
use mathlib.Core.Option.{some}
use lib.ListN.{get_elem?}
use Rattle.event_defs.specs.declared.place.Event.TheVariants.{Ask, Put, Take, Tell}
use Rattle.event_defs.specs.{Steps.CoreState, declared.place.CoreStep.TheVariants.NotYet, declared.place.Event.Event, declared.place.Place.Place}
use Rattle.atomic_table.specs.{Seated.TableId, Table.Act, Table.State, Table.stepped}
use Rattle.slot_words.proofs.{LookLemmas.counted_look, LookLemmas.told_progress, LookLemmas.told_sent, PlainLemmas.rule_sound, StepLemmas.sent_read}
use Rattle.slot_words.specs.plain.Sound.{ArePassesSound, Kept, PlainKey, PlainView}
use Rattle.slot_words.specs.{Layout.told_in, plain.Passes.IsFit, plain.Passes.PassView, Rule.IsKept, Rule.IsPassOf, plain.Words.plain, plain.Words.turns_of}
use Rattle.slot_words.specs.declared.rule.Look.{Look}
use Rattle.port_run.proofs.{AfterLemmas.IsStateIn, AfterLemmas.after_there, CoreLemmas.core_event, CoreLemmas.core_wait}
use Rattle.port_run.specs.Core.{IsCoreEvent, IsCoreStep, IsStateOf, Shows, is_look, pass_in}
use Rattle.port_run.specs.Steps.{IsEvent, IsWait}

pub state_there : (key : PlainKey) (s : State (Unit {0}) PlainView) → Kept key s → (state : CoreState) × IsStateOf key s state
state_there key s kept =
    let sound : ArePassesSound key s = rule_sound key s kept in
    (_, record { sound = sound.sound; finished = λ r low. refl; word = refl; stands = λ id p v at port_is. sym (sound.places id p v at port_is).1 })

-- an event is a counted step, and so is what has to wait
event_counted : (until : ℕ) (old : PassView) (event : Event) (new : PassView) → IsEvent until old event new → new.steps ≡ old.steps + 1
event_counted until old (Ask reader) new made = ap (λ (pass : PassView). pass.steps) made.makes.asks.is
event_counted until old (Put slot) new made = ap (λ (pass : PassView). pass.steps) made.makes.is
event_counted until old (Take slot) new made = ap (λ (pass : PassView). pass.steps) made.makes.looks.is
event_counted until old Tell new made = ap (λ (pass : PassView). pass.steps) made.makes.is

wait_counted : (until : ℕ) (old new : PassView) → IsWait until old new → new.steps ≡ old.steps + 1
wait_counted until old new wait = elim wait.waits [
  | inl ask ↦ ap (λ (pass : PassView). pass.steps) ask.asks.is
  | inr take ↦ ap (λ (pass : PassView). pass.steps) take.looks.is
]

-- ---- by the image, stimulus and banks of a view

module _ (words : List ℕ) (views : List PlainView) (id p : ℕ) (old : PlainView) (table : TableId) (kept : IsKept plain old.image old.feed old.banks words views) (there : get_elem? views id ≡ some old) (port_is : old.port ≡ Some p)
    (state : CoreState) (is : IsStateIn old.image old.feed old.banks words views state) where
  mine : IsPassOf old.image words kept.place kept.owner id p old
  mine = kept.owned.mine id p old there port_is

  fits : IsFit (pass_in table p old)
  fits = record {
    runs = kept.runs;
    inside = mine.inside;
    wide = ap (λ (place : Place). length place.known) mine.place_is ∙ kept.timed.paced.wide p mine.inside;
  }

  -- what a word tells is what the state has there
  shown : (look : Look) → told_in old.image words look.word ≡ look.number → Shows (pass_in table p old) state look
  shown look told = record {
    progress = λ r low at. is.finished r low ∙ (sym (told_progress old.image words r low) ∙ subst (λ w. told_in old.image words w ≡ look.number) at told);
    sent = λ q i b link send low at. ap (λ f. f q i b) is.word
        ∙ (sym (told_sent old.image old.banks words q i b ∙ sent_read old.image old.banks words q i b link send low)
        ∙ subst (λ w. told_in old.image words w ≡ look.number) at told);
  }

  module _ (word number : ℕ) (new : PlainView) (after : IsKept plain old.image old.feed old.banks (set words word number) (set views id new)) where
    told : new.steps ≡ old.steps + 1 → told_in old.image (set words word number) new.last.word ≡ new.last.number
    told counted = counted_look old.image words (set words word number) views id old new kept.looks there counted after.looks

    -- a step that leaves the words found what the state has
    still_shown : new.steps ≡ old.steps + 1 → set words word number ≡ words → Shows (pass_in table p old) state new.last
    still_shown counted still = shown new.last (subst (λ ws. told_in old.image ws new.last.word ≡ new.last.number) still (told counted))

    event_in : (until : ℕ) (event : Event) → until ≤ turns_of old.image old.feed → IsEvent until (pass_in table p old) event (pass_in table p new) → (is_look event ≡ true → set words word number ≡ words)
        → (core : IsCoreEvent (turns_of old.image old.feed) (pass_in table p old) event (pass_in table p new) state) × IsStateIn old.image old.feed old.banks (set words word number) (set views id new) core.after
    event_in until event few made still =
        let counted : new.steps ≡ old.steps + 1 = event_counted until (pass_in table p old) event (pass_in table p new) made in
        let core : IsCoreEvent (turns_of old.image old.feed) (pass_in table p old) event (pass_in table p new) state =
        core_event until (turns_of old.image old.feed) (pass_in table p old) (pass_in table p new) event state few fits made (is.stands id p old there port_is) (λ looks. still_shown counted (still looks)) in
        (core, after_there words views id p old kept there port_is state is table word number new after until event made core still (told counted))

    wait_in : (until : ℕ) → until ≤ turns_of old.image old.feed → IsWait until (pass_in table p old) (pass_in table p new) → set words word number ≡ words → IsCoreStep (turns_of old.image old.feed) (pass_in table p old) state NotYet state
    wait_in until few wait still = core_wait until (turns_of old.image old.feed) (pass_in table p old) (pass_in table p new) state few fits wait (is.stands id p old there port_is) (still_shown (wait_counted until (pass_in table p old) (pass_in table p new) wait) still)

-- ---- by the key

module _ (key : PlainKey) (s : State (Unit {0}) PlainView) (id p : ℕ) (old : PlainView) (table : TableId) (kept : Kept key s) (there : get_elem? s.views id ≡ some old) (port_is : old.port ≡ Some p) where
  same : (old.image ≡ key.image.value) × (old.feed ≡ key.feed.value) × (old.banks ≡ key.banks)
  same = kept.owned.same id old there

  state_in : (state : CoreState) → IsStateOf key s state → IsStateIn old.image old.feed old.banks s.words s.views state
  state_in state is =
      subst (λ i. IsStateIn i old.feed old.banks s.words s.views state) (sym same.0)
      (subst (λ m. IsStateIn key.image.value m old.banks s.words s.views state) (sym same.1)
      (subst (λ b. IsStateIn key.image.value key.feed.value b s.words s.views state) (sym same.2)
      (record { sound = is.sound; finished = is.finished; word = is.word; stands = is.stands })))

  state_of : (now : State (Unit {0}) PlainView) (state : CoreState) → IsStateIn old.image old.feed old.banks now.words now.views state → IsStateOf key now state
  state_of now state is =
      let there : IsStateIn key.image.value key.feed.value key.banks now.words now.views state =
      subst (λ b. IsStateIn key.image.value key.feed.value b now.words now.views state) same.2
      (subst (λ m. IsStateIn key.image.value m old.banks now.words now.views state) same.1
      (subst (λ i. IsStateIn i old.feed old.banks now.words now.views state) same.0 is)) in
      record { sound = there.sound; finished = there.finished; word = there.word; stands = there.stands }

  kept_in : (words : List ℕ) (views : List PlainView) → IsKept plain key.image.value key.feed.value key.banks words views → IsKept plain old.image old.feed old.banks words views
  kept_in words views new =
      subst (λ i. IsKept plain i old.feed old.banks words views) (sym same.0)
      (subst (λ m. IsKept plain key.image.value m old.banks words views) (sym same.1)
      (subst (λ b. IsKept plain key.image.value key.feed.value b words views) (sym same.2) new))

  module _ (word number : ℕ) (held : List (ℕ × Unit {0})) (new : PlainView) (act : Act (Unit {0})) (state : CoreState) (after : Kept key (stepped s word number id held new act)) (is : IsStateOf key s state) where
    pub event_there : (until : ℕ) (event : Event) → until ≤ turns_of old.image old.feed → IsEvent until (pass_in table p old) event (pass_in table p new) → (is_look event ≡ true → set s.words word number ≡ s.words)
        → (core : IsCoreEvent (turns_of old.image old.feed) (pass_in table p old) event (pass_in table p new) state) × IsStateOf key (stepped s word number id held new act) core.after
    event_there until event few made still =
        let both = event_in s.words s.views id p old table (kept_in s.words s.views kept) there port_is state (state_in state is) word number new (kept_in (set s.words word number) (set s.views id new) after) until event few made still in
        (both.0, state_of (stepped s word number id held new act) both.0.after both.1)

    pub wait_there : (until : ℕ) → until ≤ turns_of old.image old.feed → IsWait until (pass_in table p old) (pass_in table p new) → set s.words word number ≡ s.words → IsCoreStep (turns_of old.image old.feed) (pass_in table p old) state NotYet state
    wait_there until few wait still = wait_in s.words s.views id p old table (kept_in s.words s.views kept) there port_is state (state_in state is) word number new (kept_in (set s.words word number) (set s.views id new) after) until few wait still
