-- A running port and its next event.
use Rattle.std.proofs.Common.{List, None, Option, Some, MatchOption, ap, ap₂, arith, inl, inr, length, min, refl, subst, sym, ℕ, ◌+◌, ◌-◌, ◌*◌, ◌/◌, ◌<◌, ◌∙◌, ◌≡◌, ◌≢◌, ◌≤◌}
use Rattle.std.proofs.Math.Nat.{mul-div_cancel_left}
use Rattle.logic_four.specs.{Values.code_of, declared.V4.V4}
use Rattle.net_defs.specs.Time.{cycle_count}
use Rattle.image_defs.specs.{Places.host_of, declared.image.Image.Image}
use Rattle.event_defs.specs.Places.{after_ask, after_put, after_take, start}
use Rattle.event_defs.specs.declared.place.{Action.Action, Place.Place}
use Rattle.event_defs.specs.declared.place.Action.TheVariants as action
use Rattle.event_defs.specs.declared.place.Event.TheVariants as event
use Rattle.crew_run.specs.declared.stepper.Step.{Step, TheVariants.Done, TheVariants.Moved, TheVariants.NotYet}
use Rattle.port_host.specs.Rows.{HostView}
use Rattle.port_walk.specs.Placed.{CanTakeValue, HasPut, HasTaken, IsHostIn, IsNextOf, IsReceiving, IsSending, PlacedPort, at_start, block_end, in_next_block}
use Rattle.port_walk.proofs.BlockLemmas.{end_low}
use Rattle.list_laws.proofs.Members.{member_at}
use Rattle.slot_words.specs.plain.Passes.{HasLooked, IsFit, IsPut, IsTake, PassView, one_step}
use Rattle.slot_words.specs.{Layout.progress_word, plain.Words.turns_of, declared.crossbar.Taken.Taken}
use Rattle.slot_words.specs.declared.crossbar.Taken.TheVariants as taken
use Rattle.port_run.specs.Pairs.{AreBegun, IsHostOf, RunView, first_block, next_block, placed, with_pass}
use Rattle.port_run.specs.Steps.{Asks, IsEvent, IsStepOf, IsWait, Looks, word_now}
use Rattle.port_run.specs.{Kept.IsKept, Kept.view_of, declared.running.Running.TheInside.Inside, code.Steps.IsAnswer, code.Steps.IsUpcoming}
use Rattle.port_run.proofs.lemmas.{NextLemmas.asked_in, StepLemmas.step_next}

-- ---- what it keeps

-- the view of a port that is at the place of a pass
abbrev run_at : PassView → PlacedPort → RunView
run_at pass port = record { pass = pass; window = port.window; first_row = port.first_row; until = port.until }

-- before the first event
placed_first : (pass : PassView) (window : ℕ) (port : PlacedPort) → pass.place ≡ start (length pass.image.ports) → port ≡ at_start pass.image pass.feed pass.port window → port ≡ placed (run_at pass port)
placed_first pass window port place is =
    subst (λ p. p ≡ placed (run_at pass p)) (sym is)
    (ap {A = Place} {B = PlacedPort} (λ (x : Place). record (at_start pass.image pass.feed pass.port window) { turn = x.turn; puts = x.puts; takes = x.takes }) (sym place))

pub kept_first : (a : Inside) → AreBegun a.pass a.port → IsKept a
kept_first a begun = record {
  port = placed_first a.pass a.port.window a.port begun.place_is begun.port_is;
  until = ap (λ (p : PlacedPort). p.until) begun.port_is ∙ ap (λ n. block_end a.pass.image a.pass.feed n a.port.window) (sym (ap (λ (p : PlacedPort). p.first_row) begun.port_is));
}

pub block_first : (pass : PassView) (port : PlacedPort) → AreBegun pass port → run_at pass port ≡ first_block pass port.window
block_first pass port begun = ap (λ (p : PlacedPort). record { pass = pass; window = port.window; first_row = p.first_row; until = p.until }) begun.port_is

-- a step of the pass had this answer, and the port is at the place of the pass afterwards
pub record HasStepped (a : Inside) (answer : Step) (new : PassView) (port : PlacedPort) : Type 0 where
  pub step : IsStepOf a.port.until a.pass answer new
  pub is : port ≡ placed (with_pass (view_of a) new)

module _ {a : Inside} {answer : Step} {new : PassView} {port : PlacedPort} (stepped : HasStepped a answer new port) where
  -- it stays there
  pub kept_after : IsKept a → IsKept (record a { pass = new; port = port })
  kept_after kept =
      let next = step_next a.port.until a.pass new answer stepped.step in
      subst (λ p. IsKept (record a { pass = new; port = p })) (sym stepped.is) (record {
        port = refl;
        until = subst (λ i. a.port.until ≡ block_end i new.feed a.port.first_row a.port.window) (sym next.image)
            (subst (λ s. a.port.until ≡ block_end a.pass.image s a.port.first_row a.port.window) (sym next.stimulus) kept.until);
      })

  module _ (run : RunView) (same : view_of a ≡ run) where
    -- seen as a run
    pub step_seen : IsStepOf run.until run.pass answer new
    step_seen = subst (λ (x : RunView). IsStepOf x.until x.pass answer new) same stepped.step

    -- its block is the same
    pub block_stays : run_at new port ≡ with_pass run new
    block_stays = ap (run_at new) stepped.is ∙ ap (λ r. with_pass r new) same

-- the next block is one of its image and stimulus too
pub kept_on : (a : Inside) (port : PlacedPort) → IsKept a → port ≡ in_next_block a.port → IsKept (record a { port = port })
kept_on a port kept is = subst (λ p. IsKept (record a { port = p })) (sym (is ∙ ap in_next_block kept.port)) (record { port = refl; until = refl })

pub block_next : (a : Inside) (run : RunView) (port : PlacedPort) → IsKept a → view_of a ≡ run → port ≡ in_next_block a.port → run_at a.pass port ≡ next_block run
block_next a run port kept same is =
    ap (run_at a.pass) (is ∙ ap in_next_block kept.port) ∙ ap next_block same

-- the last turn of a block is one of the run
pub few_turns : (run : RunView) → run.until ≡ block_end run.pass.image run.pass.feed run.first_row run.window → run.until ≤ turns_of run.pass.image run.pass.feed
few_turns run until = omega (arith, until, end_low run.pass.image run.pass.feed run.first_row run.window)

-- what the port says comes next does
pub upcoming : (run : RunView) (port : PlacedPort) (known : List ℕ) (banks : ℕ) (next : Action) → port ≡ placed run → run.until ≡ block_end run.pass.image run.pass.feed run.first_row run.window
    → known ≡ run.pass.place.known → banks ≡ run.pass.banks → IsFit run.pass → IsNextOf port known banks next → IsUpcoming run.until run.pass next
upcoming run port known banks next port_is until known_is banks_are fit is =
    let pass : PassView = run.pass in
    let port_image = member_at pass.image.ports pass.port fit.inside in
    let here : IsNextOf (placed run) pass.place.known pass.banks next = subst (λ b. IsNextOf (placed run) pass.place.known b next) banks_are (subst (λ k. IsNextOf (placed run) k banks next) known_is (subst (λ p. IsNextOf p known banks next) port_is is)) in
    record { fit = fit; few = few_turns run until; port_image = port_image.0; is = port_image.1; next = here.each port_image.0 port_image.1 }

-- the next event, from its fields and seen as a run
module _ (a : Inside) (run : RunView) (same : view_of a ≡ run) where
  pub coming : IsKept a → (known : List ℕ) (banks : ℕ) (next : Action) → known ≡ a.pass.place.known → banks ≡ a.pass.banks → IsFit a.pass → IsNextOf a.port known banks next → IsUpcoming run.until run.pass next
  coming kept known banks next known_is banks_are fit is = subst (λ (x : RunView). IsUpcoming x.until x.pass next) same (upcoming (view_of a) a.port known banks next kept.port kept.until known_is banks_are fit is)

  pub inside : (action : Action) → IsUpcoming run.until run.pass action → IsUpcoming a.port.until a.pass action
  inside action = subst (λ (x : RunView). IsUpcoming x.until x.pass action) (sym same)

-- ---- Ask

module _ (until : ℕ) (old : PassView) (reader : ℕ) (next : IsUpcoming until old (action.Ask reader)) where
  pub reader_there : reader < length old.image.ports
  reader_there = asked_in old.image next.fit.runs.image_fits old.port next.port_image next.is old.place old.banks reader next.next.1

  pub asked_step : (new : PassView) (finished turn banks : ℕ) → new ≡ one_step old (after_ask old.place reader finished) (progress_word reader) finished → turn ≡ new.place.turn → banks ≡ new.banks
      → (answer : Step) → IsAnswer finished turn banks answer → IsStepOf until old answer new
  asked_step new finished turn banks is turn_is banks_are = answered where
    last : new.last.number ≡ finished
    last = ap (λ (x : PassView). x.last.number) is

    asks : Asks next.port_image old new reader
    asks = record { next = next.next.1; is = subst (λ n. new ≡ one_step old (after_ask old.place reader n) (progress_word reader) n) (sym last) is }

    same_turn : turn ≡ old.place.turn
    same_turn = turn_is ∙ ap (λ (x : PassView). x.place.turn) is

    same_banks : banks ≡ old.banks
    same_banks = banks_are ∙ ap (λ (x : PassView). x.banks) is

    answered : (answer : Step) → IsAnswer finished turn banks answer → IsStepOf until old answer new
    answered Moved enough = (event.Ask reader, record { port_image = next.port_image; is = next.is; early = next.next.0; makes = record { asks = asks; enough = let l = last in let t = same_turn in let b = same_banks in omega arith } })
    answered NotYet less = record { port_image = next.port_image; is = next.is; early = next.next.0; waits = inl (record { reader = reader; asks = asks; less = let l = last in let t = same_turn in let b = same_banks in omega arith }) }
    answered Done none = absurd none

-- ---- Put

module _ (run : RunView) (slot : ℕ) (v : V4) (next : IsUpcoming run.until run.pass (action.Put slot v)) (new : PassView) (put : IsPut run.pass slot v new) where
  sending : IsSending (placed run) next.next.1.i next.next.1.link
  sending = record { early = next.next.0; port_image = next.port_image; is = next.is; next = next.next.1.sends }

  pub put_is : new ≡ one_step run.pass (after_put run.pass.place slot) (word_now run.pass run.pass.port next.next.1.i) (4 * run.pass.place.turn + code_of v)
  put_is = put.each next.next.1.i next.next.1.link (record { port = next.port_image; is = next.is; link_is = next.next.1.sends.is }) next.next.1.slot_is

  pub put_event : IsEvent run.until run.pass (event.Put slot) new
  put_event = record {
    port_image = next.port_image;
    is = next.is;
    early = next.next.0;
    makes = record { next = next.next.1; is = put_is ∙ ap (λ x. one_step run.pass (after_put run.pass.place slot) (word_now run.pass run.pass.port next.next.1.i) (4 * run.pass.place.turn + code_of x)) next.next.2 };
  }

  pub put_placed : (port port' : PlacedPort) → port ≡ placed run → HasPut port port' → port' ≡ placed (with_pass run new)
  put_placed port port' port_is has =
      let here : HasPut (placed run) port' = subst (λ p. HasPut p port') port_is has in
      here.each next.next.1.i next.next.1.link sending ∙ (ap (λ s. placed (with_pass run (one_step run.pass (after_put run.pass.place s) (word_now run.pass run.pass.port next.next.1.i) (4 * run.pass.place.turn + code_of v)))) next.next.1.slot_is ∙ sym (ap (λ pass. placed (with_pass run pass)) put_is))

-- ---- Take

module _ (run : RunView) (slot : ℕ) (next : IsUpcoming run.until run.pass (action.Take slot)) (new : PassView) where
  receiving : IsReceiving (placed run) next.next.1.j next.next.1.link
  receiving = record { early = next.next.0; port_image = next.port_image; is = next.is; next = next.next.1.receives }

  looked : (t : Taken) → IsTake run.pass slot t new → HasLooked run.pass next.next.1.link t new
  looked t took = took.each next.port_image next.next.1.j next.next.1.link next.is next.next.1.receives.is next.next.1.slot_is

  looks : (t : Taken) (l : HasLooked run.pass next.next.1.link t new) (place : Place) → new ≡ one_step run.pass place (word_now run.pass next.next.1.link.sender l.i) new.last.number → Looks next.port_image run.pass new slot place
  looks t l place is = record { next = next.next.1; i = l.i; source = record { sent = l.sent; send = l.send; same_slot = l.same_slot }; is = is }

  module _ (t : Taken) (v : V4) (took : IsTake run.pass slot t new) (is : t ≡ taken.Value v) where
    pub found : HasLooked run.pass next.next.1.link (taken.Value v) new
    found = subst (λ t. HasLooked run.pass next.next.1.link t new) is (looked t took)

    pub took_is : new ≡ one_step run.pass (after_take run.pass.place next.next.1.link.slot) (word_now run.pass next.next.1.link.sender found.i) new.last.number
    took_is = found.found.2

    pub took_event : IsEvent run.until run.pass (event.Take slot) new
    took_event = record {
      port_image = next.port_image;
      is = next.is;
      early = next.next.0;
      makes = record {
        looks = looks (taken.Value v) found (after_take run.pass.place slot) (took_is ∙ ap (λ s. one_step run.pass (after_take run.pass.place s) (word_now run.pass next.next.1.link.sender found.i) new.last.number) next.next.1.slot_is);
        now = found.found.0;
      };
    }

    pub may_take : (port : PlacedPort) → port ≡ placed run → CanTakeValue port v
    may_take port port_is = subst (λ p. CanTakeValue p v) (sym port_is) (record { j = next.next.1.j; link = next.next.1.link; receiving = receiving; value = found.found.1 })

    pub took_placed : (port port' : PlacedPort) → port ≡ placed run → HasTaken port port' → port' ≡ placed (with_pass run new)
    took_placed port port' port_is has =
        let here : HasTaken (placed run) port' = subst (λ p. HasTaken p port') port_is has in
        here.each next.next.1.j next.next.1.link receiving ∙ sym (ap (λ pass. placed (with_pass run pass)) took_is)

  module _ (t : Taken) (took : IsTake run.pass slot t new) (is : t ≡ taken.NotYet) where
    pub missed : HasLooked run.pass next.next.1.link taken.NotYet new
    missed = subst (λ t. HasLooked run.pass next.next.1.link t new) is (looked t took)

    pub missed_wait : IsWait run.until run.pass new
    missed_wait = record {
      port_image = next.port_image;
      is = next.is;
      early = next.next.0;
      waits = inr (record { slot = slot; looks = looks taken.NotYet missed run.pass.place missed.found.1; less = missed.found.0 });
    }

    pub missed_placed : (port : PlacedPort) → port ≡ placed run → port ≡ placed (with_pass run new)
    missed_placed port port_is = port_is ∙ sym (ap (λ pass. placed (with_pass run pass)) missed.found.1)

-- ---- the host

pub host_of_run : {X : Type 0} (seen : X → HostView) (run : RunView) (port : PlacedPort) (host : Option X) → port ≡ placed run → run.until ≡ block_end run.pass.image run.pass.feed run.first_row run.window → IsFit run.pass
    → MatchOption host (port.port ≢ host_of port.image) (λ h. IsHostIn port (seen h)) → MatchOption host (run.pass.port ≢ host_of run.pass.image) (λ h. IsHostOf run (seen h))
host_of_run seen run port None port_is until fit is = subst (λ (p : PlacedPort). p.port ≢ host_of p.image) port_is is
host_of_run seen run port (Some host) port_is until fit is =
    let here : IsHostIn (placed run) (seen host) = subst (λ p. IsHostIn p (seen host)) port_is is in
    record {
      is_host = here.is_host;
      image = here.image;
      stimulus = here.stimulus;
      port = here.port;
      turn = here.turn;
      window = here.window;
      first_row = here.first_row;
      all_rows = λ done.
          ap₂ (λ (t : ℕ) (i : Image). (t - 1) / i.units) (here.turn ∙ (done ∙ ap (λ n. n + 1) until)) here.image
          ∙ rows run.pass.image.units (min (run.first_row + run.window) (cycle_count run.pass.feed)) fit.runs.image_fits.units.0;
    } where
      rows : (units cycles : ℕ) → 1 ≤ units → (units * cycles + 1 - 1) / units ≡ cycles
      rows units cycles some =
          let all : ℕ = units * cycles in
          let less : all + 1 - 1 ≡ units * cycles = omega arith in
          ap (λ n. n / units) less ∙ mul-div_cancel_left cycles some
