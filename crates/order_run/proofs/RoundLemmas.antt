-- What one step and one round of a core do.
use Rattle.std.proofs.Common.{List, Some, [], ap, ap₂, arith, length, map-id, refl, slice_get, slice_index_or, subst, sym, zero-add, ℕ, ◌++◌, ◌+◌, ◌-◌, ◌/◌, ◌<◌, ◌↔◌, ◌∙◌, ◌∷◌, ◌≡◌, ◌≤◌}
use Rattle.std.proofs.lemmas.{List.FromFn.map-range_with_len_more, Option.get_or_from_slice_get, Option.slice_get-get_or, Option.slice_get_within}
use Rattle.std.specs.List.{range_with_len}
use Rattle.list_laws.proofs.Members.{member_at}
use Rattle.image_defs.specs.{Places.Each, Places.IsPort, Places.host_of, declared.image.Image.Image, declared.image.PortImage.PortImage}
use Rattle.event_defs.proofs.lemmas.JoinLemmas.{moved_join, moved_one, moves_few, steps_join, steps_one}
use Rattle.event_defs.proofs.lemmas.KeptLemmas.{put_spares, read_value, step_sound, steps_sound}
use Rattle.event_defs.proofs.lemmas.RunLemmas.{done_still, round_done, run_falls}
use Rattle.event_defs.specs.Steps.{AreSteps, CoreState, IsStep, Takes}
use Rattle.event_defs.specs.{Counts.events_left, Counts.moved_in, Counts.moves, Sound.IsSound, declared.place.CoreStep.CoreStep}
use Rattle.event_defs.specs.declared.place.CoreStep.TheVariants.{Moved}
use Rattle.event_defs.specs.declared.place.Event.TheVariants as event
use Rattle.port_walk.specs.Placed.{PlacedPort}
use Rattle.order_run.proofs.CoreLemmas.{here_turn, is_core_port, same_core_port, core_port_in, core_port_there}
use Rattle.order_run.specs.Core.{Applies, AreDone, CoreView, IsRoundOf, IsSoundCore, SparesReaders, TakesThisTurn, left_of, rows_of, state_of, turns_of}
use Rattle.order_run.specs.{code.Core.HasStepped, code.Core.IsReady, Kept.IsKept, Kept.IsCorePort, Kept.view_of}
use Rattle.order_run.specs.{code.CorePorts.IsHostCorePort, code.CorePorts.host_rows, declared.core_run.Core.TheInside.Inside}
use Rattle.order_run.specs.declared.core_ports.CorePort.{CorePort}

-- ---- one step

module _ (old new : CoreView) (p : ℕ) (answer : CoreStep) (ready : IsReady old) (inside : p < length old.image.ports) where
  port_there : (port : PortImage) × IsPort old.image p port
  port_there = member_at old.image.ports p inside

  sound_after : Applies old p answer new → IsSoundCore new
  sound_after applies =
      subst IsSoundCore (sym applies.same)
      (subst (IsSound old.image old.stimulus old.banks (turns_of old)) (ap state_of applies.same)
      (step_sound old.image old.stimulus old.banks (turns_of old) ready.image ready.some (state_of old) ready.sound p port_there.0 port_there.1 answer (state_of new) (applies.step port_there.0 port_there.1)))

  takes_right : Applies old p answer new → TakesThisTurn old p answer
  takes_right applies = record {
    each = λ port slot is taken.
        let step : IsStep old.image old.stimulus old.banks (turns_of old) p port (state_of old) (Moved (event.Take slot)) (state_of new) =
        subst (λ (x : CoreStep). IsStep old.image old.stimulus old.banks (turns_of old) p port (state_of old) x (state_of new)) taken (applies.step port is) in
        let take : Takes old.image old.banks p port (state_of old) slot (state_of new) = step.1 in
        record {
          x = take.x;
          reads = take.reads;
          value = read_value old.image old.stimulus old.banks (turns_of old) ready.image ready.some (state_of old) ready.sound p port is slot take.x take.reads take.moves;
        };
  }

  puts_right : SparesReaders old p answer
  puts_right = record {
    each = λ port slot r is put next reads. put_spares old.image old.stimulus old.banks (turns_of old) ready.image ready.some (state_of old) ready.sound p port is slot next r reads;
  }

  -- all of it
  pub all_right : Applies old p answer new → TakesThisTurn old p answer × SparesReaders old p answer × IsSoundCore new
  all_right applies = (takes_right applies, puts_right, sound_after applies)

-- ---- the steps of a round

pub none_stepped : (view : CoreView) → HasStepped view 0 0 view
unfolding AreSteps moved_in
none_stepped view = record { same = refl; answers = []; steps = (refl, refl); moved_are = refl; few = omega arith; still = λ none. refl }

pub one_stepped : (old now new : CoreView) (n moved more : ℕ) (answer : CoreStep) → n < length old.image.ports → HasStepped old n moved now → Applies now n answer new → more ≡ moves answer → HasStepped old (n + 1) (moved + more) new
one_stepped old now new n moved more answer inside has applies is =
    let port = member_at old.image.ports n inside in
    let same_now : CoreView = record old { places = now.places; finished = now.finished; words = now.words } in
    let applies_old : Applies same_now n answer new = subst (λ (v : CoreView). Applies v n answer new) has.same applies in
    let step : IsStep old.image old.stimulus old.banks (turns_of old) n port.0 (state_of same_now) answer (state_of new) = applies_old.step port.0 port.1 in
    let before : AreSteps old.image old.stimulus old.banks (turns_of old) (range_with_len 0 n) (state_of old) has.answers (state_of same_now) =
    subst (λ (v : CoreView). AreSteps old.image old.stimulus old.banks (turns_of old) (range_with_len 0 n) (state_of old) has.answers (state_of v)) has.same has.steps in
    let few = moves_few answer in
    let were = has.few in
    record {
      same = applies_old.same;
      answers = has.answers ++ answer ∷ [];
      steps = subst (λ order. AreSteps old.image old.stimulus old.banks (turns_of old) order (state_of old) (has.answers ++ answer ∷ []) (state_of new)) (sym (range_more n))
          (steps_join old.image old.stimulus old.banks (turns_of old) (range_with_len 0 n) (n ∷ []) (state_of old) (state_of same_now) (state_of new) has.answers (answer ∷ [])
          before (steps_one old.image old.stimulus old.banks (turns_of old) n port.0 (state_of same_now) (state_of new) answer port.1 step));
      moved_are = moved_join has.answers (answer ∷ []) ∙ ap₂ (λ x y. x + y) has.moved_are (moved_one answer ∙ sym is);
      few = omega arith;
      still = λ none. applies.still (omega arith) ∙ has.still (omega arith);
    } where
      range_more : (n : ℕ) → range_with_len 0 (n + 1) ≡ range_with_len 0 n ++ n ∷ []
      range_more n = sym (map-id (range_with_len 0 (n + 1))) ∙ (map-range_with_len_more (λ x. x) 0 n n (zero-add n) ∙ ap (λ xs. xs ++ n ∷ []) (map-id (range_with_len 0 n)))

-- ---- a whole round

module _ (old new : CoreView) (moved : ℕ) (ready : IsReady old) (has : HasStepped old (length old.image.ports) moved new) where
  pub round_made : IsRoundOf old moved new
  round_made = record { same = has.same; answers = has.answers; round = has.steps; moved_are = has.moved_are; still = has.still }

  pub round_sound : IsSoundCore new
  round_sound =
      subst IsSoundCore (sym has.same)
      (subst (IsSound old.image old.stimulus old.banks (turns_of old)) (ap state_of has.same)
      (steps_sound old.image old.stimulus old.banks (turns_of old) ready.image ready.some (range_with_len 0 (length old.image.ports)) (state_of old) has.answers (state_of new) ready.sound has.steps))

  pub round_none : moved ≡ 0 → AreDone old
  round_none none = round_done old.image old.stimulus old.banks (turns_of old) ready.image ready.some (state_of old) has.answers (state_of new) ready.sound has.steps (has.moved_are ∙ none)

  pub round_over : AreDone old → moved ≡ 0
  round_over done = sym has.moved_are ∙ (done_still old.image old.stimulus old.banks (turns_of old) ready.image ready.some (range_with_len 0 (length old.image.ports)) (state_of old) has.answers (state_of new) done has.steps).0

  pub round_left : moved + left_of new ≤ left_of old
  round_left =
      let falls = run_falls old.image old.stimulus old.banks (turns_of old) ready.image ready.some (range_with_len 0 (length old.image.ports)) (state_of old) has.answers (state_of new) ready.sound has.steps in
      let count = has.moved_are in
      let now : left_of new ≡ events_left old.image old.banks (turns_of old) (state_of new).place = ap left_of has.same ∙ ap (λ (s : CoreState). events_left old.image old.banks (turns_of old) s.place) (sym (ap state_of has.same)) in
      omega arith

pub ready_of : (a : Inside) → IsKept a → IsReady (view_of a)
ready_of a kept = record { image = kept.image; some = kept.some; sound = kept.sound }

-- ---- all ports

-- all ports are done exactly where each has told to have finished the last turn
pub done_tells : (a : Inside) (kept : IsKept a) → Each (λ n. a.until ≤ n) a.finished ↔ AreDone (view_of a)
done_tells a kept = (to, from) where
  to : Each (λ n. a.until ≤ n) a.finished → AreDone (view_of a)
  to all = record {
    each = λ p port is.
        let inside = slice_get_within a.image.now.ports p port is in
        let long = kept.finished in
        let told = all p (slice_index_or a.finished p 0) (slice_get-get_or a.finished p 0 (omega arith)) in
        let has = kept.sound.finished p inside in
        let ends = (kept.sound.paced.places p port is).ends in
        let until = kept.until in
        omega arith;
  }

  from : AreDone (view_of a) → Each (λ n. a.until ≤ n) a.finished
  from done p n at =
      let low = slice_get_within a.finished p n at in
      let long = kept.finished in
      let port = member_at a.image.now.ports p (omega arith) in
      let last = done.each p port.0 port.1 in
      let has = kept.sound.finished p (omega arith) in
      let read = get_or_from_slice_get a.finished p n 0 at in
      let until = kept.until in
      omega arith

-- ---- the host

module _ (a : Inside) (kept : IsKept a) (n : ℕ) (count : n ≡ length a.image.now.ports) where
  last_inside : n - 1 < length a.image.now.ports
  last_inside = let some = kept.image.some_ports in omega arith

  host_is : n - 1 ≡ host_of a.image.now
  host_is = ap (λ k. k - 1) count

  pub host_there : (core_ports : List CorePort) → core_ports ≡ a.core_ports → (core_port : CorePort) × (slice_get core_ports (n - 1) ≡ Some core_port)
  host_there core_ports same = ((core_port_there a kept (n - 1) last_inside).0, core_port_in a kept (n - 1) last_inside core_ports same)

  module _ (core_ports : List CorePort) (same : core_ports ≡ a.core_ports) (core_port : CorePort) (at : slice_get core_ports (n - 1) ≡ Some core_port) where
    is_core_port_here : IsCorePort a.image.now a.stim.now a.banks (n - 1) core_port
    is_core_port_here = subst (λ (s : CorePort). IsCorePort a.image.now a.stim.now a.banks (n - 1) s) (same_core_port a kept (n - 1) last_inside core_port core_ports same at) (is_core_port a kept (n - 1) last_inside)

    pub image_here : core_port.port.image ≡ a.image.now
    image_here = ap (λ (w : PlacedPort). w.image) is_core_port_here.port

    pub stimulus_here : core_port.port.stimulus ≡ a.stim.now
    stimulus_here = ap (λ (w : PlacedPort). w.stimulus) is_core_port_here.port

    pub first_here : core_port.port.first_row ≡ 0
    first_here = ap (λ (w : PlacedPort). w.first_row) is_core_port_here.port

    pub is_host : IsHostCorePort core_port
    is_host = ap (λ (w : PlacedPort). w.port) is_core_port_here.port ∙ (host_is ∙ ap host_of (sym image_here))

    pub rows_here : host_rows core_port ≡ rows_of (view_of a)
    rows_here =
        let turn : ((state_of (view_of a)).place (n - 1)).turn ≡ core_port.port.turn = here_turn a kept (n - 1) last_inside ∙ ap (λ (s : CorePort). s.port.turn) (same_core_port a kept (n - 1) last_inside core_port core_ports same at) in
        let has = kept.sound.finished (n - 1) last_inside in
        let before : core_port.port.turn - 1 ≡ (state_of (view_of a)).finished (n - 1) = omega arith in
        ap₂ (λ t (i : Image). t / i.units) before image_here ∙ ap (λ p. (state_of (view_of a)).finished p / a.image.now.units) host_is
