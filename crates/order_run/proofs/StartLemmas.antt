-- A core before its first event.
use Rattle.std.proofs.Common.{List, Some, [], ap, ap₂, arith, inl, inr, length, length-append, map, max, min, refl, replicate, slice_get, slice_index_or, subst, sym, ℕ, ◌%◌, ◌*◌, ◌++◌, ◌+◌, ◌∙◌, ◌∷◌, ◌≡◌, ◌≤◌}
use Rattle.std.proofs.{Math.Path.fun_ext, lemmas.Bool.cases_lt, lemmas.List.get_or_past, lemmas.List.length-map, lemmas.List.length-replicate}
use Rattle.std.proofs.lemmas.Option.{slice_get_within, get_or_from_slice_get, slice_get_cases}
use Rattle.list_laws.proofs.{Places.at_front, Places.seam_at, Ranges.replicate_read}
use Rattle.net_defs.specs.{Time.cycle_count, Time.turn_count, Valid.IsValidStimulus, declared.stimulus.Stimulus.Stimulus}
use Rattle.image_defs.specs.{Steps.timing_of, WellFormed.IsWellFormed, declared.image.Image.Image}
use Rattle.event_defs.proofs.lemmas.{KeptLemmas.starts_sound, RowLemmas.words_zero, SlotLemmas.to_map}
use Rattle.event_defs.specs.{Places.start, Row.send_count, Row.word_in, Sound.IsSound, Steps.CoreState, Steps.first_state, declared.place.Place.Place}
use Rattle.port_walk.specs.Placed.{PlacedPort, at_start, block_end, place_of}
use Rattle.order_run.specs.{Core.IsSoundCore, Core.IsStart, Core.state_of, Kept.IsKept, Kept.IsCorePort, Kept.view_of}
use Rattle.order_run.specs.{code.Made.AreFirstCorePorts, code.Made.IsFirstCorePort, code.Made.whole_run, CorePorts.place_in}
use Rattle.order_run.specs.declared.{core_run.Core.TheInside.Inside, core_ports.CorePort.CorePort}

-- the core_port of a port before its first event stands at the start
pub core_port_starts : (image : Image) (stimulus : Stimulus) (banks p : ℕ) (core_port : CorePort) → IsFirstCorePort image stimulus banks p core_port → place_in core_port ≡ start (length image.ports)
core_port_starts image stimulus banks p core_port first = ap₂ (λ (w : PlacedPort) (known : List ℕ). place_of w known) first.port first.known

-- one block of all cycles has all turns
whole_end : (image : Image) (stimulus : Stimulus) → block_end image stimulus 0 (whole_run stimulus) ≡ turn_count (timing_of image) stimulus
whole_end image stimulus = ap (λ n. image.units * n) all where
  all : min (0 + max 1 (cycle_count stimulus)) (cycle_count stimulus) ≡ cycle_count stimulus
  all = omega arith

pub core_port_fits : (image : Image) (stimulus : Stimulus) (banks p : ℕ) (core_port : CorePort) → IsFirstCorePort image stimulus banks p core_port → IsCorePort image stimulus banks p core_port
core_port_fits image stimulus banks p core_port first = record {
  port = subst (λ (w : PlacedPort). w ≡ record w { image = image; stimulus = stimulus; port = p; first_row = 0; until = turn_count (timing_of image) stimulus }) (sym first.port)
      (ap {A = ℕ} {B = PlacedPort} (λ n. record (at_start image stimulus p (whole_run stimulus)) { until = n }) (whole_end image stimulus));
  bank = first.bank ∙ ap (λ (w : PlacedPort). w.turn % banks) (sym first.port);
  first = first.first;
  sources = first.sources;
}

-- what a core has before its first event
pub record Begins (a : Inside) : Type 0 where
  pub fits : IsWellFormed a.image.now
  pub valid : IsValidStimulus a.stim.now
  pub some : 1 ≤ a.banks
  pub until : a.until ≡ turn_count (timing_of a.image.now) a.stim.now
  pub core_ports : AreFirstCorePorts a.image.now a.stim.now a.banks (length a.image.now.ports) a.core_ports
  pub finished : a.finished ≡ replicate (length a.image.now.ports) 0
  pub words : a.words ≡ replicate (send_count a.image.now * a.banks) 0

module _ (a : Inside) (begins : Begins a) where
  starts_at : (q : ℕ) → slice_index_or (map place_in a.core_ports) q (start (length a.image.now.ports)) ≡ start (length a.image.now.ports)
  starts_at q = elim (slice_get_cases a.core_ports q).1 [
    | inl there ↦
        get_or_from_slice_get (map place_in a.core_ports) q (place_in there.0) (start (length a.image.now.ports)) (to_map place_in a.core_ports q there.0 there.2)
        ∙ core_port_starts a.image.now a.stim.now a.banks q there.0 (begins.core_ports.each q there.0 there.2)
    | inr past ↦ get_or_past (map place_in a.core_ports) q (start (length a.image.now.ports)) (let far = past.0 in let long = length-map a.core_ports place_in in omega arith)
  ]

  pub start_state : state_of (view_of a) ≡ first_state (length a.image.now.ports)
  start_state =
      let places : ◌≡◌ {A = ℕ → Place} (λ q. slice_index_or (map place_in a.core_ports) q (start (length a.image.now.ports))) (λ q. start (length a.image.now.ports)) = fun_ext (λ q. starts_at q) in
      let none_finished : ◌≡◌ {A = ℕ → ℕ} (λ q. slice_index_or a.finished q 0) (λ q. 0) = fun_ext (λ q. ap (λ xs. slice_index_or xs q 0) begins.finished ∙ replicate_read (length a.image.now.ports) q 0) in
      let none_written : ◌≡◌ {A = ℕ → ℕ → ℕ → ℕ} (word_in a.image.now a.banks a.words) (λ p i b. 0) = ap (word_in a.image.now a.banks) begins.words ∙ words_zero a.image.now a.banks (send_count a.image.now * a.banks) in
      ap {A = ℕ → Place} {B = CoreState} (λ f. record { place = f; finished = λ q. slice_index_or a.finished q 0; word = word_in a.image.now a.banks a.words }) places
      ∙ (ap {A = ℕ → ℕ} {B = CoreState} (λ f. record { place = λ q. start (length a.image.now.ports); finished = f; word = word_in a.image.now a.banks a.words }) none_finished
      ∙ ap {A = ℕ → ℕ → ℕ → ℕ} {B = CoreState} (λ w. record { place = λ q. start (length a.image.now.ports); finished = λ q. 0; word = w }) none_written)

  pub start_sound : IsSoundCore (view_of a)
  start_sound = subst (IsSound a.image.now a.stim.now a.banks (turn_count (timing_of a.image.now) a.stim.now)) (sym start_state) (starts_sound a.image.now a.stim.now a.banks (turn_count (timing_of a.image.now) a.stim.now) begins.fits begins.some)

  pub start_kept : IsKept a
  start_kept = record {
    image = begins.fits;
    stimulus = begins.valid;
    some = begins.some;
    until = begins.until;
    core_ports = begins.core_ports.long;
    finished = ap length begins.finished ∙ length-replicate (length a.image.now.ports) 0;
    words = ap length begins.words ∙ length-replicate (send_count a.image.now * a.banks) 0;
    each = λ p core_port at. core_port_fits a.image.now a.stim.now a.banks p core_port (begins.core_ports.each p core_port at);
    sound = start_sound;
  }

  pub is_start : IsStart a.image.now a.stim.now a.banks (view_of a)
  is_start = record { image_is = refl; stimulus_is = refl; banks_are = refl; state = start_state }

-- one more core_port
pub core_ports_more : (image : Image) (stimulus : Stimulus) (banks n : ℕ) (core_port : CorePort) (core_ports next : List CorePort) → AreFirstCorePorts image stimulus banks n core_ports → IsFirstCorePort image stimulus banks n core_port → next ≡ core_ports ++ core_port ∷ [] → AreFirstCorePorts image stimulus banks (n + 1) next
core_ports_more image stimulus banks n core_port core_ports next are first pushed = record {
  long = long;
  each = λ p other at.
      let size = long in
      let low = slice_get_within next p other at in
      let count = are.long in
      let here : slice_get (core_ports ++ core_port ∷ []) p ≡ Some other = ap (λ xs. slice_get xs p) (sym pushed) ∙ at in
      elim (cases_lt p n) [
        | inl before ↦ are.each p other (sym (at_front core_ports (core_port ∷ []) p (omega arith)) ∙ here)
        | inr last ↦
            let same : p ≡ n = omega arith in
            let place : p ≡ length core_ports = omega arith in
            let twice : Some core_port ≡ Some other = sym (seam_at core_ports core_port []) ∙ (ap (λ k. slice_get (core_ports ++ core_port ∷ []) k) (sym place) ∙ here) in
            let is : core_port ≡ other = cc in
            subst (λ k. IsFirstCorePort image stimulus banks k other) (sym same) (subst (IsFirstCorePort image stimulus banks n) is first)
      ];
} where
  long : length next ≡ n + 1
  long = ap length pushed ∙ (ap (λ k. k) (length-append core_ports (core_port ∷ [])) ∙ (let count = are.long in let one : length (core_port ∷ []) ≡ 1 = refl in omega arith))
