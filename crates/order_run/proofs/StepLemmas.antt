-- Steps of a core, one after another, and the rows that are done after them.
use Rattle.std.proofs.Common.{◌≡◌, ◌∙◌, sym, ap, subst, refl, ℕ, zero, suc, ◌+◌, ◌-◌, ◌*◌, ◌/◌, ◌<◌, ◌≤◌, List, [], ◌∷◌, ◌++◌, length, replicate, take, drop, get_or, Some, slice_get, arith}
use Rattle.std.proofs.{Math.Nat.mul-div_cancel_left, Math.Nat.div-le_of_le-mul, lemmas.Grind.flat_map-append}
use Rattle.std.proofs.lemmas.List.{take-append-drop, replicate-append-replicate, replicate_more, Elements.All-head, Elements.All-tail, Elements.All-replicate}
use Rattle.std.proofs.lemmas.Option.{slice_get-get_or}
use Rattle.std.specs.List.{flat_map, All}
use Rattle.list_laws.proofs.{Maps.flat_map_grown, Members.all_back, Members.all_flat_of}
use Rattle.stim_text.specs.declared.order.OrderLine.{OrderLine}
use Rattle.net_defs.specs.{declared.stimulus.Stimulus.Stimulus, Time.cycle_count, declared.trace.CellRow.CellRow}
use Rattle.image_defs.specs.{declared.image.Image.Image, declared.image.PortImage.PortImage, Places.IsPort, Places.host_of, WellFormed.IsWellFormed}
use Rattle.node_defs.proofs.lemmas.MemberLemmas.{member_at}
use Rattle.event_defs.specs.Steps.{CoreState, AreSteps, AreFirstSteps, IsStep, AllDone, first_state, rows_done}
use Rattle.event_defs.specs.declared.place.CoreStep.{CoreStep, TheVariants.Moved, TheVariants.NotYet, TheVariants.Done}
use Rattle.event_defs.specs.Sound.{IsSound}
use Rattle.order_run.specs.Core.{CoreView, IsStart, IsSameCore, IsSoundCore, Applies, AreDone, state_of, turns_of, rows_of}
use Rattle.order_run.specs.code.Stepped.{HasStepped}
use Rattle.machine_run.specs.Shown.{AreShown}

-- ---- steps of states

module _ (image : Image) (stimulus : Stimulus) (banks until : ℕ) where
  abbrev Steps : List ℕ → CoreState → List CoreStep → CoreState → Type 0
  Steps order old answers new = AreSteps image stimulus banks until order old answers new

  -- some steps, and then others
  then : (order more : List ℕ) (old middle new : CoreState) (answers rest : List CoreStep) → Steps order old answers middle → Steps more middle rest new → Steps (order ++ more) old (answers ++ rest) new
  unfolding AreSteps
  then [] more old middle new answers rest (none, still) steps =
      subst (λ (a : List CoreStep). Steps more old (a ++ rest) new) (sym none) (subst (λ (s : CoreState). Steps more s rest new) still steps)
  then (p ∷ order) more old middle new answers rest (port, answer, others, next, is, made, step, steps) follows =
      (port, answer, others ++ rest, next, is, ap (λ (a : List CoreStep). a ++ rest) made, step, then order more next middle new others rest steps follows)

  -- a port that does not move does not move again
  again : (n p : ℕ) (port : PortImage) (answer : CoreStep) (state : CoreState) → IsPort image p port → IsStep image stimulus banks until p port state answer state → Steps (replicate n p) state (replicate n answer) state
  unfolding AreSteps
  again zero p port answer state is step = (refl, refl)
  again (suc n) p port answer state is step = (port, answer, replicate n answer, state, is, refl, step, again n p port answer state is step)

  -- once all ports are done no step changes anything
  rests : (order : List ℕ) (state : CoreState) → AllDone image until state → All (λ p. p < length image.ports) order → Steps order state (replicate (length order) Done) state
  unfolding AreSteps
  rests [] state all there = (refl, refl)
  rests (p ∷ order) state all there =
      let port = member_at image.ports p (All-head (λ p. p < length image.ports) p order there) in
      (port.0, Done, replicate (length order) Done, state, port.1, refl, (all.each p port.0 port.1, refl), rests order state all (All-tail (λ p. p < length image.ports) p order there))

-- ---- steps of cores

pub same_then : (a b c : CoreView) → IsSameCore a b → IsSameCore b c → IsSameCore a c
same_then a b c one other = other ∙ ap (λ (v : CoreView). record v { places = c.places; finished = c.finished; words = c.words }) one

pub stepped_none : (view : CoreView) → HasStepped view view []
unfolding AreSteps
stepped_none view = record { same = refl; answers = []; steps = (refl, refl) }

pub stepped_then : (a b c : CoreView) (order more : List ℕ) → HasStepped a b order → HasStepped b c more → HasStepped a c (order ++ more)
stepped_then a b c order more first next = record {
  same = same_then a b c first.same next.same;
  answers = first.answers ++ next.answers;
  steps = then a.image a.stimulus a.banks (turns_of a) order more (state_of a) (state_of b) (state_of c) first.answers next.answers first.steps
      (subst (λ (v : CoreView). AreSteps v.image v.stimulus v.banks (turns_of v) more (state_of b) next.answers (state_of c)) first.same next.steps);
}

pub stepped_one : (old new : CoreView) (p : ℕ) (answer : CoreStep) → p < length old.image.ports → Applies old p answer new → HasStepped old new (p ∷ [])
unfolding AreSteps
stepped_one old new p answer there applies =
    let port = member_at old.image.ports p there in
    record {
      same = applies.same;
      answers = answer ∷ [];
      steps = (port.0, answer, [], state_of new, port.1, refl, applies.step port.0 port.1, (refl, refl));
    }

-- one step more of the same port
pub stepped_more : (a b c : CoreView) (n p : ℕ) (answer : CoreStep) → p < length b.image.ports → HasStepped a b (replicate n p) → Applies b p answer c → HasStepped a c (replicate (n + 1) p)
stepped_more a b c n p answer there first applies =
    subst (HasStepped a c) (replicate_more n p) (stepped_then a b c (replicate n p) (p ∷ []) first (stepped_one b c p answer there applies))

-- the step changed nothing
abbrev pub IsIdle : CoreStep → Type 0
IsIdle (Moved event) = ⊥
IsIdle NotYet = Unit {0}
IsIdle Done = Unit {0}

idle_state : (image : Image) (stimulus : Stimulus) (banks until p : ℕ) (port : PortImage) (old : CoreState) (answer : CoreStep) (new : CoreState) → IsIdle answer → IsStep image stimulus banks until p port old answer new → new ≡ old
idle_state image stimulus banks until p port old (Moved event) new idle step = absurd idle
idle_state image stimulus banks until p port old NotYet new idle step = step.2
idle_state image stimulus banks until p port old Done new idle step = step.1

-- where a step changed nothing, so does each later one of the same port
pub stepped_idle : (a b c : CoreView) (n times p : ℕ) (answer : CoreStep) → p < length b.image.ports → n ≤ times → IsIdle answer → HasStepped a b (replicate n p) → Applies b p answer c → HasStepped a c (replicate times p)
stepped_idle a b c n times p answer there most idle first applies =
    subst (HasStepped a c) (replicate-append-replicate n (times - n) p ∙ ap (λ m. replicate m p) (whole n times most))
    (stepped_then a b c (replicate n p) (replicate (times - n) p) first rest)
  where
    whole : (n m : ℕ) → n ≤ m → n + (m - n) ≡ m
    whole n m low = omega (arith, low)

    port : (port : PortImage) × (slice_get b.image.ports p ≡ Some port)
    port = member_at b.image.ports p there

    still : state_of c ≡ state_of b
    still = idle_state b.image b.stimulus b.banks (turns_of b) p port.0 (state_of b) answer (state_of c) idle (applies.step port.0 port.1)

    rest : HasStepped b c (replicate (times - n) p)
    rest = record {
      same = applies.same;
      answers = replicate (times - n) answer;
      steps = subst (λ s. AreSteps b.image b.stimulus b.banks (turns_of b) (replicate (times - n) p) (state_of b) (replicate (times - n) answer) s) (sym still)
          (again b.image b.stimulus b.banks (turns_of b) (times - n) p port.0 answer (state_of b) port.1
          (subst (λ s. IsStep b.image b.stimulus b.banks (turns_of b) p port.0 (state_of b) answer s) still (applies.step port.0 port.1)));
    }

-- ---- lines

abbrev pub line_steps : OrderLine → List ℕ
line_steps line = replicate line.times line.port

-- each step is one of a port, where each line is
lines_there : (ports : ℕ) (lines : List OrderLine) → ((l : ℕ) (line : OrderLine) → slice_get lines l ≡ Some line → line.port < ports) → All (λ p. p < ports) (flat_map line_steps lines)
lines_there ports lines there =
    all_flat_of (λ p. p < ports) line_steps lines
    (λ l line low. All-replicate (λ p. p < ports) _ _ (there l _ (slice_get-get_or lines l line low)))

pub stepped_line : (a b c : CoreView) (lines : List OrderLine) (l : ℕ) (line : OrderLine) → line ≡ get_or lines l line → l < length lines → HasStepped a b (flat_map line_steps (take l lines)) → HasStepped b c (line_steps line) → HasStepped a c (flat_map line_steps (take (l + 1) lines))
stepped_line a b c lines l line is low first next =
    subst (HasStepped a c) (sym (flat_map_grown line_steps lines l line is low)) (stepped_then a b c (flat_map line_steps (take l lines)) (line_steps line) first next)

-- once all ports are done the lines that are left change nothing
pub stepped_rest : (a b : CoreView) (lines : List OrderLine) (l : ℕ) → ((k : ℕ) (line : OrderLine) → slice_get lines k ≡ Some line → line.port < length a.image.ports) → HasStepped a b (flat_map line_steps (take l lines)) → AreDone b → HasStepped a b (flat_map line_steps lines)
stepped_rest a b lines l there first done =
    subst (HasStepped a b) whole (stepped_then a b b (flat_map line_steps (take l lines)) (flat_map line_steps (drop l lines)) first rest)
  where
    whole : flat_map line_steps (take l lines) ++ flat_map line_steps (drop l lines) ≡ flat_map line_steps lines
    whole = sym (flat_map-append line_steps (take l lines) (drop l lines)) ∙ ap (flat_map line_steps) (take-append-drop l lines)

    left_there : All (λ p. p < length b.image.ports) (flat_map line_steps (drop l lines))
    left_there =
        subst (λ (v : CoreView). All (λ p. p < length v.image.ports) (flat_map line_steps (drop l lines))) (sym first.same)
        (all_back (λ p. p < length a.image.ports) (flat_map line_steps (take l lines)) (flat_map line_steps (drop l lines))
        (subst (All (λ p. p < length a.image.ports)) (sym whole) (lines_there (length a.image.ports) lines there)))

    rest : HasStepped b b (flat_map line_steps (drop l lines))
    rest = record {
      same = refl;
      answers = replicate (length (flat_map line_steps (drop l lines))) Done;
      steps = rests b.image b.stimulus b.banks (turns_of b) (flat_map line_steps (drop l lines)) (state_of b) done left_there;
    }

-- ---- what a core that has stepped is of

-- a port of the core is one after its steps
pub stepped_there : (a b : CoreView) (order : List ℕ) (p : ℕ) → HasStepped a b order → p < length a.image.ports → p < length b.image.ports
stepped_there a b order p stepped there = subst (λ (v : CoreView). p < length v.image.ports) (sym stepped.same) there

module _ (image : Image) (stimulus : Stimulus) (banks : ℕ) (first last : CoreView) (start : IsStart image stimulus banks first) (same : IsSameCore first last) where
  pub same_image : last.image ≡ image
  same_image = ap (λ (v : CoreView). v.image) same ∙ start.image_is

  pub same_stimulus : last.stimulus ≡ stimulus
  same_stimulus = ap (λ (v : CoreView). v.stimulus) same ∙ start.stimulus_is

  same_banks : last.banks ≡ banks
  same_banks = ap (λ (v : CoreView). v.banks) same ∙ start.banks_are

  -- its turns are those of the image and the stimulus
  pub same_turns : turns_of last ≡ image.units * cycle_count stimulus
  same_turns = ap (λ (i : Image). i.units * cycle_count last.stimulus) same_image ∙ ap (λ s. image.units * cycle_count s) same_stimulus

  pub same_sound : IsSoundCore last → IsSound image stimulus banks (image.units * cycle_count stimulus) (state_of last)
  same_sound sound =
      subst (λ i. IsSound i stimulus banks (image.units * cycle_count stimulus) (state_of last)) same_image
      (subst (λ s. IsSound last.image s banks (image.units * cycle_count stimulus) (state_of last)) same_stimulus
      (subst (λ b. IsSound last.image last.stimulus b (image.units * cycle_count stimulus) (state_of last)) same_banks
      (subst (λ t. IsSound last.image last.stimulus last.banks t (state_of last)) same_turns sound)))

  pub same_done : AreDone last → AllDone image (image.units * cycle_count stimulus) (state_of last)
  same_done done =
      subst (λ i. AllDone i (image.units * cycle_count stimulus) (state_of last)) same_image
      (subst (λ t. AllDone last.image t (state_of last)) same_turns done)

  pub done_same : AllDone image (image.units * cycle_count stimulus) (state_of last) → AreDone last
  done_same done =
      subst (λ t. AllDone last.image t (state_of last)) (sym same_turns)
      (subst (λ i. AllDone i (image.units * cycle_count stimulus) (state_of last)) (sym same_image) done)

  pub same_shown : (rows : List CellRow) → AreShown last.image last.stimulus (rows_of last) rows → AreShown image stimulus (rows_done image (state_of last)) rows
  same_shown rows are =
      subst (λ i. AreShown i stimulus (rows_done i (state_of last)) rows) same_image
      (subst (λ s. AreShown last.image s (rows_done last.image (state_of last)) rows) same_stimulus are)

-- the steps of a core from its start are the first steps of its image
pub first_steps : (image : Image) (stimulus : Stimulus) (banks : ℕ) (first last : CoreView) (order : List ℕ) → IsStart image stimulus banks first → (stepped : HasStepped first last order) → AreFirstSteps image stimulus banks (image.units * cycle_count stimulus) order stepped.answers (state_of last)
first_steps image stimulus banks first last order start stepped =
    subst (λ i. AreSteps i stimulus banks (image.units * cycle_count stimulus) order (first_state (length image.ports)) stepped.answers (state_of last)) start.image_is
    (subst (λ s. AreSteps first.image s banks (image.units * cycle_count stimulus) order (first_state (length image.ports)) stepped.answers (state_of last)) start.stimulus_is
    (subst (λ b. AreSteps first.image first.stimulus b (image.units * cycle_count stimulus) order (first_state (length image.ports)) stepped.answers (state_of last)) start.banks_are
    (subst (λ t. AreSteps first.image first.stimulus first.banks t order (first_state (length image.ports)) stepped.answers (state_of last)) (same_turns image stimulus banks first first start refl)
    (subst (λ s. AreSteps first.image first.stimulus first.banks (turns_of first) order s stepped.answers (state_of last)) start.state stepped.steps))))

-- ---- rows

module _ (image : Image) (stimulus : Stimulus) (banks : ℕ) (state : CoreState) (fits : IsWellFormed image) (sound : IsSound image stimulus banks (image.units * cycle_count stimulus) state) where
  host : (port : PortImage) × (slice_get image.ports (host_of image) ≡ Some port)
  host = member_at image.ports (host_of image) (omega (arith, fits.some_ports))

  -- what the host has finished
  told_turn : state.finished (host_of image) + 1 ≡ (state.place (host_of image)).turn
  told_turn = sound.finished (host_of image) (omega (arith, fits.some_ports))

  -- no more rows are done than there are cycles
  pub few_rows : rows_done image state ≤ cycle_count stimulus
  few_rows =
      let ends = (sound.paced.places (host_of image) host.0 host.1).ends in
      div-le_of_le-mul image.units (least (state.finished (host_of image)) (state.place (host_of image)).turn (image.units * cycle_count stimulus) told_turn ends)
    where
      least : (told turn until : ℕ) → told + 1 ≡ turn → turn ≤ until + 1 → told ≤ until
      least told turn until is low = omega (arith, is, low)

  -- once all ports are done all rows are
  pub all_rows : AllDone image (image.units * cycle_count stimulus) state → rows_done image state ≡ cycle_count stimulus
  all_rows done =
      let turn = done.each (host_of image) host.0 host.1 in
      let all : state.finished (host_of image) ≡ image.units * cycle_count stimulus = last (state.finished (host_of image)) (state.place (host_of image)).turn (image.units * cycle_count stimulus) told_turn turn in
      ap (λ n. n / image.units) all ∙ mul-div_cancel_left (cycle_count stimulus) (omega (arith, fits.units.0))
    where
      last : (told turn until : ℕ) → told + 1 ≡ turn → turn ≡ until + 1 → told ≡ until
      last told turn until is at = omega (arith, is, at)
