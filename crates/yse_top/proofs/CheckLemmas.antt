-- Each check answers once, and answers; and there is one trace.
use Rattle.std.proofs.Common.{◌≡◌, ◌∙◌, sym, ap, refl, subst, ◌⊎◌, inl, inr, ℕ, ◌<◌, ◌≤◌, List, Option, Some, None, Ok, Err, arith}
use Rattle.std.proofs.lemmas.Bool.{cases_lt}
use Rattle.text_lines.specs.Answers.{IsReader}
use Rattle.net_defs.specs.declared.{homes.HomeChoice.HomeChoice, netlist.Netlist.Netlist, timing.Timing.Timing, stimulus.Stimulus.Stimulus}
use Rattle.net_defs.specs.{Loops.IsCircle, Loops.IsOrder, Loops.OrderOrLoop, Reference.HasOneSimulation, Time.cycle_count, Trace.IsTrace, Trace.trace_to}
use Rattle.machine_text.specs.{declared.machine.Machine.Machine, Machines.default_machine, Machines.IsValid as IsValidMachine}
use Rattle.yse_compile.specs.{declared.compiler.CompNo.CompNo, Chosen.FitsBy, Compiled.IsRight, Compiled.IsOverfull}
use Rattle.refusals.specs.{declared.status.Status.Status, Lines.loop_line, Lines.overfull_line}
use Rattle.refusals.specs.declared.status.Status.TheVariants as status
use Rattle.call_steps.specs.Checks.{ReadsAs, HasNoLoop, HasRoom, IsWithin}
use Rattle.call_steps.specs.Outcome.{Outcome, refusal}
use Rattle.yse_top.specs.Law.{AreAlike}
use Rattle.yse_top.proofs.{OneLemmas.alike, ProperLemmas.IsCheck, ProperLemmas.IsOfText}

-- ---- readers of texts: each reads as one thing, or has a first fault

pub reads_check : {X E : Type 0} (Reads : List ℕ → X → Type 0) (fault : List ℕ → Option E) → IsReader Reads fault → (text : List ℕ) (s : Status) (line : E → List ℕ) → IsOfText s → IsCheck (ReadsAs (Reads text) (fault text) (λ why. refusal s (line why)))
reads_check {X} {E} Reads fault reader text s line of_text = record {
  values = reader.one text;
  either = λ x o reads refused. clash (reader.no_fault text x reads) refused.1;
  refusals = λ o p refused refused_too.
      alike o p (refused.2 ∙ ap (λ why. refusal s (line why)) (same refused.1 refused_too.1) ∙ sym refused_too.2);
  some = some (reader.some text);
  of_text = λ o refused. subst (λ (p : Outcome). IsOfText p.status) (sym refused.2) of_text;
}
  where
    clash : {why : E} → fault text ≡ None → fault text ≡ Some why → ⊥
    clash e f = cc

    same : {why other : E} → fault text ≡ Some why → fault text ≡ Some other → why ≡ other
    same e f = cc

    some : ((x : X) × Reads text x) ⊎ ((why : E) × (fault text ≡ Some why)) → ((x : X) × ReadsAs (Reads text) (fault text) (λ why. refusal s (line why)) (Ok x)) ⊎ ((o : Outcome) × ReadsAs (Reads text) (fault text) (λ why. refusal s (line why)) (Err o))
    some (inl (x, reads)) = inl (x, reads)
    some (inr (why, is)) = inr (refusal s (line why), (why, is, refl))

-- what a text reads as it reads as alone, and it has no fault
pub reads_once : {X E : Type 0} (Reads : List ℕ → X → Type 0) (fault : List ℕ → Option E) → IsReader Reads fault → (text : List ℕ) (x : X) → Reads text x → ((y : X) → Reads text y → y ≡ x) × ((why : E) → fault text ≡ Some why → ⊥)
reads_once {X} {E} Reads fault reader text x reads = ((λ y reads_too. reader.one text y x reads_too reads), λ why is. clash (reader.no_fault text x reads) is)
  where
    clash : {why : E} → fault text ≡ None → fault text ≡ Some why → ⊥
    clash e f = cc

-- ---- loops

-- two refusals for a loop
loops_alike : (o p : Outcome) (l k : List ℕ) → o ≡ refusal status.Loop l → p ≡ refusal status.Loop k → AreAlike o p
loops_alike o p l k e f = record {
  status = ap (λ (x : Outcome). x.status) e ∙ sym (ap (λ (x : Outcome). x.status) f);
  output = ap (λ (x : Outcome). x.output) e ∙ sym (ap (λ (x : Outcome). x.output) f);
  told = ap (λ (x : Outcome). x.told) e ∙ sym (ap (λ (x : Outcome). x.told) f);
  line = λ other_status. absurd (other_status (ap (λ (x : Outcome). x.status) e));
}

pub loop_check : (net : Netlist) (timing : Timing) → OrderOrLoop net timing → ((order circle : List ℕ) → IsOrder net timing order → IsCircle net timing circle → ⊥) → IsCheck (HasNoLoop net timing)
loop_check net timing order_or_loop never_both = record {
  values = λ x y passed passed_too. refl;
  either = λ x o passed refused. passed refused.0 refused.1.circle;
  refusals = λ o p refused refused_too. loops_alike o p _ _ refused.2 refused_too.2;
  some = some order_or_loop;
  of_text = λ o refused. subst (λ (p : Outcome). IsOfText p.status) (sym refused.2) tt;
}
  where
    some : OrderOrLoop net timing → ((x : Unit {0}) × HasNoLoop net timing (Ok x)) ⊎ ((o : Outcome) × HasNoLoop net timing (Err o))
    some (inl (order, is)) = inl (tt, λ circle is_circle. never_both order circle is is_circle)
    some (inr (loop, is)) = inr (refusal status.Loop (loop_line net loop), (loop, is, refl))

-- ---- whether a design fits

-- a design fits or doesn't, for one reason
pub record IsRoomLaw (choice : HomeChoice) (net : Netlist) (machine : Machine) (timing : Timing) : Type 0 where
  pub some : FitsBy choice net machine timing ⊎ ((why : CompNo) × IsRight net machine timing why × IsOverfull why × (FitsBy choice net machine timing → ⊥))
  pub one : (why other : CompNo) → IsOverfull why → IsOverfull other → IsRight net machine timing why → IsRight net machine timing other → why ≡ other

pub room_check : (choice : HomeChoice) (net : Netlist) (machine : Machine) (timing : Timing) → IsRoomLaw choice net machine timing → IsCheck (HasRoom choice net machine timing)
room_check choice net machine timing law = record {
  values = λ x y passed passed_too. refl;
  either = λ x o passed refused. refused.3 passed;
  refusals = λ o p refused refused_too.
      alike o p (refused.4 ∙ ap (λ why. refusal status.Overfull (overfull_line net why)) (law.one refused.0 refused_too.0 refused.1 refused_too.1 refused.2 refused_too.2) ∙ sym refused_too.4);
  some = some law.some;
  of_text = λ o refused. subst (λ (p : Outcome). IsOfText p.status) (sym refused.4) tt;
}
  where
    some : FitsBy choice net machine timing ⊎ ((why : CompNo) × IsRight net machine timing why × IsOverfull why × (FitsBy choice net machine timing → ⊥)) → ((x : Unit {0}) × HasRoom choice net machine timing (Ok x)) ⊎ ((o : Outcome) × HasRoom choice net machine timing (Err o))
    some (inl fits) = inl (tt, fits)
    some (inr (why, right, is, none)) = inr (refusal status.Overfull (overfull_line net why), (why, is, right, none, refl))

-- ---- sizes

pub size_check : (most size : ℕ) (line : ℕ → List ℕ) → IsCheck (IsWithin most size line)
size_check most size line = record {
  values = λ x y passed passed_too. refl;
  either = λ x o passed refused. omega (arith, passed, refused.0);
  refusals = λ o p refused refused_too. alike o p (refused.1 ∙ sym refused_too.1);
  some = some (cases_lt most size);
  of_text = λ o refused. subst (λ (p : Outcome). IsOfText p.status) (sym refused.1) tt;
}
  where
    some : (most < size) ⊎ (size ≤ most) → ((x : Unit {0}) × IsWithin most size line (Ok x)) ⊎ ((o : Outcome) × IsWithin most size line (Err o))
    some (inl many) = inr (refusal status.Limit (line size), (many, refl))
    some (inr few) = inl (tt, few)

-- ---- the default machine

pub default_is_valid : IsValidMachine default_machine
default_is_valid = record {
  logic_least = omega arith;
  logic_most = omega arith;
  array_most = omega arith;
  slots_least = omega arith;
  slots_most = omega arith;
  functions_least = omega arith;
  functions_most = omega arith;
  bits_least = omega arith;
  bits_most = omega arith;
  nodes_least = omega arith;
  nodes_most = omega arith;
  own = λ i d low. absurd (omega (arith, low));
  once = λ i j d low up. absurd (omega (arith, up));
  ports = omega arith;
}

-- ---- the trace

-- a trace of the one simulation is one
pub trace_only : (net : Netlist) (timing : Timing) (stimulus : Stimulus) → HasOneSimulation net timing stimulus → (s t : List ℕ) → IsTrace net timing stimulus s → IsTrace net timing stimulus t → s ≡ t
trace_only net timing stimulus simulation s t is is_too =
    let states : is.states ≡ is_too.states = simulation.only is.states is.simulation ∙ sym (simulation.only is_too.states is_too.simulation) in
    is.printed ∙ ap (λ states. trace_to net timing states (cycle_count stimulus)) states ∙ sym is_too.printed

pub trace_some : (net : Netlist) (timing : Timing) (stimulus : Stimulus) → HasOneSimulation net timing stimulus → (s : List ℕ) × IsTrace net timing stimulus s
trace_some net timing stimulus simulation =
    (trace_to net timing simulation.states (cycle_count stimulus), record { states = simulation.states; simulation = simulation.exists; printed = refl })
