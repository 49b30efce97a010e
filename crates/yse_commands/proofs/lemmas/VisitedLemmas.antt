-- What the gates were told by the end of a call.
use Rattle.std.proofs.Common.{◌≡◌, sym, refl, subst, inl, ℕ, List, Option, Some, None, Result, Ok, Err}
use Rattle.std.specs.Prelude.{OnErr}
use Rattle.crew_run.specs.declared.gate.Gate as gate
use Rattle.edge_io.specs.declared.writing.WriteNo.{WriteNo, TheVariants.Failed}
use Rattle.call_steps.specs.{Outcome.Turns, Refused.refused_of}
use Rattle.refusals.specs.declared.{refusal.Refusal.Refusal, status.Status.Status}
use Rattle.refusals.specs.declared.refusal.Refusal.TheVariants as refusal
use Rattle.refusals.specs.declared.status.Status.TheVariants as status
use Rattle.yse_commands.specs.{declared.output.Output.Output, Ends.IsWhole, Ends.MayWrite, Refusals.ended_with, Told.IsCut, Told.TellsTurns, Told.wrote_at}
use Rattle.yse_commands.specs.declared.output.Output.TheVariants as output

-- ---- outcomes at which something may be written

-- a refusal writes nothing
pub refused_writes : (why : Refusal) → MayWrite (refused_of why).status → ⊥
refused_writes refusal.Words may = may
refused_writes (refusal.ReadFault file) may = may
refused_writes (refusal.TooLong file) may = may
refused_writes (refusal.Machine why) may = may
refused_writes (refusal.Netlist why) may = may
refused_writes (refusal.Loop net loop) may = may
refused_writes (refusal.Overfull net why) may = may
refused_writes (refusal.Stimulus why) may = may
refused_writes (refusal.Cells cells) may = may
refused_writes (refusal.OrderText why) may = may
refused_writes (refusal.LastList why) may = may
refused_writes (refusal.FaultList why) may = may
refused_writes (refusal.ImageText why) may = may
refused_writes (refusal.ImageMatch why) may = may
refused_writes (refusal.Lanes why) may = may
refused_writes (refusal.MemoryBits bits) may = may
refused_writes (refusal.Signals signals) may = may
refused_writes refusal.Memory may = may

-- an output is whole where all of it is written
pub output_whole : (output : Output) → IsWhole (ended_with output).status
output_whole (output.Text text) = tt
output_whole (output.Trace trace) = tt
output_whole (output.Unfinished trace ending) = tt
output_whole (output.Written run) = tt
output_whole (output.Lanes run) = tt
output_whole (output.Lines lines) = tt

-- where the whole output was written, something was
pub whole_writes : (s : Status) → IsWhole s → MayWrite s
whole_writes status.Done whole = tt
whole_writes status.Unfinished whole = tt
whole_writes _ whole = absurd whole

-- a status that is no fault of writing
no_fault : (s : Status) → (s ≡ status.WriteFault → ⊥) → wrote_at s ≡ Ok tt
no_fault status.WriteFault other = absurd (other refl)
no_fault _ other = refl

pub refused_wrote : (why : Refusal) → wrote_at (refused_of why).status ≡ Ok tt
refused_wrote why = no_fault (refused_of why).status (λ is. refused_writes why (subst MayWrite (sym is) tt))

-- a whole run is one that a fault of writing may have cut
whole_cut : (block : Option ℕ) (wrote : Result (Unit {0}) WriteNo) (cycles run : ℕ) → run ≡ cycles → IsCut block wrote cycles run
whole_cut None wrote cycles run whole = whole
whole_cut (Some block) (Ok written) cycles run whole = whole
whole_cut (Some block) (Err why) cycles run whole = inl whole

whole_run : (block : Option ℕ) (written : Unit {0}) (cycles run : ℕ) → IsCut block (Ok written) cycles run → run ≡ cycles
whole_run None written cycles run is = is
whole_run (Some block) written cycles run is = is

-- all that is written after the gates were told may still end at a fault
pub tells_ended : {G : Type 0} (p : gate.Ghosts G) (gates gates' : List (Option G)) (told : Option Turns) (wrote : Result (Unit {0}) WriteNo) (ended : Status) → OnErr wrote (ended ≡ status.WriteFault)
    → TellsTurns p gates gates' wrote told → TellsTurns p gates gates' (wrote_at ended) told
tells_ended p gates gates' None wrote ended failed tells = tells
tells_ended p gates gates' (Some turns) (Ok written) ended failed (run, cut, visits) =
    (run, whole_cut turns.block (wrote_at ended) turns.cycles run (whole_run turns.block written turns.cycles run cut), visits)
tells_ended p gates gates' (Some turns) (Err Failed) ended failed tells = subst (λ s. TellsTurns p gates gates' (wrote_at s) (Some turns)) (sym failed) tells
