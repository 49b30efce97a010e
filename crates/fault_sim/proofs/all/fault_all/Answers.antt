use Rattle.std.proofs.Common.{◌∙◌, sym, subst}
use Rattle.std.specs.{Prelude.IfOk, List.All}
use Rattle.fault_sim.specs.{Faults.IsFault, Verdicts.AreVerdicts}
use Rattle.fault_sim.proofs.all.fault_all.Goals as goal

pub fault_list-requires-clause-faults : goal.fault_list-requires-clause-faults
fault_list-requires-clause-faults g c lifetimes outlive =
    subst (All (IsFault c.args.net.now)) (sym c.as_slice.ensures) c.in_ok-faults.ensures.faults

pub returns-clause-verdicts : goal.returns-clause-verdicts
returns-clause-verdicts g c =
    subst (λ faults. IfOk c.fault_list.result (AreVerdicts c.args.net.now c.args.timing.now c.args.stim.now faults)) (c.as_slice.ensures ∙ c.in_ok-faults.ensures.are) c.fault_list.ensures.verdicts
