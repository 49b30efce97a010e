use Rattle.std.proofs.Common.{◌≡◌, ◌∙◌, sym, ap, subst, length}
use Rattle.std.specs.{Prelude.IfOk, List.All}
use Rattle.list_laws.proofs.Members.{refill_whole}
use Rattle.fault_sim.specs.{Verdicts.AreVerdicts, code.Groups.group_faults, code.Groups.IsDone}
use Rattle.fault_sim.proofs.Gathering.{faults_stay, all_done}
use Rattle.fault_sim.proofs.all.fault_list.Goals as goal

pub gather-requires : goal.gather-requires
gather-requires g c =
    let now_are = c.as_slice-2.ensures ∙ refill_whole c.in_ok-groups.groups c.run_groups.new.groups (c.run_groups.ensures.count ∙ ap length c.as_mut_slice.ensures.value) in
    subst (All (IsDone c.args.net.now c.args.timing.now c.args.stim.now)) (sym now_are)
    (all_done c.args.net.now c.args.timing.now c.args.stim.now c.as_mut_slice.result.now c.run_groups.new.groups c.run_groups.ensures)

pub returns-clause-verdicts : goal.returns-clause-verdicts
returns-clause-verdicts g c =
    let now_are = c.as_slice-2.ensures ∙ refill_whole c.in_ok-groups.groups c.run_groups.new.groups (c.run_groups.ensures.count ∙ ap length c.as_mut_slice.ensures.value) in
    let faults_are : group_faults c.as_slice-2.result.now ≡ c.args.faults.now =
    ap group_faults now_are
    ∙ (faults_stay c.args.net.now c.args.timing.now c.args.stim.now c.as_mut_slice.result.now c.run_groups.new.groups c.run_groups.ensures
    ∙ (ap group_faults c.as_mut_slice.ensures.value ∙ c.in_ok-groups.ensures.faults)) in
    subst (λ faults. IfOk c.gather.result (AreVerdicts c.args.net.now c.args.timing.now c.args.stim.now faults)) faults_are c.gather.ensures.verdicts
