use Rattle.std.proofs.Common.{subst, sym}
use Rattle.machine_run.specs.code.Moves.{HaveGoneOn}
use Rattle.machine_run.proofs.KeptLemmas.{back}
use Rattle.machine_run.proofs.steps.go_on_worker.Goals as goal

pub go_on_members-requires : goal.go_on_members-requires
go_on_members-requires g c = rw c.as_mut_slice.ensures.value c.requires

pub returns : goal.returns
returns g c =
    let moved = subst (λ ms. HaveGoneOn ms c.go_on_members.new.members) c.as_mut_slice.ensures.value c.go_on_members.ensures in
    subst (HaveGoneOn c.args.worker.now.members) (sym (back c.args.worker.now.members c.go_on_members.new.members moved.0)) moved
