use Rattle.std.proofs.Common.{refl}
use Rattle.large_run.specs.Large.{input_signal}
use Rattle.large_run.proofs.DrawLemmas.{list_more}
use Rattle.large_run.proofs.netlist.push_inputs.Goals as goal

pub inputs-preserved : goal.inputs-preserved
inputs-preserved c = list_more c.args.signals.now c.inputs.signals _ input_signal _ c.inputs.i c.inputs.invariant c.in_ok-push.ensures.ok (rw c.in_ok-name.ensures refl)
