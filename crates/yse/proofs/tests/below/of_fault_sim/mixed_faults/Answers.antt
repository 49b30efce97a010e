use Rattle.std.proofs.Common.{◌+◌, ◌∙◌, ap, arith}
use Rattle.std.proofs.lemmas.List.{length_push, Elements.All-push}
use Rattle.fault_sim.specs.Faults.{IsFault}
use Rattle.yse.proofs.tests.below.of_fault_sim.mixed_faults.Goals as goal

pub faults-preserved : goal.faults-preserved
faults-preserved c =
    rw c.in_ok-push.ensures.ok (
      length_push c.faults.faults c.fault_of.result ∙ ap (λ n. n + 1) c.faults.invariant.0,
      All-push (IsFault c.args.net.now) c.faults.faults c.fault_of.result c.faults.invariant.1
          (record { signal = omega (arith, c.fault_of.ensures.signal, c.requires.enough); value = c.fault_of.ensures.value }),
    )
