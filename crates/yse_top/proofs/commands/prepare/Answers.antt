-- Each command comes to an outcome of its steps; those that tell no gate read files alone, and a generated design and help need none.
use Rattle.yse_commands.specs.commands.{Help.Helps, Large.RunsLarge}
use Rattle.call_steps.proofs.lemmas.StepLemmas.{here}
use Rattle.yse_commands.proofs.lemmas.FollowLemmas.{silent}
use Rattle.yse_top.proofs.commands.prepare.Goals as goal

pub returns-in-Run-clause-comes : goal.returns-in-Run-clause-comes
returns-in-Run-clause-comes g c = rw c.in-Run.is c.run.ensures.comes

pub returns-in-Exec-clause-comes : goal.returns-in-Exec-clause-comes
returns-in-Exec-clause-comes g c = rw c.in-Exec.is (rw c.as_bytes.ensures at c.exec.ensures.comes)

pub returns-in-Pack-clause-comes : goal.returns-in-Pack-clause-comes
returns-in-Pack-clause-comes g c = rw c.in-Pack.is c.pack.ensures.comes

pub returns-in-Large-clause-comes : goal.returns-in-Large-clause-comes
returns-in-Large-clause-comes g c =
    let large = c.large.ensures.comes in
    rw c.in-Large.is (record {
      told = large.0;
      follows = here _ (RunsLarge c.in-Large.count c.in-Large.cycles c.in-Large.workers) _ large.1;
      visits = large.2;
    })

pub returns-in-Help-clause-comes : goal.returns-in-Help-clause-comes
returns-in-Help-clause-comes g c = rw c.in-Help.is (silent (here _ (Helps c.in-Help.topic) _ c.help.ensures.expected))

pub returns-in-Refer-clause-comes : goal.returns-in-Refer-clause-comes
returns-in-Refer-clause-comes g c = rw c.in-Refer.is (silent c.refer.ensures.expected)

pub returns-in-Order-clause-comes : goal.returns-in-Order-clause-comes
returns-in-Order-clause-comes g c = rw c.in-Order.is (silent c.order.ensures.expected)

pub returns-in-Plan-clause-comes : goal.returns-in-Plan-clause-comes
returns-in-Plan-clause-comes g c = rw c.in-Plan.is (silent c.lay_out.ensures.expected)

pub returns-in-Compile-clause-comes : goal.returns-in-Compile-clause-comes
returns-in-Compile-clause-comes g c = rw c.in-Compile.is (silent c.lay_out-in-Compile.ensures.expected)

pub returns-in-Fault-clause-comes : goal.returns-in-Fault-clause-comes
returns-in-Fault-clause-comes g c = rw c.in-Fault.is (silent c.fault.ensures.expected)

pub returns-in-Cover-clause-comes : goal.returns-in-Cover-clause-comes
returns-in-Cover-clause-comes g c = rw c.in-Cover.is (silent c.cover.ensures.expected)

pub returns-in-Show-clause-comes : goal.returns-in-Show-clause-comes
returns-in-Show-clause-comes g c = rw c.in-Show.is (silent (rw c.as_bytes-in-Show.ensures at c.show.ensures.expected))
