-- The netlist, and its canonical text.
use Rattle.std.proofs.Common.{refl}
use Rattle.call_steps.proofs.lemmas.StepLemmas.{comes_to, out_of, passed_on, stopped}
use Rattle.yse_commands.proofs.lemmas.FollowLemmas.{refused_on}
use Rattle.yse_commands.proofs.show.show.Goals as goal

pub returns-in_err-net-clause-expected : goal.returns-in_err-net-clause-expected
returns-in_err-net-clause-expected g c = refused_on _ _ c.from_residual.ensures (stopped c.in_err-net.ensures.step)

pub returns-in_err-text-clause-expected : goal.returns-in_err-text-clause-expected
returns-in_err-text-clause-expected g c = refused_on _ _ c.from_residual-in_err-text.ensures (passed_on c.in_ok-net.ensures.step out_of)

pub returns-clause-expected : goal.returns-clause-expected
returns-clause-expected g c = passed_on c.in_ok-net.ensures.step (comes_to (_, c.in_ok-text.ensures, refl))
