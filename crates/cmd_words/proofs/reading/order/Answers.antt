-- What is read asks for an order, and what is refused for no command.
use Rattle.std.proofs.Common.{ap, option_map}
use Rattle.cmd_words.specs.declared.command.Command.TheVariants.{Order}
use Rattle.cmd_words.proofs.AskLemmas.{refused_made}
use Rattle.cmd_words.proofs.reading.order.Goals as goal

pub returns : goal.returns
returns c = ap (option_map Order) (rw (c.as_slice.ensures) at c.in_ok-simulation.ensures)

pub returns-in_err-simulation : goal.returns-in_err-simulation
returns-in_err-simulation c = refused_made Order _ _ _ c.from_residual.ensures.1 (rw (c.as_slice.ensures) at c.in_err-simulation.ensures)
