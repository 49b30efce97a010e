-- What is refused asks for no command.
use Rattle.cmd_words.specs.declared.command.Command.TheVariants.{Fault}
use Rattle.cmd_words.proofs.AskLemmas.{refused_made}
use Rattle.cmd_words.proofs.reading.fault.Goals as goal

pub returns-in_err-simulation : goal.returns-in_err-simulation
returns-in_err-simulation c = refused_made Fault _ _ _ c.from_residual.ensures.1 (rw (c.as_slice.ensures) at c.in_err-simulation.ensures)
