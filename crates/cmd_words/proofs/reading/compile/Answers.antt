-- What is read asks for an image, and what is refused for no command.
use Rattle.std.proofs.Common.{ap, option_map}
use Rattle.cmd_words.specs.declared.command.Command.TheVariants.{Compile}
use Rattle.cmd_words.proofs.AskLemmas.{refused_made}
use Rattle.cmd_words.proofs.reading.compile.Goals as goal

pub returns : goal.returns
returns c = ap (option_map Compile) (rw (c.as_slice.ensures) at c.in_ok-layout.ensures)

pub returns-in_err-layout : goal.returns-in_err-layout
returns-in_err-layout c = refused_made Compile _ _ _ c.from_residual.ensures.1 (rw (c.as_slice.ensures) at c.in_err-layout.ensures)
