-- The command with the options so far.
use Rattle.std.proofs.Common.{◌≡◌, take}
use Rattle.clap.specs.Words.{app_of}
use Rattle.cmd_words.specs.code.Parses.{app_with, texts_in}
use Rattle.cmd_words.proofs.parsing.command.Given as goal

abbrev pub invariant-loop-name : goal.invariant-loop-name
invariant-loop-name l = app_of l.command ≡ app_with (texts_in (take l.name-index l.options))
