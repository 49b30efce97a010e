-- What the two numbers ask for is what the words ask for.
use Rattle.std.proofs.Common.{map}
use Rattle.std.specs.String.{string_bytes}
use Rattle.cmd_words.specs.code.Parses.{texts_in}
use Rattle.cmd_words.proofs.AskLemmas.{says_large}
use Rattle.cmd_words.proofs.reading.generated.Goals as goal

pub returns-in-Some : goal.returns-in-Some
returns-in-Some c =
    rw (says_large (texts_in c.args.options.now) (map string_bytes c.args.words.now) c.in_ok-matches.matches c.in-Some.gates.now c.in-Some.cycles.now c.in_ok-matches.ensures c.in-Some.ensures)
    c.large_words.ensures
