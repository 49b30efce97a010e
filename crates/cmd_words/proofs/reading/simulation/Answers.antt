-- What the two files ask for is what the words ask for.
use Rattle.std.proofs.Common.{map}
use Rattle.std.specs.String.{string_bytes}
use Rattle.cmd_words.specs.code.Parses.{texts_in}
use Rattle.cmd_words.proofs.AskLemmas.{says_two}
use Rattle.cmd_words.proofs.reading.simulation.Goals as goal

pub returns-in-Some : goal.returns-in-Some
returns-in-Some c =
    rw (says_two (texts_in c.args.options.now) (map string_bytes c.args.words.now) c.in_ok-matches.matches c.in-Some.netlist.now c.in-Some.stimulus.now c.in_ok-matches.ensures c.in-Some.ensures)
    c.run_words.ensures
