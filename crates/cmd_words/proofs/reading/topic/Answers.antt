-- What the word asks for is what the words ask for.
use Rattle.std.proofs.Common.{map, option_map}
use Rattle.std.specs.String.{string_bytes}
use Rattle.cmd_words.specs.code.Parses.{texts_in}
use Rattle.cmd_words.proofs.AskLemmas.{says_topic}
use Rattle.cmd_words.proofs.reading.topic.Goals as goal

pub returns-in-Some : goal.returns-in-Some
returns-in-Some c =
    rw (says_topic (texts_in c.args.options.now) (map string_bytes c.args.words.now) c.in_ok-matches.matches (option_map (λ word. word.now) c.in-Some.word) c.in_ok-matches.ensures c.in-Some.ensures)
    c.topic_named.ensures
