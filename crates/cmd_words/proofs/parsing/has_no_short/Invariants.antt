-- What is left of the words answers for all of them.
use Rattle.std.proofs.Common.{◌≡◌, drop, map}
use Rattle.std.specs.String.{string_bytes}
use Rattle.cmd_words.specs.code.Parses.{has_no_short}
use Rattle.cmd_words.proofs.parsing.has_no_short.Given as goal

abbrev pub invariant-loop-word : goal.invariant-loop-word
invariant-loop-word l = has_no_short (map string_bytes (drop l.word-index l.words)) ≡ has_no_short (map string_bytes l.words)
