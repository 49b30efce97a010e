-- The words that a call is given.
use Rattle.std.specs.Prelude.{ℕ, List, Option, Some, None, Result, Ok, Err, Vec, String}
use Rattle.yse_top.specs.Given.{bytes_of}

-- the words that are answered, unless memory ran out
abbrev pub words_in : {Y Z N : Type 0} → Result (Vec (String Y) Z) N → Option (List (List ℕ))
words_in (Ok words) = Some (bytes_of words)
words_in (Err refused) = None
