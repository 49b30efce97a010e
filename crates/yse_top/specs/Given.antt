-- The words that a program is given.
use Rattle.std.specs.Prelude.{◌≡◌, ◌≢◌, ℕ, List, [], map, Option, Some, None, Result, Ok, Err, Vec, String}
use Rattle.std.specs.String.{string_bytes}

-- the bytes of each word
abbrev pub bytes_of : {Y Z : Type 0} → Vec (String Y) Z → List (List ℕ)
bytes_of words = map string_bytes words.items

-- What was read gives these words: those that were read; none where memory ran out; and where they can't be
-- read for another reason, as where one isn't UTF-8, the words of an empty command line.
abbrev pub Gives : {Y Z E K : Type 0} → (E → K) → K → Result (Vec (String Y) Z) E → Option (List (List ℕ)) → Type 0
Gives kind memory (Ok words) given = given ≡ Some (bytes_of words)
Gives kind memory (Err error) given = (kind error ≡ memory → given ≡ None) × (kind error ≢ memory → given ≡ Some [])
