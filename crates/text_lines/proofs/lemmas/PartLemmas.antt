-- No part of a line is longer than the text.
use Rattle.std.proofs.Common.{◌==◌, slice_index, ℕ, suc, ◌+◌, ◌-◌, ◌<◌, ◌≤◌, Bool, true, false, cond, List, [], ◌∷◌, length, take, map, get_or, subst, arith}
use Rattle.std.proofs.lemmas.List.{length-take, Elements.All-from_recursion}
use Rattle.std.specs.{List.AllByRecursion, List.position_or_len, List.onto_first, Str.Lines.strip_carriage_return}
use Rattle.text_lines.specs.{Bytes.is_line_feed, Bytes.is_hash, Lines.lines_of, Lines.part_of, Lines.parts_of}

abbrev IsWithin : ℕ → List ℕ → Type 0
IsWithin n line = length line ≤ n

widen : (m n : ℕ) (xs : List (List ℕ)) → m ≤ n → AllByRecursion (IsWithin m) xs → AllByRecursion (IsWithin n) xs
widen m n [] le all = tt
widen m n (x ∷ xs) le all = (omega (arith, all.0), widen m n xs le all.1)

onto_first_within : (byte n : ℕ) (xs : List (List ℕ)) → AllByRecursion (IsWithin n) xs → AllByRecursion (IsWithin (n + 1)) (onto_first byte xs)
onto_first_within byte n [] all = (omega arith, tt)
onto_first_within byte n (x ∷ xs) all = (omega (arith, all.0), widen n (n + 1) xs (omega arith) all.1)

lines_within : (text : List ℕ) → AllByRecursion (IsWithin (length text)) (lines_of text)
lines_within [] = tt
lines_within (byte ∷ text) = chosen byte (length text) (lines_of text) (lines_within text) (is_line_feed byte) where
  chosen : (byte n : ℕ) (later : List (List ℕ)) → AllByRecursion (IsWithin n) later → (b : Bool) → AllByRecursion (IsWithin (suc n)) (cond b ([] ∷ later) (onto_first byte later))
  chosen byte n later all true = (omega arith, widen n (suc n) later (omega arith) all)
  chosen byte n later all false = subst (λ m. AllByRecursion (IsWithin m) (onto_first byte later)) (omega arith) (onto_first_within byte n later all)

take_within : (n : ℕ) (xs : List ℕ) → length (take n xs) ≤ length xs
take_within n xs = omega (arith, length-take n xs)

part_within : (line : List ℕ) → length (part_of line) ≤ length line
unfolding part_of
part_within line =
    let short = take_within (position_or_len is_hash (strip_carriage_return line)) (strip_carriage_return line) in
    omega (arith, short, stripped_within (slice_index line (length line - 1) == 13) line)
  where
    stripped_within : (b : Bool) (line : List ℕ) → length (cond b (take (length line - 1) line) line) ≤ length line
    stripped_within true line = take_within (length line - 1) line
    stripped_within false line = omega arith

parts_within : (n : ℕ) (xs : List (List ℕ)) → AllByRecursion (IsWithin n) xs → AllByRecursion (IsWithin n) (map part_of xs)
parts_within n [] all = tt
parts_within n (x ∷ xs) all = (omega (arith, part_within x, all.0), parts_within n xs all.1)

pub part_length : (text : List ℕ) (i : ℕ) → i < length (parts_of text) → length (get_or (parts_of text) i []) ≤ length text
unfolding parts_of
part_length text i within =
    All-from_recursion (IsWithin (length text)) (parts_of text) (parts_within (length text) (lines_of text) (lines_within text)) i [] within
