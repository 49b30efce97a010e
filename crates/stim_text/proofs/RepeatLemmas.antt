-- The repeat of a line is in its range.
use Rattle.std.proofs.Common.{◌≡◌, ℕ, ◌≤◌, Bool, true, false, cond, leb, List, Option, Some, None, refl, arith}
use Rattle.std.proofs.lemmas.Bool.{and_parts, leb-true}
use Rattle.std.specs.Prelude.{◌&&◌}
use Rattle.text_lines.specs.{Bytes.cut_at, Numbers.within}
use Rattle.limits.specs.declared.TheConstants.{MAX_REPEAT}
use Rattle.stim_text.specs.Repeats.{number_in, repeat_of, after_star}

chosen_some : (b : Bool) (m n : ℕ) → cond b (Some m) None ≡ Some n → (b ≡ true) × (m ≡ n)
chosen_some true m n e = (refl, cc)
chosen_some false m n e = cc

within_range : (o : Option ℕ) (n : ℕ) → within 1 MAX_REPEAT o ≡ Some n → (1 ≤ n) × (n ≤ MAX_REPEAT)
within_range None n is = cc
within_range (Some m) n is =
    let found = chosen_some (leb 1 m && leb m MAX_REPEAT) m n is in
    let both = and_parts (leb 1 m) (leb m MAX_REPEAT) found.0 in
    (omega (arith, leb-true 1 m both.0, found.1), omega (arith, leb-true m MAX_REPEAT both.1, found.1))

pub repeat_range : (part : List ℕ) (n : ℕ) → repeat_of part ≡ Some n → (1 ≤ n) × (n ≤ MAX_REPEAT)
unfolding repeat_of
repeat_range part n is = cut (cut_at 42 part) n is where
  cut : (o : Option (List ℕ × List ℕ)) (n : ℕ) → after_star o ≡ Some n → (1 ≤ n) × (n ≤ MAX_REPEAT)
  cut None n is = let one : Some 1 ≡ Some n = is in let same : 1 ≡ n = cc in (omega arith, omega arith)
  cut (Some parts) n is = within_range (number_in parts.1) n is
