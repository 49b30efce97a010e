-- Hexadecimal digits and their value.
use Rattle.std.proofs.Common.{◌≡◌, ℕ, zero, suc, ◌+◌, ◌-◌, ◌*◌, ◌/◌, ◌%◌, ◌^◌, ◌<◌, ◌≤◌, true, List, [], ◌∷◌, ◌++◌, length, take, get_or, min, refl, sym, ap, ◌∙◌, arith, take_all, pow-suc}
use Rattle.std.proofs.{lemmas.List.Folds.list_all_more, lemmas.List.Sums.fold_push, Math.Seq.take-suc, lemmas.List.length-append, lemmas.Bool.and_parts}
use Rattle.std.specs.List.{list_all}
use Rattle.image_lines.specs.{Tokens.is_hex, Tokens.hex_value, Tokens.hex_value_of, Words.hex_digit, Words.hex_digits}

digit_small : (b : ℕ) → is_hex b ≡ true → hex_value_of b < 16
digit_small b is = grind arith

digit_again : (d : ℕ) → d < 16 → hex_value_of (hex_digit d) ≡ d
digit_again d small = grind arith

digit_is : (b : ℕ) → is_hex b ≡ true → hex_digit (hex_value_of b) ≡ b
digit_is b is = grind arith

hex_is_hex : (d : ℕ) → d < 16 → is_hex (hex_digit d) ≡ true
hex_is_hex d small = grind arith

value_push : (ds : List ℕ) (d : ℕ) → hex_value (ds ++ d ∷ []) ≡ hex_value ds * 16 + hex_value_of d
value_push ds d = fold_push (λ value digit. value * 16 + hex_value_of digit) 0 ds d

pub digits_suc : (k n : ℕ) → hex_digits (suc k) n ≡ hex_digits k (n / 16) ++ hex_digit (n % 16) ∷ []
unfolding hex_digits
digits_suc k n = refl

pub digits_zero : (n : ℕ) → hex_digits 0 n ≡ []
unfolding hex_digits
digits_zero n = refl

-- digits so far, and one more
one_more : (ds : List ℕ) (k : ℕ) → k < length ds → hex_value (take (suc k) ds) ≡ hex_value (take k ds) * 16 + hex_value_of (get_or ds k 0)
one_more ds k within = ap hex_value (take-suc ds k 0 within) ∙ value_push (take k ds) (get_or ds k 0)

hex_more : (ds : List ℕ) (k : ℕ) → k < length ds → list_all is_hex (take (suc k) ds) ≡ true → (list_all is_hex (take k ds) ≡ true) × (is_hex (get_or ds k 0) ≡ true)
hex_more ds k within all = and_parts _ _ (sym (list_all_more is_hex ds k 0 within) ∙ ap (λ n. list_all is_hex (take n ds)) (one_up k) ∙ all)
  where
    one_up : (k : ℕ) → k + 1 ≡ suc k
    one_up k = omega arith

below : (ds : List ℕ) (k : ℕ) → k ≤ length ds → list_all is_hex (take k ds) ≡ true → hex_value (take k ds) < 16 ^ k
below ds zero within all = omega arith
below ds (suc k) within all =
    let more = hex_more ds k (omega arith) all in
    let before = below ds k (omega arith) more.0 in
    rw (one_more ds k (omega arith), pow-suc) (step (hex_value (take k ds)) (hex_value_of (get_or ds k 0)) (16 ^ k) before (digit_small _ more.1))
  where
    step : (v d m : ℕ) → v < m → d < 16 → v * 16 + d < m * 16
    step v d m low small = omega arith

-- sixteen digits fit a word
pub sixteen : (ds : List ℕ) → length ds ≡ 16 → list_all is_hex ds ≡ true → hex_value ds < 2 ^ 64
sixteen ds long all =
    let whole = take_all 16 ds (omega arith) in
    let low = below ds 16 (omega arith) (rw whole all) in
    rw whole at low

spelled : (ds : List ℕ) (k : ℕ) → k ≤ length ds → list_all is_hex (take k ds) ≡ true → hex_digits k (hex_value (take k ds)) ≡ take k ds
spelled ds zero within all = digits_zero _
spelled ds (suc k) within all =
    let more = hex_more ds k (omega arith) all in
    let v = hex_value (take k ds) in
    let d = get_or ds k 0 in
    rw (one_more ds k (omega arith), digits_suc k (v * 16 + hex_value_of d), over v (hex_value_of d) (digit_small d more.1), rest v (hex_value_of d) (digit_small d more.1), digit_is d more.1, spelled ds k (omega arith) more.0)
    (sym (take-suc ds k 0 (omega arith)))
  where
    over : (v d : ℕ) → d < 16 → (v * 16 + d) / 16 ≡ v
    over v d small = omega arith

    rest : (v d : ℕ) → d < 16 → (v * 16 + d) % 16 ≡ d
    rest v d small = omega arith

-- sixteen digits are those of their value
pub sixteen_spelled : (ds : List ℕ) → length ds ≡ 16 → list_all is_hex ds ≡ true → hex_digits 16 (hex_value ds) ≡ ds
sixteen_spelled ds long all =
    let whole = take_all 16 ds (omega arith) in
    let same = spelled ds 16 (omega arith) (rw whole all) in
    rw whole at same

-- digits give the number back
pub digits_value : (k n : ℕ) → n < 16 ^ k → hex_value (hex_digits k n) ≡ n
digits_value zero n low = rw (digits_zero n) (omega (arith, low))
digits_value (suc k) n low =
    rw (digits_suc k n, value_push (hex_digits k (n / 16)) (hex_digit (n % 16)), digit_again (n % 16) (omega arith), digits_value k (n / 16) (over n (16 ^ k) (rw pow-suc at low)))
    (omega arith)
  where
    over : (n m : ℕ) → n < m * 16 → n / 16 < m
    over n m low = omega arith

pub digits_length : (k n : ℕ) → length (hex_digits k n) ≡ k
digits_length zero n = rw (digits_zero n) refl
digits_length (suc k) n =
    rw (digits_suc k n) (length_push (hex_digits k (n / 16)) (hex_digit (n % 16)) ∙ ap suc (digits_length k (n / 16)))
  where
    one_up : (n : ℕ) → n + 1 ≡ suc n
    one_up n = omega arith

    length_push : (xs : List ℕ) (x : ℕ) → length (xs ++ x ∷ []) ≡ suc (length xs)
    length_push xs x = length-append xs (x ∷ []) ∙ one_up (length xs)

pub digits_hex : (k n : ℕ) → list_all is_hex (hex_digits k n) ≡ true
digits_hex zero n = rw (digits_zero n) refl
digits_hex (suc k) n =
    rw (digits_suc k n) (all_push (hex_digits k (n / 16)) (hex_digit (n % 16)) (digits_hex k (n / 16)) (hex_is_hex (n % 16) (omega arith)))
  where
    all_push : (xs : List ℕ) (x : ℕ) → list_all is_hex xs ≡ true → is_hex x ≡ true → list_all is_hex (xs ++ x ∷ []) ≡ true
    all_push [] x all one = rw one refl
    all_push (y ∷ xs) x all one =
        let both = and_parts (is_hex y) (list_all is_hex xs) all in
        rw (both.0, all_push xs x both.1 one) refl

-- the greatest u64 is greater
pub not_capped : (ds : List ℕ) → length ds ≡ 16 → list_all is_hex ds ≡ true → min (hex_value ds) (2 ^ 64 - 1) ≡ hex_value ds
not_capped ds long all = let low = sixteen ds long all in omega (arith, low)
