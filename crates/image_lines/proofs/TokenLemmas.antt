-- Each token is spelled in one way.
use Rattle.std.proofs.Common.{◌≡◌, ◌⊎◌, ◌∙◌, inl, inr, ℕ, suc, ◌+◌, ◌-◌, ◌*◌, ◌^◌, ◌<◌, ◌==◌, nat_lt, Bool, true, false, ◌&&◌, List, [], ◌∷◌, length, min, get_or, decimal, refl, sym, ap, arith, rules, Option, Some, None, bytes_eq, if◌then◌else◌}
use Rattle.std.proofs.lemmas.Bool.{cases_eq, eqb-true, ltb-true, ltb-false, lt-ltb, and_parts}
use Rattle.std.proofs.lemmas.Fmt.{digits_decimal, digits_value-decimal, decimal-digits_value, first_decimal, decimal_digit}
use Rattle.std.proofs.lemmas.{Slice.Eq.bytes_eq-Decides, Str.Parse.IsNumeralModel, Str.Parse.numerals_by_fold}
use Rattle.std.specs.{Option.option_map, List.fold, List.list_all, Char.is_ascii_digit}
use Rattle.text_lines.specs.Numbers.{number_of, digits_value}
use Rattle.logic_four.specs.{declared.V4.V4, Values.value_char}
use Rattle.logic_four.specs.declared.V4.TheVariants as v4
use Rattle.net_defs.specs.declared.timing.Init.{Init, TheVariants.Undef, TheVariants.Zero}
use Rattle.image_defs.specs.declared.image.Source.{Source, TheVariants.Own, TheVariants.Got, TheVariants.Const}
use Rattle.image_lines.specs.Tokens.{plain_number, capped, number_token, source_token, lettered, value_letter, init_token, kind_token, hex_token, is_hex, hex_value, made, const_of}
use Rattle.image_lines.specs.Words.{source_word, init_word, kind_word, hex_digits}
use Rattle.image_lines.specs.declared.line.PortKind.{PortKind, TheVariants.Logic, TheVariants.Array, TheVariants.Host}
use Rattle.image_lines.specs.Ranges.{IsSmall, IsSmallSource}
use Rattle.image_lines.proofs.HexLemmas as hex

-- a reader of tokens reads what this word spells, of what is good, and nothing else
pub record SpellsToken {X : Type 0} (read : List ℕ → Option (X × Bool)) (word : X → List ℕ) (Good : X → Type 0) : Type 0 where
  pub again : (x : X) → Good x → read (word x) ≡ Some (x, false)
  pub found : (token : List ℕ) (x : X) → read token ≡ Some (x, false) → (token ≡ word x) × Good x

-- ---- numbers

read_on : ℕ → List ℕ → ℕ
read_on n digits = fold (λ value digit. value * 10 + (digit - 48)) n digits

pub own : IsNumeralModel (λ ds. list_all is_ascii_digit ds ≡ true) digits_value
unfolding read_on
own = numerals_by_fold _ (search rules) read_on (search rules)

same_read : {X : Type 0} (x y : X) (a b : Bool) → ◌≡◌ {A = Option (X × Bool)} (Some (x, a)) (Some (y, b)) → (x ≡ y) × (a ≡ b)
same_read {X} x y a b e =
    let pair : ◌≡◌ {A = X × Bool} (x, a) (y, b) = cc in
    (ap (λ p. p.0) pair, ap (λ p. p.1) pair)

-- a decimal number is plain
decimal_plain : (n : ℕ) → n < 2 ^ 64 → plain_number (decimal n) ≡ Some n
unfolding plain_number number_of
decimal_plain n low =
    let digits = digits_decimal own n low in
    let value = digits_value-decimal own n low in
    elim (cases_eq n 0) [
      | inl none ↦ rw (none, decimal_digit 0 (omega arith)) refl
      | inr some ↦
          let first = first_decimal n (omega (arith, some)) low in
          tail (decimal n) n first digits value
    ]
  where
    tail : (ds : List ℕ) (n : ℕ) → 48 < get_or ds 0 0 → list_all is_ascii_digit ds ≡ true → digits_value ds ≡ n
        → (if nat_lt 1 (length ds) && get_or ds 0 0 == 48 then None else (if nat_lt 0 (length ds) && list_all is_ascii_digit ds then Some (digits_value ds) else None)) ≡ Some n
    tail [] n first digits value = absurd (omega arith)
    tail (d ∷ []) n first digits value = rw (digits, value) refl
    tail (d ∷ e ∷ ds) n first digits value = rw (digits, value, other d first, long (length ds), some (length ds)) refl
      where
        long : (k : ℕ) → nat_lt 1 (suc (suc k)) ≡ true
        long k = lt-ltb 1 (suc (suc k)) (omega arith)

        some : (k : ℕ) → nat_lt 0 (suc (suc k)) ≡ true
        some k = lt-ltb 0 (suc (suc k)) (omega arith)

        other : (d : ℕ) → 48 < d → (d == 48) ≡ false
        other d more = grind arith

if_some : {X : Type 0} (b : Bool) (x y : X) → (if b then Some x else None) ≡ Some y → (b ≡ true) × (x ≡ y)
if_some true x y e = (refl, cc)
if_some false x y e = cc

if_not : {X : Type 0} (b : Bool) (o : Option X) (y : X) → (if b then None else o) ≡ Some y → (b ≡ false) × (o ≡ Some y)
if_not true o y e = cc
if_not false o y e = (refl, e)

pub if_or : {X : Type 0} (b : Bool) (o others : Option X) (x : X) → (if b then o else others) ≡ Some x → ((b ≡ true) × (o ≡ Some x)) ⊎ (others ≡ Some x)
if_or true o others x e = inl (refl, e)
if_or false o others x e = inr e

-- a plain number is its decimal
plain_decimal : (token : List ℕ) (n : ℕ) → n < 2 ^ 64 → plain_number token ≡ Some n → token ≡ decimal n
unfolding plain_number number_of
plain_decimal token n low is =
    let plain = if_not (nat_lt 1 (length token) && get_or token 0 0 == 48) _ n is in
    let digits = if_some (nat_lt 0 (length token) && list_all is_ascii_digit token) (digits_value token) n plain.1 in
    let tests = and_parts _ _ digits.0 in
    let some = ltb-true 0 (length token) tests.0 in
    let same = decimal-digits_value own token tests.1 some (lead (length token) (get_or token 0 0) plain.0 some) (rw digits.1 low) in
    sym (rw digits.1 at same)
  where
    lead : (n d : ℕ) → (nat_lt 1 n && d == 48) ≡ false → 0 < n → d ≡ 48 → n ≡ 1
    lead n d other some is = grind arith

pub number_spells : SpellsToken number_token decimal IsSmall
unfolding number_token
number_spells = record { again = again; found = found }
  where
    small_capped : (n : ℕ) → n < 2 ^ 32 → capped n ≡ (n, false)
    small_capped n low = grind arith

    again : (n : ℕ) → IsSmall n → number_token (decimal n) ≡ Some (n, false)
    again n low = rw (decimal_plain n (omega (arith, low))) (ap Some (small_capped n low))

    capped_small : (m n : ℕ) → (min m (2 ^ 32 - 1) ≡ n) → nat_lt (2 ^ 32 - 1) m ≡ false → (m ≡ n) × (n < 2 ^ 32)
    capped_small m n least few = let low = ltb-false (2 ^ 32 - 1) m few in (omega (arith, least, low), omega (arith, least, low))

    of_plain : (token : List ℕ) (n : ℕ) (o : Option ℕ) → plain_number token ≡ o → option_map capped o ≡ Some (n, false) → (token ≡ decimal n) × IsSmall n
    of_plain token n None is e = cc
    of_plain token n (Some m) is e =
        let same = same_read (min m (2 ^ 32 - 1)) n (nat_lt (2 ^ 32 - 1) m) false e in
        let small = capped_small m n same.0 same.1 in
        (plain_decimal token n (omega (arith, small.1)) (is ∙ ap Some small.0), small.1)

    found : (token : List ℕ) (n : ℕ) → number_token token ≡ Some (n, false) → (token ≡ decimal n) × IsSmall n
    found token n e = of_plain token n (plain_number token) refl e

-- ---- sources

made_of : {Y : Type 0} (make : ℕ → Y) (o : Option (ℕ × Bool)) (x : Y) → option_map (made make) o ≡ Some (x, false)
    → (n : ℕ) × ((o ≡ Some (n, false)) × (make n ≡ x))
made_of make None x e = cc
made_of make (Some (n, b)) x e =
    let same = same_read (make n) x b false e in
    (n, (ap (λ b. Some (n, b)) same.1, same.0))

value_found : (letters : List ℕ) (v : V4) → value_letter letters ≡ Some v → letters ≡ value_char v ∷ []
value_found [] v e = cc
value_found (c ∷ d ∷ rest) v e = cc
value_found (c ∷ []) v e =
    letter_or 48 v4.Zero _ refl (letter_or 49 v4.One _ refl (letter_or 120 v4.Undef _ refl (letter_or 122 v4.HighZ None refl (λ none. cc)))) e
  where
    letter_or : (k : ℕ) (w : V4) (others : Option V4) → value_char w ≡ k → (others ≡ Some v → c ∷ [] ≡ value_char v ∷ []) → (if c == k then Some w else others) ≡ Some v → c ∷ [] ≡ value_char v ∷ []
    letter_or k w others char later e =
        elim (if_or (c == k) (Some w) others v e) [
          | inl here ↦
              let value : w ≡ v = cc here.1 in
              ap (λ d. d ∷ []) (eqb-true c k here.0 ∙ sym char ∙ ap value_char value)
          | inr other ↦ later other
        ]

value_again : (v : V4) → value_letter (value_char v ∷ []) ≡ Some v
value_again v4.Zero = refl
value_again other = refl

pub source_spells : SpellsToken source_token source_word IsSmallSource
unfolding source_token source_word
source_spells = record { again = again; found = found }
  where
    again : (x : Source) → IsSmallSource x → source_token (source_word x) ≡ Some (x, false)
    again (Own slot false) small = rw (number_spells.again slot small) refl
    again (Own slot true) small = rw (number_spells.again slot small) refl
    again (Got slot false) small = rw (number_spells.again slot small) refl
    again (Got slot true) small = rw (number_spells.again slot small) refl
    again (Const v) small = rw (value_again v) refl

    Found : List ℕ → Source → Type 0
    Found token x = (token ≡ source_word x) × IsSmallSource x

    same_cons : (a b : ℕ) (us vs : List ℕ) → a ≡ b → us ≡ vs → a ∷ us ≡ b ∷ vs
    same_cons a b us vs e f = rw (e, f) refl

    moved : (t u : List ℕ) (y x : Source) → t ≡ u → y ≡ x → Found u y → Found t x
    moved t u y x a b f = rw (a, ← b) f

    -- a slot behind its letter, or what another letter says
    slot_or : (make : ℕ → Source) (letter c : ℕ) (rest : List ℕ) (x : Source) (others : Option (Source × Bool)) → ((slot : ℕ) → IsSmall slot → Found (c ∷ decimal slot) (make slot)) → (others ≡ Some (x, false) → Found (letter ∷ rest) x)
        → (if letter == c then option_map (made make) (number_token rest) else others) ≡ Some (x, false) → Found (letter ∷ rest) x
    slot_or make letter c rest x others right later e =
        elim (if_or (letter == c) (option_map (made make) (number_token rest)) others (x, false) e) [
          | inl here ↦
              let made = made_of make (number_token rest) x here.1 in
              let number = number_spells.found rest made.0 made.1.0 in
              moved (letter ∷ rest) (c ∷ decimal made.0) (make made.0) x (same_cons letter c rest (decimal made.0) (eqb-true letter c here.0) number.0) made.1.1 (right made.0 number.1)
          | inr other ↦ later other
        ]

    const_found : (o : Option V4) (letter : ℕ) (rest : List ℕ) (x : Source) → value_letter rest ≡ o → (letter == 99) ≡ true → option_map const_of o ≡ Some (x, false) → Found (letter ∷ rest) x
    const_found None letter rest x is letter_is e = cc
    const_found (Some v) letter rest x is letter_is e =
        let same = same_read (Const v) x false false e in
        moved (letter ∷ rest) (99 ∷ value_char v ∷ []) (Const v) x (same_cons letter 99 rest (value_char v ∷ []) (eqb-true letter 99 letter_is) (value_found rest v is)) same.0 (refl, tt)

    const_or : (letter : ℕ) (rest : List ℕ) (x : Source) → (if letter == 99 then option_map const_of (value_letter rest) else None) ≡ Some (x, false) → Found (letter ∷ rest) x
    const_or letter rest x e =
        elim (if_or (letter == 99) (option_map const_of (value_letter rest)) None (x, false) e) [
          | inl here ↦ const_found (value_letter rest) letter rest x refl here.0 here.1
          | inr none ↦ cc
        ]

    by_letter : (letter : ℕ) (rest : List ℕ) (x : Source) → lettered letter rest ≡ Some (x, false) → Found (letter ∷ rest) x
    by_letter letter rest x =
        slot_or (λ slot. Own slot false) letter 111 rest x _ (λ slot small. (refl, small))
        (slot_or (λ slot. Own slot true) letter 79 rest x _ (λ slot small. (refl, small))
        (slot_or (λ slot. Got slot false) letter 103 rest x _ (λ slot small. (refl, small))
        (slot_or (λ slot. Got slot true) letter 71 rest x _ (λ slot small. (refl, small)) (const_or letter rest x))))

    found : (token : List ℕ) (x : Source) → source_token token ≡ Some (x, false) → Found token x
    found [] x e = cc
    found (letter ∷ rest) x e = by_letter letter rest x e

-- ---- words

-- a word that says this, or what another word says
word_or : {X : Type 0} (word : X → List ℕ) (y : X) (token : List ℕ) (x : X) (others : Option (X × Bool)) → (others ≡ Some (x, false) → token ≡ word x)
    → (if bytes_eq token (word y) then Some (y, false) else others) ≡ Some (x, false) → token ≡ word x
word_or word y token x others later e =
    elim (if_or (bytes_eq token (word y)) (Some (y, false)) others (x, false) e) [
      | inl here ↦ (bytes_eq-Decides token (word y)).0 here.0 ∙ ap word (same_read y x false false here.1).0
      | inr other ↦ later other
    ]

pub init_spells : SpellsToken init_token init_word (λ _. Unit {0})
unfolding init_token init_word
init_spells = record { again = again; found = found }
  where
    again : (x : Init) → Unit {0} → init_token (init_word x) ≡ Some (x, false)
    again Undef good = refl
    again Zero good = refl

    found : (token : List ℕ) (x : Init) → init_token token ≡ Some (x, false) → (token ≡ init_word x) × Unit {0}
    found token x e = (word_or init_word Undef token x _ (word_or init_word Zero token x None (λ none. cc)) e, tt)

pub kind_spells : SpellsToken kind_token kind_word (λ _. Unit {0})
unfolding kind_token kind_word
kind_spells = record { again = again; found = found }
  where
    again : (x : PortKind) → Unit {0} → kind_token (kind_word x) ≡ Some (x, false)
    again Logic good = refl
    again other good = refl

    found : (token : List ℕ) (x : PortKind) → kind_token token ≡ Some (x, false) → (token ≡ kind_word x) × Unit {0}
    found token x e = (word_or kind_word Logic token x _ (word_or kind_word Array token x _ (word_or kind_word Host token x None (λ none. cc))) e, tt)

-- ---- words of tables

pub hex_spells : SpellsToken hex_token (hex_digits 16) (λ word. word < 2 ^ 64)
unfolding hex_token
hex_spells = record { again = again; found = found }
  where
    again : (x : ℕ) → x < 2 ^ 64 → hex_token (hex_digits 16 x) ≡ Some (x, false)
    again x low = rw (hex.digits_length 16 x, hex.digits_hex 16 x, hex.digits_value 16 x low) refl

    found : (token : List ℕ) (x : ℕ) → hex_token token ≡ Some (x, false) → (token ≡ hex_digits 16 x) × (x < 2 ^ 64)
    found token x e =
        let read = if_some (length token == 16 && list_all is_hex token) (hex_value token, false) (x, false) e in
        let tests = and_parts _ _ read.0 in
        let long = eqb-true (length token) 16 tests.0 in
        let value : hex_value token ≡ x = ap (λ (p : ℕ × Bool). p.0) read.1 in
        rw (← value) (sym (hex.sixteen_spelled token long tests.1), hex.sixteen token long tests.1)
