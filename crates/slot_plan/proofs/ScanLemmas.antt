-- Words of bits, looked through for the first bit that is not set.
use Rattle.std.proofs.Common.{◌≡◌, ◌≢◌, ◌∙◌, ◌⊎◌, ◌↔◌, inl, inr, ℕ, ◌+◌, ◌-◌, ◌*◌, ◌/◌, ◌%◌, ◌^◌, ◌<◌, ◌≤◌, max, bit_and, bit_or, w64, sym, ap, subst, arith}
use Rattle.std.proofs.lemmas.Nat.Bits.{shr_and_one, bit_at_or, bit_at-lt, bit_at_ones, bit_at_ones_above, bit_at-trailing_ones}
use Rattle.std.proofs.{Math.Pow.pow-lt, lemmas.Bool.cases_lt}
use Rattle.std.specs.Int.{bit_at, trailing_ones}
use Rattle.plan_defs.specs.Lists.{IsLeastFree}

pub or_bit : (a b i : ℕ) → (bit_at (bit_or a b) i ≡ 1) ↔ ((bit_at a i ≡ 1) ⊎ (bit_at b i ≡ 1))
or_bit a b i = (there, back) where
  there : bit_at (bit_or a b) i ≡ 1 → (bit_at a i ≡ 1) ⊎ (bit_at b i ≡ 1)
  there set =
      let either : max (bit_at a i) (bit_at b i) ≡ 1 = sym (bit_at_or a b i) ∙ set in
      elim (cases_lt (bit_at a i) 1) [ inl unset ↦ inr (omega (arith, unset, either)) | inr up ↦ inl (omega (arith, up, bit_at-lt a i)) ]

  back : (bit_at a i ≡ 1) ⊎ (bit_at b i ≡ 1) → bit_at (bit_or a b) i ≡ 1
  back (inl set) = bit_at_or a b i ∙ omega (arith, set, bit_at-lt b i)
  back (inr set) = bit_at_or a b i ∙ omega (arith, set, bit_at-lt a i)

-- the lowest k bits
pub low_bits : (k b : ℕ) → (bit_at (2 ^ k - 1) b ≡ 1) ↔ (b < k)
low_bits k b = (there, λ low. bit_at_ones k b low) where
  there : bit_at (2 ^ k - 1) b ≡ 1 → b < k
  there set = elim (cases_lt b k) [ inl low ↦ low | inr from ↦ absurd (let unset = bit_at_ones_above k b from in omega (arith, set, unset)) ]

-- the word shows which of 64 numbers have the property
pub record Shows (word first : ℕ) (P : ℕ → Type 0) : Type 0 where
  pub bits : (b : ℕ) → b < 64 → (bit_at word b ≡ 1) ↔ P (first + b)

-- where all numbers before some have a property, and these have it, all before their end have it
pub all_more : (first count : ℕ) (P : ℕ → Type 0) → ((m : ℕ) → m < first → P m) → ((b : ℕ) → b < count → P (first + b)) → (m : ℕ) → m < first + count → P m
all_more first count P before these m low = elim (cases_lt m first) [
  | inl below ↦ before m below
  | inr from ↦ subst P (omega (arith, from)) (these (m - first) (omega (arith, from, low)))
]

-- all of them have it
pub scan_on : (word first : ℕ) (P : ℕ → Type 0) → Shows word first P → word ≡ 2 ^ 64 - 1 → ((m : ℕ) → m < first → P m) → (m : ℕ) → m < first + 64 → P m
scan_on word first P shows full before = all_more first 64 P before (λ b low. (shows.bits b low).0 (ap (λ n. bit_at n b) full ∙ bit_at_ones 64 b low))

-- all of 64 words of numbers have it
pub span_on : (word span : ℕ) (P : ℕ → Type 0) → ((k b : ℕ) → k < 64 → b < 64 → bit_at word k ≡ 1 → P (64 * (64 * span + k) + b)) → word ≡ 2 ^ 64 - 1 → ((m : ℕ) → m < 4096 * span → P m) → (m : ℕ) → m < 4096 * (span + 1) → P m
span_on word span P passed full before m low = all_more (4096 * span) 4096 P before these m (omega (arith, low)) where
  these : (b : ℕ) → b < 4096 → P (4096 * span + b)
  these b below =
      let within : b / 64 < 64 = omega (arith, below) in
      subst P (omega arith) (passed (b / 64) (b % 64) within (omega arith) (ap (λ n. bit_at n (b / 64)) full ∙ bit_at_ones 64 (b / 64) within))

-- a bit that isn't read as 0 is set
pub bit_set : (n k : ℕ) → (bit_and (n / 2 ^ k) 1 ≢ 0) → bit_at n k ≡ 1
bit_set n k other = elim (cases_lt 0 (bit_at n k)) [
  | inl some ↦ omega (arith, some, bit_at-lt n k)
  | inr none ↦ absurd (other (shr_and_one n k ∙ omega (arith, none)))
]

-- one of the words has it
pub word_on : (word span k : ℕ) (P : ℕ → Type 0) → ((k b : ℕ) → k < 64 → b < 64 → bit_at word k ≡ 1 → P (64 * (64 * span + k) + b)) → k < 64 → bit_at word k ≡ 1 → ((m : ℕ) → m < 64 * (64 * span + k) → P m) → (m : ℕ) → m < 64 * (64 * span + (k + 1)) → P m
word_on word span k P passed within set before m low = all_more (64 * (64 * span + k)) 64 P before (λ b below. passed k b within below set) m (omega (arith, low))

-- one of them has not, and the lowest of these is the least number of all
pub scan_stop : (word first : ℕ) (P : ℕ → Type 0) → Shows word first P → word < 2 ^ 64 → word ≢ 2 ^ 64 - 1 → ((m : ℕ) → m < first → P m) → IsLeastFree P (first + trailing_ones w64 word)
scan_stop word first P shows small other before =
    let room : word + 1 < 2 ^ 64 = omega (arith, small, other) in
    let found = bit_at-trailing_ones w64 word room in
    let within : trailing_ones w64 word < 64 = found.0 in
    record {
      free = λ is. let set : bit_at word (trailing_ones w64 word) ≡ 1 = (shows.bits (trailing_ones w64 word) within).1 is in let unset = found.1 in omega (arith, set, unset);
      below = λ m low. elim (cases_lt m first) [
        | inl under ↦ before m under
        | inr from ↦
            let place : first + (m - first) ≡ m = omega (arith, from) in
            let inside : m - first < trailing_ones w64 word = omega (arith, from, low) in
            subst P place ((shows.bits (m - first) (omega (arith, inside, within))).0 (found.2 (m - first) inside))
      ];
    }

-- ---- the numbers below one, as a word

pub ones_word : (k : ℕ) → k < 64 → 1 * 2 ^ k % 18446744073709551616 - 1 ≡ 2 ^ k - 1
ones_word k low = let small : 2 ^ k < 18446744073709551616 = pow-lt low in omega (arith, small)

pub low_word : (from w word : ℕ) → word ≡ 2 ^ (from - 64 * w) - 1 → 64 * w ≤ from → (b : ℕ) → (bit_at word b ≡ 1) ↔ (64 * w + b < from)
low_word from w word is up b = (there, back) where
  there : bit_at word b ≡ 1 → 64 * w + b < from
  there set = let low : b < from - 64 * w = (low_bits (from - 64 * w) b).0 (subst (λ n. bit_at n b ≡ 1) is set) in omega (arith, low, up)

  back : 64 * w + b < from → bit_at word b ≡ 1
  back low = subst (λ n. bit_at n b ≡ 1) (sym is) ((low_bits (from - 64 * w) b).1 (omega (arith, low)))

pub full_word : (from w b : ℕ) → 64 ≤ from - 64 * w → b < 64 → (bit_at 18446744073709551615 b ≡ 1) ↔ (64 * w + b < from)
full_word from w b up low = (λ set. omega (arith, up, low), λ below. bit_at_ones 64 b low)

-- two words, each of which shows a property, show both in one
pub or_more : (a b i : ℕ) (P Q R : Type 0) → ((bit_at a i ≡ 1) ↔ P) → ((bit_at b i ≡ 1) ↔ Q) → (R ↔ (P ⊎ Q)) → (bit_at (bit_or a b) i ≡ 1) ↔ R
or_more a b i P Q R first second both = (there, back) where
  there : bit_at (bit_or a b) i ≡ 1 → R
  there set = elim ((or_bit a b i).0 set) [ inl one ↦ both.1 (inl (first.0 one)) | inr one ↦ both.1 (inr (second.0 one)) ]

  back : R → bit_at (bit_or a b) i ≡ 1
  back is = elim (both.0 is) [ inl one ↦ (or_bit a b i).1 (inl (first.1 one)) | inr one ↦ (or_bit a b i).1 (inr (second.1 one)) ]
