-- The row of words, and the words as a function of port, send and bank.
use Rattle.std.proofs.Common.{Bool, List, ap, arith, false, get_or, get_or-set_other, get_or-set_same, if◌then◌else◌, inl, inr, le_refl, length, lt-ltb, ltb-true, mul-le-mul_right, nat_lt, refl, replicate, set, slice_index_or, slice_set, subst, suc, suc-mul, sym, true, zero, ℕ, ◌&&◌, ◌*◌, ◌+◌, ◌/◌, ◌<◌, ◌∙◌, ◌≡◌, ◌≤◌}
use Rattle.std.proofs.lemmas.Bool.{and_from, and_parts, cases_eq, cases_order}
use Rattle.std.proofs.{Math.Path.fun_ext, lemmas.Nat.div-mul-add, lemmas.Option.slice_get_within}
use Rattle.list_laws.proofs.Ranges.{replicate_read}
use Rattle.image_defs.specs.{Places.IsPort, declared.image.Image.Image, declared.image.LinkOut.LinkOut, declared.image.PortImage.PortImage}
use Rattle.event_defs.proofs.lemmas.{PaceLemmas.inside, SlotLemmas.updated_here, SlotLemmas.updated_there, StampLemmas.written_here, StampLemmas.written_there}
use Rattle.event_defs.specs.Row.{send_count, send_number, sends_before, sends_of, word_in, word_place}
use Rattle.event_defs.specs.{Counts.of_port, Counts.sum_to, Places.IsSend, Steps.updated, Steps.written}

-- one value of a list is one value of the function
pub set_updated : {X : Type 0} (xs : List X) (p : ℕ) (x d : X) → p < length xs → ◌≡◌ {A = ℕ → X} (λ q. slice_index_or (slice_set xs p x) q d) (updated (λ q. slice_index_or xs q d) p x)
set_updated {X} xs p x d inside = fun_ext (λ q. elim (cases_eq q p) [
  | inl same ↦ subst (λ q. get_or (set xs p x) q d ≡ updated (λ q. get_or xs q d) p x q) (sym same) (get_or-set_same xs p x d inside ∙ sym (updated_here (λ q. get_or xs q d) p x))
  | inr other ↦ get_or-set_other xs p q x d other ∙ sym (updated_there (λ q. get_or xs q d) p q x other)
])

-- sums grow
pub sum_grows : (f : ℕ → ℕ) (p q : ℕ) → p < q → sum_to p f + f p ≤ sum_to q f
unfolding sum_to
sum_grows f p zero less = absurd (omega arith)
sum_grows f p (suc q) less = elim (cases_eq p q) [
  | inl same ↦ subst (λ n. sum_to p f + f p ≤ sum_to n f + f n) same (le_refl (sum_to p f + f p))
  | inr other ↦ let rest = sum_grows f p q (omega arith) in omega arith
]

-- sums of small numbers are small
pub sum_small : (n m : ℕ) (f : ℕ → ℕ) → ((q : ℕ) → q < n → f q ≤ m) → sum_to n f ≤ n * m
unfolding sum_to
sum_small zero m f small = omega arith
sum_small (suc n) m f small = let rest = sum_small n m f (λ q less. small q (omega arith)) in let last = small n (omega arith) in omega (arith, suc-mul n m)

module _ (image : Image) where
  pub sends_are : (p : ℕ) (port : PortImage) → IsPort image p port → sends_of image p ≡ length port.outs
  sends_are p port is = ap (of_port (λ (q : PortImage). length q.outs)) is

  pub send_within : (p i : ℕ) (link : LinkOut) → IsSend image p i link → i < sends_of image p
  send_within p i link s = let e = sends_are p s.port s.is in let w = slice_get_within s.port.outs i link s.link_is in omega arith

  -- each send stands in the row, and no other at its place
  pub number_within : (p i : ℕ) → p < length image.ports → i < sends_of image p → send_number image p i < send_count image
  number_within p i inside few = let grows = sum_grows (sends_of image) p (length image.ports) inside in omega arith

  pub same_number : (p i q j : ℕ) → i < sends_of image p → j < sends_of image q → send_number image p i ≡ send_number image q j → (p ≡ q) × (i ≡ j)
  same_number p i q j i_few j_few same = elim (cases_order p q) [
    | inl equal ↦ let e : sends_before image p ≡ sends_before image q = ap (sends_before image) equal in (equal, omega arith)
    | inr h ↦ elim h [
      | inl less ↦ let grows = sum_grows (sends_of image) p q less in absurd (omega arith)
      | inr more ↦ let grows = sum_grows (sends_of image) q p more in absurd (omega arith)
    ]
  ]

-- places of two words are the same only where send and bank are
pub same_place : (banks m b n c : ℕ) → b < banks → c < banks → word_place banks m b ≡ word_place banks n c → (m ≡ n) × (b ≡ c)
same_place banks m b n c b_in c_in same =
    let one = div-mul-add m banks b b_in in
    let two = div-mul-add n banks c c_in in
    let sends : m ≡ n = sym one ∙ (ap (λ x. x / banks) same ∙ two) in
    let e : m * banks ≡ n * banks = ap (λ x. x * banks) sends in
    (sends, omega arith)

pub place_within : (banks m b count : ℕ) → m < count → b < banks → word_place banks m b < count * banks
place_within banks m b count low b_in =
    let more : suc m * banks ≤ count * banks = mul-le-mul_right banks (omega arith) in
    omega (arith, suc-mul m banks)

module _ (image : Image) (banks : ℕ) where
  -- the word of a send
  pub word_at : (words : List ℕ) (p i b : ℕ) → i < sends_of image p → b < banks → word_in image banks words p i b ≡ slice_index_or words (word_place banks (send_number image p i) b) 0
  word_at words p i b few b_in = ap {A = Bool} {B = ℕ} (λ t. if t then slice_index_or words (word_place banks (send_number image p i) b) 0 else 0) (and_from (nat_lt i (sends_of image p)) (nat_lt b banks) (lt-ltb i (sends_of image p) few) (lt-ltb b banks b_in))

  -- one word written
  pub word_set : (words : List ℕ) (p i b x : ℕ) → p < length image.ports → i < sends_of image p → b < banks → length words ≡ send_count image * banks
      → word_in image banks (slice_set words (word_place banks (send_number image p i) b) x) ≡ written (word_in image banks words) p i b x
  word_set words p i b x inside few b_in long = fun_ext (λ q. fun_ext (λ j. elim (cases_eq q p) [
    | inl same ↦ elim (cases_eq j i) [
      | inl same_i ↦ subst (λ q. word_in image banks now q j ≡ written was p i b x q j) (sym same) (subst (λ j. word_in image banks now p j ≡ written was p i b x p j) (sym same_i)
          (fun_ext (λ c. at_here c) ∙ sym (written_here was p i b x)))
      | inr differs ↦ fun_ext (λ c. elsewhere q j c (λ e. differs e.1)) ∙ sym (written_there was p i b x q j (λ e. differs e.1))
    ]
    | inr away ↦ fun_ext (λ c. elsewhere q j c (λ e. away e.0)) ∙ sym (written_there was p i b x q j (λ e. away e.0))
  ])) where
    at : ℕ
    at = word_place banks (send_number image p i) b

    now : List ℕ
    now = slice_set words (word_place banks (send_number image p i) b) x

    was : ℕ → ℕ → ℕ → ℕ
    was = word_in image banks words

    room : word_place banks (send_number image p i) b < length words
    room = let e = place_within banks (send_number image p i) b (send_count image) (number_within image p i inside few) b_in in omega arith

    -- what is read by a test is the same where it is the same without one
    by_test : (t : Bool) (m n : ℕ) → (t ≡ true → m ≡ n) → (if t then m else 0) ≡ (if t then n else 0)
    by_test true m n same = same refl
    by_test false m n same = refl

    tests : (q j c : ℕ) → (nat_lt j (sends_of image q) && nat_lt c banks) ≡ true → (j < sends_of image q) × (c < banks)
    tests q j c passed = let two = and_parts (nat_lt j (sends_of image q)) (nat_lt c banks) passed in (ltb-true j (sends_of image q) two.0, ltb-true c banks two.1)

    elsewhere : (q j c : ℕ) → ((q ≡ p) × (j ≡ i) → ⊥) → word_in image banks (slice_set words (word_place banks (send_number image p i) b) x) q j c ≡ word_in image banks words q j c
    elsewhere q j c other = by_test (nat_lt j (sends_of image q) && nat_lt c banks) _ _ (λ passed.
        let low = tests q j c passed in
        get_or-set_other words (word_place banks (send_number image p i) b) (word_place banks (send_number image q j) c) x 0 (λ e.
        let sends = same_place banks (send_number image q j) c (send_number image p i) b low.1 b_in e in
        other (same_number image q j p i low.0 few sends.0)))

    at_here : (c : ℕ) → word_in image banks (slice_set words (word_place banks (send_number image p i) b) x) p i c ≡ updated (word_in image banks words p i) b x c
    at_here c = elim (cases_eq c b) [
      | inl same ↦ subst (λ c. word_in image banks (slice_set words (word_place banks (send_number image p i) b) x) p i c ≡ updated (word_in image banks words p i) b x c) (sym same)
          (word_at (slice_set words (word_place banks (send_number image p i) b) x) p i b few b_in ∙ (get_or-set_same words (word_place banks (send_number image p i) b) x 0 room ∙ sym (updated_here (word_in image banks words p i) b x)))
      | inr away ↦ by_test (nat_lt i (sends_of image p) && nat_lt c banks) _ _ (λ passed.
          let low = tests p i c passed in
          get_or-set_other words (word_place banks (send_number image p i) b) (word_place banks (send_number image p i) c) x 0 (λ e.
          away (same_place banks (send_number image p i) c (send_number image p i) b low.1 b_in e).1)) ∙ sym (updated_there (word_in image banks words p i) b c x away)
    ]

  -- before the first event
  pub words_zero : (n : ℕ) → word_in image banks (replicate n 0) ≡ (λ p i b. 0)
  words_zero n = fun_ext (λ p. fun_ext (λ i. fun_ext (λ b. by_test (nat_lt i (sends_of image p) && nat_lt b banks) (slice_index_or (replicate n 0) (word_place banks (send_number image p i) b) 0) (replicate_read n (word_place banks (send_number image p i) b) 0)))) where
    by_test : (t : Bool) (m : ℕ) → m ≡ 0 → (if t then m else 0) ≡ 0
    by_test true m none = none
    by_test false m none = refl
