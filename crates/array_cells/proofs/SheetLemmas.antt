-- Packed words, all of which one new number clears.
use Rattle.std.proofs.Common.{inl, inr, ◌≡◌, ◌≢◌, ℕ, ◌+◌, ◌<◌, List, length, set, get_or, replicate, refl, sym, ap, ◌∙◌, arith, get_or-set_same, get_or-set_other}
use Rattle.std.proofs.lemmas.Bool.{cases_eq, cond-true, cond-false, eq-eqb, ne_eqb}
use Rattle.std.proofs.lemmas.List.{get_or_read, ext_get_or, length-set, length-replicate, get_or-replicate}
use Rattle.std.proofs.lemmas.List.FromFn.{length-map-range_with_len, get_or-map-range_with_len}
use Rattle.std.specs.Prelude.{slice_index}
use Rattle.array_cells.specs.declared.sheet.{Sheet.TheInside.Inside, TheConstants.BLANK}
use Rattle.array_cells.specs.code.Sheets.{word_after, words_after, IsDated}

pub length-words_after : (words seen : List ℕ) (clearings : ℕ) → length (words_after words seen clearings) ≡ length words
unfolding words_after
length-words_after words seen clearings =
    length-map-range_with_len (λ k. word_after (slice_index words k) (slice_index seen k) clearings) 0 (length words)

pub get_or-words_after : (words seen : List ℕ) (clearings k : ℕ) → k < length words
    → get_or (words_after words seen clearings) k 0 ≡ word_after (get_or words k 0) (get_or seen k 0) clearings
unfolding words_after
get_or-words_after words seen clearings k within =
    get_or-map-range_with_len (λ k. word_after (slice_index words k) (slice_index seen k) clearings) 0 (length words) k k 0 within (omega arith)

-- a word that has seen the last clearing, and one that hasn't
pub word_after-seen : (word seen clearings : ℕ) → seen ≡ clearings → word_after word seen clearings ≡ word
word_after-seen word seen clearings same = cond-true _ _ _ (eq-eqb _ _ same)

pub word_after-unseen : (word seen clearings : ℕ) → seen ≢ clearings → word_after word seen clearings ≡ BLANK
word_after-unseen word seen clearings apart = cond-false _ _ _ (ne_eqb _ _ apart)

-- one word is written
pub words_after-set : (words seen : List ℕ) (clearings k word : ℕ) → length seen ≡ length words → k < length words
    → words_after (set words k word) (set seen k clearings) clearings ≡ set (words_after words seen clearings) k word
words_after-set words seen clearings k word count within =
    let long : length (words_after (set words k word) (set seen k clearings) clearings) ≡ length words =
    length-words_after (set words k word) (set seen k clearings) clearings ∙ length-set words k word in
    let long' : length (set (words_after words seen clearings) k word) ≡ length words =
    length-set (words_after words seen clearings) k word ∙ length-words_after words seen clearings in
    ext_get_or 0 _ _ (long ∙ sym long')
    (λ j h.
    let among : j < length words = omega arith in
    get_or-words_after (set words k word) (set seen k clearings) clearings j (omega (arith, length-set words k word)) ∙
    elim (cases_eq j k) as (λ _. word_after (get_or (set words k word) j 0) (get_or (set seen k clearings) j 0) clearings ≡ get_or (set (words_after words seen clearings) k word) j 0) [
      | inl same ↦
          let among' : k < length (words_after words seen clearings) = omega (arith, length-words_after words seen clearings) in
          rw (same, get_or-set_same words k word 0 within, get_or-set_same seen k clearings 0 (omega arith), get_or-set_same (words_after words seen clearings) k word 0 among')
          (word_after-seen word clearings clearings refl)
      | inr other ↦
          rw (get_or-set_other words k j word 0 other, get_or-set_other seen k j clearings 0 other, get_or-set_other (words_after words seen clearings) k j word 0 other)
          (sym (get_or-words_after words seen clearings j among))
    ])

-- no word has seen the next clearing
pub words_after-cleared : (words seen : List ℕ) (clearings : ℕ) → IsDated words seen clearings
    → words_after words seen (clearings + 1) ≡ replicate (length words) BLANK
words_after-cleared words seen clearings dated =
    ext_get_or 0 _ _ (length-words_after words seen (clearings + 1) ∙ sym (length-replicate (length words) BLANK))
    (λ k h.
    let among : k < length words = omega (arith, length-words_after words seen (clearings + 1)) in
    get_or-words_after words seen (clearings + 1) k among
    ∙ word_after-unseen (get_or words k 0) (get_or seen k 0) (clearings + 1) (λ same. omega (arith, same, dated.past k among))
    ∙ sym (get_or-replicate (length words) k BLANK 0 among))

-- all words have seen the last clearing
pub words_after-seen : (words : List ℕ) (n clearings : ℕ) → length words ≡ n
    → words_after words (replicate n clearings) clearings ≡ words
words_after-seen words n clearings count =
    ext_get_or 0 _ _ (length-words_after words (replicate n clearings) clearings)
    (λ k h.
    let among : k < length words = omega (arith, length-words_after words (replicate n clearings) clearings) in
    get_or-words_after words (replicate n clearings) clearings k among
    ∙ word_after-seen (get_or words k 0) (get_or (replicate n clearings) k 0) clearings (get_or-replicate n k clearings 0 (omega arith)))

-- the sheet has as many words kept as are read
pub as_many : (inside : Inside) (now : List ℕ)
    → words_after inside.words.items inside.seen.items inside.clearings ≡ now
    → length inside.words.items ≡ length now
as_many inside now view = sym (length-words_after inside.words.items inside.seen.items inside.clearings) ∙ ap length view

-- a word of the sheet and its number
pub record IsKept (inside : Inside) (k : ℕ) : Type 0 where
  pub word : k < length inside.words.items
  pub number : k < length inside.seen.items

pub kept_at : (inside : Inside) (now : List ℕ) (k : ℕ)
    → IsDated inside.words.items inside.seen.items inside.clearings
    → words_after inside.words.items inside.seen.items inside.clearings ≡ now
    → k < length now → IsKept inside k
kept_at inside now k dated view within =
    let long : length inside.words.items ≡ length now = as_many inside now view in
    let count : length inside.seen.items ≡ length inside.words.items = dated.count in
    record { word = omega arith; number = omega arith }

-- the word that is read, if it has seen the last clearing, and if it hasn't
pub seen_word : (inside : Inside) (now : List ℕ) (k number word : ℕ) → IsKept inside k
    → words_after inside.words.items inside.seen.items inside.clearings ≡ now
    → number ≡ get_or inside.seen.items k number → number ≡ inside.clearings
    → word ≡ get_or inside.words.items k word → word ≡ get_or now k 0
seen_word inside now k number word kept view number_is same word_is =
    get_or_read inside.words.items k word kept.word word_is 0
    ∙ sym (word_after-seen (get_or inside.words.items k 0) (get_or inside.seen.items k 0) inside.clearings
    (sym (get_or_read inside.seen.items k number kept.number number_is 0) ∙ same))
    ∙ sym (get_or-words_after inside.words.items inside.seen.items inside.clearings k kept.word)
    ∙ ap (λ words. get_or words k 0) view

pub unseen_word : (inside : Inside) (now : List ℕ) (k number : ℕ) → IsKept inside k
    → words_after inside.words.items inside.seen.items inside.clearings ≡ now
    → number ≡ get_or inside.seen.items k number → number ≢ inside.clearings
    → BLANK ≡ get_or now k 0
unseen_word inside now k number kept view number_is apart =
    sym (word_after-unseen (get_or inside.words.items k 0) (get_or inside.seen.items k 0) inside.clearings
    (λ same. apart (get_or_read inside.seen.items k number kept.number number_is 0 ∙ same)))
    ∙ sym (get_or-words_after inside.words.items inside.seen.items inside.clearings k kept.word)
    ∙ ap (λ words. get_or words k 0) view
