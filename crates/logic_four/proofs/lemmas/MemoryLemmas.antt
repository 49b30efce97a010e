-- The proofs of the laws of the memory act.
use Rattle.std.proofs.Common.{◌≡◌, ℕ, suc, ◌+◌, ◌*◌, ◌^◌, ◌<◌, ◌≤◌, Bool, true, false, List, [], ◌∷◌, ◌++◌, length, map, refl, ◌∙◌, arith, get_or, set, get_or-set_same, get_or-set_other, pow-suc}
use Rattle.std.proofs.lemmas.List.{length-set, length-map, length-replicate, get_or-replicate}
use Rattle.std.proofs.lemmas.List.Elements.{All-set, All-map, All-replicate, All-get_or}
use Rattle.std.proofs.{Math.Bool.and-false, lemmas.Option.get_or_from_slice_get}
use Rattle.std.specs.Prelude.{Option, Some, None, All, IfSome, replicate, if◌then◌else◌}
use Rattle.std.specs.List.{list_all}
use Rattle.logic_four.specs.Memory.{bits_number, address_of, undefined_word, word_at, read_word, written_at, written, initial_words, HasShape}
use Rattle.logic_four.specs.MemoryLaws.{BitZeroComesFirst, UndefinedBitsHideAddress, AddressIsWithin, AnswersOldWord, UnknownAddressAnswersUndefined, DisabledKeepsWords, ReadsWhatWasWritten, UndefinedEnableHidesWord, KeepsOtherWords, UnknownAddressHidesAll, BeginsInShape, BeginsAsInitial, KeepsShape, OutputsFitWord}
use Rattle.logic_four.specs.{declared.V4.V4, declared.V4.TheVariants.Zero, declared.V4.TheVariants.One, declared.V4.TheVariants.Undef, Values.settled}
use Rattle.logic_four.specs.Gates.{is_known, is_one}

pub bit_zero_first : BitZeroComesFirst
unfolding address_of bits_number
bit_zero_first = refl

-- a bit that is not 0 or 1 keeps a list from being all known
unknown_bit :
    (bit : V4) (bits others : List V4)
    → settled bit ≡ Undef
    → list_all is_known (bits ++ bit ∷ others) ≡ false
unknown_bit bit [] others undefined = grind arith
unknown_bit bit (b ∷ bits) others undefined =
    rw (unknown_bit bit bits others undefined) (and-false (is_known b))

pub undefined_bits : UndefinedBitsHideAddress
unfolding address_of
undefined_bits bit bits others undefined = rw (unknown_bit bit bits others undefined)

-- one more bit, of 0 or 1, keeps the number below the next power of 2
double_within :
    (bit rest k : ℕ) → bit ≤ 1 → rest < 2 ^ k → bit + 2 * rest < 2 ^ suc k
double_within bit rest k bit_is below = rw pow-suc (omega arith)

-- a bit says 0 or 1
bit_number-le-one : (bit : V4) → (if is_one bit then 1 else 0) ≤ 1
bit_number-le-one bit = grind arith

-- so many bits say a number below that power of 2
pub bits_number-within : (bits : List V4) → bits_number bits < 2 ^ length bits
unfolding bits_number
bits_number-within [] = omega arith
bits_number-within (bit ∷ bits) =
    double_within (if is_one bit then 1 else 0) (bits_number bits) (length bits)
    (bit_number-le-one bit)
    (bits_number-within bits)

-- an address that is known is the number of its bits
known_number : (known : Bool) (k n : ℕ) → (if known then Some k else None) ≡ Some n → k ≡ n
known_number true k n is = cc
known_number false k n is = cc

pub address_within : AddressIsWithin
unfolding address_of
address_within address n is =
    rw (← known_number (list_all is_known address) (bits_number address) n is) (bits_number-within address)

pub old_word : AnswersOldWord
unfolding read_word
old_word words we address d word n is found =
    rw is (get_or_from_slice_get words n word (undefined_word (length d)) found)

pub unknown_address_answers : UnknownAddressAnswersUndefined
unfolding read_word
unknown_address_answers words we address d hidden = rw hidden

pub disabled : DisabledKeepsWords
unfolding written
disabled words address d = refl

pub reads_what_was_written : ReadsWhatWasWritten
unfolding written read_word
reads_what_was_written words address d n is within =
    rw is (get_or-set_same words n (map settled d) (undefined_word (length d)) within)

pub undefined_enable : UndefinedEnableHidesWord
unfolding written read_word
undefined_enable words we address d n undefined is within =
    rw is (grind (arith, get_or-set_same words n (undefined_word (length d)) (undefined_word (length d)) within))

pub other_words : KeepsOtherWords
unfolding written read_word
other_words words Zero address d other n m bits is there differ = refl
other_words words One address d other n m bits is there differ =
    rw (is, there) (get_or-set_other words n m (map settled d) (undefined_word bits) differ)
other_words words _ address d other n m bits is there differ =
    rw (is, there) (get_or-set_other words n m (undefined_word (length d)) (undefined_word bits) differ)

pub unknown_address_writes : UnknownAddressHidesAll
unfolding written
unknown_address_writes words Zero address d enabled hidden = absurd (enabled refl)
unknown_address_writes words _ address d enabled hidden = rw hidden

pub first_shape : BeginsInShape
unfolding initial_words
first_shape m n v = record {
  count = length-replicate (2 ^ m) (replicate n v);
  width = All-replicate (λ word. length word ≡ n) (2 ^ m) (replicate n v) (length-replicate n v);
}

pub first_words : BeginsAsInitial
unfolding initial_words read_word
first_words address n bits v is =
    let within : n < 2 ^ length address = address_within address n is in
    rw is (get_or-replicate (2 ^ length address) n (replicate bits v) (undefined_word bits) within)

-- a word of the right width into one place keeps the shape
set-HasShape :
    (m n : ℕ) (words : List (List V4)) (i : ℕ) (word : List V4)
    → HasShape m n words
    → length word ≡ n
    → HasShape m n (set words i word)
set-HasShape m n words i word shaped fits = record {
  count = length-set words i word ∙ shaped.count;
  width = All-set (λ w. length w ≡ n) words i word fits shaped.width;
}

-- an undefined word in every place keeps the shape
undefined-HasShape :
    (m n : ℕ) (words : List (List V4))
    → HasShape m n words
    → HasShape m n (map (λ word. undefined_word (length word)) words)
undefined-HasShape m n words shaped = record {
  count = length-map words (λ word. undefined_word (length word)) ∙ shaped.count;
  width =
      All-map (λ w. length w ≡ n) (λ word. undefined_word (length word)) words
      (λ k e within. length-replicate (length (get_or words k e)) Undef ∙ shaped.width k e within);
}

-- a write keeps the shape, whatever the enable and the address
pub shape_at :
    (m n : ℕ) (words : List (List V4)) (we : V4) (address : Option ℕ) (d : List V4)
    → HasShape m n words
    → length d ≡ n
    → HasShape m n (written_at we address words d)
shape_at m n words Zero address d shaped fits = shaped
shape_at m n words One (Some i) d shaped fits =
    set-HasShape m n words i (map settled d) shaped (length-map d settled ∙ fits)
shape_at m n words _ (Some i) d shaped fits =
    set-HasShape m n words i (undefined_word (length d)) shaped (length-replicate (length d) Undef ∙ fits)
shape_at m n words _ None d shaped fits = undefined-HasShape m n words shaped

pub shape : KeepsShape
unfolding written
shape m n words we address d shaped fits =
    shape_at m n words we (address_of address) d shaped fits

-- a known address of the right width names a word of the memory
known-within :
    (m : ℕ) (words : List (List V4)) (address : List V4) (known : Option ℕ)
    → address_of address ≡ known
    → length words ≡ 2 ^ m
    → length address ≡ m
    → IfSome known (λ i. i < length words)
known-within m words address (Some i) is count width =
    rw (count, ← width) (address_within address i is)
known-within m words address None is count width = tt

-- a word that is read has the width of all words
length-word_at :
    (n : ℕ) (words : List (List V4)) (address : Option ℕ) (d : List V4)
    → All (λ w. length w ≡ n) words
    → IfSome address (λ i. i < length words)
    → length d ≡ n
    → length (word_at words address (length d)) ≡ n
length-word_at n words (Some i) d widths within fits =
    All-get_or (λ w. length w ≡ n) words i (undefined_word (length d)) within widths
length-word_at n words None d widths within fits = length-replicate (length d) Undef ∙ fits

pub outputs_fit : OutputsFitWord
unfolding read_word
outputs_fit m n words we address d shaped width fits =
    length-word_at n words (address_of address) d shaped.width
    (known-within m words address (address_of address) refl shaped.count width)
    fits
