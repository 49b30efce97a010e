-- The memory act: what a memory answers and holds after an edge, from the words that it held
-- before. The words are a list in address order, each a list of values with bit 0 first.
use Rattle.std.specs.Prelude.{◌≡◌, ℕ, ◌+◌, ◌*◌, ◌^◌, if◌then◌else◌, List, [], ◌∷◌, length, map, replicate, slice_set, slice_index_or, Option, Some, None, All}
use Rattle.std.specs.List.{list_all}
use Rattle.logic_four.specs.{declared.V4.V4, declared.V4.TheVariants.Zero, declared.V4.TheVariants.One, declared.V4.TheVariants.Undef, Values.settled}
use Rattle.logic_four.specs.Gates.{is_known, is_one}

-- the number that bits of 0 and 1 say, bit 0 first and the least significant
unfoldable pub bits_number : List V4 → ℕ
bits_number [] = 0
bits_number (bit ∷ bits) = (if is_one bit then 1 else 0) + 2 * bits_number bits

-- the address that the bits say, and none where some bit is neither 0 nor 1
unfoldable pub address_of : List V4 → Option ℕ
address_of bits = if list_all is_known bits then Some (bits_number bits) else None

-- a word of so many undefined bits
abbrev pub undefined_word : ℕ → List V4
undefined_word bits = replicate bits Undef

-- the word at an address, and an undefined one where the address is not known or names no word
abbrev pub word_at : List (List V4) → Option ℕ → ℕ → List V4
word_at words (Some n) bits = slice_index_or words n (undefined_word bits)
word_at words None bits = undefined_word bits

-- the words after a write
--   enable 0, any address: nothing changes
--   enable 1, a known address: that word becomes the settled data
--   enable undefined, a known address: that word becomes undefined
--   enable 1 or undefined, no known address: every word becomes undefined
abbrev pub written_at : V4 → Option ℕ → List (List V4) → List V4 → List (List V4)
written_at Zero _ words d = words
written_at One (Some n) words d = slice_set words n (map settled d)
written_at _ (Some n) words d = slice_set words n (undefined_word (length d))
written_at _ None words d = map (λ word. undefined_word (length word)) words

-- what a read of words of so many bits answers
unfoldable pub read_word : List (List V4) → List V4 → ℕ → List V4
read_word words address bits = word_at words (address_of address) bits

-- the words that a write leaves
unfoldable pub written : List (List V4) → V4 → List V4 → List V4 → List (List V4)
written words we address d = written_at we (address_of address) words d

-- the outputs and the words after an edge
pub record MemoryAct : Type 0 where
  pub outputs : List V4
  pub words : List (List V4)

-- the read comes first, on the words as they were; then the write
abbrev pub memory_act : List (List V4) → V4 → List V4 → List V4 → MemoryAct
memory_act words we address d = record {
  outputs = read_word words address (length d);
  words = written words we address d;
}

-- the words of a memory before its first edge
unfoldable pub initial_words : ℕ → ℕ → V4 → List (List V4)
initial_words address_bits word_bits v = replicate (2 ^ address_bits) (replicate word_bits v)

-- 2 to the number of address bits words, each of so many bits
pub record HasShape (address_bits word_bits : ℕ) (words : List (List V4)) : Type 0 where
  pub count : length words ≡ 2 ^ address_bits
  pub width : All (λ word. length word ≡ word_bits) words
