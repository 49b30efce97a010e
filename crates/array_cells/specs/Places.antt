-- The words of a memory among the places of a list of packed words.
use Rattle.std.specs.Prelude.{ℕ, ◌+◌, ◌*◌, ◌^◌, ◌≤◌, List, length, map}
use Rattle.std.specs.List.{range_with_len}
use Rattle.limits.specs.declared.TheConstants.{MAX_ADDRESS_BITS, MAX_WORD_BITS}
use Rattle.logic_four.specs.{declared.V4.V4, Packed.packed_value}

-- the values in so many places, from a place on
unfoldable pub values_from : List ℕ → ℕ → ℕ → List V4
values_from packed base count = map (λ i. packed_value packed (base + i)) (range_with_len 0 count)

-- so many words of so many bits, one after another, bit 0 of each first
unfoldable pub words_of : List ℕ → ℕ → ℕ → List (List V4)
words_of packed words word_bits = map (λ k. values_from packed (k * word_bits) word_bits) (range_with_len 0 words)

-- at most as many words as an address has values, of at most so many bits, and there is a place for each bit
pub record HasRoom (packed : List ℕ) (words word_bits : ℕ) : Type 0 where
  pub few_words : words ≤ 2 ^ MAX_ADDRESS_BITS
  pub few_bits : word_bits ≤ MAX_WORD_BITS
  pub places : words * word_bits ≤ 32 * length packed
