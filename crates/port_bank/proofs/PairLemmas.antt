-- The 16 entries of a table for given third and fourth operands stand side by side in one of its words.
use Rattle.std.proofs.Common.{◌≡◌, ◌∙◌, ℕ, ◌+◌, ◌*◌, ◌/◌, ◌%◌, ◌^◌, ◌<◌, slice_index, sym, ap, ap₂, arith}
use Rattle.std.proofs.{Math.Nat.div-div-eq-div-mul, lemmas.Nat.pow-add}
use Rattle.logic_four.specs.{declared.V4.V4, Values.code_of, Values.value_of, Packed.code_in, Packed.packed_value}
use Rattle.logic_four.proofs.lemmas.CodeLemmas.{code_of_small}
use Rattle.func_table.specs.{declared.table.Table.Table, Entries.entry_of, Entries.entry_for}

-- the first of the 16 entries whose third and fourth operands are these
abbrev entry_at : V4 → V4 → ℕ
entry_at c d = 16 * code_of c + 64 * code_of d

word_of_entry : (x y z w : ℕ) → x < 4 → y < 4 → (x + 4 * y + 16 * z + 64 * w) / 32 ≡ (16 * z + 64 * w) / 32
word_of_entry x y z w h k = omega arith

place_of_entry : (x y z w : ℕ) → x < 4 → y < 4 → (x + 4 * y + 16 * z + 64 * w) % 32 ≡ (16 * z + 64 * w) % 32 + (x + 4 * y)
place_of_entry x y z w h k = omega arith

-- a code of a word that is shifted down
code_shifted : (word from i : ℕ) → code_in (word / 2 ^ (2 * from)) i ≡ code_in word (from + i)
code_shifted word from i =
    ap (λ n. n % 4) (div-div-eq-div-mul word (2 ^ (2 * from)) (2 ^ (2 * i)) ∙ ap (λ n. word / n) (sym (pow-add 2 (2 * from) (2 * i)) ∙ ap (λ n. 2 ^ n) (omega arith)))

-- the entry for four operands stands in the word of the last two, as far behind their first as the first two say
pub pair_entry : (table : Table) (a b c d : V4) → value_of (code_in (slice_index table.words (entry_at c d / 32) / 2 ^ (2 * (entry_at c d % 32))) (code_of a + 4 * code_of b)) ≡ entry_for table a b c d
unfolding entry_for entry_of packed_value
pair_entry table a b c d =
    ap value_of (code_shifted (slice_index table.words (entry_at c d / 32)) (entry_at c d % 32) (code_of a + 4 * code_of b))
    ∙ sym (ap₂ (λ k i. value_of (code_in (slice_index table.words k) i))
    (word_of_entry (code_of a) (code_of b) (code_of c) (code_of d) (code_of_small a) (code_of_small b))
    (place_of_entry (code_of a) (code_of b) (code_of c) (code_of d) (code_of_small a) (code_of_small b)))
