-- The words of the kinds read back, and the numbers of operands.
use Rattle.std.proofs.Common.{◌≡◌, ℕ, true, refl, ◌≤◌, arith}
use Rattle.std.proofs.lemmas.{Bool.and_parts, Bool.leb-true, Slice.Eq.bytes_eq-Decides}
use Rattle.std.specs.Str.{str_to_ascii_lowercase}
use Rattle.logic_four.specs.Kinds.{kind_of, is_any_number, AllowsOperands, ReadsInAnyCase, CanonicalWordsRead, BothWordsOfBuffers, WordsSayTheirKind}
use Rattle.logic_four.specs.declared.Kind.{Kind}

pub canonical : CanonicalWordsRead
unfolding kind_of
canonical kind = grind arith

pub buffers : BothWordsOfBuffers
unfolding kind_of
buffers = (refl, refl)

-- words in small letters alone decide
pub any_case : ReadsInAnyCase
unfolding kind_of
any_case word other same =
    let lower : str_to_ascii_lowercase word ≡ str_to_ascii_lowercase other =
    (bytes_eq-Decides (str_to_ascii_lowercase word) (str_to_ascii_lowercase other)).0 same in
    rw lower refl

-- a word that names a kind is one of the kind's
pub says : WordsSayTheirKind
unfolding kind_of
says word kind e = grind arith

-- every kind has an operand at least, and none has more than the most
any_number : (n : ℕ) → is_any_number n ≡ true → (1 ≤ n) × (n ≤ 1024)
any_number n e = let both = and_parts _ _ e in (leb-true 1 n both.0, leb-true n 1024 both.1)

pub some_operands : (kind : Kind) (n : ℕ) → AllowsOperands kind n → 1 ≤ n
some_operands kind n e = grind (arith, any_number n)

pub few_operands : (kind : Kind) (n : ℕ) → AllowsOperands kind n → n ≤ 1024
few_operands kind n e = grind (arith, any_number n)
