-- The words of the kinds, in any letter case, and how many operands each kind may have.
use Rattle.std.specs.Prelude.{◌≡◌, ◌⊎◌, ℕ, ◌==◌, ◌&&◌, Bool, nat_le, if◌then◌else◌, List, Option, Some, None, IsTrue, codes}
use Rattle.std.specs.Str.{str_eq_ignore_ascii_case}
use Rattle.limits.specs.declared.TheConstants.{MAX_GATE_OPERANDS}
use Rattle.logic_four.specs.declared.Kind.TheVariants.{And, Nand, Or, Nor, Xor, Xnor, Not, Buf, Tri, Bus}
use Rattle.logic_four.specs.declared.Kind.{Kind}

-- the word of a kind in a canonical text
abbrev pub kind_word : Kind → List ℕ
kind_word And = codes "AND"
kind_word Nand = codes "NAND"
kind_word Or = codes "OR"
kind_word Nor = codes "NOR"
kind_word Xor = codes "XOR"
kind_word Xnor = codes "XNOR"
kind_word Not = codes "NOT"
kind_word Buf = codes "BUFF"
kind_word Tri = codes "TRI"
kind_word Bus = codes "BUS"

-- the kind that a word names, if it names one
unfoldable pub kind_of : List ℕ → Option Kind
kind_of word =
    if is (codes "AND") then Some And
    else if is (codes "NAND") then Some Nand
    else if is (codes "OR") then Some Or
    else if is (codes "NOR") then Some Nor
    else if is (codes "XOR") then Some Xor
    else if is (codes "XNOR") then Some Xnor
    else if is (codes "NOT") then Some Not
    else if is (codes "BUF") then Some Buf
    else if is (codes "BUFF") then Some Buf
    else if is (codes "TRI") then Some Tri
    else if is (codes "BUS") then Some Bus
    else None
  where
    is : List ℕ → Bool
    is name = str_eq_ignore_ascii_case word name

-- two words are the same but for the case of their letters
abbrev pub IsSameWord : List ℕ → List ℕ → Type 0
IsSameWord word other = IsTrue (str_eq_ignore_ascii_case word other)

-- letter case doesn't count
abbrev pub ReadsInAnyCase : Type 0
ReadsInAnyCase = (word other : List ℕ) → IsSameWord word other → kind_of word ≡ kind_of other

-- the canonical word of a kind names it
abbrev pub CanonicalWordsRead : Type 0
CanonicalWordsRead = (kind : Kind) → kind_of (kind_word kind) ≡ Some kind

-- BUF and BUFF name one kind
abbrev pub BothWordsOfBuffers : Type 0
BothWordsOfBuffers = (kind_of (codes "BUF") ≡ Some Buf) × (kind_of (codes "BUFF") ≡ Some Buf)

-- no other word names a kind
abbrev pub WordsSayTheirKind : Type 0
WordsSayTheirKind =
    (word : List ℕ) (kind : Kind) → kind_of word ≡ Some kind
    → IsSameWord word (kind_word kind) ⊎ (IsSameWord word (codes "BUF") × (kind ≡ Buf))

-- a kind that takes any number of operands takes 1 to 1,024
abbrev pub is_any_number : ℕ → Bool
is_any_number n = nat_le 1 n && nat_le n MAX_GATE_OPERANDS

-- whether a gate of this kind may have n operands
abbrev pub allows_operands : Kind → ℕ → Bool
allows_operands And n = is_any_number n
allows_operands Nand n = is_any_number n
allows_operands Or n = is_any_number n
allows_operands Nor n = is_any_number n
allows_operands Xor n = is_any_number n
allows_operands Xnor n = is_any_number n
allows_operands Not n = n == 1
allows_operands Buf n = n == 1
allows_operands Tri n = n == 2
allows_operands Bus n = is_any_number n

abbrev pub AllowsOperands : Kind → ℕ → Type 0
AllowsOperands kind n = IsTrue (allows_operands kind n)
