-- The spelling of a line: the marks and names that stand in it, from left to right.
use Rattle.std.specs.Prelude.{ℕ, Bool, true, false, List, [], ◌∷◌, ◌++◌}
use Rattle.bench_text.specs.declared.token.Mark.TheVariants.{Open, Close, Comma, Equals, Semi, Left, Right, Name}
use Rattle.bench_text.specs.{declared.token.Mark.Mark, Forms.Names, Forms.Form}
use Rattle.bench_text.specs.Forms as forms

-- a mark, or a name
pub data Piece : Type 0 where
  Sign : Mark → Piece
  Word : List ℕ → Piece

abbrev pub same_mark : Mark → Mark → Bool
same_mark Open Open = true
same_mark Close Close = true
same_mark Comma Comma = true
same_mark Equals Equals = true
same_mark Semi Semi = true
same_mark Left Left = true
same_mark Right Right = true
same_mark Name Name = true
same_mark _ _ = false

-- `, name , name`
abbrev pub commas : List (List ℕ) → List Piece
commas [] = []
commas (name ∷ names) = Sign Comma ∷ Word name ∷ commas names

-- `name , name , ..`
abbrev pub listed : Names → List Piece
listed names = Word names.first ∷ commas names.others

-- `WORD ( name )`, `name = WORD ( name , .. )` and `[ name , .. ] = WORD ( name ; name , .. ; name , .. )`
abbrev pub spelled : Form → List Piece
spelled (forms.Port word name) = Word word ∷ Sign Open ∷ Word name ∷ Sign Close ∷ []
spelled (forms.Gate name word uses) =
    Word name ∷ Sign Equals ∷ Word word ∷ Sign Open ∷ (listed uses ++ Sign Close ∷ [])
spelled (forms.Memory outs word enable address words) =
    Sign Left ∷ (listed outs ++ Sign Right ∷ Sign Equals ∷ Word word ∷ Sign Open ∷ Word enable
    ∷ Sign Semi ∷ (listed address ++ Sign Semi ∷ (listed words ++ Sign Close ∷ [])))
