-- What a row says by itself is what it says by its spelling.
use Rattle.std.proofs.Common.{◌≡◌, Option, Some, None, Result, Ok, refl}
use Rattle.bench_read.proofs.Common.{Form, Row, form_of, Line, Says, said_by, said}
use Rattle.bench_text.proofs.lemmas.SpellingLemmas.{form_again, form_spelled}

pub from_ok : {X E : Type 0} (x y : X) → ◌≡◌ {A = Result X E} (Ok x) (Ok y) → x ≡ y
from_ok x y e = cc

-- what a row says by itself is what it says by its spelling
pub says_from_said : (row : Row) (line : Line) → said row ≡ Ok line → Says row line
unfolding said
says_from_said row line e = by_form (form_of row.pieces) refl e where
  by_form : (o : Option Form) → form_of row.pieces ≡ o → said_by row.at o ≡ Ok line → Says row line
  by_form None f e = cc
  by_form (Some form) f e = record { form = form; spelling = form_spelled row.pieces form f; word = e }

pub said_from_says : (row : Row) (line : Line) → Says row line → said row ≡ Ok line
unfolding said
said_from_says row line says = rw (says.spelling, form_again says.form) says.word

-- a row says one line at most
pub one_line : (row : Row) (line other : Line) → Says row line → Says row other → line ≡ other
one_line row line other a b = cc (said_from_says row line a, said_from_says row other b)
