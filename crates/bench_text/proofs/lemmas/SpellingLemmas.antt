-- Forms and their spellings.
use Rattle.std.proofs.Common.{◌≡◌, ℕ, ◌+◌, ◌<◌, ◌≤◌, length, arith, append_assoc, true, List, [], ◌∷◌, ◌++◌, Option, Some, sym, ap, ◌∙◌, refl}
use Rattle.std.proofs.lemmas.{Option.option_and_then_some, Option.same_Some, List.length-append}
use Rattle.std.specs.Option.{option_map, option_and_then}
use Rattle.bench_text.specs.declared.token.Mark.TheVariants.{Open, Close, Comma, Equals, Semi, Left, Right}
use Rattle.bench_text.specs.Forms.{Names, all_of, Form, Port, Gate, Memory}
use Rattle.bench_text.specs.Spelling.{Piece, Sign, Word, commas, listed, spelled}
use Rattle.bench_text.specs.Decoding.{take_sign, take_word, with_name, take_more, take_names, is_closed, closed, take_head, memory_behind, form_of}
use Rattle.bench_text.specs.{declared.token.Mark.Mark, Heads.Added}
use Rattle.bench_text.specs.declared.token.Mark.TheVariants as mark
use Rattle.limits.specs.declared.TheConstants.{MAX_GATE_OPERANDS}

-- ---- from a form to its spelling and back

-- names behind commas are taken off again
more_again : (names : List (List ℕ)) (rest : List Piece) → take_more rest ≡ Some ([], rest) → take_more (commas names ++ rest) ≡ Some (names, rest)
more_again [] rest stops = stops
more_again (name ∷ names) rest stops = ap (option_map (with_name name)) (more_again names rest stops)

-- the spelling of a form is read back as that form
pub form_again : (form : Form) → form_of (spelled form) ≡ Some form
form_again (Port word name) = refl
form_again form = simp more_again

-- ---- from marks and names to the form that they spell

more_is : (pieces : List Piece) (x : List (List ℕ) × List Piece) → take_more pieces ≡ Some x → pieces ≡ commas x.0 ++ x.1
more_is (Sign mark.Comma ∷ Word name ∷ rest) x e = grind (arith, e, more_is rest)
more_is pieces x e = grind (arith, e)

names_are : (pieces : List Piece) (x : Names × List Piece) → take_names pieces ≡ Some x → pieces ≡ listed x.0 ++ x.1
names_are (Word first ∷ pieces) x e = grind (arith, e, more_is pieces)
names_are pieces x e = cc

sign_is : (m : Mark) (pieces rest : List Piece) → take_sign m pieces ≡ Some rest → pieces ≡ Sign m ∷ rest
sign_is m pieces rest e = grind (arith, e)

-- a last bracket
closed_is : (one form : Form) (pieces : List Piece) → closed one pieces ≡ Some form → (pieces ≡ Sign Close ∷ []) × (one ≡ form)
closed_is one form pieces e = (grind (arith, e), grind (arith, e))

-- `] = WORD ( name ;`
head_is : (pieces : List Piece) (x : (List ℕ × List ℕ) × List Piece) → take_head pieces ≡ Some x
    → pieces ≡ Sign Right ∷ Sign Equals ∷ Word x.0.0 ∷ Sign Open ∷ Word x.0.1 ∷ Sign Semi ∷ x.1
head_is (Sign mark.Right ∷ Sign mark.Equals ∷ Word word ∷ Sign mark.Open ∷ Word enable ∷ Sign mark.Semi ∷ rest) x e =
    rw (sym (same_Some ((word, enable), rest) x e)) refl
head_is pieces x e = cc

-- marks and names with a form are its spelling
pub form_spelled : (pieces : List Piece) (form : Form) → form_of pieces ≡ Some form → pieces ≡ spelled form
form_spelled (Word word ∷ Sign mark.Open ∷ Word name ∷ Sign mark.Close ∷ []) form e = ap spelled (same_Some (Port word name) form e)
form_spelled (Word name ∷ Sign mark.Equals ∷ Word word ∷ Sign mark.Open ∷ rest) form e =
    option_and_then_some _ (take_names rest) form e (λ uses f g.
    let end = closed_is (Gate name word uses.0) form uses.1 g in
    rw (names_are rest uses f, end.0, sym end.1) refl)
form_spelled (Sign mark.Left ∷ rest) form e =
    option_and_then_some _ (take_names rest) form e (λ outs f1 e1.
    option_and_then_some _ (take_head outs.1) form e1 (λ head f2 e2.
    option_and_then_some _ (take_names head.1) form e2 (λ address f3 e3.
    option_and_then_some _ (take_sign Semi address.1) form e3 (λ semi f4 e4.
    option_and_then_some _ (take_names semi) form e4 (λ words f5 e5.
    let end = closed_is (Memory outs.0 head.0.0 head.0.1 address.0 words.0) form words.1 e5 in
    rw (names_are rest outs f1, head_is outs.1 head f2, names_are head.1 address f3, sign_is Semi address.1 semi f4, names_are semi words f5, end.0, sym end.1) refl)))))
form_spelled pieces form e = cc

-- ---- one form, one line

-- no two forms have one spelling
pub one_form : (form other : Form) → spelled form ≡ spelled other → form ≡ other
one_form form other e = same_Some form other (sym (form_again form) ∙ ap form_of e ∙ form_again other)

-- ---- names, one after another

-- names with more behind them
abbrev pub with_more : Names → (List (List ℕ) × List Piece) → Option (Names × List Piece)
with_more names more = Some (record { first = names.first; others = names.others ++ more.0 }, more.1)

-- so many names have been taken and added, and what is left gives the others
pub record HasTaken (part rest : List Piece) (old now : List (List ℕ)) (count : ℕ) : Type 0 where
  pub names : Names
  pub added : Added old now count (all_of names)
  pub left : take_names part ≡ option_and_then (with_more names) (take_more rest)
  pub fits : count + length rest ≤ length part

word_is : (pieces : List Piece) (x : List ℕ × List Piece) → take_word pieces ≡ Some x → pieces ≡ Word x.0 ∷ x.1
word_is pieces x e = grind (arith, e)

-- the first name
pub taken_first : {part rest : List Piece} {name : List ℕ} {old : List (List ℕ)} → Some (name, rest) ≡ take_word part
    → HasTaken part rest old (old ++ name ∷ []) 1
taken_first {part} {rest} {name} word =
    let is = word_is part (name, rest) (sym word) in
    record { names = record { first = name; others = [] }; added = record { counted = refl; added = λ few. refl }; left = rw is refl; fits = omega (arith, ap length is) }

-- one more name
pub taken_one : {part rest comma after : List Piece} {name : List ℕ} {old now new : List (List ℕ)} {count : ℕ} → HasTaken part rest old now count
    → Some comma ≡ take_sign Comma rest → Some (name, after) ≡ take_word comma → (count < MAX_GATE_OPERANDS → new ≡ now ++ name ∷ [])
    → HasTaken part after old new (count + 1)
taken_one {rest = rest} {comma = comma} {after = after} {name = name} {old = old} has sign word grown =
    let is = sign_is Comma rest comma (sym sign) ∙ ap (λ ps. Sign Comma ∷ ps) (word_is comma (name, after) (sym word)) in
    record {
      names = record { first = has.names.first; others = has.names.others ++ name ∷ [] };
      added = record {
        counted = omega (arith, has.added.counted, length-append has.names.others (name ∷ []));
        added = λ few. rw (grown (omega arith), has.added.added (omega arith)) (append_assoc old (all_of has.names) (name ∷ []));
      };
      left = has.left ∙ rw is (grind (arith, append_assoc has.names.others (name ∷ [])));
      fits = omega (arith, has.fits, ap length is);
    }

-- ---- a memory, part by part

pub memory_read : (part : List Piece) {left behind address_left semi word_left : List Piece} {outs address words : Names} {word enable : List ℕ}
    → take_names part ≡ Some (outs, left) → Some ((word, enable), behind) ≡ take_head left → take_names behind ≡ Some (address, address_left)
    → Some semi ≡ take_sign Semi address_left → take_names semi ≡ Some (words, word_left) → is_closed word_left ≡ true
    → memory_behind part ≡ Some (Memory outs word enable address words)
memory_read part is_outs is_head is_address is_semi is_words last = rw (is_outs, sym is_head, is_address, sym is_semi, is_words, last) refl
