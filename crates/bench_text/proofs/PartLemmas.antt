-- What is taken off the front of a part, and the pieces of the part.
use Rattle.std.proofs.Common.{◌≡◌, ℕ, suc, ◌+◌, true, false, List, [], ◌∷◌, length, take, drop, take_all, ◌-◌, ◌≤◌, slice_index, eqb, Some, None, refl, arith, cond}
use Rattle.std.proofs.lemmas.{List.length-drop, Bool.ne_eqb}
use Rattle.std.specs.List.{prefix_len, take_while}
use Rattle.text_lines.specs.Names.{is_name_byte}
use Rattle.bench_text.specs.{Bytes.sign_of, Bytes.class_of, declared.class.Class.Class, Spelling.Piece, Spelling.Sign, Spelling.Word}
use Rattle.bench_text.specs.{Rows.goes_on, Rows.pieces_of, declared.token.Mark.Mark, Decoding.take_sign, Decoding.take_word, Decoding.no_more}
use Rattle.bench_text.specs.code.Parts.{is_filler, without_filler, is_this}
use Rattle.bench_text.specs.declared.class.Class.TheVariants as class
use Rattle.bench_text.proofs.lemmas.ByteLemmas.{IsOfClass, class_is, named_byte}

-- a name at the front ends where the name bytes do
pub no_name : (bytes : List ℕ) → goes_on bytes ≡ false → prefix_len is_name_byte bytes ≡ 0
no_name [] none = refl
no_name (byte ∷ rest) none = rw none refl

pub name_read : (bytes : List ℕ) → goes_on bytes ≡ true → pieces_of bytes ≡ Word (take_while is_name_byte bytes) ∷ pieces_of (drop (prefix_len is_name_byte bytes) bytes)
name_read [] is = cc
name_read (byte ∷ rest) is =
    let one : 1 + prefix_len is_name_byte rest ≡ suc (prefix_len is_name_byte rest) = omega arith in
    rw ((named_byte byte is).no_sign, is, one) (grind (arith, name_read rest, no_name rest))

-- a part has no more pieces than bytes
pub pieces_fit : (part : List ℕ) → length (pieces_of part) ≤ length part
pieces_fit [] = omega arith
pieces_fit (byte ∷ part) = grind (arith, pieces_fit part)

-- what is skipped has no pieces, and then comes nothing, a mark or a name
front_of : (P : List ℕ → List Piece → Type 0) → P [] []
    → ((byte : ℕ) (rest : List ℕ) (mark : Mark) → sign_of byte ≡ Some mark → is_name_byte byte ≡ false → P (byte ∷ rest) (Sign mark ∷ pieces_of rest))
    → ((byte : ℕ) (rest : List ℕ) → sign_of byte ≡ None → is_name_byte byte ≡ true
    → P (byte ∷ rest) (Word (take_while is_name_byte (byte ∷ rest)) ∷ pieces_of (drop (prefix_len is_name_byte (byte ∷ rest)) (byte ∷ rest))))
    → (part : List ℕ) → P (without_filler part) (pieces_of part)
unfolding is_filler
front_of P none sign name [] = none
front_of P none sign name (byte ∷ part) = by_class (class_of byte) (class_is byte) (front_of P none sign name part) where
  by_class : (class : Class) → IsOfClass byte class → P (without_filler part) (pieces_of part) → P (without_filler (byte ∷ part)) (pieces_of (byte ∷ part))
  by_class class.Name is rest =
      let whole : without_filler (byte ∷ part) ≡ byte ∷ part = rw (is.sign, is.name) refl in
      rw (whole, name_read (byte ∷ part) is.name) (name byte part is.sign is.name)
  by_class (class.Sign mark) is rest = rw is.sign (sign byte part mark is.sign is.name)
  by_class class is rest = let one : 1 + prefix_len is_filler part ≡ suc (prefix_len is_filler part) = omega arith in rw (is.sign, is.name, one) rest

-- a mark is taken, where the first piece is this one
pub sign_taken : (mark : Mark) (part front : List ℕ) → front ≡ without_filler part
    → cond (is_this mark (sign_of (slice_index front 0))) (Some (pieces_of (take (length front - 1) (drop 1 front)))) None ≡ take_sign mark (pieces_of part)
unfolding sign_of
sign_taken mark part front is = rw is (front_of
    (λ front pieces. cond (is_this mark (sign_of (slice_index front 0))) (Some (pieces_of (take (length front - 1) (drop 1 front)))) None ≡ take_sign mark pieces) refl
    (λ byte rest other sign unnamed. rw (sign, take_all (length (byte ∷ rest) - 1) rest (omega arith)) refl)
    (λ byte rest sign named. rw sign refl) part)

-- a name is taken, where the first piece is one
pub word_taken : (part front : List ℕ) (len : ℕ) → front ≡ without_filler part → len ≡ prefix_len is_name_byte front
    → cond (eqb len 0) None (Some (take len front, pieces_of (take (length front - len) (drop len front)))) ≡ take_word (pieces_of part)
word_taken part front len is value =
    rw (take_all (length front - len) (drop len front) (omega (arith, length-drop len front)), value, is) (front_of
    (λ front pieces. cond (eqb (prefix_len is_name_byte front) 0) None (Some (take_while is_name_byte front, pieces_of (drop (prefix_len is_name_byte front) front))) ≡ take_word pieces) refl
    (λ byte rest mark sign unnamed. rw unnamed refl)
    (λ byte rest sign named. rw (named, ne_eqb (1 + prefix_len is_name_byte rest) 0 (λ none. omega (arith, none))) refl) part)

-- a part without what begins a piece has no piece, and another has one
pub none_more : (part front : List ℕ) → front ≡ without_filler part → eqb (length front) 0 ≡ no_more (pieces_of part)
none_more part front is = rw is (front_of (λ front pieces. eqb (length front) 0 ≡ no_more pieces) refl
    (λ byte rest mark sign unnamed. ne_eqb (length (byte ∷ rest)) 0 (λ none. omega (arith, none)))
    (λ byte rest sign named. ne_eqb (length (byte ∷ rest)) 0 (λ none. omega (arith, none))) part)
