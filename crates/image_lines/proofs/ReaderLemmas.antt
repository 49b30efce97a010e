-- Each row of fields is spelled in one way.
use Rattle.std.proofs.Common.{◌≡◌, ◌∙◌, inl, inr, ℕ, Bool, true, false, ◌||◌, List, [], ◌∷◌, ◌++◌, map, refl, sym, ap, Option, Some, None, bytes_eq, All, append_assoc}
use Rattle.std.proofs.lemmas.List.Elements.{All-nil, All-cons, All-head, All-tail}
use Rattle.std.proofs.lemmas.Slice.Eq.{bytes_eq-Decides}
use Rattle.std.specs.Option.{option_map, option_and_then}
use Rattle.image_lines.specs.Tokens.{Left, Reader, field, behind_token, both, and_then, paired, behind, all_of, in_front}
use Rattle.image_lines.proofs.TokenLemmas.{SpellsToken, if_or}

-- a reader of fields reads what these words spell, of what is good, and nothing else
pub record Spells {X : Type 0} (reader : Reader X) (words : X → List (List ℕ)) (Good : X → Type 0) : Type 0 where
  pub again : (x : X) (rest : List (List ℕ)) → Good x → reader (words x ++ rest, false) ≡ Some (x, (rest, false))
  pub found : (left : Left) (x : X) (rest : List (List ℕ)) → reader left ≡ Some (x, (rest, false)) → (left ≡ (words x ++ rest, false)) × Good x

-- what is read, and what is left
pub same_left : {X : Type 0} (x y : X) (a b : List (List ℕ)) (l m : Bool) → ◌≡◌ {A = Option (X × Left)} (Some (x, (a, l))) (Some (y, (b, m)))
    → (x ≡ y) × ((a ≡ b) × (l ≡ m))
same_left {X} x y a b l m e =
    let whole : ◌≡◌ {A = X × Left} (x, (a, l)) (y, (b, m)) = cc in
    (ap (λ p. p.0) whole, (ap (λ p. p.1.0) whole, ap (λ p. p.1.1) whole))

neither : (a b : Bool) → (a || b) ≡ false → (a ≡ false) × (b ≡ false)
neither true b e = cc
neither false b e = (refl, e)

pub field_spells : {X : Type 0} {read : List ℕ → Option (X × Bool)} {word : X → List ℕ} {Good : X → Type 0}
    → SpellsToken read word Good → Spells (field read) (λ x. word x ∷ []) Good
unfolding field
field_spells {X} {read} {word} {Good} spells = record { again = again; found = found }
  where
    again : (x : X) (rest : List (List ℕ)) → Good x → field read (word x ∷ rest, false) ≡ Some (x, (rest, false))
    again x rest good = rw (spells.again x good) refl

    of : (token : List ℕ) (rest : List (List ℕ)) (large : Bool) (x : X) (left : List (List ℕ)) (o : Option (X × Bool)) → read token ≡ o
        → option_map (behind_token rest large) o ≡ Some (x, (left, false))
        → (◌≡◌ {A = Left} (token ∷ rest, large) (word x ∷ left, false)) × Good x
    of token rest large x left None is e = cc
    of token rest large x left (Some (y, b)) is e =
        let same = same_left y x rest left (large || b) false e in
        let flags = neither large b same.1.1 in
        let read_is : read token ≡ Some (x, false) = is ∙ ap (λ y. Some (y, b)) same.0 ∙ ap (λ b. Some (x, b)) flags.1 in
        let one = spells.found token x read_is in
        (rw (one.0, same.1.0, flags.0) refl, one.1)

    found : (left : Left) (x : X) (rest : List (List ℕ)) → field read left ≡ Some (x, (rest, false)) → (left ≡ (word x ∷ rest, false)) × Good x
    found ([], large) x rest e = cc
    found (token ∷ tokens, large) x rest e = of token tokens large x rest (read token) refl e

pub both_spells : {X Y : Type 0} {first : Reader X} {second : Reader Y} {v : X → List (List ℕ)} {w : Y → List (List ℕ)} {G : X → Type 0} {H : Y → Type 0}
    → Spells first v G → Spells second w H → Spells (both first second) (λ x. v x.0 ++ w x.1) (λ x. G x.0 × H x.1)
unfolding both
both_spells {X} {Y} {first} {second} {v} {w} {G} {H} one two = record { again = again; found = found }
  where
    again : (x : X × Y) (rest : List (List ℕ)) → G x.0 × H x.1 → both first second ((v x.0 ++ w x.1) ++ rest, false) ≡ Some (x, (rest, false))
    again (x, y) rest good = rw (append_assoc (v x) (w y) rest, one.again x (w y ++ rest) good.0, two.again y rest good.1) refl

    of_second : (left : Left) (x : X) (y : Y) (rest : List (List ℕ)) (z : X × Y) (o : Option (Y × Left)) → o ≡ second left
        → option_map (paired x) o ≡ Some (z, (rest, false)) → (x ≡ z.0) × (second left ≡ Some (z.1, (rest, false)))
    of_second left x y rest z None is e = cc
    of_second left x y rest z (Some (u, (tokens, large))) is e =
        let same = same_left (x, u) z tokens rest large false e in
        (ap (λ p. p.0) same.0, sym is ∙ ap (λ (u : Y). Some (u, (tokens, large))) (ap (λ p. p.1) same.0) ∙ ap (λ t. Some (z.1, (t, large))) same.1.0 ∙ ap (λ l. Some (z.1, (rest, l))) same.1.1)

    of_first : (left : Left) (z : X × Y) (rest : List (List ℕ)) (o : Option (X × Left)) → o ≡ first left
        → option_and_then (and_then second) o ≡ Some (z, (rest, false)) → (left ≡ ((v z.0 ++ w z.1) ++ rest, false)) × (G z.0 × H z.1)
    of_first left z rest None is e = cc
    of_first left z rest (Some (x, next)) is e =
        let later = of_second next x z.1 rest z (second next) refl e in
        let end = two.found next z.1 rest later.1 in
        let first_is : first left ≡ Some (z.0, (w z.1 ++ rest, false)) = sym is ∙ ap (λ x. Some (x, next)) later.0 ∙ ap (λ n. Some (z.0, n)) end.0 in
        let begin = one.found left z.0 (w z.1 ++ rest) first_is in
        (begin.0 ∙ ap (λ t. (t, false)) (sym (append_assoc (v z.0) (w z.1) rest)), (begin.1, end.1))

    found : (left : Left) (z : X × Y) (rest : List (List ℕ)) → both first second left ≡ Some (z, (rest, false))
        → (left ≡ ((v z.0 ++ w z.1) ++ rest, false)) × (G z.0 × H z.1)
    found left z rest e = of_first left z rest (first left) refl e

pub behind_spells : {X : Type 0} {reader : Reader X} {words : X → List (List ℕ)} {Good : X → Type 0} (word : List ℕ)
    → Spells reader words Good → Spells (behind word reader) (λ x. word ∷ words x) Good
unfolding behind
behind_spells {X} {reader} {words} {Good} word spells = record { again = again; found = found }
  where
    again : (x : X) (rest : List (List ℕ)) → Good x → behind word reader (word ∷ words x ++ rest, false) ≡ Some (x, (rest, false))
    again x rest good = rw ((bytes_eq-Decides word word).1 refl) (spells.again x rest good)

    found : (left : Left) (x : X) (rest : List (List ℕ)) → behind word reader left ≡ Some (x, (rest, false)) → (left ≡ (word ∷ words x ++ rest, false)) × Good x
    found ([], large) x rest e = cc
    found (token ∷ tokens, large) x rest e =
        elim (if_or (bytes_eq token word) (reader (tokens, large)) None _ e) [
          | inl here ↦
              let more = spells.found (tokens, large) x rest here.1 in
              (rw ((bytes_eq-Decides token word).0 here.0) (ap (λ (l : Left). (word ∷ l.0, l.1)) more.0), more.1)
          | inr none ↦ cc
        ]

-- ---- all tokens

module _ {X : Type 0} {read : List ℕ → Option (X × Bool)} {word : X → List ℕ} {Good : X → Type 0} (spells : SpellsToken read word Good) where
  pub all_again : (xs : List X) → All Good xs → all_of read (map word xs) false ≡ Some (xs, false)
  unfolding all_of
  all_again [] good = refl
  all_again (x ∷ xs) good = rw (spells.again x (All-head Good x xs good), all_again xs (All-tail Good x xs good)) refl

  same_all : (xs ys : List X) (a b : Bool) → ◌≡◌ {A = Option (List X × Bool)} (Some (xs, a)) (Some (ys, b)) → (xs ≡ ys) × (a ≡ b)
  same_all xs ys a b e =
      let whole : ◌≡◌ {A = List X × Bool} (xs, a) (ys, b) = cc in
      (ap (λ p. p.0) whole, ap (λ p. p.1) whole)

  same_cons : (a b : List ℕ) (us vs : List (List ℕ)) → a ≡ b → us ≡ vs → a ∷ us ≡ b ∷ vs
  same_cons a b us vs e f = rw (e, f) refl

  moved : {F : Type 0} (t u : List (List ℕ)) (ys xs : List X) → t ≡ u → ys ≡ xs → (u ≡ map word ys) × All Good ys → F → (t ≡ map word xs) × (F × All Good xs)
  moved t u ys xs a b f g = rw (a, ← b) (f.0, (g, f.1))

  pub all_found : (tokens : List (List ℕ)) (large : Bool) (xs : List X) → all_of read tokens large ≡ Some (xs, false)
      → (tokens ≡ map word xs) × ((large ≡ false) × All Good xs)
  unfolding all_of
  all_found [] large xs e =
      let same = same_all [] xs large false e in
      moved [] [] [] xs refl same.0 (refl, All-nil Good) same.1
  all_found (token ∷ rest) large xs e =
      of_first token rest large xs (read token) (λ b ys e. all_found rest (large || b) ys e) refl e
    where
      Later : List (List ℕ) → Bool → Type 0
      Later rest large =
          (b : Bool) (ys : List X) → all_of read rest (large || b) ≡ Some (ys, false) → (rest ≡ map word ys) × (((large || b) ≡ false) × All Good ys)

      of_rest : (token : List ℕ) (rest : List (List ℕ)) (large b : Bool) (x : X) (xs : List X) (o : Option (List X × Bool)) → Later rest large
          → all_of read rest (large || b) ≡ o → read token ≡ Some (x, b) → option_map (in_front x) o ≡ Some (xs, false)
          → (token ∷ rest ≡ map word xs) × ((large ≡ false) × All Good xs)
      of_rest token rest large b x xs None more is here e = cc
      of_rest token rest large b x xs (Some (ys, l)) more is here e =
          let same = same_all (x ∷ ys) xs l false e in
          let later = more b ys (is ∙ ap (λ l. Some (ys, l)) same.1) in
          let flags = neither large b later.1.0 in
          let one = spells.found token x (here ∙ ap (λ b. Some (x, b)) flags.1) in
          moved (token ∷ rest) (word x ∷ map word ys) (x ∷ ys) xs (same_cons token (word x) rest (map word ys) one.0 later.0) same.0
          (refl, All-cons Good x ys one.1 later.1.1) flags.0

      of_first : (token : List ℕ) (rest : List (List ℕ)) (large : Bool) (xs : List X) (o : Option (X × Bool)) → Later rest large → read token ≡ o
          → option_and_then (λ x. option_map (in_front x.0) (all_of read rest (large || x.1))) o ≡ Some (xs, false)
          → (token ∷ rest ≡ map word xs) × ((large ≡ false) × All Good xs)
      of_first token rest large xs None more is e = cc
      of_first token rest large xs (Some (x, b)) more is e = of_rest token rest large b x xs (all_of read rest (large || b)) more refl is e
