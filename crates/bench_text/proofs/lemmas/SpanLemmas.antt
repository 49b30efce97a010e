-- What the tokens of a text cover.
use Rattle.std.proofs.Common.{add-zero, ◌≡◌, ℕ, zero, suc, ◌+◌, ◌-◌, ◌<◌, ◌≤◌, ◌↔◌, Bool, true, false, cond, List, ◌++◌, length, drop, get_or, Option, Some, None, ap, subst, refl, inl, inr, arith, append-nil}
use Rattle.std.proofs.lemmas.List.Elements.{Contains-get_or, Contains-append_left, Contains-append_right, Contains-append_cases}
use Rattle.std.proofs.lemmas.{Bool.cases_lt, Bool.cases_Bool, List.length-take, List.get_or-take, List.drop_more, List.Quantifiers.all_pairs_push}
use Rattle.std.proofs.lemmas.Option.{same_Some, cond_some}
use Rattle.std.specs.{Option.option_to_list, List.All, List.AllPairs, List.Contains}
use Rattle.text_lines.specs.Places.{stays_in_comment, is_comment, line_at, is_line_end}
use Rattle.text_lines.specs.{Bytes.is_visible, Bytes.is_blank, Answers.first, Names.is_name_byte}
use Rattle.bench_text.proofs.PlaceLemmas.{scan_behind, is_comment_step, run_front, run_passes, run_within, run_stops, run_begins, inside}
use Rattle.bench_text.proofs.lemmas.ByteLemmas.{IsOfClass, class_is, named_byte}
use Rattle.bench_text.specs.Tokens.{follows_name, begins_name, name_length, token_at, token_of_sign, tokens_before, tokens_of, is_bad, fault_at}
use Rattle.bench_text.specs.Spans.{AreBytesOf, StandsIn, IsBefore, IsCovered, IsRead}
use Rattle.bench_text.specs.declared.{class.Class.Class, token.Mark.Mark, token.Mark.TheVariants.Name, token.Token.Token}
use Rattle.bench_text.specs.Bytes.{sign_of, class_of}
use Rattle.bench_text.specs.declared.class.Class.TheVariants as class

-- ---- the token of a place

-- a visible byte outside comments is read
visible_read : (text : List ℕ) (i : ℕ) → is_comment text i ≡ false → is_visible (get_or text i 0) ≡ true → IsRead text i
unfolding is_visible is_blank is_line_end
visible_read text i outside visible = (outside, grind (arith, visible), grind (arith, visible))

-- a run that begins in no comment is in none
run_outside : (text : List ℕ) (i k : ℕ) → is_comment text i ≡ false → i ≤ k → k < i + name_length text i → is_comment text k ≡ false
unfolding stays_in_comment
run_outside text i k outside from below =
    let place : i + (k - i) ≡ k = omega arith in
    let same = rw place at (ap (λ scan. scan.in_comment) (scan_behind text i (k - i) (omega arith))) in
    let begins = named_byte (get_or text i 0) (run_passes text i i (omega arith) (omega arith)) in
    grind (arith, same, outside, is_comment_step text i, is_comment_step text k, begins, named_byte (get_or text k 0) (run_passes text i k from below))

-- what holds of a token that begins at a place
record BeginsAt (text : List ℕ) (i : ℕ) (token : Token) : Type 0 where
  pub from : token.from ≡ i
  pub stands : StandsIn text token
  pub read : (k : ℕ) → i ≤ k → k < token.upto → IsRead text k
  pub alone : (k : ℕ) → i < k → k < token.upto → token_at text k ≡ None

sign_bytes : (text : List ℕ) (i : ℕ) (mark : Mark) → i < length text → sign_of (get_or text i 0) ≡ Some mark → AreBytesOf mark text i (i + 1)
unfolding sign_of
sign_bytes text i Name within sign = absurd (grind (arith, sign))
sign_bytes text i mark within sign = let one : i + 1 - i ≡ 1 = omega arith in rw (one, drop_more text i 0 within) (grind (arith, sign))

-- a mark
sign_begins : (text : List ℕ) (i : ℕ) (mark : Mark) → i < length text → is_comment text i ≡ false → sign_of (get_or text i 0) ≡ Some mark
    → BeginsAt text i (record { mark = mark; from = i; upto = i + 1; line = line_at text i })
unfolding sign_of is_visible
sign_begins text i mark within outside sign = record {
  from = refl;
  stands = record { some = omega arith; within = omega arith; line = refl; bytes = sign_bytes text i mark within sign };
  read = λ k least most. let here : k ≡ i = omega arith in rw here (visible_read text i outside (grind (arith, sign)));
  alone = λ k least most. absurd (omega arith);
}

-- a name
name_begins : (text : List ℕ) (i : ℕ) → i < length text → fault_at text i ≡ None → begins_name text i ≡ true
    → BeginsAt text i (record { mark = Name; from = i; upto = i + name_length text i; line = line_at text i })
unfolding begins_name fault_at
name_begins text i within none begins = record {
  from = refl;
  stands = record {
    some = omega (arith, run_begins text i within (grind (arith, begins)));
    within = run_within text i (omega arith);
    line = refl;
    bytes = record {
      bytes = λ k d below.
          let inner : k < i + name_length text i - i = omega (arith, length-take (i + name_length text i - i) (drop i text)) in
          rw (get_or-take (i + name_length text i - i) (drop i text) k d inner) (run_front text i k d (omega arith));
      short = grind (arith, none, begins);
      before = λ some.
          let place : i ≡ suc (i - 1) = omega arith in
          let fresh : follows_name text i ≡ false = grind (arith, begins) in
          rw place at fresh;
      after = run_stops text i (i + name_length text i) refl;
    };
  };
  read = λ k least most.
      visible_read text k (run_outside text i k (grind (arith, begins)) least most) (named_byte (get_or text k 0) (run_passes text i k least most)).visible;
  alone = λ k least most. (inside text i k least most).1;
}

-- the token of a place
token_begins : (text : List ℕ) (i : ℕ) (token : Token) → i < length text → fault_at text i ≡ None → token_at text i ≡ Some token → BeginsAt text i token
unfolding token_at
token_begins text i token within none is = by_tests (is_comment text i) refl (sign_of (get_or text i 0)) refl is where
  by_tests : (inside : Bool) → is_comment text i ≡ inside → (sign : Option Mark) → sign_of (get_or text i 0) ≡ sign
      → cond inside None (token_of_sign text i sign) ≡ Some token → BeginsAt text i token
  by_tests true at sign sign_at is = cc
  by_tests false at (Some mark) sign_at is = subst (BeginsAt text i) (same_Some _ token is) (sign_begins text i mark within at sign_at)
  by_tests false at None sign_at is = let found = cond_some (begins_name text i) _ token is in subst (BeginsAt text i) found.1 (name_begins text i within none found.0)

-- ---- all tokens

line_at-mono : (text : List ℕ) (i k : ℕ) → line_at text i ≤ line_at text (i + k)
unfolding line_at
line_at-mono text i zero = simp add-zero (omega arith)
line_at-mono text i (suc k) = let next : i + suc k ≡ suc (i + k) = omega arith in rw next (grind (arith, line_at-mono text i k))

-- the name that a name byte stands in
name_of_byte : (text : List ℕ) (i : ℕ) → i < length text → is_comment text i ≡ false → is_name_byte (get_or text i 0) ≡ true
    → (k : ℕ) × (k ≤ i) × (token_at text k ≡ Some (record { mark = Name; from = k; upto = k + name_length text k; line = line_at text k })) × (i < k + name_length text k)
unfolding token_at begins_name is_comment stays_in_comment is_visible
name_of_byte text zero within outside named = (0, omega arith, grind (arith, outside, named, (named_byte (get_or text 0 0) named).no_sign), omega (arith, run_begins text 0 within named))
name_of_byte text (suc i) within outside named = elim (cases_Bool (is_name_byte (get_or text i 0))) [
  | inr fresh ↦ (suc i, omega arith, grind (arith, outside, named, fresh, (named_byte (get_or text (suc i) 0) named).no_sign), omega (arith, run_begins text (suc i) within named))
  | inl follows ↦
      let before = name_of_byte text i (omega arith) (grind (arith, outside, (named_byte (get_or text (suc i) 0) named).visible)) follows in (
        before.0,
        omega (arith, before.1),
        before.2,
        grind (arith, run_stops text before.0 (suc i), within, named, before.3),
      )
]

-- each token of a place before n is in the list
contained : (text : List ℕ) (n i : ℕ) (token : Token) → i < n → token_at text i ≡ Some token → Contains (tokens_before text n) token
unfolding tokens_before
contained text zero i token below is = absurd (omega arith)
contained text (suc n) i token below is = elim (cases_lt i n) [
  | inl before ↦ Contains-append_left (tokens_before text n) (option_to_list (token_at text n)) token (contained text n i token before is)
  | inr last ↦ let same : n ≡ i = omega arith in Contains-append_right (tokens_before text n) (option_to_list (token_at text n)) token (rw (same, is) (0, omega arith, refl))
]

module _ (text : List ℕ) (none : (i : ℕ) → i < length text → fault_at text i ≡ None) where
  -- a token of the list begins at a place before n
  found_before : (n : ℕ) (token : Token) → n ≤ length text → Contains (tokens_before text n) token → (i : ℕ) × (i < n) × BeginsAt text i token
  unfolding tokens_before
  found_before zero token within (k, below, is) = absurd (omega arith)
  found_before (suc n) token within has = elim (Contains-append_cases (tokens_before text n) (option_to_list (token_at text n)) token has) [
    | inl before ↦ let found = found_before n token (omega arith) before in (found.0, omega (arith, found.1), found.2)
    | inr here ↦ (n, omega arith, token_begins text n token (omega arith) (none n (omega arith)) (grind (arith, here.1, here.2)))
  ]

  in_order : (i j : ℕ) (a b : Token) → BeginsAt text i a → BeginsAt text j b → i < j → token_at text j ≡ Some b → IsBefore a b
  in_order i j a b first second before is = let place : i + (j - i) ≡ j = omega arith in (
    grind (arith, first.alone j before, is, second.from),
    omega (arith, rw first.from at first.stands.line, rw second.from at second.stands.line, rw place at (line_at-mono text i (j - i))),
  )

  ordered : (n : ℕ) → n ≤ length text → AllPairs IsBefore (tokens_before text n)
  unfolding tokens_before
  ordered zero within = λ i j d before below. absurd (omega arith)
  ordered (suc n) within = add (token_at text n) refl (ordered n (omega arith)) where
    add : (o : Option Token) → token_at text n ≡ o → AllPairs IsBefore (tokens_before text n) → AllPairs IsBefore (tokens_before text n ++ option_to_list o)
    add None is earlier = rw (append-nil (tokens_before text n)) earlier
    add (Some token) is earlier = all_pairs_push IsBefore (tokens_before text n) token earlier (λ k d below.
        let found = found_before n (get_or (tokens_before text n) k d) (omega arith) (Contains-get_or (tokens_before text n) k d below) in
        in_order found.0 n _ token found.2 (token_begins text n token (omega arith) (none n (omega arith)) is) found.1 is)

  -- a byte that is read is in the token of a place
  token_of_byte : (i : ℕ) → i < length text → IsRead text i → (k : ℕ) × (token : Token) × (k ≤ i) × (token_at text k ≡ Some token) × (token.from ≤ i) × (i < token.upto)
  unfolding token_at stays_in_comment fault_at is_bad is_line_end
  token_of_byte i within read = by_class (class_of (get_or text i 0)) (class_is (get_or text i 0)) where
    by_class : (class : Class) → IsOfClass (get_or text i 0) class → (k : ℕ) × (token : Token) × (k ≤ i) × (token_at text k ≡ Some token) × (token.from ≤ i) × (i < token.upto)
    by_class (class.Sign mark) is =
        (i, record { mark = mark; from = i; upto = i + 1; line = line_at text i }, omega arith, grind (arith, read.0, is.sign), omega arith, omega arith)
    by_class class.Name is =
        let name = name_of_byte text i within read.0 is.name in
        (name.0, record { mark = Name; from = name.0; upto = name.0 + name_length text name.0; line = line_at text name.0 }, name.1, name.2, name.1, name.3)
    by_class class is = absurd (grind (arith, is, none i within, read.0, read.1, read.2, is_comment_step text i))

-- ---- the laws

-- what the list of a whole text's tokens covers, where no place has a fault
pub record IsList (text : List ℕ) (list : List Token) : Type 0 where
  pub spans : All (StandsIn text) list
  pub order : AllPairs IsBefore list
  pub covers : (i : ℕ) → i < length text → IsCovered list i ↔ IsRead text i

-- all places have passed
pub list_read : (text : List ℕ) (i : ℕ) (list : List Token) → ((k : ℕ) → k < i → fault_at text k ≡ None) → list ≡ tokens_before text i → i ≡ length text → IsList text list
list_read text i list passed so_far all = rw (so_far, all) (record {
  spans = λ k d below. (found_before text none (length text) (get_or (tokens_of text) k d) (omega arith) (Contains-get_or (tokens_of text) k d below)).2.stands;
  order = ordered text none (length text) (omega arith);
  covers = λ i within. (
    λ covered.
        let found = found_before text none (length text) covered.1 (omega arith) (covered.0, covered.2, covered.3) in
        found.2.read i (omega (arith, found.2.from, covered.4)) covered.4.1,
    λ read.
        let found = token_of_byte text none i within read in
        let has = contained text (length text) found.0 found.1 (omega (arith, found.2)) found.3 in
        (has.0, found.1, has.1, has.2, (found.4, found.5)),
  );
}) where
  none : (i : ℕ) → i < length text → fault_at text i ≡ None
  none k below = passed k (omega arith)
