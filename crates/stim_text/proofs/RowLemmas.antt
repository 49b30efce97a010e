-- One line: where it has no fault it is allowed, and the row that it is.
use Rattle.std.proofs.Common.{◌≡◌, ℕ, ◌+◌, ◌<◌, ◌≤◌, Bool, true, false, cond, eqb, List, [], ◌∷◌, length, Option, Some, None, inl, inr, sym, ap, ◌∙◌, subst, refl, arith}
use Rattle.std.proofs.lemmas.Bool.{cond-true, cond-false, and_parts, or_cases, cases_Bool, cases_eq, eqb-true, leb-true, eq-eqb, le-leb, ne_eqb}
use Rattle.std.proofs.lemmas.List.Sums.{sum_by-cons}
use Rattle.std.specs.Prelude.{◌⊎◌, ◌||◌, is_some, count_by}
use Rattle.std.specs.{List.list_all, List.filter_map, List.cons_option, Option.option_map}
use Rattle.limits.specs.declared.TheConstants.{MAX_CYCLES}
use Rattle.logic_four.specs.{declared.V4.V4, Values.char_value}
use Rattle.net_defs.specs.declared.stimulus.StimRow.{StimRow}
use Rattle.text_lines.specs.Bytes.{is_blank}
use Rattle.stim_text.specs.Rows.{IsRow, IsAllowed, may_stand, is_value_byte, width_of, wanted, fits_after, row_of, row_fault, fault_of}
use Rattle.stim_text.specs.{declared.refusal.StimNo.StimNo, Repeats.is_blank_part, Repeats.before_repeat, Repeats.repeat_of}
use Rattle.stim_text.proofs.RepeatLemmas.{repeat_range}

-- ---- no fault, and allowed

-- what a line without a fault is, if it is not blank
record IsFit (inputs cycles : ℕ) (part : List ℕ) (times : ℕ) : Type 0 where
  pub bytes : list_all (may_stand inputs) (before_repeat part) ≡ true
  pub repeat : repeat_of part ≡ Some times
  pub width : width_of inputs (before_repeat part) ≡ wanted inputs
  pub fits : cycles + times ≤ MAX_CYCLES

no_row : (b : Bool) (e f : StimNo) → cond b (Some e) (Some f) ≡ None → ⊥
no_row true e f none = cc
no_row false e f none = cc

all_pass : (a b c : Bool) (e f g : StimNo) → cond a (cond b (cond c None (Some e)) (Some f)) (Some g) ≡ None → (a ≡ true) × (b ≡ true) × (c ≡ true)
all_pass true true true e f g none = (refl, refl, refl)
all_pass a b c e f g none = cc

row_from_none : (inputs cycles line : ℕ) (part : List ℕ) (times : Option ℕ) → repeat_of part ≡ times → row_fault inputs cycles line (before_repeat part) times ≡ None → (n : ℕ) × IsFit inputs cycles part n
row_from_none inputs cycles line part None is none = absurd (no_row (list_all (may_stand inputs) (before_repeat part)) _ _ none)
row_from_none inputs cycles line part (Some times) is none =
    let pass = all_pass (list_all (may_stand inputs) (before_repeat part)) (eqb (width_of inputs (before_repeat part)) (wanted inputs)) (fits_after cycles times) _ _ _ none in (
      times,
      record {
        bytes = pass.0;
        repeat = is;
        width = eqb-true _ _ pass.1;
        fits = leb-true _ _ pass.2;
      },
    )

fit_from_none : (inputs cycles line : ℕ) (part : List ℕ) → fault_of inputs cycles line part ≡ None → (is_blank_part part ≡ true) ⊎ ((times : ℕ) × IsFit inputs cycles part times)
unfolding fault_of
fit_from_none inputs cycles line part none =
    elim (cases_Bool (is_blank_part part)) [
      | inl blank ↦ inl blank
      | inr filled ↦ inr (row_from_none inputs cycles line part (repeat_of part) refl (sym (cond-false _ _ _ filled) ∙ none))
    ]

none_from_blank : (inputs cycles line : ℕ) (part : List ℕ) → is_blank_part part ≡ true → fault_of inputs cycles line part ≡ None
unfolding fault_of
none_from_blank inputs cycles line part blank = cond-true _ _ _ blank

none_from_fit : (inputs cycles line : ℕ) (part : List ℕ) (times : ℕ) → IsFit inputs cycles part times → fault_of inputs cycles line part ≡ None
unfolding fault_of
none_from_fit inputs cycles line part times fit =
    elim (cases_Bool (is_blank_part part)) [
      | inl blank ↦ cond-true _ _ _ blank
      | inr filled ↦
          cond-false _ _ _ filled
          ∙ ap (row_fault inputs cycles line (before_repeat part)) fit.repeat
          ∙ cond-true _ _ _ fit.bytes
          ∙ cond-true _ _ _ (eq-eqb _ _ fit.width)
          ∙ cond-true _ _ _ (le-leb _ _ fit.fits)
    ]

pub allowed_from_none : (inputs cycles line : ℕ) (part : List ℕ) → fault_of inputs cycles line part ≡ None → IsAllowed inputs part
allowed_from_none inputs cycles line part none =
    elim (fit_from_none inputs cycles line part none) [
      | inl blank ↦ inl blank
      | inr fit ↦ inr (record { bytes = fit.1.bytes; repeat = ap is_some fit.1.repeat; width = fit.1.width })
    ]

-- ---- the row that a line is

some_of : (o : Option ℕ) → is_some o ≡ true → (n : ℕ) × (o ≡ Some n)
some_of None some = cc
some_of (Some n) some = (n, refl)

pub row_of-blank : (part : List ℕ) → is_blank_part part ≡ true → row_of part ≡ None
unfolding row_of
row_of-blank part blank = cond-true _ _ _ blank

-- a row whose line is allowed
pub record IsGood (inputs : ℕ) (row : StimRow) : Type 0 where
  pub values : length row.values ≡ inputs
  pub some : 1 ≤ row.times
  pub few : row.times ≤ MAX_CYCLES

value_byte_some : (inputs byte : ℕ) → 0 < inputs → is_value_byte inputs byte ≡ is_some (char_value byte)
unfolding is_value_byte
value_byte_some inputs byte some = cond-false _ _ _ (ne_eqb inputs 0 (λ e. omega arith))

no_value : (byte : ℕ) → may_stand 0 byte ≡ true → char_value byte ≡ None
unfolding may_stand is_value_byte is_blank
no_value byte stands =
    elim (or_cases (eqb byte 32 || eqb byte 9) (eqb byte 45) stands) [
      | inl blank ↦ elim (or_cases (eqb byte 32) (eqb byte 9) blank) [ inl space ↦ known 32 space refl | inr tab ↦ known 9 tab refl ]
      | inr dash ↦ known 45 dash refl
    ]
  where
    known : (n : ℕ) → eqb byte n ≡ true → char_value n ≡ None → char_value byte ≡ None
    known n is none = ap char_value (eqb-true byte n is) ∙ none

no_values : (bytes : List ℕ) → list_all (may_stand 0) bytes ≡ true → length (filter_map char_value bytes) ≡ 0
no_values [] stand = refl
no_values (byte ∷ bytes) stand =
    let both = and_parts _ _ stand in
    ap (λ o. length (cons_option o (filter_map char_value bytes))) (no_value byte both.0) ∙ no_values bytes both.1

some_values : (inputs : ℕ) (bytes : List ℕ) → 0 < inputs → length (filter_map char_value bytes) ≡ width_of inputs bytes
unfolding width_of
some_values inputs [] some = refl
some_values inputs (byte ∷ bytes) some =
    one_more (char_value byte) (filter_map char_value bytes)
    ∙ ap (λ n. cond (is_some (char_value byte)) 1 0 + n) (some_values inputs bytes some)
    ∙ ap (λ b. cond b 1 0 + count_by (is_value_byte inputs) bytes) (sym (value_byte_some inputs byte some))
    ∙ sym (sum_by-cons (λ b. cond (is_value_byte inputs b) 1 0) byte bytes)
  where
    one_more : (o : Option V4) (rest : List V4) → length (cons_option o rest) ≡ cond (is_some o) 1 0 + length rest
    one_more None rest = omega arith
    one_more (Some v) rest = omega arith

-- an allowed row has a value for each input
values_fit : (inputs : ℕ) (part : List ℕ) → IsRow inputs part → length (filter_map char_value (before_repeat part)) ≡ inputs
values_fit inputs part is =
    elim (cases_eq inputs 0) [
      | inl none ↦ no_values (before_repeat part) (subst (λ n. list_all (may_stand n) (before_repeat part) ≡ true) none is.bytes) ∙ sym none
      | inr some ↦ some_values inputs (before_repeat part) (omega arith) ∙ is.width ∙ omega arith
    ]

row_made : (part : List ℕ) (times : ℕ) (row : StimRow) → is_blank_part part ≡ false → repeat_of part ≡ Some times → row_of part ≡ Some row → (row.values ≡ filter_map char_value (before_repeat part)) × (row.times ≡ times)
unfolding row_of
row_made part times row filled is made =
    let same : Some row ≡ Some (record { values = filter_map char_value (before_repeat part); times = times }) = sym made ∙ cond-false _ _ _ filled ∙ ap (option_map (λ n. record { values = filter_map char_value (before_repeat part); times = n })) is in
    let equal : row ≡ record { values = filter_map char_value (before_repeat part); times = times } = cc in
    (ap (λ (r : StimRow). r.values) equal, ap (λ (r : StimRow). r.times) equal)

pub good_from_allowed : (inputs : ℕ) (part : List ℕ) (row : StimRow) → IsAllowed inputs part → row_of part ≡ Some row → IsGood inputs row
good_from_allowed inputs part row (inl blank) made = cc (row_of-blank part blank)
good_from_allowed inputs part row (inr is) made =
    let times = some_of (repeat_of part) is.repeat in
    elim (cases_Bool (is_blank_part part)) [
      | inl blank ↦ cc (row_of-blank part blank)
      | inr filled ↦
          let both = row_made part times.0 row filled times.1 made in
          let range = repeat_range part times.0 times.1 in
          record {
            values = ap length both.0 ∙ values_fit inputs part is;
            some = omega (arith, both.1, range.0);
            few = omega (arith, both.1, range.1);
          }
    ]

-- a row of a line without a fault has cycles for which there is room
pub fits_from_none : (inputs cycles line : ℕ) (part : List ℕ) (row : StimRow) → fault_of inputs cycles line part ≡ None → row_of part ≡ Some row → cycles + row.times ≤ MAX_CYCLES
fits_from_none inputs cycles line part row none made =
    elim (cases_Bool (is_blank_part part)) [
      | inl blank ↦ cc (row_of-blank part blank)
      | inr filled ↦
          elim (fit_from_none inputs cycles line part none) [
            | inl blank ↦ cc (row_of-blank part blank)
            | inr fit ↦ omega (arith, (row_made part fit.0 row filled fit.1.repeat made).1, fit.1.fits)
          ]
    ]

-- a row of an allowed line has no fault where its cycles fit
pub none_from_allowed : (inputs cycles line : ℕ) (part : List ℕ) → IsAllowed inputs part → ((row : StimRow) → row_of part ≡ Some row → cycles + row.times ≤ MAX_CYCLES) → fault_of inputs cycles line part ≡ None
unfolding row_of
none_from_allowed inputs cycles line part (inl blank) fits = none_from_blank inputs cycles line part blank
none_from_allowed inputs cycles line part (inr is) fits =
    let times = some_of (repeat_of part) is.repeat in
    elim (cases_Bool (is_blank_part part)) [
      | inl blank ↦ none_from_blank inputs cycles line part blank
      | inr filled ↦
          none_from_fit inputs cycles line part times.0 (record {
            bytes = is.bytes;
            repeat = times.1;
            width = is.width;
            fits = fits (record { values = filter_map char_value (before_repeat part); times = times.0 }) (cond-false _ _ _ filled ∙ ap (option_map (λ n. record { values = filter_map char_value (before_repeat part); times = n })) times.1);
          })
    ]
