-- A text reads as an order exactly where it has no fault.
use Rattle.std.proofs.Common.{◌≡◌, ◌⊎◌, ℕ, ◌+◌, ◌<◌, ◌≤◌, Bool, true, false, cond, ltb, List, length, Option, Some, None, inl, inr, sym, ap, ◌∙◌, subst, refl, arith, replicate}
use Rattle.std.proofs.lemmas.Bool.{cond-true, cond-false, cases_Bool, ltb-true, leb-true, lt-ltb, le-leb}
use Rattle.std.proofs.lemmas.List.{length-replicate, Concat.length-flat_map}
use Rattle.std.specs.Prelude.{slice_get, All}
use Rattle.list_laws.proofs.Members.{each}
use Rattle.text_lines.specs.Lines.{parts_of}
use Rattle.stim_text.specs.Repeats.{is_blank_part, number_in, before_repeat, repeat_of}
use Rattle.stim_text.specs.OrderLines.{IsLine, IsAllowed, line_with, form_of, line_of, fits_after, form_fault, fault_of}
use Rattle.stim_text.specs.Orders.{Reads, IsValidOrder, lines_of, step_count, steps_of, first_fault}
use Rattle.stim_text.specs.declared.{order.Order.Order, order.OrderLine.OrderLine, refusal.OrderNo.OrderNo}
use Rattle.limits.specs.declared.TheConstants.{MAX_STEPS, MAX_REPEAT}
use Rattle.stim_text.proofs.ReadingLemmas.{all_from_none, none_from_all, few_from_none, items_hold, value_or_fault}
use Rattle.stim_text.proofs.RepeatLemmas.{repeat_range}

-- ---- one line

-- what a form without a fault is
record IsFit (ports steps : ℕ) (form : Option OrderLine) (line : OrderLine) : Type 0 where
  pub is : form ≡ Some line
  pub there : line.port < ports
  pub fits : steps + line.times ≤ MAX_STEPS

fit_from_none : (ports steps line : ℕ) (form : Option OrderLine) → form_fault ports steps line form ≡ None → (read : OrderLine) × IsFit ports steps form read
fit_from_none ports steps line None none = cc
fit_from_none ports steps line (Some read) none =
    let pass = both_pass (ltb read.port ports) (fits_after steps read.times) _ _ none in
    (read, record { is = refl; there = ltb-true _ _ pass.0; fits = leb-true _ _ pass.1 })
  where
    both_pass : (a b : Bool) (e f : OrderNo) → cond a (cond b None (Some e)) (Some f) ≡ None → (a ≡ true) × (b ≡ true)
    both_pass true true e f none = (refl, refl)
    both_pass a b e f none = cc

form_from_none : (ports steps line : ℕ) (part : List ℕ) → is_blank_part part ≡ false → fault_of ports steps line part ≡ None → (read : OrderLine) × IsFit ports steps (form_of part) read
unfolding fault_of
form_from_none ports steps line part filled none = fit_from_none ports steps line (form_of part) (sym (cond-false _ _ _ filled) ∙ none)

-- the parts of a form
parts_from_form : (port times : Option ℕ) (line : OrderLine) → line_with port times ≡ Some line → (port ≡ Some line.port) × (times ≡ Some line.times)
parts_from_form (Some port) (Some times) line is =
    let same : record { port = port; times = times } ≡ line = cc in
    (ap (λ (l : OrderLine). Some l.port) same, ap (λ (l : OrderLine). Some l.times) same)
parts_from_form port times line is = cc

line_from_form : (ports : ℕ) (part : List ℕ) (line : OrderLine) → form_of part ≡ Some line → line.port < ports → IsLine ports part line
line_from_form ports part line is there =
    let parts = parts_from_form (number_in (before_repeat part)) (repeat_of part) line is in
    record { port = parts.0; there = there; times = parts.1 }

form_from_line : (ports : ℕ) (part : List ℕ) (line : OrderLine) → IsLine ports part line → form_of part ≡ Some line
form_from_line ports part line is = ap (λ port. line_with port (repeat_of part)) is.port ∙ ap (line_with (Some line.port)) is.times

line_of-blank : (part : List ℕ) → is_blank_part part ≡ true → line_of part ≡ None
unfolding line_of
line_of-blank part blank = cond-true _ _ _ blank

line_of-filled : (part : List ℕ) → is_blank_part part ≡ false → line_of part ≡ form_of part
unfolding line_of
line_of-filled part filled = cond-false _ _ _ filled

none_from_blank : (ports steps line : ℕ) (part : List ℕ) → is_blank_part part ≡ true → fault_of ports steps line part ≡ None
unfolding fault_of
none_from_blank ports steps line part blank = cond-true _ _ _ blank

none_from_form : (ports steps line : ℕ) (part : List ℕ) (read : OrderLine) → is_blank_part part ≡ false → IsFit ports steps (form_of part) read → fault_of ports steps line part ≡ None
unfolding fault_of
none_from_form ports steps line part read filled fit =
    cond-false _ _ _ filled
    ∙ ap (form_fault ports steps line) fit.is
    ∙ cond-true _ _ _ (lt-ltb _ _ fit.there)
    ∙ cond-true _ _ _ (le-leb _ _ fit.fits)

-- a line without a fault is allowed
allowed_from_none : (ports steps line : ℕ) (part : List ℕ) → fault_of ports steps line part ≡ None → IsAllowed ports part
allowed_from_none ports steps line part none =
    elim (cases_Bool (is_blank_part part)) [
      | inl blank ↦ inl blank
      | inr filled ↦
          let fit = form_from_none ports steps line part filled none in
          inr (fit.0, line_from_form ports part fit.0 fit.1.is fit.1.there)
    ]

-- and there is room for its steps
fits_from_none : (ports steps line : ℕ) (part : List ℕ) (read : OrderLine) → fault_of ports steps line part ≡ None → line_of part ≡ Some read → steps + read.times ≤ MAX_STEPS
fits_from_none ports steps line part read none is =
    elim (cases_Bool (is_blank_part part)) [
      | inl blank ↦ cc (line_of-blank part blank)
      | inr filled ↦
          let fit = form_from_none ports steps line part filled none in
          let same : Some fit.0 ≡ Some read = sym fit.1.is ∙ sym (line_of-filled part filled) ∙ is in
          let equal : fit.0 ≡ read = cc in
          omega (arith, fit.1.fits, ap (λ (l : OrderLine). l.times) equal)
    ]

-- an allowed line has no fault where there is room for its steps
none_from_allowed : (ports steps line : ℕ) (part : List ℕ) → IsAllowed ports part → ((read : OrderLine) → line_of part ≡ Some read → steps + read.times ≤ MAX_STEPS) → fault_of ports steps line part ≡ None
none_from_allowed ports steps line part (inl blank) fits = none_from_blank ports steps line part blank
none_from_allowed ports steps line part (inr allowed) fits =
    elim (cases_Bool (is_blank_part part)) [
      | inl blank ↦ none_from_blank ports steps line part blank
      | inr filled ↦
          let form = form_from_line ports part allowed.0 allowed.1 in
          none_from_form ports steps line part allowed.0 filled (record {
            is = form;
            there = allowed.1.there;
            fits = fits allowed.0 (line_of-filled part filled ∙ form);
          })
    ]

-- the line of an order that an allowed line is
abbrev IsGood : ℕ → OrderLine → Type 0
IsGood ports line = (line.port < ports) × (1 ≤ line.times) × (line.times ≤ MAX_REPEAT)

good_from_allowed : (ports : ℕ) (part : List ℕ) (line : OrderLine) → IsAllowed ports part → line_of part ≡ Some line → IsGood ports line
good_from_allowed ports part line (inl blank) is = cc (line_of-blank part blank)
good_from_allowed ports part line (inr allowed) is =
    elim (cases_Bool (is_blank_part part)) [
      | inl blank ↦ cc (line_of-blank part blank)
      | inr filled ↦
          let same : Some allowed.0 ≡ Some line = sym (form_from_line ports part allowed.0 allowed.1) ∙ sym (line_of-filled part filled) ∙ is in
          let equal : allowed.0 ≡ line = cc in
          let range = repeat_range part allowed.0.times allowed.1.times in
          subst (IsGood ports) equal (allowed.1.there, range.0, range.1)
    ]

-- ---- all lines

-- no fault, so the text reads
pub reads_from_none : (ports : ℕ) (text : List ℕ) (lines : List OrderLine) → first_fault ports text ≡ None → lines ≡ lines_of (parts_of text) → step_count lines ≤ MAX_STEPS → Reads ports text (record { lines = lines })
reads_from_none ports text lines none is few = record {
  lines = all_from_none line_of (λ line. line.times) (fault_of ports) (parts_of text) (IsAllowed ports) (allowed_from_none ports) none;
  order_lines = is;
  steps = few;
}

-- the text reads, so it has no fault
pub none_from_reads : (ports : ℕ) (text : List ℕ) (order : Order) → Reads ports text order → first_fault ports text ≡ None
none_from_reads ports text order reads =
    none_from_all line_of (λ line. line.times) (fault_of ports) MAX_STEPS (parts_of text) (IsAllowed ports) (none_from_allowed ports) reads.lines (omega (arith, ap step_count reads.order_lines, reads.steps))

-- it reads as one order
pub one_order : (ports : ℕ) (text : List ℕ) (order other : Order) → Reads ports text order → Reads ports text other → order ≡ other
one_order ports text order other reads reads_other = rw (reads.order_lines ∙ sym reads_other.order_lines) refl

-- an order has as many steps as its repeats sum to
pub steps-sum : (order : Order) → length (steps_of order) ≡ step_count order.lines
steps-sum order = length-flat_map (λ (line : OrderLine). replicate line.times line.port) order.lines ∙ simp length-replicate

-- what a text reads as is valid
pub valid_from_reads : (ports : ℕ) (text : List ℕ) (order : Order) → Reads ports text order → IsValidOrder ports order
valid_from_reads ports text order reads = record {
  port = λ l line is. (good l line is).0;
  times = λ l line is. ((good l line is).1, (good l line is).2);
  steps = omega (arith, steps-sum order, reads.steps);
}
  where
    all : All (IsGood ports) order.lines
    all = subst (All (IsGood ports)) (sym reads.order_lines) (items_hold line_of (IsAllowed ports) (IsGood ports) (parts_of text) (good_from_allowed ports) reads.lines)

    good : (l : ℕ) (line : OrderLine) → slice_get order.lines l ≡ Some line → IsGood ports line
    good l line is = each (IsGood ports) order.lines l line all is

-- each text reads as an order, or it has a first fault
pub reads_or_fault : (ports : ℕ) (text : List ℕ) → ((order : Order) × Reads ports text order) ⊎ ((why : OrderNo) × (first_fault ports text ≡ Some why))
reads_or_fault ports text =
    value_or_fault (Reads ports text) (first_fault ports text) (λ none.
    (record { lines = lines_of (parts_of text) }, reads_from_none ports text (lines_of (parts_of text)) none refl (few_from_none line_of (λ line. line.times) (fault_of ports) MAX_STEPS (parts_of text) (fits_from_none ports) none)))
