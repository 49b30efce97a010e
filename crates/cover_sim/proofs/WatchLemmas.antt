-- The marks of all signals, a cycle more, and one signal after the other.
use Rattle.std.proofs.Common.{◌≡◌, ◌∙◌, inl, inr, ℕ, ◌+◌, ◌-◌, ◌<◌, ◌≤◌, List, [], ◌∷◌, ◌++◌, length, replicate, get_or, set, refl, sym, ap, subst, arith, Some}
use Rattle.std.proofs.lemmas.List.{length-replicate, length-set, length_push, get_or_append_left, get_or_push, get_or_past, get_or_default}
use Rattle.std.proofs.lemmas.Option.{slice_get_within, slice_get-get_or, get_or_from_slice_get}
use Rattle.std.specs.List.{slice_get}
use Rattle.list_laws.proofs.{Members.set_same, Members.set_other, Options.one_some, Ranges.last_or, Ranges.replicate_read}
use Rattle.logic_four.specs.declared.V4.{V4, TheVariants.Undef}
use Rattle.net_defs.specs.{declared.netlist.Netlist.Netlist, Time.value_at}
use Rattle.cover_sim.specs.code.Watching.{no_marks, marks_after, value_in, HaveMarks, AreMarkedTo}
use Rattle.cover_sim.specs.{declared.marks.Marks.Marks, Marks.IsMarked}
use Rattle.cover_sim.proofs.MarkLemmas.{mark_more, mark_none, mark_same}

-- ---- one signal after the other

pub marked_none : (last row : List V4) (old : List Marks) → AreMarkedTo 0 last row old old
marked_none last row old = record {
  long = refl;
  done = λ s before below at. absurd (omega (arith, below));
  others = λ s above. refl;
}

pub marked_more : (count : ℕ) (last row : List V4) (old now new : List Marks) (d e : V4) → count < length old → count < length last → count < length row
    → new ≡ set now count (marks_after (get_or now count no_marks) (get_or last count d) (get_or row count e))
    → AreMarkedTo count last row old now → AreMarkedTo (count + 1) last row old new
marked_more count last row old now new d e within in_last in_row changed so_far = rw (changed, get_or_default last count d Undef in_last, get_or_default row count e Undef in_row) (record {
  long = length-set now count after ∙ so_far.long;
  done = λ s before below at. elim (last_or s count below) [
    | inl h ↦ set_other now count s after (λ same. absurd (omega (arith, h, same))) ∙ so_far.done s before h at
    | inr h ↦
        let there : slice_get now count ≡ Some before = so_far.others count (omega arith) ∙ subst (λ n. slice_get old n ≡ Some before) h at in
        let is : get_or now count no_marks ≡ before = get_or_from_slice_get now count before no_marks there in
        ap (slice_get (set now count after)) h ∙ (set_same now count after (omega (arith, within, so_far.long))
        ∙ (ap (λ m. Some (marks_after m (value_at last count) (value_at row count))) is ∙ ap (λ n. Some (marks_after before (value_at last n) (value_at row n))) (sym h)))
  ];
  others = λ s above. set_other now count s after (λ same. absurd (omega (arith, above, same))) ∙ so_far.others s (omega (arith, above));
}) where
  after : Marks
  after = marks_after (get_or now count no_marks) (value_at last count) (value_at row count)

-- ---- a cycle more

module _ (seen : List (List V4)) (row : List V4) (s : ℕ) where
  earlier_same : (cycle : ℕ) → 1 ≤ cycle → cycle ≤ length seen → value_in seen s cycle ≡ value_in (seen ++ row ∷ []) s cycle
  earlier_same cycle low high = ap (λ r. value_at r s) (sym (get_or_append_left seen (row ∷ []) [] (cycle - 1) (omega (arith, low, high))))

  last_is : value_at row s ≡ value_in (seen ++ row ∷ []) s (length seen + 1)
  last_is = ap (λ r. value_at r s) (sym (get_or_push seen row [] (length seen + 1 - 1) (omega arith)))

  no_row : length seen ≡ 0 → value_in seen s (length seen) ≡ Undef
  no_row none = ap (λ r. value_at r s) (get_or_past seen (length seen - 1) [] (omega (arith, none)))

pub marks_more : (net : Netlist) (marks new stored : List Marks) (last row now : List V4) (seen : List (List V4)) → length row ≡ length net.signals → now ≡ row → stored ≡ new → AreMarkedTo (length marks) last row marks new
    → HaveMarks net marks last seen → HaveMarks net stored now (seen ++ row ∷ [])
marks_more net marks new stored last row now seen wide kept stays marked so_far = rw stays (record {
  signals = marked.long ∙ so_far.signals;
  values = ap length kept ∙ wide;
  each = λ s mark at.
      let inside : s < length marks = omega (arith, slice_get_within new s mark at, marked.long) in
      let was = slice_get-get_or marks s no_marks inside in
      let before = get_or marks s no_marks in
      let is : marks_after before (value_at last s) (value_at row s) ≡ mark = one_some _ _ (sym (marked.done s before inside was) ∙ at) in
      subst (IsMarked (length (seen ++ row ∷ [])) (value_in (seen ++ row ∷ []) s)) is
      (subst (λ cycles. IsMarked cycles (value_in (seen ++ row ∷ []) s) (marks_after before (value_at last s) (value_at row s))) (sym (length_push seen row))
      (mark_more (length seen) (value_in (seen ++ row ∷ []) s) (value_at last s) (value_at row s)
      (λ some. so_far.kept s ∙ earlier_same seen row s (length seen) some (omega arith))
      (λ none. so_far.kept s ∙ no_row seen row s none) (last_is seen row s) before
      (mark_same (length seen) (value_in seen s) (value_in (seen ++ row ∷ []) s) before (earlier_same seen row s) (so_far.each s before was))));
  kept = λ s. ap (λ r. value_at r s) kept ∙ (last_is seen row s ∙ ap (value_in (seen ++ row ∷ []) s) (sym (length_push seen row)));
})

-- before the first cycle
pub marks_none : (net : Netlist) (marks : List Marks) (last : List V4) (count : ℕ) → count ≡ length net.signals → marks ≡ replicate count no_marks → last ≡ replicate count Undef → HaveMarks net marks last []
marks_none net marks last count long none undefined = rw (none, undefined) (record {
  signals = length-replicate count no_marks ∙ long;
  values = length-replicate count Undef ∙ long;
  each = λ s mark at.
      let is : no_marks ≡ mark = sym (replicate_read count s no_marks) ∙ get_or_from_slice_get (replicate count no_marks) s mark no_marks at in
      subst (IsMarked 0 (value_in [] s)) is (mark_none (value_in [] s));
  kept = λ s. replicate_read count s Undef;
})
