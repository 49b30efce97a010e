-- What a cycle more adds to marks; marks are only these, and there are some.
use Rattle.std.proofs.Common.{◌≡◌, ◌↔◌, ◌∙◌, inl, inr, ℕ, zero, suc, ◌+◌, ◌≤◌, Bool, true, false, ◌&&◌, ◌||◌, IsTrue, refl, sym, ap, subst, arith}
use Rattle.std.proofs.lemmas.Bool.{cases_lt, or_cases, or_left, or_right, and_parts, and_from}
use Rattle.logic_four.specs.declared.V4.TheVariants.{Zero, One, Undef, HighZ}
use Rattle.logic_four.specs.declared.V4.{V4}
use Rattle.cover_sim.specs.code.Watching.{is_zero, is_one, no_marks, marks_after}
use Rattle.cover_sim.specs.{declared.marks.Marks.Marks, Marks.Has, Marks.Changes, Marks.IsMarked}

zero_is : (v : V4) → IsTrue (is_zero v) ↔ (v ≡ Zero)
zero_is Zero = (λ h. refl, λ h. refl)
zero_is One = (λ h. cc, λ h. cc)
zero_is Undef = (λ h. cc, λ h. cc)
zero_is HighZ = (λ h. cc, λ h. cc)

one_is : (v : V4) → IsTrue (is_one v) ↔ (v ≡ One)
one_is Zero = (λ h. cc, λ h. cc)
one_is One = (λ h. refl, λ h. refl)
one_is Undef = (λ h. cc, λ h. cc)
one_is HighZ = (λ h. cc, λ h. cc)

module _ (cycles : ℕ) (value : ℕ → V4) where
  -- ---- a cycle more

  has_more : (wanted : V4) (mark test : Bool) → IsTrue test ↔ (value (cycles + 1) ≡ wanted) → IsTrue mark ↔ Has cycles value wanted → IsTrue (mark || test) ↔ Has (cycles + 1) value wanted
  has_more wanted mark test here before = (forth, back) where
    forth : IsTrue (mark || test) → Has (cycles + 1) value wanted
    forth either = elim (or_cases mark test either) [
      | inl h ↦ (let found = before.0 h in (found.0, found.1, omega (arith, found.2), found.3))
      | inr h ↦ (cycles + 1, omega arith, omega arith, here.0 h)
    ]

    back : Has (cycles + 1) value wanted → IsTrue (mark || test)
    back found = elim (cases_lt found.0 (cycles + 1)) [
      | inl h ↦ or_left mark test (before.1 (found.0, found.1, omega (arith, h), found.3))
      | inr h ↦
          let last : found.0 ≡ cycles + 1 = omega (arith, h, found.2) in
          or_right mark test (here.1 (ap value (sym last) ∙ found.3))
    ]

  changes_more : (from to : V4) (mark test : Bool) → IsTrue test ↔ ((1 ≤ cycles) × (value cycles ≡ from) × (value (cycles + 1) ≡ to)) → IsTrue mark ↔ Changes cycles value from to
      → IsTrue (mark || test) ↔ Changes (cycles + 1) value from to
  changes_more from to mark test here before = (forth, back) where
    forth : IsTrue (mark || test) → Changes (cycles + 1) value from to
    forth either = elim (or_cases mark test either) [
      | inl h ↦ (let found = before.0 h in (found.0, found.1, omega (arith, found.2), found.3, found.4))
      | inr h ↦ (let found = here.0 h in (cycles, found.0, omega arith, found.1, found.2))
    ]

    back : Changes (cycles + 1) value from to → IsTrue (mark || test)
    back found = elim (cases_lt found.0 cycles) [
      | inl h ↦ or_left mark test (before.1 (found.0, found.1, h, found.3, found.4))
      | inr h ↦
          let last : found.0 ≡ cycles = omega (arith, h, found.2) in
          or_right mark test (here.1 (omega (arith, last, found.1), ap value (sym last) ∙ found.3, ap (λ n. value (n + 1)) (sym last) ∙ found.4))
    ]

  module _ (last now : V4) (before : 1 ≤ cycles → last ≡ value cycles) (none : cycles ≡ 0 → last ≡ Undef) (here : now ≡ value (cycles + 1)) where
    value_here : (is : V4 → Bool) (wanted : V4) → ((v : V4) → IsTrue (is v) ↔ (v ≡ wanted)) → IsTrue (is now) ↔ (value (cycles + 1) ≡ wanted)
    value_here is wanted tells = (λ h. sym here ∙ (tells now).0 h, λ h. (tells now).1 (here ∙ h))

    change_here : (was is : V4 → Bool) (from to : V4) → ((v : V4) → IsTrue (was v) ↔ (v ≡ from)) → ((v : V4) → IsTrue (is v) ↔ (v ≡ to)) → was Undef ≡ false
        → IsTrue (was last && is now) ↔ ((1 ≤ cycles) × (value cycles ≡ from) × (value (cycles + 1) ≡ to))
    change_here was is from to tells_from tells_to not_undefined = (forth, back) where
      forth : IsTrue (was last && is now) → (1 ≤ cycles) × (value cycles ≡ from) × (value (cycles + 1) ≡ to)
      forth both =
          let parts = and_parts (was last) (is now) both in
          let some : 1 ≤ cycles = elim (cases_lt 0 cycles) [
            | inl h ↦ omega (arith, h)
            | inr h ↦ (let never : true ≡ false = sym parts.0 ∙ (ap was (none (omega (arith, h))) ∙ not_undefined) in cc)
          ] in
          (some, sym (before some) ∙ (tells_from last).0 parts.0, (value_here is to tells_to).0 parts.1)

      back : (1 ≤ cycles) × (value cycles ≡ from) × (value (cycles + 1) ≡ to) → IsTrue (was last && is now)
      back found = and_from (was last) (is now) ((tells_from last).1 (before found.0 ∙ found.1)) ((value_here is to tells_to).1 found.2)

    pub mark_more : (marks : Marks) → IsMarked cycles value marks → IsMarked (cycles + 1) value (marks_after marks last now)
    mark_more marks so_far = record {
      zero = has_more Zero marks.zero (is_zero now) (value_here is_zero Zero zero_is) so_far.zero;
      one = has_more One marks.one (is_one now) (value_here is_one One one_is) so_far.one;
      rise = changes_more Zero One marks.rise (is_zero last && is_one now) (change_here is_zero is_one Zero One zero_is one_is refl) so_far.rise;
      fall = changes_more One Zero marks.fall (is_one last && is_zero now) (change_here is_one is_zero One Zero one_is zero_is refl) so_far.fall;
    }

-- before the first cycle
pub mark_none : (value : ℕ → V4) → IsMarked 0 value no_marks
mark_none value = record {
  zero = (λ h. cc, λ found. absurd (omega (arith, found.1, found.2)));
  one = (λ h. cc, λ found. absurd (omega (arith, found.1, found.2)));
  rise = (λ h. cc, λ found. absurd (omega (arith, found.1, found.2)));
  fall = (λ h. cc, λ found. absurd (omega (arith, found.1, found.2)));
}

-- ---- other values that are the same

module _ (cycles : ℕ) (value other : ℕ → V4) (same : (cycle : ℕ) → 1 ≤ cycle → cycle ≤ cycles → value cycle ≡ other cycle) where
  pub has_same : (wanted : V4) → Has cycles value wanted → Has cycles other wanted
  has_same wanted found = (found.0, found.1, found.2, sym (same found.0 found.1 found.2) ∙ found.3)

  pub changes_same : (from to : V4) → Changes cycles value from to → Changes cycles other from to
  changes_same from to found = (
    found.0,
    found.1,
    found.2,
    sym (same found.0 found.1 (omega (arith, found.2))) ∙ found.3,
    sym (same (found.0 + 1) (omega arith) (omega (arith, found.2))) ∙ found.4,
  )

pub mark_same : (cycles : ℕ) (value other : ℕ → V4) (marks : Marks) → ((cycle : ℕ) → 1 ≤ cycle → cycle ≤ cycles → value cycle ≡ other cycle) → IsMarked cycles value marks → IsMarked cycles other marks
mark_same cycles value other marks same is = record {
  zero = (λ h. has_same cycles value other same Zero (is.zero.0 h), λ found. is.zero.1 (has_same cycles other value back Zero found));
  one = (λ h. has_same cycles value other same One (is.one.0 h), λ found. is.one.1 (has_same cycles other value back One found));
  rise = (λ h. changes_same cycles value other same Zero One (is.rise.0 h), λ found. is.rise.1 (changes_same cycles other value back Zero One found));
  fall = (λ h. changes_same cycles value other same One Zero (is.fall.0 h), λ found. is.fall.1 (changes_same cycles other value back One Zero found));
} where
  back : (cycle : ℕ) → 1 ≤ cycle → cycle ≤ cycles → other cycle ≡ value cycle
  back cycle low high = sym (same cycle low high)

-- ---- there are marks, and no others

module _ (value : ℕ → V4) where
  abbrev last_before : ℕ → V4
  last_before zero = Undef
  last_before (suc n) = value (suc n)

  some_last : (cycles : ℕ) → 1 ≤ cycles → last_before cycles ≡ value cycles
  some_last zero some = absurd (omega (arith, some))
  some_last (suc n) some = refl

  no_last : (cycles : ℕ) → cycles ≡ 0 → last_before cycles ≡ Undef
  no_last zero none = refl
  no_last (suc n) none = absurd (omega (arith, none))

  pub marks_made : (cycles : ℕ) → (marks : Marks) × IsMarked cycles value marks
  marks_made zero = (no_marks, mark_none value)
  marks_made (suc n) =
      let before = marks_made n in
      let made = marks_after before.0 (last_before n) (value (n + 1)) in
      let add : n + 1 ≡ suc n = omega arith in
      (made, subst (λ cycles. IsMarked cycles value made) add (mark_more n value (last_before n) (value (n + 1)) (some_last n) (no_last n) refl before.0 before.1))

same_test : {P : Type 0} (one other : Bool) → IsTrue one ↔ P → IsTrue other ↔ P → one ≡ other
same_test true true first second = refl
same_test true false first second = sym (second.1 (first.0 refl))
same_test false true first second = first.1 (second.0 refl)
same_test false false first second = refl

pub marks_only : (cycles : ℕ) (value : ℕ → V4) (some others : Marks) → IsMarked cycles value some → IsMarked cycles value others → others ≡ some
marks_only cycles value some others first second =
    marks_eq others some (same_test others.zero some.zero second.zero first.zero) (same_test others.one some.one second.one first.one)
    (same_test others.rise some.rise second.rise first.rise) (same_test others.fall some.fall second.fall first.fall) where
      marks_eq : (a b : Marks) → a.zero ≡ b.zero → a.one ≡ b.one → a.rise ≡ b.rise → a.fall ≡ b.fall → a ≡ b
      marks_eq a b zeros ones rises falls =
          ap (λ m. record { zero = m; one = a.one; rise = a.rise; fall = a.fall }) zeros
          ∙ (ap (λ m. record { zero = b.zero; one = m; rise = a.rise; fall = a.fall }) ones
          ∙ (ap (λ m. record { zero = b.zero; one = b.one; rise = m; fall = a.fall }) rises
          ∙ ap (λ m. record { zero = b.zero; one = b.one; rise = b.rise; fall = m }) falls))
