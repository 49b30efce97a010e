-- Steps that hand on again what they handed on, over files that hold the same, but for want of memory and for files that can't be
-- read: one lemma for a step and then another, and one for each kind of step.
use Rattle.std.proofs.Common.{◌≡◌, ◌∙◌, ◌≤◌, sym, ap, refl, subst, inl, inr, ℕ, List, [], ◌∷◌, ◌++◌, Bool, true, false, length, Option, Some, None, Result, Ok, Err, le-leb}
use Rattle.std.specs.Prelude.{nat_le, if◌then◌else◌}
use Rattle.limits.specs.declared.TheConstants.{MAX_TEXT_BYTES}
use Rattle.refusals.specs.{declared.status.Status.TheVariants.Limit, Lines.too_long_line}
use Rattle.call_steps.specs.Checks.{read_fault, text_of}
use Rattle.call_steps.specs.Outcome.{Outcome, out_of_memory, refusal}
use Rattle.call_steps.specs.Readings.{Reading}
use Rattle.call_steps.specs.{FileSteps.FileAs, Steps.◌>>=◌, Steps.Checks, Steps.Gives, Steps.Step, Steps.TextIn}
use Rattle.yse_commands.proofs.lemmas.AnswerLemmas.{never_both, passed_once}
use Rattle.yse_commands.proofs.lemmas.ReachLemmas.{AreTold, Found, found_then, told_back, told_front}
use Rattle.yse_top.specs.Sequel.{HasUnread, IsOrFails}
use Rattle.yse_top.proofs.OneLemmas.{no_ok, same_err}

unread_back : (a b : List Reading) → HasUnread b → HasUnread (a ++ b)
unread_back [] b has = has
unread_back (reading ∷ a) b has = inr (unread_back a b has)

module _ (held : List ℕ → List ℕ) where
  -- over files that hold this
  pub record IsAgain {X : Type 0} (S : Step X) (x : X) : Type 0 where
    pub again : (readings : List Reading) (r : Result X Outcome) → AreTold (Some held) readings → S readings r → IsOrFails x readings r

  pub again_then : {X Y : Type 0} {First : Step X} {Next : X → Step Y} {x : X} {y : Y} → IsAgain First x → IsAgain (Next x) y → IsAgain (First >>= Next) y
  again_then {X} {Y} {First} {Next} {x} {y} first next = record { again = again }
    where
      later : (a b : List Reading) (r : Result Y Outcome) → IsOrFails y b r → IsOrFails y (a ++ b) r
      later a b (Ok z) same = same
      later a b (Err o) (inl memory) = inl memory
      later a b (Err o) (inr (file, fault, has)) = inr (file, fault, unread_back a b has)

      again : (readings : List Reading) (r : Result Y Outcome) → AreTold (Some held) readings → (First >>= Next) readings r → IsOrFails y readings r
      again readings r are (inl (a, b, e, z, f, n)) =
          let all : AreTold (Some held) (a ++ b) = subst (AreTold (Some held)) e are in
          let same : z ≡ x = first.again a (Ok z) (told_front (Some held) a b all) f in
          subst (λ rs. IsOrFails y rs r) (sym e) (later a b r (next.again b r (told_back (Some held) a b all) (subst (λ v. Next v b r) same n)))
      again readings (Err o) are (inr stops) = first.again readings (Err o) are stops
      again readings (Ok z) are (inr stops) = absurd stops

  pub again_gives : {X : Type 0} (x : X) → IsAgain (Gives x) x
  again_gives {X} x = record { again = again }
    where
      again : (readings : List Reading) (r : Result X Outcome) → AreTold (Some held) readings → Gives x readings r → IsOrFails x readings r
      again readings (Ok y) are (none, same) = cc
      again readings (Err o) are (none, same) = absurd (no_ok x o (sym same))

  pub again_checks : {X : Type 0} (Checked : Result X Outcome → Type 0) (x : X) → ((y : X) → Checked (Ok y) → y ≡ x) → ((o : Outcome) → Checked (Err o) → ⊥) → IsAgain (Checks Checked) x
  again_checks {X} Checked x one never = record { again = again }
    where
      again : (readings : List Reading) (r : Result X Outcome) → AreTold (Some held) readings → Checks Checked readings r → IsOrFails x readings r
      again readings (Ok y) are (none, inl is) = one y is
      again readings (Ok y) are (none, inr memory) = absurd (no_ok y out_of_memory memory)
      again readings (Err o) are (none, inl refused) = absurd (never o refused)
      again readings (Err o) are (none, inr memory) = inl (same_err {X = X} o out_of_memory memory)

  again_text : (file text : List ℕ) → text_of file (held file) ≡ Ok text → IsAgain (TextIn file) text
  again_text file text passes = record { again = again }
    where
      known : (readings : List Reading) (b : List ℕ) → AreTold (Some held) readings → readings ≡ record { file = file; bytes = Some b } ∷ [] → text_of file b ≡ Ok text
      known readings b are e =
          let all : AreTold (Some held) (record { file = file; bytes = Some b } ∷ []) = subst (AreTold (Some held)) e are in
          ap (text_of file) all.0 ∙ passes

      again : (readings : List Reading) (r : Result (List ℕ) Outcome) → AreTold (Some held) readings → TextIn file readings r → IsOrFails text readings r
      again readings (Ok t) are (None, e, fault) = absurd (no_ok t (read_fault file) fault)
      again readings (Ok t) are (Some b, e, inl whole) = passed_once t text (sym whole ∙ known readings b are e)
      again readings (Ok t) are (Some b, e, inr memory) = absurd (no_ok t out_of_memory memory)
      again readings (Err o) are (None, e, fault) = inr (file, same_err {X = List ℕ} o (read_fault file) fault, subst HasUnread (sym e) (inl refl))
      again readings (Err o) are (Some b, e, inl refused) = absurd (never_both text o (sym (known readings b are e) ∙ refused))
      again readings (Err o) are (Some b, e, inr memory) = inl (same_err {X = List ℕ} o out_of_memory memory)

  -- a file whose text is checked
  pub again_file : {X : Type 0} (file : List ℕ) (Check : List ℕ → Result X Outcome → Type 0) (text : List ℕ) (x : X) → text_of file (held file) ≡ Ok text → ((y : X) → Check text (Ok y) → y ≡ x) → ((o : Outcome) → Check text (Err o) → ⊥) → IsAgain (FileAs file Check) x
  again_file file Check text x passes one never = again_then (again_text file text passes) (again_checks (Check text) x one never)

-- a text that is held and isn't too long passes
pub held_passes : (file bytes text : List ℕ) → bytes ≡ text → length text ≤ MAX_TEXT_BYTES → text_of file bytes ≡ Ok text
held_passes file bytes text is short = by (nat_le (length bytes) MAX_TEXT_BYTES) (le-leb (length bytes) MAX_TEXT_BYTES (subst (λ (t : List ℕ). length t ≤ MAX_TEXT_BYTES) (sym is) short))
  where
    by : (b : Bool) → b ≡ true → (if b then Ok bytes else Err (refusal Limit (too_long_line file))) ≡ Ok text
    by true passes = cc
    by false never = cc

-- what was handed on once: the text of a file, and what it passed as
module _ (held : List ℕ → List ℕ) where
  pub found_check : {X : Type 0} (Checked : Result X Outcome → Type 0) (x : X) → Found (Some held) (Checks Checked) x → Checked (Ok x)
  found_check Checked x (readings, are, (none, inl is)) = is
  found_check Checked x (readings, are, (none, inr memory)) = absurd (no_ok x out_of_memory memory)

  pub found_gives : {X : Type 0} (x y : X) → Found (Some held) (Gives x) y → y ≡ x
  found_gives x y (readings, are, (none, same)) = cc

  found_text : (file text : List ℕ) → Found (Some held) (TextIn file) text → text_of file (held file) ≡ Ok text
  found_text file text (readings, are, (None, e, fault)) = absurd (no_ok text (read_fault file) fault)
  found_text file text (readings, are, (Some b, e, inl passed)) =
      let all : AreTold (Some held) (record { file = file; bytes = Some b } ∷ []) = subst (AreTold (Some held)) e are in
      ap (text_of file) (sym all.0) ∙ passed
  found_text file text (readings, are, (Some b, e, inr memory)) = absurd (no_ok text out_of_memory memory)

  pub found_file : {X : Type 0} (file : List ℕ) (Check : List ℕ → Result X Outcome → Type 0) (x : X) → Found (Some held) (FileAs file Check) x → (text : List ℕ) × (text_of file (held file) ≡ Ok text) × Check text (Ok x)
  found_file file Check x found =
      let (text, read, checked) = found_then (Some held) (TextIn file) (λ text. Checks (Check text)) x found in
      (text, found_text file text read, found_check (Check text) x checked)
