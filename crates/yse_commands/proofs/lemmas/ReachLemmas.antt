-- What the files of a call say of the values that its steps hand on, and of its end: one lemma for a step and then another, and
-- one for each kind of step.
use Rattle.std.proofs.Common.{◌≡◌, sym, ap, refl, subst, inl, inr, ℕ, zero, suc, Bool, true, false, List, [], ◌∷◌, ◌++◌, Option, Some, None, Result, Ok, Err}
use Rattle.std.specs.Prelude.{⊤, slice_get, IfSome, nat_le, length, if◌then◌else◌}
use Rattle.limits.specs.declared.TheConstants.{MAX_TEXT_BYTES}
use Rattle.edge_io.specs.Names.{OfTold}
use Rattle.refusals.specs.{declared.status.Status.Status, Lines.too_long_line}
use Rattle.refusals.specs.declared.status.Status.TheVariants as status
use Rattle.call_steps.specs.Checks.{WritesTold, read_fault, text_of}
use Rattle.call_steps.specs.{FileSteps.FileAs, Outcome.Outcome, Outcome.Turns, Outcome.out_of_memory, Outcome.refusal, Readings.Reading}
use Rattle.call_steps.specs.Steps.{◌>>=◌, Call, Checks, Ends, Gives, IsTextOf, Step, TextIn}
use Rattle.yse_commands.specs.Ends.{MayWrite}
use Rattle.yse_commands.proofs.lemmas.AnswerLemmas.{passes, refuses, refused_once, never_both}

-- a call that may have written something, or told the gates something
abbrev pub Goes : Outcome → Type 0
Goes o = o.told ≡ None → MayWrite o.status

-- it is no refusal
pub never : (s : Status) (line : List ℕ) (o : Outcome) → o ≡ refusal s line → (MayWrite s → ⊥) → Goes o → ⊥
never s line o is other goes = other (subst MayWrite (ap (λ (p : Outcome). p.status) is) (goes (ap (λ (p : Outcome). p.told) is)))

abbrev ends : (X : Type 0) → Outcome → Result X Outcome
ends X o = Err o

abbrev gives : (X : Type 0) → X → Result X Outcome
gives X x = Ok x

no_ok : {X : Type 0} (x : X) (o : Outcome) → Ok x ≡ ends X o → ⊥
no_ok x o e = cc

same_err : {X : Type 0} (o p : Outcome) → ends X o ≡ ends X p → o ≡ p
same_err o p e = cc

full : (o : Outcome) (X : Type 0) → ends X o ≡ Err out_of_memory → Goes o → ⊥
full o X memory = never status.Memory _ o (same_err {X = X} o out_of_memory memory) (λ w. w)

-- the text of a file that passes is its bytes
pub whole_text : (file bytes text : List ℕ) → text_of file bytes ≡ Ok text → bytes ≡ text
whole_text file bytes text = by (nat_le (length bytes) MAX_TEXT_BYTES)
  where
    by : (b : Bool) → (if b then Ok bytes else Err (refusal status.Limit (too_long_line file))) ≡ Ok text → bytes ≡ text
    by true e = cc
    by false e = cc

too_long : (file read : List ℕ) (o : Outcome) → text_of file read ≡ Err o → Goes o → ⊥
too_long file read o = by (nat_le (length read) MAX_TEXT_BYTES)
  where
    by : (b : Bool) → (if b then passes read else refuses (refusal status.Limit (too_long_line file))) ≡ Err o → Goes o → ⊥
    by true e = absurd (never_both read o e)
    by false e = never status.Limit (too_long_line file) o (sym (refused_once (refusal status.Limit (too_long_line file)) o e)) (λ w. w)

-- what was read is what is told
abbrev pub AreAsTold : Option (List ℕ → List ℕ) → List Reading → Type 0
AreAsTold bytes readings = (place : ℕ) (reading : Reading) → slice_get readings place ≡ Some reading → IfSome reading.bytes (λ read. OfTold bytes reading.file (λ told. read ≡ told))

module _ (bytes : Option (List ℕ → List ℕ)) where
  -- the same, reading by reading
  abbrev pub AreTold : List Reading → Type 0
  AreTold [] = ⊤
  AreTold (reading ∷ readings) = IfSome reading.bytes (λ read. OfTold bytes reading.file (λ told. read ≡ told)) × AreTold readings

  pub all_told : (readings : List Reading) → AreAsTold bytes readings → AreTold readings
  all_told [] are = tt
  all_told (reading ∷ readings) are = (are zero reading refl, all_told readings (λ place r at. are (suc place) r at))

  pub told_front : (a b : List Reading) → AreTold (a ++ b) → AreTold a
  told_front [] b are = tt
  told_front (reading ∷ a) b (here, are) = (here, told_front a b are)

  pub told_back : (a b : List Reading) → AreTold (a ++ b) → AreTold b
  told_back [] b are = are
  told_back (reading ∷ a) b (here, are) = told_back a b are

  -- what a step says of its value, and that it ends a call by refusing alone
  pub record Reaches {X : Type 0} (S : Step X) (Is : X → Type 0) : Type 0 where
    pub tells : (readings : List Reading) (x : X) → AreTold readings → S readings (Ok x) → Is x
    pub only : (readings : List Reading) (o : Outcome) → S readings (Err o) → Goes o → ⊥

  -- what a call says of an outcome that is no refusal
  pub record Concludes (C : Call) (Is : Outcome → Type 0) : Type 0 where
    pub says : (readings : List Reading) (o : Outcome) → AreTold readings → C readings (Err o) → Goes o → Is o

  -- the step hands on this value, by what the files told
  abbrev pub Found : {X : Type 0} → Step X → X → Type 0
  Found S x = (readings : List Reading) × AreTold readings × S readings (Ok x)

  pub found : {X : Type 0} {S : Step X} {Is : X → Type 0} → Reaches S Is → Reaches S (Found S)
  found reaches = record { tells = λ readings x are step. (readings, are, step); only = reaches.only }

  pub found_then : {X Y : Type 0} (First : Step X) (Next : X → Step Y) (y : Y) → Found (First >>= Next) y → (x : X) × Found First x × Found (Next x) y
  found_then First Next y (readings, are, inl (a, b, e, x, f, n)) =
      let all : AreTold (a ++ b) = subst AreTold e are in
      (x, (a, told_front a b all, f), (b, told_back a b all, n))
  found_then First Next y (readings, are, inr never) = absurd never

  module _ {X : Type 0} {First : Step X} {Is : X → Type 0} where
    -- a step, and then a call
    pub says : {Next : X → Call} {Then : Outcome → Type 0} → Reaches First Is → ((x : X) → Is x → Concludes (Next x) Then) → Concludes (First >>= Next) Then
    says {Next} {Then} first next = record { says = by }
      where
        by : (readings : List Reading) (o : Outcome) → AreTold readings → (First >>= Next) readings (Err o) → Goes o → Then o
        by readings o are (inl (a, b, e, x, f, n)) goes =
            let all : AreTold (a ++ b) = subst AreTold e are in
            (next x (first.tells a x (told_front a b all) f)).says b o (told_back a b all) n goes
        by readings o are (inr stops) goes = absurd (first.only readings o stops goes)

    -- a step and then another
    pub reaches_then : {Y : Type 0} {Next : X → Step Y} {Then : Y → Type 0} → Reaches First Is → ((x : X) → Reaches (Next x) (λ y. Is x → Then y)) → Reaches (First >>= Next) Then
    reaches_then {Y} {Next} {Then} first next = record { tells = tells; only = only }
      where
        tells : (readings : List Reading) (y : Y) → AreTold readings → (First >>= Next) readings (Ok y) → Then y
        tells readings y are (inl (a, b, e, x, f, n)) =
            let all : AreTold (a ++ b) = subst AreTold e are in
            (next x).tells b y (told_back a b all) n (first.tells a x (told_front a b all) f)
        tells readings y are (inr stops) = absurd stops

        only : (readings : List Reading) (o : Outcome) → (First >>= Next) readings (Err o) → Goes o → ⊥
        only readings o (inl (a, b, e, x, f, n)) goes = (next x).only b o n goes
        only readings o (inr stops) goes = first.only readings o stops goes

  pub reaches_gives : {X : Type 0} (x : X) (Is : X → Type 0) → Is x → Reaches (Gives x) Is
  reaches_gives {X} x Is is = record { tells = λ readings y are given. tells y given.1; only = λ readings o given goes. no_ok x o (sym given.1) }
    where
      tells : (y : X) → gives X y ≡ gives X x → Is y
      tells y same = let e : x ≡ y = cc in subst Is e is

  pub reaches_check : {X : Type 0} (Checked : Result X Outcome → Type 0) → ((o : Outcome) → Checked (Err o) → Goes o → ⊥) → Reaches (Checks Checked) (λ x. Checked (Ok x))
  reaches_check {X} Checked refused = record { tells = tells; only = only }
    where
      tells : (readings : List Reading) (x : X) → AreTold readings → Checks Checked readings (Ok x) → Checked (Ok x)
      tells readings x are (none, inl passed) = passed
      tells readings x are (none, inr memory) = absurd (no_ok x out_of_memory memory)

      only : (readings : List Reading) (o : Outcome) → Checks Checked readings (Err o) → Goes o → ⊥
      only readings o (none, inl is) = refused o is
      only readings o (none, inr memory) = full o X memory

  -- the text of a file
  abbrev pub IsTold : List ℕ → List ℕ → Type 0
  IsTold file text = OfTold bytes file (λ told. text ≡ told)

  reaches_text : (file : List ℕ) → Reaches (TextIn file) (IsTold file)
  reaches_text file = record { tells = tells; only = only }
    where
      tells : (readings : List Reading) (text : List ℕ) → AreTold readings → TextIn file readings (Ok text) → IsTold file text
      tells readings text are (None, e, fault) = absurd (no_ok text (read_fault file) fault)
      tells readings text are (Some read, e, inl passed) =
          let all : AreTold (record { file = file; bytes = Some read } ∷ []) = subst AreTold e are in
          subst (IsTold file) (whole_text file read text passed) all.0
      tells readings text are (Some read, e, inr memory) = absurd (no_ok text out_of_memory memory)

      only : (readings : List Reading) (o : Outcome) → TextIn file readings (Err o) → Goes o → ⊥
      only readings o (None, e, fault) = never status.ReadFault _ o (same_err {X = List ℕ} o (read_fault file) fault) (λ w. w)
      only readings o (Some read, e, inl long) = too_long file read o long
      only readings o (Some read, e, inr memory) = full o (List ℕ) memory

  -- what the text of a file passes as
  abbrev pub IsOfFile : {X : Type 0} → List ℕ → (List ℕ → Result X Outcome → Type 0) → X → Type 0
  IsOfFile file Check x = (text : List ℕ) × IsTold file text × Check text (Ok x)

  pub reaches_file : {X : Type 0} (file : List ℕ) (Check : List ℕ → Result X Outcome → Type 0) → ((text : List ℕ) (o : Outcome) → Check text (Err o) → Goes o → ⊥) → Reaches (FileAs file Check) (IsOfFile file Check)
  reaches_file {X} file Check refused =
      let of : (text : List ℕ) → Reaches (Checks (Check text)) (λ x. IsTold file text → IsOfFile file Check x) = λ text.
      let check = reaches_check (Check text) (refused text) in
      record { tells = λ readings x are step told. (text, told, check.tells readings x are step); only = check.only } in
      reaches_then (reaches_text file) of

  -- an end
  pub says_ends : (IsEnd Is : Outcome → Type 0) → ((o : Outcome) → IsEnd o → Is o) → Concludes (Ends IsEnd) Is
  says_ends IsEnd Is so = record { says = by }
    where
      by : (readings : List Reading) (o : Outcome) → AreTold readings → Ends IsEnd readings (Err o) → Goes o → Is o
      by readings o are (none, inl is) goes = so o is
      by readings o are (none, inr memory) goes = absurd (never status.Memory _ o memory (λ w. w) goes)

  -- an end that writes
  pub says_writes : (told : Option Turns) (IsOutput : List ℕ → Type 0) (Is : Outcome → Type 0) → ((o : Outcome) → IsOutput o.output → o.told ≡ told → o.status ≡ status.Done → Is o) → Concludes (Ends (WritesTold told IsOutput)) Is
  says_writes told IsOutput Is so = says_ends (WritesTold told IsOutput) Is (λ o wrote.
      so o (subst IsOutput (sym (ap (λ (p : Outcome). p.output) wrote.2)) wrote.1) (ap (λ (p : Outcome). p.told) wrote.2) (ap (λ (p : Outcome). p.status) wrote.2))
