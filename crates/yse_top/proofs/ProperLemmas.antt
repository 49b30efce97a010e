-- A call is proper where each of its steps is: one lemma for a step and then another, and one for each kind of step.
use Rattle.std.proofs.Common.{◌≡◌, ◌≢◌, ◌∙◌, sym, ap, refl, subst, ◌⊎◌, inl, inr, ℕ, zero, suc, ◌+◌, ◌≤◌, List, [], ◌∷◌, ◌++◌, length, take, map, Option, Some, None, Result, Ok, Err, Bool, true, false, le-leb, arith}
use Rattle.std.proofs.lemmas.Bool.{leb-true}
use Rattle.std.proofs.lemmas.List.{append-nil, append_assoc, map-append}
use Rattle.std.specs.Prelude.{⊤, slice_get, nat_le, if◌then◌else◌}
use Rattle.limits.specs.declared.TheConstants.{MAX_TEXT_BYTES}
use Rattle.refusals.specs.{declared.status.Status.Status, Lines.too_long_line}
use Rattle.refusals.specs.declared.status.Status.TheVariants as status
use Rattle.call_steps.specs.Checks.{WritesTold, text_of, read_fault}
use Rattle.call_steps.specs.Outcome.{Outcome, Turns, done, refusal, out_of_memory, telling}
use Rattle.call_steps.specs.Readings.{Reading}
use Rattle.call_steps.specs.{FileSteps.FileAs, Steps.◌>>=◌, Steps.Call, Steps.Checks, Steps.Ends, Steps.Gives, Steps.Step, Steps.TextIn}
use Rattle.yse_top.specs.Law.{AreAlike, AgreeOn, AreGiven as AreGivenAt, HasCause, HasOutcome, IsProper as IsProperChain}
use Rattle.yse_commands.proofs.lemmas.AnswerLemmas.{never_both, passed_once, passes, refused_once, refuses}
use Rattle.yse_top.proofs.OneLemmas.{Agree, Hands, IsOnce, IsOne, alike, ends, no_ok, one_checks, one_ends, one_gives, one_text, one_then, same_err}

-- ---- outcomes

-- the statuses of what a text or its length refuses
abbrev pub IsOfText : Status → Type 0
IsOfText status.Netlist = ⊤
IsOfText status.Machine = ⊤
IsOfText status.Loop = ⊤
IsOfText status.Overfull = ⊤
IsOfText status.Stimulus = ⊤
IsOfText status.Limit = ⊤
IsOfText status.OrderText = ⊤
IsOfText status.LastList = ⊤
IsOfText status.ImageText = ⊤
IsOfText status.ImageMatch = ⊤
IsOfText status.FaultList = ⊤
IsOfText _ = ⊥

-- the statuses that an end may have, where memory may be wanting after the gates were told
abbrev pub IsOfEnd : Status → Type 0
IsOfEnd status.Done = ⊤
IsOfEnd status.Unfinished = ⊤
IsOfEnd status.Memory = ⊤
IsOfEnd _ = ⊥

-- the statuses that a command may have
abbrev pub IsOfCommand : Status → Type 0
IsOfCommand status.Words = ⊥
IsOfCommand status.WriteFault = ⊥
IsOfCommand _ = ⊤

text_is_command : (s : Status) → IsOfText s → IsOfCommand s
text_is_command status.Netlist is = tt
text_is_command status.Machine is = tt
text_is_command status.Loop is = tt
text_is_command status.Overfull is = tt
text_is_command status.Stimulus is = tt
text_is_command status.Limit is = tt
text_is_command status.OrderText is = tt
text_is_command status.LastList is = tt
text_is_command status.ImageText is = tt
text_is_command status.ImageMatch is = tt
text_is_command status.FaultList is = tt
text_is_command _ is = absurd is

end_is_command : (s : Status) → IsOfEnd s → IsOfCommand s
end_is_command status.Done is = tt
end_is_command status.Unfinished is = tt
end_is_command status.Memory is = tt
end_is_command _ is = absurd is

pub not_words : (s : Status) → IsOfCommand s → s ≢ status.Words
not_words s is same = subst IsOfCommand same is

-- a status that the text or an end has is no other one
pub of_text_not : (s other : Status) → IsOfText s → (IsOfText other → ⊥) → s ≢ other
of_text_not s other is not same = not (subst IsOfText same is)

pub of_end_not : (s other : Status) → IsOfEnd s → (IsOfEnd other → ⊥) → s ≢ other
of_end_not s other is not same = not (subst IsOfEnd same is)

pub memory_status : (o : Outcome) → o ≡ out_of_memory → o.status ≡ status.Memory
memory_status o is = ap (λ (o : Outcome). o.status) is

-- ---- what is known of each kind of step

-- a check answers once, and answers
pub record IsCheck {X : Type 0} (Checked : Result X Outcome → Type 0) : Type 0 where
  pub values : (x y : X) → Checked (Ok x) → Checked (Ok y) → x ≡ y
  pub either : (x : X) (o : Outcome) → Checked (Ok x) → Checked (Err o) → ⊥
  pub refusals : (o p : Outcome) → Checked (Err o) → Checked (Err p) → AreAlike o p
  pub some : ((x : X) × Checked (Ok x)) ⊎ ((o : Outcome) × Checked (Err o))
  pub of_text : (o : Outcome) → Checked (Err o) → IsOfText o.status

-- an end is one outcome, but for want of memory
pub record IsEnding (IsEnd : Outcome → Type 0) : Type 0 where
  pub one : (o p : Outcome) → IsEnd o → IsEnd p → o.status ≢ status.Memory → p.status ≢ status.Memory → AreAlike o p
  pub ends : (o : Outcome) → IsEnd o → IsOfEnd o.status

pub once_of : {X : Type 0} (Checked : Result X Outcome → Type 0) → IsCheck Checked → IsOnce Checked
once_of Checked check = record { values = check.values; either = check.either; refusals = check.refusals }

-- such an end there is
abbrev pub HasEnd : (Outcome → Type 0) → Type 0
HasEnd IsEnd = (o : Outcome) × IsEnd o × (o.status ≢ status.Memory)

-- the length of a text
pub text_check : (file bytes : List ℕ) → IsCheck (λ result. text_of file bytes ≡ result)
text_check file bytes = record {
  values = λ x y e f. passed_once x y (sym e ∙ f);
  either = λ x o e f. never_both x o (sym e ∙ f);
  refusals = λ o p e f. alike o p (refused_once o p (sym e ∙ f));
  some = some (nat_le (length bytes) MAX_TEXT_BYTES);
  of_text = of_text (nat_le (length bytes) MAX_TEXT_BYTES);
}
  where
    some : (b : Bool) → ((x : List ℕ) × ((if b then passes bytes else refuses (refusal status.Limit (too_long_line file))) ≡ Ok x)) ⊎ ((o : Outcome) × ((if b then passes bytes else refuses (refusal status.Limit (too_long_line file))) ≡ Err o))
    some true = inl (bytes, refl)
    some false = inr (refusal status.Limit (too_long_line file), refl)

    of_text : (b : Bool) (o : Outcome) → (if b then passes bytes else refuses (refusal status.Limit (too_long_line file))) ≡ Err o → IsOfText o.status
    of_text true o e = absurd (never_both bytes o e)
    of_text false o e = subst (λ (p : Outcome). IsOfText p.status) (refused_once (refusal status.Limit (too_long_line file)) o e) tt

-- a text that passes is short
pub passed_short : (file bytes text : List ℕ) → text_of file bytes ≡ Ok text → length text ≤ MAX_TEXT_BYTES
passed_short file bytes text = by (nat_le (length bytes) MAX_TEXT_BYTES) refl
  where
    by : (b : Bool) → nat_le (length bytes) MAX_TEXT_BYTES ≡ b → (if b then Ok bytes else Err (refusal status.Limit (too_long_line file))) ≡ Ok text → length text ≤ MAX_TEXT_BYTES
    by true is e = let same : bytes ≡ text = cc in subst (λ (t : List ℕ). length t ≤ MAX_TEXT_BYTES) same (leb-true (length bytes) MAX_TEXT_BYTES is)
    by false is e = cc

-- and a short text passes
pub short_passes : (file bytes : List ℕ) (o : Outcome) → length bytes ≤ MAX_TEXT_BYTES → text_of file bytes ≡ Err o → ⊥
short_passes file bytes o short = by (nat_le (length bytes) MAX_TEXT_BYTES) (le-leb (length bytes) MAX_TEXT_BYTES short)
  where
    by : (b : Bool) → b ≡ true → (if b then passes bytes else refuses (refusal status.Limit (too_long_line file))) ≡ Err o → ⊥
    by true is e = never_both bytes o e
    by false is e = cc

-- an output that is one
pub writes_ending : (told : Option Turns) (IsOutput : List ℕ → Type 0) → ((s t : List ℕ) → IsOutput s → IsOutput t → s ≡ t) → IsEnding (WritesTold told IsOutput)
writes_ending told IsOutput only = record {
  one = λ o p is is_too n m. subst (λ (q : Outcome). AreAlike q p) (sym is.2) (subst (AreAlike (telling told (done is.0))) (sym is_too.2)
      (record { status = refl; output = only is.0 is_too.0 is.1 is_too.1; told = refl; line = λ other. refl }));
  ends = λ o is. subst (λ (p : Outcome). IsOfEnd p.status) (sym is.2) tt;
}

-- an end after whose visits memory may be wanting
pub full_ending : (told : Option Turns) (IsEnd : Outcome → Type 0) → IsEnding IsEnd → IsEnding (λ o. IsEnd o ⊎ (o ≡ telling told out_of_memory))
full_ending told IsEnd end = record { one = one; ends = ends }
  where
    one : (o p : Outcome) → IsEnd o ⊎ (o ≡ telling told out_of_memory) → IsEnd p ⊎ (p ≡ telling told out_of_memory) → o.status ≢ status.Memory → p.status ≢ status.Memory → AreAlike o p
    one o p (inl is) (inl is_too) n m = end.one o p is is_too n m
    one o p (inl is) (inr full) n m = absurd (m (ap (λ (q : Outcome). q.status) full))
    one o p (inr full) is_too n m = absurd (n (ap (λ (q : Outcome). q.status) full))

    ends : (o : Outcome) → IsEnd o ⊎ (o ≡ telling told out_of_memory) → IsOfEnd o.status
    ends o (inl is) = end.ends o is
    ends o (inr full) = subst (λ (p : Outcome). IsOfEnd p.status) (sym full) tt

-- ---- the files that are begun

abbrev pub names_of : List Reading → List (List ℕ)
names_of readings = map (λ (reading : Reading). reading.file) readings

-- all files are begun where a value is handed on, and a front of them where the call ends
abbrev pub Begun : {X : Type 0} → List (List ℕ) → List Reading → Result X Outcome → Type 0
Begun files readings (Ok x) = names_of readings ≡ files
Begun files readings (Err o) = (more : List (List ℕ)) × (names_of readings ++ more ≡ files)

-- ---- causes

abbrev pub AreRead : List Reading → Type 0
AreRead [] = ⊤
AreRead (reading ∷ readings) = (reading.bytes ≢ None) × AreRead readings

read_both : (a b : List Reading) → AreRead a → AreRead b → AreRead (a ++ b)
read_both [] b are more = more
read_both (reading ∷ a) b (here, are) more = (here, read_both a b are more)

-- the last file could not be read
pub record IsUnread (readings : List Reading) (o : Outcome) : Type 0 where
  pub before : List Reading
  pub read : AreRead before
  pub file : List ℕ
  pub is : readings ≡ before ++ record { file = file; bytes = None } ∷ []
  pub fault : o ≡ read_fault file

-- all files were read, and there is no fault, or the last one could not be
abbrev pub Caused : {X : Type 0} → List Reading → Result X Outcome → Type 0
Caused readings (Ok x) = AreRead readings
Caused readings (Err o) = (AreRead readings × (o.status ≢ status.ReadFault) × (o.status ≢ status.WriteFault)) ⊎ IsUnread readings o

none_read : (readings : List Reading) → readings ≡ [] → AreRead readings
none_read readings e = subst AreRead (sym e) tt

-- ---- some outcome

abbrev pub AreGiven : (ℕ → List ℕ → Option (List ℕ)) → List Reading → Type 0
AreGiven give [] = ⊤
AreGiven give (reading ∷ readings) = (reading.bytes ≡ give zero reading.file) × AreGiven (λ place. give (suc place)) readings

abbrev pub later : ℕ → (ℕ → List ℕ → Option (List ℕ)) → ℕ → List ℕ → Option (List ℕ)
later zero give = give
later (suc n) give = later n (λ place. give (suc place))

given_both : (give : ℕ → List ℕ → Option (List ℕ)) (a b : List Reading) → AreGiven give a → AreGiven (later (length a) give) b → AreGiven give (a ++ b)
given_both give [] b are more = more
given_both give (reading ∷ a) b (here, are) more = (here, given_both (λ place. give (suc place)) a b are more)

abbrev pub IsMemory : {X : Type 0} → Result X Outcome → Type 0
IsMemory (Ok x) = ⊥
IsMemory (Err o) = o.status ≡ status.Memory

-- what the step comes to, whatever the files hold
pub record ComesTo {X : Type 0} (S : Step X) (give : ℕ → List ℕ → Option (List ℕ)) : Type 0 where
  pub readings : List Reading
  pub result : Result X Outcome
  pub is : S readings result
  pub given : AreGiven give readings
  pub known : IsMemory result → ⊥

-- ---- all of it

-- one outcome of the same readings; the files in their order; the causes; some outcome; and what is handed on
pub record IsSound {X : Type 0} (files : List (List ℕ)) (Is : X → Type 0) (S : Step X) : Type 0 where
  pub one : IsOne S
  pub begins : (readings : List Reading) (r : Result X Outcome) → S readings r → Begun files readings r
  pub causes : (readings : List Reading) (r : Result X Outcome) → S readings r → Caused readings r
  pub some : (give : ℕ → List ℕ → Option (List ℕ)) → ComesTo S give
  pub gives : (x : X) → Hands S x → Is x

-- and no refusal of words
pub record IsProper {X : Type 0} (files : List (List ℕ)) (Is : X → Type 0) (S : Step X) : Type 0 where
  pub sound : IsSound files Is S
  pub statuses : (readings : List Reading) (o : Outcome) → S readings (Err o) → IsOfCommand o.status

-- ---- a step and then another

module _ {X Y : Type 0} {files others : List (List ℕ)} {Is : X → Type 0} {Then : Y → Type 0} {First : Step X} {Next : X → Step Y} where
  pub sound_then : IsSound files Is First → ((x : X) → Is x → IsSound others Then (Next x)) → IsSound (files ++ others) Then (First >>= Next)
  sound_then first next = record {
    one = one_then First Next first.one (λ x may. (on x may).one);
    begins = begins;
    causes = causes;
    some = λ give. some give (first.some give).result refl;
    gives = gives;
  }
    where
      on : (x : X) → Hands First x → IsSound others Then (Next x)
      on x may = next x (first.gives x may)

      begun : (a b : List Reading) (r : Result Y Outcome) → names_of a ≡ files → Begun others b r → Begun (files ++ others) (a ++ b) r
      begun a b (Ok y) e f = map-append _ a b ∙ ap (λ t. t ++ names_of b) e ∙ ap (λ t. files ++ t) f
      begun a b (Err o) e (more, f) = (more, ap (λ t. t ++ more) (map-append _ a b ∙ ap (λ t. t ++ names_of b) e) ∙ append_assoc files (names_of b) more ∙ ap (λ t. files ++ t) f)

      begins : (readings : List Reading) (r : Result Y Outcome) → (First >>= Next) readings r → Begun (files ++ others) readings r
      begins readings r (inl (a, b, e, x, f, n)) = subst (λ t. Begun (files ++ others) t r) (sym e) (begun a b r (first.begins a (Ok x) f) ((on x (a, f)).begins b r n))
      begins readings (Err o) (inr stops) = let (more, e) = first.begins readings (Err o) stops in (more ++ others, sym (append_assoc (names_of readings) more others) ∙ ap (λ t. t ++ others) e)
      begins readings (Ok y) (inr stops) = absurd stops

      caused : (a b : List Reading) (r : Result Y Outcome) → AreRead a → Caused b r → Caused (a ++ b) r
      caused a b (Ok y) are more = read_both a b are more
      caused a b (Err o) are (inl (more, not_read, not_written)) = inl (read_both a b are more, not_read, not_written)
      caused a b (Err o) are (inr last) =
          inr (record { before = a ++ last.before; read = read_both a last.before are last.read; file = last.file; is = ap (λ t. a ++ t) last.is ∙ sym (append_assoc a last.before _); fault = last.fault })

      causes : (readings : List Reading) (r : Result Y Outcome) → (First >>= Next) readings r → Caused readings r
      causes readings r (inl (a, b, e, x, f, n)) = subst (λ t. Caused t r) (sym e) (caused a b r (first.causes a (Ok x) f) ((on x (a, f)).causes b r n))
      causes readings (Err o) (inr stops) = first.causes readings (Err o) stops
      causes readings (Ok y) (inr stops) = absurd stops

      some : (give : ℕ → List ℕ → Option (List ℕ)) (r : Result X Outcome) → (first.some give).result ≡ r → ComesTo (First >>= Next) give
      some give (Ok x) e =
          let f = first.some give in
          let is : First f.readings (Ok x) = subst (λ r. First f.readings r) e f.is in
          let n = (on x (f.readings, is)).some (later (length f.readings) give) in
          record { readings = f.readings ++ n.readings; result = n.result; is = inl (f.readings, n.readings, refl, x, is, n.is); given = given_both give f.readings n.readings f.given n.given; known = n.known }
      some give (Err o) e =
          let f = first.some give in
          record { readings = f.readings; result = Err o; is = inr (subst (λ r. First f.readings r) e f.is); given = f.given; known = λ m. f.known (subst (λ (r : Result X Outcome). IsMemory r) (sym e) m) }

      gives : (y : Y) → Hands (First >>= Next) y → Then y
      gives y (readings, inl (a, b, e, x, f, n)) = (on x (a, f)).gives y (b, n)
      gives y (readings, inr never) = absurd never

  pub proper_then : IsProper files Is First → ((x : X) → Is x → IsProper others Then (Next x)) → IsProper (files ++ others) Then (First >>= Next)
  proper_then first next = record { sound = sound_then first.sound (λ x is. (next x is).sound); statuses = statuses }
    where
      statuses : (readings : List Reading) (o : Outcome) → (First >>= Next) readings (Err o) → IsOfCommand o.status
      statuses readings o (inl (a, b, e, x, f, n)) = (next x (first.sound.gives x (a, f))).statuses b o n
      statuses readings o (inr stops) = first.statuses readings o stops

-- ---- a value

begun_none : {X : Type 0} (readings : List Reading) (r : Result X Outcome) → readings ≡ [] → Begun [] readings r
begun_none readings (Ok x) none = ap names_of none
begun_none readings (Err o) none = ([], append-nil (names_of readings) ∙ ap names_of none)

pub proper_gives : {X : Type 0} (Is : X → Type 0) (x : X) → Is x → IsProper [] Is (Gives x)
proper_gives {X} Is x is = record {
  sound = record {
    one = one_gives x;
    begins = λ readings r given. begun_none readings r given.0;
    causes = causes;
    some = λ give. record { readings = []; result = Ok x; is = (refl, refl); given = tt; known = λ m. m };
    gives = gives;
  };
  statuses = λ readings o given. absurd (no_ok x o (sym given.1));
}
  where
    causes : (readings : List Reading) (r : Result X Outcome) → Gives x readings r → Caused readings r
    causes readings (Ok y) (none, same) = none_read readings none
    causes readings (Err o) (none, same) = absurd (no_ok x o (sym same))

    gives : (y : X) → Hands (Gives x) y → Is y
    gives y (readings, (none, same)) = let e : x ≡ y = cc in subst Is e is

-- ---- a check

-- a check answers once, and answers, and what it refuses is no want of memory and no fault
pub record IsAnswered {X : Type 0} (Checked : Result X Outcome → Type 0) : Type 0 where
  pub once : IsOnce Checked
  pub some : ((x : X) × Checked (Ok x)) ⊎ ((o : Outcome) × Checked (Err o))
  pub not_memory : (o : Outcome) → Checked (Err o) → o.status ≢ status.Memory
  pub not_read : (o : Outcome) → Checked (Err o) → o.status ≢ status.ReadFault
  pub not_written : (o : Outcome) → Checked (Err o) → o.status ≢ status.WriteFault

-- want of memory is no fault
no_fault : (readings : List Reading) (o : Outcome) → AreRead readings → o ≡ out_of_memory → Caused readings (ends ⊥ o)
no_fault readings o are full = inl (are, of_end_not o.status status.ReadFault ended (λ is. is), of_end_not o.status status.WriteFault ended (λ is. is))
  where
    ended : IsOfEnd o.status
    ended = subst (λ (p : Outcome). IsOfEnd p.status) (sym full) tt

pub sound_checks : {X : Type 0} (Checked : Result X Outcome → Type 0) → IsAnswered Checked → IsSound [] (λ x. Checked (Ok x)) (Checks Checked)
sound_checks {X} Checked check = record {
  one = one_checks Checked check.once;
  begins = λ readings r is. begun_none readings r is.0;
  causes = causes;
  some = λ give. some check.some;
  gives = gives;
}
  where
    causes : (readings : List Reading) (r : Result X Outcome) → Checks Checked readings r → Caused readings r
    causes readings (Ok x) (none, is) = none_read readings none
    causes readings (Err o) (none, inl is) = inl (none_read readings none, check.not_read o is, check.not_written o is)
    causes readings (Err o) (none, inr full) = no_fault readings o (none_read readings none) (same_err {X = X} o out_of_memory full)

    some : {give : ℕ → List ℕ → Option (List ℕ)} → ((x : X) × Checked (Ok x)) ⊎ ((o : Outcome) × Checked (Err o)) → ComesTo (Checks Checked) give
    some (inl (x, is)) = record { readings = []; result = Ok x; is = (refl, inl is); given = tt; known = λ m. m }
    some (inr (o, is)) = record { readings = []; result = Err o; is = (refl, inl is); given = tt; known = check.not_memory o is }

    gives : (x : X) → Hands (Checks Checked) x → Checked (Ok x)
    gives x (readings, (none, inl is)) = is
    gives x (readings, (none, inr never)) = absurd (no_ok x _ never)

answered : {X : Type 0} (Checked : Result X Outcome → Type 0) → IsCheck Checked → IsAnswered Checked
answered Checked check = record {
  once = once_of Checked check;
  some = check.some;
  not_memory = λ o refused. of_text_not o.status status.Memory (check.of_text o refused) (λ is. is);
  not_read = λ o refused. of_text_not o.status status.ReadFault (check.of_text o refused) (λ is. is);
  not_written = λ o refused. of_text_not o.status status.WriteFault (check.of_text o refused) (λ is. is);
}

pub proper_checks : {X : Type 0} (Checked : Result X Outcome → Type 0) → IsCheck Checked → IsProper [] (λ x. Checked (Ok x)) (Checks Checked)
proper_checks {X} Checked check = record { sound = sound_checks Checked (answered Checked check); statuses = statuses }
  where
    statuses : (readings : List Reading) (o : Outcome) → Checks Checked readings (Err o) → IsOfCommand o.status
    statuses readings o (none, inl refused) = text_is_command o.status (check.of_text o refused)
    statuses readings o (none, inr full) = subst (λ (p : Outcome). IsOfCommand p.status) (sym (same_err {X = X} o out_of_memory full)) tt

-- ---- a file

abbrev pub IsShort : List ℕ → Type 0
IsShort text = length text ≤ MAX_TEXT_BYTES

proper_text : (file : List ℕ) → IsProper (file ∷ []) IsShort (TextIn file)
proper_text file = record {
  sound = record {
    one = one_text file;
    begins = begins;
    causes = causes;
    some = λ give. some give (give zero file) refl;
    gives = gives;
  };
  statuses = statuses;
}
  where
    alone : Option (List ℕ) → List Reading
    alone b = record { file = file; bytes = b } ∷ []

    begins : (readings : List Reading) (r : Result (List ℕ) Outcome) → TextIn file readings r → Begun (file ∷ []) readings r
    begins readings (Ok text) (b, e, gave) = ap names_of e
    begins readings (Err o) (b, e, gave) = ([], append-nil (names_of readings) ∙ ap names_of e)

    read_one : (readings : List Reading) (bytes : List ℕ) → readings ≡ alone (Some bytes) → AreRead readings
    read_one readings bytes e = subst AreRead (sym e) ((λ none. cc), tt)

    causes : (readings : List Reading) (r : Result (List ℕ) Outcome) → TextIn file readings r → Caused readings r
    causes readings (Ok text) (None, e, never) = absurd (no_ok text _ never)
    causes readings (Ok text) (Some bytes, e, gave) = read_one readings bytes e
    causes readings (Err o) (None, e, fault) = inr (record { before = []; read = tt; file = file; is = e; fault = same_err {X = List ℕ} o (read_fault file) fault })
    causes readings (Err o) (Some bytes, e, inl refused) =
        let check = answered (λ result. text_of file bytes ≡ result) (text_check file bytes) in
        inl (read_one readings bytes e, check.not_read o refused, check.not_written o refused)
    causes readings (Err o) (Some bytes, e, inr full) = no_fault readings o (read_one readings bytes e) (same_err {X = List ℕ} o out_of_memory full)

    some : (give : ℕ → List ℕ → Option (List ℕ)) (b : Option (List ℕ)) → give zero file ≡ b → ComesTo (TextIn file) give
    some give None e = record { readings = alone None; result = Err (read_fault file); is = (None, refl, refl); given = (sym e, tt); known = λ m. cc }
    some give (Some bytes) e = elim (text_check file bytes).some [
      | inl (text, is) ↦ record { readings = alone (Some bytes); result = Ok text; is = (Some bytes, refl, inl is); given = (sym e, tt); known = λ m. m }
      | inr (o, is) ↦ record { readings = alone (Some bytes); result = Err o; is = (Some bytes, refl, inl is); given = (sym e, tt); known = of_text_not o.status status.Memory ((text_check file bytes).of_text o is) (λ is. is) }
    ]

    gives : (text : List ℕ) → Hands (TextIn file) text → IsShort text
    gives text (readings, (None, e, never)) = absurd (no_ok text _ never)
    gives text (readings, (Some bytes, e, inl passed)) = passed_short file bytes text passed
    gives text (readings, (Some bytes, e, inr never)) = absurd (no_ok text _ never)

    statuses : (readings : List Reading) (o : Outcome) → TextIn file readings (Err o) → IsOfCommand o.status
    statuses readings o (None, e, fault) = subst (λ (p : Outcome). IsOfCommand p.status) (sym (same_err {X = List ℕ} o (read_fault file) fault)) tt
    statuses readings o (Some bytes, e, inl refused) = text_is_command o.status ((text_check file bytes).of_text o refused)
    statuses readings o (Some bytes, e, inr full) = subst (λ (p : Outcome). IsOfCommand p.status) (sym (same_err {X = List ℕ} o out_of_memory full)) tt

-- a file whose text is checked
pub proper_file : {X : Type 0} (file : List ℕ) (Check : List ℕ → Result X Outcome → Type 0) (Is : X → Type 0) → ((text : List ℕ) → IsCheck (Check text)) → ((text : List ℕ) (x : X) → IsShort text → Check text (Ok x) → Is x) → IsProper (file ∷ []) Is (FileAs file Check)
proper_file {X} file Check Is check is =
    proper_then (proper_text file) (λ text short. told text short (proper_checks (Check text) (check text)))
  where
    told : (text : List ℕ) → IsShort text → IsProper [] (λ x. Check text (Ok x)) (Checks (Check text)) → IsProper [] Is (Checks (Check text))
    told text short proper =
        let sound = proper.sound in
        record { sound = record { one = sound.one; begins = sound.begins; causes = sound.causes; some = sound.some; gives = λ x may. is text x short (sound.gives x may) }; statuses = proper.statuses }

-- ---- an end

pub proper_ends : (IsEnd : Outcome → Type 0) → IsEnding IsEnd → HasEnd IsEnd → IsProper [] (λ never. ⊥) (Ends IsEnd)
proper_ends IsEnd end (outcome, is, known) = record {
  sound = record {
    one = one_ends IsEnd end.one;
    begins = begins;
    causes = causes;
    some = λ give. record { readings = []; result = Err outcome; is = (refl, inl is); given = tt; known = known };
    gives = λ never may. never;
  };
  statuses = statuses;
}
  where
    begins : (readings : List Reading) (r : Result ⊥ Outcome) → Ends IsEnd readings r → Begun [] readings r
    begins readings (Ok never) is = absurd is
    begins readings (Err o) is = begun_none {X = ⊥} readings (Err o) is.0

    causes : (readings : List Reading) (r : Result ⊥ Outcome) → Ends IsEnd readings r → Caused readings r
    causes readings (Ok never) is = absurd is
    causes readings (Err o) (none, inl is) = inl (none_read readings none, of_end_not o.status status.ReadFault (end.ends o is) (λ is. is), of_end_not o.status status.WriteFault (end.ends o is) (λ is. is))
    causes readings (Err o) (none, inr full) = no_fault readings o (none_read readings none) full

    statuses : (readings : List Reading) (o : Outcome) → Ends IsEnd readings (Err o) → IsOfCommand o.status
    statuses readings o (none, inl is) = end_is_command o.status (end.ends o is)
    statuses readings o (none, inr full) = subst (λ (p : Outcome). IsOfCommand p.status) (sym full) tt

-- an end that writes an output, of which there is one
pub proper_writes : (told : Option Turns) (IsOutput : List ℕ → Type 0) → ((s t : List ℕ) → IsOutput s → IsOutput t → s ≡ t) → (s : List ℕ) × IsOutput s → IsProper [] (λ never. ⊥) (Ends (WritesTold told IsOutput))
proper_writes told IsOutput only (s, is) = proper_ends (WritesTold told IsOutput) (writes_ending told IsOutput only) (telling told (done s), (s, is, refl), λ e. cc)

-- ---- the law of calls

agree_on : (readings others : List Reading) → AgreeOn readings others → Agree readings others
agree_on [] others on = tt
agree_on (one ∷ readings) [] on = tt
agree_on (one ∷ readings) (other ∷ others) on = (on zero one other refl refl, agree_on readings others (λ place r s at at'. on (suc place) r s at at'))

take_front : (a : List Reading) (more : List (List ℕ)) → names_of a ≡ take (length a) (names_of a ++ more)
take_front [] more = refl
take_front (reading ∷ a) more = ap (λ fs. reading.file ∷ fs) (take_front a more)

given_at : (give : ℕ → List ℕ → Option (List ℕ)) (readings : List Reading) → AreGiven give readings → AreGivenAt give readings
given_at give [] are place reading at = cc
given_at give (one ∷ readings) (here, are) zero reading at = let same : one ≡ reading = cc in subst (λ (s : Reading). s.bytes ≡ give zero s.file) same here
given_at give (one ∷ readings) (here, are) (suc place) reading at = given_at (λ p. give (suc p)) readings are place reading at

read_at : (readings : List Reading) → AreRead readings → (place : ℕ) (reading : Reading) → slice_get readings place ≡ Some reading → reading.bytes ≢ None
read_at [] are place reading at = cc
read_at (one ∷ readings) (here, are) zero reading at = let same : one ≡ reading = cc in subst (λ (s : Reading). s.bytes ≢ None) same here
read_at (one ∷ readings) (here, are) (suc place) reading at = read_at readings are place reading at

one_more : (place count : ℕ) → place + 1 ≡ count → suc place + 1 ≡ suc count
one_more place count is = omega (arith, is)

-- the last of some is the only one that could not be read
last_of : (before : List Reading) (last : Reading) → AreRead before → (place : ℕ) (reading : Reading) → slice_get (before ++ last ∷ []) place ≡ Some reading → reading.bytes ≡ None → place + 1 ≡ length (before ++ last ∷ [])
last_of [] last are zero reading at none = refl
last_of [] last are (suc place) reading at none = cc
last_of (one ∷ before) last (here, are) zero reading at none = let same : one ≡ reading = cc in absurd (here (ap (λ (r : Reading). r.bytes) same ∙ none))
last_of (one ∷ before) last (here, are) (suc place) reading at none = one_more place (length (before ++ last ∷ [])) (last_of before last are place reading at none)

has_cause : (readings : List Reading) (o : Outcome) → Caused (readings) (ends ⊥ o) → HasCause readings o
has_cause readings o (inl (are, not_read, not_written)) = record {
  read_fault = λ is. absurd (not_read is);
  unread = λ place reading at none. absurd (read_at readings are place reading at none);
  none_written = not_written;
}
has_cause readings o (inr last) = record {
  read_fault = λ is. (last.before, last.file, last.is, ap (λ (p : Outcome). p.line) last.fault);
  unread = λ place reading at none. (
    status_is,
    subst (λ (rs : List Reading). place + 1 ≡ length rs) (sym last.is) (last_of last.before (record { file = last.file; bytes = None }) last.read place reading (subst (λ (rs : List Reading). slice_get rs place ≡ Some reading) last.is at) none),
  );
  none_written = λ written. other status_is written;
}
  where
    status_is : o.status ≡ status.ReadFault
    status_is = ap (λ (p : Outcome). p.status) last.fault

    other : {s : Status} → s ≡ status.ReadFault → s ≡ status.WriteFault → ⊥
    other a b = cc

pub law_of : (files : List (List ℕ)) (C : Call) → IsSound files (λ never. ⊥) C → IsProperChain files (λ readings o. C readings (Err o))
law_of files C sound = record {
  one = λ readings others o p is is' agree known known'. sound.one.one readings others (Err o) (Err p) is is' (agree_on readings others agree) known known';
  begun = λ readings o is. let (more, e) = sound.begins readings (Err o) is in subst (λ fs. names_of readings ≡ take (length readings) fs) e (take_front readings more);
  cause = λ readings o is. has_cause readings o (sound.causes readings (Err o) is);
}

pub outcome_of : (files : List (List ℕ)) (C : Call) → IsSound files (λ never. ⊥) C → HasOutcome (λ readings o. C readings (Err o))
outcome_of files C sound = record { some = λ give. by give (sound.some give).result refl }
  where
    by : (give : ℕ → List ℕ → Option (List ℕ)) (r : Result ⊥ Outcome) → (sound.some give).result ≡ r → (readings : List Reading) × (o : Outcome) × C readings (Err o) × AreGivenAt give readings × (o.status ≢ status.Memory)
    by give (Ok never) e = absurd never
    by give (Err o) e =
        let s = sound.some give in
        (s.readings, o, subst (λ r. C s.readings r) e s.is, given_at give s.readings s.given, subst (λ (r : Result ⊥ Outcome). IsMemory r → ⊥) e s.known)
