-- The same readings come to one value or one outcome: one lemma for a step and then another, and one for each kind of step.
use Rattle.std.proofs.Common.{◌≡◌, ◌≢◌, ◌∙◌, sym, ap, refl, subst, inl, inr, ℕ, List, [], ◌∷◌, ◌++◌, Option, Some, None, Result, Ok, Err}
use Rattle.std.specs.Prelude.{⊤}
use Rattle.call_steps.specs.Checks.{read_fault, text_of}
use Rattle.refusals.specs.declared.status.Status.TheVariants as status
use Rattle.call_steps.specs.Outcome.{Outcome, out_of_memory}
use Rattle.call_steps.specs.Readings.{Reading}
use Rattle.call_steps.specs.{Steps.◌>>=◌, Steps.Checks, Steps.Ends, Steps.Gives, Steps.IsTextOf, Steps.Step, Steps.TextIn}
use Rattle.yse_top.specs.Law.{AreAlike}
use Rattle.yse_commands.proofs.lemmas.AnswerLemmas.{never_both, passed_once, refused_once}

abbrev pub ends : (X : Type 0) → Outcome → Result X Outcome
ends X o = Err o

pub no_ok : {X : Type 0} (x : X) (o : Outcome) → Ok x ≡ ends X o → ⊥
no_ok x o e = cc

pub same_err : {X : Type 0} (o p : Outcome) → ends X o ≡ ends X p → o ≡ p
same_err o p e = cc

-- one outcome is like itself
pub alike : (one other : Outcome) → one ≡ other → AreAlike one other
alike one other same = record {
  status = ap (λ (o : Outcome). o.status) same;
  output = ap (λ (o : Outcome). o.output) same;
  told = ap (λ (o : Outcome). o.told) same;
  line = λ other_status. ap (λ (o : Outcome). o.line) same;
}

-- the value may be handed on
abbrev pub Hands : {X : Type 0} → Step X → X → Type 0
Hands S x = (readings : List Reading) × S readings (Ok x)

-- what a check answers, it answers once
pub record IsOnce {X : Type 0} (Checked : Result X Outcome → Type 0) : Type 0 where
  pub values : (x y : X) → Checked (Ok x) → Checked (Ok y) → x ≡ y
  pub either : (x : X) (o : Outcome) → Checked (Ok x) → Checked (Err o) → ⊥
  pub refusals : (o p : Outcome) → Checked (Err o) → Checked (Err p) → AreAlike o p

text_once : (file bytes : List ℕ) → IsOnce (λ result. text_of file bytes ≡ result)
text_once file bytes = record {
  values = λ x y e f. passed_once x y (sym e ∙ f);
  either = λ x o e f. never_both x o (sym e ∙ f);
  refusals = λ o p e f. alike o p (refused_once o p (sym e ∙ f));
}

-- two readings of one file at a place are the same
abbrev pub Agree : List Reading → List Reading → Type 0
Agree [] others = ⊤
Agree (one ∷ readings) [] = ⊤
Agree (one ∷ readings) (other ∷ others) = (one.file ≡ other.file → one.bytes ≡ other.bytes) × Agree readings others

-- no want of memory
abbrev pub IsKnown : {X : Type 0} → Result X Outcome → Type 0
IsKnown (Ok x) = ⊤
IsKnown (Err o) = o.status ≢ status.Memory

-- the same value of the same readings, or outcomes that are alike
abbrev pub AreSame : {X : Type 0} → List Reading → Result X Outcome → List Reading → Result X Outcome → Type 0
AreSame readings (Ok x) others (Ok y) = (readings ≡ others) × (x ≡ y)
AreSame readings (Ok x) others (Err p) = ⊥
AreSame readings (Err o) others (Ok y) = ⊥
AreSame readings (Err o) others (Err p) = AreAlike o p

pub record IsOne {X : Type 0} (S : Step X) : Type 0 where
  pub one : (readings others : List Reading) (r q : Result X Outcome) → S readings r → S others q → Agree readings others → IsKnown r → IsKnown q → AreSame readings r others q

agree_front : (a b c : List Reading) → Agree (a ++ b) c → Agree a c
agree_front [] b c agree = tt
agree_front (r ∷ a) b [] agree = tt
agree_front (r ∷ a) b (s ∷ c) (here, agree) = (here, agree_front a b c agree)

agree_fore : (a c d : List Reading) → Agree a (c ++ d) → Agree a c
agree_fore [] c d agree = tt
agree_fore (r ∷ a) [] d agree = tt
agree_fore (r ∷ a) (s ∷ c) d (here, agree) = (here, agree_fore a c d agree)

agree_back : (a b d : List Reading) → Agree (a ++ b) (a ++ d) → Agree b d
agree_back [] b d agree = agree
agree_back (r ∷ a) b d (here, agree) = agree_back a b d agree

pub one_then : {X Y : Type 0} (First : Step X) (Next : X → Step Y) → IsOne First → ((x : X) → Hands First x → IsOne (Next x)) → IsOne (First >>= Next)
one_then {X} {Y} First Next first next = record { one = one }
  where
    joined : (a b c d : List Reading) (r q : Result Y Outcome) → a ≡ c → AreSame b r d q → AreSame (a ++ b) r (c ++ d) q
    joined a b c d (Ok x) (Ok y) e (f, same) = (ap (λ t. t ++ b) e ∙ ap (λ t. c ++ t) f, same)
    joined a b c d (Ok x) (Err p) e never = never
    joined a b c d (Err o) (Ok y) e never = never
    joined a b c d (Err o) (Err p) e same = same

    both : (a b c d : List Reading) (x y : X) (r q : Result Y Outcome) → First a (Ok x) → Next x b r → First c (Ok y) → Next y d q → Agree (a ++ b) (c ++ d) → IsKnown r → IsKnown q → AreSame (a ++ b) r (c ++ d) q
    both a b c d x y r q f n f' n' agree kr kq =
        let same : (a ≡ c) × (x ≡ y) = first.one a c (Ok x) (Ok y) f f' (agree_fore a c d (agree_front a b (c ++ d) agree)) tt tt in
        joined a b c d r q same.0
        ((next x (a, f)).one b d r q n (subst (λ v. Next v d q) (sym same.1) n') (agree_back a b d (subst (λ t. Agree (a ++ b) (t ++ d)) (sym same.0) agree)) kr kq)

    one : (readings others : List Reading) (r q : Result Y Outcome) → (First >>= Next) readings r → (First >>= Next) others q → Agree readings others → IsKnown r → IsKnown q → AreSame readings r others q
    one readings others r q (inl (a, b, e, x, f, n)) (inl (c, d, e', y, f', n')) agree kr kq =
        subst (λ t. AreSame t r others q) (sym e) (subst (λ t. AreSame (a ++ b) r t q) (sym e')
        (both a b c d x y r q f n f' n' (subst (λ t. Agree t (c ++ d)) e (subst (λ t. Agree readings t) e' agree)) kr kq))
    one readings others r (Err p) (inl (a, b, e, x, f, n)) (inr stops) agree kr kq =
        absurd (first.one a others (Ok x) (Err p) f stops (agree_front a b others (subst (λ t. Agree t others) e agree)) tt kq)
    one readings others r (Ok y) (inl (a, b, e, x, f, n)) (inr stops) agree kr kq = absurd stops
    one readings others (Err o) q (inr stops) (inl (c, d, e', y, f', n')) agree kr kq =
        absurd (first.one readings c (Err o) (Ok y) stops f' (agree_fore readings c d (subst (λ t. Agree readings t) e' agree)) kr tt)
    one readings others (Ok y) q (inr stops) (inl more) agree kr kq = absurd stops
    one readings others (Err o) (Err p) (inr stops) (inr stops') agree kr kq = first.one readings others (Err o) (Err p) stops stops' agree kr kq
    one readings others (Ok y) q (inr stops) (inr stops') agree kr kq = absurd stops
    one readings others (Err o) (Ok y) (inr stops) (inr stops') agree kr kq = absurd stops'

pub one_gives : {X : Type 0} (x : X) → IsOne (Gives x)
one_gives {X} x = record {
  one = λ readings others r q given given' agree kr kq.
      subst (λ s. AreSame readings s others q) (sym given.1) (subst (λ s. AreSame readings (Ok x) others s) (sym given'.1) (given.0 ∙ sym given'.0, refl));
}

known_not : {X : Type 0} (r : Result X Outcome) → IsKnown r → r ≡ Err out_of_memory → ⊥
known_not (Ok x) known e = no_ok x _ e
known_not {X} (Err o) known e = known (ap (λ (p : Outcome). p.status) (same_err {X = X} o out_of_memory e))

answered_once : {X : Type 0} (Checked : Result X Outcome → Type 0) → IsOnce Checked → (readings others : List Reading) → readings ≡ others → (r q : Result X Outcome) → Checked r → Checked q → AreSame readings r others q
answered_once Checked once readings others e (Ok x) (Ok y) is is' = (e, once.values x y is is')
answered_once Checked once readings others e (Ok x) (Err p) is is' = once.either x p is is'
answered_once Checked once readings others e (Err o) (Ok y) is is' = once.either y o is' is
answered_once Checked once readings others e (Err o) (Err p) is is' = once.refusals o p is is'

pub one_checks : {X : Type 0} (Checked : Result X Outcome → Type 0) → IsOnce Checked → IsOne (Checks Checked)
one_checks {X} Checked once = record { one = one }
  where
    one : (readings others : List Reading) (r q : Result X Outcome) → Checks Checked readings r → Checks Checked others q → Agree readings others → IsKnown r → IsKnown q → AreSame readings r others q
    one readings others r q (none, inl is) (none', inl is') agree kr kq = answered_once Checked once readings others (none ∙ sym none') r q is is'
    one readings others r q (none, inl is) (none', inr full) agree kr kq = absurd (known_not q kq full)
    one readings others r q (none, inr full) other agree kr kq = absurd (known_not r kr full)

pub one_ends : (IsEnd : Outcome → Type 0) → ((o p : Outcome) → IsEnd o → IsEnd p → o.status ≢ status.Memory → p.status ≢ status.Memory → AreAlike o p) → IsOne (Ends IsEnd)
one_ends IsEnd once = record { one = one }
  where
    one : (readings others : List Reading) (r q : Result ⊥ Outcome) → Ends IsEnd readings r → Ends IsEnd others q → Agree readings others → IsKnown r → IsKnown q → AreSame readings r others q
    one readings others (Ok never) q is is' agree kr kq = absurd is
    one readings others (Err o) (Ok never) is is' agree kr kq = absurd is'
    one readings others (Err o) (Err p) (none, inl is) (none', inl is') agree kr kq = once o p is is' kr kq
    one readings others (Err o) (Err p) (none, inl is) (none', inr full) agree kr kq = absurd (kq (ap (λ (o : Outcome). o.status) full))
    one readings others (Err o) (Err p) (none, inr full) other agree kr kq = absurd (kr (ap (λ (o : Outcome). o.status) full))

once_of : (file : List ℕ) (b : Option (List ℕ)) (readings others : List Reading) → readings ≡ others → (r q : Result (List ℕ) Outcome) → IsTextOf file b r → IsTextOf file b q → IsKnown r → IsKnown q → AreSame readings r others q
once_of file None readings others e r q is is' kr kq =
    subst (λ s. AreSame readings s others q) (sym is) (subst (λ s. AreSame readings (Err (read_fault file)) others s) (sym is') (alike (read_fault file) (read_fault file) refl))
once_of file (Some bytes) readings others e r q (inl is) (inl is') kr kq = answered_once (λ s. text_of file bytes ≡ s) (text_once file bytes) readings others e r q is is'
once_of file (Some bytes) readings others e r q (inl is) (inr full) kr kq = absurd (known_not q kq full)
once_of file (Some bytes) readings others e r q (inr full) other kr kq = absurd (known_not r kr full)

pub one_text : (file : List ℕ) → IsOne (TextIn file)
one_text file = record { one = one }
  where
    one : (readings others : List Reading) (r q : Result (List ℕ) Outcome) → TextIn file readings r → TextIn file others q → Agree readings others → IsKnown r → IsKnown q → AreSame readings r others q
    one readings others r q (b, e, gave) (c, e', gave') agree kr kq =
        let both : (file ≡ file → b ≡ c) × ⊤ = subst (λ t. Agree t (record { file = file; bytes = c } ∷ [])) e (subst (λ t. Agree readings t) e' agree) in
        let same : b ≡ c = both.0 refl in
        once_of file b readings others (e ∙ ap (λ d. record { file = file; bytes = d } ∷ []) same ∙ sym e') r q gave (subst (λ d. IsTextOf file d q) (sym same) gave') kr kq
