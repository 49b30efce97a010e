-- What is kept of the lines so far is enough to tell the fault of the next one.
use Rattle.std.proofs.Common.{◌≡◌, ℕ, ◌+◌, ◌≤◌, ◌||◌, ◌&&◌, Bool, true, false, cond, nat_eq, List, [], ◌∷◌, ◌++◌, length, take, drop, get_or, Option, Some, None, sym, ap, ◌∙◌, subst, refl, arith, append-nil, add-one}
use Rattle.std.proofs.lemmas.List.{take_more, take_all, Elements.filter_map-append}
use Rattle.std.specs.List.{list_any, enumerate_from, filter_map, cons_option}
use Rattle.text_lines.specs.Answers.{first}
use Rattle.text_lines.proofs.lemmas.AnswerLemmas.{first-zero, first_none_more, first_some}
use Rattle.machine_text.specs.declared.saying.Says.TheVariants.{Nothing, Sets, Limits, Other}
use Rattle.machine_text.specs.Settings.{same_given, setting_of, settings_of, sets}
use Rattle.machine_text.specs.code.Given.{fault_in, given_after, given_fault, ports_in}
use Rattle.machine_text.specs.declared.{given.Given.Given, machine.Limited.Limited}
use Rattle.machine_text.specs.declared.machine.{Limited.TheVariants.Functions, Limited.TheVariants.Nodes, Limited.TheVariants.Bits, MachNo.MachNo}
use Rattle.machine_text.specs.{declared.quantity.Quantity.Quantity, declared.saying.Setting.Setting, declared.saying.Says.Says, Limits.same_limited}
use Rattle.machine_text.specs.{Quantities.same_quantity, Quantities.in_range, Quantities.quantity_of, Machines.fault_of, Machines.line_fault}
use Rattle.machine_text.proofs.SayingLemmas.{IsNext, next_said, no_next_said}

-- the port that a line limits in this, if it does
abbrev port_limited : Limited → Says → Option ℕ
port_limited what (Limits which port n) = cond (same_limited what which) (Some port) None
port_limited what _ = None

abbrev ports_limited : Limited → List Says → List ℕ
ports_limited what says = filter_map (port_limited what) says

-- what is kept of these lines
abbrev pub given_by : List Says → Given
given_by says = record {
  settings = settings_of says;
  functions = ports_limited Functions says;
  nodes = ports_limited Nodes says;
  bits = ports_limited Bits says;
}

ports_in-given_by : (what : Limited) (says : List Says) → ports_in (given_by says) what ≡ ports_limited what says
ports_in-given_by Functions says = refl
ports_in-given_by Nodes says = refl
ports_in-given_by Bits says = refl

-- one more line
given_more : (says : List Says) (said : Says) → given_by (says ++ said ∷ []) ≡ given_after (given_by says) said
unfolding settings_of
given_more says said =
    rw (filter_map-append setting_of says (said ∷ []), filter_map-append (port_limited Functions) says (said ∷ []), filter_map-append (port_limited Nodes) says (said ∷ []), filter_map-append (port_limited Bits) says (said ∷ []))
    (by_case said (filter_map setting_of says) (ports_limited Functions says) (ports_limited Nodes says) (ports_limited Bits says))
  where
    by_case : (said : Says) (settings : List Setting) (functions nodes bits : List ℕ) → ◌≡◌ {A = Given} (record {
      settings = settings ++ cons_option (setting_of said) [];
      functions = functions ++ cons_option (port_limited Functions said) [];
      nodes = nodes ++ cons_option (port_limited Nodes said) [];
      bits = bits ++ cons_option (port_limited Bits said) [];
    }) (given_after (record { settings = settings; functions = functions; nodes = nodes; bits = bits }) said)
    by_case Nothing settings functions nodes bits = rw (append-nil settings, append-nil functions, append-nil nodes, append-nil bits) refl
    by_case Other settings functions nodes bits = rw (append-nil settings, append-nil functions, append-nil nodes, append-nil bits) refl
    by_case (Sets quantity n) settings functions nodes bits = rw (append-nil functions, append-nil nodes, append-nil bits) refl
    by_case (Limits Functions port n) settings functions nodes bits = rw (append-nil settings, append-nil nodes, append-nil bits) refl
    by_case (Limits Nodes port n) settings functions nodes bits = rw (append-nil settings, append-nil functions, append-nil bits) refl
    by_case (Limits Bits port n) settings functions nodes bits = rw (append-nil settings, append-nil functions, append-nil nodes) refl

set_before : (quantity : Quantity) (n : ℕ) (says : List Says) → list_any (sets quantity) (settings_of says) ≡ list_any (same_given (Sets quantity n)) says
unfolding settings_of
set_before quantity n [] = refl
set_before quantity n (Sets a m ∷ says) = ap (λ b. same_quantity quantity a || b) (set_before quantity n says)
set_before quantity n (said ∷ says) = set_before quantity n says

limited_before : (what : Limited) (port n : ℕ) (says : List Says) → list_any (nat_eq port) (ports_limited what says) ≡ list_any (same_given (Limits what port n)) says
limited_before what port n [] = refl
limited_before what port n (Limits which other m ∷ says) =
    chosen (same_limited what which) (ports_limited what says) (limited_before what port n says)
  where
    chosen : (b : Bool) (later : List ℕ) → list_any (nat_eq port) later ≡ list_any (same_given (Limits what port n)) says → list_any (nat_eq port) (cons_option (cond b (Some other) None) later) ≡ ((b && nat_eq port other) || list_any (same_given (Limits what port n)) says)
    chosen true later e = ap (λ b. nat_eq port other || b) e
    chosen false later e = e
limited_before what port n (said ∷ says) = limited_before what port n says

fault_same : (says : List Says) (line : ℕ) (said : Says) → fault_in (given_by says) line said ≡ fault_of says line said
fault_same says line (Sets quantity n) = ap (λ twice. given_fault line twice (in_range quantity n)) (set_before quantity n says)
fault_same says line (Limits what port n) =
    ap (λ twice. given_fault line twice (in_range (quantity_of what) n)) (ap (list_any (nat_eq port)) (ports_in-given_by what says) ∙ limited_before what port n says)
fault_same says line said = refl

-- ---- the loop over the lines

-- k lines have passed, which had no fault and gave this, and these are ahead
pub record HasTaken (says : List Says) (k : ℕ) (ahead : List (ℕ × Says)) (given : Given) : Type 0 where
  pub within : k ≤ length says
  pub left : ahead ≡ enumerate_from (k + 1) (drop k says)
  pub so_far : given ≡ given_by (take k says)
  pub no_fault : first (line_fault says) k ≡ None

pub taken_none : {says : List Says} {ahead : List (ℕ × Says)} → ahead ≡ enumerate_from 1 says → HasTaken says 0 ahead (record { settings = []; functions = []; nodes = []; bits = [] })
unfolding settings_of
taken_none left = record { within = omega arith; left = left; so_far = refl; no_fault = first-zero _ }

module _ {says : List Says} {k : ℕ} {ahead : List (ℕ × Says)} {given : Given} (taken : HasTaken says k ahead given) where
  -- all lines have passed
  pub taken_all : ahead ≡ [] → (first (line_fault says) (length says) ≡ None) × (given.settings ≡ settings_of says)
  taken_all none =
      let past : length says ≤ k = no_next_said _ _ _ taken.left none in
      let all : k ≡ length says = omega (arith, past, taken.within) in
      (subst (λ n. first (line_fault says) n ≡ None) all taken.no_fault, ap (λ given. given.settings) taken.so_far ∙ ap settings_of (take_all k says past))

  -- a line comes
  module _ {line : ℕ} {said : Says} {later : List (ℕ × Says)} (comes : ahead ≡ (line, said) ∷ later) where
    next : IsNext says k line said later
    next = next_said says k line said later ahead taken.left comes

    here : line_fault says k ≡ fault_in given line said
    here = rw (taken.so_far, next.number, next.here) (sym (fault_same (take k says) (k + 1) (get_or says k Nothing)))

    pub taken_more : (after : Given) → fault_in given line said ≡ None → after ≡ given_after given said → HasTaken says (k + 1) later after
    taken_more after none is = record {
      within = omega (arith, next.within);
      left = next.rest;
      so_far = rw (is, next.here, taken.so_far, take_more says k Nothing next.within) (sym (given_more (take k says) (get_or says k Nothing)));
      no_fault = rw add-one (first_none_more (line_fault says) k taken.no_fault (here ∙ none));
    }

    pub taken_fault : (e : MachNo) → fault_in given line said ≡ Some e → first (line_fault says) (length says) ≡ Some e
    taken_fault e fault = first_some (line_fault says) k (length says) e next.within taken.no_fault (here ∙ fault)
