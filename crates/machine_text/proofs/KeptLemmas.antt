-- The limits of single ports that lines give, one line after another.
use Rattle.std.proofs.Common.{◌≡◌, ℕ, ◌+◌, ◌≤◌, List, [], ◌∷◌, ◌++◌, length, take, drop, get_or, Option, Some, None, Ok, Err, sym, ap, ◌∙◌, subst, refl, arith, append-nil, add-one}
use Rattle.std.proofs.lemmas.List.{take_more, take_all, Elements.filter_map-append}
use Rattle.std.specs.List.{cons_option, enumerate_from}
use Rattle.text_lines.specs.{Answers.first, code.Answers.fault_or}
use Rattle.text_lines.proofs.lemmas.AnswerLemmas.{first-zero, first_none_more, first_some}
use Rattle.text_lines.proofs.FaultLemmas.{fault_or_err, fault_or_ok}
use Rattle.machine_text.specs.declared.{machine.MachNo.MachNo, machine.PortLimit.PortLimit, saying.Says.Says, saying.Says.TheVariants.Nothing}
use Rattle.machine_text.specs.{Settings.limit_of, Settings.limits_of, Machines.absent_fault, Machines.port_fault}
use Rattle.machine_text.proofs.SayingLemmas.{IsNext, next_said, no_next_said}

limits_more : (says : List Says) (said : Says) → limits_of (says ++ said ∷ []) ≡ limits_of says ++ cons_option (limit_of said) []
unfolding limits_of
limits_more says said = filter_map-append limit_of says (said ∷ [])

-- k lines have passed, which limit no port that is not there, and gave this, and these are ahead
pub record HasKept (logic array : ℕ) (says : List Says) (k : ℕ) (ahead : List (ℕ × Says)) (own : List PortLimit) : Type 0 where
  pub within : k ≤ length says
  pub left : ahead ≡ enumerate_from (k + 1) (drop k says)
  pub so_far : own ≡ limits_of (take k says)
  pub no_fault : first (port_fault logic array says) k ≡ None

module _ {logic array : ℕ} {says : List Says} where
  pub kept_none : {ahead : List (ℕ × Says)} → ahead ≡ enumerate_from 1 says → HasKept logic array says 0 ahead []
  unfolding limits_of
  kept_none left = record { within = omega arith; left = left; so_far = refl; no_fault = first-zero _ }

  module _ {k : ℕ} {ahead : List (ℕ × Says)} {own : List PortLimit} (kept : HasKept logic array says k ahead own) where
    -- all lines have passed
    pub kept_all : ahead ≡ [] → (first (port_fault logic array says) (length says) ≡ None) × (own ≡ limits_of says)
    kept_all none =
        let past : length says ≤ k = no_next_said _ _ _ kept.left none in
        let all : k ≡ length says = omega (arith, past, kept.within) in
        (subst (λ n. first (port_fault logic array says) n ≡ None) all kept.no_fault, kept.so_far ∙ ap limits_of (take_all k says past))

    -- a line comes
    module _ {line : ℕ} {said : Says} {later : List (ℕ × Says)} (comes : ahead ≡ (line, said) ∷ later) where
      pub next : IsNext says k line said later
      next = next_said says k line said later ahead kept.left comes

      here : port_fault logic array says k ≡ absent_fault logic array line said
      here = rw (next.number, next.here) refl

      pub kept_more : (o : Option PortLimit) → Ok o ≡ fault_or (absent_fault logic array line said) (limit_of said) → HasKept logic array says (k + 1) later (own ++ cons_option o [])
      kept_more o answer =
          let both = fault_or_ok (absent_fault logic array line said) (limit_of said) o answer in
          record {
            within = omega (arith, next.within);
            left = next.rest;
            so_far = rw (both.1, next.here, kept.so_far, take_more says k Nothing next.within) (sym (limits_more (take k says) (get_or says k Nothing)));
            no_fault = rw add-one (first_none_more (port_fault logic array says) k kept.no_fault (here ∙ both.0));
          }

      -- a line that limits no single port
      pub kept_other : Ok None ≡ fault_or (absent_fault logic array line said) (limit_of said) → HasKept logic array says (k + 1) later own
      kept_other answer = subst (HasKept logic array says (k + 1) later) (append-nil own) (kept_more None answer)

      pub kept_fault : (e : MachNo) → Err e ≡ fault_or (absent_fault logic array line said) (limit_of said) → first (port_fault logic array says) (length says) ≡ Some e
      kept_fault e answer =
          first_some (port_fault logic array says) k (length says) e next.within kept.no_fault
          (here ∙ fault_or_err (absent_fault logic array line said) (limit_of said) e answer)
