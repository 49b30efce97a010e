-- One memory is the first that finds no port.
use Rattle.std.proofs.Common.{◌≡◌, ◌∙◌, inl, inr, ℕ, ◌+◌, ◌<◌, ◌≤◌, List, take, get_or, sym, ap, subst, arith}
use Rattle.std.proofs.lemmas.{Bool.cases_lt, Bool.cases_order, List.get_or-take, List.length-take-le}
use Rattle.machine_text.specs.declared.machine.Machine.{Machine}
use Rattle.node_defs.specs.declared.items.NodeNet.{NodeNet}
use Rattle.plan_defs.specs.Picks.{bits_of, bit_limit, bits_left, LacksRoom, AreHoused, FindsNoPort}
use Rattle.plan_defs.proofs.lemmas.PlanLemmas.{least_same}
use Rattle.home_pick.proofs.FillLemmas.{bits_same}

module _ (nodes : NodeNet) (machine : Machine) where
  -- what lacks room rests on the memories before
  lacks_agree : (xs ys : List ℕ) (m a : ℕ) → ((k : ℕ) → k < m → get_or xs k 0 ≡ get_or ys k 0) → LacksRoom nodes machine xs m a → LacksRoom nodes machine ys m a
  lacks_agree xs ys m a agree lacks =
      subst (λ bits. bit_limit machine a < bits + bits_of nodes m) (bits_same nodes xs ys m (machine.logic + a) agree) lacks

  -- the ports of the first memories alone
  housed_front : (ports : List ℕ) (m n : ℕ) → m ≤ n → AreHoused nodes machine ports n → AreHoused nodes machine (take m ports) m
  housed_front ports m n up housed = record {
    memories = length-take-le m ports (omega (arith, up, housed.memories));
    array = λ k low.
        let at : _ = housed.array k (omega (arith, low, up)) in (
          at.0,
          at.1,
          same k low ∙ at.2,
          least_same (LacksRoom nodes machine ports k) (LacksRoom nodes machine (take m ports) k) at.0
              (λ a. lacks_agree ports (take m ports) k a (λ j before. sym (same j (omega (arith, before, low)))))
              (λ a. lacks_agree (take m ports) ports k a (λ j before. same j (omega (arith, before, low)))) at.3,
        );
  } where
    same : (k : ℕ) → k < m → get_or (take m ports) k 0 ≡ get_or ports k 0
    same k low = get_or-take m ports k 0 low

  module _ (one_housing : (xs ys : List ℕ) (n : ℕ) → AreHoused nodes machine xs n → AreHoused nodes machine ys n → xs ≡ ys) where
    -- a later memory has all before it housed
    no_earlier : (m needed left n more rest : ℕ) → FindsNoPort nodes machine m needed left → FindsNoPort nodes machine n more rest → m < n → ⊥
    no_earlier m needed left n more rest first second low =
        let front : first.ports ≡ take m second.ports = one_housing first.ports (take m second.ports) m first.before (housed_front second.ports m n (omega (arith, low)) second.before) in
        let at : _ = second.before.array m low in
        at.3.free (lacks_agree first.ports second.ports m at.0
        (λ k before. ap (λ ports. get_or ports k 0) front ∙ get_or-take m second.ports k 0 before) (first.none at.0 at.1))

    -- the most that is left is one number
    left_up : (m needed left more rest : ℕ) → FindsNoPort nodes machine m needed left → FindsNoPort nodes machine m more rest → left ≤ rest
    left_up m needed left more rest first second = elim (cases_lt machine.array 1) [
      | inl none ↦ omega (arith, first.reached.0 (omega (arith, none)))
      | inr some ↦
          let ports : first.ports ≡ second.ports = one_housing first.ports second.ports m first.before second.before in
          let at : (a : ℕ) × (a < machine.array) × (bits_left nodes machine first.ports m a ≡ left) = first.reached.1 some in
          let same : bits_left nodes machine first.ports m at.0 ≡ bits_left nodes machine second.ports m at.0 = ap (λ xs. bits_left nodes machine xs m at.0) ports in
          omega (arith, at.2, same, second.most at.0 at.1)
    ]

    pub one_none : (m needed left n more rest : ℕ) → FindsNoPort nodes machine m needed left → FindsNoPort nodes machine n more rest → (m ≡ n) × (needed ≡ more) × (left ≡ rest)
    one_none m needed left n more rest first second = elim (cases_order m n) [
      | inr (inl below) ↦ absurd (no_earlier m needed left n more rest first second below)
      | inr (inr above) ↦ absurd (no_earlier n more rest m needed left second first above)
      | inl same ↦
          let here : FindsNoPort nodes machine m more rest = subst (λ k. FindsNoPort nodes machine k more rest) (sym same) second in
          (same, first.bits ∙ sym here.bits, omega (arith, left_up m needed left more rest first here, left_up m more rest needed left here first))
    ]
