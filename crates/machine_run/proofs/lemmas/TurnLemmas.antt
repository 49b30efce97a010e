-- Visits of some turns, and of those after them.
use Rattle.std.proofs.Common.{List, Option, arith, inl, inr, refl, sym, ℕ, ◌%◌, ◌∙◌, ◌≡◌, ◌≤◌, ◌⊎◌}
use Rattle.std.proofs.lemmas.Bool.{cases_eq, cases_lt}
use Rattle.crew_run.specs.declared.gate.Gate as gate
use Rattle.machine_run.specs.Visits.{AreInPlace, AreVisitsBetween, HasVisits, IsPortOfWorker}

module _ {G : Type 0} (p : gate.Ghosts G) (ports n : ℕ) where
  -- a port is one of the worker, or not
  pub whose : (w q : ℕ) → IsPortOfWorker ports n w q ⊎ ¬ IsPortOfWorker ports n w q
  whose w q = elim (cases_lt q ports) [
    | inl inside ↦ elim (cases_eq (q % n) w) [
      | inl is ↦ inl (inside, is)
      | inr not ↦ inr (λ its. not its.1)
    ]
    | inr past ↦ inr (λ its. (let inside = its.0 in omega (arith, inside, past)))
  ]

  pub visits_none : (a : ℕ) (gates : List (Option G)) → AreVisitsBetween p ports a a n gates gates
  visits_none a gates = record {
    told = λ w g low there. (
      g,
      there,
      record {
        times = λ q its. refl;
        latest = λ q its more. absurd (omega (arith, more));
        none = λ q its same. refl;
        elsewhere = λ q not. record { times = refl; latest = refl };
      },
    );
    others = λ i high. refl;
  }

  module _ (a b c : ℕ) (low : a ≤ b) (high : b ≤ c) where
    has_more : (w : ℕ) (g g' g'' : G) → HasVisits p ports a b n w g g' → HasVisits p ports b c n w g' g'' → HasVisits p ports a c n w g g''
    has_more w g g' g'' one other = record {
      times = λ q its. omega (arith, one.times q its, other.times q its);
      latest = λ q its more. elim (cases_lt b c) [
        | inl later ↦ other.latest q its later
        | inr none ↦ (let same : c ≡ b = omega (arith, none, high) in other.none q its same ∙ (one.latest q its (omega (arith, more, same)) ∙ sym same))
      ];
      none = λ q its same. other.none q its (omega (arith, same, low, high)) ∙ one.none q its (omega (arith, same, low, high));
      elsewhere = λ q not. record {
        times = (other.elsewhere q not).times ∙ (one.elsewhere q not).times;
        latest = (other.elsewhere q not).latest ∙ (one.elsewhere q not).latest;
      };
    }

    -- the visits of some turns and of those after them
    pub visits_on : (gates gates' gates'' : List (Option G)) → AreVisitsBetween p ports a b n gates gates' → AreVisitsBetween p ports b c n gates' gates'' → AreVisitsBetween p ports a c n gates gates''
    visits_on gates gates' gates'' one other = record {
      told = λ w g within there.
          let (g', there', first) = one.told w g within there in
          let (g'', there'', second) = other.told w g' within there' in
          (g'', there'', has_more w g g' g'' first second);
      others = λ i past. other.others i past ∙ one.others i past;
    }

pub in_place_none : {G : Type 0} (gates : List (Option G)) → AreInPlace gates gates
in_place_none gates = record { count = refl; some = λ i g there. (g, there) }

pub in_place_on : {G : Type 0} (gates gates' gates'' : List (Option G)) → AreInPlace gates gates' → AreInPlace gates' gates'' → AreInPlace gates gates''
in_place_on gates gates' gates'' one other = record {
  count = other.count ∙ one.count;
  some = λ i g there. (let (g', there') = one.some i g there in other.some i g' there');
}
