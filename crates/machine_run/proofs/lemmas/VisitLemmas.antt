-- What the gates of a crew were told in a block, by the ports of its workers.
use Rattle.std.proofs.Common.{List, Option, Some, ap, arith, inl, inr, length, refl, slice_get, slice_index, sym, subst, ℕ, ◌%◌, ◌+◌, ◌<◌, ◌^◌, ◌∙◌, ◌≡◌, ◌≤◌}
use Rattle.std.proofs.lemmas.{Bool.cases_lt, Option.slice_get_within}
use Rattle.limits.specs.declared.TheConstants.{MAX_PORTS}
use Rattle.list_laws.proofs.Places.{one_there}
use Rattle.crew_run.proofs.lemmas.Places.{beside, member_at}
use Rattle.crew_run.specs.{Lending.AllCanRunWith, Lending.AllHaveRunWith, Visits.AreVisits, Visits.IsTold, declared.worker.Worker.Worker}
use Rattle.crew_run.specs.declared.gate.Gate as gate
use Rattle.crew_run.specs.declared.stepper.Stepper as stepper
use Rattle.image_defs.specs.Places.{host_of}
use Rattle.port_run.specs.contracts.seated.SeatedStepper.TheImpl as seated
use Rattle.port_run.specs.declared.seated.Seated.{Seated}
use Rattle.machine_run.specs.Crews.{CrewView, at_block_end, rows_at_end, turns_made}
use Rattle.machine_run.specs.Dealt.{AreDealt, AreDealtFrom, IsMember, IsSeatOf}
use Rattle.machine_run.specs.Visits.{AllCanTellTurns, AreInPlace, AreVisitsBetween, CanTellTurns, HasVisits, IsPortOfWorker}
use Rattle.machine_run.proofs.CrewLemmas.{made_more}

-- all of whose members have the turns after turn `from` up to turn `to` to make
module _ {S G : Type 0} (m : stepper.Ghosts S) (p : gate.Ghosts G) (Fits : S → Type 0) (workers ports host_at from to : ℕ) (up : from ≤ to) (fit : (a : S) → Fits a → (m.turn a ≡ from + 1) × (m.last_turn a ≡ to))
    (ws : List (Worker S G)) (dealt : AreDealtFrom m.port Fits workers ports host_at 0 ws) where
  member : (i : ℕ) (w : Worker S G) → slice_get ws i ≡ Some w → (k : ℕ) (a : S) → slice_get w.members k ≡ Some a → IsMember ws i k a
  member i w at k a there = record { worker = w; worker_is = at; member_is = there }

  to_make : (i : ℕ) (w : Worker S G) → slice_get ws i ≡ Some w → (k : ℕ) (a : S) → slice_get w.members k ≡ Some a → (m.turn a ≡ from + 1) × (m.last_turn a ≡ to)
  to_make i w at k a there = fit a (dealt.each i k a (member i w at k a there)).seat_is

  -- they can make them, with gates that can be told of so many
  pub can_run : (left : ℕ) (gates : List (Option G)) → ports ≤ MAX_PORTS → to ≤ 2 ^ 62 → to ≤ from + left → workers ≤ length gates → AllCanTellTurns p left workers gates → AllCanRunWith m p ws gates
  can_run left gates most few all enough tell = record {
    ready = λ i w at. record {
      port = λ k a there. (let inside = (dealt.each i k a (member i w at k a there)).inside in omega (arith, inside, most));
      apart = λ j k a b here there away. dealt.apart i j k a b (member i w at j a here) (member i w at k b there) away;
      begun = λ k a there. omega (arith, (to_make i w at k a there).0);
      within = λ k a there. omega (arith, (to_make i w at k a there).0, (to_make i w at k a there).1, up);
      small = λ k a there. omega (arith, (to_make i w at k a there).1, few);
    };
    enough = omega (arith, enough, dealt.count);
    tell = λ i w gate at there.
        let can : CanTellTurns p left gate = tell i gate (let low = slice_get_within ws i w at in omega (arith, low, dealt.count)) there in
        record { told = can.told; is = can.is; room = λ k a here. omega (arith, can.times (m.port a), (to_make i w at k a here).0, (to_make i w at k a here).1, up, all) };
  }

  -- a port of worker w is one of its members
  record IsToRun (worker : Worker S G) (q : ℕ) : Type 0 where
    pub k : ℕ
    pub seat : S
    pub at : slice_get worker.members k ≡ Some seat
    pub port : m.port seat ≡ q
    pub turn : m.turn seat ≡ from + 1
    pub last : m.last_turn seat ≡ to

  to_run : (w : ℕ) (worker : Worker S G) → slice_get ws w ≡ Some worker → (q : ℕ) → IsPortOfWorker ports workers w q → IsToRun worker q
  to_run w worker at q (inside, whose) =
      let (k, has) = dealt.all q (omega arith) inside in
      let one : has.member.worker ≡ worker = one_there ws (q % workers) w has.member.worker worker whose has.member.worker_is at in
      let fits = fit has.seat (dealt.each (q % workers) k has.seat has.member).seat_is in
      record {
        k = k;
        seat = has.seat;
        at = ap (λ (x : Worker S G). slice_get x.members k) (sym one) ∙ has.member.member_is;
        port = has.port_is;
        turn = fits.0;
        last = fits.1;
      }

  module _ (w : ℕ) (worker : Worker S G) (at : slice_get ws w ≡ Some worker) (g g' : G) (visits : AreVisits m p worker.members g g') where
    has_visits : HasVisits p ports from to workers w g g'
    has_visits = record {
      times = λ q whose. times q (to_run w worker at q whose);
      latest = λ q whose some. latest q (to_run w worker at q whose) some;
      none = λ q whose none. before q (to_run w worker at q whose) none;
      elsewhere = λ q not. visits.elsewhere q (λ k a there is. not (other q k a there is));
    } where
      told : (q : ℕ) (run : IsToRun worker q) → IsTold m p run.seat g g'
      told q run = visits.told run.k run.seat run.at

      times : (q : ℕ) → IsToRun worker q → slice_index (p.times g') q + from ≡ slice_index (p.times g) q + to
      times q run = subst (λ x. slice_index (p.times g') x + from ≡ slice_index (p.times g) x + to) run.port (omega (arith, (told q run).times, run.turn, run.last, up))

      latest : (q : ℕ) → IsToRun worker q → from < to → slice_index (p.latest g') q ≡ to
      latest q run some = subst (λ x. slice_index (p.latest g') x ≡ to) run.port ((told q run).latest (omega (arith, run.turn, run.last, some)) ∙ run.last)

      before : (q : ℕ) → IsToRun worker q → to ≡ from → slice_index (p.latest g') q ≡ slice_index (p.latest g) q
      before q run none = subst (λ x. slice_index (p.latest g') x ≡ slice_index (p.latest g) x) run.port ((told q run).before (omega (arith, run.turn, run.last, none)))

      other : (q k : ℕ) (a : S) → slice_get worker.members k ≡ Some a → m.port a ≡ q → IsPortOfWorker ports workers w q
      other q k a there is =
          let was = dealt.each w k a (member w worker at k a there) in
          subst (IsPortOfWorker ports workers w) is (was.inside, was.whose)

  pub all_visited : (gates : List (Option G)) (ws' : List (Worker S G)) (gates' : List (Option G)) → AllHaveRunWith m p ws gates ws' gates' → AreVisitsBetween p ports from to workers gates gates'
  all_visited gates ws' gates' run = record {
    told = λ w g low there.
        let (worker, at) = member_at ws w (omega (arith, low, dealt.count)) in
        let (worker', at') = beside ws ws' w worker run.worker_count at in
        let (one, there') = beside gates gates' w (Some g) run.gate_count there in
        let (g', is, visits) = (run.ran w worker worker' (Some g) one at at' there there').visits g refl in
        (g', there' ∙ ap Some is, has_visits w worker at g g' visits);
    others = λ i high. run.others i (omega (arith, high, dealt.count));
  }

-- a gate that is told stays in its place
pub visited_in_place : {G : Type 0} (p : gate.Ghosts G) (ports from to n : ℕ) (gates gates' : List (Option G)) → length gates' ≡ length gates → AreVisitsBetween p ports from to n gates gates' → AreInPlace gates gates'
visited_in_place p ports from to n gates gates' count visits = record {
  count = count;
  some = λ i g there. elim (cases_lt i n) [
    | inl low ↦ (let (g', there', told) = visits.told i g low there in (g', there'))
    | inr high ↦ (g, visits.others i high ∙ there)
  ];
}

-- ---- a block of a crew

module _ {G : Type 0} (p : gate.Ghosts G) (crew : CrewView) (few : crew.rows ≤ rows_at_end crew) (ws : List (Worker Seated G)) (dealt : AreDealt crew 0 ws)
    (gates : List (Option G)) (ws' : List (Worker Seated G)) (gates' : List (Option G)) (run : AllHaveRunWith seated.ghosts p ws gates ws' gates') where
  pub have_visits : AreVisitsBetween p (length crew.image.ports) (turns_made crew) (turns_made (at_block_end crew)) crew.workers gates gates'
  have_visits = all_visited seated.ghosts p (IsSeatOf crew) crew.workers (length crew.image.ports) (host_of crew.image) (turns_made crew) (turns_made (at_block_end crew)) (made_more crew few) (λ a is. (is.turn, is.until)) ws dealt gates ws' gates' run

  pub in_place : AreInPlace gates gates'
  in_place = visited_in_place p (length crew.image.ports) (turns_made crew) (turns_made (at_block_end crew)) crew.workers gates gates' run.gate_count have_visits
