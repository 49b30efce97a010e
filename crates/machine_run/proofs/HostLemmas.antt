-- The first member of the host's worker is the host.
use Rattle.std.proofs.Common.{List, Some, ap, get_or, slice_get, subst, sym, ℕ, ◌%◌, ◌-◌, ◌/◌, ◌∙◌, ◌≡◌, ◌≢◌, ◌≤◌}
use Rattle.std.proofs.lemmas.Option.{get_or_from_slice_get}
use Rattle.crew_run.specs.declared.worker.Worker.{Worker}
use Rattle.image_defs.specs.Places.{host_of}
use Rattle.port_host.specs.Rows.{HostView}
use Rattle.port_run.specs.{Pairs.IsHostOf, declared.seated.Seated.Seated}
use Rattle.machine_run.specs.{Crews.CrewView, Crews.IsHostOfCrew, Dealt.HasPortOf, Dealt.IsSeatOf, code.Dealt.HasPort}
use Rattle.machine_run.proofs.CrewLemmas.{rows_before}

-- the first member of what stands at the place of the last port's worker is the one of that port
pub host_there : {S G : Type 0} (port_of : S → ℕ) (workers ports : ℕ) (ws : List (Worker S G)) (has : HasPortOf port_of workers ws (ports - 1) 0) (m n w : ℕ) (xs : List (Worker S G)) (worker : Worker S G) (members : List S)
    → m ≡ ports → n ≡ workers → w ≡ (m - 1) % n → xs ≡ ws → worker ≡ get_or xs w worker → members ≡ worker.members → slice_get members 0 ≡ Some has.seat
host_there {S = S} {G = G} port_of workers ports ws has m n w xs worker members all count place same at are =
    let here : w ≡ (ports - 1) % workers = place ∙ (ap (λ k. (k - 1) % n) all ∙ ap (λ k. (ports - 1) % k) count) in
    let is : worker ≡ has.member.worker = at ∙ get_or_from_slice_get xs w has.member.worker worker (ap (λ ys. slice_get ys w) same ∙ (ap (slice_get ws) here ∙ has.member.worker_is)) in
    ap (λ ys. slice_get ys 0) are ∙ (ap (λ (x : Worker S G). slice_get x.members 0) is ∙ has.member.member_is)

module _ {G : Type 0} (crew : CrewView) (ws : List (Worker Seated G)) (has : HasPort crew.workers ws (host_of crew.image) 0) (seat : Seated) (is : seat ≡ has.seat) (seat_is : IsSeatOf crew has.seat) where
  pub not_other : seat.run.pass.port ≢ host_of seat.run.pass.image → ⊥
  not_other other = other (subst (λ (s : Seated). s.run.pass.port ≡ host_of s.run.pass.image) (sym is) (has.port_is ∙ sym (ap host_of seat_is.image)))

  -- it has the rows of the block that are over
  pub host_of_crew : (host : HostView) → 1 ≤ crew.image.units → IsHostOf seat.run host → IsHostOfCrew crew host
  host_of_crew host some of = record {
    image = of'.image ∙ seat_is.image;
    stimulus = of'.stimulus ∙ seat_is.stimulus;
    first_row = of'.first_row ∙ seat_is.first_row;
    rows = ap (λ i. (host.port.turn - 1) / i.units) (of'.image ∙ seat_is.image) ∙ rows_before crew.image.units crew.rows host.port.turn some (of'.turn ∙ seat_is.turn);
  } where
    of' : IsHostOf has.seat.run host
    of' = subst (λ (s : Seated). IsHostOf s.run host) is of
