use Rattle.std.proofs.Common.{ap, arith, length, subst}
use Rattle.std.proofs.lemmas.Option.{get_or_from_slice_get, slice_get_within}
use Rattle.port_run.specs.contracts.seated.SeatedStepper.TheImpl as seated
use Rattle.machine_run.specs.{Crews.CrewView, Crews.IsHostOfCrew, Kept.view_of}
use Rattle.machine_run.proofs.HostLemmas.{host_of_crew, host_there, not_other}
use Rattle.machine_run.proofs.crew.Crew.host.Goals as goal

pub unreachable-requires : goal.unreachable-requires
unreachable-requires g c =
    let a = c.self.inside in
    let has = c.self.invariant.dealt.host (omega arith) in
    let there = host_there seated.ghosts.port (length a.workers) (length a.image.now.ports) a.workers has c.len-host.result c.len.result c.worker_of.result c.as_slice.result.now c.index-as_slice-worker_of.result c.as_slice-2.result.now c.len-host.ensures c.len.ensures c.worker_of.ensures.is c.as_slice.ensures c.index-as_slice-worker_of.is c.as_slice-2.ensures in
    not_other (view_of a) a.workers has _ (get_or_from_slice_get c.as_slice-2.result.now 0 has.seat c.index-as_slice-0.result there) (c.self.invariant.dealt.each _ 0 has.seat has.member).seat_is c.in-None.ensures

pub returns : goal.returns
returns g c =
    let a = c.self.inside in
    let has = c.self.invariant.dealt.host (omega arith) in
    let there = host_there seated.ghosts.port (length a.workers) (length a.image.now.ports) a.workers has c.len-host.result c.len.result c.worker_of.result c.as_slice.result.now c.index-as_slice-worker_of.result c.as_slice-2.result.now c.len-host.ensures c.len.ensures c.worker_of.ensures.is c.as_slice.ensures c.index-as_slice-worker_of.is c.as_slice-2.ensures in
    subst (λ (x : CrewView). IsHostOfCrew x c.in-Some.host.now) c.self.view_is
    (host_of_crew (view_of a) a.workers has _ (get_or_from_slice_get c.as_slice-2.result.now 0 has.seat c.index-as_slice-0.result there) (c.self.invariant.dealt.each _ 0 has.seat has.member).seat_is c.in-Some.host.now c.self.invariant.fits.units.0 c.in-Some.ensures)

pub bounds-as_slice-0 : goal.bounds-as_slice-0
bounds-as_slice-0 g c =
    let a = c.self.inside in
    let has = c.self.invariant.dealt.host (omega arith) in
    slice_get_within c.as_slice-2.result.now 0 has.seat (host_there seated.ghosts.port (length a.workers) (length a.image.now.ports) a.workers has c.len-host.result c.len.result c.worker_of.result c.as_slice.result.now c.index-as_slice-worker_of.result c.as_slice-2.result.now c.len-host.ensures c.len.ensures c.worker_of.ensures.is c.as_slice.ensures c.index-as_slice-worker_of.is c.as_slice-2.ensures)

pub bounds-as_slice-worker_of : goal.bounds-as_slice-worker_of
bounds-as_slice-worker_of g c = omega (arith, c.worker_of.ensures.within, c.len.ensures, ap length c.as_slice.ensures)
