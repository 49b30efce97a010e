use Rattle.std.proofs.Common.{ap, arith, drop, length, refl, subst, sym, ◌%◌, ◌-◌, ◌<◌, ◌∙◌}
use Rattle.std.proofs.lemmas.List.{take_at}
use Rattle.machine_run.proofs.DealtLemmas.{more_dealt, none_dealt, passes_less}
use Rattle.machine_run.specs.{Dealt.AreDealtFrom, code.Dealt.HasGained}
use Rattle.machine_run.proofs.deal.workers_of.Goals as goal

pub seat-requires : goal.seat-requires
seat-requires g c = (passes_less g.T.Seats.pass_port (g.T.Seats.may c.args.seats.now) _ _ _ c.in-Some.pass c.passes.invariant.passes c.in-Some.ensures.last).2.1

pub passes-preserved : goal.passes-preserved
passes-preserved g c =
    let s = g.T.Seats in
    let n = s.ports c.args.seats.now in
    let so_far = c.passes.invariant.dealt in
    let less = passes_less s.pass_port (s.may c.args.seats.now) _ _ _ c.in-Some.pass c.passes.invariant.passes c.in-Some.ensures.last in
    let inside : length c.pop.new.self < n = omega (arith, less.0, c.passes.invariant.few) in
    let port = c.in_ok-member.ensures.port ∙ less.2.0 in
    let whose = c.worker_of-worker.ensures.is ∙ (ap (λ m. c.port.result % m) (c.len.ensures ∙ so_far.count) ∙ ap (λ q. q % c.args.workers) (c.port.ensures ∙ port)) in
    let gain = subst (λ ws. HasGained ws c.worker_of-worker.result c.in_ok-member.member c.give_to.new.crew) c.as_mut_slice.ensures.value c.in_ok-give_to.ensures in
    let dealt = more_dealt g.T.Seat.Stepper.port (s.fits c.args.seats.now) c.args.workers n (n - 1) (omega (arith, c.requires.some_ports)) (length c.pop.new.self) c.worker_of-worker.result c.passes.crew c.give_to.new.crew c.in_ok-member.member
    (subst (λ m. AreDealtFrom g.T.Seat.Stepper.port (s.fits c.args.seats.now) c.args.workers n (n - 1) m c.passes.crew) less.0 so_far) c.in_ok-member.ensures.fits port inside whose gain in
    record {
      passes = less.1;
      few = omega (arith, inside);
      dealt = subst (AreDealtFrom g.T.Seat.Stepper.port (s.fits c.args.seats.now) c.args.workers n (n - 1) (length c.pop.new.self))
          (sym (take_at c.give_to.new.crew (drop (length c.give_to.new.crew) c.passes.crew) (length c.passes.crew) (omega (arith, dealt.count, so_far.count)))) dealt;
    }

pub passes-init : goal.passes-init
passes-init g c =
    let s = g.T.Seats in
    let n = s.ports c.args.seats.now in
    record {
      passes = record { long = refl; each = c.requires.passes.each };
      few = omega (arith, c.requires.passes.long);
      dealt = none_dealt g.T.Seat.Stepper.port (s.fits c.args.seats.now) c.args.workers n (n - 1) (omega (arith, c.requires.some_ports)) (length c.args.passes) c.in_ok-crew.crew c.in_ok-crew.ensures (omega (arith, c.requires.passes.long));
    }

pub passes-smaller : goal.passes-smaller
passes-smaller g c =
    let less = passes_less g.T.Seats.pass_port (g.T.Seats.may c.args.seats.now) _ _ _ c.in-Some.pass c.passes.invariant.passes c.in-Some.ensures.last in
    omega (arith, less.0)

pub overflow_cast-port : goal.overflow_cast-port
overflow_cast-port g c = omega (arith, c.port.type_inv)

pub worker_of-worker-requires : goal.worker_of-worker-requires
worker_of-worker-requires g c = omega (arith, c.requires.some, c.len.ensures, c.passes.invariant.dealt.count)

pub give_to-requires : goal.give_to-requires
give_to-requires g c = omega (arith, c.worker_of-worker.ensures.within, c.len.ensures, ap length c.as_mut_slice.ensures.value)

pub returns : goal.returns
returns g c =
    let s = g.T.Seats in
    let n = s.ports c.args.seats.now in
    subst (λ m. AreDealtFrom g.T.Seat.Stepper.port (s.fits c.args.seats.now) c.args.workers n (n - 1) m c.passes.crew) (ap length (c.in_default.ensures.none.0 refl)) c.passes.invariant.dealt
