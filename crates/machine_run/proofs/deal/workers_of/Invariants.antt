use Rattle.std.proofs.Common.{length, ◌-◌, ◌≤◌}
use Rattle.machine_run.specs.Dealt.{AreDealtFrom, ArePasses}
use Rattle.machine_run.proofs.deal.workers_of.Given as goal

abbrev pub invariant-passes : goal.invariant-passes
invariant-passes g l = record {
  passes : ArePasses g.T.Seats.pass_port (g.T.Seats.may l.seats) (length l.passes) l.passes;
  few : length l.passes ≤ g.T.Seats.ports l.seats;
  dealt : AreDealtFrom g.T.Seat.Stepper.port (g.T.Seats.fits l.seats) l.workers (g.T.Seats.ports l.seats) (g.T.Seats.ports l.seats - 1) (length l.passes) l.crew;
}

abbrev pub decreases-passes : goal.decreases-passes
decreases-passes g l = length l.passes
