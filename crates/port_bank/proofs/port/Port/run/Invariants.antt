use Rattle.std.proofs.Common.{◌≡◌}
use Rattle.port_bank.specs.{Runs.HasRun, Runs.IsLastValue, Words.InEachLaneOf}
use Rattle.port_bank.proofs.port.Port.run.Given as goal

abbrev pub invariant-items : goal.invariant-items
invariant-items g l = record {
  run : HasRun (g.Self.Port.seen l.initial.self) (g.Self.Port.seen l.self) l.i;
  last : InEachLaneOf g.W.Word l.word (λ view v. IsLastValue view v) (g.Self.Port.seen l.self);
  rows : g.Self.Port.rows l.self ≡ g.Self.Port.rows l.initial.self;
}
