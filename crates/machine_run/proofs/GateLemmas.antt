-- New gates have room for all turns.
use Rattle.std.proofs.Common.{All, Option, arith, subst, sym, ◌^◌, ◌≤◌}
use Rattle.std.proofs.lemmas.List.Elements.{All-replicate}
use Rattle.crew_run.specs.{Crews.CanTell, declared.count_gate.CountGate.CountGate}
use Rattle.crew_run.specs.contracts.count_gate.CountGateGate.TheImpl as count_gate
use Rattle.machine_run.specs.Gates.{IsNew}

pub new_can_tell : (gate : Option CountGate) → IsNew gate → CanTell count_gate.ghosts gate
new_can_tell gate new = record {
  told = new.counts;
  is = new.is;
  times = subst (All (λ n. n ≤ 2 ^ 62)) (sym new.times) (All-replicate (λ n. n ≤ 2 ^ 62) 256 0 (omega arith));
}
