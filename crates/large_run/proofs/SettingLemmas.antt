-- The machine of large netlists is a machine, and their timing a timing.
use Rattle.std.proofs.Common.{◌≡◌, refl, arith}
use Rattle.machine_text.specs.Machines.{IsValid}
use Rattle.plan_defs.specs.Picks.{node_room}
use Rattle.large_run.specs.Setting.{large_machine}

pub machine_valid : IsValid large_machine
machine_valid = record {
  logic_least = omega arith;
  logic_most = omega arith;
  array_most = omega arith;
  slots_least = omega arith;
  slots_most = omega arith;
  functions_least = omega arith;
  functions_most = omega arith;
  bits_least = omega arith;
  bits_most = omega arith;
  nodes_least = omega arith;
  nodes_most = omega arith;
  own = λ i d low. absurd (omega (arith, low));
  once = λ i j d low up. absurd (omega (arith, up));
  ports = omega arith;
}

-- the nodes that its logic ports hold together
pub large_room : node_room large_machine ≡ 67108864
large_room = refl
