-- Homes on the way from some homes to better ones.
use Rattle.std.specs.Prelude.{ℕ}
use Rattle.machine_text.specs.declared.machine.Machine.{Machine}
use Rattle.node_defs.specs.declared.items.NodeNet.{NodeNet}
use Rattle.plan_defs.specs.{declared.plan.Homes.Homes, Homes.AreHomes}
use Rattle.home_pick.specs.Better.{KeepsOthers, IsFilled, IsWithin}

-- homes to which nodes can have moved from the start, no port being filled past the bound and its own limit
pub record IsOnTheWay (nodes : NodeNet) (machine : Machine) (bound : ℕ) (start homes : Homes) : Type 0 where
  pub are : AreHomes nodes homes
  pub keeps : KeepsOthers nodes start homes
  pub within : IsWithin nodes bound homes
  pub filled : IsFilled nodes machine bound start homes
