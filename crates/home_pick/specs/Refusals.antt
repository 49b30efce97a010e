-- Why there are no homes.
use Rattle.machine_text.specs.declared.machine.Machine.{Machine}
use Rattle.node_defs.specs.declared.items.NodeNet.{NodeNet}
use Rattle.plan_defs.specs.Picks.{FindsNoPort, HasTooManyNodes}
use Rattle.home_pick.specs.declared.pick.HomeNo.{HomeNo, TheVariants.Bits, TheVariants.Memory, TheVariants.Nodes}

-- what a refusal says is so
abbrev pub IsRight : NodeNet → Machine → HomeNo → Type 0
IsRight nodes machine (Bits block needed left) = FindsNoPort nodes machine block needed left
IsRight nodes machine Memory = Unit {0}
IsRight nodes machine (Nodes needed limit) = HasTooManyNodes nodes machine needed limit
