-- What a walk over the whole netlist finds.
use Rattle.std.specs.Prelude.{◌≤◌, length}
use Rattle.net_defs.specs.{declared.netlist.Netlist.Netlist, declared.timing.Timing.Timing, Loops.IsOrder, Loops.IsLoop}
use Rattle.rank_find.specs.declared.Found.{Found, TheVariants.Order, TheVariants.Loop}

-- an order of no more gates than there are signals, or a loop
abbrev pub IsFound : Netlist → Timing → Found → Type 0
IsFound net timing (Order order) = IsOrder net timing order × (length order ≤ length net.signals)
IsFound net timing (Loop members) = IsLoop net timing members
