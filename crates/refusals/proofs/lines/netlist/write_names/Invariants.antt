use Rattle.std.proofs.Common.{take, ◌++◌, Ok}
use Rattle.std.specs.{Prelude.codes, List.flat_map}
use Rattle.net_defs.specs.Canonical.{name_of}
use Rattle.edge_io.specs.Writing.{Writes}
use Rattle.refusals.proofs.lines.netlist.write_names.Given as goal

abbrev pub invariant-members : goal.invariant-members
invariant-members g l =
    Writes g.S.Sink l.fn.sink l.sink (Ok tt)
    (flat_map (λ s. codes " " ++ name_of l.net s) (take l.member-index l.members))
