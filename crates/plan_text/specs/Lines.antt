-- The lines of a report.
use Rattle.std.specs.Prelude.{ℕ, ◌-◌, List, [], ◌++◌, Option, Some, None, nat_lt, if◌then◌else◌, codes, decimal, length, slice_get, slice_index, slice_index_or}
use Rattle.std.specs.List.{flat_map, range_with_len}
use Rattle.net_defs.specs.{declared.netlist.Netlist.Netlist, Canonical.name_of}
use Rattle.node_defs.specs.declared.items.{ItemName.ItemName, NodeNet.NodeNet}
use Rattle.plan_defs.specs.{declared.plan.Homes.Homes, declared.plan.Plan.Plan, Homes.home_of, Homes.host_of, Homes.ports_of, Slots.slot_of}
use Rattle.plan_text.specs.declared.figures.Figures.{Figures}

-- `l0` is the first logic port, `a0` the first array port, `h` the host
unfoldable pub port_name : Homes → ℕ → List ℕ
port_name homes port =
    if nat_lt port homes.logic then codes "l" ++ decimal port
    else (if nat_lt port (host_of homes) then codes "a" ++ decimal (port - homes.logic) else codes "h")

-- ` tables 2` of a logic port, ` bits 64` of an array port, and nothing of the host
unfoldable pub port_part : Homes → Figures → ℕ → List ℕ
port_part homes figures port =
    if nat_lt port homes.logic then codes " tables " ++ decimal (slice_index figures.tables port)
    else (if nat_lt port (host_of homes) then codes " bits " ++ decimal (slice_index figures.bits (port - homes.logic)) else [])

-- `l0 items 3 tables 1 takes 4`
unfoldable pub port_line : Homes → Figures → ℕ → List ℕ
port_line homes figures port =
    port_name homes port ++ codes " items " ++ decimal (slice_index figures.items port) ++ port_part homes figures port
    ++ codes " takes " ++ decimal (slice_index figures.takes port) ++ codes "\n"

-- a slash and the number of a helper
unfoldable pub helper_part : Option ℕ → List ℕ
helper_part None = []
helper_part (Some h) = codes "/" ++ decimal h

-- the name of an item, given by its number: its signal's, and of a helper that of its gate, a slash and
-- the helper's number
unfoldable pub item_name : Netlist → NodeNet → ℕ → List ℕ
item_name net nodes i = of_name (slice_get nodes.names i) where
  of_name : Option ItemName → List ℕ
  of_name None = []
  of_name (Some name) = name_of net name.signal ++ helper_part name.helper

-- `11 l1 4 l0`: the item's name, its home, its slot and its readers
unfoldable pub item_line : Netlist → NodeNet → Homes → List ℕ → Figures → ℕ → List ℕ
item_line net nodes homes slots figures i =
    item_name net nodes i ++ codes " " ++ port_name homes (home_of homes i) ++ codes " " ++ decimal (slot_of slots i)
    ++ flat_map (λ port. codes " " ++ port_name homes port) (slice_index_or figures.readers.lists i []) ++ codes "\n"

-- the slots that a turn wants, a line for each port in port order, and a line for each item in item order
unfoldable pub report_text : Netlist → NodeNet → Homes → Plan → Figures → List ℕ
report_text net nodes homes plan figures =
    codes "slots " ++ decimal plan.needed ++ codes "\n"
    ++ flat_map (port_line homes figures) (range_with_len 0 (ports_of homes))
    ++ flat_map (item_line net nodes homes plan.slots figures) (range_with_len 0 (length nodes.items))
