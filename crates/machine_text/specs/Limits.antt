-- The limits that hold at the ports of a machine.
use Rattle.std.specs.Prelude.{ℕ, ◌==◌, Bool, true, false, Option, unwrap_or, ◌&&◌}
use Rattle.std.specs.{List.find, Option.option_map}
use Rattle.limits.specs.declared.TheConstants.{MAX_FUNCTIONS, MAX_NODES, MAX_ARRAY_BITS}
use Rattle.machine_text.specs.declared.machine.Limited.{Limited, TheVariants.Functions, TheVariants.Nodes, TheVariants.Bits}
use Rattle.machine_text.specs.declared.machine.{Machine.Machine, PortLimit.PortLimit}

abbrev pub same_limited : Limited → Limited → Bool
same_limited Functions Functions = true
same_limited Nodes Nodes = true
same_limited Bits Bits = true
same_limited _ _ = false

-- whether this is the own limit of the port
abbrev pub is_at : Limited → ℕ → PortLimit → Bool
is_at what port own = same_limited own.what what && own.port == port

-- the limit of all ports that have none of their own
abbrev pub common_limit : Machine → Limited → ℕ
common_limit machine Functions = machine.functions
common_limit machine Nodes = machine.nodes
common_limit machine Bits = machine.bits

-- the limit that holds at a port: its own, and where it has none, that of all ports
abbrev pub limit_at : Machine → Limited → ℕ → ℕ
limit_at machine what port = unwrap_or (option_map (λ own. own.limit) (find (is_at what port) machine.own)) (common_limit machine what)

-- the ports that have such a limit: the logic processors, or the array processors
abbrev pub port_count : Machine → Limited → ℕ
port_count machine Functions = machine.logic
port_count machine Nodes = machine.logic
port_count machine Bits = machine.array

-- the greatest limit; the least is 1
abbrev pub limit_most : Limited → ℕ
limit_most Functions = MAX_FUNCTIONS
limit_most Nodes = MAX_NODES
limit_most Bits = MAX_ARRAY_BITS
