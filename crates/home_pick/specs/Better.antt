-- Better homes: nodes move to where the crossings are least until none moves.
use Rattle.std.specs.Prelude.{◌≡◌, ℕ, zero, suc, ◌+◌, ◌*◌, ◌/◌, ◌<◌, ◌≤◌, nat_lt, max, min, Bool, true, if◌then◌else◌, List, length}
use Rattle.std.specs.List.{filter, fold, range_with_len}
use Rattle.machine_text.specs.declared.machine.Machine.{Machine}
use Rattle.node_defs.specs.declared.items.NodeNet.{NodeNet}
use Rattle.plan_defs.specs.{declared.plan.Homes.Homes, Homes.home_of, Picks.node_count, Picks.node_limit, Picks.nodes_before}
use Rattle.home_pick.specs.Crossings.{crossings, moved}

-- ---- room

-- the nodes at the port, latches among them
unfoldable pub load_at : NodeNet → Homes → ℕ → ℕ
load_at nodes homes port = nodes_before nodes homes.items (node_count nodes) port

-- the greatest load of a logic port
unfoldable pub most_load : NodeNet → Homes → ℕ
most_load nodes homes = fold (λ most port. max most (load_at nodes homes port)) 0 (range_with_len 0 homes.logic)

-- a little more than an even share of n nodes on so many logic ports
abbrev pub fair_share : ℕ → ℕ → ℕ
fair_share n logic = n / logic + n / (8 * logic) + 1

-- no port is filled past its share, or past what a port has at the start
unfoldable pub bound_of : NodeNet → Homes → ℕ
bound_of nodes start = max (most_load nodes start) (fair_share (node_count nodes) start.logic)

-- the most nodes that a port may have: no more than the bound and than its own limit
abbrev pub most_at : Machine → ℕ → ℕ → ℕ
most_at machine bound port = min bound (node_limit machine port)

-- whether the port has room for a node more
unfoldable pub has_room : NodeNet → Machine → ℕ → Homes → ℕ → Bool
has_room nodes machine bound homes port = nat_lt (load_at nodes homes port) (most_at machine bound port)

-- ---- where a node goes

-- the first of the ports that has the least f
abbrev pub first_least : (ℕ → ℕ) → ℕ → List ℕ → ℕ
first_least f port others = fold (λ best other. if nat_lt (f other) (f best) then other else best) port others

-- The best port for node v: of its own and those with room the one with the fewest crossings, were v there.
-- Of equal ones it is its own, and else the least.
unfoldable pub best_port : NodeNet → Machine → ℕ → Homes → ℕ → ℕ
best_port nodes machine bound homes v =
    first_least (λ port. crossings nodes (moved homes v port)) (home_of homes v) (filter (has_room nodes machine bound homes) (range_with_len 0 homes.logic))

-- node v goes to its best port
unfoldable pub settled : NodeNet → Machine → ℕ → Homes → ℕ → Homes
settled nodes machine bound homes v = moved homes v (best_port nodes machine bound homes v)

-- one node after another, in item order
abbrev pub settled_from : NodeNet → Machine → ℕ → Homes → List ℕ → Homes
settled_from nodes machine bound homes items = fold (settled nodes machine bound) homes items

abbrev pub node_numbers : NodeNet → List ℕ
node_numbers nodes = range_with_len nodes.first_node (node_count nodes)

unfoldable pub pass : NodeNet → Machine → ℕ → Homes → Homes
pass nodes machine bound homes = settled_from nodes machine bound homes (node_numbers nodes)

-- so many passes
unfoldable pub passes : NodeNet → Machine → ℕ → ℕ → Homes → Homes
passes nodes machine bound zero homes = homes
passes nodes machine bound (suc k) homes = pass nodes machine bound (passes nodes machine bound k homes)

-- the homes that passes reach and where a pass moves nothing
pub record IsBetter (nodes : NodeNet) (machine : Machine) (start better : Homes) : Type 0 where
  pub count : ℕ
  pub reached : better ≡ passes nodes machine (bound_of nodes start) count start
  pub rests : pass nodes machine (bound_of nodes start) better ≡ better

-- ---- what is claimed of them

-- processors and memories are as before, and so is the home of all that is no node
pub record KeepsOthers (nodes : NodeNet) (start better : Homes) : Type 0 where
  pub logic : better.logic ≡ start.logic
  pub array : better.array ≡ start.array
  pub blocks : better.blocks ≡ start.blocks
  pub items : (i : ℕ) → i < nodes.first_node → home_of better i ≡ home_of start i

-- no logic port has more nodes than so many
abbrev pub IsWithin : NodeNet → ℕ → Homes → Type 0
IsWithin nodes bound homes = (port : ℕ) → port < homes.logic → load_at nodes homes port ≤ bound

-- each logic port has no more nodes than it may have, or than it had at the start
abbrev pub IsFilled : NodeNet → Machine → ℕ → Homes → Homes → Type 0
IsFilled nodes machine bound start homes = (port : ℕ) → port < homes.logic → load_at nodes homes port ≤ max (load_at nodes start port) (most_at machine bound port)

-- no single move of a node to a port with room lowers the crossings
abbrev pub NoneLowers : NodeNet → Machine → ℕ → Homes → Type 0
NoneLowers nodes machine bound homes = (v port : ℕ) → nodes.first_node ≤ v → v < length nodes.items → port < homes.logic
    → has_room nodes machine bound homes port ≡ true → crossings nodes homes ≤ crossings nodes (moved homes v port)
