-- What is kept while nodes move.
use Rattle.std.specs.Prelude.{◌≡◌, ℕ, ◌+◌, ◌<◌, ◌==◌, nat_lt, if◌then◌else◌, Bool, List, length, slice_index}
use Rattle.machine_text.specs.declared.machine.Machine.{Machine}
use Rattle.node_defs.specs.declared.items.NodeNet.{NodeNet}
use Rattle.plan_defs.specs.declared.plan.Homes.{Homes}
use Rattle.home_pick.specs.{declared.bags.Entry.Entry, Bags.flag, Better.load_at, Better.most_at}

-- the nodes at each logic port
pub record AreLoads (nodes : NodeNet) (homes : Homes) (loads : List ℕ) : Type 0 where
  pub size : length loads ≡ homes.logic
  pub each : (port : ℕ) → port < homes.logic → slice_index loads port ≡ load_at nodes homes port

-- the most nodes that each of the logic ports may have
pub record AreMost (machine : Machine) (bound logic : ℕ) (most : List ℕ) : Type 0 where
  pub size : length most ≡ logic
  pub each : (port : ℕ) → port < logic → slice_index most port ≡ most_at machine bound port

-- 1 where an entry counts a number at all
abbrev pub hit : ℕ → Entry → ℕ
hit key e = if e.key == key then flag e.count else 0

-- what an entry adds where the number v counts by itself
abbrev pub beside : (ℕ → ℕ) → ℕ → Entry → ℕ
beside f v e = if e.key == v then 0 else f e.key

-- at each port so much is added
pub record Adds (old new : List ℕ) (more : ℕ → ℕ) : Type 0 where
  pub size : length new ≡ length old
  pub each : (port : ℕ) → port < length old → slice_index new port ≡ slice_index old port + more port

-- the same, but for a number that is left out at all of them
pub record AddsEvenly (old new : List ℕ) (more : ℕ → ℕ) : Type 0 where
  pub size : length new ≡ length old
  pub even : ℕ
  pub each : (port : ℕ) → port < length old → slice_index new port + even ≡ slice_index old port + more port

-- whether the port has room
abbrev pub room_in : List ℕ → List ℕ → ℕ → Bool
room_in loads most port = nat_lt (slice_index loads port) (slice_index most port)

-- 1 where the entry counts at all and is of another port than this
abbrev pub away_by : ℕ → Entry → ℕ
away_by home e = if e.key == home then 0 else flag e.count
