-- What pulls a node to a port.
use Rattle.std.specs.Prelude.{◌≡◌, ℕ, ◌+◌, ◌<◌, ◌==◌, nat_lt, if◌then◌else◌, List, length, slice_index}
use Rattle.std.specs.List.{fold, sum_by, range_with_len}
use Rattle.node_defs.specs.declared.items.NodeNet.{NodeNet}
use Rattle.plan_defs.specs.{declared.plan.Homes.Homes, Homes.home_of, Homes.block_home, Homes.host_of}
use Rattle.home_pick.specs.{declared.bags.Entry.Entry, Bags.flag, Bags.where_at, code.Bags.times, Crossings.times_in, Crossings.block_uses, Crossings.uses_by}
use Rattle.home_pick.specs.code.Uses.{bag_at, AreBags}

-- the uses of item i at the port but for those by node v
unfoldable pub others_at : NodeNet → Homes → ℕ → ℕ → ℕ → ℕ
others_at nodes homes v i port =
    sum_by (λ u. if u == v then 0 else where_at (home_of homes u) port (uses_by nodes u i)) (range_with_len 0 (length nodes.items))
    + sum_by (λ m. where_at (block_home homes m) port (block_uses nodes m i)) (range_with_len 0 (length nodes.blocks))
    + where_at (host_of homes) port (times_in nodes.printed i)

-- What item i pulls node v to the port: 1 where v is item i and others at the port use it, and where v takes
-- item i, which is at home there or has others there that use it.
unfoldable pub pull_by : NodeNet → Homes → ℕ → ℕ → ℕ → ℕ
pull_by nodes homes v port i =
    if i == v then flag (others_at nodes homes v i port)
    else if uses_by nodes v i == 0 then 0
    else if home_of homes i == port then 1
    else flag (others_at nodes homes v i port)

-- what all items pull it there
unfoldable pub pull_at : NodeNet → Homes → ℕ → ℕ → ℕ
pull_at nodes homes v port = sum_by (pull_by nodes homes v port) (range_with_len 0 (length nodes.items))

-- at each port as much as `all` says, but for a number that is left out at all of them
pub record AreLowered (pulls : List ℕ) (all : ℕ → ℕ) : Type 0 where
  pub even : ℕ
  pub each : (port : ℕ) → port < length pulls → slice_index pulls port + even ≡ all port

-- bag i has the ports that use item i but for its uses by node v
pub record AreUsesWithout (nodes : NodeNet) (homes : Homes) (v : ℕ) (uses : List (List Entry)) : Type 0 where
  pub size : length uses ≡ length nodes.items
  pub bags : AreBags uses
  pub times : (i port : ℕ) → i < length nodes.items → times (bag_at uses i) port ≡ others_at nodes homes v i port

-- the first of the ports that has the greatest f
abbrev pub first_most : (ℕ → ℕ) → ℕ → List ℕ → ℕ
first_most f port others = fold (λ best other. if nat_lt (f best) (f other) then other else best) port others
