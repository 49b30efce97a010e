-- How often ports use items, and the crossings: the pairs of an item and a port that reads it.
use Rattle.std.specs.Prelude.{ℕ, ◌+◌, ◌==◌, if◌then◌else◌, List, length, count_by, Option, Some, None, slice_get, slice_set}
use Rattle.std.specs.List.{sum_by, range_with_len}
use Rattle.node_defs.specs.declared.items.Item.TheVariants.{Input, BlockBit, Node, Latch}
use Rattle.node_defs.specs.declared.items.{Feed.Feed, Feed.TheVariants.From, Feed.TheVariants.Fixed, Item.Item, NodeBlock.NodeBlock, NodeNet.NodeNet}
use Rattle.plan_defs.specs.Homes.{home_of, block_home, host_of, ports_of}
use Rattle.plan_defs.specs.declared.plan.Homes.{Homes}
use Rattle.home_pick.specs.Bags.{flag, where_at}

-- ---- uses

-- how often item i stands in a list
abbrev pub times_in : List ℕ → ℕ → ℕ
times_in items i = count_by (λ o. o == i) items

-- whether the operand is item i: 1 if so
abbrev pub feed_uses : Feed → ℕ → ℕ
feed_uses (From item tag) i = if item == i then 1 else 0
feed_uses (Fixed value) i = 0

-- at how many operand places of an item item i stands
abbrev pub item_uses : Item → ℕ → ℕ
item_uses (Input column) i = 0
item_uses (BlockBit block bit) i = 0
item_uses (Node table feeds) i = feed_uses feeds.a i + feed_uses feeds.b i + feed_uses feeds.c i + feed_uses feeds.d i
item_uses (Latch op) i = if op == i then 1 else 0

abbrev pub maybe_item_uses : Option Item → ℕ → ℕ
maybe_item_uses None i = 0
maybe_item_uses (Some item) i = item_uses item i

-- the same of item number u
unfoldable pub uses_by : NodeNet → ℕ → ℕ → ℕ
uses_by nodes u i = maybe_item_uses (slice_get nodes.items u) i

-- at how many places a memory reads item i
abbrev pub memory_uses : Option NodeBlock → ℕ → ℕ
memory_uses None i = 0
memory_uses (Some block) i = (if block.we == i then 1 else 0) + times_in block.address i + times_in block.word i

unfoldable pub block_uses : NodeNet → ℕ → ℕ → ℕ
block_uses nodes m i = memory_uses (slice_get nodes.blocks m) i

-- at how many operand places of items and memories at the port, and printed columns at the host, item i stands
unfoldable pub uses_at : NodeNet → Homes → ℕ → ℕ → ℕ
uses_at nodes homes i port =
    sum_by (λ u. where_at (home_of homes u) port (uses_by nodes u i)) (range_with_len 0 (length nodes.items))
    + sum_by (λ m. where_at (block_home homes m) port (block_uses nodes m i)) (range_with_len 0 (length nodes.blocks))
    + where_at (host_of homes) port (times_in nodes.printed i)

-- ---- crossings

-- 1 where the port reads item i: it uses it and is not its home
abbrev pub reads_at : NodeNet → Homes → ℕ → ℕ → ℕ
reads_at nodes homes i port = if home_of homes i == port then 0 else flag (uses_at nodes homes i port)

-- the number of ports that read item i
unfoldable pub readers_at : NodeNet → Homes → ℕ → ℕ
readers_at nodes homes i = sum_by (reads_at nodes homes i) (range_with_len 0 (ports_of homes))

-- the number of pairs of an item and a port that reads it
unfoldable pub crossings : NodeNet → Homes → ℕ
crossings nodes homes = sum_by (readers_at nodes homes) (range_with_len 0 (length nodes.items))

-- item v is moved to the port
abbrev pub moved : Homes → ℕ → ℕ → Homes
moved homes v port = record homes { items = slice_set homes.items v port }
