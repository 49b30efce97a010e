-- Which items an item takes, and at which turn.
use Rattle.std.specs.Prelude.{◌≡◌, ◌⊎◌, ℕ, Contains}
use Rattle.node_defs.specs.declared.items.Item.TheVariants.{Input, BlockBit, Node, Latch}
use Rattle.node_defs.specs.declared.items.{Tag.TheVariants.This, Tag.TheVariants.Last, Feed.Feed, Feed.TheVariants.From, Feed.TheVariants.Fixed, Feeds.Feeds}
use Rattle.node_defs.specs.declared.items.{Item.Item, NodeBlock.NodeBlock}

-- the operand is item o
abbrev pub FeedTakes : Feed → ℕ → Type 0
FeedTakes (From item tag) o = o ≡ item
FeedTakes (Fixed value) o = ⊥

-- the operand is item o, at this turn
abbrev pub FeedAwaits : Feed → ℕ → Type 0
FeedAwaits (From item This) o = o ≡ item
FeedAwaits (From item Last) o = ⊥
FeedAwaits (Fixed value) o = ⊥

-- it holds of one of the four operands
abbrev pub IsOneOf : (Feed → Type 0) → Feeds → Type 0
IsOneOf P feeds = P feeds.a ⊎ (P feeds.b ⊎ (P feeds.c ⊎ P feeds.d))

-- item o is an operand of the item
abbrev pub Takes : Item → ℕ → Type 0
Takes (Input column) o = ⊥
Takes (BlockBit block bit) o = ⊥
Takes (Node table feeds) o = IsOneOf (λ feed. FeedTakes feed o) feeds
Takes (Latch op) o = o ≡ op

-- item o is an operand tagged This
abbrev pub Awaits : Item → ℕ → Type 0
Awaits (Input column) o = ⊥
Awaits (BlockBit block bit) o = ⊥
Awaits (Node table feeds) o = IsOneOf (λ feed. FeedAwaits feed o) feeds
Awaits (Latch op) o = ⊥

-- item o is an operand of the memory
abbrev pub BlockTakes : NodeBlock → ℕ → Type 0
BlockTakes block o = (o ≡ block.we) ⊎ (Contains block.address o ⊎ Contains block.word o)
