-- What is left at the ports, and the ports so far.
use Rattle.std.specs.Prelude.{◌≡◌, ◌⊎◌, ℕ, ◌+◌, ◌%◌, ◌<◌, ◌≤◌, List, length, map, Some, slice_get, slice_index}
use Rattle.std.specs.List.{sum, range_with_len}
use Rattle.machine_text.specs.{declared.machine.Limited.Limited, declared.machine.Machine.Machine, Limits.limit_at}
use Rattle.node_defs.specs.declared.items.{Item.Item, NodeNet.NodeNet}
use Rattle.plan_defs.specs.Picks.{bit_limit, bits_before, node_limit, node_room, nodes_before, AreHoused, HasPickedHome}
use Rattle.plan_defs.specs.declared.plan.Homes.{Homes}
use Rattle.home_pick.specs.declared.blocks.Filling.{Filling}

-- the limits that hold at so many ports, from port 0 on
unfoldable pub limits_of : Machine → Limited → ℕ → List ℕ
limits_of machine what count = map (limit_at machine what) (range_with_len 0 count)

-- ---- memories

-- array port number a, on which so many bits are left, has no room for so many
abbrev pub LacksBits : List ℕ → ℕ → ℕ → Type 0
LacksBits left needed a = slice_index left a < needed

-- so many is the most that is left on one of the first n array ports, and 0 without one
pub record IsMostLeft (left : List ℕ) (n bits : ℕ) : Type 0 where
  pub most : (a : ℕ) → a < n → slice_index left a ≤ bits
  pub reached : (bits ≡ 0) ⊎ ((a : ℕ) × (a < n) × (slice_index left a ≡ bits))

-- the first n memories have their ports, and these are the bits that they leave
pub record AreFilled (nodes : NodeNet) (machine : Machine) (n : ℕ) (filling : Filling) : Type 0 where
  pub housed : AreHoused nodes machine filling.ports n
  pub array : length filling.left ≡ machine.array
  pub bits : (a : ℕ) → a < machine.array → bits_before nodes filling.ports n (machine.logic + a) + slice_index filling.left a ≡ bit_limit machine a

-- ---- nodes

-- the port that is so many ports past the start, modulo their number, holds no node more
abbrev pub IsSpent : List ℕ → ℕ → ℕ → Type 0
IsSpent left start past = slice_index left ((start + past) % length left) ≡ 0

-- the first n nodes are at these ports, each logic port holds so many more, and so many ports from each
-- on are full
pub record AreTurned (nodes : NodeNet) (machine : Machine) (ports : List ℕ) (n : ℕ) (left skips : List ℕ) : Type 0 where
  pub logic : length left ≡ machine.logic
  pub counts : (p : ℕ) → p < machine.logic → nodes_before nodes ports n p + slice_index left p ≡ node_limit machine p
  pub all : n + sum left ≡ node_room machine
  pub starts : length skips ≡ machine.logic
  pub few : (start : ℕ) → start < machine.logic → slice_index skips start < machine.logic
  pub full : (start past : ℕ) → start < machine.logic → past < slice_index skips start → IsSpent left start past

-- homes on the machine, the memories and the items being at these ports
abbrev pub homes_at : Machine → List ℕ → List ℕ → Homes
homes_at machine blocks items = record { logic = machine.logic; array = machine.array; items = items; blocks = blocks }

-- the ports of the first n items
pub record AreItemPorts (nodes : NodeNet) (machine : Machine) (blocks : List ℕ) (n : ℕ) (ports : List ℕ) : Type 0 where
  pub count : length ports ≡ n
  pub each : (i : ℕ) (item : Item) → i < n → slice_get nodes.items i ≡ Some item → HasPickedHome nodes machine (homes_at machine blocks ports) i item
