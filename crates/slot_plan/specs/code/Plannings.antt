-- What is known once so many items have their slots.
use Rattle.std.specs.Prelude.{◌≡◌, ◌⊎◌, ◌↔◌, ℕ, ◌+◌, ◌*◌, ◌<◌, ◌≤◌, List, length}
use Rattle.plan_defs.specs.{Bits.HasBit, declared.plan.Homes.Homes, Homes.home_of, Homes.ports_of, Readers.IsReader}
use Rattle.plan_defs.specs.Slots.{slot_of, AreFirstFit, needed_of}
use Rattle.node_defs.specs.declared.items.NodeNet.{NodeNet}
use Rattle.slot_plan.specs.{declared.planning.Planning.Planning, code.Boards.IsBoard}

-- item i is sent in the row or received in it
abbrev pub IsRowOf : NodeNet → Homes → ℕ → ℕ → Type 0
IsRowOf nodes homes i row = (row ≡ home_of homes i) ⊎ ((r : ℕ) × IsReader nodes homes i r × (row ≡ ports_of homes + r))

-- one of the first n items takes slot s of the row
pub record IsOccupied (nodes : NodeNet) (homes : Homes) (slots : List ℕ) (n row s : ℕ) : Type 0 where
  pub holder : ℕ
  pub before : holder < n
  pub slot : slot_of slots holder ≡ s
  pub at : IsRowOf nodes homes holder row

pub record IsPlannedTo (nodes : NodeNet) (homes : Homes) (n : ℕ) (planning : Planning) : Type 0 where
  pub fit : AreFirstFit nodes homes planning.slots n
  -- what is needed so far: past each slot, and at most one for each item
  pub needed : planning.needed ≡ needed_of planning.slots
  pub low : (i : ℕ) → i < n → slot_of planning.slots i < planning.needed
  pub most : planning.needed ≤ n
  -- the board has room for every item, and has the items so far
  pub board : IsBoard planning.board
  pub ports : planning.board.ports ≡ ports_of homes
  pub room : length nodes.items ≤ 64 * planning.board.rows.stride
  pub taken : (row s : ℕ) → HasBit planning.board.rows row s ↔ IsOccupied nodes homes planning.slots n row s
