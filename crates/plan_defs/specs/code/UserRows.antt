-- The users of items as rows of bits.
use Rattle.std.specs.Prelude.{◌↔◌, ℕ, ◌+◌, ◌*◌, ◌<◌, ◌≤◌, length}
use Rattle.plan_defs.specs.{declared.bit_rows.BitRows.BitRows, Bits.HasBit, Bits.IsShaped, declared.plan.Homes.Homes, Readers.IsUser}
use Rattle.node_defs.specs.declared.items.NodeNet.{NodeNet}

-- there is a place for the bit in the row
pub record HasPlace (rows : BitRows) (row bit : ℕ) : Type 0 where
  pub within : bit < 64 * rows.stride
  pub room : row * rows.stride + rows.stride ≤ length rows.words

-- the row of each item has its users
pub record AreUsers (nodes : NodeNet) (homes : Homes) (users : BitRows) : Type 0 where
  pub shape : IsShaped users (length nodes.items) 4
  pub exact : (i port : ℕ) → HasBit users i port ↔ IsUser nodes homes i port
