-- Items that are used at each logic port.
use Rattle.std.specs.Prelude.{◌≡◌, ◌≢◌, ◌<◌, ℕ, Bool, true, false, List, length, slice_index_or}
use Rattle.node_defs.specs.declared.items.NodeNet.{NodeNet}
use Rattle.plan_defs.specs.declared.plan.Homes.{Homes}
use Rattle.home_pick.specs.{Crossings.uses_at, code.Moves.others_at}

-- each item that is marked is used at each logic port
pub record AreSpread (nodes : NodeNet) (homes : Homes) (spread : List Bool) : Type 0 where
  pub size : length spread ≡ length nodes.items
  pub each : (i port : ℕ) → slice_index_or spread i false ≡ true → port < homes.logic → uses_at nodes homes i port ≢ 0

-- the same, the uses by node v left out
pub record AreSpreadWithout (nodes : NodeNet) (homes : Homes) (v : ℕ) (spread : List Bool) : Type 0 where
  pub size : length spread ≡ length nodes.items
  pub each : (i port : ℕ) → slice_index_or spread i false ≡ true → port < homes.logic → others_at nodes homes v i port ≢ 0

-- marks are taken away, from all that P does not hold of
pub record Unmarks (before after : List Bool) (P : ℕ → Type 0) : Type 0 where
  pub size : length after ≡ length before
  pub had : (i : ℕ) → slice_index_or after i false ≡ true → slice_index_or before i false ≡ true
  pub holds : (i : ℕ) → slice_index_or after i false ≡ true → P i
