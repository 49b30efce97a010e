-- What is known while nodes move.
use Rattle.std.specs.Prelude.{◌≡◌, ℕ, length}
use Rattle.node_defs.specs.declared.items.NodeNet.{NodeNet}
use Rattle.plan_defs.specs.Homes.{AreHomes}
use Rattle.home_pick.specs.{declared.moves.Work.Work, Crossings.crossings, code.Moves.pull_at, code.Moves.AreLowered, code.Moves.AreUsesWithout}
use Rattle.home_pick.specs.code.{Spread.AreSpread, Spread.AreSpreadWithout, Touched.AreTouched, Uses.AreUses, Work.AreLoads}

-- the uses, loads and crossings are those of the homes
pub record IsWork (nodes : NodeNet) (work : Work) : Type 0 where
  pub are : AreHomes nodes work.homes
  pub uses : AreUses nodes work.homes work.uses
  pub loads : AreLoads nodes work.homes work.loads
  pub spread : AreSpread nodes work.homes work.spread
  pub size : length work.pulls.at ≡ work.homes.logic
  pub touched : AreTouched work.pulls
  pub count : work.count ≡ crossings nodes work.homes

-- the same but for the uses by node v, and how it is pulled to each logic port
pub record IsLifted (nodes : NodeNet) (v : ℕ) (work : Work) : Type 0 where
  pub are : AreHomes nodes work.homes
  pub without : AreUsesWithout nodes work.homes v work.uses
  pub loads : AreLoads nodes work.homes work.loads
  pub spread : AreSpreadWithout nodes work.homes v work.spread
  pub size : length work.pulls.at ≡ work.homes.logic
  pub touched : AreTouched work.pulls
  pub pulls : AreLowered work.pulls.at (pull_at nodes work.homes v)
  pub count : work.count ≡ crossings nodes work.homes
