use Rattle.std.proofs.Common.{◌≡◌, refl, subst}
use Rattle.node_defs.specs.declared.items.Item.TheVariants.{Input, BlockBit, Node, Latch}
use Rattle.node_defs.specs.{declared.items.Item.Item, Order.class_of, WellFormed.IsComputed}
use Rattle.plan_defs.specs.Picks.{ArePicked}
use Rattle.home_pick.proofs.lemmas.HousingLemmas.{homes_one}
use Rattle.yse_compile.proofs.law.one_homes.Goals as goal

pub returns : goal.returns
returns c net machine timing nodes others is is_too homes other_homes picked other_picked =
    homes_one others machine homes other_homes (λ x item at computed. (is_too.items.first_node x item at).0 (class_computed item computed))
    (subst (λ n. ArePicked n machine homes) (c.one_list.ensures.one net timing nodes others is is_too) picked) other_picked
  where
    class_computed : (item : Item) → IsComputed item → class_of item ≡ 2
    class_computed (Input column) is = absurd is
    class_computed (BlockBit block bit) is = absurd is
    class_computed (Node table feeds) is = refl
    class_computed (Latch op) is = refl
