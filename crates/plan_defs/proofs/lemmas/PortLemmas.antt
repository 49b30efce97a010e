-- Homes and users are ports.
use Rattle.std.proofs.Common.{◌≡◌, inl, inr, ℕ, ◌<◌, length, subst, arith}
use Rattle.std.proofs.lemmas.{Option.slice_get_within, Option.slice_get_cases, List.Elements.All-contains}
use Rattle.node_defs.specs.declared.items.Item.TheVariants.{Input, BlockBit, Node, Latch}
use Rattle.node_defs.specs.{declared.items.Item.Item, declared.items.NodeNet.NodeNet, WellFormed.IsWellFormed, WellFormed.NamesParts}
use Rattle.plan_defs.specs.Homes.{AreHomes, MayHouse, home_of, block_home, ports_of}
use Rattle.plan_defs.specs.{declared.plan.Homes.Homes, Readers.IsUser, Readers.IsReader}

housing_port : (nodes : NodeNet) (homes : Homes) (item : Item) (port : ℕ) → AreHomes nodes homes → NamesParts nodes item → MayHouse homes item port → port < ports_of homes
housing_port nodes homes (Input column) port are parts houses = omega (arith, houses)
housing_port nodes homes (BlockBit block bit) port are parts houses = let within = (are.memories block parts).1 in omega (arith, houses, within)
housing_port nodes homes (Node table feeds) port are parts houses = omega (arith, houses)
housing_port nodes homes (Latch op) port are parts houses = omega (arith, houses)

-- the home of an item is a port
pub home_port : (nodes : NodeNet) (homes : Homes) (i : ℕ) → IsWellFormed nodes → AreHomes nodes homes → i < length nodes.items → home_of homes i < ports_of homes
home_port nodes homes i formed are within = elim (slice_get_cases nodes.items i).1 [
  | inl here ↦ housing_port nodes homes here.0 (home_of homes i) are (formed.parts i here.0 here.2) (are.housed i here.0 here.2)
  | inr past ↦ (let out = past.0 in absurd (omega (arith, out)))
]

-- what is used is an item, and a user is a port
pub user_port : (nodes : NodeNet) (homes : Homes) (i port : ℕ) → IsWellFormed nodes → AreHomes nodes homes → IsUser nodes homes i port → (i < length nodes.items) × (port < ports_of homes)
user_port nodes homes i port formed are (inl t) =
    (formed.taken t.taker i t.item t.is t.takes, subst (λ p. p < ports_of homes) t.home (home_port nodes homes t.taker formed are (slice_get_within nodes.items t.taker t.item t.is)))
user_port nodes homes i port formed are (inr (inl t)) =
    let within = (are.memories t.memory (slice_get_within nodes.blocks t.memory t.block t.is)).1 in
    let home : block_home homes t.memory ≡ port = t.home in
    ((formed.memories t.memory t.block t.is).taken i t.takes, omega (arith, within, home))
user_port nodes homes i port formed are (inr (inr (printed, host))) =
    (All-contains (λ o. o < length nodes.items) nodes.printed i formed.printed printed, omega (arith, host))

pub reader_port : (nodes : NodeNet) (homes : Homes) (i port : ℕ) → IsWellFormed nodes → AreHomes nodes homes → IsReader nodes homes i port → (i < length nodes.items) × (port < ports_of homes)
reader_port nodes homes i port formed are reads = user_port nodes homes i port formed are reads.user
