-- The memories of each port exist, and the output bits of items by them.
use Rattle.std.proofs.Common.{◌≡◌, ℕ, zero, suc, ◌<◌, ◌≤◌, List, [], ◌∷◌, ◌++◌, length, replicate, refl, arith, add-one}
use Rattle.std.specs.Prelude.{Some, slice_get, slice_index, slice_set}
use Rattle.node_defs.specs.declared.items.Item.TheVariants.{Input, BlockBit, Node, Latch}
use Rattle.node_defs.specs.declared.items.{Item.Item, NodeNet.NodeNet}
use Rattle.image_defs.specs.{declared.image.OutBit.OutBit, Matches.claims_of}
use Rattle.plan_defs.specs.{declared.plan.Homes.Homes, declared.plan.Plan.Plan, Homes.block_home, Homes.host_of, Homes.ports_of, Slots.slot_of}
use Rattle.image_build.specs.{declared.memories.Memories.Memories, PortItems.IsAt, Plans.IsPlanned, Built.ArePortMemories, code.Layouts.IsBitFor}
use Rattle.image_build.specs.code.Plans.{IsBitItem, AreMemories, AreFirstMemories}
use Rattle.image_build.proofs.MemoryLemmas.{memories_none, memories_more, memories_all}
use Rattle.image_build.proofs.PlannedLemmas.{bit_at_array, bit_right}

module _ {nodes : NodeNet} {homes : Homes} {plan : Plan} (planned : IsPlanned nodes homes plan) where
  memories_to : (n : ℕ) → n ≤ length nodes.blocks → (memories : Memories) × AreFirstMemories nodes homes n memories
  memories_to zero low = (record { lists = replicate (ports_of homes) []; places = [] }, memories_none nodes homes (record { lists = replicate (ports_of homes) []; places = [] }) refl refl)
  memories_to (suc n) low = next (memories_to n (omega (arith, low))).0 (memories_to n (omega (arith, low))).1 where
    next : (old : Memories) → AreFirstMemories nodes homes n old → (memories : Memories) × AreFirstMemories nodes homes (suc n) memories
    next old so_far =
        let new : Memories = record {
          lists = slice_set old.lists (block_home homes n) (claims_of old.lists (block_home homes n) ++ n ∷ []);
          places = old.places ++ length (claims_of old.lists (block_home homes n)) ∷ [];
        } in
        let home = (planned.housed.memories n (omega (arith, low))).1 in
        (new, rw add-one at (memories_more nodes homes n old new (let ports = so_far.ports in omega (arith, home, ports)) so_far refl refl))

  memories_there : (memories : Memories) × AreMemories nodes homes memories
  memories_there = (let all = memories_to (length nodes.blocks) (omega arith) in (all.0, memories_all nodes homes (length nodes.blocks) all.0 refl all.1))

  bit_there : (memories : Memories) (p x : ℕ) (one : Item) → AreMemories nodes homes memories → homes.logic ≤ p → p < host_of homes → IsAt nodes homes p x → slice_get nodes.items x ≡ Some one
      → (out : OutBit) × IsBitFor plan.slots (claims_of memories.lists p) x one out
  bit_there memories p x one are low high at is = by one is (bit_at_array nodes homes plan planned p x one at is low high) where
    by : (one : Item) → slice_get nodes.items x ≡ Some one → IsBitItem one → (out : OutBit) × IsBitFor plan.slots (claims_of memories.lists p) x one out
    by (BlockBit m bit) there is =
        let out : OutBit = record { slot = slot_of plan.slots x; block = slice_index memories.places m; bit = bit } in
        (out, bit_right nodes homes plan planned memories p x (BlockBit m bit) out are at there refl)
    by (Input column) there is = absurd is
    by (Node t feeds) there is = absurd is
    by (Latch op) there is = absurd is

  -- the numbers of the memories of each port, and an output bit for each item of an array port
  pub numbers_there : (lists : List (List ℕ)) × ((p : ℕ) → p < ports_of homes → ArePortMemories nodes homes p (claims_of lists p))
      × ((p x : ℕ) (one : Item) → homes.logic ≤ p → p < host_of homes → IsAt nodes homes p x → slice_get nodes.items x ≡ Some one → (out : OutBit) × IsBitFor plan.slots (claims_of lists p) x one out)
  numbers_there = (
    memories_there.0.lists,
    memories_there.1.lists,
    λ p x one low high at is. bit_there memories_there.0 p x one memories_there.1 low high at is,
  )
