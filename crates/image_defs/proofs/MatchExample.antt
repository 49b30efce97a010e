-- A small image matches the items of a netlist with an input, a gate of it, a register of the gate, and
-- a memory whose write enable, address bit and data bit are all the input.
use Rattle.std.proofs.Common.{◌≡◌, ℕ, zero, suc, true, false, List, [], ◌∷◌, length, slice_get, Some, subst, refl, arith}
use Rattle.list_laws.proofs.Options.{one_some}
use Rattle.logic_four.specs.declared.V4.TheVariants.{Zero}
use Rattle.net_defs.specs.declared.timing.Timing.{Timing}
use Rattle.net_defs.specs.declared.timing.Init.TheVariants as init
use Rattle.net_defs.specs.declared.timing.Mode.TheVariants as mode
use Rattle.func_table.specs.declared.table.Table.{Table}
use Rattle.node_defs.specs.declared.items.Item.TheVariants.{Input, BlockBit, Node, Latch}
use Rattle.node_defs.specs.declared.items.{Tag.TheVariants.This, Tag.TheVariants.Last, Feed.TheVariants.From, Feed.TheVariants.Fixed, Item.Item}
use Rattle.node_defs.specs.{declared.items.NodeBlock.NodeBlock, declared.items.NodeNet.NodeNet, Items.own}
use Rattle.image_defs.specs.Places.{IsPort, item_slots, printed_of, sender_in}
use Rattle.image_defs.specs.Matches.{IsClaim, ClaimsIn, Carries, CarryAll, MemoryImplements, ImplementsClaim, PrintsItems, Matches, claims_of}
use Rattle.image_defs.specs.declared.image.{Source.Source, Source.TheVariants.Own, Source.TheVariants.Got, PortImage.PortImage}
use Rattle.image_defs.proofs.Example.{image, logic_port, array_port, host_port, looks, holds, feeds, memory, out_bit}

abbrev timing : Timing
timing = record { mode = mode.Rank; units = 1; init = init.Zero; listed = [] }

abbrev block : NodeBlock
block = record { we = 0; address = 0 ∷ []; word = 0 ∷ [] }

abbrev node : Item
node = Node 0 (record { a = From 0 This; b = Fixed Zero; c = Fixed Zero; d = Fixed Zero })

abbrev items : List Item
items = Input 0 ∷ BlockBit 0 0 ∷ node ∷ Latch 2 ∷ []

-- port 0 has the gate and the register, port 1 the memory's output, and the host the input
abbrev claims : List (List ℕ)
claims = (2 ∷ 3 ∷ []) ∷ (1 ∷ []) ∷ (0 ∷ []) ∷ []

module _ (table : Table) where
  abbrev nodes : NodeNet
  nodes = record {
    items = items;
    names = own 0 ∷ own 1 ∷ own 2 ∷ own 3 ∷ [];
    tables = table ∷ [];
    printed = 0 ∷ 2 ∷ 3 ∷ 1 ∷ [];
    blocks = block ∷ [];
    first_node = 2;
  }

  -- which items the ports claim in which slots
  claims_node : ClaimsIn (image table) claims 0 1 2
  claims_node = record { i = 0; port = logic_port table; is = refl; stands = refl; claimed = refl }

  claims_latch : ClaimsIn (image table) claims 0 2 3
  claims_latch = record { i = 1; port = logic_port table; is = refl; stands = refl; claimed = refl }

  claims_bit : ClaimsIn (image table) claims 1 3 1
  claims_bit = record { i = 0; port = array_port; is = refl; stands = refl; claimed = refl }

  claims_input : ClaimsIn (image table) claims 2 0 0
  claims_input = record { i = 0; port = host_port; is = refl; stands = refl; claimed = refl }

  -- the memory's operands are all the input of the last turn
  carries_past : Carries (image table) claims 1 array_port.ins (Got 0 true) (From 0 Last)
  unfolding sender_in
  carries_past = (claims_input, refl)

  carry_past : CarryAll (image table) claims 1 array_port.ins (Got 0 true ∷ []) (0 ∷ [])
  carry_past = record { as_many = refl; each = each } where
    each : (k x : ℕ) (source : Source) → slice_get (Got 0 true ∷ []) k ≡ Some source → slice_get (0 ∷ []) k ≡ Some x → Carries (image table) claims 1 array_port.ins source (From x Last)
    each zero x source here there =
        let at : 0 ≡ x = cc in
        let from : Got 0 true ≡ source = cc in
        subst (λ s. Carries (image table) claims 1 array_port.ins s (From x Last)) from (subst (λ y. Carries (image table) claims 1 array_port.ins (Got 0 true) (From y Last)) at carries_past)
    each (suc k) x source here there = cc

  memory_as : MemoryImplements (image table) claims 1 array_port.ins memory block
  memory_as = record { we = carries_past; address = carry_past; word = carry_past }

  -- each item is as the one that it claims
  node_as : ImplementsClaim (image table) claims nodes 0 0 2 (logic_port table)
  unfolding sender_in
  node_as = record { item = node; is = refl; same = (looks, refl, (table, table, refl, refl, (λ e low. refl), (claims_input, refl), refl, refl, refl)) }

  latch_as : ImplementsClaim (image table) claims nodes 0 1 3 (logic_port table)
  latch_as = record { item = Latch 2; is = refl; same = (holds, refl, (claims_node, refl)) }

  bit_as : ImplementsClaim (image table) claims nodes 1 0 1 array_port
  bit_as = record { item = BlockBit 0 0; is = refl; same = (out_bit, refl, (refl, memory, block, refl, refl, memory_as)) }

  input_as : ImplementsClaim (image table) claims nodes 2 0 0 host_port
  input_as = record { item = Input 0; is = refl; same = (feeds, refl, refl) }

  -- the host prints the printed items
  prints : PrintsItems (image table) claims nodes.printed host_port
  unfolding sender_in
  prints = record { as_many = refl; each = each } where
    from : (source other : Source) (x y : ℕ) → Some source ≡ Some other → Some x ≡ Some y → Carries (image table) claims 2 host_port.ins source (From x This)
        → Carries (image table) claims 2 host_port.ins other (From y This)
    from source other x y here there carries =
        let same : source ≡ other = cc in
        let at : x ≡ y = cc in
        subst (λ s. Carries (image table) claims 2 host_port.ins s (From y This)) same (subst (λ z. Carries (image table) claims 2 host_port.ins source (From z This)) at carries)

    each : (j x : ℕ) (source : Source) → slice_get (printed_of host_port.work) j ≡ Some source → slice_get nodes.printed j ≡ Some x → Carries (image table) claims 2 host_port.ins source (From x This)
    each zero x source here there = from (Own 0 false) source 0 x here there (claims_input, refl)
    each (suc zero) x source here there = from (Got 1 false) source 2 x here there (claims_node, refl)
    each (suc (suc zero)) x source here there = from (Got 2 false) source 3 x here there (claims_latch, refl)
    each (suc (suc (suc zero))) x source here there = from (Got 3 false) source 1 x here there (claims_bit, refl)
    each (suc (suc (suc (suc j)))) x source here there = cc

  image_matches : Matches (image table) claims nodes timing
  image_matches = record {
    units = refl;
    init = refl;
    columns = omega arith;
    ports = refl;
    as_many = as_many;
    items = each;
    printed = λ host is. subst (PrintsItems (image table) claims nodes.printed) (one_some host_port host is) prints;
  } where
    as_many : (p : ℕ) (port : PortImage) → IsPort (image table) p port → length (claims_of claims p) ≡ length (item_slots port.work)
    as_many zero port is = subst (λ q. 2 ≡ length (item_slots q.work)) (one_some (logic_port table) port is) refl
    as_many (suc zero) port is = subst (λ q. 1 ≡ length (item_slots q.work)) (one_some array_port port is) refl
    as_many (suc (suc zero)) port is = subst (λ q. 1 ≡ length (item_slots q.work)) (one_some host_port port is) refl
    as_many (suc (suc (suc p))) port is = cc

    claimed : (p i x y : ℕ) (one other : PortImage) → Some one ≡ Some other → Some x ≡ Some y → ImplementsClaim (image table) claims nodes p i x one → ImplementsClaim (image table) claims nodes p i y other
    claimed p i x y one other is claim as_item =
        let at : x ≡ y = cc in
        subst (ImplementsClaim (image table) claims nodes p i y) (one_some one other is) (subst (λ z. ImplementsClaim (image table) claims nodes p i z one) at as_item)

    each : (p i x : ℕ) (port : PortImage) → IsPort (image table) p port → IsClaim claims p i x → ImplementsClaim (image table) claims nodes p i x port
    each zero zero x port is claim = claimed 0 0 2 x (logic_port table) port is claim node_as
    each zero (suc zero) x port is claim = claimed 0 1 3 x (logic_port table) port is claim latch_as
    each zero (suc (suc i)) x port is claim = cc
    each (suc zero) zero x port is claim = claimed 1 0 1 x array_port port is claim bit_as
    each (suc zero) (suc i) x port is claim = cc
    each (suc (suc zero)) zero x port is claim = claimed 2 0 0 x host_port port is claim input_as
    each (suc (suc zero)) (suc i) x port is claim = cc
    each (suc (suc (suc p))) i x port is claim = cc
