-- What a port of an image that is laid out does: it names what is there, and does what its items do.
use Rattle.std.proofs.Common.{◌≡◌, ◌∙◌, inl, inr, ℕ, ◌<◌, ◌≤◌, List, length, map, Some, slice_get, true, false, refl, sym, ap, subst, arith}
use Rattle.std.proofs.lemmas.{List.length-map, Option.slice_get_within}
use Rattle.std.specs.List.{Contains}
use Rattle.list_laws.proofs.{Members.member_at, Members.mapped_at, Members.listed, Options.one_some}
use Rattle.net_defs.specs.declared.timing.Timing.{Timing}
use Rattle.func_table.specs.{declared.table.Table.Table, Shelf.AreInOrderOfUse}
use Rattle.node_defs.specs.declared.items.Item.TheVariants.{Input, BlockBit, Node, Latch}
use Rattle.node_defs.specs.declared.items.{Tag.TheVariants.This, Tag.TheVariants.Last, Feed.TheVariants.From, Feeds.Feeds, Item.Item, NodeBlock.NodeBlock}
use Rattle.node_defs.specs.{declared.items.NodeNet.NodeNet, Takes.Takes, Takes.BlockTakes, WellFormed.IsMemoryOf, WellFormed.column_count}
use Rattle.image_defs.specs.WellFormed.{IsPast, IsPresent, IsTask, IsBlock, IsBit, IsWork}
use Rattle.image_defs.specs.Matches.{claims_of, IsClaim, Carries, CarryAll, MemoryImplements, TaskImplements, BitImplements, InputImplements, Implements}
use Rattle.image_defs.specs.declared.image.{Source.Source, Task.Task, Task.TheVariants.Eval, Task.TheVariants.Hold, BlockWork.BlockWork, OutBit.OutBit}
use Rattle.image_defs.specs.declared.image.{InColumn.InColumn, Work.Work, Work.TheVariants.Logic, Work.TheVariants.Array, Work.TheVariants.Host}
use Rattle.image_defs.specs.{declared.image.PortImage.PortImage, declared.image.Image.Image, Places.Each, Places.IsPort, Places.printed_of}
use Rattle.plan_defs.specs.{declared.plan.Homes.Homes, declared.plan.Plan.Plan, declared.switch.Switch.Switch, Homes.block_home, Homes.host_of, Readers.IsUser}
use Rattle.plan_defs.specs.{Slots.slot_of, Switches.IsSwitch}
use Rattle.image_build.specs.Built.{Evaluates, ArePortMemories, AreBlocksOf, IsOrdered}
use Rattle.image_build.specs.code.Layouts.{source_of, feed_source, IsTaskFor, AreTasks, block_for, AreBlocks, IsBitFor, AreBits, IsInputFor, AreInputs, IsWorkFor, IsLaidOut}
use Rattle.image_build.specs.{PortItems.IsAt, Plans.IsPlanned}
use Rattle.image_build.proofs.SourceLemmas.{early, feed_right, past_right, present_right}
use Rattle.image_build.proofs.ClaimLemmas.{port_low, claim_at}

-- the task that looks the node's operands up in table n
abbrev pub eval_for : Homes → List ℕ → ℕ → ℕ → ℕ → Feeds → Task
eval_for homes slots p x n feeds =
    Eval (slot_of slots x) n (feed_source homes slots p feeds.a) (feed_source homes slots p feeds.b) (feed_source homes slots p feeds.c) (feed_source homes slots p feeds.d)

-- the sources from which port p takes items of the last turn
abbrev pub pasts : Homes → List ℕ → ℕ → List ℕ → List Source
pasts homes slots p items = map (λ o. source_of homes slots p o true) items

-- a task names what is there, and does what the item does
abbrev IsTaskRight : NodeNet → Image → List (List ℕ) → ℕ → PortImage → List Table → Item → Task → Type 0
IsTaskRight nodes image claims p port tables one task = IsTask port (length tables) task × TaskImplements image claims nodes p port.ins tables task one

-- what port p does names what is there, and each of its items is as the item that it claims
pub record IsDone (nodes : NodeNet) (homes : Homes) (claims : List (List ℕ)) (image : Image) (p : ℕ) (port : PortImage) (work : Work) : Type 0 where
  pub names : IsWork image.columns port work
  pub same : (i x : ℕ) (one : Item) → IsClaim claims p i x → slice_get nodes.items x ≡ Some one → Implements image claims nodes p port.ins work i one
  pub ordered : IsOrdered nodes homes image claims p port.ins work

module _ {nodes : NodeNet} {homes : Homes} {plan : Plan} {switch : Switch} {timing : Timing} {claims : List (List ℕ)} {image : Image}
    (planned : IsPlanned nodes homes plan) (routed : IsSwitch nodes homes plan.slots switch) (laid : IsLaidOut nodes homes plan switch timing claims image)
    (p : ℕ) (port : PortImage) (at : IsPort image p port) where
  -- ---- tasks

  node_right : (x t n : ℕ) (tables : List Table) (feeds : Feeds) → IsAt nodes homes p x → slice_get nodes.items x ≡ Some (Node t feeds) → n < length tables → slice_get tables n ≡ slice_get nodes.tables t
      → IsTaskRight nodes image claims p port tables (Node t feeds) (eval_for homes plan.slots p x n feeds)
  node_right x t n tables feeds is_at is low same =
      let a = feed_right planned routed laid p (slot_of plan.slots x) port feeds.a at (λ o takes. uses o (inl takes)) (λ o awaits. early planned routed laid x o (Node t feeds) is (inl awaits)) in
      let b = feed_right planned routed laid p (slot_of plan.slots x) port feeds.b at (λ o takes. uses o (inr (inl takes))) (λ o awaits. early planned routed laid x o (Node t feeds) is (inr (inl awaits))) in
      let c = feed_right planned routed laid p (slot_of plan.slots x) port feeds.c at (λ o takes. uses o (inr (inr (inl takes)))) (λ o awaits. early planned routed laid x o (Node t feeds) is (inr (inr (inl awaits)))) in
      let d = feed_right planned routed laid p (slot_of plan.slots x) port feeds.d at (λ o takes. uses o (inr (inr (inr takes)))) (λ o awaits. early planned routed laid x o (Node t feeds) is (inr (inr (inr awaits)))) in
      let table : (table : Table) × (slice_get tables n ≡ Some table) = member_at tables n low in
      ((low, a.0, b.0, c.0, d.0), (table.0, table.0, table.1, sym same ∙ table.1, (λ e within. refl), a.1, b.1, c.1, d.1))
    where
      uses : (o : ℕ) → Takes (Node t feeds) o → IsUser nodes homes o p
      uses o takes = inl (record { taker = x; item = Node t feeds; is = is; takes = takes; home = is_at.1 })

  latch_right : (x op : ℕ) (tables : List Table) → IsAt nodes homes p x → slice_get nodes.items x ≡ Some (Latch op) → IsTaskRight nodes image claims p port tables (Latch op) (Hold (slot_of plan.slots x) (source_of homes plan.slots p op true))
  latch_right x op tables is_at is = past_right planned routed laid p op port at (inl (record { taker = x; item = Latch op; is = is; takes = refl; home = is_at.1 }))

  task_right : (x : ℕ) (tables : List Table) (one : Item) (task : Task) → IsAt nodes homes p x → slice_get nodes.items x ≡ Some one → IsTaskFor nodes homes plan.slots p tables x one task → IsTaskRight nodes image claims p port tables one task
  task_right x tables (Input column) task is_at is for_it = absurd for_it
  task_right x tables (BlockBit m bit) task is_at is for_it = absurd for_it
  task_right x tables (Node t feeds) task is_at is (n, low, same, task_is) = subst (IsTaskRight nodes image claims p port tables (Node t feeds)) (sym task_is) (node_right x t n tables feeds is_at is low same)
  task_right x tables (Latch op) task is_at is for_it = subst (IsTaskRight nodes image claims p port tables (Latch op)) (sym for_it) (latch_right x op tables is_at is)

  -- ---- memories

  pasts_right : (items : List ℕ) → ((o : ℕ) → Contains items o → IsUser nodes homes o p)
      → Each (IsPast port) (pasts homes plan.slots p items) × CarryAll image claims p port.ins (pasts homes plan.slots p items) items
  pasts_right items uses = (past, carry) where
    past : Each (IsPast port) (pasts homes plan.slots p items)
    past k source source_at =
        let made : (o : ℕ) × (slice_get items k ≡ Some o) × (source_of homes plan.slots p o true ≡ source) = mapped_at (λ o. source_of homes plan.slots p o true) items k source source_at in
        subst (IsPast port) made.2 (past_right planned routed laid p made.0 port at (uses made.0 (listed items k made.0 made.1))).0

    carry : CarryAll image claims p port.ins (pasts homes plan.slots p items) items
    carry = record {
      as_many = length-map items (λ o. source_of homes plan.slots p o true);
      each = λ k x source source_at is.
          let made : (o : ℕ) × (slice_get items k ≡ Some o) × (source_of homes plan.slots p o true ≡ source) = mapped_at (λ o. source_of homes plan.slots p o true) items k source source_at in
          let same : made.0 ≡ x = one_some made.0 x (sym made.1 ∙ is) in
          subst (λ s. Carries image claims p port.ins s (From x Last)) (ap (λ o. source_of homes plan.slots p o true) (sym same) ∙ made.2) (past_right planned routed laid p x port at (uses x (listed items k x is))).1;
    }

  memory_right : (m : ℕ) (memory : NodeBlock) → slice_get nodes.blocks m ≡ Some memory → block_home homes m ≡ p
      → IsBlock port (block_for homes plan.slots p memory) × MemoryImplements image claims p port.ins (block_for homes plan.slots p memory) memory
  memory_right m memory is home =
      let we = past_right planned routed laid p memory.we port at (uses memory.we (inl refl)) in
      let address = pasts_right memory.address (λ o among. uses o (inr (inl among))) in
      let word = pasts_right memory.word (λ o among. uses o (inr (inr among))) in (
        record {
          we = we.0;
          address = address.0;
          address_bits = rw (length-map memory.address (λ o. source_of homes plan.slots p o true)) formed.address;
          word = word.0;
          word_bits = rw (length-map memory.word (λ o. source_of homes plan.slots p o true)) formed.word;
        },
        record { we = we.1; address = address.1; word = word.1 },
      )
    where
      uses : (o : ℕ) → BlockTakes memory o → IsUser nodes homes o p
      uses o takes = inr (inl (record { memory = m; block = memory; is = is; takes = takes; home = home }))

      formed : IsMemoryOf nodes memory
      formed = planned.formed.memories m memory is

  -- ---- what is done for the items

  -- item number i of a port
  item_at : (i : ℕ) → i < length (claims_of claims p) → (x : ℕ) × IsClaim claims p i x × IsAt nodes homes p x × (one : Item) × (slice_get nodes.items x ≡ Some one)
  item_at i low =
      let claim : (x : ℕ) × IsClaim claims p i x = member_at (claims_of claims p) i low in
      let is_at : IsAt nodes homes p claim.0 = claim_at laid p i claim.0 (port_low laid p port at) claim.1 in
      let one : (one : Item) × (slice_get nodes.items claim.0 ≡ Some one) = member_at nodes.items claim.0 is_at.0 in
      (claim.0, claim.1, is_at, one.0, one.1)

  at_port : (i x : ℕ) → IsClaim claims p i x → IsAt nodes homes p x
  at_port i x claim = claim_at laid p i x (port_low laid p port at) claim

  logic_done : (tables : List Table) (tasks : List Task) → p < homes.logic → AreTasks nodes homes plan.slots p (claims_of claims p) tables tasks → AreInOrderOfUse (Evaluates tasks) tables
      → IsDone nodes homes claims image p port (Logic tables tasks)
  logic_done tables tasks low are order = record {
    names = λ i task here.
        let item = item_at i (let within = slice_get_within tasks i task here in let count = are.as_many in omega (arith, within, count)) in
        (task_right item.0 tables item.3 task item.2 item.4 (are.each i item.0 item.3 task item.1 item.4 here)).0;
    same = λ i x one claim is.
        let task : (task : Task) × (slice_get tasks i ≡ Some task) = member_at tasks i (let within = slice_get_within (claims_of claims p) i x claim in let count = are.as_many in omega (arith, within, count)) in
        (task.0, task.1, (task_right x tables one task.0 (at_port i x claim) is (are.each i x one task.0 claim is task.1)).1);
    ordered = (low, order);
  }

  -- ---- array ports

  module _ (numbers : List ℕ) (blocks : List BlockWork) (lists : ArePortMemories nodes homes p numbers) (are : AreBlocks nodes homes plan.slots p numbers blocks) where
    -- memory number k of the port
    memory_at : (k m : ℕ) → slice_get numbers k ≡ Some m → (memory : NodeBlock) × (slice_get nodes.blocks m ≡ Some memory) × (slice_get blocks k ≡ Some (block_for homes plan.slots p memory))
        × IsBlock port (block_for homes plan.slots p memory) × MemoryImplements image claims p port.ins (block_for homes plan.slots p memory) memory
    memory_at k m here =
        let known : (m < length nodes.blocks) × (block_home homes m ≡ p) = (lists.exact m).0 (listed numbers k m here) in
        let memory : (memory : NodeBlock) × (slice_get nodes.blocks m ≡ Some memory) = member_at nodes.blocks m known.0 in
        let right = memory_right m memory.0 memory.1 known.1 in
        (memory.0, memory.1, are.each k m memory.0 here memory.1, right.0, right.1)

    blocks_right : Each (IsBlock port) blocks
    blocks_right k block here =
        let m : (m : ℕ) × (slice_get numbers k ≡ Some m) = member_at numbers k (let within = slice_get_within blocks k block here in let count = are.as_many in omega (arith, within, count)) in
        let found = memory_at k m.0 m.1 in
        subst (IsBlock port) (one_some (block_for homes plan.slots p found.0) block (sym found.2 ∙ here)) found.3

    blocks_are : (outs : List OutBit) → AreBits nodes plan.slots (claims_of claims p) numbers outs → AreBlocksOf nodes homes image claims p port.ins blocks outs
    blocks_are outs made = record {
      numbers = numbers;
      lists = lists;
      as_many = are.as_many;
      each = λ k m block memory here is memory_is.
          let known : (m < length nodes.blocks) × (block_home homes m ≡ p) = (lists.exact m).0 (listed numbers k m is) in
          subst (λ b. MemoryImplements image claims p port.ins b memory) (one_some (block_for homes plan.slots p memory) block (sym (are.each k m memory is memory_is) ∙ here)) (memory_right m memory memory_is known.1).1;
      bits = λ i x m bit out here claim is.
          let for_it = made.each i x (BlockBit m bit) out claim is here in
          subst (λ (o : OutBit). slice_get numbers o.block ≡ Some m) (sym for_it.2) for_it.1;
    }

    bit_right : (x : ℕ) (one : Item) (out : OutBit) → slice_get nodes.items x ≡ Some one → IsBitFor plan.slots numbers x one out
        → IsBit blocks out × BitImplements image claims nodes p port.ins blocks out one
    bit_right x (Input column) out is for_it = absurd for_it
    bit_right x (Node t feeds) out is for_it = absurd for_it
    bit_right x (Latch op) out is for_it = absurd for_it
    bit_right x (BlockBit m bit) out is (k, here, out_is) =
        let found = memory_at k m here in
        let low : bit < length found.0.word = planned.formed.bits x m bit found.0 is found.1 in
        let long : length (pasts homes plan.slots p found.0.word) ≡ length found.0.word = length-map found.0.word (λ o. source_of homes plan.slots p o true) in
        subst (λ o. IsBit blocks o × BitImplements image claims nodes p port.ins blocks o (BlockBit m bit)) (sym out_is)
        ((block_for homes plan.slots p found.0, found.2, omega (arith, low, long)), (refl, block_for homes plan.slots p found.0, found.0, found.2, found.1, found.4))

    array_done : (outs : List OutBit) → homes.logic ≤ p → p < host_of homes → AreBits nodes plan.slots (claims_of claims p) numbers outs → IsDone nodes homes claims image p port (Array blocks outs)
    array_done outs from low bits = record {
      names = (
        blocks_right,
        λ i out here.
            let item = item_at i (let within = slice_get_within outs i out here in let count = bits.as_many in omega (arith, within, count)) in
            (bit_right item.0 item.3 out item.4 (bits.each i item.0 item.3 out item.1 item.4 here)).0,
      );
      same = λ i x one claim is.
          let out : (out : OutBit) × (slice_get outs i ≡ Some out) = member_at outs i (let within = slice_get_within (claims_of claims p) i x claim in let count = bits.as_many in omega (arith, within, count)) in
          (out.0, out.1, (bit_right x one out.0 is (bits.each i x one out.0 claim is out.1)).1);
      ordered = (from, low, blocks_are outs bits);
    }

  -- ---- the host

  input_right : (x : ℕ) (one : Item) (input : InColumn) → slice_get nodes.items x ≡ Some one → IsInputFor plan.slots x one input → (input.column < image.columns) × InputImplements input one
  input_right x (Input column) input is for_it =
      let low : column < column_count nodes = planned.formed.columns x column is in
      let count = laid.columns in
      subst (λ (i : InColumn). (i.column < image.columns) × (i.column ≡ column)) (sym for_it) (omega (arith, low, count), refl)
  input_right x (BlockBit m bit) input is for_it = absurd for_it
  input_right x (Node t feeds) input is for_it = absurd for_it
  input_right x (Latch op) input is for_it = absurd for_it

  printed_right : p ≡ host_of homes → (j x : ℕ) → slice_get nodes.printed j ≡ Some x
      → IsPresent port (source_of homes plan.slots p x false) × Carries image claims p port.ins (source_of homes plan.slots p x false) (From x This)
  printed_right host j x here = present_right planned routed laid p x port at (inr (inr (listed nodes.printed j x here, host)))

  host_done : (inputs : List InColumn) (printed : List Source) → p ≡ host_of homes → AreInputs nodes plan.slots (claims_of claims p) inputs → printed ≡ map (λ o. source_of homes plan.slots p o false) nodes.printed
      → IsDone nodes homes claims image p port (Host inputs printed)
  host_done inputs printed host are prints = record {
    names = (
      λ i input here.
          let item = item_at i (let within = slice_get_within inputs i input here in let count = are.as_many in omega (arith, within, count)) in
          (input_right item.0 item.3 input item.4 (are.each i item.0 item.3 input item.1 item.4 here)).0,
      λ j source here.
          let made : (o : ℕ) × (slice_get nodes.printed j ≡ Some o) × (source_of homes plan.slots p o false ≡ source) = mapped_at (λ o. source_of homes plan.slots p o false) nodes.printed j source (ap (λ list. slice_get list j) (sym prints) ∙ here) in
          subst (IsPresent port) made.2 (printed_right host j made.0 made.1).0,
    );
    same = λ i x one claim is.
        let input : (input : InColumn) × (slice_get inputs i ≡ Some input) = member_at inputs i (let within = slice_get_within (claims_of claims p) i x claim in let count = are.as_many in omega (arith, within, count)) in
        (input.0, input.1, (input_right x one input.0 is (are.each i x one input.0 claim is input.1)).1);
    ordered = host;
  }

  -- what a port does is right
  work_done : (work : Work) → IsWorkFor nodes homes plan.slots p (claims_of claims p) work → IsDone nodes homes claims image p port work
  work_done (Logic tables tasks) (low, are, order) = logic_done tables tasks low are order
  work_done (Array blocks outs) (from, low, numbers, lists, are, bits) = array_done numbers blocks lists are outs from low bits
  work_done (Host inputs printed) (host, are, prints) = host_done inputs printed host are prints

  pub port_done : IsDone nodes homes claims image p port port.work
  port_done = work_done port.work (laid.works p port at)

  -- ---- what is printed

  prints_as : (work : Work) → p ≡ host_of homes → IsWorkFor nodes homes plan.slots p (claims_of claims p) work
      → (length (printed_of work) ≡ length nodes.printed) × ((j x : ℕ) (source : Source) → slice_get (printed_of work) j ≡ Some source → slice_get nodes.printed j ≡ Some x → Carries image claims p port.ins source (From x This))
  prints_as (Logic tables tasks) host (low, are, order) = absurd (omega (arith, host, low))
  prints_as (Array blocks outs) host (from, low, numbers, lists, are, bits) = absurd (omega (arith, host, low))
  prints_as (Host inputs printed) host (is, are, prints) = (
    ap length prints ∙ length-map nodes.printed (λ o. source_of homes plan.slots p o false),
    λ j x source here printed_is.
        let made : (o : ℕ) × (slice_get nodes.printed j ≡ Some o) × (source_of homes plan.slots p o false ≡ source) = mapped_at (λ o. source_of homes plan.slots p o false) nodes.printed j source (ap (λ list. slice_get list j) (sym prints) ∙ here) in
        let same : made.0 ≡ x = one_some made.0 x (sym made.1 ∙ printed_is) in
        subst (λ s. Carries image claims p port.ins s (From x This)) (ap (λ o. source_of homes plan.slots p o false) (sym same) ∙ made.2) (printed_right host j x printed_is).1,
  )

  pub port_prints : p ≡ host_of homes
      → (length (printed_of port.work) ≡ length nodes.printed) × ((j x : ℕ) (source : Source) → slice_get (printed_of port.work) j ≡ Some source → slice_get nodes.printed j ≡ Some x → Carries image claims p port.ins source (From x This))
  port_prints host = prints_as port.work host (laid.works p port at)
