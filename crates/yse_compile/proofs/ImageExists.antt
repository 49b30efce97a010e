-- There is an image of items at their homes in their plan, with its claims: each part of its making, in lists of any
-- length.
use Rattle.std.proofs.Common.{◌≡◌, ◌∙◌, ◌⊎◌, inl, inr, ℕ, zero, suc, ◌<◌, ◌≤◌, List, [], ◌∷◌, ◌++◌, length, map, take, get_or, refl, sym, ap, subst, arith, add-one, true, false}
use Rattle.std.proofs.lemmas.List.{take_all, length_push, get_or_append_left, get_or_push}
use Rattle.std.proofs.lemmas.{Bool.cases_eq, Bool.cases_lt, List.Elements.All-nil, List.Elements.All-push, List.Quantifiers.all_pairs_push}
use Rattle.std.proofs.lemmas.Option.{slice_get_within, slice_get-get_or}
use Rattle.std.specs.{Prelude.Some, Prelude.slice_get, List.All}
use Rattle.list_laws.proofs.{Members.each, Members.each_push, Members.member_at, Places.seam_at, Ranges.last_or}
use Rattle.func_table.specs.{declared.table.Table.Table, Entries.AreAlike, Entries.AreOther, Entries.HasWords, Shelf.AreDifferent}
use Rattle.func_table.proofs.OrderLemmas.{words_decide}
use Rattle.net_defs.specs.{declared.timing.Timing.Timing, Valid.IsValidTiming}
use Rattle.node_defs.specs.declared.items.Item.TheVariants.{Input, BlockBit, Node, Latch}
use Rattle.node_defs.specs.{declared.items.Item.Item, declared.items.NodeNet.NodeNet, WellFormed.column_count, WellFormed.IsComputed, WellFormed.NamesParts}
use Rattle.plan_defs.specs.{declared.plan.Homes.Homes, declared.plan.Plan.Plan, declared.switch.Switch.Switch, Homes.home_of, Homes.host_of, Homes.ports_of}
use Rattle.plan_defs.specs.{Slots.slot_of, Switches.IsSwitch}
use Rattle.plan_defs.proofs.lemmas.PlanLemmas.{one_at_home}
use Rattle.image_defs.specs.declared.image.{Task.Task, Task.TheVariants.Eval, Task.TheVariants.Hold, BlockWork.BlockWork, InColumn.InColumn, Work.Work}
use Rattle.image_defs.specs.declared.image.{Work.TheVariants.Logic, Work.TheVariants.Array, Work.TheVariants.Host, PortImage.PortImage, Image.Image}
use Rattle.image_defs.specs.{Places.Each, Matches.claims_of, declared.file.Claims.Claims, declared.file.PortClaims.PortClaims, Claimed.lists_of}
use Rattle.list_laws.proofs.Decidable.{decided, decide_member}
use Rattle.image_check.proofs.lemmas.MatchKnown.{alike_known}
use Rattle.image_file.specs.Ranges.{tables_of}
use Rattle.image_build.specs.Built.{ArePortMemories, IsBuilt, link_in, link_out}
use Rattle.image_build.specs.code.Layouts.{source_of, feed_source, AreMadeFor, IsTaskFor, block_for, AreBlocks, IsBitFor, IsInputFor, IsWorkFor}
use Rattle.image_build.specs.code.Plans.{IsInputItem, Shelves, AreFirstTasks, AreFirstPorts}
use Rattle.image_build.specs.{PortItems.IsAt, PortItems.ArePortItems, PortItems.ArePlanClaims, Plans.IsPlanned}
use Rattle.image_build.proofs.{BuiltLemmas.laid_out_is_built, GrowLemmas.made_next, GrowLemmas.made_all, MemoryExists.numbers_there}
use Rattle.image_build.proofs.MemoryLemmas.{blocks_more, numbers_low}
use Rattle.image_build.proofs.{PlannedLemmas.at_place, PlannedLemmas.computed_at, PlannedLemmas.input_at_host, PortLemmas.ports_none, PortLemmas.ports_more}
use Rattle.image_build.proofs.TaskLemmas.{tasks_more}
use Rattle.yse_compile.proofs.lemmas.SwitchExists.{listed_by_slot}

-- ---- the items of each port

module _ {nodes : NodeNet} {homes : Homes} {plan : Plan} (planned : IsPlanned nodes homes plan) where
  items_there : (p : ℕ) → (items : List ℕ) × ArePortItems nodes homes plan.slots p items
  items_there p =
      listed_by_slot (slot_of plan.slots) (λ i x. x ≡ i) (IsAt nodes homes p) plan.slots (length nodes.items)
      (λ i. search decided) (λ i at. at.0)
      (λ i at. (i, refl)) (λ i x is. ap (slot_of plan.slots) is)
      (λ i j at other same. one_at_home nodes homes plan.slots (length nodes.items) planned.first_fit.slots i j at.0 other.0 (at.1 ∙ sym other.1) same)

  claims_to : (n : ℕ) → (claims : List (List ℕ)) × (length claims ≡ n) × ((p : ℕ) → p < n → ArePortItems nodes homes plan.slots p (claims_of claims p))
  claims_to zero = ([], refl, λ p low. absurd (omega (arith, low)))
  claims_to (suc n) = next (claims_to n).0 (claims_to n).1 (claims_to n).2 where
    next : (claims : List (List ℕ)) → length claims ≡ n → ((p : ℕ) → p < n → ArePortItems nodes homes plan.slots p (claims_of claims p))
        → (more : List (List ℕ)) × (length more ≡ suc n) × ((p : ℕ) → p < suc n → ArePortItems nodes homes plan.slots p (claims_of more p))
    next claims long so_far = (
      claims ++ (items_there n).0 ∷ [],
      omega (arith, length_push claims (items_there n).0, long),
      λ p low. elim (last_or p n (omega (arith, low))) [
        | inl below ↦ subst (ArePortItems nodes homes plan.slots p) (sym (get_or_append_left claims ((items_there n).0 ∷ []) [] p (omega (arith, below, long)))) (so_far p below)
        | inr same ↦ subst (λ q. ArePortItems nodes homes plan.slots q (claims_of (claims ++ (items_there n).0 ∷ []) q)) (sym same)
            (subst (ArePortItems nodes homes plan.slots n) (sym (get_or_push claims (items_there n).0 [] n long)) (items_there n).1)
      ],
    )

  claims_there : (claims : List (List ℕ)) × ArePlanClaims nodes homes plan.slots claims
  claims_there = (let all = claims_to (ports_of homes) in (all.0, record { ports = all.1; items = all.2 }))

  -- ---- memories

  blocks_to : (p : ℕ) (numbers : List ℕ) → ArePortMemories nodes homes p numbers → (k : ℕ) → k ≤ length numbers → (blocks : List BlockWork) × AreBlocks nodes homes plan.slots p (take k numbers) blocks
  blocks_to p numbers lists zero low = ([], record { as_many = refl; each = λ k m memory here is. (let none = slice_get_within {A = ℕ} [] k m here in absurd (omega (arith, none))) })
  blocks_to p numbers lists (suc k) low = next (blocks_to p numbers lists k (omega (arith, low))).0 (blocks_to p numbers lists k (omega (arith, low))).1 where
    next : (blocks : List BlockWork) → AreBlocks nodes homes plan.slots p (take k numbers) blocks → (more : List BlockWork) × AreBlocks nodes homes plan.slots p (take (suc k) numbers) more
    next blocks so_far =
        let memory = member_at nodes.blocks (get_or numbers k 0) (numbers_low nodes homes p numbers k (get_or numbers k 0) lists (slice_get-get_or numbers k 0 (omega (arith, low)))) in
        (blocks ++ block_for homes plan.slots p memory.0 ∷ [], rw add-one at (blocks_more nodes homes plan.slots p k 0 numbers blocks memory.0 (omega (arith, low)) so_far memory.1))

  -- ---- what is made for the items of a port

  made_there : {T : Type 0} (IsFor : ℕ → Item → T → Type 0) (p : ℕ) (items : List ℕ) → ArePortItems nodes homes plan.slots p items
      → ((x : ℕ) (one : Item) → IsAt nodes homes p x → slice_get nodes.items x ≡ Some one → (thing : T) × IsFor x one thing) → (made : List T) × AreMadeFor nodes IsFor items made
  made_there {T} IsFor p items are some = (let all = made_to (length items) (omega arith) in (all.0, made_all nodes IsFor items (length items) all.0 refl all.1)) where
    made_to : (k : ℕ) → k ≤ length items → (made : List T) × AreMadeFor nodes IsFor (take k items) made
    made_to zero low = ([], record { as_many = refl; each = λ i x one thing here is at. (let none = slice_get_within {A = ℕ} [] i x here in absurd (omega (arith, none))) })
    made_to (suc k) low = next (made_to k (omega (arith, low))).0 (made_to k (omega (arith, low))).1 where
      next : (made : List T) → AreMadeFor nodes IsFor (take k items) made → (more : List T) × AreMadeFor nodes IsFor (take (suc k) items) more
      next made so_far =
          let at = at_place nodes homes plan.slots p items k 0 are (omega (arith, low)) in
          let one = member_at nodes.items (get_or items k 0) at.0 in
          let thing = some (get_or items k 0) one.0 at one.1 in
          (made ++ thing.0 ∷ [], rw add-one at (made_next nodes IsFor items k 0 made one.0 thing.0 (omega (arith, low)) so_far one.1 thing.1))

  input_there : (p x : ℕ) (one : Item) → p ≡ host_of homes → IsAt nodes homes p x → slice_get nodes.items x ≡ Some one → (input : InColumn) × IsInputFor plan.slots x one input
  input_there p x one host at is = by one (input_at_host nodes homes plan planned p x one at is host) where
    by : (one : Item) → IsInputItem one → (input : InColumn) × IsInputFor plan.slots x one input
    by (Input column) is = (record { slot = slot_of plan.slots x; column = column }, refl)
    by (BlockBit m bit) is = absurd is
    by (Node t feeds) is = absurd is
    by (Latch op) is = absurd is

-- ---- tasks and their tables

-- a table is among these or differs from each
found_or : (tables : List Table) (table : Table) → All HasWords tables → HasWords table → ((n : ℕ) × (slice_get tables n ≡ Some table)) ⊎ All (λ t. AreOther t table) tables
found_or tables table whole words = elim (decide_member (λ k t. AreAlike t table) (λ k t. alike_known t table) tables) [
  | inl found ↦ inl (found.0, found.2 ∙ ap Some (words_decide found.1 table (each HasWords tables found.0 found.1 whole found.2) words found.3))
  | inr none ↦ inr (λ k d low alike. none (k, get_or tables k d, slice_get-get_or tables k d low, alike))
]

module _ {nodes : NodeNet} {homes : Homes} {plan : Plan} (planned : IsPlanned nodes homes plan) (words : All HasWords nodes.tables) where
  module _ (p : ℕ) (items : List ℕ) (are : ArePortItems nodes homes plan.slots p items) (low : p < homes.logic) where
    record AreTasksTo (k : ℕ) (tables : List Table) : Type 0 where
      tasks : List Task
      first : AreFirstTasks nodes homes plan.slots p k items tables tasks
      whole : All HasWords tables

    with_task : (k : ℕ) → k < length items → (old : List Table) → AreTasksTo k old → (one : Item) → slice_get nodes.items (get_or items k 0) ≡ Some one → (new : List Table) (task : Task) → IsTaskFor nodes homes plan.slots p new (get_or items k 0) one task
        → AreDifferent new → Shelves old new task → All HasWords new → AreTasksTo (suc k) new
    with_task k within old so_far one there new task right different shelf whole = record {
      tasks = so_far.tasks ++ task ∷ [];
      first = rw add-one at (tasks_more nodes homes plan.slots p k 0 items old new so_far.tasks one task so_far.first within there right different shelf);
      whole = whole;
    }

    task_next : (k : ℕ) → k < length items → (old : List Table) → AreTasksTo k old → (one : Item) → slice_get nodes.items (get_or items k 0) ≡ Some one → NamesParts nodes one → IsComputed one → (new : List Table) × AreTasksTo (suc k) new
    task_next k within old so_far (Input column) there parts computed = absurd computed
    task_next k within old so_far (BlockBit m bit) there parts computed = absurd computed
    task_next k within old so_far (Latch op) there parts computed = (
      old,
      with_task k within old so_far (Latch op) there old (Hold (slot_of plan.slots (get_or items k 0)) (source_of homes plan.slots p op true)) refl so_far.first.in_order.different refl so_far.whole,
    )
    task_next k within old so_far (Node t feeds) there parts computed = by (found_or old table.0 so_far.whole own) where
      table : (table : Table) × (slice_get nodes.tables t ≡ Some table)
      table = member_at nodes.tables t parts

      own : HasWords table.0
      own = each HasWords nodes.tables t table.0 words table.1

      task : ℕ → Task
      task n = Eval (slot_of plan.slots (get_or items k 0)) n (feed_source homes plan.slots p feeds.a) (feed_source homes plan.slots p feeds.b) (feed_source homes plan.slots p feeds.c) (feed_source homes plan.slots p feeds.d)

      by : ((n : ℕ) × (slice_get old n ≡ Some table.0)) ⊎ All (λ s. AreOther s table.0) old → (new : List Table) × AreTasksTo (suc k) new
      by (inl found) = (
        old,
        with_task k within old so_far (Node t feeds) there old (task found.0) (found.0, slice_get_within old found.0 table.0 found.1, found.1 ∙ sym table.1, refl) so_far.first.in_order.different (table.0, inl (found.1, refl)) so_far.whole,
      )
      by (inr others) =
          let long = length_push old table.0 in (
            old ++ table.0 ∷ [],
            with_task k within old so_far (Node t feeds) there (old ++ table.0 ∷ []) (task (length old)) (length old, omega (arith, long), seam_at old table.0 [] ∙ sym table.1, refl)
                (all_pairs_push AreOther old table.0 so_far.first.in_order.different others) (table.0, inr (others, refl, refl)) (All-push HasWords old table.0 so_far.whole own),
          )

    tasks_to : (k : ℕ) → k ≤ length items → (tables : List Table) × AreTasksTo k tables
    tasks_to zero within = (
      [],
      record {
        tasks = [];
        first = record {
          tasks_are = record { as_many = refl; each = λ i x one thing here is at. (let none = slice_get_within {A = ℕ} [] i x here in absurd (omega (arith, none))) };
          in_order = record {
            different = λ i j d before below. absurd (omega (arith, below));
            used = λ n none. absurd (omega (arith, none));
            before = λ i m n uses less. (let none = slice_get_within {A = Task} [] i (Eval uses.slot n uses.a uses.b uses.c uses.d) uses.is in absurd (omega (arith, none)));
          };
          few = omega arith;
        };
        whole = All-nil HasWords;
      },
    )
    tasks_to (suc k) within = next (tasks_to k (omega (arith, within))).0 (tasks_to k (omega (arith, within))).1 where
      next : (old : List Table) → AreTasksTo k old → (new : List Table) × AreTasksTo (suc k) new
      next old so_far =
          let at = at_place nodes homes plan.slots p items k 0 are (omega (arith, within)) in
          let one = member_at nodes.items (get_or items k 0) at.0 in
          task_next k (omega (arith, within)) old so_far one.0 one.1 (planned.formed.parts (get_or items k 0) one.0 one.1) (computed_at nodes homes plan planned p (get_or items k 0) one.0 at one.1 low)

  -- ---- what a port does

  -- its work, with tables of eight words
  record IsWorkThere (p : ℕ) (items : List ℕ) (work : Work) : Type 0 where
    is : IsWorkFor nodes homes plan.slots p items work
    whole : Each HasWords (tables_of work)

  work_there : (p : ℕ) (items : List ℕ) → p < ports_of homes → ArePortItems nodes homes plan.slots p items → (work : Work) × IsWorkThere p items work
  work_there p items within are = elim (cases_lt p homes.logic) [
    | inl low ↦ (
        let all = tasks_to p items are low (length items) (omega arith) in (
          Logic all.0 all.1.tasks,
          record {
            is = (low, made_all nodes (IsTaskFor nodes homes plan.slots p all.0) items (length items) all.1.tasks refl all.1.first.tasks_are, all.1.first.in_order);
            whole = λ n table here. each HasWords all.0 n table all.1.whole here;
          },
        ))
    | inr most ↦ elim (cases_lt p (host_of homes)) [
      | inl high ↦ (
          let memories = numbers_there planned in
          let numbers = claims_of memories.0 p in
          let lists = memories.1 p within in
          let blocks = blocks_to planned p numbers lists (length numbers) (omega arith) in
          let outs = made_there planned (IsBitFor plan.slots numbers) p items are (λ x one at is. memories.2 p x one most high at is) in (
            Array blocks.0 outs.0,
            record {
              is = (most, high, numbers, lists, subst (λ xs. AreBlocks nodes homes plan.slots p xs blocks.0) (take_all (length numbers) numbers (omega arith)) blocks.1, outs.1);
              whole = λ n table here. (let none = slice_get_within {A = Table} [] n table here in absurd (omega (arith, none)));
            },
          ))
      | inr least ↦ (
          let host : p ≡ host_of homes = omega (arith, within, least) in
          let inputs = made_there planned (IsInputFor plan.slots) p items are (λ x one at is. input_there planned p x one host at is) in (
            Host inputs.0 (map (λ o. source_of homes plan.slots p o false) nodes.printed),
            record {
              is = (host, inputs.1, refl);
              whole = λ n table here. (let none = slice_get_within {A = Table} [] n table here in absurd (omega (arith, none)));
            },
          ))
    ]
  ]

  -- ---- all ports

  module _ (switch : Switch) (routed : IsSwitch nodes homes plan.slots switch) (claims : List (List ℕ)) (are : ArePlanClaims nodes homes plan.slots claims) where
    record ArePortsTo (n : ℕ) (ports : List PortImage) : Type 0 where
      first : AreFirstPorts nodes homes plan switch claims n ports
      whole : Each (λ port. Each HasWords (tables_of port.work)) ports

    ports_to : (n : ℕ) → n ≤ ports_of homes → (ports : List PortImage) × ArePortsTo n ports
    ports_to zero low = (
      [],
      record {
        first = ports_none nodes homes plan switch claims;
        whole = λ p port here. (let none = slice_get_within {A = PortImage} [] p port here in absurd (omega (arith, none)));
      },
    )
    ports_to (suc n) low = next (ports_to n (omega (arith, low))).0 (ports_to n (omega (arith, low))).1 where
      next : (ports : List PortImage) → ArePortsTo n ports → (more : List PortImage) × ArePortsTo (suc n) more
      next ports so_far =
          let count = routed.ports in
          let links = member_at switch.ports n (omega (arith, low, count)) in
          let work = work_there n (claims_of claims n) (omega (arith, low)) (are.items n (omega (arith, low))) in
          let port : PortImage = record { work = work.0; outs = map link_out links.0.sends; ins = map link_in links.0.receipts } in (
            ports ++ port ∷ [],
            record {
              first = rw add-one at (ports_more nodes homes plan switch claims n ports port links.0 so_far.first work.1.is links.1 (record { outs = refl; ins = refl }));
              whole = each_push (λ (q : PortImage). Each HasWords (tables_of q.work)) ports port so_far.whole work.1.whole;
            },
          )

-- an image that is built, and the claims of its plan
pub record IsImageThere (nodes : NodeNet) (homes : Homes) (plan : Plan) (switch : Switch) (timing : Timing) (image : Image) (claims : Claims) : Type 0 where
  pub built : IsBuilt nodes homes plan switch timing image
  pub planned : ArePlanClaims nodes homes plan.slots (lists_of claims)
  pub words : Each (λ port. Each HasWords (tables_of port.work)) image.ports

-- the claims of these lists
listed_claims : (lists : List (List ℕ)) → (claims : Claims) × (lists_of claims ≡ lists)
listed_claims lists = (record { ports = (by lists).0 }, (by lists).1) where
  by : (lists : List (List ℕ)) → (ports : List PortClaims) × (map (λ (port : PortClaims). port.items) ports ≡ lists)
  by [] = ([], refl)
  by (items ∷ others) = (record { items = items } ∷ (by others).0, ap (λ xs. items ∷ xs) (by others).1)

pub image_there : (nodes : NodeNet) (homes : Homes) (plan : Plan) (switch : Switch) (timing : Timing) → IsPlanned nodes homes plan → All HasWords nodes.tables → IsSwitch nodes homes plan.slots switch → IsValidTiming timing
    → (image : Image) × (claims : Claims) × IsImageThere nodes homes plan switch timing image claims
image_there nodes homes plan switch timing planned words routed valid =
    let lists = claims_there planned in
    let claims = listed_claims lists.0 in
    let ports = ports_to planned words switch routed lists.0 lists.1 (ports_of homes) (omega arith) in
    let image : Image = record { slots = plan.needed; units = timing.units; init = timing.init; columns = column_count nodes; ports = ports.0 } in (
      image,
      claims.0,
      record {
        built = laid_out_is_built nodes homes plan switch timing lists.0 image planned routed valid (record {
          slots = refl;
          units = refl;
          init = refl;
          columns = refl;
          ports = ports.1.first.are;
          planned = lists.1;
          works = ports.1.first.works;
          links = ports.1.first.links;
        });
        planned = subst (ArePlanClaims nodes homes plan.slots) (sym claims.1) lists.1;
        words = ports.1.whole;
      },
    )
