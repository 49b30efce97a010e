-- Of items at their homes in their slots one image is built.
use Rattle.std.proofs.Common.{◌≡◌, ◌⊎◌, ◌∙◌, inl, inr, ℕ, ◌<◌, List, length, map, Some, slice_get, refl, sym, ap, subst, arith, true, false}
use Rattle.std.proofs.lemmas.{List.length-map, Option.slice_get_within}
use Rattle.list_laws.proofs.{Members.member_at, Members.mapped_at, Members.listed, Options.one_some}
use Rattle.net_defs.specs.declared.timing.Timing.{Timing}
use Rattle.func_table.specs.{declared.table.Table.Table, Entries.AreAlike}
use Rattle.node_defs.specs.declared.items.{Tag.TheVariants.This, Feed.TheVariants.From, Feeds.Feeds, Item.Item, NodeBlock.NodeBlock}
use Rattle.node_defs.specs.declared.items.NodeNet.{NodeNet}
use Rattle.node_defs.specs.declared.items.Item.TheVariants as item
use Rattle.image_defs.specs.Places.{Each, IsPort, item_slots, printed_of, task_slot}
use Rattle.image_defs.specs.Matches.{claims_of, IsClaim, Carries, TaskImplements, Implements, BitImplements, InputImplements, Matches}
use Rattle.image_defs.specs.declared.image.{Source.Source, Task.Task, Task.TheVariants.Eval, Task.TheVariants.Hold, BlockWork.BlockWork, OutBit.OutBit}
use Rattle.image_defs.specs.declared.image.{InColumn.InColumn, Work.Work, Work.TheVariants.Logic, Work.TheVariants.Array, Work.TheVariants.Host, LinkIn.LinkIn}
use Rattle.image_defs.specs.{declared.image.PortImage.PortImage, declared.image.Image.Image, WellFormed.IsWork}
use Rattle.image_defs.specs.Places as places
use Rattle.image_defs.proofs.lemmas.PlaceLemmas.{rises, place_found}
use Rattle.plan_defs.specs.{declared.plan.Homes.Homes, Homes.block_home, Homes.host_of, Slots.slot_of}
use Rattle.switch_set.proofs.lemmas.SameLemmas.{one_lists}
use Rattle.image_build.specs.Built.{Evaluates, IsOrdered}
use Rattle.image_build.specs.code.Layouts.{source_of, feed_source, block_for}
use Rattle.func_table.proofs.OrderLemmas.{AreTwins, ArePaired, same_by, same_numbers, same_tables}
use Rattle.image_build.proofs.PlacedLemmas.{IsPlacedBy, IsTaskLike, carried_source, memory_is, task_like}
use Rattle.image_build.proofs.{MemberLemmas.made_there, WorkLemmas.eval_for}

-- an image that is built of items at their homes in these slots, by these claims
pub record IsBuiltBy (nodes : NodeNet) (homes : Homes) (slots : List ℕ) (claims : List (List ℕ)) (timing : Timing) (image : Image) : Type 0 where
  pub placed : IsPlacedBy nodes homes slots claims image
  pub matches : Matches image claims nodes timing
  pub ordered : (p : ℕ) (port : PortImage) → IsPort image p port → IsOrdered nodes homes image claims p port.ins port.work

-- what a port of it does is this
record Does (nodes : NodeNet) (homes : Homes) (slots : List ℕ) (claims : List (List ℕ)) (image : Image) (p : ℕ) (port : PortImage) (work : Work) : Type 0 where
  names : IsWork image.columns port work
  ordered : IsOrdered nodes homes image claims p port.ins work
  slots_are : item_slots work ≡ map (slot_of slots) (claims_of claims p)
  as_claimed : (i x : ℕ) → IsClaim claims p i x → (one : Item) × (slice_get nodes.items x ≡ Some one) × Implements image claims nodes p port.ins work i one
  as_printed : p ≡ host_of homes → (length (printed_of work) ≡ length nodes.printed)
      × ((j x : ℕ) (source : Source) → slice_get (printed_of work) j ≡ Some source → slice_get nodes.printed j ≡ Some x → Carries image claims p port.ins source (From x This))

module _ {nodes : NodeNet} {homes : Homes} {slots : List ℕ} {claims : List (List ℕ)} {timing : Timing} {image : Image} (is : IsBuiltBy nodes homes slots claims timing image) (p : ℕ) (port : PortImage) (at : IsPort image p port) where
  host_is : p ≡ host_of homes → p ≡ places.host_of image
  host_is same = let count = is.placed.planned.ports in let ports = is.placed.ports in omega (arith, count, ports, same)

  does : (work : Work) → port.work ≡ work → Does nodes homes slots claims image p port work
  does work same = subst (Does nodes homes slots claims image p port) same (record {
    names = (is.placed.fits.ports p port at).work;
    ordered = is.ordered p port at;
    slots_are = is.placed.placed p port at;
    as_claimed = λ i x claim. let implements = is.matches.items p i x port at claim in (implements.item, implements.is, implements.same);
    as_printed = λ host.
        let last : p ≡ places.host_of image = host_is host in
        let prints = is.matches.printed port (subst (λ q. IsPort image q port) last at) in
        (prints.as_many, λ j x source here there. subst (λ q. Carries image claims q port.ins source (From x This)) (sym last) (prints.each j x source here there));
  })

  -- ---- by the kind of the port

  -- item number i has a claim
  claim_there : {T : Type 0} (slot : T → ℕ) (made : List T) (i : ℕ) (thing : T) → map slot made ≡ map (slot_of slots) (claims_of claims p) → slice_get made i ≡ Some thing → (x : ℕ) × IsClaim claims p i x × (slot thing ≡ slot_of slots x)
  claim_there slot made i thing same here =
      let found = mapped_at (slot_of slots) (claims_of claims p) i (slot thing) (ap (λ xs. slice_get xs i) (sym same) ∙ made_there slot (map slot made) made i thing refl here) in
      (found.0, found.1, sym found.2)

  count_is : {T : Type 0} (slot : T → ℕ) (made : List T) → map slot made ≡ map (slot_of slots) (claims_of claims p) → length made ≡ length (claims_of claims p)
  count_is slot made same = sym (length-map made slot) ∙ ap length same ∙ length-map (claims_of claims p) (slot_of slots)

  out_told : (blocks : List BlockWork) (outs : List OutBit) → Does nodes homes slots claims image p port (Array blocks outs) → (i x : ℕ) (out : OutBit) → IsClaim claims p i x → slice_get outs i ≡ Some out
      → (one : Item) × (slice_get nodes.items x ≡ Some one) × BitImplements image claims nodes p port.ins blocks out one × (out.slot ≡ slot_of slots x)
  out_told blocks outs work i x out claim here =
      let found = work.as_claimed i x claim in
      let mine = claim_there (λ (o : OutBit). o.slot) outs i out work.slots_are here in
      let same : mine.0 ≡ x = one_some mine.0 x (sym mine.1 ∙ claim) in
      let out_is : found.2.0 ≡ out = one_some found.2.0 out (sym found.2.1 ∙ here) in
      (found.0, found.1, subst (λ o. BitImplements image claims nodes p port.ins blocks o found.0) out_is found.2.2, mine.2 ∙ ap (slot_of slots) same)

  input_told : (inputs : List InColumn) (printed : List Source) → Does nodes homes slots claims image p port (Host inputs printed) → (i x : ℕ) (input : InColumn) → IsClaim claims p i x → slice_get inputs i ≡ Some input
      → (one : Item) × (slice_get nodes.items x ≡ Some one) × InputImplements input one × (input.slot ≡ slot_of slots x)
  input_told inputs printed work i x input claim here =
      let found = work.as_claimed i x claim in
      let mine = claim_there (λ (o : InColumn). o.slot) inputs i input work.slots_are here in
      let same : mine.0 ≡ x = one_some mine.0 x (sym mine.1 ∙ claim) in
      let input_is : found.2.0 ≡ input = one_some found.2.0 input (sym found.2.1 ∙ here) in
      (found.0, found.1, subst (λ o. InputImplements o found.0) input_is found.2.2, mine.2 ∙ ap (slot_of slots) same)

  block_told : (blocks : List BlockWork) (outs : List OutBit) → (work : Does nodes homes slots claims image p port (Array blocks outs)) → (k m : ℕ) (block : BlockWork) (memory : NodeBlock)
      → slice_get blocks k ≡ Some block → slice_get work.ordered.2.numbers k ≡ Some m → slice_get nodes.blocks m ≡ Some memory → block ≡ block_for homes slots p memory
  block_told blocks outs work k m block memory here number there =
      memory_is is.placed p port at block memory (work.names.0 k block here) (work.ordered.2.each k m block memory here number there)

  -- memories of these numbers
  memory_there : (blocks : List BlockWork) (outs : List OutBit) → (work : Does nodes homes slots claims image p port (Array blocks outs)) → (k : ℕ) (block : BlockWork) → slice_get blocks k ≡ Some block
      → (m : ℕ) × (memory : NodeBlock) × (slice_get work.ordered.2.numbers k ≡ Some m) × (slice_get nodes.blocks m ≡ Some memory)
  memory_there blocks outs work k block here =
      let m = member_at work.ordered.2.numbers k (let low = slice_get_within blocks k block here in let count = work.ordered.2.as_many in omega (arith, low, count)) in
      let memory = member_at nodes.blocks m.0 ((work.ordered.2.lists.exact m.0).0 (listed work.ordered.2.numbers k m.0 m.1)).0 in
      (m.0, memory.0, m.1, memory.1)

  printed_told : (inputs : List InColumn) (printed : List Source) → Does nodes homes slots claims image p port (Host inputs printed) → printed ≡ map (λ o. source_of homes slots p o false) nodes.printed
  printed_told inputs printed work =
      same_by printed (map (λ o. source_of homes slots p o false) nodes.printed) ((work.as_printed work.ordered).0 ∙ sym (length-map nodes.printed (λ o. source_of homes slots p o false))) (λ k x y here made.
      let from = mapped_at (λ o. source_of homes slots p o false) nodes.printed k y made in
      carried_source is.placed p port at x (From from.0 This) (work.names.1 k x here).there ((work.as_printed work.ordered).1 k from.0 x here from.1) ∙ from.2)

  task_told : (tables : List Table) (tasks : List Task) → Does nodes homes slots claims image p port (Logic tables tasks) → (i x : ℕ) (task : Task) → IsClaim claims p i x → slice_get tasks i ≡ Some task
      → (one : Item) × (slice_get nodes.items x ≡ Some one) × IsTaskLike nodes homes slots p tables x one task
  task_told tables tasks work i x task claim here =
      let found = work.as_claimed i x claim in
      let mine = claim_there task_slot tasks i task work.slots_are here in
      let same : mine.0 ≡ x = one_some mine.0 x (sym mine.1 ∙ claim) in
      let task_is : found.2.0 ≡ task = one_some found.2.0 task (sym found.2.1 ∙ here) in
      (found.0, found.1, task_like is.placed p port at tables x found.0 task (work.names i task here) (mine.2 ∙ ap (slot_of slots) same) (told found.0 found.2 task_is))
    where
      told : (one : Item) (done : Implements image claims nodes p port.ins (Logic tables tasks) i one) → done.0 ≡ task → TaskImplements image claims nodes p port.ins tables task one
      told one done same = subst (λ t. TaskImplements image claims nodes p port.ins tables t one) same done.2

-- ---- two images

-- two tasks that differ in the numbers of their tables alone
record AreEvals (homes : Homes) (slots : List ℕ) (p x : ℕ) (tables others : List Table) (task twin : Task) : Type 0 where
  n : ℕ
  m : ℕ
  feeds : Feeds
  one : task ≡ eval_for homes slots p x n feeds
  other : twin ≡ eval_for homes slots p x m feeds
  alike : AreTwins tables others n m

record AreHolds (task twin : Task) : Type 0 where
  slot : ℕ
  from : Source
  one : task ≡ Hold slot from
  other : twin ≡ Hold slot from

-- the number of the table that a task looks up in
abbrev number_in : Task → ℕ
number_in (Eval slot n a b c d) = n
number_in (Hold slot from) = 0

-- the tasks of one item
two_tasks : (nodes : NodeNet) (homes : Homes) (slots : List ℕ) (p x : ℕ) (tables others : List Table) (i : Item) (task twin : Task)
    → IsTaskLike nodes homes slots p tables x i task → IsTaskLike nodes homes slots p others x i twin → AreEvals homes slots p x tables others task twin ⊎ AreHolds task twin
two_tasks nodes homes slots p x tables others (item.Node t feeds) task twin (n, first, mine, task_is, here, there, alike) (m, second, theirs, twin_is, here_too, there_too, alike_too) =
    let same : mine ≡ theirs = one_some mine theirs (sym there ∙ there_too) in
    inl (record {
      n = n;
      m = m;
      feeds = feeds;
      one = task_is;
      other = twin_is;
      alike = record {
        one = first;
        other = second;
        one_is = here;
        other_is = here_too;
        alike = λ e low. alike e low ∙ sym (subst (AreAlike second) (sym same) alike_too e low);
      };
    })
two_tasks nodes homes slots p x tables others (item.Latch op) task twin task_is twin_is =
    inr (record { slot = slot_of slots x; from = source_of homes slots p op true; one = task_is; other = twin_is })
two_tasks nodes homes slots p x tables others (item.Input column) task twin none like = absurd none
two_tasks nodes homes slots p x tables others (item.BlockBit m bit) task twin none like = absurd none

-- an item that an output bit or an input does
bit_named : (image : Image) (claims : List (List ℕ)) (nodes : NodeNet) (p : ℕ) (ins : List LinkIn) (blocks : List BlockWork) (out : OutBit) (i : Item) → BitImplements image claims nodes p ins blocks out i
    → (m : ℕ) × (bit : ℕ) × (i ≡ item.BlockBit m bit) × (out.bit ≡ bit)
bit_named image claims nodes p ins blocks out (item.BlockBit m bit) done = (m, bit, refl, done.0)
bit_named image claims nodes p ins blocks out (item.Input column) done = absurd done
bit_named image claims nodes p ins blocks out (item.Node t feeds) done = absurd done
bit_named image claims nodes p ins blocks out (item.Latch op) done = absurd done

input_named : (input : InColumn) (i : Item) → InputImplements input i → (column : ℕ) × (i ≡ item.Input column) × (input.column ≡ column)
input_named input (item.Input column) done = (column, refl, done)
input_named input (item.BlockBit m bit) done = absurd done
input_named input (item.Node t feeds) done = absurd done
input_named input (item.Latch op) done = absurd done

same_bit : (m bit n also : ℕ) → item.BlockBit m bit ≡ item.BlockBit n also → (m ≡ n) × (bit ≡ also)
same_bit m bit n also same = (cc, cc)

same_column : (column also : ℕ) → item.Input column ≡ item.Input also → column ≡ also
same_column column also same = cc

same_out : (out twin : OutBit) → out.slot ≡ twin.slot → out.block ≡ twin.block → out.bit ≡ twin.bit → out ≡ twin
same_out out twin slot block bit =
    ap (λ s. record { slot = s; block = out.block; bit = out.bit }) slot
    ∙ ap (λ b. record { slot = twin.slot; block = b; bit = out.bit }) block
    ∙ ap (λ b. record { slot = twin.slot; block = twin.block; bit = b }) bit

same_input : (input twin : InColumn) → input.slot ≡ twin.slot → input.column ≡ twin.column → input ≡ twin
same_input input twin slot column =
    ap (λ s. record { slot = s; column = input.column }) slot ∙ ap (λ c. record { slot = twin.slot; column = c }) column

-- the tables of a logic port are of this kind
abbrev pub AreAll : (Table → Type 0) → Work → Type 0
AreAll Whole (Logic tables tasks) = Each Whole tables
AreAll Whole (Array blocks outs) = Unit {0}
AreAll Whole (Host inputs printed) = Unit {0}

module _ {nodes : NodeNet} {homes : Homes} {slots : List ℕ} {claims : List (List ℕ)} {timing : Timing} {first second : Image}
    (is : IsBuiltBy nodes homes slots claims timing first) (is_too : IsBuiltBy nodes homes slots claims timing second)
    (p : ℕ) (port twin : PortImage) (at : IsPort first p port) (at_too : IsPort second p twin) where
  module _ (tables others : List Table) (tasks twins : List Task) (work : Does nodes homes slots claims first p port (Logic tables tasks)) (work_too : Does nodes homes slots claims second p twin (Logic others twins)) where
    as_many : length tasks ≡ length twins
    as_many = count_is is p port at task_slot tasks work.slots_are ∙ sym (count_is is_too p twin at_too task_slot twins work_too.slots_are)

    twin_there : (i : ℕ) (task : Task) → slice_get tasks i ≡ Some task → (also : Task) × (slice_get twins i ≡ Some also)
    twin_there i task here = member_at twins i (let low = slice_get_within tasks i task here in omega (arith, low, as_many))

    task_there : (i : ℕ) (also : Task) → slice_get twins i ≡ Some also → (task : Task) × (slice_get tasks i ≡ Some task)
    task_there i also here = member_at tasks i (let low = slice_get_within twins i also here in omega (arith, low, as_many))

    pair_at : (i : ℕ) (task also : Task) → slice_get tasks i ≡ Some task → slice_get twins i ≡ Some also → (x : ℕ) × (AreEvals homes slots p x tables others task also ⊎ AreHolds task also)
    pair_at i task also here there =
        let claim = claim_there is p port at task_slot tasks i task work.slots_are here in
        let mine = task_told is p port at tables tasks work i claim.0 task claim.1 here in
        let theirs = task_told is_too p twin at_too others twins work_too i claim.0 also claim.1 there in
        let same : mine.0 ≡ theirs.0 = one_some mine.0 theirs.0 (sym mine.1 ∙ theirs.1) in
        (claim.0, two_tasks nodes homes slots p claim.0 tables others mine.0 task also mine.2 (subst (λ i. IsTaskLike nodes homes slots p others claim.0 i also) (sym same) theirs.2))

    no_hold : (slot n : ℕ) (a b c d : Source) (s : ℕ) (from : Source) → Eval slot n a b c d ≡ Hold s from → ⊥
    no_hold slot n a b c d s from e = cc

    paired : ArePaired tables others (Evaluates tasks) (Evaluates twins)
    paired = record {
      there = λ i n e.
          let also = twin_there i (Eval e.slot n e.a e.b e.c e.d) e.is in
          there_by i n e also.0 also.1 (pair_at i (Eval e.slot n e.a e.b e.c e.d) also.0 e.is also.1).1;
      back = λ i m e.
          let task = task_there i (Eval e.slot m e.a e.b e.c e.d) e.is in
          back_by i m e task.0 task.1 (pair_at i task.0 (Eval e.slot m e.a e.b e.c e.d) task.1 e.is).1;
      same = λ i n m e f. same_in i n m e f (pair_at i (Eval e.slot n e.a e.b e.c e.d) (Eval f.slot m f.a f.b f.c f.d) e.is f.is).1;
    } where
      there_by : {x : ℕ} (i n : ℕ) (e : Evaluates tasks i n) (also : Task) → slice_get twins i ≡ Some also → AreEvals homes slots p x tables others (Eval e.slot n e.a e.b e.c e.d) also ⊎ AreHolds (Eval e.slot n e.a e.b e.c e.d) also
          → (m : ℕ) × Evaluates twins i m
      there_by {x} i n e also is_at (inl evals) = (
        evals.m,
        record {
          slot = slot_of slots x;
          a = feed_source homes slots p evals.feeds.a;
          b = feed_source homes slots p evals.feeds.b;
          c = feed_source homes slots p evals.feeds.c;
          d = feed_source homes slots p evals.feeds.d;
          is = is_at ∙ ap Some evals.other;
        },
      )
      there_by i n e also is_at (inr holds) = absurd (no_hold e.slot n e.a e.b e.c e.d holds.slot holds.from holds.one)

      back_by : {x : ℕ} (i m : ℕ) (e : Evaluates twins i m) (task : Task) → slice_get tasks i ≡ Some task → AreEvals homes slots p x tables others task (Eval e.slot m e.a e.b e.c e.d) ⊎ AreHolds task (Eval e.slot m e.a e.b e.c e.d)
          → (n : ℕ) × Evaluates tasks i n
      back_by {x} i m e task is_at (inl evals) = (
        evals.n,
        record {
          slot = slot_of slots x;
          a = feed_source homes slots p evals.feeds.a;
          b = feed_source homes slots p evals.feeds.b;
          c = feed_source homes slots p evals.feeds.c;
          d = feed_source homes slots p evals.feeds.d;
          is = is_at ∙ ap Some evals.one;
        },
      )
      back_by i m e task is_at (inr holds) = absurd (no_hold e.slot m e.a e.b e.c e.d holds.slot holds.from holds.other)

      same_in : {x : ℕ} (i n m : ℕ) (e : Evaluates tasks i n) (f : Evaluates twins i m)
          → AreEvals homes slots p x tables others (Eval e.slot n e.a e.b e.c e.d) (Eval f.slot m f.a f.b f.c f.d) ⊎ AreHolds (Eval e.slot n e.a e.b e.c e.d) (Eval f.slot m f.a f.b f.c f.d) → AreTwins tables others n m
      same_in i n m e f (inl evals) =
          subst (λ k. AreTwins tables others k m) (sym (ap number_in evals.one)) (subst (AreTwins tables others evals.n) (sym (ap number_in evals.other)) evals.alike)
      same_in i n m e f (inr holds) = absurd (no_hold e.slot n e.a e.b e.c e.d holds.slot holds.from holds.one)

    tasks_same : tasks ≡ twins
    tasks_same = same_by tasks twins as_many (λ i task also here there. by i task also here there (pair_at i task also here there).1) where
      by : {x : ℕ} (i : ℕ) (task also : Task) → slice_get tasks i ≡ Some task → slice_get twins i ≡ Some also → AreEvals homes slots p x tables others task also ⊎ AreHolds task also → task ≡ also
      by {x} i task also here there (inl evals) =
          let numbers : evals.n ≡ evals.m = same_numbers tables others (Evaluates tasks) (Evaluates twins) work.ordered.1 work_too.ordered.1 paired i evals.n evals.m (mine (here ∙ ap Some evals.one)) (mine (there ∙ ap Some evals.other)) in
          evals.one ∙ ap (λ n. eval_for homes slots p x n evals.feeds) numbers ∙ sym evals.other where
            mine : {list : List Task} {n : ℕ} → slice_get list i ≡ Some (eval_for homes slots p x n evals.feeds) → Evaluates list i n
            mine e = record {
              slot = slot_of slots x;
              a = feed_source homes slots p evals.feeds.a;
              b = feed_source homes slots p evals.feeds.b;
              c = feed_source homes slots p evals.feeds.c;
              d = feed_source homes slots p evals.feeds.d;
              is = e;
            }
      by i task also here there (inr holds) = holds.one ∙ sym holds.other

    logic_same : (Whole : Table → Type 0) → ((t u : Table) → Whole t → Whole u → AreAlike t u → t ≡ u) → Each Whole tables → Each Whole others → Logic tables tasks ≡ Logic others twins
    logic_same Whole decided whole whole_too =
        ap (λ ts. Logic ts tasks) (same_tables tables others (Evaluates tasks) (Evaluates twins) work.ordered.1 work_too.ordered.1 paired (λ n m t u here there. decided t u (whole n t here) (whole_too m u there)))
        ∙ ap (Logic others) tasks_same

  module _ (blocks others : List BlockWork) (outs twins : List OutBit) (work : Does nodes homes slots claims first p port (Array blocks outs)) (work_too : Does nodes homes slots claims second p twin (Array others twins)) where
    numbers_same : work.ordered.2.numbers ≡ work_too.ordered.2.numbers
    numbers_same =
        one_lists (λ m. (m < length nodes.blocks) × (block_home homes m ≡ p)) work.ordered.2.numbers work_too.ordered.2.numbers work.ordered.2.lists work_too.ordered.2.lists

    blocks_same : blocks ≡ others
    blocks_same = same_by blocks others (work.ordered.2.as_many ∙ ap length numbers_same ∙ sym work_too.ordered.2.as_many) (λ k block also here there.
        let known = memory_there is p port at blocks outs work k block here in
        block_told is p port at blocks outs work k known.0 block known.1 here known.2 known.3
        ∙ sym (block_told is_too p twin at_too others twins work_too k known.0 also known.1 there
        (subst (λ (xs : List ℕ). slice_get xs k ≡ Some known.0) numbers_same known.2) known.3))

    outs_same : outs ≡ twins
    outs_same =
        same_by outs twins (count_is is p port at (λ (o : OutBit). o.slot) outs work.slots_are ∙ sym (count_is is_too p twin at_too (λ (o : OutBit). o.slot) twins work_too.slots_are)) (λ i out also here there.
        let claim = claim_there is p port at (λ (o : OutBit). o.slot) outs i out work.slots_are here in
        let mine = out_told is p port at blocks outs work i claim.0 out claim.1 here in
        let theirs = out_told is_too p twin at_too others twins work_too i claim.0 also claim.1 there in
        let bit = bit_named first claims nodes p port.ins blocks out mine.0 mine.2 in
        let bit_too = bit_named second claims nodes p twin.ins others also theirs.0 theirs.2 in
        let parts = same_bit bit.0 bit.1 bit_too.0 bit_too.1 (sym bit.2 ∙ one_some mine.0 theirs.0 (sym mine.1 ∙ theirs.1) ∙ bit_too.2) in
        let place : slice_get work_too.ordered.2.numbers out.block ≡ Some bit_too.0 =
        subst (λ (xs : List ℕ). slice_get xs out.block ≡ Some bit_too.0) numbers_same (work.ordered.2.bits i claim.0 bit.0 bit.1 out here claim.1 (mine.1 ∙ ap Some bit.2) ∙ ap Some parts.0) in
        let place_too = work_too.ordered.2.bits i claim.0 bit_too.0 bit_too.1 also there claim.1 (theirs.1 ∙ ap Some bit_too.2) in
        let up = rises work_too.ordered.2.numbers work_too.ordered.2.lists.rising in
        same_out out also (mine.3 ∙ sym theirs.3)
        (sym (place_found work_too.ordered.2.numbers out.block bit_too.0 up place) ∙ place_found work_too.ordered.2.numbers also.block bit_too.0 up place_too)
        (bit.3 ∙ parts.1 ∙ sym bit_too.3))

    array_same : Array blocks outs ≡ Array others twins
    array_same = ap (λ bs. Array bs outs) blocks_same ∙ ap (Array others) outs_same

  module _ (inputs others : List InColumn) (printed twins : List Source) (work : Does nodes homes slots claims first p port (Host inputs printed)) (work_too : Does nodes homes slots claims second p twin (Host others twins)) where
    inputs_same : inputs ≡ others
    inputs_same =
        same_by inputs others (count_is is p port at (λ (o : InColumn). o.slot) inputs work.slots_are ∙ sym (count_is is_too p twin at_too (λ (o : InColumn). o.slot) others work_too.slots_are)) (λ i input also here there.
        let claim = claim_there is p port at (λ (o : InColumn). o.slot) inputs i input work.slots_are here in
        let mine = input_told is p port at inputs printed work i claim.0 input claim.1 here in
        let theirs = input_told is_too p twin at_too others twins work_too i claim.0 also claim.1 there in
        let named = input_named input mine.0 mine.2 in
        let named_too = input_named also theirs.0 theirs.2 in
        let column = same_column named.0 named_too.0 (sym named.1 ∙ one_some mine.0 theirs.0 (sym mine.1 ∙ theirs.1) ∙ named_too.1) in
        same_input input also (mine.3 ∙ sym theirs.3) (named.2 ∙ column ∙ sym named_too.2))

    host_same : Host inputs printed ≡ Host others twins
    host_same =
        ap (λ xs. Host xs printed) inputs_same
        ∙ ap (Host others) (printed_told is p port at inputs printed work ∙ sym (printed_told is_too p twin at_too others twins work_too))

  works_same : (Whole : Table → Type 0) → ((t u : Table) → Whole t → Whole u → AreAlike t u → t ≡ u) → (work also : Work)
      → Does nodes homes slots claims first p port work → Does nodes homes slots claims second p twin also → AreAll Whole work → AreAll Whole also → work ≡ also
  works_same Whole decided (Logic tables tasks) (Logic others twins) done done_too whole whole_too = logic_same tables others tasks twins done done_too Whole decided whole whole_too
  works_same Whole decided (Array blocks outs) (Array others twins) done done_too whole whole_too = array_same blocks others outs twins done done_too
  works_same Whole decided (Host inputs printed) (Host others twins) done done_too whole whole_too = host_same inputs others printed twins done done_too
  works_same Whole decided (Logic tables tasks) (Array others twins) done done_too whole whole_too = (let low = done.ordered.0 in let high = done_too.ordered.0 in absurd (omega (arith, low, high)))
  works_same Whole decided (Logic tables tasks) (Host others twins) done done_too whole whole_too = (let low = done.ordered.0 in let high = done_too.ordered in absurd (omega (arith, low, high)))
  works_same Whole decided (Array blocks outs) (Logic others twins) done done_too whole whole_too = (let high = done.ordered.0 in let low = done_too.ordered.0 in absurd (omega (arith, low, high)))
  works_same Whole decided (Array blocks outs) (Host others twins) done done_too whole whole_too = (let low = done.ordered.1 in let high = done_too.ordered in absurd (omega (arith, low, high)))
  works_same Whole decided (Host inputs printed) (Logic others twins) done done_too whole whole_too = (let high = done.ordered in let low = done_too.ordered.0 in absurd (omega (arith, low, high)))
  works_same Whole decided (Host inputs printed) (Array others twins) done done_too whole whole_too = (let high = done.ordered in let low = done_too.ordered.1 in absurd (omega (arith, low, high)))

-- images whose ports send and receive alike, with tables that are what their entries say, are one
pub one_built : (nodes : NodeNet) (homes : Homes) (slots : List ℕ) (claims : List (List ℕ)) (timing : Timing) (first second : Image) (Whole : Table → Type 0)
    → IsBuiltBy nodes homes slots claims timing first → IsBuiltBy nodes homes slots claims timing second → first.slots ≡ second.slots
    → ((t u : Table) → Whole t → Whole u → AreAlike t u → t ≡ u) → Each (λ port. AreAll Whole port.work) first.ports → Each (λ port. AreAll Whole port.work) second.ports
    → ((p : ℕ) (port twin : PortImage) → IsPort first p port → IsPort second p twin → (port.outs ≡ twin.outs) × (port.ins ≡ twin.ins)) → first ≡ second
one_built nodes homes slots claims timing first second Whole is is_too few decided whole whole_too linked =
    ap (λ n. record { slots = n; units = first.units; init = first.init; columns = first.columns; ports = first.ports }) few
    ∙ ap (λ n. record { slots = second.slots; units = n; init = first.init; columns = first.columns; ports = first.ports }) (is.matches.units ∙ sym is_too.matches.units)
    ∙ ap (λ i. record { slots = second.slots; units = second.units; init = i; columns = first.columns; ports = first.ports }) (is.matches.init ∙ sym is_too.matches.init)
    ∙ ap (λ n. record { slots = second.slots; units = second.units; init = second.init; columns = n; ports = first.ports }) (is.matches.columns ∙ sym is_too.matches.columns)
    ∙ ap (λ ps. record { slots = second.slots; units = second.units; init = second.init; columns = second.columns; ports = ps }) ports_same where
      ports_same : first.ports ≡ second.ports
      ports_same = same_by first.ports second.ports (sym is.placed.ports ∙ is_too.placed.ports) (λ p port twin at at_too.
          let links = linked p port twin at at_too in
          ap (λ w. record { work = w; outs = port.outs; ins = port.ins })
          (works_same is is_too p port twin at at_too Whole decided port.work twin.work (does is p port at port.work refl) (does is_too p twin at_too twin.work refl) (whole p port at) (whole_too p twin at_too))
          ∙ ap (λ o. record { work = twin.work; outs = o; ins = port.ins }) links.0
          ∙ ap (λ i. record { work = twin.work; outs = twin.outs; ins = i }) links.1)
