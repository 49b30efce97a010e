-- A logic port has no more tables than its nodes use.
use Rattle.std.proofs.Common.{◌≡◌, ◌≢◌, ◌∙◌, ◌⊎◌, inl, inr, ℕ, ◌<◌, ◌≤◌, List, length, get_or, Some, slice_get, sym, ap, subst, arith}
use Rattle.std.proofs.lemmas.{Bool.cases_lt, List.length-map, Option.slice_get_within, Option.get_or_from_slice_get}
use Rattle.limits.specs.declared.TheConstants.{MAX_FUNCTIONS}
use Rattle.list_laws.proofs.{Places.place_of, Members.member_at, Options.one_some}
use Rattle.machine_text.specs.{declared.machine.Limited.TheVariants.Functions, declared.machine.Machine.Machine, Machines.IsValid}
use Rattle.machine_text.proofs.lemmas.LimitLemmas.{limit_in_range}
use Rattle.func_table.specs.{declared.table.Table.Table, Entries.AreAlike, Entries.entry_of, Shelf.AreInOrderOfUse}
use Rattle.node_defs.specs.declared.items.Item.TheVariants.{Input, BlockBit, Node, Latch}
use Rattle.node_defs.specs.declared.items.{Item.Item, NodeNet.NodeNet}
use Rattle.plan_defs.specs.{declared.plan.Homes.Homes, Homes.home_of, Tables.UsesTable, Tables.FitsTables}
use Rattle.plan_defs.proofs.lemmas.CountLemmas.{few_partners}
use Rattle.image_defs.specs.Matches.{claims_of, IsClaim, Implements, TaskImplements}
use Rattle.image_defs.specs.declared.image.{Source.Source, Task.Task, Task.TheVariants.Eval, LinkIn.LinkIn, Work.Work}
use Rattle.image_defs.specs.declared.image.{Work.TheVariants.Logic, Work.TheVariants.Array, Work.TheVariants.Host, Image.Image}
use Rattle.image_defs.specs.Places.{item_slots, task_slot}
use Rattle.image_file.specs.Ranges.{tables_of}
use Rattle.image_build.specs.Built.{Evaluates, IsOrdered}

-- table number n of a port is that of a node at the port
record IsOfNode (nodes : NodeNet) (homes : Homes) (p : ℕ) (tables : List Table) (n : ℕ) : Type 0 where
  number : ℕ
  one : Table
  other : Table
  here : slice_get tables n ≡ Some one
  there : slice_get nodes.tables number ≡ Some other
  alike : AreAlike one other
  uses : UsesTable nodes homes p number

-- a task that looks up in the table is for a node that uses it
of_task : (nodes : NodeNet) (homes : Homes) (image : Image) (claims : List (List ℕ)) (p : ℕ) (ins : List LinkIn) (tables : List Table) (n x slot : ℕ) (a b c d : Source) (item : Item)
    → slice_get nodes.items x ≡ Some item → home_of homes x ≡ p → TaskImplements image claims nodes p ins tables (Eval slot n a b c d) item → IsOfNode nodes homes p tables n
of_task nodes homes image claims p ins tables n x slot a b c d (Node t feeds) at home (one, other, here, there, alike, first, second, third, fourth) = record {
  number = t;
  one = one;
  other = other;
  here = here;
  there = there;
  alike = alike;
  uses = record { node = x; feeds = feeds; is = at; home = home };
}
of_task nodes homes image claims p ins tables n x slot a b c d (Input column) at home is = absurd is
of_task nodes homes image claims p ins tables n x slot a b c d (BlockBit m bit) at home is = absurd is
of_task nodes homes image claims p ins tables n x slot a b c d (Latch op) at home is = absurd is

module _ (nodes : NodeNet) (homes : Homes) (machine : Machine) (image : Image) (claims : List (List ℕ)) (p : ℕ) (ins : List LinkIn)
    (at_home : (i x : ℕ) → IsClaim claims p i x → home_of homes x ≡ p) where
  module _ (tables : List Table) (tasks : List Task) (as_many : length (claims_of claims p) ≡ length tasks)
      (items : (i x : ℕ) → IsClaim claims p i x → (item : Item) × (slice_get nodes.items x ≡ Some item) × Implements image claims nodes p ins (Logic tables tasks) i item)
      (order : AreInOrderOfUse (Evaluates tasks) tables) (fits : FitsTables nodes homes machine p) where
    of_node : (n : ℕ) → n < length tables → IsOfNode nodes homes p tables n
    of_node n low =
        let used : (i : ℕ) × Evaluates tasks i n = order.used n low in
        let claim : (x : ℕ) × IsClaim claims p used.0 x = member_at (claims_of claims p) used.0 (omega (arith, slice_get_within tasks used.0 (Eval used.1.slot n used.1.a used.1.b used.1.c used.1.d) used.1.is, as_many)) in
        let item : (item : Item) × (slice_get nodes.items claim.0 ≡ Some item) × Implements image claims nodes p ins (Logic tables tasks) used.0 item = items used.0 claim.0 claim.1 in
        let task : (task : Task) × (slice_get tasks used.0 ≡ Some task) × TaskImplements image claims nodes p ins tables task item.0 = item.2 in
        let same : task.0 ≡ Eval used.1.slot n used.1.a used.1.b used.1.c used.1.d = one_some task.0 (Eval used.1.slot n used.1.a used.1.b used.1.c used.1.d) (sym task.1 ∙ used.1.is) in
        of_task nodes homes image claims p ins tables n claim.0 used.1.slot used.1.a used.1.b used.1.c used.1.d item.0 item.1 (at_home used.0 claim.0 claim.1)
        (subst (λ t. TaskImplements image claims nodes p ins tables t item.0) same task.2)

    -- which is among those that the port's nodes use
    found : (n : ℕ) (low : n < length tables) → (k : ℕ) × (k < length fits.uses.numbers) × (get_or fits.uses.numbers k 0 ≡ (of_node n low).number)
    found n low = place_of fits.uses.numbers (of_node n low).number ((fits.uses.lists.exact (of_node n low).number).1 (of_node n low).uses)

    place : (n : ℕ) → (n < length tables) ⊎ (length tables ≤ n) → ℕ
    place n (inl low) = (found n low).0
    place n (inr past) = 0

    place_low : (n : ℕ) (by : (n < length tables) ⊎ (length tables ≤ n)) → n < length tables → place n by < length fits.uses.numbers
    unfolding place
    place_low n (inl low) within = (found n low).1
    place_low n (inr past) within = absurd (omega (arith, past, within))

    -- different tables are those of different nodes
    apart : (m n : ℕ) (by : (m < length tables) ⊎ (length tables ≤ m)) (to : (n < length tables) ⊎ (length tables ≤ n)) → m < n → n < length tables → place m by ≢ place n to
    unfolding place
    apart m n (inr past) to before within one_place = absurd (omega (arith, past, before, within))
    apart m n (inl low) (inr past) before within one_place = absurd (omega (arith, past, within))
    apart m n (inl low) (inl last) before within one_place =
        let shared : (of_node m low).number ≡ (of_node n last).number = sym (found m low).2 ∙ (ap (λ i. get_or fits.uses.numbers i 0) one_place ∙ (found n last).2) in
        let equal : (of_node m low).other ≡ (of_node n last).other =
        one_some (of_node m low).other (of_node n last).other (sym (of_node m low).there ∙ ap (λ t. slice_get nodes.tables t) shared ∙ (of_node n last).there) in
        let first : get_or tables m (of_node m low).one ≡ (of_node m low).one = get_or_from_slice_get tables m (of_node m low).one (of_node m low).one (of_node m low).here in
        let second : get_or tables n (of_node m low).one ≡ (of_node n last).one = get_or_from_slice_get tables n (of_node n last).one (of_node m low).one (of_node n last).here in
        let other : ¬ AreAlike (of_node m low).one (of_node n last).one = rw (← first, ← second) (order.different m n (of_node m low).one before within) in
        other (λ e few. (of_node m low).alike e few ∙ ap (λ t. entry_of t e) equal ∙ sym ((of_node n last).alike e few))

    tables_used : length tables ≤ length fits.uses.numbers
    tables_used = few_partners (length tables) (length fits.uses.numbers) (λ n. place n (cases_lt n (length tables)))
        (λ m n before within. apart m n (cases_lt m (length tables)) (cases_lt n (length tables)) before within)
        (λ n within. place_low n (cases_lt n (length tables)) within)

  pub tables_few : (work : Work) → IsValid machine → length (claims_of claims p) ≡ length (item_slots work)
      → ((i x : ℕ) → IsClaim claims p i x → (item : Item) × (slice_get nodes.items x ≡ Some item) × Implements image claims nodes p ins work i item)
      → IsOrdered nodes homes image claims p ins work → (p < homes.logic → FitsTables nodes homes machine p) → length (tables_of work) ≤ MAX_FUNCTIONS
  tables_few (Logic tables tasks) valid as_many items (low, order) fits =
      let used = tables_used tables tasks (as_many ∙ length-map tasks task_slot) items order (fits low) in
      let count = (fits low).uses.are in
      let few = (fits low).few in
      let most = (limit_in_range machine Functions p valid).1 in
      omega (arith, used, count, few, most)
  tables_few (Array blocks outs) valid as_many items order fits = omega arith
  tables_few (Host inputs printed) valid as_many items order fits = omega arith
