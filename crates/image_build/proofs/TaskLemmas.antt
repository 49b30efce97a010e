-- Tasks and their tables, one after another.
use Rattle.std.proofs.Common.{◌≡◌, ◌⊎◌, inl, inr, ℕ, ◌+◌, ◌<◌, ◌≤◌, List, [], ◌∷◌, ◌++◌, length, take, get_or, Some, slice_get, sym, ap, ◌∙◌, subst, refl, arith}
use Rattle.std.proofs.lemmas.{Bool.cases_lt, List.length_push, Option.slice_get_within}
use Rattle.list_laws.proofs.Places.{at_front, seam_at}
use Rattle.func_table.specs.{declared.table.Table.Table, Shelf.AreDifferent, Shelf.AreInOrderOfUse}
use Rattle.node_defs.specs.declared.items.Item.TheVariants.{Input, BlockBit, Node, Latch}
use Rattle.node_defs.specs.declared.items.{Item.Item, NodeNet.NodeNet}
use Rattle.image_defs.specs.declared.image.{Source.Source, Task.Task, Task.TheVariants.Eval, Task.TheVariants.Hold}
use Rattle.plan_defs.specs.declared.plan.Homes.{Homes}
use Rattle.image_build.specs.{Built.Evaluates, code.Layouts.IsTaskFor, code.Plans.Shelves, code.Plans.AreFirstTasks}
use Rattle.image_build.proofs.GrowLemmas.{last_place, made_kept, made_next}

-- ---- tables

-- the old tables stay in their places, and at most one comes to them
shelf_keeps : (old new : List Table) (task : Task) → Shelves old new task → (length old ≤ length new) × (length new ≤ length old + 1) × ((m : ℕ) → m < length old → slice_get new m ≡ slice_get old m)
shelf_keeps old new (Hold slot from) same = rw same (omega arith, omega arith, λ m low. refl)
shelf_keeps old new (Eval slot n a b c d) (table, inl (here, same)) = rw same (omega arith, omega arith, λ m low. refl)
shelf_keeps old new (Eval slot n a b c d) (table, inr (other, at, grown)) =
    rw grown (omega (arith, length_push old table), omega (arith, length_push old table), λ m low. at_front old (table ∷ []) m low)

task_kept : (nodes : NodeNet) (homes : Homes) (slots : List ℕ) (p : ℕ) (old new : List Table) (grown : Task) → Shelves old new grown → (x : ℕ) (one : Item) (task : Task) → IsTaskFor nodes homes slots p old x one task → IsTaskFor nodes homes slots p new x one task
task_kept nodes homes slots p old new grown shelf x (Node t feeds) task (n, low, same, is) =
    let keeps = shelf_keeps old new grown shelf in
    (n, omega (arith, low, keeps.0), keeps.2 n low ∙ same, is)
task_kept nodes homes slots p old new grown shelf x (Latch op) task right = right
task_kept nodes homes slots p old new grown shelf x (Input column) task right = absurd right
task_kept nodes homes slots p old new grown shelf x (BlockBit m bit) task right = absurd right

-- ---- the order of use

-- what the tasks so far use they still use
still : (tasks : List Task) (task : Task) (i n : ℕ) → i < length tasks → Evaluates tasks i n → Evaluates (tasks ++ task ∷ []) i n
still tasks task i n low e = record { slot = e.slot; a = e.a; b = e.b; c = e.c; d = e.d; is = at_front tasks (task ∷ []) i low ∙ e.is }

within : (tasks : List Task) (i n : ℕ) → Evaluates tasks i n → i < length tasks
within tasks i n e = slice_get_within tasks i _ e.is

-- the task that is added uses a table
abbrev IsOf : Task → ℕ → Type 0
IsOf (Eval slot n a b c d) m = m ≡ n
IsOf (Hold slot from) m = ⊥

of_last : (task : Task) (slot n : ℕ) (a b c d : Source) → Eval slot n a b c d ≡ task → IsOf task n
of_last task slot n a b c d e = subst (λ t. IsOf t n) e refl

uses : (tasks : List Task) (task : Task) (i n : ℕ) → Evaluates (tasks ++ task ∷ []) i n → Evaluates tasks i n ⊎ ((i ≡ length tasks) × IsOf task n)
uses tasks task i n e = elim (cases_lt i (length tasks)) [
  | inl inside ↦ inl (record { slot = e.slot; a = e.a; b = e.b; c = e.c; d = e.d; is = sym (at_front tasks (task ∷ []) i inside) ∙ e.is })
  | inr past ↦
      let last = last_place tasks task i (Eval e.slot n e.a e.b e.c e.d) past e.is in
      inr (last.0, of_last task e.slot n e.a e.b e.c e.d last.1)
]

last_uses : (tasks : List Task) (task : Task) (n : ℕ) → IsOf task n → Evaluates (tasks ++ task ∷ []) (length tasks) n
last_uses tasks (Eval slot m a b c d) n is = record { slot = slot; a = a; b = b; c = c; d = d; is = seam_at tasks (Eval slot m a b c d) [] ∙ ap (λ k. Some (Eval slot k a b c d)) (sym is) }
last_uses tasks (Hold slot from) n is = absurd is

-- a table that is new is the one that the new task uses, and it comes after all others
fresh : (old new : List Table) (task : Task) (n : ℕ) → Shelves old new task → n < length new → (n < length old) ⊎ IsOf task n
fresh old new (Hold slot from) n same low = inl (rw same at low)
fresh old new (Eval slot m a b c d) n (table, inl (here, same)) low = inl (rw same at low)
fresh old new (Eval slot m a b c d) n (table, inr (other, at, grown)) low = elim (cases_lt n (length old)) [
  | inl inside ↦ inl inside
  | inr past ↦ let short = rw grown at low in inr (omega (arith, short, length_push old table, at, past))
]

none_past : (old new : List Table) (task : Task) (n : ℕ) → Shelves old new task → IsOf task n → n ≤ length old
none_past old new (Hold slot from) n shelf is = absurd is
none_past old new (Eval slot m a b c d) n (table, inl (here, same)) is = omega (arith, is, slice_get_within old m table here)
none_past old new (Eval slot m a b c d) n (table, inr (other, at, grown)) is = omega (arith, is, at)

order_more : (old new : List Table) (tasks : List Task) (task : Task) → AreInOrderOfUse (Evaluates tasks) old → AreDifferent new → Shelves old new task → AreInOrderOfUse (Evaluates (tasks ++ task ∷ [])) new
order_more old new tasks task so_far different shelf = record {
  different = different;
  used = λ n low. elim (fresh old new task n shelf low) [
    | inl inside ↦ (let e = so_far.used n inside in (e.0, still tasks task e.0 n (within tasks e.0 n e.1) e.1))
    | inr is ↦ (length tasks, last_uses tasks task n is)
  ];
  before = λ i m n e less. elim (uses tasks task i n e) [
    | inl earlier ↦ (let j = so_far.before i m n earlier less in (j.0, j.1, still tasks task j.0 m (within tasks j.0 m j.2) j.2))
    | inr (at, is) ↦ (
        let j = so_far.used m (omega (arith, less, none_past old new task n shelf is)) in
        let low = within tasks j.0 m j.1 in
        (j.0, omega (arith, low, at), still tasks task j.0 m low j.1))
  ];
}

-- ---- the tasks so far

pub tasks_more : (nodes : NodeNet) (homes : Homes) (slots : List ℕ) (p k d : ℕ) (items : List ℕ) (old new : List Table) (tasks : List Task) (one : Item) (task : Task)
    → AreFirstTasks nodes homes slots p k items old tasks → k < length items → slice_get nodes.items (get_or items k d) ≡ Some one → IsTaskFor nodes homes slots p new (get_or items k d) one task
    → AreDifferent new → Shelves old new task → AreFirstTasks nodes homes slots p (k + 1) items new (tasks ++ task ∷ [])
tasks_more nodes homes slots p k d items old new tasks one task so_far low there right different shelf = record {
  tasks_are =
      made_next nodes (IsTaskFor nodes homes slots p new) items k d tasks one task low
      (made_kept nodes (IsTaskFor nodes homes slots p old) (IsTaskFor nodes homes slots p new) (take k items) tasks (task_kept nodes homes slots p old new task shelf) so_far.tasks_are)
      there right;
  in_order = order_more old new tasks task so_far.in_order different shelf;
  few = omega (arith, so_far.few, (shelf_keeps old new task shelf).1);
}
