-- The nodes of a netlist use no more tables than there are of one to four operands.
use Rattle.std.proofs.Common.{◌≡◌, ◌≢◌, ◌∙◌, ◌⊎◌, inl, inr, ℕ, zero, suc, ◌+◌, ◌-◌, ◌<◌, ◌≤◌, Bool, List, [], ◌∷◌, length, get_or, refl, sym, ap, subst, arith}
use Rattle.std.proofs.lemmas.Bool.{cases_lt, le-ltb, lt-ltb, eqb-true}
use Rattle.std.proofs.lemmas.{List.Elements.Contains-get_or, List.Kept.AllPairs-from_increasing, Option.slice_get_within, Option.get_or_from_slice_get}
use Rattle.std.specs.Prelude.{Option, Some, None, slice_get}
use Rattle.list_laws.proofs.Options.{one_some}
use Rattle.logic_four.specs.declared.Kind.TheVariants.{And, Nand, Or, Nor, Xor, Xnor, Not, Buf, Tri, Bus}
use Rattle.logic_four.specs.{declared.Kind.Kind, Folds.base_kind, Kinds.AllowsOperands}
use Rattle.logic_four.proofs.lemmas.KindLemmas.{some_operands}
use Rattle.func_table.specs.{declared.table.Table.Table, Entries.AreAlike, Entries.IsTableOf}
pub use Rattle.func_table.proofs.EntryLemmas.{same_entries}
use Rattle.net_defs.specs.{declared.netlist.Driver.Driver, declared.netlist.Netlist.Netlist, declared.timing.Timing.Timing, Steps.is_late}
use Rattle.net_defs.specs.Valid.{IsDrivable, IsValid}
use Rattle.net_defs.specs.declared.netlist.Driver.TheVariants as driver
use Rattle.node_defs.specs.declared.{groups.Group.Group, items.Feeds.Feeds}
use Rattle.node_defs.specs.declared.items.{Item.TheVariants.Input, Item.TheVariants.BlockBit, Item.TheVariants.Node, ItemName.ItemName, NodeNet.NodeNet}
use Rattle.node_defs.specs.{Groups.groups, Groups.group_at, Groups.helper_count, Items.IsItemOf, Items.IsNode, Order.AreItems}
use Rattle.node_defs.proofs.lemmas.{EarlierLemmas.table_there, NameLemmas.name_at, NameLemmas.named_item}
use Rattle.node_map.specs.code.Nodes.{node_kind}
use Rattle.node_map.proofs.{MadeNodeLemmas.kind_allowed, lemmas.ShapeLemmas.group_few, lemmas.ShapeLemmas.some_groups}
use Rattle.plan_defs.specs.{declared.plan.Homes.Homes, Tables.UsesTable, Tables.UsesTables}
use Rattle.plan_defs.proofs.lemmas.CountLemmas.{few_below, few_partners}

-- ---- the kinds of tables

-- each kind with each number of operands, up to four, that it may have
abbrev shapes : List (Kind × ℕ)
shapes =
    (And, 1) ∷ (And, 2) ∷ (And, 3) ∷ (And, 4) ∷ (Nand, 1) ∷ (Nand, 2) ∷ (Nand, 3) ∷ (Nand, 4) ∷ (Or, 1) ∷ (Or, 2) ∷ (Or, 3) ∷ (Or, 4)
    ∷ (Nor, 1) ∷ (Nor, 2) ∷ (Nor, 3) ∷ (Nor, 4) ∷ (Xor, 1) ∷ (Xor, 2) ∷ (Xor, 3) ∷ (Xor, 4) ∷ (Xnor, 1) ∷ (Xnor, 2) ∷ (Xnor, 3) ∷ (Xnor, 4)
    ∷ (Bus, 1) ∷ (Bus, 2) ∷ (Bus, 3) ∷ (Bus, 4) ∷ (Not, 1) ∷ (Buf, 1) ∷ (Tri, 2) ∷ []

-- where a kind with so many operands stands among them
abbrev shape_place : Kind → ℕ → ℕ
shape_place And n = n - 1
shape_place Nand n = n + 3
shape_place Or n = n + 7
shape_place Nor n = n + 11
shape_place Xor n = n + 15
shape_place Xnor n = n + 19
shape_place Bus n = n + 23
shape_place Not n = n + 27
shape_place Buf n = n + 28
shape_place Tri n = n + 28

one_of_four : (P : ℕ → Type 0) → P 1 → P 2 → P 3 → P 4 → (n : ℕ) → 1 ≤ n → n ≤ 4 → P n
one_of_four P a b c d zero some few = absurd (omega (arith, some))
one_of_four P a b c d (suc zero) some few = a
one_of_four P a b c d (suc (suc zero)) some few = b
one_of_four P a b c d (suc (suc (suc zero))) some few = c
one_of_four P a b c d (suc (suc (suc (suc zero)))) some few = d
one_of_four P a b c d (suc (suc (suc (suc (suc n))))) some few = absurd (omega (arith, few))

abbrev StandsAt : Kind → ℕ → Type 0
StandsAt kind n = slice_get shapes (shape_place kind n) ≡ Some (kind, n)

stands_at : (kind : Kind) (n : ℕ) → AllowsOperands kind n → n ≤ 4 → StandsAt kind n
stands_at And n allowed few = one_of_four (StandsAt And) refl refl refl refl n (some_operands And n allowed) few
stands_at Nand n allowed few = one_of_four (StandsAt Nand) refl refl refl refl n (some_operands Nand n allowed) few
stands_at Or n allowed few = one_of_four (StandsAt Or) refl refl refl refl n (some_operands Or n allowed) few
stands_at Nor n allowed few = one_of_four (StandsAt Nor) refl refl refl refl n (some_operands Nor n allowed) few
stands_at Xor n allowed few = one_of_four (StandsAt Xor) refl refl refl refl n (some_operands Xor n allowed) few
stands_at Xnor n allowed few = one_of_four (StandsAt Xnor) refl refl refl refl n (some_operands Xnor n allowed) few
stands_at Bus n allowed few = one_of_four (StandsAt Bus) refl refl refl refl n (some_operands Bus n allowed) few
stands_at Not n allowed few = subst (StandsAt Not) (sym (eqb-true n 1 allowed)) refl
stands_at Buf n allowed few = subst (StandsAt Buf) (sym (eqb-true n 1 allowed)) refl
stands_at Tri n allowed few = subst (StandsAt Tri) (sym (eqb-true n 2 allowed)) refl

one_shape : (a b : Kind × ℕ) → Some a ≡ Some b → (a.0 ≡ b.0) × (a.1 ≡ b.1)
one_shape a b same = let is : a ≡ b = one_some a b same in (ap (λ (p : Kind × ℕ). p.0) is, ap (λ (p : Kind × ℕ). p.1) is)

-- tables of one kind and one number of operands are alike
alike : (kind : Kind) (n : ℕ) (s t : Table) → IsTableOf kind n s → IsTableOf kind n t → AreAlike s t
alike kind n s t one other = same_entries s t (λ a b c d. one.answers a b c d ∙ sym (other.answers a b c d))

-- ---- the table of a node

-- what is told of table t: it is that of a kind with as many operands as the kind may have
record Told (tables : List Table) (t : ℕ) : Type 0 where
  kind : Kind
  size : ℕ
  allowed : AllowsOperands kind size
  few : size ≤ 4
  table : Table
  is : slice_get tables t ≡ Some table
  answers : IsTableOf kind size table

told_by_node : (names : List ItemName) (tables : List Table) (late : Bool) (s : ℕ) (ops : List ℕ) (kind : Kind) (group : Group) (t : ℕ) (feeds : Feeds)
    → IsNode names tables late s ops kind group (Node t feeds) → AllowsOperands kind group.size → group.size ≤ 4 → Told tables t
told_by_node names tables late s ops kind group t feeds node allowed few = record {
  kind = kind;
  size = group.size;
  allowed = allowed;
  few = few;
  table = node.answers.0;
  is = ap (slice_get tables) (one_table node.table node.feeds node.is) ∙ node.answers.1;
  answers = node.answers.2;
} where
  one_table : (u : ℕ) (f : Feeds) → Node t feeds ≡ Node u f → t ≡ u
  one_table u f same = cc

own_kind : (kind : Kind) (n : ℕ) → node_kind kind n (helper_count n) ≡ kind
own_kind kind n = rw (le-ltb (helper_count n) (helper_count n) (omega arith)) refl

helper_kind : (kind : Kind) (n h : ℕ) → h < helper_count n → node_kind kind n h ≡ base_kind kind
helper_kind kind n h low = rw (lt-ltb h (helper_count n) low) refl

told_by_driver : (net : Netlist) (names : List ItemName) (tables : List Table) (late : Bool) (s : ℕ) (d : Driver) (helper : Option ℕ) (t : ℕ) (feeds : Feeds)
    → IsDrivable net s d → IsItemOf names tables late s d helper (Node t feeds) → Told tables t
told_by_driver net names tables late s driver.Input helper t feeds drivable item = cc item.1
told_by_driver net names tables late s (driver.Dff op) helper t feeds drivable item = cc item.3
told_by_driver net names tables late s (driver.BlockBit block bit) helper t feeds drivable item = cc item.1
told_by_driver net names tables late s (driver.Gate kind ops) None t feeds drivable item =
    let n = length ops in
    let last : helper_count n < length (groups n) = omega (arith, some_groups n) in
    told_by_node names tables late s ops kind (group_at n (helper_count n)) t feeds item
    (subst (λ k. AllowsOperands k (group_at n (helper_count n)).size) (own_kind kind n) (kind_allowed kind n (helper_count n) drivable.0 (omega arith)))
    (group_few n (helper_count n) last)
told_by_driver net names tables late s (driver.Gate kind ops) (Some h) t feeds drivable item =
    let n = length ops in
    let low : h < helper_count n = item.0 in
    told_by_node names tables late s ops (base_kind kind) (group_at n h) t feeds item.1
    (subst (λ k. AllowsOperands k (group_at n h).size) (helper_kind kind n h low) (kind_allowed kind n h drivable.0 (omega (arith, low))))
    (group_few n h (omega (arith, low)))

-- ---- how many there are

module _ (net : Netlist) (timing : Timing) (nodes : NodeNet) (valid : IsValid net) (are : AreItems net timing nodes) where
  told_at : (x t : ℕ) (feeds : Feeds) → slice_get nodes.items x ≡ Some (Node t feeds) → Told nodes.tables t
  told_at x t feeds at =
      let named = named_item net timing nodes are x (Node t feeds) at in
      told_by_driver net nodes.names nodes.tables (is_late net timing (name_at nodes x).signal) (name_at nodes x).signal named.signal.driver (name_at nodes x).helper t feeds
      (valid.drivers (name_at nodes x).signal named.signal named.is_signal) named.is

  told : (t : ℕ) → t < length nodes.tables → Told nodes.tables t
  told t within = let used : _ = are.tables_used t within in told_at used.0 t used.1 used.2

  -- where the kind and the operands of table t stand
  number : (t : ℕ) → (t < length nodes.tables) ⊎ (length nodes.tables ≤ t) → ℕ
  number t (inl within) = shape_place (told t within).kind (told t within).size
  number t (inr past) = 0

  shape_at : (t : ℕ) (within : t < length nodes.tables) → slice_get shapes (number t (inl within)) ≡ Some ((told t within).kind, (told t within).size)
  unfolding number
  shape_at t within = stands_at (told t within).kind (told t within).size (told t within).allowed (told t within).few

  number_low : (t : ℕ) (by : (t < length nodes.tables) ⊎ (length nodes.tables ≤ t)) → t < length nodes.tables → number t by < 31
  number_low t (inl within) inside = slice_get_within shapes (number t (inl within)) ((told t within).kind, (told t within).size) (shape_at t within)
  number_low t (inr past) inside = absurd (omega (arith, past, inside))

  apart : (t u : ℕ) (by : (t < length nodes.tables) ⊎ (length nodes.tables ≤ t)) (to : (u < length nodes.tables) ⊎ (length nodes.tables ≤ u))
      → t < u → u < length nodes.tables → number t by ≢ number u to
  apart t u (inr past) to before within same = absurd (omega (arith, past, before, within))
  apart t u (inl first) (inr past) before within same = absurd (omega (arith, past, within))
  apart t u (inl first) (inl second) before within same =
      let one : Told nodes.tables t = told t first in
      let other : Told nodes.tables u = told u second in
      let shape : (one.kind ≡ other.kind) × (one.size ≡ other.size) =
      one_shape (one.kind, one.size) (other.kind, other.size) (sym (shape_at t first) ∙ (ap (slice_get shapes) same ∙ shape_at u second)) in
      let again : IsTableOf one.kind one.size other.table =
      subst (λ k. IsTableOf k one.size other.table) (sym shape.0) (subst (λ n. IsTableOf other.kind n other.table) (sym shape.1) other.answers) in
      let here : get_or nodes.tables t one.table ≡ one.table = get_or_from_slice_get nodes.tables t one.table one.table one.is in
      let there : get_or nodes.tables u one.table ≡ other.table = get_or_from_slice_get nodes.tables u other.table one.table other.is in
      are.tables t u one.table before within (rw here (rw there (alike one.kind one.size one.table other.table one.answers again)))

  pub all_tables : length nodes.tables ≤ 31
  all_tables = few_partners (length nodes.tables) 31 (λ t. number t (cases_lt t (length nodes.tables)))
      (λ t u before within. apart t u (cases_lt t (length nodes.tables)) (cases_lt u (length nodes.tables)) before within)
      (λ t within. number_low t (cases_lt t (length nodes.tables)) within)

  pub used_tables : (homes : Homes) (port count : ℕ) → UsesTables nodes homes port count → count ≤ 31
  used_tables homes port count uses = omega (arith, uses.are, few, all_tables) where
    few : length uses.numbers ≤ length nodes.tables
    few = few_below uses.numbers (length nodes.tables)
        (λ i j before within same. (let rising : get_or uses.numbers i 0 < get_or uses.numbers j 0 = AllPairs-from_increasing uses.numbers uses.lists.rising i j 0 before within in omega (arith, rising, same)))
        (λ i within.
        let used : UsesTable nodes homes port (get_or uses.numbers i 0) = (uses.lists.exact (get_or uses.numbers i 0)).0 (Contains-get_or uses.numbers i 0 within) in
        table_there net timing nodes are used.node (get_or uses.numbers i 0) used.feeds used.is)
