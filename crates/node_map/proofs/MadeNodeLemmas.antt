-- The nodes of a gate as they are made.
use Rattle.std.proofs.Common.{◌≡◌, ◌⊎◌, inl, inr, IsTrue, ℕ, zero, suc, ◌+◌, ◌-◌, ◌<◌, ◌≤◌, nat_lt, Bool, true, false, if◌then◌else◌, List, length, refl, sym, ap, subst, arith}
use Rattle.std.proofs.lemmas.{Bool.cases_lt, Bool.le-leb, Bool.le-ltb, Bool.Decides.nat_tests, Option.slice_get_within}
use Rattle.logic_four.specs.{declared.V4.TheVariants.Zero, declared.Kind.Kind, Kinds.AllowsOperands, Folds.takes_many, Folds.base_kind}
use Rattle.logic_four.proofs.lemmas.KindLemmas.{some_operands}
use Rattle.func_table.specs.declared.table.Table.{Table}
use Rattle.node_defs.specs.Items.{IsNamed, feed_at, helper_of, wire_tag}
use Rattle.node_defs.specs.declared.{groups.Group.Group, items.Feed.TheVariants.Fixed, items.Feed.TheVariants.From, items.Feeds.Feeds}
use Rattle.node_defs.specs.declared.items.{Item.TheVariants.Node, ItemName.ItemName, Tag.TheVariants.This}
use Rattle.node_defs.specs.Groups.{group_at, helper_count}
use Rattle.node_map.specs.code.Nodes.{IsFeed, AreFeeds, IsNodeAt, node_kind}
use Rattle.node_map.specs.code.Tables.{AddsOnly, HasTable}
use Rattle.node_map.proofs.lemmas.ShapeLemmas.{IsShaped, shaped, some_groups, narrow_groups}

-- four operands, each of its place
pub four_feeds : (names : List ItemName) (late : Bool) (s : ℕ) (ops : List ℕ) (group : Group) (feeds : Feeds) → group.size ≤ 4
    → (0 < group.size → IsFeed names late s ops (group.first + 0) feeds.a) → (group.size ≤ 0 → feeds.a ≡ Fixed Zero)
    → (1 < group.size → IsFeed names late s ops (group.first + 1) feeds.b) → (group.size ≤ 1 → feeds.b ≡ Fixed Zero)
    → (2 < group.size → IsFeed names late s ops (group.first + 2) feeds.c) → (group.size ≤ 2 → feeds.c ≡ Fixed Zero)
    → (3 < group.size → IsFeed names late s ops (group.first + 3) feeds.d) → (group.size ≤ 3 → feeds.d ≡ Fixed Zero)
    → AreFeeds names late s ops group feeds
four_feeds names late s ops group feeds few a no_a b no_b c no_c d no_d = record { used = used; unused = unused } where
  used : (i : ℕ) → i < group.size → IsFeed names late s ops (group.first + i) (feed_at feeds i)
  used zero within = a within
  used (suc zero) within = b within
  used (suc (suc zero)) within = c within
  used (suc (suc (suc zero))) within = d within
  used (suc (suc (suc (suc i)))) within = absurd (omega (arith, within, few))

  unused : (i : ℕ) → group.size ≤ i → feed_at feeds i ≡ Fixed Zero
  unused zero past = no_a past
  unused (suc zero) past = no_b past
  unused (suc (suc zero)) past = no_c past
  unused (suc (suc (suc zero))) past = no_d past
  unused (suc (suc (suc (suc i)))) past = refl

-- a kind takes as many operands as the groups of its gates have
narrow_size : (n place : ℕ) → n ≤ 4 → place ≤ helper_count n → (group_at n place).size ≡ n
narrow_size n place few among =
    let none : helper_count n ≡ 0 = rw (narrow_groups n few) refl in
    let here : place ≡ 0 = omega (arith, among, none) in
    rw here (rw (narrow_groups n few) refl)

any_from : (kind : Kind) (n : ℕ) → IsTrue (takes_many kind) → 1 ≤ n → n ≤ 1024 → AllowsOperands kind n
any_from kind n many some few = grind (arith, le-leb 1 n some, le-leb n 1024 few)

-- the group of a node's operands
pub group_shaped : (kind : Kind) (n place : ℕ) → AllowsOperands kind n → place ≤ helper_count n → IsShaped (n + place) (group_at n place)
group_shaped kind n place allowed among = shaped n place (some_operands kind n allowed) (omega (arith, among, some_groups n))

wide_size : (kind : Kind) (n place : ℕ) → IsTrue (takes_many kind) → AllowsOperands kind n → place ≤ helper_count n → AllowsOperands kind (group_at n place).size
wide_size kind n place many allowed among =
    let shape = group_shaped kind n place allowed among in
    any_from kind (group_at n place).size many shape.some (omega (arith, shape.few))

many_or_few : (kind : Kind) (n : ℕ) → AllowsOperands kind n → IsTrue (takes_many kind) ⊎ (n ≤ 4)
many_or_few kind n allowed = grind (arith, nat_tests)

base_allowed : (is_base : Bool) (kind : Kind) (n : ℕ) → AllowsOperands kind n → AllowsOperands (if is_base then base_kind kind else kind) n
base_allowed is_base kind n allowed = grind arith

-- a node of a gate has as many operands as its kind allows
pub kind_allowed : (kind : Kind) (n place : ℕ) → AllowsOperands kind n → place ≤ helper_count n → AllowsOperands (node_kind kind n place) (group_at n place).size
kind_allowed kind n place allowed among = base_allowed (nat_lt place (helper_count n)) kind (group_at n place).size (elim (many_or_few kind n allowed) [
  | inl many ↦ wide_size kind n place many allowed among
  | inr few ↦ rw (narrow_size n place few among) allowed
])

-- the node at a place of a gate
pub made_node : (names : List ItemName) (old tables : List Table) (late : Bool) (s : ℕ) (ops : List ℕ) (kind : Kind) (place table : ℕ) (feeds : Feeds)
    → HasTable tables (node_kind kind (length ops) place) (group_at (length ops) place).size table → AddsOnly old tables table
    → AreFeeds names late s ops (group_at (length ops) place) feeds → IsNodeAt names old tables late s ops kind place (Node table feeds)
made_node names old tables late s ops kind place table feeds has adds are = record {
  is = record { table = table; feeds = feeds; is = refl; answers = has; used = are.used; unused = are.unused };
  new = λ t past within. (feeds, ap (λ n. Node n feeds) (sym (adds t past within)));
  one = elim (cases_lt (length old + 1) (length tables)) [
    | inl more ↦ absurd (twice (adds (length old) (omega arith) (omega (arith, more))) (adds (length old + 1) (omega arith) more))
    | inr few ↦ few
  ];
  there = λ t others is. (let here = slice_get_within tables table has.0 has.1 in subst (λ n. n < length tables) (number_in table t feeds others is) here);
} where
  number_in : (n m : ℕ) (f g : Feeds) → Node n f ≡ Node m g → n ≡ m
  number_in n m f g same = cc

  twice : length old ≡ table → length old + 1 ≡ table → ⊥
  twice one other = omega (arith, one, other)

-- ---- a wire past the operands

helper_tag : (late : Bool) (ops : List ℕ) (w : ℕ) → length ops ≤ w → wire_tag late ops w ≡ This
helper_tag true ops w past = rw (le-ltb w (length ops) past) refl
helper_tag false ops w past = refl

pub helper_feed : (names : List ItemName) (late : Bool) (s : ℕ) (ops : List ℕ) (w x : ℕ) → length ops ≤ w → IsNamed names x (helper_of s (w - length ops)) → IsFeed names late s ops w (From x This)
helper_feed names late s ops w x past named = (x, rw (le-ltb w (length ops) past) named, ap (From x) (sym (helper_tag late ops w past)))
