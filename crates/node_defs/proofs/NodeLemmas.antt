-- A node answers what its kind answers over the wires of its group.
use Rattle.std.proofs.Common.{◌≡◌, ◌∙◌, ◌⊎◌, inl, inr, ℕ, zero, suc, ◌+◌, ◌-◌, ◌<◌, ◌≤◌, nat_lt, Bool, true, false, if◌then◌else◌, List, [], ◌∷◌, length, map, take, get_or, refl, ap, arith}
use Rattle.std.proofs.lemmas.Bool.{cases_lt, lt-ltb, le-ltb}
use Rattle.std.specs.{List.range_with_len, Prelude.slice_get}
use Rattle.logic_four.specs.{declared.V4.V4, declared.V4.TheVariants.Undef, declared.Kind.Kind, Gates.gate_value}
use Rattle.net_defs.specs.{Time.value_at, Steps.State}
use Rattle.func_table.specs.{declared.table.Table.Table, Entries.looked_up}
use Rattle.node_defs.specs.Items.{own, helper_of, IsNamed, wire_name, wire_tag, feed_at, IsNode}
use Rattle.node_defs.specs.declared.{groups.Group.Group, items.Feed.TheVariants.From, items.Feeds.Feeds, items.Item.Item, items.ItemName.ItemName}
use Rattle.node_defs.specs.Values.{feed_value}
use Rattle.node_defs.proofs.lemmas.LevelLemmas.{wires}

-- the first values of a list, where each is that of the wire at its place
pub front : (value : ℕ → V4) (n : ℕ) (xs : List V4) (first : ℕ) → n ≤ length xs
    → ((i : ℕ) → i < n → get_or xs i Undef ≡ value (first + i)) → take n xs ≡ map value (range_with_len first n)
front value zero xs first within each = refl
front value (suc n) [] first within each = absurd (omega (arith, within))
front value (suc n) (x ∷ xs) first within each =
    let here : x ≡ value first = each 0 (omega arith) ∙ ap value (omega arith) in
    rw here (ap (λ rest. value first ∷ rest) (front value n xs (first + 1) (omega (arith, within))
    (λ i below. each (suc i) (omega (arith, below)) ∙ ap value (omega arith))))

module _ (names : List ItemName) (tables : List Table) (old new : State) (late : Bool) (s : ℕ) (ops : List ℕ) (value : ℕ → V4)
    (operand : (w x : ℕ) → w < length ops → IsNamed names x (own (get_or ops w 0)) → value_at (if late then old.row else new.row) x ≡ value w)
    (helper : (h x : ℕ) → IsNamed names x (helper_of s h) → value_at new.row x ≡ value (length ops + h)) where
  -- an operand of a node has what its wire has
  feed_is : (w x : ℕ) → IsNamed names x (wire_name s ops w) → feed_value old new (From x (wire_tag late ops w)) ≡ value w
  feed_is w x named = by_wire (cases_lt w (length ops)) where
    of_late : (b : Bool) → late ≡ b → nat_lt w (length ops) ≡ true → feed_value old new (From x (wire_tag late ops w)) ≡ value_at (if late then old.row else new.row) x
    of_late true is within = rw is (rw within refl)
    of_late false is within = rw is refl

    of_helper : (b : Bool) → late ≡ b → nat_lt w (length ops) ≡ false → feed_value old new (From x (wire_tag late ops w)) ≡ value_at new.row x
    of_helper true is past = rw is (rw past refl)
    of_helper false is past = rw is refl

    by_wire : (w < length ops) ⊎ (length ops ≤ w) → feed_value old new (From x (wire_tag late ops w)) ≡ value w
    by_wire (inl within) =
        let test : nat_lt w (length ops) ≡ true = lt-ltb w (length ops) within in
        of_late late refl test ∙ operand w x within (rw test at named)
    by_wire (inr past) =
        let test : nat_lt w (length ops) ≡ false = le-ltb w (length ops) past in
        of_helper late refl test ∙ (helper (w - length ops) x (rw test at named) ∙ ap value (omega (arith, past)))

  -- what the four operands of a node have
  abbrev feed_values : Feeds → List V4
  feed_values feeds = feed_value old new feeds.a ∷ feed_value old new feeds.b ∷ feed_value old new feeds.c ∷ feed_value old new feeds.d ∷ []

  -- a group has at most four wires
  few_wires : (kind : Kind) (group : Group) (item : Item) → IsNode names tables late s ops kind group item → group.size ≤ 4
  few_wires kind group item node = by_size (cases_lt 4 group.size) where
    by_size : (4 < group.size) ⊎ (group.size ≤ 4) → group.size ≤ 4
    by_size (inr few) = few
    by_size (inl many) = cc (node.used 4 many).2

  -- the operands of a node, as far as its group goes, have what the wires have
  feeds_are : (kind : Kind) (group : Group) (item : Item) → (node : IsNode names tables late s ops kind group item)
      → take group.size (feed_values node.feeds) ≡ wires value group
  feeds_are kind group item node =
      front value group.size (feed_values node.feeds) group.first (omega (arith, few_wires kind group item node)) (λ i within. at i within (few_wires kind group item node)) where
        at : (i : ℕ) → i < group.size → group.size ≤ 4 → get_or (feed_values node.feeds) i Undef ≡ value (group.first + i)
        at i within few = place i within (omega (arith, within, few)) ∙ (ap (feed_value old new) (node.used i within).2 ∙ feed_is (group.first + i) (node.used i within).0 (node.used i within).1) where
          place : (k : ℕ) → k < group.size → k < 4 → get_or (feed_values node.feeds) k Undef ≡ feed_value old new (feed_at node.feeds k)
          place k in_group low = grind arith

  -- a node answers what its kind answers over its group
  pub node_is : (kind : Kind) (group : Group) (item : Item) → (node : IsNode names tables late s ops kind group item)
      → looked_up (slice_get tables node.table) (feed_value old new node.feeds.a) (feed_value old new node.feeds.b) (feed_value old new node.feeds.c) (feed_value old new node.feeds.d) ≡ gate_value kind (wires value group)
  node_is kind group item node =
      rw node.answers.1 (node.answers.2.answers (feed_value old new node.feeds.a) (feed_value old new node.feeds.b) (feed_value old new node.feeds.c) (feed_value old new node.feeds.d)
      ∙ ap (gate_value kind) (feeds_are kind group item node))
