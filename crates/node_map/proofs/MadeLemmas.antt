-- What was made from the keys in order are the items of the netlist.
use Rattle.std.proofs.Common.{◌≡◌, ◌∙◌, inl, inr, ℕ, ◌+◌, ◌-◌, ◌<◌, ◌≤◌, ◌↔◌, nat_lt, max, Bool, true, false, ◌&&◌, if◌then◌else◌, List, [], length, map, get_or, refl, sym, ap, subst, arith}
use Rattle.std.proofs.lemmas.Option.{slice_get-get_or, slice_get_within, slice_get-map, get_or_from_slice_get}
use Rattle.std.proofs.lemmas.{Bool.cases_lt, Bool.lt-ltb, Bool.le-ltb, Bool.Decides.eqb_tells, List.length-map, List.get_or-map}
use Rattle.std.specs.Prelude.{Option, Some, None, slice_get}
use Rattle.list_laws.proofs.{Members.mapped_at, Options.one_some}
use Rattle.logic_four.specs.declared.Kind.{Kind}
use Rattle.net_defs.specs.declared.{netlist.Netlist.Netlist, netlist.Signal.Signal, netlist.Driver.Driver, timing.Timing.Timing}
use Rattle.net_defs.specs.{Steps.is_late, Loops.gate_operands}
use Rattle.net_defs.specs.declared.netlist.Driver.TheVariants as driver
use Rattle.func_table.specs.{declared.table.Table.Table, Shelf.AreDifferent}
use Rattle.node_defs.specs.Items.{own, IsNamed, wire_name, wire_tag, feed_at, IsNode, IsGateItem, IsItemOf, IsItem, helpers_of, IsAmong, StandFor}
use Rattle.node_defs.specs.Order.{class_of, rank_after_feed, rank_of, key_of, HelperBefore, Before, IsMapped}
use Rattle.node_defs.specs.declared.items.{Tag.TheVariants.This, Tag.TheVariants.Last, Feed.TheVariants.From, Item.Item, ItemName.ItemName, NodeBlock.NodeBlock}
use Rattle.node_defs.specs.Groups.{groups, group_at, helper_count}
use Rattle.node_map.specs.code.Wires.{operands_of, helpers_at, class_of_driver, class_at, past_of, most_of, pasts_to, pasts_of, rank_at, AreOwnRanks}
use Rattle.node_map.specs.code.Places.{name_at, name_of, IsKeyBefore, AreKeyed, AreRight}
use Rattle.node_map.specs.{declared.keys.Key.Key, code.Made.AreMade, code.Made.AreNodeBlocks}
use Rattle.node_map.proofs.lemmas.ShapeLemmas.{group_within, group_few, some_groups, no_groups}
use Rattle.node_map.proofs.PastLemmas.{added, added_is, past_operand, past_helper, pasts_before, most_same}
use Rattle.node_map.proofs.RankLemmas.{rank_none}

-- ---- names

-- the place of a signal's item that stands for this
abbrev place_of : ℕ → Option ℕ → ℕ
place_of helpers None = helpers
place_of helpers (Some h) = h

place_among : (helpers : ℕ) (helper : Option ℕ) → IsAmong helpers helper → (place_of helpers helper ≤ helpers) × ((if nat_lt (place_of helpers helper) helpers then Some (place_of helpers helper) else None) ≡ helper)
place_among helpers None among = (omega arith, ap (λ b. if b then Some helpers else None) (le-ltb helpers helpers (omega arith)))
place_among helpers (Some h) among = (omega (arith, among), ap (λ b. if b then Some h else None) (lt-ltb h helpers among))

-- where a name says a helper, or none, its key's place is that
helper_place : (helpers place : ℕ) (helper : Option ℕ) → place ≤ helpers → (if nat_lt place helpers then Some place else None) ≡ helper → place ≡ place_of helpers helper
helper_place helpers place helper among is = elim (cases_lt place helpers) [
  | inl h ↦
      let here : Some place ≡ helper = sym (ap (λ b. if b then Some place else None) (lt-ltb place helpers h)) ∙ is in
      subst (λ o. place ≡ place_of helpers o) here refl
  | inr h ↦
      let here : None ≡ helper = sym (ap (λ b. if b then Some place else None) (le-ltb place helpers h)) ∙ is in
      let last : place ≡ helpers = omega (arith, h, among) in
      subst (λ o. place ≡ place_of helpers o) here last
]

helpers_are : (net : Netlist) (s : ℕ) (signal : Signal) → slice_get net.signals s ≡ Some signal → helpers_of signal.driver ≡ helpers_at net s
helpers_are net s signal at = rw at (by_driver signal.driver) where
  by_driver : (drives : Driver) → helpers_of drives ≡ helper_count (length (gate_operands drives))
  by_driver drives = grind (arith, no_groups)

-- the order of two places is that of what they stand for
helper_before : (helpers p q : ℕ) → p < q → q ≤ helpers → HelperBefore (if nat_lt p helpers then Some p else None) (if nat_lt q helpers then Some q else None)
helper_before helpers p q before among =
    let first : nat_lt p helpers ≡ true = lt-ltb p helpers (omega (arith, before, among)) in
    rw first (elim (cases_lt q helpers) [
      | inl h ↦ (let second : nat_lt q helpers ≡ true = lt-ltb q helpers h in rw second before)
      | inr h ↦ (let second : nat_lt q helpers ≡ false = le-ltb q helpers h in rw second tt)
    ])

-- ---- classes

class_is_of : (names : List ItemName) (tables : List Table) (late : Bool) (s : ℕ) (drives : Driver) (helper : Option ℕ) (item : Item) → IsItemOf names tables late s drives helper item → class_of item ≡ class_of_driver drives
class_is_of names tables late s drives helper item is = grind arith

-- the item of a signal by its driver
item_driven : (net : Netlist) (timing : Timing) (names : List ItemName) (tables : List Table) (name : ItemName) (item : Item) → IsItem net timing names tables name item
    → (signal : Signal) × (slice_get net.signals name.signal ≡ Some signal) × IsItemOf names tables (is_late net timing name.signal) name.signal signal.driver name.helper item
item_driven net timing names tables name item is = by_signal (slice_get net.signals name.signal) refl where
  no : ⊥ → ⊥
  no h = h

  by_signal : (found : Option Signal) → slice_get net.signals name.signal ≡ found → (signal : Signal) × (slice_get net.signals name.signal ≡ Some signal) × IsItemOf names tables (is_late net timing name.signal) name.signal signal.driver name.helper item
  by_signal None at = absurd (no (rw at at is))
  by_signal (Some signal) at = (signal, at, (rw at at is))

-- ---- ranks

-- the greatest of four that are numbers of a group, or 0 past it
four : (pasts : List ℕ) (first size : ℕ) (at : ℕ → ℕ) → size ≤ 4 → ((i : ℕ) → i < size → at i ≡ get_or pasts (first + i) 0) → ((i : ℕ) → size ≤ i → at i ≡ 0)
    → max (max (at 0) (at 1)) (max (at 2) (at 3)) ≡ most_of pasts first size
four pasts first size at few used unused = grind (arith, used 0, used 1, used 2, used 3, unused 0, unused 1, unused 2, unused 3)

module _ (net : Netlist) (timing : Timing) (ranks_own : List ℕ) (keys : List Key) (names : List ItemName) (tables : List Table) (items : List Item) (first_node : ℕ)
    (own_are : AreOwnRanks net timing ranks_own) (keyed : AreKeyed net keys) (right : AreRight net timing ranks_own keys)
    (names_are : names ≡ map (name_of net) keys) (made : AreMade net timing names tables keys items)
    (first_within : first_node ≤ length keys) (nodes_at : (x : ℕ) (key : Key) → slice_get keys x ≡ Some key → (key.class ≡ 2) ↔ (first_node ≤ x)) where
  abbrev ranks : List ℕ
  ranks = map (λ k. k.rank) keys

  key_named : (x : ℕ) (name : ItemName) → IsNamed names x name → (key : Key) × (slice_get keys x ≡ Some key) × (name_of net key ≡ name)
  key_named x name named = mapped_at (name_of net) keys x name (subst (λ ns. slice_get ns x ≡ Some name) names_are named)

  rank_key : (x : ℕ) (key : Key) → slice_get keys x ≡ Some key → get_or ranks x 0 ≡ key.rank
  rank_key x key at = get_or-map (λ k. k.rank) keys x key 0 (slice_get_within keys x key at) ∙ ap (λ k. k.rank) (get_or_from_slice_get keys x key key at)

  key_rank : (x : ℕ) (key : Key) → slice_get keys x ≡ Some key → key.rank ≡ rank_at net timing ranks_own key.signal key.place
  key_rank x key at = ap (λ k. k.rank) (right x key at)

  -- the rank of the item of this name
  named_rank : (x s : ℕ) (helper : Option ℕ) → IsNamed names x (record { signal = s; helper = helper })
      → (get_or ranks x 0 ≡ rank_at net timing ranks_own s (place_of (helpers_at net s) helper)) × ((class_at net s ≡ 2) ↔ (first_node ≤ x))
  named_rank x s helper named =
      let k : _ = key_named x (record { signal = s; helper = helper }) named in
      let signal : k.0.signal ≡ s = ap (λ n. n.signal) k.2 in
      let place : k.0.place ≡ place_of (helpers_at net k.0.signal) helper = helper_place (helpers_at net k.0.signal) k.0.place helper (keyed.place x k.0 k.1) (ap (λ n. n.helper) k.2) in
      let class : k.0.class ≡ class_at net s = keyed.class x k.0 k.1 ∙ ap (class_at net) signal in (
        rank_key x k.0 k.1 ∙ (key_rank x k.0 k.1 ∙ (ap (λ p. rank_at net timing ranks_own k.0.signal p) place ∙ ap (λ t. rank_at net timing ranks_own t (place_of (helpers_at net t) helper)) signal)),
        ((λ is. (nodes_at x k.0 k.1).0 (class ∙ is)), (λ past. sym class ∙ (nodes_at x k.0 k.1).1 past)),
      )

  operand_past : (op x : ℕ) → IsNamed names x (own op) → rank_after_feed first_node ranks (From x This) ≡ past_of net ranks_own false op
  operand_past op x named =
      let k : _ = named_rank x op None named in
      let is : get_or ranks x 0 ≡ get_or ranks_own op 0 = k.0 ∙ sym (own_are.ranks op) in
      elim (eqb_tells (class_at net op) 2) [
        | inl h ↦
            let test : nat_lt x first_node ≡ false = le-ltb x first_node (k.1.0 h.1) in
            rw test (rw h.0 (ap (λ n. n + 1) is))
        | inr h ↦ elim (cases_lt x first_node) [
          | inl low ↦ (let test : nat_lt x first_node ≡ true = lt-ltb x first_node low in rw test (rw h.0 refl))
          | inr past ↦ absurd (h.1 (k.1.1 past))
        ]
      ]

  module _ (s place : ℕ) (among : place ≤ helpers_at net s) (gate : class_at net s ≡ 2) where
    abbrev ops : List ℕ
    ops = operands_of net s

    abbrev late : Bool
    late = is_late net timing s

    abbrev operands : List ℕ
    operands = map (past_of net ranks_own late) ops

    abbrev pasts : List ℕ
    pasts = pasts_of net ranks_own late ops

    wires : length operands ≡ length ops
    wires = length-map ops (past_of net ranks_own late)

    place_low : place < length (groups (length ops))
    place_low = omega (arith, among, some_groups (length ops))

    wire_past : (w x : ℕ) → w < length ops + place → IsNamed names x (wire_name s ops w) → rank_after_feed first_node ranks (From x (wire_tag late ops w)) ≡ get_or pasts w 0
    wire_past w x within named = elim (cases_lt w (length ops)) [
      | inl h ↦
          let test : nat_lt w (length ops) ≡ true = lt-ltb w (length ops) h in
          let entry : get_or pasts w 0 ≡ past_of net ranks_own late (get_or ops w 0) =
          past_operand (length ops) operands (length (groups (length ops))) w (omega (arith, h, wires)) ∙ get_or-map (past_of net ranks_own late) ops w 0 0 h in
          rw test (of_late late (get_or ops w 0) (rw test at named) ∙ sym entry)
      | inr h ↦
          let test : nat_lt w (length ops) ≡ false = le-ltb w (length ops) h in
          let k : _ = named_rank x s (Some (w - length ops)) (rw test at named) in
          let at : w ≡ length operands + (w - length ops) = omega (arith, h, wires) in
          let entry : get_or pasts w 0 ≡ added (length ops) operands (w - length ops) =
          ap (λ v. get_or pasts v 0) at ∙ past_helper (length ops) operands (length (groups (length ops))) (w - length ops) (omega (arith, within, h, place_low)) in
          let same : get_or pasts (length ops + (w - length ops)) 0 ≡ get_or pasts w 0 = ap (λ v. get_or pasts v 0) (omega (arith, h)) in
          let node : nat_lt x first_node ≡ false = le-ltb x first_node (k.1.0 gate) in
          rw test (of_tag late x ∙ rw node (omega (arith, k.0, entry, same, added_is (length ops) operands (w - length ops))))
    ] where
      of_late : (b : Bool) (op : ℕ) → IsNamed names x (own op) → rank_after_feed first_node ranks (From x (if b && true then Last else This)) ≡ past_of net ranks_own b op
      of_late true op is = refl
      of_late false op is = operand_past op x is

      of_tag : (b : Bool) (y : ℕ) → rank_after_feed first_node ranks (From y (if b && false then Last else This)) ≡ rank_after_feed first_node ranks (From y This)
      of_tag true y = refl
      of_tag false y = refl

    node_rank : (kind : Kind) (item : Item) → IsNode names tables late s ops kind (group_at (length ops) place) item → rank_at net timing ranks_own s place ≡ rank_of first_node ranks item
    node_rank kind item node =
        let ends : (group_at (length ops) place).first + (group_at (length ops) place).size ≤ length ops + place = group_within (length ops) place place_low in
        let most : most_of (pasts_to (length ops) operands place) (group_at (length ops) place).first (group_at (length ops) place).size ≡ most_of pasts (group_at (length ops) place).first (group_at (length ops) place).size =
        most_same (pasts_to (length ops) operands place) pasts (group_at (length ops) place).first (group_at (length ops) place).size
        (λ i within. sym (pasts_before (length ops) operands place (length (groups (length ops))) ((group_at (length ops) place).first + i) (omega (arith, place_low)) (omega (arith, within, ends, wires)))) in
        let entry : get_or pasts (length ops + place) 0 ≡ added (length ops) operands place =
        ap (λ v. get_or pasts v 0) (omega (arith, wires)) ∙ past_helper (length ops) operands (length (groups (length ops))) place place_low in
        let greatest : _ = four pasts (group_at (length ops) place).first (group_at (length ops) place).size (λ i. rank_after_feed first_node ranks (feed_at node.feeds i)) (group_few (length ops) place place_low)
        (λ i within. ap (rank_after_feed first_node ranks) (node.used i within).2 ∙ wire_past ((group_at (length ops) place).first + i) (node.used i within).0 (omega (arith, within, ends)) (node.used i within).1)
        (λ i past. ap (rank_after_feed first_node ranks) (node.unused i past)) in
        let rank : get_or pasts (length ops + place) 0 - 1 ≡ most_of pasts (group_at (length ops) place).first (group_at (length ops) place).size = omega (arith, entry, added_is (length ops) operands place, most) in
        rank ∙ (sym greatest ∙ sym (ap (rank_of first_node ranks) node.is))

  -- the rank of the item of a key is what its operands say
  ranked : (x : ℕ) (item : Item) → slice_get items x ≡ Some item → get_or ranks x 0 ≡ rank_of first_node ranks item
  ranked x item there =
      let within : x < length keys = omega (arith, slice_get_within items x item there, made.long) in
      let key : Key = get_or keys x (record { class = 0; rank = 0; signal = 0; place = 0 }) in
      let at : slice_get keys x ≡ Some key = slice_get-get_or keys x (record { class = 0; rank = 0; signal = 0; place = 0 }) within in
      let driven : _ = item_driven net timing names tables (name_of net key) item (made.each x key item at there) in
      rank_key x key at ∙ (key_rank x key at ∙ by_driver key.signal key.place (keyed.place x key at) driven.0 driven.1 driven.0.driver refl item driven.2) where
        of_none : (s place : ℕ) → place ≤ helpers_at net s → operands_of net s ≡ [] → rank_at net timing ranks_own s place ≡ 0
        of_none s place among none =
            let last : place ≡ helpers_at net s = omega (arith, among, none_helpers s none) in
            ap (rank_at net timing ranks_own s) last ∙ rank_none net timing ranks_own s none where
              none_helpers : (t : ℕ) → operands_of net t ≡ [] → helpers_at net t ≡ 0
              none_helpers t empty = rw empty (rw no_groups refl)

        of_gate : (s place : ℕ) → place ≤ helpers_at net s → class_at net s ≡ 2 → (kind : Kind) (item : Item)
            → IsGateItem names tables (is_late net timing s) s (operands_of net s) kind (if nat_lt place (helpers_at net s) then Some place else None) item → rank_at net timing ranks_own s place ≡ rank_of first_node ranks item
        of_gate s place among class kind item is = elim (cases_lt place (helpers_at net s)) [
          | inl h ↦
              let test : nat_lt place (helpers_at net s) ≡ true = lt-ltb place (helpers_at net s) h in
              let gate : _ = rw test at is in
              node_rank s place among class _ item gate.1
          | inr h ↦
              let test : nat_lt place (helpers_at net s) ≡ false = le-ltb place (helpers_at net s) h in
              let last : helpers_at net s ≡ place = omega (arith, h, among) in
              node_rank s place among class kind item (subst (λ p. IsNode names tables (is_late net timing s) s (operands_of net s) kind (group_at (length (operands_of net s)) p) item) last (rw test at is))
        ]

        by_driver : (s place : ℕ) → place ≤ helpers_at net s → (signal : Signal) → slice_get net.signals s ≡ Some signal → (drives : Driver) → signal.driver ≡ drives → (item : Item)
            → IsItemOf names tables (is_late net timing s) s signal.driver (name_at net s place).helper item → rank_at net timing ranks_own s place ≡ rank_of first_node ranks item
        by_driver s place among signal at driver.Input is item right =
            let it : _ = subst (λ d. IsItemOf names tables (is_late net timing s) s d (name_at net s place).helper item) is right in
            of_none s place among (rw at (rw is refl)) ∙ sym (ap (rank_of first_node ranks) it.1)
        by_driver s place among signal at (driver.Gate kind ops) is item right =
            let same : operands_of net s ≡ ops = rw at (rw is refl) in
            let class : class_at net s ≡ 2 = rw at (rw is refl) in
            let it : IsGateItem names tables (is_late net timing s) s ops kind (name_at net s place).helper item = subst (λ d. IsItemOf names tables (is_late net timing s) s d (name_at net s place).helper item) is right in
            of_gate s place among class kind item (subst (λ o. IsGateItem names tables (is_late net timing s) s o kind (name_at net s place).helper item) (sym same) it)
        by_driver s place among signal at (driver.Dff op) is item right =
            let it : _ = subst (λ d. IsItemOf names tables (is_late net timing s) s d (name_at net s place).helper item) is right in
            of_none s place among (rw at (rw is refl)) ∙ sym (ap (rank_of first_node ranks) it.3)
        by_driver s place among signal at (driver.BlockBit block bit) is item right =
            let it : _ = subst (λ d. IsItemOf names tables (is_late net timing s) s d (name_at net s place).helper item) is right in
            of_none s place among (rw at (rw is refl)) ∙ sym (ap (rank_of first_node ranks) it.1)

  -- the class of an item is that of its key
  key_class : (x : ℕ) (key : Key) (item : Item) → slice_get keys x ≡ Some key → slice_get items x ≡ Some item → class_of item ≡ key.class
  key_class x key item at there =
      let driven : _ = item_driven net timing names tables (name_of net key) item (made.each x key item at there) in
      let class : class_at net key.signal ≡ class_of_driver driven.0.driver = class_driven key.signal driven.0 driven.1 in
      class_is_of names tables (is_late net timing key.signal) key.signal driven.0.driver (name_of net key).helper item driven.2 ∙ (sym class ∙ sym (keyed.class x key at)) where
        class_driven : (s : ℕ) (signal : Signal) → slice_get net.signals s ≡ Some signal → class_at net s ≡ class_of_driver signal.driver
        class_driven s signal is = rw is refl

  key_at_item : (x : ℕ) (item : Item) → slice_get items x ≡ Some item → (key : Key) × (slice_get keys x ≡ Some key)
  key_at_item x item there =
      let within : x < length keys = omega (arith, slice_get_within items x item there, made.long) in
      (get_or keys x (record { class = 0; rank = 0; signal = 0; place = 0 }), slice_get-get_or keys x (record { class = 0; rank = 0; signal = 0; place = 0 }) within)

  whole : (s : ℕ) (signal : Signal) (helper : Option ℕ) → slice_get net.signals s ≡ Some signal → IsAmong (helpers_of signal.driver) helper → (x : ℕ) × IsNamed names x (record { signal = s; helper = helper })
  whole s signal helper at among =
      let place : _ = place_among (helpers_at net s) helper (subst (λ n. IsAmong n helper) (helpers_are net s signal at) among) in
      let k : _ = keyed.each s (place_of (helpers_at net s) helper) (slice_get_within net.signals s signal at) place.0 in
      let name : name_of net k.1 ≡ record { signal = s; helper = helper } =
      ap (λ t. name_at net t k.1.place) k.3 ∙ (ap (name_at net s) k.4 ∙ ap (λ h. named s h) place.1) in
      (k.0, subst (λ ns. slice_get ns k.0 ≡ Some (record { signal = s; helper = helper })) (sym names_are) (slice_get-map (name_of net) keys k.0 ∙ rw k.2 (ap Some name))) where
        named : ℕ → Option ℕ → ItemName
        named t h = record { signal = t; helper = h }

  once : (x y : ℕ) (name : ItemName) → IsNamed names x name → IsNamed names y name → x ≡ y
  once x y name first second =
      let k : _ = key_named x name first in
      let l : _ = key_named y name second in
      let signal : k.0.signal ≡ l.0.signal = ap (λ n. n.signal) (k.2 ∙ sym l.2) in
      let one : k.0.place ≡ place_of (helpers_at net k.0.signal) name.helper = helper_place (helpers_at net k.0.signal) k.0.place name.helper (keyed.place x k.0 k.1) (ap (λ n. n.helper) k.2) in
      let other : l.0.place ≡ place_of (helpers_at net l.0.signal) name.helper = helper_place (helpers_at net l.0.signal) l.0.place name.helper (keyed.place y l.0 l.1) (ap (λ n. n.helper) l.2) in
      keyed.once x y k.0 l.0 k.1 l.1 signal (one ∙ (ap (λ s. place_of (helpers_at net s) name.helper) signal ∙ sym other))

  before_of : (x y : ℕ) (one other : Key) → slice_get keys x ≡ Some one → slice_get keys y ≡ Some other → (i j : Item) → slice_get items x ≡ Some i → slice_get items y ≡ Some j → IsKeyBefore one other
      → Before (key_of ranks x (name_of net one) i) (key_of ranks y (name_of net other) j)
  before_of x y one other at_one at_other i j there_one there_other before =
      let class_one : class_of i ≡ one.class = key_class x one i at_one there_one in
      let class_other : class_of j ≡ other.class = key_class y other j at_other there_other in
      let rank_one : get_or ranks x 0 ≡ one.rank = rank_key x one at_one in
      let rank_other : get_or ranks y 0 ≡ other.rank = rank_key y other at_other in
      elim before [
        | inl less ↦ inl (omega (arith, class_one, class_other, less))
        | inr same ↦ inr (
          class_one ∙ (same.0 ∙ sym class_other),
          elim same.1 [
            | inl less ↦ inl (omega (arith, rank_one, rank_other, less))
            | inr alike ↦ inr (
              rank_one ∙ (alike.0 ∙ sym rank_other),
              elim alike.1 [
                | inl less ↦ inl less
                | inr last ↦ inr (last.0, places last.0 last.1)
              ],
            )
          ],
        )
      ] where
        places : one.signal ≡ other.signal → one.place < other.place → HelperBefore (name_of net one).helper (name_of net other).helper
        places signal less =
            subst (λ s. HelperBefore (name_of net one).helper (name_at net s other.place).helper) signal
            (helper_before (helpers_at net one.signal) one.place other.place less (subst (λ s. other.place ≤ helpers_at net s) (sym signal) (keyed.place y other at_other)))

  ordered : (x y : ℕ) (one other : ItemName) (i j : Item) → x < y → IsNamed names x one → IsNamed names y other → slice_get items x ≡ Some i → slice_get items y ≡ Some j → Before (key_of ranks x one i) (key_of ranks y other j)
  ordered x y one other i j before named_one named_other there_one there_other =
      let k : _ = key_named x one named_one in
      let l : _ = key_named y other named_other in
      subst (λ n. Before (key_of ranks x n i) (key_of ranks y other j)) k.2
      (subst (λ n. Before (key_of ranks x (name_of net k.0) i) (key_of ranks y n j)) l.2
      (before_of x y k.0 l.0 k.1 l.1 i j there_one there_other (keyed.ordered x y k.0 l.0 before k.1 l.1)))

  first_of : (x : ℕ) (item : Item) → slice_get items x ≡ Some item → (class_of item ≡ 2) ↔ (first_node ≤ x)
  first_of x item there =
      let k : _ = key_at_item x item there in
      let class : class_of item ≡ k.0.class = key_class x k.0 item k.1 there in
      ((λ is. (nodes_at x k.0 k.1).0 (sym class ∙ is)), (λ past. class ∙ (nodes_at x k.0 k.1).1 past))

  -- the netlist is mapped to what was made
  pub made_items : (printed : List ℕ) (blocks : List NodeBlock) → AreDifferent tables → StandFor names printed net.printed → AreNodeBlocks names net.blocks blocks
      → IsMapped net timing (record { items = items; names = names; tables = tables; printed = printed; blocks = blocks; first_node = first_node })
  made_items printed blocks different stand memories = record {
    items = record {
      named = made.long ∙ sym (ap length names_are ∙ length-map keys (name_of net));
      names = record { whole = whole; once = once };
      right = λ x name item named there. (let k : _ = key_named x name named in subst (λ n. IsItem net timing names tables n item) k.2 (made.each x k.0 item k.1 there));
      ranks = ranks;
      ranked = ranked;
      ordered = ordered;
      first_node = first_of;
      first_node_within = omega (arith, first_within, made.long);
      tables = different;
      tables_used = λ t within. (let node : _ = made.used t within in (node.0, node.1.feeds, node.1.is));
      printed = stand;
      memories = memories.each;
      blocks = memories.same;
    };
    tables = record { different = different; used = made.used; before = λ x t u. made.before x t u };
  }

-- after a node or latch stand nodes and latches
pub classes_rise : (net : Netlist) (keys : List Key) → AreKeyed net keys → (x y : ℕ) (one other : Key) → x ≤ y → slice_get keys x ≡ Some one → slice_get keys y ≡ Some other → one.class ≡ 2 → other.class ≡ 2
classes_rise net keys keyed x y one other order at_one at_other is = elim (cases_lt x y) [
  | inl before ↦
      let most : class_at net other.signal ≤ 2 = class_most (slice_get net.signals other.signal) refl in
      elim (keyed.ordered x y one other before at_one at_other) [
        | inl less ↦ absurd (over most (keyed.class y other at_other) less)
        | inr same ↦ sym same.0 ∙ is
      ]
  | inr past ↦
      let here : y ≡ x = omega (arith, past, order) in
      let same : Some one ≡ Some other = sym at_one ∙ (sym (ap (slice_get keys) here) ∙ at_other) in
      sym (ap (λ k. k.class) (one_some one other same)) ∙ is
] where
  over : class_at net other.signal ≤ 2 → other.class ≡ class_at net other.signal → one.class < other.class → ⊥
  over most class less = omega (arith, most, class, less, is)

  by_driver : (drives : Driver) → class_of_driver drives ≤ 2
  by_driver drives = grind arith

  class_most : (found : Option Signal) → slice_get net.signals other.signal ≡ found → class_at net other.signal ≤ 2
  class_most None at = rw at (omega arith)
  class_most (Some signal) at = rw at (by_driver signal.driver)
