-- What items take and which ports use them, one item and memory after another.
use Rattle.std.proofs.Common.{◌≡◌, ◌≢◌, ◌∙◌, ◌⊎◌, inl, inr, ℕ, zero, suc, ◌+◌, ◌<◌, ◌≤◌, List, [], ◌∷◌, ◌++◌, length, get_or, refl, sym, ap, subst, arith}
use Rattle.std.proofs.lemmas.List.{get_or_past, get_or_append_left, get_or_push, length_push}
use Rattle.std.proofs.lemmas.{Bool.cases_lt, Bool.cases_eq, List.Elements.Contains-get_or}
use Rattle.std.specs.Prelude.{Option, None, Some, slice_get}
use Rattle.std.specs.List.{Contains}
use Rattle.list_laws.proofs.Ranges.{sum_more}
use Rattle.node_defs.specs.declared.items.Item.TheVariants.{Input, BlockBit, Node, Latch}
use Rattle.node_defs.specs.declared.items.{Feed.Feed, Feed.TheVariants.From, Feed.TheVariants.Fixed, Item.Item, NodeBlock.NodeBlock, NodeNet.NodeNet}
use Rattle.node_defs.specs.{Takes.FeedTakes, Takes.Takes, WellFormed.IsWellFormed}
use Rattle.plan_defs.specs.{declared.plan.Homes.Homes, Homes.home_of, Homes.block_home, Homes.host_of}
use Rattle.home_pick.specs.Crossings.{times_in, feed_uses, item_uses, maybe_item_uses, memory_uses, block_uses, uses_by, uses_at}
use Rattle.home_pick.specs.code.Uses.{bag_at, AreBags, AreTakes, AreUses, Gives}
use Rattle.home_pick.specs.{declared.bags.Entry.Entry, Bags.where_at, code.Bags.times}
use Rattle.home_pick.proofs.{SumLemmas.total, SumLemmas.if_apart, UseLemmas.gives_both}

-- ---- what an item takes

pub feed_takes : (feed : Feed) (i : ℕ) → (feed_uses feed i ≡ 0) ⊎ FeedTakes feed i
feed_takes (From item tag) i = elim (cases_eq i item) [ inl same ↦ inr same | inr apart ↦ inl (if_apart item i 1 0 (λ same. apart (sym same))) ]
feed_takes (Fixed value) i = inl refl

pub item_takes : (item : Item) (i : ℕ) → item_uses item i ≢ 0 → Takes item i
item_takes (Input column) i some = absurd (some refl)
item_takes (BlockBit block bit) i some = absurd (some refl)
item_takes (Latch op) i some = elim (cases_eq i op) [ inl same ↦ same | inr apart ↦ absurd (some (if_apart op i 1 0 (λ same. apart (sym same)))) ]
item_takes (Node table feeds) i some = elim (feed_takes feeds.a i) [
  | inr takes ↦ inl takes
  | inl a ↦ elim (feed_takes feeds.b i) [
    | inr takes ↦ inr (inl takes)
    | inl b ↦ elim (feed_takes feeds.c i) [
      | inr takes ↦ inr (inr (inl takes))
      | inl c ↦ elim (feed_takes feeds.d i) [
        | inr takes ↦ inr (inr (inr takes))
        | inl d ↦ absurd (some (omega (arith, a, b, c, d)))
      ]
    ]
  ]
]

-- an item that is taken is there
pub uses_low : (nodes : NodeNet) (u i : ℕ) → IsWellFormed nodes → uses_by nodes u i ≢ 0 → i < length nodes.items
unfolding uses_by
uses_low nodes u i formed some = of_item (slice_get nodes.items u) refl some where
  of_item : (o : Option Item) → slice_get nodes.items u ≡ o → maybe_item_uses o i ≢ 0 → i < length nodes.items
  of_item None is none = absurd (none refl)
  of_item (Some item) is counts = formed.taken u i item is (item_takes item i counts)

pub uses_is : (nodes : NodeNet) (u i : ℕ) (item : Item) → slice_get nodes.items u ≡ Some item → uses_by nodes u i ≡ item_uses item i
unfolding uses_by
uses_is nodes u i item is = ap (λ o. maybe_item_uses o i) is

pub block_is : (nodes : NodeNet) (m i : ℕ) (block : NodeBlock) → slice_get nodes.blocks m ≡ Some block → block_uses nodes m i ≡ memory_uses (Some block) i
unfolding block_uses
block_is nodes m i block is = ap (λ o. memory_uses o i) is

-- how often a bag of the items that item u takes has each
pub taken_times : (nodes : NodeNet) (takes : List (List Entry)) (u : ℕ) (taken : List Entry) → AreTakes nodes takes → u < length nodes.items → taken ≡ bag_at takes u → (i : ℕ) → times taken i ≡ uses_by nodes u i
taken_times nodes takes u taken are low is i = ap (λ (bag : List Entry). times bag i) is ∙ are.times u i low

-- what it counts is there
pub taken_low : (nodes : NodeNet) (u n : ℕ) (taken : List Entry) → IsWellFormed nodes → ((i : ℕ) → times taken i ≡ uses_by nodes u i) → n ≡ length nodes.items → (i : ℕ) → times taken i ≢ 0 → i < n
taken_low nodes u n taken formed counts same i some = subst (λ m. i < m) (sym same) (uses_low nodes u i formed (λ none. some (counts i ∙ none)))

-- ---- one item or memory more

-- a change by the first so many, and by one more
pub gives_next : (a b c : List (List Entry)) (f : ℕ → ℕ → ℕ → ℕ) (k : ℕ) → Gives a b (λ i port. total (λ u. f u i port) k) → Gives b c (λ i port. f k i port) → Gives a c (λ i port. total (λ u. f u i port) (k + 1))
gives_next a b c f k before now =
    gives_both a b c (λ i port. total (λ u. f u i port) k) (λ i port. f k i port) (λ i port. total (λ u. f u i port) (k + 1)) before now (λ i port. sym (sum_more (λ u. f u i port) k))

pub gives_taken : (nodes : NodeNet) (homes : Homes) (taken : List Entry) (a b c : List (List Entry)) (k home : ℕ) → ((i : ℕ) → times taken i ≡ uses_by nodes k i) → home ≡ home_of homes k
    → Gives a b (λ i port. total (λ u. where_at (home_of homes u) port (uses_by nodes u i)) k) → Gives b c (λ i port. where_at home port (times taken i))
    → Gives a c (λ i port. total (λ u. where_at (home_of homes u) port (uses_by nodes u i)) (k + 1))
gives_taken nodes homes taken a b c k home counts is before now =
    gives_next a b c (λ u i port. where_at (home_of homes u) port (uses_by nodes u i)) k before
    (record { size = now.size; times = λ i q inside. now.times i q inside ∙ ap (λ n. times (bag_at b i) q + n) (ap (where_at home q) (counts i) ∙ ap (λ h. where_at h q (uses_by nodes k i)) is) })

pub gives_read : (nodes : NodeNet) (homes : Homes) (a b c : List (List Entry)) (k : ℕ) (block : NodeBlock) → slice_get nodes.blocks k ≡ Some block
    → Gives a b (λ i port. total (λ m. where_at (block_home homes m) port (block_uses nodes m i)) k) → Gives b c (λ i port. where_at (block_home homes k) port (memory_uses (Some block) i))
    → Gives a c (λ i port. total (λ m. where_at (block_home homes m) port (block_uses nodes m i)) (k + 1))
gives_read nodes homes a b c k block is before now =
    gives_next a b c (λ m i port. where_at (block_home homes m) port (block_uses nodes m i)) k before
    (record { size = now.size; times = λ i q inside. now.times i q inside ∙ ap (λ n. times (bag_at b i) q + where_at (block_home homes k) q n) (sym (block_is nodes k i block is)) })

-- ---- all of them

pub uses_are : (nodes : NodeNet) (homes : Homes) (a b c d : List (List Entry)) → length a ≡ length nodes.items → ((i q : ℕ) → times (bag_at a i) q ≡ 0) → AreBags d
    → Gives a b (λ i port. total (λ u. where_at (home_of homes u) port (uses_by nodes u i)) (length nodes.items))
    → Gives b c (λ i port. total (λ m. where_at (block_home homes m) port (block_uses nodes m i)) (length nodes.blocks))
    → Gives c d (λ i port. where_at (host_of homes) port (times_in nodes.printed i)) → AreUses nodes homes d
unfolding uses_at
uses_are nodes homes a b c d long empty bags items blocks printed = record {
  size = printed.size ∙ (blocks.size ∙ (items.size ∙ long));
  bags = bags;
  times = λ i port low.
      let first = items.times i port (omega (arith, low, long)) in
      let second = blocks.times i port (omega (arith, low, long, items.size)) in
      let third = printed.times i port (omega (arith, low, long, items.size, blocks.size)) in
      let none = empty i port in
      omega (arith, first, second, third, none);
}

-- ---- what loops ask

pub one_low : (x n : ℕ) → x < n → (k : ℕ) → k < 1 → get_or (x ∷ []) k 0 < n
one_low x n low zero first = low
one_low x n low (suc k) past = absurd (omega (arith, past))

pub members_low : (xs ys : List ℕ) (n m : ℕ) → ys ≡ xs → n ≡ m → ((o : ℕ) → Contains xs o → o < n) → (k : ℕ) → k < length ys → get_or ys k 0 < m
members_low xs ys n m same size low k inside =
    let within : k < length xs = subst (λ (zs : List ℕ). k < length zs) same inside in
    let here : get_or xs k 0 < n = low (get_or xs k 0) (Contains-get_or xs k 0 within) in
    let is : get_or ys k 0 ≡ get_or xs k 0 = ap (λ zs. get_or zs k 0) same in
    omega (arith, here, is, size)

-- ---- one bag more

pub all_push : (P : List Entry → Type 0) (bags : List (List Entry)) (bag : List Entry) → ((i : ℕ) → P (bag_at bags i)) → P bag → (i : ℕ) → P (bag_at (bags ++ bag ∷ []) i)
all_push P bags bag all last i = elim (cases_lt i (length bags)) [
  | inl low ↦ subst P (sym (get_or_append_left bags (bag ∷ []) [] i low)) (all i)
  | inr from ↦ elim (cases_eq i (length bags)) [
    | inl here ↦ subst P (sym (get_or_push bags bag [] i (sym here))) last
    | inr apart ↦
        let past : length bags ≤ i = from in
        let out : length (bags ++ bag ∷ []) ≤ i = omega (arith, past, apart, length_push bags bag) in
        subst P (get_or_past bags i [] past ∙ sym (get_or_past (bags ++ bag ∷ []) i [] out)) (all i)
  ]
]

pub taken_more : (nodes : NodeNet) (takes : List (List Entry)) (u : ℕ) (item : Item) (bag : List Entry) → length takes ≡ u → slice_get nodes.items u ≡ Some item → ((i : ℕ) → times bag i ≡ item_uses item i)
    → ((v i : ℕ) → v < u → times (bag_at takes v) i ≡ uses_by nodes v i) → (v i : ℕ) → v < u + 1 → times (bag_at (takes ++ bag ∷ []) v) i ≡ uses_by nodes v i
taken_more nodes takes u item bag long at is before v i low = elim (cases_lt v u) [
  | inl below ↦ ap (λ (b : List Entry). times b i) (get_or_append_left takes (bag ∷ []) [] v (omega (arith, below, long))) ∙ before v i below
  | inr from ↦
      let here : v ≡ u = omega (arith, low, from) in
      let last : length takes ≡ v = omega (arith, here, long) in
      ap (λ (b : List Entry). times b i) (get_or_push takes bag [] v last) ∙ (is i ∙ (sym (uses_is nodes u i item at) ∙ ap (λ w. uses_by nodes w i) (sym here)))
]
