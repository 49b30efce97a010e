-- The crossings are the readers of all items.
use Rattle.std.proofs.Common.{◌≡◌, ◌≢◌, ◌∙◌, inl, inr, ℕ, zero, suc, ◌+◌, ◌<◌, ◌≤◌, List, [], ◌∷◌, length, map, get_or, refl, sym, ap, arith, if◌then◌else◌}
use Rattle.std.proofs.lemmas.{Bool.cases_eq, Option.slice_get_within, Option.slice_get_cases, List.get_or-map, List.length-map, List.get_or_default}
use Rattle.std.proofs.lemmas.List.{FromFn.length-range_with_len, FromFn.get_or-range_with_len, Kept.AllPairs-from_increasing}
use Rattle.std.proofs.lemmas.List.Sums.{sum_by-cons, get_or-le-sum_by}
use Rattle.std.specs.{Prelude.◌==◌, Prelude.Some, List.sum_by, List.range_with_len, List.Contains}
use Rattle.list_laws.proofs.Ranges.{sum_more, sum_alike}
use Rattle.node_defs.specs.declared.items.Item.TheVariants.{Input, BlockBit, Node, Latch}
use Rattle.node_defs.specs.declared.items.{Feed.Feed, Feed.TheVariants.From, Feed.TheVariants.Fixed, Item.Item, NodeBlock.NodeBlock, NodeNet.NodeNet}
use Rattle.node_defs.specs.{Takes.FeedTakes, Takes.Takes, Takes.BlockTakes, WellFormed.IsWellFormed}
use Rattle.plan_defs.specs.Homes.{AreHomes, home_of, block_home, host_of, ports_of}
use Rattle.plan_defs.specs.{declared.plan.Homes.Homes, Readers.IsUser, Readers.IsReader, Readers.IsReaderList}
use Rattle.plan_defs.proofs.lemmas.PortLemmas.{home_port, reader_port}
use Rattle.home_pick.specs.Crossings.{times_in, feed_uses, item_uses, memory_uses, block_uses, uses_by, uses_at, reads_at, readers_at, crossings}
use Rattle.home_pick.specs.{declared.bags.Entry.Entry, Bags.flag, Bags.where_at, code.Bags.entry_at, code.Bags.IsBag, code.Work.beside}
use Rattle.home_pick.proofs.SumLemmas.{total, if_same, if_apart, flag_some}
use Rattle.home_pick.proofs.{BagLemmas.total_members, LinkLemmas.item_takes, LinkLemmas.uses_is, LinkLemmas.block_is}

-- ---- some and none

total_some : (f : ℕ → ℕ) (n : ℕ) → total f n ≢ 0 → (k : ℕ) × (k < n) × (f k ≢ 0)
total_some f zero some = absurd (some refl)
total_some f (suc n) some = elim (cases_eq (f n) 0) [
  | inr here ↦ (n, omega arith, here)
  | inl none ↦
      let next : suc n ≡ n + 1 = omega arith in
      let more : total f (suc n) ≡ total f n + f n = ap (total f) next ∙ sum_more f n in
      let found = total_some f n (λ nothing. some (omega (arith, more, nothing, none))) in
      (found.0, (let low = found.1 in omega (arith, low)), found.2)
]

total_each : (f : ℕ → ℕ) (n k : ℕ) → k < n → f k ≤ total f n
total_each f n k low =
    let part = get_or-le-sum_by f (range_with_len 0 n) k 0 (omega (arith, low, length-range_with_len 0 n)) in
    let at : f (get_or (range_with_len 0 n) k 0) ≡ f k = ap f (get_or-range_with_len 0 n k 0 low ∙ (let plain : 0 + k ≡ k = omega arith in plain)) in
    omega (arith, part, at)

member_counts : (xs : List ℕ) (i : ℕ) → Contains xs i → 1 ≤ times_in xs i
member_counts xs i (k, low, is) =
    let part = get_or-le-sum_by (λ o. if o == i then 1 else 0) xs k i low in
    let one : (if get_or xs k i == i then 1 else 0) ≡ 1 = if_same (get_or xs k i) i 1 0 is in
    omega (arith, part, one)

counted_member : (xs : List ℕ) (i : ℕ) → times_in xs i ≢ 0 → Contains xs i
counted_member [] i some = absurd (some refl)
counted_member (x ∷ xs) i some = elim (cases_eq x i) [
  | inl same ↦ (0, omega arith, same)
  | inr apart ↦
      let all : times_in (x ∷ xs) i ≡ (if x == i then 1 else 0) + times_in xs i = sum_by-cons (λ o. if o == i then 1 else 0) x xs in
      let none : (if x == i then 1 else 0) ≡ 0 = if_apart x i 1 0 apart in
      let rest = counted_member xs i (λ nothing. some (omega (arith, all, none, nothing))) in
      (suc rest.0, (let low = rest.1 in omega (arith, low)), rest.2)
]

-- ---- users

feed_counts : (feed : Feed) (i : ℕ) → FeedTakes feed i → feed_uses feed i ≡ 1
feed_counts (From item tag) i takes = if_same item i 1 0 (sym takes)
feed_counts (Fixed value) i none = absurd none

item_counts : (item : Item) (i : ℕ) → Takes item i → 1 ≤ item_uses item i
item_counts (Input column) i none = absurd none
item_counts (BlockBit block bit) i none = absurd none
item_counts (Latch op) i takes = omega (arith, if_same op i 1 0 (sym takes))
item_counts (Node table feeds) i (inl takes) = omega (arith, feed_counts feeds.a i takes)
item_counts (Node table feeds) i (inr (inl takes)) = omega (arith, feed_counts feeds.b i takes)
item_counts (Node table feeds) i (inr (inr (inl takes))) = omega (arith, feed_counts feeds.c i takes)
item_counts (Node table feeds) i (inr (inr (inr takes))) = omega (arith, feed_counts feeds.d i takes)

block_counts : (block : NodeBlock) (i : ℕ) → BlockTakes block i → 1 ≤ memory_uses (Some block) i
block_counts block i (inl we) = omega (arith, if_same block.we i 1 0 (sym we))
block_counts block i (inr (inl address)) = omega (arith, member_counts block.address i address)
block_counts block i (inr (inr word)) = omega (arith, member_counts block.word i word)

block_takes : (block : NodeBlock) (i : ℕ) → memory_uses (Some block) i ≢ 0 → BlockTakes block i
block_takes block i some = elim (cases_eq i block.we) [
  | inl we ↦ inl we
  | inr apart ↦ elim (cases_eq (times_in block.address i) 0) [
    | inr address ↦ inr (inl (counted_member block.address i address))
    | inl no_address ↦
        let no_we : (if block.we == i then 1 else 0) ≡ 0 = if_apart block.we i 1 0 (λ same. apart (sym same)) in
        inr (inr (counted_member block.word i (λ no_word. some (omega (arith, no_we, no_address, no_word)))))
  ]
]

-- what is counted where it is at the port is at the port
where_some : (home port n : ℕ) → where_at home port n ≢ 0 → (home ≡ port) × (n ≢ 0)
where_some home port n some = elim (cases_eq home port) [
  | inl same ↦ (same, (λ none. some (if_same home port n 0 same ∙ none)))
  | inr apart ↦ absurd (some (if_apart home port n 0 apart))
]

pub user_counts : (nodes : NodeNet) (homes : Homes) (i q : ℕ) → IsUser nodes homes i q → 1 ≤ uses_at nodes homes i q
unfolding uses_at
user_counts nodes homes i q (inl t) =
    let part = total_each (λ u. where_at (home_of homes u) q (uses_by nodes u i)) (length nodes.items) t.taker (slice_get_within nodes.items t.taker t.item t.is) in
    let here : where_at (home_of homes t.taker) q (uses_by nodes t.taker i) ≡ uses_by nodes t.taker i = if_same (home_of homes t.taker) q (uses_by nodes t.taker i) 0 t.home in
    omega (arith, part, here, uses_is nodes t.taker i t.item t.is, item_counts t.item i t.takes)
user_counts nodes homes i q (inr (inl t)) =
    let part = total_each (λ m. where_at (block_home homes m) q (block_uses nodes m i)) (length nodes.blocks) t.memory (slice_get_within nodes.blocks t.memory t.block t.is) in
    let here : where_at (block_home homes t.memory) q (block_uses nodes t.memory i) ≡ block_uses nodes t.memory i = if_same (block_home homes t.memory) q (block_uses nodes t.memory i) 0 t.home in
    omega (arith, part, here, block_is nodes t.memory i t.block t.is, block_counts t.block i t.takes)
user_counts nodes homes i q (inr (inr printed)) =
    let here : where_at (host_of homes) q (times_in nodes.printed i) ≡ times_in nodes.printed i = if_same (host_of homes) q (times_in nodes.printed i) 0 (sym printed.1) in
    omega (arith, here, member_counts nodes.printed i printed.0)

pub counts_user : (nodes : NodeNet) (homes : Homes) (i q : ℕ) → uses_at nodes homes i q ≢ 0 → IsUser nodes homes i q
unfolding uses_at
counts_user nodes homes i q some = elim (cases_eq (total (λ u. where_at (home_of homes u) q (uses_by nodes u i)) (length nodes.items)) 0) [
  | inr items ↦
      let found = total_some (λ u. where_at (home_of homes u) q (uses_by nodes u i)) (length nodes.items) items in
      let at = where_some (home_of homes found.0) q (uses_by nodes found.0 i) found.2 in
      elim (slice_get_cases nodes.items found.0).1 [
        | inl here ↦ inl (record { taker = found.0; item = here.0; is = here.2; takes = item_takes here.0 i (λ none. at.1 (uses_is nodes found.0 i here.0 here.2 ∙ none)); home = at.0 })
        | inr past ↦ (let out = past.0 in let low = found.1 in absurd (omega (arith, out, low)))
      ]
  | inl no_items ↦ elim (cases_eq (total (λ m. where_at (block_home homes m) q (block_uses nodes m i)) (length nodes.blocks)) 0) [
    | inr blocks ↦
        let found = total_some (λ m. where_at (block_home homes m) q (block_uses nodes m i)) (length nodes.blocks) blocks in
        let at = where_some (block_home homes found.0) q (block_uses nodes found.0 i) found.2 in
        elim (slice_get_cases nodes.blocks found.0).1 [
          | inl here ↦ inr (inl (record { memory = found.0; block = here.0; is = here.2; takes = block_takes here.0 i (λ none. at.1 (block_is nodes found.0 i here.0 here.2 ∙ none)); home = at.0 }))
          | inr past ↦ (let out = past.0 in let low = found.1 in absurd (omega (arith, out, low)))
        ]
    | inl no_blocks ↦
        let at = where_some (host_of homes) q (times_in nodes.printed i) (λ none. some (omega (arith, no_items, no_blocks, none))) in
        inr (inr (counted_member nodes.printed i at.1, sym at.0))
  ]
]

-- ---- reader lists

marks_sum : (f : Entry → ℕ) (ports : List ℕ) → ((k : ℕ) → k < length ports → f (record { key = get_or ports k 0; count = 1 }) ≡ 1) → sum_by f (map (λ q. record { key = q; count = 1 }) ports) ≡ length ports
marks_sum f [] ones = refl
marks_sum f (q ∷ ports) ones =
    let rest = marks_sum f ports (λ k low. ones (suc k) (omega (arith, low))) in
    let first : f (record { key = q; count = 1 }) ≡ 1 = ones 0 (omega arith) in
    let all = sum_by-cons f (record { key = q; count = 1 }) (map (λ q. record { key = q; count = 1 }) ports) in
    omega (arith, rest, first, all)

pub readers_listed : (nodes : NodeNet) (homes : Homes) (i : ℕ) (ports : List ℕ) → IsWellFormed nodes → AreHomes nodes homes → i < length nodes.items → IsReaderList nodes homes i ports → readers_at nodes homes i ≡ length ports
unfolding readers_at
readers_listed nodes homes i ports formed are low lists =
    let members : total (reads_at nodes homes i) (ports_of homes) ≡ reads_at nodes homes i (home_of homes i) + sum_by (beside (reads_at nodes homes i) (home_of homes i)) bag =
    total_members (reads_at nodes homes i) (home_of homes i) (ports_of homes) bag bag_is (home_port nodes homes i formed are low) beyond absent in
    let own : reads_at nodes homes i (home_of homes i) ≡ 0 = if_same (home_of homes i) (home_of homes i) 0 (flag (uses_at nodes homes i (home_of homes i))) refl in
    let ones : sum_by (beside (reads_at nodes homes i) (home_of homes i)) bag ≡ length ports = marks_sum (beside (reads_at nodes homes i) (home_of homes i)) ports one in
    omega (arith, members, own, ones)
  where
    bag : List Entry
    bag = map (λ q. record { key = q; count = 1 }) ports

    long : length bag ≡ length ports
    long = length-map ports (λ q. record { key = q; count = 1 })

    key_at : (k : ℕ) → k < length ports → (entry_at bag k).key ≡ get_or ports k 0
    key_at k inside = ap (λ (e : Entry). e.key) (get_or-map (λ q. record { key = q; count = 1 }) ports k 0 (record { key = 0; count = 0 }) inside)

    reader : (k : ℕ) → k < length ports → IsReader nodes homes i (get_or ports k 0)
    reader k inside = (lists.exact (get_or ports k 0)).0 (k, inside, get_or_default ports k (get_or ports k 0) 0 inside)

    bag_is : IsBag bag
    bag_is = record {
      once = λ j k before inside same.
          let within : k < length ports = omega (arith, inside, long) in
          let rise = AllPairs-from_increasing ports lists.rising j k 0 before within in
          let one = key_at j (omega (arith, before, within)) in
          let other = key_at k within in
          omega (arith, rise, one, other, same);
    }

    beyond : (k : ℕ) → k < length bag → ports_of homes ≤ (entry_at bag k).key → reads_at nodes homes i (entry_at bag k).key ≡ 0
    beyond k inside past =
        let within : k < length ports = omega (arith, inside, long) in
        let there = (reader_port nodes homes i (get_or ports k 0) formed are (reader k within)).1 in
        let at = key_at k within in
        absurd (omega (arith, past, there, at))

    one : (k : ℕ) → k < length ports → beside (reads_at nodes homes i) (home_of homes i) (record { key = get_or ports k 0; count = 1 }) ≡ 1
    one k inside =
        let is = reader k inside in
        if_apart (get_or ports k 0) (home_of homes i) 0 (reads_at nodes homes i (get_or ports k 0)) is.away
        ∙ (if_apart (home_of homes i) (get_or ports k 0) 0 (flag (uses_at nodes homes i (get_or ports k 0))) (λ same. is.away (sym same))
        ∙ flag_some (uses_at nodes homes i (get_or ports k 0)) (user_counts nodes homes i (get_or ports k 0) is.user))

    absent : (q : ℕ) → q ≢ home_of homes i → ((k : ℕ) → k < length bag → (entry_at bag k).key ≢ q) → reads_at nodes homes i q ≡ 0
    absent q apart none =
        if_apart (home_of homes i) q 0 (flag (uses_at nodes homes i q)) (λ same. apart (sym same))
        ∙ elim (cases_eq (uses_at nodes homes i q) 0) [
          | inl nothing ↦ ap flag nothing
          | inr some ↦
              let at = (lists.exact q).1 (record { user = counts_user nodes homes i q some; away = apart }) in
              let place : ℕ = at.0 in
              let inside : place < length ports = at.1 in
              let there : get_or ports place 0 ≡ q = get_or_default ports place 0 q inside ∙ at.2 in
              absurd (none place (omega (arith, inside, long)) (key_at place inside ∙ there))
        ]

pub crossings_counted : (nodes : NodeNet) (homes : Homes) (readers : ℕ → List ℕ) → IsWellFormed nodes → AreHomes nodes homes → ((i : ℕ) → i < length nodes.items → IsReaderList nodes homes i (readers i))
    → crossings nodes homes ≡ sum_by (λ i. length (readers i)) (range_with_len 0 (length nodes.items))
unfolding crossings
crossings_counted nodes homes readers formed are lists =
    sum_alike (readers_at nodes homes) (λ i. length (readers i)) (length nodes.items) (λ i low. readers_listed nodes homes i (readers i) formed are low (lists i low))
