-- What is counted over a plan, one item, memory and receipt after another.
use Rattle.std.proofs.Common.{◌≡◌, ◌∙◌, inl, inr, ℕ, ◌+◌, ◌*◌, ◌<◌, ◌≤◌, List, [], ◌++◌, length, take, map, get_or, set, false, sym, ap, arith, eq-eqb, Some, slice_get}
use Rattle.std.proofs.lemmas.List.{get_or-set_same, get_or-set_other, length-map, get_or_default, flat_map_more}
use Rattle.std.proofs.lemmas.{Bool.cases_eq, Bool.cases_Bool, Bool.eqb-true, List.Kept.AllPairs-from_increasing}
use Rattle.std.proofs.lemmas.{List.Sums.count_by_more_yes, List.Sums.count_by_more_no, Option.slice_get_within, Option.slice_get-get_or, Option.slice_get_cases}
use Rattle.std.specs.List.{Contains, count_by, flat_map, range_with_len}
use Rattle.std.specs.Prelude.{◌==◌}
use Rattle.list_laws.proofs.{Members.map_at, Ranges.range_next}
use Rattle.node_defs.specs.{declared.items.NodeNet.NodeNet, WellFormed.IsWellFormed}
use Rattle.plan_defs.specs.{declared.plan.Homes.Homes, declared.switch.Receipt.Receipt, Homes.AreHomes, Homes.ports_of, Lists.Counts}
use Rattle.plan_defs.specs.{Picks.bits_of, Picks.bits_before, Readers.IsReaderList, declared.readers.Readers.Readers, declared.switch.PortLinks.PortLinks}
use Rattle.plan_defs.specs.{declared.switch.Switch.Switch, ReaderLists.AreReaders, Switches.AreReceipts, Switches.IsSwitch}
use Rattle.plan_defs.proofs.lemmas.{CountLemmas.few_below, PortLemmas.reader_port}
use Rattle.home_pick.proofs.FillLemmas.{bits_at, bits_more, at_same, at_other}
use Rattle.plan_text.specs.Counted.{Receives}

-- ---- how often each number stands in a list

pub raised : (xs counts : List ℕ) (i : ℕ) → i < length xs → get_or xs i 0 < length counts
    → ((p : ℕ) → p < length counts → get_or counts p 0 ≡ count_by (λ n. n == p) (take i xs))
    → (p : ℕ) → p < length counts → get_or (set counts (get_or xs i 0) (get_or counts (get_or xs i 0) 0 + 1)) p 0 ≡ count_by (λ n. n == p) (take (i + 1) xs)
raised xs counts i within low before p inside =
    let x = get_or xs i 0 in elim (cases_eq p x) [
      | inl same ↦
          let more : count_by (λ n. n == p) (take (i + 1) xs) ≡ count_by (λ n. n == p) (take i xs) + 1 = count_by_more_yes (λ n. n == p) xs i 0 within (eq-eqb x p (sym same)) in
          ap (λ k. get_or (set counts x (get_or counts x 0 + 1)) k 0) same ∙ (get_or-set_same counts x (get_or counts x 0 + 1) 0 low
          ∙ (ap (λ k. get_or counts k 0 + 1) (sym same) ∙ (ap (λ n. n + 1) (before p inside) ∙ sym more)))
      | inr apart ↦
          let past : (x == p) ≡ false = elim (cases_Bool (x == p)) [ inl is ↦ absurd (apart (sym (eqb-true x p is))) | inr is ↦ is ] in
          get_or-set_other counts x p (get_or counts x 0 + 1) 0 apart ∙ (before p inside ∙ sym (count_by_more_no (λ n. n == p) xs i 0 within past))
    ]

-- ---- the bits of one memory more

pub bits_grown : (nodes : NodeNet) (homes : Homes) (counts : List ℕ) (m a new : ℕ) → a < length counts → get_or homes.blocks m 0 ≡ homes.logic + a → new ≡ get_or counts a 0 + bits_of nodes m
    → ((b : ℕ) → b < length counts → get_or counts b 0 ≡ bits_before nodes homes.blocks m (homes.logic + b))
    → (b : ℕ) → b < length counts → get_or (set counts a new) b 0 ≡ bits_before nodes homes.blocks (m + 1) (homes.logic + b)
bits_grown nodes homes counts m a new low port is before b inside =
    let more = bits_more nodes homes.blocks m (homes.logic + b) in
    let had = before b inside in elim (cases_eq b a) [
      | inl same ↦
          let got : get_or (set counts a new) b 0 ≡ new = ap (λ k. get_or (set counts a new) k 0) same ∙ get_or-set_same counts a new 0 low in
          let here : bits_at nodes homes.blocks (homes.logic + b) m ≡ bits_of nodes m = at_same (get_or homes.blocks m 0) (homes.logic + b) (bits_of nodes m) (port ∙ ap (λ k. homes.logic + k) (sym same)) in
          let old : get_or counts b 0 ≡ get_or counts a 0 = ap (λ k. get_or counts k 0) same in
          omega (arith, got, here, old, had, more, is)
      | inr apart ↦
          let got : get_or (set counts a new) b 0 ≡ get_or counts b 0 = get_or-set_other counts a b new 0 apart in
          let here : bits_at nodes homes.blocks (homes.logic + b) m ≡ 0 = at_other (get_or homes.blocks m 0) (homes.logic + b) (bits_of nodes m) (λ same. apart (omega (arith, same, port))) in
          omega (arith, got, here, had, more)
    ]

-- each memory has few bits
pub bits_small : (counts : List ℕ) (m a new : ℕ) → a < length counts → new ≤ get_or counts a 0 + 8388608 → ((b : ℕ) → b < length counts → get_or counts b 0 ≤ m * 8388608)
    → (b : ℕ) → b < length counts → get_or (set counts a new) b 0 ≤ (m + 1) * 8388608
bits_small counts m a new low up before b inside = elim (cases_eq b a) [
  | inl same ↦
      let got : get_or (set counts a new) b 0 ≡ new = ap (λ k. get_or (set counts a new) k 0) same ∙ get_or-set_same counts a new 0 low in
      let had = before a low in omega (arith, got, had, up)
  | inr apart ↦
      let got : get_or (set counts a new) b 0 ≡ get_or counts b 0 = get_or-set_other counts a b new 0 apart in
      let had = before b inside in omega (arith, got, had)
]

-- ---- the slots in which a port receives

module _ (nodes : NodeNet) (homes : Homes) (slots : List ℕ) (port : ℕ) (receipts : List Receipt) (are : AreReceipts nodes homes slots port receipts) where
  abbrev received : List ℕ
  received = map (λ (receipt : Receipt). receipt.slot) receipts

  at_receipt : (k s : ℕ) (receipt : Receipt) → slice_get receipts k ≡ Some receipt → get_or received k s ≡ receipt.slot
  at_receipt k s receipt is = map_at (λ (r : Receipt). r.slot) receipts k receipt s is

  receipt_low : (k : ℕ) (receipt : Receipt) → slice_get receipts k ≡ Some receipt → k < length received
  receipt_low k receipt is = rw (length-map receipts (λ (r : Receipt). r.slot)) (slice_get_within receipts k receipt is)

  received_there : (s : ℕ) → Contains received s → Receives nodes homes slots port s
  received_there s (k, low, is) = elim (slice_get_cases receipts k).1 [
    | inl here ↦
        let one = are.each k here.0 here.2 in
        record { item = one.0; within = one.1; reads = one.2; at = sym one.3.slot ∙ (sym (at_receipt k s here.0 here.2) ∙ is) }
    | inr past ↦ (let out = past.0 in let long = length-map receipts (λ (r : Receipt). r.slot) in absurd (omega (arith, out, low, long)))
  ]

  received_back : (s : ℕ) → Receives nodes homes slots port s → Contains received s
  received_back s receives =
      let one = are.whole receives.item receives.within receives.reads in
      (one.0, receipt_low one.0 one.1 one.2, at_receipt one.0 s one.1 one.2 ∙ (one.3.slot ∙ receives.at))

  pub takes_are : Counts (Receives nodes homes slots port) (length receipts)
  takes_are = record {
    numbers = received;
    lists = record { rising = are.rising; exact = λ s. (received_there s, received_back s) };
    are = sym (length-map receipts (λ (r : Receipt). r.slot));
  }

-- as a list, of all ports
pub counted_takes : (nodes : NodeNet) (homes : Homes) (slots : List ℕ) (switch : Switch) (counts : List ℕ) → IsSwitch nodes homes slots switch → counts ≡ map (λ (links : PortLinks). length links.receipts) switch.ports
    → (port : ℕ) → port < ports_of homes → Counts (Receives nodes homes slots port) (get_or counts port 0)
counted_takes nodes homes slots switch counts is are port low = elim (slice_get_cases switch.ports port).1 [
  | inl here ↦
      let read : get_or counts port 0 ≡ length here.0.receipts = ap (λ xs. get_or xs port 0) are ∙ map_at (λ (links : PortLinks). length links.receipts) switch.ports port here.0 0 here.2 in
      rw read (takes_are nodes homes slots port here.0.receipts (is.receipts port here.0 here.2))
  | inr past ↦ (let out = past.0 in let count = is.ports in absurd (omega (arith, out, low, count)))
]

-- ---- readers

pub read_lists : (nodes : NodeNet) (homes : Homes) (readers : Readers) → AreReaders nodes homes readers → (i : ℕ) → i < length nodes.items → IsReaderList nodes homes i (get_or readers.lists i [])
read_lists nodes homes readers are i low =
    let count = are.items in
    are.each i (get_or readers.lists i []) (slice_get-get_or readers.lists i [] (omega (arith, low, count)))

-- ---- numbers in a row

-- a text that has a line for each of the first n numbers gets that of number n
pub text_more : {A : Type 0} (old now next : List A) (f : ℕ → List A) (n : ℕ) → now ≡ old ++ flat_map f (range_with_len 0 n) → next ≡ now ++ f n → next ≡ old ++ flat_map f (range_with_len 0 (n + 1))
text_more old now next f n is grown =
    grown ∙ (ap (λ xs. xs ++ f n) is ∙ (flat_map_more f old (range_with_len 0 n) n ∙ ap (λ xs. old ++ flat_map f xs) (sym (range_next n))))

-- ---- readers are few

pub readers_few : (nodes : NodeNet) (homes : Homes) (i : ℕ) (ports : List ℕ) → IsWellFormed nodes → AreHomes nodes homes → IsReaderList nodes homes i ports → length ports ≤ 256
readers_few nodes homes i ports formed are lists =
    let most = are.ports in
    let few : length ports ≤ ports_of homes = few_below ports (ports_of homes)
    (λ j k before inside same. let rise = AllPairs-from_increasing ports lists.rising j k 0 before inside in omega (arith, rise, same))
    (λ j inside. (reader_port nodes homes i (get_or ports j 0) formed are ((lists.exact (get_or ports j 0)).0 (j, inside, get_or_default ports j (get_or ports j 0) 0 inside))).1) in
    omega (arith, few, most)
