-- There is one switch.
use Rattle.std.proofs.Common.{◌≡◌, ◌∙◌, ◌⊎◌, inl, inr, ℕ, zero, suc, ◌<◌, List, [], ◌∷◌, length, map, get_or, Some, slice_get, refl, sym, ap, subst, arith}
use Rattle.std.proofs.lemmas.List.{ext_get_or, get_or-map, length-map, Kept.AllPairs-from_increasing}
use Rattle.std.proofs.lemmas.Option.{slice_get_within, slice_get-get_or, get_or_from_slice_get}
use Rattle.std.specs.List.{AllPairs, Contains, Sorted.IsStrictlyIncreasing}
use Rattle.node_defs.specs.declared.items.NodeNet.{NodeNet}
use Rattle.plan_defs.specs.Switches.{IsSent, IsSendingOf, IsReceiptOf, AreSends, AreReceipts, IsSwitch}
use Rattle.plan_defs.specs.declared.{plan.Homes.Homes, switch.Sending.Sending, switch.Receipt.Receipt, switch.PortLinks.PortLinks, switch.Switch.Switch}
use Rattle.plan_defs.specs.{Lists.Lists, Readers.IsReader}

-- ---- lists in order

-- what a list has is its first or stands after it
first_or : {T : Type 0} (x : T) (xs : List T) (z : T) → Contains (x ∷ xs) z → (x ≡ z) ⊎ Contains xs z
first_or x xs z (zero, low, is) = inl is
first_or x xs z (suc k, low, is) = inr (k, omega (arith, low), is)

later : {T : Type 0} (x : T) (xs : List T) (z : T) → Contains xs z → Contains (x ∷ xs) z
later x xs z (k, low, is) = (suc k, omega (arith, low), is)

module _ {T : Type 0} (slot : T → ℕ) where
  -- what stands after the first is above it
  above : (x : T) (xs : List T) (z : T) → AllPairs (λ a b. slot a < slot b) (x ∷ xs) → Contains xs z → slot x < slot z
  above x xs z rising (k, low, is) = subst (λ y. slot x < slot y) is (rising 0 (suc k) z (omega arith) (omega (arith, low)))

  rest : (x : T) (xs : List T) → AllPairs (λ a b. slot a < slot b) (x ∷ xs) → AllPairs (λ a b. slot a < slot b) xs
  rest x xs rising i j d before low = rising (suc i) (suc j) d (omega (arith, before)) (omega (arith, low))

  first_same : (x y : T) (xs ys : List T) → AllPairs (λ a b. slot a < slot b) (x ∷ xs) → AllPairs (λ a b. slot a < slot b) (y ∷ ys)
      → Contains (y ∷ ys) x → Contains (x ∷ xs) y → x ≡ y
  first_same x y xs ys one other there back = elim (first_or y ys x there) [
    | inl same ↦ sym same
    | inr past ↦ elim (first_or x xs y back) [
      | inl same ↦ same
      | inr behind ↦ (let low = above y ys x other past in let high = above x xs y one behind in absurd (omega (arith, low, high)))
    ]
  ]

  -- what stands after the first of both stands after the second's first
  rest_there : (x y z : T) (xs ys : List T) → x ≡ y → AllPairs (λ a b. slot a < slot b) (x ∷ xs) → Contains xs z → Contains (y ∷ ys) z → Contains ys z
  rest_there x y z xs ys first rising behind there = elim (first_or y ys z there) [
    | inr past ↦ past
    | inl same ↦ (let high = above x xs z rising behind in let equal : slot x ≡ slot z = ap slot (first ∙ same) in absurd (omega (arith, high, equal)))
  ]

  -- lists in order that have the same members are the same
  same_members : (xs ys : List T) → AllPairs (λ a b. slot a < slot b) xs → AllPairs (λ a b. slot a < slot b) ys
      → ((z : T) → Contains xs z → Contains ys z) → ((z : T) → Contains ys z → Contains xs z) → xs ≡ ys
  same_members [] [] one other there back = refl
  same_members [] (y ∷ ys) one other there back = let low = (back y (0, omega arith, refl)).1 in absurd (omega (arith, low))
  same_members (x ∷ xs) [] one other there back = let low = (there x (0, omega arith, refl)).1 in absurd (omega (arith, low))
  same_members (x ∷ xs) (y ∷ ys) one other there back =
      let first : x ≡ y = first_same x y xs ys one other (there x (0, omega arith, refl)) (back y (0, omega arith, refl)) in
      ap (λ z. z ∷ xs) first ∙ ap (λ zs. y ∷ zs) (same_members xs ys (rest x xs one) (rest y ys other)
      (λ z h. rest_there x y z xs ys first one h (there z (later x xs z h)))
      (λ z h. rest_there y x z ys xs (sym first) other h (back z (later y ys z h))))

  pub in_order : (xs : List T) → IsStrictlyIncreasing (map slot xs) → AllPairs (λ a b. slot a < slot b) xs
  in_order xs rising i j d before low =
      let i_low : i < length xs = omega (arith, before, low) in
      let pair : get_or (map slot xs) i (slot d) < get_or (map slot xs) j (slot d) = AllPairs-from_increasing (map slot xs) rising i j (slot d) before (omega (arith, low, length-map xs slot)) in
      rw (← get_or-map slot xs i d (slot d) i_low, ← get_or-map slot xs j d (slot d) low) pair

  module _ (IsOf : ℕ → T → Type 0) (one_of : (i : ℕ) (x y : T) → IsOf i x → IsOf i y → x ≡ y) (IsIn : ℕ → Type 0) where
    -- what one list has for an item the other has for it too
    found_in : (xs ys : List T) → ((k : ℕ) (x : T) → slice_get xs k ≡ Some x → (i : ℕ) × IsIn i × IsOf i x)
        → ((i : ℕ) → IsIn i → (k : ℕ) × (x : T) × (slice_get ys k ≡ Some x) × IsOf i x) → (z : T) → Contains xs z → Contains ys z
    found_in xs ys each whole z (k, low, is) =
        let item = each k z (slice_get-get_or xs k z low ∙ ap Some is) in
        let found = whole item.0 item.1 in
        let same : found.1 ≡ z = one_of item.0 found.1 z found.3 item.2 in
        subst (Contains ys) same (found.0, slice_get_within ys found.0 found.1 found.2, get_or_from_slice_get ys found.0 found.1 found.1 found.2)

    -- one list in slot order has one for each item
    pub same_slots : (xs ys : List T) → IsStrictlyIncreasing (map slot xs) → IsStrictlyIncreasing (map slot ys)
        → ((k : ℕ) (x : T) → slice_get xs k ≡ Some x → (i : ℕ) × IsIn i × IsOf i x) → ((i : ℕ) → IsIn i → (k : ℕ) × (x : T) × (slice_get xs k ≡ Some x) × IsOf i x)
        → ((k : ℕ) (x : T) → slice_get ys k ≡ Some x → (i : ℕ) × IsIn i × IsOf i x) → ((i : ℕ) → IsIn i → (k : ℕ) × (x : T) × (slice_get ys k ≡ Some x) × IsOf i x)
        → xs ≡ ys
    same_slots xs ys one other each whole each_other whole_other =
        same_members xs ys (in_order xs one) (in_order ys other) (found_in xs ys each whole_other) (found_in ys xs each_other whole)

-- ---- numbers with a property

pub one_lists : (P : ℕ → Type 0) (xs ys : List ℕ) → Lists P xs → Lists P ys → xs ≡ ys
one_lists P xs ys one other = same_members (λ n. n) xs ys (AllPairs-from_increasing xs one.rising) (AllPairs-from_increasing ys other.rising)
    (λ n h. (other.exact n).1 ((one.exact n).0 h)) (λ n h. (one.exact n).1 ((other.exact n).0 h))

-- ---- sends and receipts

abbrev sends_to : ℕ → List ℕ → Sending
sends_to slot readers = record { slot = slot; readers = readers }

abbrev receives_from : ℕ → ℕ → Receipt
receives_from slot sender = record { slot = slot; sender = sender }

abbrev links_of : List Sending → List Receipt → PortLinks
links_of sends receipts = record { sends = sends; receipts = receipts }

module _ (nodes : NodeNet) (homes : Homes) (slots : List ℕ) where
  one_sending : (i : ℕ) (x y : Sending) → IsSendingOf nodes homes slots i x → IsSendingOf nodes homes slots i y → x ≡ y
  one_sending i x y one other =
      let slot : x.slot ≡ y.slot = one.slot ∙ sym other.slot in
      let readers : x.readers ≡ y.readers = one_lists _ x.readers y.readers one.readers other.readers in
      ap (λ s. sends_to s x.readers) slot ∙ ap (λ r. sends_to y.slot r) readers

  one_receipt : (i : ℕ) (x y : Receipt) → IsReceiptOf homes slots i x → IsReceiptOf homes slots i y → x ≡ y
  one_receipt i x y one other =
      let slot : x.slot ≡ y.slot = one.slot ∙ sym other.slot in
      let sender : x.sender ≡ y.sender = one.sender ∙ sym other.sender in
      ap (λ s. receives_from s x.sender) slot ∙ ap (λ p. receives_from y.slot p) sender

  sends_same : (port : ℕ) (xs ys : List Sending) → AreSends nodes homes slots port xs → AreSends nodes homes slots port ys → xs ≡ ys
  sends_same port xs ys one other =
      same_slots (λ (sending : Sending). sending.slot) (IsSendingOf nodes homes slots) one_sending (IsSent nodes homes port) xs ys one.rising other.rising one.each one.whole other.each other.whole

  receipts_same : (port : ℕ) (xs ys : List Receipt) → AreReceipts nodes homes slots port xs → AreReceipts nodes homes slots port ys → xs ≡ ys
  receipts_same port xs ys one other =
      same_slots (λ (receipt : Receipt). receipt.slot) (IsReceiptOf homes slots) one_receipt (λ i. (i < length nodes.items) × IsReader nodes homes i port) xs ys one.rising other.rising
      (λ k x is. let found = one.each k x is in (found.0, (found.1, found.2), found.3)) (λ i h. one.whole i h.0 h.1)
      (λ k x is. let found = other.each k x is in (found.0, (found.1, found.2), found.3)) (λ i h. other.whole i h.0 h.1)

  pub switches_agree : (one other : Switch) → IsSwitch nodes homes slots one → IsSwitch nodes homes slots other → one ≡ other
  switches_agree one other first second =
      ap (λ ports. of_ports ports) (ext_get_or (links_of [] []) one.ports other.ports count (λ port low. same port low)) where
        of_ports : List PortLinks → Switch
        of_ports ports = record { ports = ports }

        count : length one.ports ≡ length other.ports
        count = first.ports ∙ sym second.ports

        same : (port : ℕ) → port < length one.ports → get_or one.ports port (links_of [] []) ≡ get_or other.ports port (links_of [] [])
        same port low =
            let here : slice_get one.ports port ≡ Some (get_or one.ports port (links_of [] [])) = slice_get-get_or one.ports port (links_of [] []) low in
            let there : slice_get other.ports port ≡ Some (get_or other.ports port (links_of [] [])) = slice_get-get_or other.ports port (links_of [] []) (omega (arith, low, count)) in
            let sends : (get_or one.ports port (links_of [] [])).sends ≡ (get_or other.ports port (links_of [] [])).sends = sends_same port _ _ (first.sends port _ here) (second.sends port _ there) in
            let receipts : (get_or one.ports port (links_of [] [])).receipts ≡ (get_or other.ports port (links_of [] [])).receipts = receipts_same port _ _ (first.receipts port _ here) (second.receipts port _ there) in
            ap (λ s. links_of s (get_or one.ports port (links_of [] [])).receipts) sends ∙ ap (λ r. links_of (get_or other.ports port (links_of [] [])).sends r) receipts
