-- One more item is linked, and the settings once all are.
use Rattle.std.proofs.Common.{◌≡◌, ◌≢◌, ◌∙◌, ◌⊎◌, inl, inr, ℕ, ◌+◌, ◌<◌, ◌≤◌, List, [], ◌∷◌, ◌++◌, length, get_or, take, Some, slice_get, refl, sym, ap, subst, arith}
use Rattle.std.proofs.lemmas.List.{get_or-map, length-map, nil_from_length, take_more, take_all}
use Rattle.std.proofs.lemmas.List.Elements.{Contains-append_left, Contains-get_or, Contains-push, Contains-push_cases}
use Rattle.std.proofs.lemmas.{Bool.cases_eq, Bool.cases_lt, Option.slice_get_within, Option.get_or_from_slice_get}
use Rattle.std.specs.List.{Contains}
use Rattle.list_laws.proofs.{Members.each, Places.place_below}
use Rattle.node_defs.specs.{declared.items.NodeNet.NodeNet, WellFormed.IsWellFormed}
use Rattle.plan_defs.specs.Switches.{IsSendingOf, IsSent, IsReceiptOf, IsSwitch}
use Rattle.plan_defs.specs.declared.{plan.Homes.Homes, plan.Plan.Plan, switch.Sending.Sending, switch.Receipt.Receipt, switch.PortLinks.PortLinks}
use Rattle.plan_defs.specs.{Homes.AreHomes, Homes.home_of, Homes.ports_of, Readers.IsReader, Readers.IsReaderList, Slots.slot_of, Slots.IsFirstFitPlan}
use Rattle.plan_defs.proofs.lemmas.{PlanLemmas.one_at_home, PlanLemmas.one_received, PortLemmas.home_port, PortLemmas.reader_port}
use Rattle.switch_set.specs.code.Links.{links_at, Links, AreSendsOf, AreReceiptsOf, AreLinked}
use Rattle.switch_set.specs.{declared.order.Placed.Placed, Order.items_of, Order.IsPlaced, Order.IsSlotOrder}
use Rattle.switch_set.proofs.lemmas.ListLemmas.{among, listed_same, listed_more}

module _ (nodes : NodeNet) (homes : Homes) (plan : Plan) (formed : IsWellFormed nodes) (are : AreHomes nodes homes) (fit : IsFirstFitPlan nodes homes plan)
    (order : List Placed) (is : IsSlotOrder plan.slots order) (k : ℕ) (placed : Placed) (at : slice_get order k ≡ Some placed) where
  pub order_low : k < length order
  order_low = slice_get_within order k placed at

  pub items_low : k < length (items_of order)
  items_low = omega (arith, order_low, length-map order (λ (p : Placed). p.item))

  item_here : get_or (items_of order) k 0 ≡ placed.item
  item_here = get_or-map (λ (p : Placed). p.item) order k placed 0 order_low ∙ ap (λ (p : Placed). p.item) (get_or_from_slice_get order k placed placed at)

  pub here_is : IsPlaced plan.slots placed
  here_is = each (IsPlaced plan.slots) order k placed is.placed at

  pub item_low : placed.item < length nodes.items
  item_low = let low = here_is.0 in let count = fit.slots.items in omega (arith, low, count)

  -- ---- the items before

  -- an item before is another, of no higher slot
  before_is : (j m : ℕ) (old : Placed) → m < k → get_or (items_of order) m 0 ≡ j → get_or order m placed ≡ old → (j ≢ placed.item) × (slot_of plan.slots j ≤ placed.slot) × (j < length nodes.items)
  before_is j m old before item old_is = (differs, no_higher, low) where
    inside : m < length order
    inside = omega (arith, before, order_low)

    differs : j ≢ placed.item
    differs same = is.once m k 0 before items_low (item ∙ same ∙ sym item_here)

    old_item : old.item ≡ j
    old_item = ap (λ (p : Placed). p.item) (sym old_is) ∙ sym (get_or-map (λ (p : Placed). p.item) order m placed 0 inside) ∙ item

    old_placed : IsPlaced plan.slots old
    old_placed = subst (IsPlaced plan.slots) old_is (is.placed m placed inside)

    no_higher : slot_of plan.slots j ≤ placed.slot
    no_higher =
        let rise : (get_or order m placed).slot ≤ (get_or order k placed).slot = is.rising m k placed (omega (arith, before)) order_low in
        let from : (get_or order m placed).slot ≡ old.slot = ap (λ (p : Placed). p.slot) old_is in
        let to : (get_or order k placed).slot ≡ placed.slot = ap (λ (p : Placed). p.slot) (get_or_from_slice_get order k placed placed at) in
        let slot : old.slot ≡ slot_of plan.slots j = old_placed.1 ∙ ap (slot_of plan.slots) old_item in
        omega (arith, rise, from, to, slot)

    low : j < length nodes.items
    low = let under : old.item < length plan.slots = old_placed.0 in let count = fit.slots.items in omega (arith, under, count, old_item)

  pub earlier : (j : ℕ) → Contains (take k (items_of order)) j → (j ≢ placed.item) × (slot_of plan.slots j ≤ placed.slot) × (j < length nodes.items)
  earlier j h =
      let found = place_below (items_of order) k j (omega (arith, items_low)) h in
      before_is j found.0 (get_or order found.0 placed) found.1 found.2 refl

  -- where it has not the same slot, a lower one
  pub lower : (j slot : ℕ) → Contains (take k (items_of order)) j → slot ≡ slot_of plan.slots j → (slot_of plan.slots j ≡ slot_of plan.slots placed.item → j ≡ placed.item) → slot < placed.slot
  lower j slot h slot_is one = elim (cases_lt slot placed.slot) [
    | inl below ↦ below
    | inr from ↦ (let rise = (earlier j h).1 in absurd ((earlier j h).0 (one (omega (arith, rise, from, slot_is, here_is.1)))))
  ]

  pub kept : (j : ℕ) → Contains (take k (items_of order)) j → Contains (take (k + 1) (items_of order)) j
  kept j h = subst (λ xs. Contains xs j) (sym (take_more (items_of order) k 0 items_low)) (Contains-append_left (take k (items_of order)) (get_or (items_of order) k 0 ∷ []) j h)

  pub added : Contains (take (k + 1) (items_of order)) placed.item
  added =
      subst (λ xs. Contains xs placed.item) (sym (take_more (items_of order) k 0 items_low))
      (subst (λ i. Contains (take k (items_of order) ++ i ∷ []) placed.item) (sym item_here) (Contains-push (take k (items_of order)) placed.item))

  pub old_or : (j : ℕ) → Contains (take (k + 1) (items_of order)) j → Contains (take k (items_of order)) j ⊎ (j ≡ placed.item)
  old_or j h = elim (Contains-push_cases (take k (items_of order)) (get_or (items_of order) k 0) j (subst (λ xs. Contains xs j) (take_more (items_of order) k 0 items_low) h)) [
    | inl old ↦ inl old
    | inr same ↦ inr (sym same ∙ item_here)
  ]

  -- ---- the ports of the item

  pub home_low : (ports : List PortLinks) → length ports ≡ ports_of homes → home_of homes placed.item < length ports
  home_low ports count = rw count (home_port nodes homes placed.item formed are item_low)

  pub readers_low : (ports : List PortLinks) (readers : List ℕ) → length ports ≡ ports_of homes → IsReaderList nodes homes placed.item readers → (port : ℕ) → Contains readers port → port < length ports
  readers_low ports readers count lists port h = rw count ((reader_port nodes homes placed.item port formed are ((lists.exact port).0 h)).1)

  module _ (readers : List ℕ) (lists : IsReaderList nodes homes placed.item readers) (old new : List PortLinks)
      (before : AreLinked nodes homes plan.slots (take k (items_of order)) old) (links : Links old new placed.slot (home_of homes placed.item) readers) where
    -- ---- sends

    sent_here : 0 < length readers → AreSendsOf nodes homes plan.slots (take (k + 1) (items_of order)) (home_of homes placed.item) (links_at new (home_of homes placed.item)).sends
    sent_here some =
        subst (AreSendsOf nodes homes plan.slots (take (k + 1) (items_of order)) (home_of homes placed.item)) (sym (links.sender some))
        (listed_more (λ (sending : Sending). sending.slot) (IsSendingOf nodes homes plan.slots)
        (λ j. IsSent nodes homes (home_of homes placed.item) j × Contains (take k (items_of order)) j) (λ j. IsSent nodes homes (home_of homes placed.item) j × Contains (take (k + 1) (items_of order)) j)
        (links_at old (home_of homes placed.item)).sends placed.item (record { slot = placed.slot; readers = readers }) (before.sends (home_of homes placed.item))
        (λ j sending h of. lower j sending.slot h.1 of.slot (one_at_home nodes homes plan.slots (length nodes.items) fit.slots j placed.item h.0.within item_low h.0.home))
        (λ j h. (h.0, kept j h.1))
        (λ j h. elim (old_or j h.1) [ inl past ↦ inl (h.0, past) | inr same ↦ inr same ])
        (record { within = item_low; home = refl; reader = get_or readers 0 0; reads = (lists.exact (get_or readers 0 0)).0 (Contains-get_or readers 0 0 some) }, added)
        (record { slot = here_is.1; readers = lists }))

    sent_other : (port : ℕ) → (port ≡ home_of homes placed.item → readers ≡ []) → AreSendsOf nodes homes plan.slots (take (k + 1) (items_of order)) port (links_at new port).sends
    sent_other port quiet =
        subst (AreSendsOf nodes homes plan.slots (take (k + 1) (items_of order)) port) (sym (links.silent port quiet))
        (listed_same (λ (sending : Sending). sending.slot) (IsSendingOf nodes homes plan.slots)
        (λ j. IsSent nodes homes port j × Contains (take k (items_of order)) j) (λ j. IsSent nodes homes port j × Contains (take (k + 1) (items_of order)) j)
        (links_at old port).sends (before.sends port) (λ j h. (h.0, kept j h.1))
        (λ j h. elim (old_or j h.1) [ inl past ↦ (h.0, past) | inr same ↦ absurd (unread j h.0 same) ])) where
          unread : (j : ℕ) → IsSent nodes homes port j → j ≡ placed.item → ⊥
          unread j sent same =
              let one : IsSent nodes homes port placed.item = subst (IsSent nodes homes port) same sent in
              let heard : Contains readers one.reader = (lists.exact one.reader).1 one.reads in
              let low = heard.1 in
              let none = ap length (quiet (sym one.home)) in
              omega (arith, low, none)

    sends_more : (port : ℕ) → AreSendsOf nodes homes plan.slots (take (k + 1) (items_of order)) port (links_at new port).sends
    sends_more port = elim (cases_eq port (home_of homes placed.item)) [
      | inr other ↦ sent_other port (λ same. absurd (other same))
      | inl same ↦ elim (cases_lt 0 (length readers)) [
        | inl some ↦ subst (λ p. AreSendsOf nodes homes plan.slots (take (k + 1) (items_of order)) p (links_at new p).sends) (sym same) (sent_here some)
        | inr none ↦ sent_other port (λ at_home. nil_from_length readers (omega (arith, none)))
      ]
    ]

    -- ---- receipts

    received_here : (port : ℕ) → Contains readers port → AreReceiptsOf nodes homes plan.slots (take (k + 1) (items_of order)) port (links_at new port).receipts
    received_here port among_them =
        subst (AreReceiptsOf nodes homes plan.slots (take (k + 1) (items_of order)) port) (sym (links.receivers port among_them))
        (listed_more (λ (receipt : Receipt). receipt.slot) (IsReceiptOf homes plan.slots)
        (λ j. IsReader nodes homes j port × Contains (take k (items_of order)) j) (λ j. IsReader nodes homes j port × Contains (take (k + 1) (items_of order)) j)
        (links_at old port).receipts placed.item (record { slot = placed.slot; sender = home_of homes placed.item }) (before.receipts port)
        (λ j receipt h of. lower j receipt.slot h.1 of.slot (one_received nodes homes plan.slots (length nodes.items) fit.slots j placed.item port (earlier j h.1).2 item_low h.0 ((lists.exact port).0 among_them)))
        (λ j h. (h.0, kept j h.1))
        (λ j h. elim (old_or j h.1) [ inl past ↦ inl (h.0, past) | inr same ↦ inr same ])
        ((lists.exact port).0 among_them, added)
        (record { slot = here_is.1; sender = refl }))

    received_other : (port : ℕ) → (Contains readers port → ⊥) → AreReceiptsOf nodes homes plan.slots (take (k + 1) (items_of order)) port (links_at new port).receipts
    received_other port none =
        subst (AreReceiptsOf nodes homes plan.slots (take (k + 1) (items_of order)) port) (sym (links.others port none))
        (listed_same (λ (receipt : Receipt). receipt.slot) (IsReceiptOf homes plan.slots)
        (λ j. IsReader nodes homes j port × Contains (take k (items_of order)) j) (λ j. IsReader nodes homes j port × Contains (take (k + 1) (items_of order)) j)
        (links_at old port).receipts (before.receipts port) (λ j h. (h.0, kept j h.1))
        (λ j h. elim (old_or j h.1) [ inl past ↦ (h.0, past) | inr same ↦ absurd (none ((lists.exact port).1 (subst (λ i. IsReader nodes homes i port) same h.0))) ]))

    receipts_more : (port : ℕ) → AreReceiptsOf nodes homes plan.slots (take (k + 1) (items_of order)) port (links_at new port).receipts
    receipts_more port = elim (among readers port) [ inl h ↦ received_here port h | inr none ↦ received_other port none ]

    -- one more item is linked
    pub linked_more : AreLinked nodes homes plan.slots (take (k + 1) (items_of order)) new
    linked_more = record {
      ports_are = links.ports ∙ before.ports_are;
      sends = sends_more;
      receipts = receipts_more;
    }

-- all items are linked
module _ (nodes : NodeNet) (homes : Homes) (plan : Plan) (formed : IsWellFormed nodes) (are : AreHomes nodes homes) (fit : IsFirstFitPlan nodes homes plan)
    (order : List Placed) (is : IsSlotOrder plan.slots order) (k : ℕ) (all : k ≡ length order) (ports : List PortLinks) (linked : AreLinked nodes homes plan.slots (take k (items_of order)) ports) where
  whole : (i : ℕ) → i < length nodes.items → Contains (take k (items_of order)) i
  whole i low =
      rw (take_all k (items_of order) (omega (arith, all, length-map order (λ (p : Placed). p.item))))
      (is.whole i (let count = fit.slots.items in omega (arith, low, count)))

  -- they are the switch
  pub switch_is : IsSwitch nodes homes plan.slots (record { ports = ports })
  switch_is = record {
    ports = linked.ports_are;
    sends = λ port links at. rw (← at_port port links at) (record {
      rising = (linked.sends port).rising;
      each = λ m sending here. (let found = (linked.sends port).each m sending here in (found.0, found.1.0, found.2));
      whole = λ i sent. (linked.sends port).whole i (sent, whole i sent.within);
    });
    receipts = λ port links at. rw (← at_port port links at) (record {
      rising = (linked.receipts port).rising;
      each = λ m receipt here. (let found = (linked.receipts port).each m receipt here in (found.0, (reader_port nodes homes found.0 port formed are found.1.0).0, found.1.0, found.2));
      whole = λ i low reads. (linked.receipts port).whole i (reads, whole i low);
    });
  } where
    at_port : (port : ℕ) (links : PortLinks) → slice_get ports port ≡ Some links → links_at ports port ≡ links
    at_port port links at = get_or_from_slice_get ports port links (record { sends = []; receipts = [] }) at
