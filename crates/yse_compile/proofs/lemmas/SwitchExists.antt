-- There is a switch for items at their homes in the slots of their first-fit plan.
use Rattle.std.proofs.Common.{◌≡◌, ◌∙◌, inl, inr, ℕ, zero, suc, ◌+◌, ◌<◌, List, [], ◌∷◌, ◌++◌, length, map, get_or, refl, sym, ap, subst, arith}
use Rattle.std.proofs.{Math.Numerals.add-one, lemmas.Bool.cases_eq, lemmas.List.get_or-map, lemmas.List.length-map}
use Rattle.std.proofs.lemmas.{List.FromFn.length-range_with_len, List.FromFn.get_or-range_with_len, Option.slice_get_within, Option.get_or_from_slice_get}
use Rattle.std.specs.{Prelude.Some, Prelude.slice_get, List.range_with_len}
use Rattle.node_defs.specs.{declared.items.NodeNet.NodeNet, WellFormed.IsWellFormed}
use Rattle.plan_defs.specs.Switches.{IsSendingOf, IsSent, IsReceiptOf, AreSends, AreReceipts, IsSwitch}
use Rattle.plan_defs.specs.declared.{plan.Homes.Homes, plan.Plan.Plan, switch.Sending.Sending, switch.Receipt.Receipt, switch.PortLinks.PortLinks}
use Rattle.plan_defs.specs.{declared.switch.Switch.Switch, Homes.AreHomes, Homes.home_of, Homes.ports_of, Readers.IsReader, Readers.IsReaderList}
use Rattle.plan_defs.specs.Slots.{slot_of, IsFirstFitPlan}
use Rattle.plan_defs.proofs.{ListLemmas.listed_all, lemmas.PlanLemmas.one_at_home, lemmas.PlanLemmas.one_received, lemmas.PortLemmas.reader_port}
use Rattle.switch_set.specs.Links.{IsSlotList}
use Rattle.switch_set.proofs.lemmas.ListLemmas.{listed_none, listed_same, listed_more}
use Rattle.list_laws.proofs.Decidable.{IsDecidable, decided, decide_same, decide_below}
use Rattle.yse_compile.proofs.{KnownLemmas.listed_to, lemmas.KnownUses.reader_known, lemmas.PlanExists.slots_end}

-- items of which no two have one slot have a list in slot order
module _ {T : Type 0} (slot : T → ℕ) (IsOf : ℕ → T → Type 0) (IsIn : ℕ → Type 0) (slots : List ℕ) (count : ℕ)
    (known : (i : ℕ) → IsDecidable (IsIn i)) (low : (i : ℕ) → IsIn i → i < count)
    (some : (i : ℕ) → IsIn i → (x : T) × IsOf i x) (placed : (i : ℕ) (x : T) → IsOf i x → slot x ≡ slot_of slots i)
    (one : (i j : ℕ) → IsIn i → IsIn j → slot_of slots i ≡ slot_of slots j → i ≡ j) where
  -- those of a slot below the end
  abbrev IsBelow : ℕ → ℕ → Type 0
  IsBelow end i = IsIn i × (slot_of slots i < end)

  -- one of this slot, or none
  abbrev IsThere : ℕ → Type 0
  IsThere s = IsDecidable ((i : ℕ) × (i < count) × (IsIn i × (slot_of slots i ≡ s)))

  there : (s : ℕ) → IsThere s
  there s = decide_below (λ i. IsIn i × (slot_of slots i ≡ s)) (λ i. search (decided, known)) count

  below_next : (s : ℕ) (list : List T) → IsSlotList slot IsOf (IsBelow s) list → IsThere s → (longer : List T) × IsSlotList slot IsOf (IsBelow (s + 1)) longer
  below_next s list listed (inr none) = (
    list,
    listed_same slot IsOf (IsBelow s) (IsBelow (s + 1)) list listed (λ i h. (h.0, omega (arith, h.1))) (λ i h. (h.0, under i h)),
  ) where
    under : (i : ℕ) → IsBelow (s + 1) i → slot_of slots i < s
    under i h = elim (cases_eq (slot_of slots i) s) [
      | inl same ↦ absurd (none (i, low i h.0, (h.0, same)))
      | inr apart ↦ (let up = h.1 in omega (arith, up, apart))
    ]
  below_next s list listed (inl found) =
      let x : (x : T) × IsOf found.0 x = some found.0 found.2.0 in
      let at : slot_of slots found.0 ≡ s = found.2.1 in (
        list ++ x.0 ∷ [],
        listed_more slot IsOf (IsBelow s) (IsBelow (s + 1)) list found.0 x.0 listed
            (λ j y h of. omega (arith, placed j y of, h.1, placed found.0 x.0 x.1, at))
            (λ j h. (h.0, omega (arith, h.1)))
            (λ j h. elim (cases_eq (slot_of slots j) s) [
              | inl same ↦ inr (one j found.0 h.0 found.2.0 (same ∙ sym at))
              | inr apart ↦ (let up = h.1 in inl (h.0, omega (arith, up, apart)))
            ])
            (found.2.0, omega (arith, at))
            x.1,
      )

  listed_below : (end : ℕ) → (list : List T) × IsSlotList slot IsOf (IsBelow end) list
  listed_below zero = ([], listed_none slot IsOf (IsBelow 0) (λ i h. (let up = h.1 in absurd (omega (arith, up)))))
  listed_below (suc end) = (let before = listed_below end in rw (← add-one end) (below_next end before.0 before.1 (there end)))

  pub listed_by_slot : (list : List T) × IsSlotList slot IsOf IsIn list
  listed_by_slot =
      let end : (end : ℕ) × ((k : ℕ) → k < count → slot_of slots k < end) = slots_end slots count in
      let listed = listed_below end.0 in
      (listed.0, listed_same slot IsOf (IsBelow end.0) IsIn listed.0 listed.1 (λ i h. h.0) (λ i h. (h, end.1 i (low i h))))

-- the ports that read an item, in a list
pub readers_there : (nodes : NodeNet) (homes : Homes) → IsWellFormed nodes → AreHomes nodes homes → (i : ℕ) → (ports : List ℕ) × IsReaderList nodes homes i ports
readers_there nodes homes formed are i =
    let listed = listed_to (IsReader nodes homes i) (reader_known nodes homes i) (ports_of homes) in
    (listed.0, listed_all (IsReader nodes homes i) (ports_of homes) listed.0 listed.1 (λ port reads. (reader_port nodes homes i port formed are reads).1))

module _ (nodes : NodeNet) (homes : Homes) (plan : Plan) (formed : IsWellFormed nodes) (are : AreHomes nodes homes) (fit : IsFirstFitPlan nodes homes plan) where
  -- ---- sends

  sent_known : (port i : ℕ) → IsDecidable (IsSent nodes homes port i)
  sent_known port i =
      decide_same ((i < length nodes.items) × ((home_of homes i ≡ port) × ((r : ℕ) × (r < ports_of homes) × IsReader nodes homes i r))) (IsSent nodes homes port i)
      (λ is. record { within = is.0; home = is.1.0; reader = is.1.1.0; reads = is.1.1.2 })
      (λ sent. (sent.within, (sent.home, (sent.reader, (reader_port nodes homes i sent.reader formed are sent.reads).1, sent.reads))))
      (search (decided, decide_below (IsReader nodes homes i) (reader_known nodes homes i) (ports_of homes)))

  sends_listed : (port : ℕ) → (sends : List Sending) × IsSlotList (λ (sending : Sending). sending.slot) (IsSendingOf nodes homes plan.slots) (IsSent nodes homes port) sends
  sends_listed port =
      listed_by_slot (λ (sending : Sending). sending.slot) (IsSendingOf nodes homes plan.slots) (IsSent nodes homes port) plan.slots (length nodes.items)
      (sent_known port) (λ i sent. sent.within)
      (λ i sent. (record { slot = slot_of plan.slots i; readers = (readers_there nodes homes formed are i).0 }, record { slot = refl; readers = (readers_there nodes homes formed are i).1 }))
      (λ i sending of. of.slot)
      (λ i j sent other same. one_at_home nodes homes plan.slots (length nodes.items) fit.slots i j sent.within other.within (sent.home ∙ sym other.home) same)

  sends_there : (port : ℕ) → (sends : List Sending) × AreSends nodes homes plan.slots port sends
  sends_there port = (let listed = sends_listed port in (listed.0, record { rising = listed.1.rising; each = listed.1.each; whole = listed.1.whole }))

  -- ---- receipts

  abbrev IsReceived : ℕ → ℕ → Type 0
  IsReceived port i = (i < length nodes.items) × IsReader nodes homes i port

  receipts_listed : (port : ℕ) → (receipts : List Receipt) × IsSlotList (λ (receipt : Receipt). receipt.slot) (IsReceiptOf homes plan.slots) (IsReceived port) receipts
  receipts_listed port =
      listed_by_slot (λ (receipt : Receipt). receipt.slot) (IsReceiptOf homes plan.slots) (IsReceived port) plan.slots (length nodes.items)
      (λ i. search (decided, reader_known)) (λ i is. is.0)
      (λ i is. (record { slot = slot_of plan.slots i; sender = home_of homes i }, record { slot = refl; sender = refl }))
      (λ i receipt of. of.slot)
      (λ i j is other same. one_received nodes homes plan.slots (length nodes.items) fit.slots i j port is.0 other.0 is.1 other.1 same)

  receipts_there : (port : ℕ) → (receipts : List Receipt) × AreReceipts nodes homes plan.slots port receipts
  receipts_there port =
      let listed = receipts_listed port in (
        listed.0,
        record {
          rising = listed.1.rising;
          each = λ k receipt at. (let found = listed.1.each k receipt at in (found.0, found.1.0, found.1.1, found.2));
          whole = λ i low reads. listed.1.whole i (low, reads);
        },
      )

  -- ---- all ports

  links_of : ℕ → PortLinks
  links_of port = record { sends = (sends_there port).0; receipts = (receipts_there port).0 }

  abbrev all_links : List PortLinks
  all_links = map links_of (range_with_len 0 (ports_of homes))

  links_are : (port : ℕ) (links : PortLinks) → slice_get all_links port ≡ Some links → links_of port ≡ links
  links_are port links at =
      let low = slice_get_within all_links port links at in
      let inside : port < length (range_with_len 0 (ports_of homes)) = omega (arith, low, length-map (range_with_len 0 (ports_of homes)) links_of) in
      let within : port < ports_of homes = omega (arith, inside, length-range_with_len 0 (ports_of homes)) in
      let place : get_or (range_with_len 0 (ports_of homes)) port 0 ≡ port = omega (arith, get_or-range_with_len 0 (ports_of homes) port 0 within) in
      ap links_of (sym place) ∙ (sym (get_or-map links_of (range_with_len 0 (ports_of homes)) port 0 links inside) ∙ get_or_from_slice_get all_links port links links at)

  pub switch_there : (switch : Switch) × IsSwitch nodes homes plan.slots switch
  unfolding links_of
  switch_there = (
    record { ports = all_links },
    record {
      ports = length-map (range_with_len 0 (ports_of homes)) links_of ∙ length-range_with_len 0 (ports_of homes);
      sends = λ port links at. subst (λ (l : PortLinks). AreSends nodes homes plan.slots port l.sends) (links_are port links at) (sends_there port).1;
      receipts = λ port links at. subst (λ (l : PortLinks). AreReceipts nodes homes plan.slots port l.receipts) (links_are port links at) (receipts_there port).1;
    },
  )
