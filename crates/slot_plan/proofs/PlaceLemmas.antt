-- One more item gets its slot.
use Rattle.std.proofs.Common.{◌≡◌, ◌∙◌, ◌↔◌, inl, inr, ℕ, ◌+◌, ◌<◌, ◌≤◌, max, List, [], ◌∷◌, ◌++◌, length, get_or, sym, ap, subst, arith, Some, slice_get}
use Rattle.std.proofs.lemmas.{Bool.cases_lt, List.get_or_append_left, List.length-append, List.Sums.fold-append}
use Rattle.std.proofs.Math.Seq.{get_or-append_seam}
use Rattle.std.specs.List.{Contains}
use Rattle.list_laws.proofs.Ranges.{last_or}
use Rattle.plan_defs.specs.Slots.{slot_of, needed_of, IsBlocked, AreFirstFit}
use Rattle.plan_defs.specs.{Bits.HasBit, Bits.Adds, declared.plan.Homes.Homes, Homes.AreHomes, Homes.home_of, Homes.ports_of, Lists.IsLeastFree}
use Rattle.plan_defs.specs.Readers.{IsReader, IsReaderList}
use Rattle.node_defs.specs.{declared.items.Item.Item, declared.items.NodeNet.NodeNet, Takes.Awaits, WellFormed.IsWellFormed}
use Rattle.plan_defs.proofs.lemmas.{PortLemmas.home_port, PortLemmas.reader_port, PlanLemmas.blocked_agree, PlanLemmas.least_same}
use Rattle.slot_plan.specs.{declared.board.Board.Board, declared.planning.Planning.Planning, code.Boards.IsBoard, code.Boards.IsShut, code.Boards.IsRowFor}
use Rattle.slot_plan.specs.code.{Early.IsFrom, Early.IsAnyLate, Plannings.IsRowOf, Plannings.IsOccupied, Plannings.IsPlannedTo}

-- ---- a slot more

old_slot : (slots : List ℕ) (slot i : ℕ) → i < length slots → slot_of (slots ++ slot ∷ []) i ≡ slot_of slots i
old_slot slots slot i low = get_or_append_left slots (slot ∷ []) 0 i low

new_slot : (slots : List ℕ) (slot n : ℕ) → length slots ≡ n → slot_of (slots ++ slot ∷ []) n ≡ slot
new_slot slots slot n count = ap (λ i. get_or (slots ++ slot ∷ []) i 0) (sym count) ∙ get_or-append_seam slots slot [] 0

needed_more : (slots : List ℕ) (slot : ℕ) → needed_of (slots ++ slot ∷ []) ≡ max (needed_of slots) (slot + 1)
needed_more slots slot = fold-append (λ needed s. max needed (s + 1)) 0 slots (slot ∷ [])

fit_more : (nodes : NodeNet) (homes : Homes) (slots : List ℕ) (n slot : ℕ) → IsWellFormed nodes → AreFirstFit nodes homes slots n → IsLeastFree (IsBlocked nodes homes slots n) slot → AreFirstFit nodes homes (slots ++ slot ∷ []) (n + 1)
fit_more nodes homes slots n slot formed fit least = record {
  items = let count = fit.items in omega (arith, length-append slots (slot ∷ []), count);
  least = λ i low. elim (last_or i n low) [
    | inl below ↦ subst (IsLeastFree (IsBlocked nodes homes (slots ++ slot ∷ []) i)) (sym (old i below)) (kept i (slot_of slots i) (λ j before. old j (omega (arith, before, below))) (fit.least i below))
    | inr same ↦ subst (λ k. IsLeastFree (IsBlocked nodes homes (slots ++ slot ∷ []) k) (slot_of (slots ++ slot ∷ []) k)) (sym same)
        (subst (IsLeastFree (IsBlocked nodes homes (slots ++ slot ∷ []) n)) (sym (new_slot slots slot n fit.items)) (kept n slot (λ j before. old j before) least))
  ];
} where
  old : (i : ℕ) → i < n → slot_of (slots ++ slot ∷ []) i ≡ slot_of slots i
  old i low = old_slot slots slot i (let count = fit.items in omega (arith, low, count))

  kept : (i s : ℕ) → ((j : ℕ) → j < i → slot_of (slots ++ slot ∷ []) j ≡ slot_of slots j) → IsLeastFree (IsBlocked nodes homes slots i) s → IsLeastFree (IsBlocked nodes homes (slots ++ slot ∷ []) i) s
  kept i s agree = least_same (IsBlocked nodes homes slots i) (IsBlocked nodes homes (slots ++ slot ∷ []) i) s
      (λ m. blocked_agree nodes homes slots (slots ++ slot ∷ []) i m formed (λ j low. sym (agree j low)))
      (λ m. blocked_agree nodes homes (slots ++ slot ∷ []) slots i m formed agree)

-- ---- what is needed

module _ (nodes : NodeNet) (homes : Homes) (n : ℕ) (planning : Planning) (formed : IsWellFormed nodes) (before : IsPlannedTo nodes homes n planning) where
  -- what rules a slot out is an item before, so the slot is below what is needed
  blocked_low : (s : ℕ) → IsBlocked nodes homes planning.slots n s → s < planning.needed
  blocked_low s (inl early) =
      let low = before.low early.operand (formed.awaited n early.operand early.item early.is early.awaits) in
      let late = early.late in
      omega (arith, low, late)
  blocked_low s (inr (inl held)) = let low = before.low held.holder held.before in let slot = held.slot in omega (arith, low, slot)
  blocked_low s (inr (inr heard)) = let low = before.low heard.sent heard.before in let slot = heard.slot in omega (arith, low, slot)

  pub least_low : (slot : ℕ) → IsLeastFree (IsBlocked nodes homes planning.slots n) slot → slot ≤ planning.needed
  least_low slot least = elim (cases_lt planning.needed slot) [
    | inl past ↦ (let low = blocked_low planning.needed (least.below planning.needed past) in absurd (omega (arith, low)))
    | inr within ↦ within
  ]

  pub from_low : (item : Item) (from : ℕ) → slice_get nodes.items n ≡ Some item → IsFrom (Awaits item) planning.slots from → from ≤ planning.needed
  from_low item from is early = elim (cases_lt planning.needed from) [
    | inl past ↦ absurd (contrary ((early planning.needed).0 past))
    | inr within ↦ within
  ] where
    contrary : IsAnyLate (Awaits item) planning.slots planning.needed → ⊥
    contrary (o, awaits, late) = let low = before.low o (formed.awaited n o item is awaits) in omega (arith, low, late)

-- ---- the board and what rules a slot out

module _ (nodes : NodeNet) (homes : Homes) (n : ℕ) (planning : Planning) (formed : IsWellFormed nodes) (are : AreHomes nodes homes) (before : IsPlannedTo nodes homes n planning) (within : n < length nodes.items)
    (item : Item) (is : slice_get nodes.items n ≡ Some item) (home : ℕ) (home_is : home ≡ home_of homes n) (readers : List ℕ) (lists : IsReaderList nodes homes n readers)
    (from : ℕ) (early : IsFrom (Awaits item) planning.slots from) where
  pub home_low : home < planning.board.ports
  home_low = let low = home_port nodes homes n formed are within in let ports = before.ports in omega (arith, low, ports, home_is)

  pub reader_low : (r : ℕ) → Contains readers r → r < planning.board.ports
  reader_low r among = let low = (reader_port nodes homes n r formed are ((lists.exact r).0 among)).1 in let ports = before.ports in omega (arith, low, ports)

  -- a row among the first ports is that of what is sent there
  sent_row : (i row : ℕ) → row < ports_of homes → IsRowOf nodes homes i row → row ≡ home_of homes i
  sent_row i row low (inl same) = same
  sent_row i row low (inr (r, reads, at)) = absurd (omega (arith, low, at))

  -- and one past them is that of what is received
  heard_row : (i r : ℕ) → i < length nodes.items → IsRowOf nodes homes i (planning.board.ports + r) → IsReader nodes homes i r
  heard_row i r low (inl same) = let port = home_port nodes homes i formed are low in let ports = before.ports in absurd (omega (arith, same, port, ports))
  heard_row i r low (inr (q, reads, at)) = let ports = before.ports in let one : q ≡ r = omega (arith, at, ports) in subst (IsReader nodes homes i) one reads

  shut_blocked : (s : ℕ) → IsShut planning.board home readers from s → IsBlocked nodes homes planning.slots n s
  shut_blocked s (inl low) = let late = (early s).0 low in inl (record { operand = late.0; item = item; is = is; awaits = late.1; late = late.2 })
  shut_blocked s (inr (inl has)) =
      let held = (before.taken home s).0 has in
      let port = home_port nodes homes n formed are within in
      let at : home ≡ home_of homes held.holder = sent_row held.holder home (omega (arith, port, home_is)) held.at in
      inr (inl (record { holder = held.holder; before = held.before; home = sym at ∙ home_is; slot = held.slot }))
  shut_blocked s (inr (inr (r, among, has))) =
      let heard = (before.taken (planning.board.ports + r) s).0 has in
      let low = heard.before in
      let reads : IsReader nodes homes heard.holder r = heard_row heard.holder r (omega (arith, low, within)) heard.at in
      inr (inr (record { sent = heard.holder; before = heard.before; slot = heard.slot; reader = r; reads_sent = reads; reads = (lists.exact r).0 among }))

  blocked_shut : (s : ℕ) → IsBlocked nodes homes planning.slots n s → IsShut planning.board home readers from s
  blocked_shut s (inl t) = inl ((early s).1 (t.operand, subst (λ i. Awaits i t.operand) (same t.item t.is) t.awaits, t.late)) where
    same : (other : Item) → slice_get nodes.items n ≡ Some other → other ≡ item
    same other here = cc
  blocked_shut s (inr (inl held)) = inr (inl ((before.taken home s).1 (record { holder = held.holder; before = held.before; slot = held.slot; at = inl (home_is ∙ sym held.home) })))
  blocked_shut s (inr (inr heard)) =
      inr (inr (
        heard.reader,
        (lists.exact heard.reader).1 heard.reads,
        (before.taken (planning.board.ports + heard.reader) s).1 (record { holder = heard.sent; before = heard.before; slot = heard.slot; at = inr (heard.reader, heard.reads_sent, ap (λ p. p + heard.reader) before.ports) }),
      ))

  -- what the board finds is the item's slot
  pub least_is : (slot : ℕ) → IsLeastFree (IsShut planning.board home readers from) slot → IsLeastFree (IsBlocked nodes homes planning.slots n) slot
  least_is slot = least_same (IsShut planning.board home readers from) (IsBlocked nodes homes planning.slots n) slot shut_blocked blocked_shut

  pub slot_low : (slot : ℕ) → IsLeastFree (IsShut planning.board home readers from) slot → slot ≤ n
  slot_low slot least = let low = least_low nodes homes n planning formed before slot (least_is slot least) in let most = before.most in omega (arith, low, most)

  row_is : (row : ℕ) → IsRowFor planning.board home readers row ↔ IsRowOf nodes homes n row
  row_is row = (there, back) where
    there : IsRowFor planning.board home readers row → IsRowOf nodes homes n row
    there (inl same) = inl (same ∙ home_is)
    there (inr (r, among, at)) = inr (r, (lists.exact r).0 among, at ∙ ap (λ p. p + r) before.ports)

    back : IsRowOf nodes homes n row → IsRowFor planning.board home readers row
    back (inl same) = inl (same ∙ sym home_is)
    back (inr (r, reads, at)) = inr (r, (lists.exact r).1 reads, at ∙ ap (λ p. p + r) (sym before.ports))

  pub planned_more : (slot : ℕ) (board : Board) → IsLeastFree (IsShut planning.board home readers from) slot → IsBoard board → board.ports ≡ planning.board.ports
      → Adds planning.board.rows board.rows (λ row s. IsRowFor planning.board home readers row × (s ≡ slot))
      → IsPlannedTo nodes homes (n + 1) (record { board = board; slots = planning.slots ++ slot ∷ []; needed = max planning.needed (slot + 1) })
  planned_more slot board least is_board ports adds = record {
    fit = fit_more nodes homes planning.slots n slot formed before.fit (least_is slot least);
    needed = ap (λ m. max m (slot + 1)) before.needed ∙ sym (needed_more planning.slots slot);
    low = λ i below. elim (last_or i n below) [
      | inl under ↦ (let old = old_slot planning.slots slot i (inside i under) in let low = before.low i under in omega (arith, old, low))
      | inr same ↦ (let new = ap (slot_of (planning.slots ++ slot ∷ [])) same ∙ new_slot planning.slots slot n before.fit.items in omega (arith, new))
    ];
    most = let up = slot_low slot least in let most = before.most in omega (arith, up, most);
    board = is_board;
    ports = ports ∙ before.ports;
    room = rw adds.stride before.room;
    taken = λ row s. (there row s, back row s);
  } where
    inside : (i : ℕ) → i < n → i < length planning.slots
    inside i low = let count = before.fit.items in omega (arith, low, count)

    there : (row s : ℕ) → HasBit board.rows row s → IsOccupied nodes homes (planning.slots ++ slot ∷ []) (n + 1) row s
    there row s has = elim ((adds.bits row s).0 has) [
      | inl old ↦
          let held = (before.taken row s).0 old in
          let low = held.before in
          record { holder = held.holder; before = omega (arith, low); slot = old_slot planning.slots slot held.holder (inside held.holder low) ∙ held.slot; at = held.at }
      | inr new ↦ record { holder = n; before = omega arith; slot = new_slot planning.slots slot n before.fit.items ∙ sym new.1; at = (row_is row).0 new.0 }
    ]

    back : (row s : ℕ) → IsOccupied nodes homes (planning.slots ++ slot ∷ []) (n + 1) row s → HasBit board.rows row s
    back row s held = elim (last_or held.holder n held.before) [
      | inl low ↦ (adds.bits row s).1 (inl ((before.taken row s).1 (record { holder = held.holder; before = low; slot = sym (old_slot planning.slots slot held.holder (inside held.holder low)) ∙ held.slot; at = held.at })))
      | inr same ↦ (adds.bits row s).1 (inr (
        (row_is row).1 (subst (λ i. IsRowOf nodes homes i row) same held.at),
        sym held.slot ∙ (ap (slot_of (planning.slots ++ slot ∷ [])) same ∙ new_slot planning.slots slot n before.fit.items),
      ))
    ]
