-- The core_ports: one by its number, and what an event makes of it.
use Rattle.std.proofs.Common.{List, Some, ap, arith, get_or, inl, inr, le-mul_of_pos_right, length, slice_get, slice_index_or, subst, sym, ℕ, ◌%◌, ◌*◌, ◌+◌, ◌<◌, ◌∙◌, ◌≡◌, ◌≤◌}
use Rattle.std.proofs.lemmas.{Bool.cases_lt, Option.get_or_from_slice_get, Option.slice_get-get_or}
use Rattle.image_defs.specs.declared.image.{LinkIn.LinkIn, LinkOut.LinkOut}
use Rattle.event_defs.proofs.{lemmas.AlikeLemmas.told, SourceLemmas.entry_there}
use Rattle.port_walk.specs.Placed.{CanPut, CanTake, HasPut, HasTaken, IsNextReceipt, IsNextSend, IsReceiving, IsSending, PlacedPort, in_next_turn}
use Rattle.order_run.specs.code.CorePorts.{AtCorePort, HasPutRoom, HasTakeRoom, core_port_put, core_port_taken, core_port_told}
use Rattle.order_run.specs.declared.core_ports.CorePort.{CorePort}

-- the core_port that was read
pub core_port_read : (core_ports : List CorePort) (p : ℕ) (read core_port : CorePort) → read ≡ slice_index_or core_ports p read → slice_get core_ports p ≡ Some core_port → read ≡ core_port
core_port_read core_ports p read core_port is at = is ∙ get_or_from_slice_get core_ports p core_port read at

-- a number is below a bound that its multiple is below
pub below_product : (n k b m : ℕ) → 1 ≤ k → n * k + b < m → n < m
below_product n k b m some low = let more = le-mul_of_pos_right n some in omega arith

pub not_less : (m n : ℕ) → (m < n → ⊥) → n ≤ m
not_less m n never = elim (cases_lt m n) [
  | inl less ↦ absurd (never less)
  | inr most ↦ most
]

-- ---- events

pub put_is : (here core_port : CorePort) (new : PlacedPort) → here ≡ core_port → HasPut here.port new → (i : ℕ) (link : LinkOut) → IsSending core_port.port i link → record here { port = new } ≡ core_port_put core_port link.slot
put_is here core_port new same has i link sending =
    let has_it : HasPut core_port.port new = subst (λ (s : CorePort). HasPut s.port new) same has in
    ap {A = CorePort} {B = CorePort} (λ (s : CorePort). record s { port = new }) same ∙ ap {A = PlacedPort} {B = CorePort} (λ (n : PlacedPort). record core_port { port = n }) (has_it.each i link sending)

pub taken_is : (here core_port : CorePort) (new : PlacedPort) → here ≡ core_port → HasTaken here.port new → (j : ℕ) (link : LinkIn) → IsReceiving core_port.port j link → record here { port = new } ≡ core_port_taken core_port link.slot
taken_is here core_port new same has j link receiving =
    let has_it : HasTaken core_port.port new = subst (λ (s : CorePort). HasTaken s.port new) same has in
    ap {A = CorePort} {B = CorePort} (λ (s : CorePort). record s { port = new }) same ∙ ap {A = PlacedPort} {B = CorePort} (λ (n : PlacedPort). record core_port { port = n }) (has_it.each j link receiving)

pub told_is : (here core_port : CorePort) (new : PlacedPort) (bank banks : ℕ) → here ≡ core_port → new ≡ in_next_turn here.port → bank ≡ (here.port.turn + 1) % banks → record here { port = new; bank = bank } ≡ core_port_told core_port ((core_port.port.turn + 1) % banks)
told_is here core_port new bank banks same told next =
    ap {A = ℕ} {B = CorePort} (λ b. record here { port = new; bank = b }) next
    ∙ (ap {A = PlacedPort} {B = CorePort} (λ (n : PlacedPort). record here { port = n; bank = (here.port.turn + 1) % banks }) told
    ∙ ap {A = CorePort} {B = CorePort} (λ (s : CorePort). core_port_told s ((s.port.turn + 1) % banks)) same)

-- ---- room for words

module _ (core_ports : List CorePort) (p : ℕ) (read : CorePort) (inside : p < length core_ports) (is : read ≡ slice_index_or core_ports p read) (banks words : ℕ) where
  pub write_room : (n : ℕ) → AtCorePort core_ports p (λ core_port. CanPut core_port.port) → AtCorePort core_ports p (λ core_port. HasPutRoom core_port banks words) → IsNextSend read.port n → (read.first + n) * banks + read.bank < words
  write_room n can room next =
      let here = entry_there core_ports p read inside is in
      let put = can read here in
      let place = (room read here).each put.i put.link put.sending in
      subst (λ k. (read.first + k) * banks + read.bank < words) (next.each put.i put.link put.sending) place

  pub read_low : (n : ℕ) → AtCorePort core_ports p (λ core_port. CanTake core_port.port) → AtCorePort core_ports p (λ core_port. HasTakeRoom core_port banks words) → IsNextReceipt read.port n → n < length read.sources
  read_low n can room next =
      let here = entry_there core_ports p read inside is in
      let take = can read here in
      subst (λ k. k < length read.sources) (next.each take.j take.link take.receiving) ((room read here).there take.j take.link take.receiving)

  pub read_room : (n : ℕ) → AtCorePort core_ports p (λ core_port. CanTake core_port.port) → AtCorePort core_ports p (λ core_port. HasTakeRoom core_port banks words) → IsNextReceipt read.port n → get_or read.sources n 0 * banks + read.bank < words
  read_room n can room next =
      let here = entry_there core_ports p read inside is in
      let take = can read here in
      let at = slice_get-get_or read.sources n 0 (read_low n can room next) in
      (room read here).each take.j (get_or read.sources n 0) take.link take.receiving (subst (λ k. slice_get read.sources k ≡ Some (get_or read.sources n 0)) (sym (next.each take.j take.link take.receiving)) at)
