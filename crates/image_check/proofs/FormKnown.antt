-- Whether an image is well formed is known.
use Rattle.std.proofs.Common.{◌≡◌, ◌≢◌, ◌↔◌, ◌∙◌, inl, inr, Bool, true, false, ℕ, ◌+◌, ◌<◌, ◌≤◌, List, length, refl, ap, arith}
use Rattle.std.proofs.lemmas.Bool.{cases_eq}
use Rattle.std.specs.{Prelude.Some, Prelude.slice_get, Prelude.slice_index, List.Sorted.IsStrictlyIncreasing}
use Rattle.limits.specs.declared.TheConstants.{MAX_SLOTS, MAX_UNITS, MAX_PORTS, MAX_ADDRESS_BITS, MAX_WORD_BITS}
use Rattle.image_defs.specs.Places.{Each, Stands, item_slots, in_slots, out_slots, IsPort}
use Rattle.image_defs.specs.WellFormed.{IsThere, IsBefore, IsOfLast, IsOperand, IsPast, IsPresent, IsTask, IsBlock, IsBit, IsWork, IsHost, ReceivesFrom, IsLinkOut, IsLinkIn, IsPortImage, IsWellFormed}
use Rattle.image_defs.specs.declared.image.{Source.Source, Source.TheVariants.Own, Source.TheVariants.Got, Source.TheVariants.Const, Task.Task}
use Rattle.image_defs.specs.declared.image.{Task.TheVariants.Eval, Task.TheVariants.Hold, BlockWork.BlockWork, OutBit.OutBit, Work.Work}
use Rattle.image_defs.specs.declared.image.{Work.TheVariants.Logic, Work.TheVariants.Array, Work.TheVariants.Host, LinkIn.LinkIn, LinkOut.LinkOut}
use Rattle.image_defs.specs.declared.image.{PortImage.PortImage, Image.Image}
use Rattle.list_laws.proofs.Decidable.{IsDecidable, decided, decide_both, decide_then, decide_not, decide_same, decide_less, decide_bool, decide_some, decide_all, decide_member, decide_each}

-- ---- lists

-- whether it holds of each member
each_known : {X : Type 0} (P : X → Type 0) → ((x : X) → IsDecidable (P x)) → (xs : List X) → IsDecidable (Each P xs)
each_known P each xs = decide_each (λ k. P) (λ k. each) xs

pub stands_known : {X : Type 0} → ((x y : X) → IsDecidable (x ≡ y)) → (xs : List X) (x : X) → IsDecidable (Stands xs x)
stands_known {X} each xs x =
    decide_same ((k : ℕ) × (y : X) × (slice_get xs k ≡ Some y) × (y ≡ x)) (Stands xs x) (λ some. (some.0, some.2 ∙ ap Some some.3)) (λ at. (at.0, x, at.1, refl))
    (decide_member (λ k y. y ≡ x) (λ k y. each y x) xs)

rising_known : (xs : List ℕ) → IsDecidable (IsStrictlyIncreasing xs)
rising_known xs =
    decide_same ((k : ℕ) → k < length xs → k + 1 < length xs → slice_index xs k < slice_index xs (k + 1)) (IsStrictlyIncreasing xs)
    (λ all k low. all k (omega (arith, low)) low) (λ all k within low. all k low)
    (decide_all (λ k. k + 1 < length xs → slice_index xs k < slice_index xs (k + 1))
    (λ k. decide_then (k + 1 < length xs) (slice_index xs k < slice_index xs (k + 1)) (decide_less (k + 1) (length xs)) (decide_less (slice_index xs k) (slice_index xs (k + 1)))) (length xs))

-- ---- sources

there_known : (port : PortImage) (source : Source) → IsDecidable (IsThere port source)
there_known port (Own slot last) = stands_known cases_eq (item_slots port.work) slot
there_known port (Got slot last) = stands_known cases_eq (in_slots port.ins) slot
there_known port (Const v) = inl tt

before_known : (slot : ℕ) (source : Source) → IsDecidable (IsBefore slot source)
before_known slot (Own s last) = search decided
before_known slot (Got s last) = search decided
before_known slot (Const v) = inl tt

of_last_known : (said : Bool) (source : Source) → IsDecidable (IsOfLast said source)
of_last_known said (Own s last) = decide_bool last said
of_last_known said (Got s last) = decide_bool last said
of_last_known said (Const v) = inl tt

module _ (port : PortImage) where
  operand_known : (slot : ℕ) (source : Source) → IsDecidable (IsOperand port slot source)
  operand_known slot source = decide_same (IsThere port source × IsBefore slot source) (IsOperand port slot source) (λ all. search) (λ is. search) (search (decided, there_known, before_known))

  past_known : (source : Source) → IsDecidable (IsPast port source)
  past_known source = decide_same (IsThere port source × IsOfLast true source) (IsPast port source) (λ all. search) (λ is. search) (search (decided, there_known, of_last_known))

  present_known : (source : Source) → IsDecidable (IsPresent port source)
  present_known source = decide_same (IsThere port source × IsOfLast false source) (IsPresent port source) (λ all. search) (λ is. search) (search (decided, there_known, of_last_known))

  -- ---- what a port does

  task_known : (tables : ℕ) (task : Task) → IsDecidable (IsTask port tables task)
  task_known tables (Eval slot table a b c d) = decide_same ((table < tables) × (IsOperand port slot a × (IsOperand port slot b × (IsOperand port slot c × IsOperand port slot d)))) (IsTask port tables (Eval slot table a b c d))
      (λ all. search) (λ is. search) (search (decided, operand_known))
  task_known tables (Hold slot from) = past_known from

  block_known : (block : BlockWork) → IsDecidable (IsBlock port block)
  block_known block =
      let Address = Each (IsPast port) block.address × ((1 ≤ length block.address) × (length block.address ≤ MAX_ADDRESS_BITS)) in
      let Word = Each (IsPast port) block.word × ((1 ≤ length block.word) × (length block.word ≤ MAX_WORD_BITS)) in
      decide_same (IsPast port block.we × (Address × Word)) (IsBlock port block) (λ all. search) (λ is. search) (search (decided, past_known, each_known (IsPast port) past_known))

  bit_known : (blocks : List BlockWork) (out : OutBit) → IsDecidable (IsBit blocks out)
  bit_known blocks out = decide_some (λ block. out.bit < length block.word) (λ block. decide_less out.bit (length block.word)) (slice_get blocks out.block)

  work_known : (columns : ℕ) (work : Work) → IsDecidable (IsWork columns port work)
  work_known columns (Logic tables tasks) = each_known (IsTask port (length tables)) (task_known (length tables)) tasks
  work_known columns (Array blocks outs) = search (decided, each_known (IsBlock port) block_known blocks, each_known (IsBit blocks) (bit_known blocks) outs)
  work_known columns (Host inputs printed) =
      search (decided, each_known (λ input. input.column < columns) (λ input. decide_less input.column columns) inputs, each_known (IsPresent port) present_known printed)

-- ---- links

link_in_same : (one other : LinkIn) → IsDecidable (one ≡ other)
link_in_same one other = decide_same ((one.slot ≡ other.slot) × (one.sender ≡ other.sender)) (one ≡ other) (λ both. grind arith) (λ same. grind arith) (search decided)

module _ (image : Image) (p : ℕ) where
  receives_known : (r slot : ℕ) → IsDecidable (ReceivesFrom image r slot p)
  receives_known r slot =
      decide_same ((port : PortImage) × IsPort image r port × Stands port.ins (record { slot = slot; sender = p })) (ReceivesFrom image r slot p)
      (λ some. record { port = some.0; is = some.1; receives = some.2 }) (λ is. (is.port, is.is, is.receives))
      (decide_some (λ port. Stands port.ins (record { slot = slot; sender = p })) (λ port. stands_known link_in_same port.ins (record { slot = slot; sender = p })) (slice_get image.ports r))

  link_out_known : (port : PortImage) (link : LinkOut) → IsDecidable (IsLinkOut image p port link)
  link_out_known port link =
      let Others = Each (λ r. r ≢ p) link.readers in
      let Received = Each (λ r. ReceivesFrom image r link.slot p) link.readers in
      decide_same (Stands (item_slots port.work) link.slot × ((1 ≤ length link.readers) × (IsStrictlyIncreasing link.readers × (Others × Received)))) (IsLinkOut image p port link) (λ all. search) (λ is. search)
      (search (
        decided,
        stands_known cases_eq (item_slots port.work) link.slot,
        rising_known link.readers,
        each_known (λ r. r ≢ p) (λ r. decide_not (r ≡ p) (cases_eq r p)) link.readers,
        each_known (λ r. ReceivesFrom image r link.slot p) (λ r. receives_known r link.slot) link.readers,
      ))

  link_in_known : (link : LinkIn) → IsDecidable (IsLinkIn image p link)
  link_in_known link =
      decide_same ((sender : PortImage) × IsPort image link.sender sender × ((k : ℕ) × (sent : LinkOut) × (slice_get sender.outs k ≡ Some sent) × ((sent.slot ≡ link.slot) × Stands sent.readers p))) (IsLinkIn image p link)
      (λ some. record { sender = some.0; is = some.1; sent = some.2.1; sends = (some.2.0, some.2.2); slot = some.2.3.0; reads = some.2.3.1 })
      (λ is. (is.sender, is.is, (is.sends.0, is.sent, is.sends.1, (is.slot, is.reads))))
      (decide_some (λ sender. (k : ℕ) × (sent : LinkOut) × (slice_get sender.outs k ≡ Some sent) × ((sent.slot ≡ link.slot) × Stands sent.readers p))
      (λ sender. decide_member (λ k sent. (sent.slot ≡ link.slot) × Stands sent.readers p)
      (λ k sent. decide_both (sent.slot ≡ link.slot) (Stands sent.readers p) (cases_eq sent.slot link.slot) (stands_known cases_eq sent.readers p)) sender.outs)
      (slice_get image.ports link.sender))

  -- ---- ports

  slots_known : (slots : List ℕ) → IsDecidable (IsStrictlyIncreasing slots × Each (λ slot. slot < image.slots) slots)
  slots_known slots = search (decided, rising_known slots, each_known (λ slot. slot < image.slots) (λ slot. decide_less slot image.slots) slots)

  port_known : (port : PortImage) → IsDecidable (IsPortImage image p port)
  port_known port =
      let Items = IsStrictlyIncreasing (item_slots port.work) × Each (λ slot. slot < image.slots) (item_slots port.work) in
      let Ins = IsStrictlyIncreasing (in_slots port.ins) × Each (λ slot. slot < image.slots) (in_slots port.ins) in
      let Sends = Each (IsLinkOut image p port) port.outs in
      let Receives = Each (IsLinkIn image p) port.ins in
      decide_same (Items × (Ins × (IsWork image.columns port port.work × (IsStrictlyIncreasing (out_slots port.outs) × (Sends × Receives))))) (IsPortImage image p port) (λ all. search) (λ is. search)
      (search (
        decided,
        slots_known (item_slots port.work),
        slots_known (in_slots port.ins),
        work_known port image.columns port.work,
        rising_known (out_slots port.outs),
        each_known (IsLinkOut image p port) (link_out_known port) port.outs,
        each_known (IsLinkIn image p) link_in_known port.ins,
      ))

-- ---- the whole image

host_known : (work : Work) → IsDecidable (IsHost work)
host_known (Logic tables tasks) = inr (λ is. is)
host_known (Array blocks outs) = inr (λ is. is)
host_known (Host inputs printed) = inl tt

last_known : (work : Work) (p n : ℕ) → IsDecidable (IsHost work ↔ (p + 1 ≡ n))
last_known work p n = search (decided, host_known)

pub form_known : (image : Image) → IsDecidable (IsWellFormed image)
form_known image =
    let Units = (1 ≤ image.units) × (image.units ≤ MAX_UNITS) in
    let Count = (1 ≤ length image.ports) × (length image.ports ≤ MAX_PORTS) in
    let Ports = (p : ℕ) (port : PortImage) → IsPort image p port → IsPortImage image p port in
    let Last = (p : ℕ) (port : PortImage) → IsPort image p port → IsHost port.work ↔ (p + 1 ≡ length image.ports) in
    decide_same ((image.slots ≤ MAX_SLOTS) × (Units × (Count × (Ports × Last)))) (IsWellFormed image) (λ all. search) (λ is. search)
    (search (
      decided,
      decide_each (λ p port. IsPortImage image p port) (λ p port. port_known image p port) image.ports,
      decide_each (λ p port. IsHost port.work ↔ (p + 1 ≡ length image.ports)) (λ p port. last_known port.work p (length image.ports)) image.ports,
    ))
