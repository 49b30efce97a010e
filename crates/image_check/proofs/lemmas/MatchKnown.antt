-- Whether the places and columns of an image match the items that they claim is known.
use Rattle.std.proofs.Common.{◌≡◌, ◌∙◌, inl, inr, ℕ, List, length, refl, sym, ap}
use Rattle.std.proofs.lemmas.Bool.{cases_eq}
use Rattle.std.specs.Prelude.{Some, slice_get}
use Rattle.logic_four.specs.{Values.code_of, Values.value_of, declared.V4.V4}
use Rattle.logic_four.proofs.lemmas.CodeLemmas.{value_of-code_of}
use Rattle.func_table.specs.{declared.table.Table.Table, Entries.AreAlike, Entries.entry_of}
use Rattle.net_defs.specs.declared.timing.{Init.Init, Init.TheVariants.Undef, Init.TheVariants.Zero, Timing.Timing}
use Rattle.node_defs.specs.declared.items.{Tag.TheVariants.This, Tag.TheVariants.Last, Feed.Feed, Feed.TheVariants.From, Feed.TheVariants.Fixed, Item.Item}
use Rattle.node_defs.specs.{declared.items.NodeBlock.NodeBlock, declared.items.NodeNet.NodeNet, WellFormed.column_count}
use Rattle.node_defs.specs.declared.items.Item.TheVariants as item
use Rattle.image_defs.specs.Places.{IsPort, item_slots, printed_of, host_of}
use Rattle.image_defs.specs.Matches.{IsClaim, ClaimsIn, Carries, CarryAll, MemoryImplements, TaskImplements, BitImplements, InputImplements, Implements, ImplementsClaim, claims_of}
use Rattle.image_defs.specs.declared.image.{Source.Source, Source.TheVariants.Own, Source.TheVariants.Got, Source.TheVariants.Const, Task.Task}
use Rattle.image_defs.specs.declared.image.{Task.TheVariants.Eval, Task.TheVariants.Hold, BlockWork.BlockWork, OutBit.OutBit, InColumn.InColumn, Work.Work}
use Rattle.image_defs.specs.declared.image.{Work.TheVariants.Logic, Work.TheVariants.Array, Work.TheVariants.Host, LinkIn.LinkIn, PortImage.PortImage}
use Rattle.image_defs.specs.{declared.image.Image.Image, Claimed.HasTiming, Claimed.PlaceMatches, Claimed.ColumnMatches}
use Rattle.list_laws.proofs.Decidable.{IsDecidable, decided, decide_both, decide_then, decide_same, decide_some, decide_any, decide_is, decide_all, decide_member, decide_each}

-- ---- values and tables

value_known : (v w : V4) → IsDecidable (v ≡ w)
value_known v w =
    decide_same (code_of v ≡ code_of w) (v ≡ w) (λ same. sym (value_of-code_of v) ∙ ap value_of same ∙ value_of-code_of w) (λ same. ap code_of same)
    (cases_eq (code_of v) (code_of w))

pub alike_known : (one other : Table) → IsDecidable (AreAlike one other)
alike_known one other = decide_all (λ e. entry_of one e ≡ entry_of other e) (λ e. value_known (entry_of one e) (entry_of other e)) 256

module _ (image : Image) (claims : List (List ℕ)) (nodes : NodeNet) where
  -- ---- sources

  claims_known : (p slot x : ℕ) → IsDecidable (ClaimsIn image claims p slot x)
  claims_known p slot x =
      decide_same ((port : PortImage) × IsPort image p port × ((i : ℕ) × (s : ℕ) × (slice_get (item_slots port.work) i ≡ Some s) × ((s ≡ slot) × IsClaim claims p i x))) (ClaimsIn image claims p slot x)
      (λ some. record { i = some.2.0; port = some.0; is = some.1; stands = some.2.2 ∙ ap Some some.2.3.0; claimed = some.2.3.1 })
      (λ is. (is.port, is.is, (is.i, slot, is.stands, (refl, is.claimed))))
      (decide_some (λ port. (i : ℕ) × (s : ℕ) × (slice_get (item_slots port.work) i ≡ Some s) × ((s ≡ slot) × IsClaim claims p i x))
      (λ port. decide_member (λ i s. (s ≡ slot) × IsClaim claims p i x)
      (λ i s. decide_both (s ≡ slot) (IsClaim claims p i x) (cases_eq s slot) (decide_is cases_eq (slice_get (claims_of claims p) i) x)) (item_slots port.work))
      (slice_get image.ports p))

  module _ (p : ℕ) (ins : List LinkIn) where
    carries_known : (source : Source) (feed : Feed) → IsDecidable (Carries image claims p ins source feed)
    carries_known (Own slot last) (From x tag) = search (decided, claims_known)
    carries_known (Own slot last) (Fixed w) = inr (λ is. is)
    carries_known (Got slot last) (From x tag) = search (decided, claims_known)
    carries_known (Got slot last) (Fixed w) = inr (λ is. is)
    carries_known (Const v) (From x tag) = inr (λ is. is)
    carries_known (Const v) (Fixed w) = value_known v w

    carry_known : (sources : List Source) (items : List ℕ) → IsDecidable (CarryAll image claims p ins sources items)
    carry_known sources items =
        let All = (k : ℕ) (source : Source) → slice_get sources k ≡ Some source → (x : ℕ) → slice_get items k ≡ Some x → Carries image claims p ins source (From x Last) in
        decide_same ((length sources ≡ length items) × All) (CarryAll image claims p ins sources items)
        (λ both. record { as_many = both.0; each = λ k x source at there. both.1 k source at x there })
        (λ is. (is.as_many, λ k source at x there. is.each k x source at there))
        (search (
          decided,
          decide_each (λ k source. (x : ℕ) → slice_get items k ≡ Some x → Carries image claims p ins source (From x Last))
              (λ k source. decide_any (λ x. Carries image claims p ins source (From x Last)) (λ x. carries_known source (From x Last)) (slice_get items k)) sources,
        ))

    memory_known : (block : BlockWork) (memory : NodeBlock) → IsDecidable (MemoryImplements image claims p ins block memory)
    memory_known block memory =
        decide_same (Carries image claims p ins block.we (From memory.we Last) × (CarryAll image claims p ins block.address memory.address × CarryAll image claims p ins block.word memory.word)) (MemoryImplements image claims p ins block memory)
        (λ all. search) (λ is. search) (search (decided, carries_known, carry_known))

    -- ---- what stands in a slot

    four_known : (one other : Table) (a b c d : Source) (e f g h : Feed)
        → IsDecidable (AreAlike one other × (Carries image claims p ins a e × (Carries image claims p ins b f × (Carries image claims p ins c g × Carries image claims p ins d h))))
    four_known one other a b c d e f g h = search (decided, alike_known, carries_known)

    task_known : (tables : List Table) (task : Task) (i : Item) → IsDecidable (TaskImplements image claims nodes p ins tables task i)
    task_known tables (Eval slot table a b c d) (item.Node t feeds) =
        let Same = λ (one other : Table). AreAlike one other × (Carries image claims p ins a feeds.a × (Carries image claims p ins b feeds.b × (Carries image claims p ins c feeds.c × Carries image claims p ins d feeds.d))) in
        decide_same ((one : Table) × (slice_get tables table ≡ Some one) × ((other : Table) × (slice_get nodes.tables t ≡ Some other) × Same one other)) (TaskImplements image claims nodes p ins tables (Eval slot table a b c d) (item.Node t feeds))
        (λ some. (some.0, some.2.0, some.1, some.2.1, some.2.2.0, some.2.2.1.0, some.2.2.1.1.0, some.2.2.1.1.1.0, some.2.2.1.1.1.1))
        (λ is. (is.0, is.2, (is.1, is.3, (is.4, (is.5, (is.6, (is.7, is.8)))))))
        (decide_some (λ one. (other : Table) × (slice_get nodes.tables t ≡ Some other) × Same one other)
        (λ one. decide_some (Same one) (λ other. four_known one other a b c d feeds.a feeds.b feeds.c feeds.d) (slice_get nodes.tables t)) (slice_get tables table))
    task_known tables (Eval slot table a b c d) (item.Input column) = inr (λ is. is)
    task_known tables (Eval slot table a b c d) (item.BlockBit m bit) = inr (λ is. is)
    task_known tables (Eval slot table a b c d) (item.Latch op) = inr (λ is. is)
    task_known tables (Hold slot from) (item.Latch op) = carries_known from (From op Last)
    task_known tables (Hold slot from) (item.Input column) = inr (λ is. is)
    task_known tables (Hold slot from) (item.BlockBit m bit) = inr (λ is. is)
    task_known tables (Hold slot from) (item.Node t feeds) = inr (λ is. is)

    bit_known : (blocks : List BlockWork) (out : OutBit) (i : Item) → IsDecidable (BitImplements image claims nodes p ins blocks out i)
    bit_known blocks out (item.BlockBit m bit) =
        let Same = λ (block : BlockWork). (memory : NodeBlock) × (slice_get nodes.blocks m ≡ Some memory) × MemoryImplements image claims p ins block memory in
        decide_same ((out.bit ≡ bit) × ((block : BlockWork) × (slice_get blocks out.block ≡ Some block) × Same block)) (BitImplements image claims nodes p ins blocks out (item.BlockBit m bit))
        (λ some. (some.0, some.1.0, some.1.2.0, some.1.1, some.1.2.1, some.1.2.2)) (λ is. (is.0, (is.1, is.3, (is.2, is.4, is.5))))
        (decide_both (out.bit ≡ bit) ((block : BlockWork) × (slice_get blocks out.block ≡ Some block) × Same block) (cases_eq out.bit bit)
        (decide_some Same (λ block. decide_some (MemoryImplements image claims p ins block) (memory_known block) (slice_get nodes.blocks m)) (slice_get blocks out.block)))
    bit_known blocks out (item.Input column) = inr (λ is. is)
    bit_known blocks out (item.Node t feeds) = inr (λ is. is)
    bit_known blocks out (item.Latch op) = inr (λ is. is)

    input_known : (input : InColumn) (i : Item) → IsDecidable (InputImplements input i)
    input_known input (item.Input column) = cases_eq input.column column
    input_known input (item.BlockBit m bit) = inr (λ is. is)
    input_known input (item.Node t feeds) = inr (λ is. is)
    input_known input (item.Latch op) = inr (λ is. is)

    implements_known : (work : Work) (i : ℕ) (other : Item) → IsDecidable (Implements image claims nodes p ins work i other)
    implements_known (Logic tables tasks) i other =
        decide_some (λ task. TaskImplements image claims nodes p ins tables task other) (λ task. task_known tables task other) (slice_get tasks i)
    implements_known (Array blocks outs) i other =
        decide_some (λ out. BitImplements image claims nodes p ins blocks out other) (λ out. bit_known blocks out other) (slice_get outs i)
    implements_known (Host inputs printed) i other = decide_some (λ input. InputImplements input other) (λ input. input_known input other) (slice_get inputs i)

  -- ---- places and columns

  claim_known : (p i x : ℕ) (port : PortImage) → IsDecidable (ImplementsClaim image claims nodes p i x port)
  claim_known p i x port =
      decide_same ((other : Item) × (slice_get nodes.items x ≡ Some other) × Implements image claims nodes p port.ins port.work i other) (ImplementsClaim image claims nodes p i x port)
      (λ some. record { item = some.0; is = some.1; same = some.2 }) (λ is. (is.item, is.is, is.same))
      (decide_some (Implements image claims nodes p port.ins port.work i) (implements_known p port.ins port.work i) (slice_get nodes.items x))

  pub place_known : (p slot : ℕ) → IsDecidable (PlaceMatches image claims nodes p slot)
  place_known p slot =
      let Claim = λ (port : PortImage) (i : ℕ). (x : ℕ) → IsClaim claims p i x → ImplementsClaim image claims nodes p i x port in
      let Item = λ (port : PortImage). (i s : ℕ) → slice_get (item_slots port.work) i ≡ Some s → s ≡ slot → Claim port i in
      decide_same ((port : PortImage) → IsPort image p port → Item port) (PlaceMatches image claims nodes p slot)
      (λ all i x port is stands claimed. all port is i slot stands refl x claimed)
      (λ all port is i s stands same x claimed. all i x port is (stands ∙ ap Some same) claimed)
      (decide_any Item
      (λ port. decide_each (λ i s. s ≡ slot → Claim port i)
      (λ i s. decide_then (s ≡ slot) (Claim port i) (cases_eq s slot)
      (decide_any (λ x. ImplementsClaim image claims nodes p i x port) (λ x. claim_known p i x port) (slice_get (claims_of claims p) i))) (item_slots port.work))
      (slice_get image.ports p))

  pub column_known : (j : ℕ) → IsDecidable (ColumnMatches image claims nodes j)
  column_known j =
      let Carried = λ (host : PortImage) (source : Source) (x : ℕ). Carries image claims (host_of image) host.ins source (From x This) in
      decide_same ((host : PortImage) → IsPort image (host_of image) host → (source : Source) → slice_get (printed_of host.work) j ≡ Some source → (x : ℕ) → slice_get nodes.printed j ≡ Some x → Carried host source x) (ColumnMatches image claims nodes j)
      (λ all x host source is at there. all host is source at x there) (λ all host is source at x there. all x host source is at there)
      (decide_any (λ host. (source : Source) → slice_get (printed_of host.work) j ≡ Some source → (x : ℕ) → slice_get nodes.printed j ≡ Some x → Carried host source x)
      (λ host. decide_any (λ source. (x : ℕ) → slice_get nodes.printed j ≡ Some x → Carried host source x)
      (λ source. decide_any (Carried host source) (λ x. carries_known (host_of image) host.ins source (From x This)) (slice_get nodes.printed j)) (slice_get (printed_of host.work) j))
      (slice_get image.ports (host_of image)))

-- ---- the timing

init_known : (one other : Init) → IsDecidable (one ≡ other)
init_known Undef Undef = inl refl
init_known Undef Zero = inr (λ same. cc)
init_known Zero Undef = inr (λ same. cc)
init_known Zero Zero = inl refl

pub timing_known : (image : Image) (nodes : NodeNet) (timing : Timing) → IsDecidable (HasTiming image nodes timing)
timing_known image nodes timing =
    let Printed = (host : PortImage) → IsPort image (host_of image) host → length (printed_of host.work) ≡ length nodes.printed in
    decide_same ((image.units ≡ timing.units) × ((image.init ≡ timing.init) × ((image.columns ≡ column_count nodes) × Printed))) (HasTiming image nodes timing) (λ all. search) (λ is. search)
    (search (
      decided,
      init_known,
      decide_any (λ host. length (printed_of host.work) ≡ length nodes.printed) (λ host. cases_eq (length (printed_of host.work)) (length nodes.printed)) (slice_get image.ports (host_of image)),
    ))
