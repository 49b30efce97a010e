-- What a port of a built image takes and does is told by the plan: each source, each memory and each task, but for the
-- numbers of tables.
use Rattle.std.proofs.Common.{◌≡◌, ◌≢◌, ◌∙◌, ℕ, ◌<◌, Bool, true, List, length, map, Some, slice_get, sym, ap, arith}
use Rattle.std.proofs.lemmas.{List.length-map, Option.slice_get_within}
use Rattle.list_laws.proofs.{Members.mapped_at, Options.one_some}
use Rattle.func_table.specs.{declared.table.Table.Table, Entries.AreAlike}
use Rattle.func_table.proofs.OrderLemmas.{same_by}
use Rattle.node_defs.specs.declared.items.{Tag.TheVariants.Last, Feed.Feed, Feed.TheVariants.From, Feed.TheVariants.Fixed, Item.Item}
use Rattle.node_defs.specs.declared.items.{NodeBlock.NodeBlock, NodeNet.NodeNet}
use Rattle.node_defs.specs.declared.items.Item.TheVariants as item
use Rattle.image_defs.specs.Places.{Each, IsPort, item_slots, task_slot, sender_in}
use Rattle.image_defs.specs.WellFormed.{IsThere, IsPast, IsTask, IsBlock, IsWellFormed}
use Rattle.image_defs.specs.Matches.{claims_of, ClaimsIn, Carries, CarryAll, MemoryImplements, TaskImplements, is_last}
use Rattle.image_defs.specs.declared.image.{Source.Source, Source.TheVariants.Own, Source.TheVariants.Got, Source.TheVariants.Const, Task.Task}
use Rattle.image_defs.specs.declared.image.{Task.TheVariants.Eval, Task.TheVariants.Hold, BlockWork.BlockWork, PortImage.PortImage, Image.Image}
use Rattle.image_defs.proofs.lemmas.PlaceLemmas.{sender_found}
use Rattle.plan_defs.specs.{declared.plan.Homes.Homes, Homes.home_of, Homes.ports_of, Slots.slot_of}
use Rattle.image_build.specs.{PortItems.IsAt, PortItems.ArePlanClaims, code.Layouts.source_of, code.Layouts.feed_source, code.Layouts.block_for}
use Rattle.image_build.proofs.{MemberLemmas.made_there, SourceLemmas.own_source, SourceLemmas.got_source, WorkLemmas.eval_for, WorkLemmas.pasts}

-- an image in which what each port claims stands as the plan says
pub record IsPlacedBy (nodes : NodeNet) (homes : Homes) (slots : List ℕ) (claims : List (List ℕ)) (image : Image) : Type 0 where
  pub fits : IsWellFormed image
  pub planned : ArePlanClaims nodes homes slots claims
  pub placed : (p : ℕ) (port : PortImage) → IsPort image p port → item_slots port.work ≡ map (slot_of slots) (claims_of claims p)
  pub ports : length claims ≡ length image.ports

-- the task of an item, but for the number of its table, which is as the item's
abbrev pub IsTaskLike : NodeNet → Homes → List ℕ → ℕ → List Table → ℕ → Item → Task → Type 0
IsTaskLike nodes homes slots p tables x (item.Node t feeds) task =
    (n : ℕ) × (one : Table) × (other : Table) × (task ≡ eval_for homes slots p x n feeds) × (slice_get tables n ≡ Some one) × (slice_get nodes.tables t ≡ Some other) × AreAlike one other
IsTaskLike nodes homes slots p tables x (item.Latch op) task = task ≡ Hold (slot_of slots x) (source_of homes slots p op true)
IsTaskLike nodes homes slots p tables x other task = ⊥

module _ {nodes : NodeNet} {homes : Homes} {slots : List ℕ} {claims : List (List ℕ)} {image : Image} (is : IsPlacedBy nodes homes slots claims image) where
  -- a place that claims an item is the item's
  claimed_place : (p slot x : ℕ) → ClaimsIn image claims p slot x → (slot ≡ slot_of slots x) × (home_of homes x ≡ p)
  claimed_place p slot x claim = (
    one_some slot (slot_of slots x) (sym claim.stands ∙ made_there (slot_of slots) (item_slots claim.port.work) (claims_of claims p) claim.i x (is.placed p claim.port claim.is) claim.claimed),
    ap (home_of homes) at.2 ∙ at.1.1,
  ) where
    low : p < ports_of homes
    low = let within = slice_get_within image.ports p claim.port claim.is in let count = is.planned.ports in let ports = is.ports in omega (arith, within, count, ports)

    at : (i : ℕ) × IsAt nodes homes p i × (x ≡ i)
    at = (is.planned.items p low).each claim.i x claim.claimed

  module _ (p : ℕ) (port : PortImage) (there : IsPort image p port) where
    -- a port doesn't receive from itself
    got_away : (slot : ℕ) (last : Bool) → IsThere port (Got slot last) → sender_in port.ins slot ≢ p
    got_away slot last (k, stands) same =
        let found = mapped_at (λ l. l.slot) port.ins k slot stands in
        let mine = is.fits.ports p port there in
        let link = mine.receives k found.0 found.1 in
        let sent = (is.fits.ports found.0.sender link.sender link.is).sends link.sends.0 link.sent link.sends.1 in
        let from : sender_in port.ins found.0.slot ≡ found.0.sender = sender_found port.ins k found.0 mine.ins found.1 in
        sent.other link.reads.0 p link.reads.1 (sym same ∙ ap (sender_in port.ins) (sym found.2) ∙ from)

    pub carried_source : (source : Source) (feed : Feed) → IsThere port source → Carries image claims p port.ins source feed → source ≡ feed_source homes slots p feed
    carried_source (Own slot last) (From x tag) stands (claim, of_last) =
        let place = claimed_place p slot x claim in
        ap (λ s. Own s last) place.0 ∙ ap (Own (slot_of slots x)) of_last ∙ sym (own_source homes slots p x (is_last tag) place.1)
    carried_source (Got slot last) (From x tag) stands (claim, of_last) =
        let place = claimed_place (sender_in port.ins slot) slot x claim in
        ap (λ s. Got s last) place.0 ∙ ap (Got (slot_of slots x)) of_last ∙ sym (got_source homes slots p x (is_last tag) (λ same. got_away slot last stands (sym place.1 ∙ same)))
    carried_source (Const v) (Fixed w) stands same = ap Const same
    carried_source (Own slot last) (Fixed w) stands none = absurd none
    carried_source (Got slot last) (Fixed w) stands none = absurd none
    carried_source (Const v) (From x tag) stands none = absurd none

    carried_all : (sources : List Source) (items : List ℕ) → Each (IsPast port) sources → CarryAll image claims p port.ins sources items → sources ≡ pasts homes slots p items
    carried_all sources items past carry =
        same_by sources (pasts homes slots p items) (carry.as_many ∙ sym (length-map items (λ o. source_of homes slots p o true))) (λ k x y here made.
        let from = mapped_at (λ o. source_of homes slots p o true) items k y made in
        carried_source x (From from.0 Last) (past k x here).there (carry.each k from.0 x here from.1) ∙ from.2)

    pub memory_is : (block : BlockWork) (memory : NodeBlock) → IsBlock port block → MemoryImplements image claims p port.ins block memory → block ≡ block_for homes slots p memory
    memory_is block memory formed same =
        ap (λ s. record { we = s; address = block.address; word = block.word }) (carried_source block.we (From memory.we Last) formed.we.there same.we)
        ∙ ap (λ s. record { we = source_of homes slots p memory.we true; address = s; word = block.word }) (carried_all block.address memory.address formed.address same.address)
        ∙ ap (λ s. record { we = source_of homes slots p memory.we true; address = pasts homes slots p memory.address; word = s }) (carried_all block.word memory.word formed.word same.word)

    pub task_like : (tables : List Table) (x : ℕ) (one : Item) (task : Task) → IsTask port (length tables) task → task_slot task ≡ slot_of slots x → TaskImplements image claims nodes p port.ins tables task one
        → IsTaskLike nodes homes slots p tables x one task
    task_like tables x (item.Node t feeds) (Eval slot n a b c d) formed at (first, second, here, there_too, alike, from_a, from_b, from_c, from_d) = (
      n,
      first,
      second,
      ap (λ s. Eval s n a b c d) at
          ∙ ap (λ s. Eval (slot_of slots x) n s b c d) (carried_source a feeds.a formed.1.there from_a)
          ∙ ap (λ s. Eval (slot_of slots x) n (feed_source homes slots p feeds.a) s c d) (carried_source b feeds.b formed.2.there from_b)
          ∙ ap (λ s. Eval (slot_of slots x) n (feed_source homes slots p feeds.a) (feed_source homes slots p feeds.b) s d) (carried_source c feeds.c formed.3.there from_c)
          ∙ ap (λ s. Eval (slot_of slots x) n (feed_source homes slots p feeds.a) (feed_source homes slots p feeds.b) (feed_source homes slots p feeds.c) s) (carried_source d feeds.d formed.4.there from_d),
      here,
      there_too,
      alike,
    )
    task_like tables x (item.Latch op) (Hold slot from) formed at carries =
        ap (λ s. Hold s from) at ∙ ap (Hold (slot_of slots x)) (carried_source from (From op Last) formed.there carries)
    task_like tables x (item.Latch op) (Eval slot n a b c d) formed at none = absurd none
    task_like tables x (item.Input column) (Eval slot n a b c d) formed at none = absurd none
    task_like tables x (item.BlockBit m bit) (Eval slot n a b c d) formed at none = absurd none
    task_like tables x (item.Node t feeds) (Hold slot from) formed at none = absurd none
    task_like tables x (item.Input column) (Hold slot from) formed at none = absurd none
    task_like tables x (item.BlockBit m bit) (Hold slot from) formed at none = absurd none
