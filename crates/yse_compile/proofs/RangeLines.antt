-- The lines of a file are in their ranges, where its image is well formed and has few parts.
use Rattle.std.proofs.Common.{◌≡◌, ◌∙◌, ℕ, suc, ◌^◌, ◌<◌, ◌≤◌, ◌&&◌, true, List, [], ◌∷◌, ◌++◌, length, map, get_or, Some, slice_get, refl, ap, All, arith, nat_le}
use Rattle.std.proofs.lemmas.List.Elements.{All-nil, All-cons, All-append, All-map}
use Rattle.std.proofs.lemmas.{Bool.le-leb, Bool.and_from, Option.slice_get-map, Option.slice_get_within, Option.slice_get-get_or}
use Rattle.std.specs.{Prelude.option_map, List.zip}
use Rattle.limits.specs.declared.TheConstants.{MAX_SLOTS, MAX_UNITS, MAX_SIGNALS, MAX_PORTS, MAX_ADDRESS_BITS, MAX_WORD_BITS}
use Rattle.list_laws.proofs.Members.{all_flat_of}
use Rattle.image_defs.specs.Places.{Each, IsPort, item_slots, task_slot, blocks_of}
use Rattle.image_defs.specs.WellFormed.{IsThere, IsTask, IsBlock, IsWork, IsLinkOut, IsLinkIn, ReceivesFrom, IsPortImage, IsWellFormed}
use Rattle.image_defs.specs.declared.image.{Source.Source, Source.TheVariants.Own, Source.TheVariants.Got, Source.TheVariants.Const, Task.Task}
use Rattle.image_defs.specs.declared.image.{Task.TheVariants.Eval, Task.TheVariants.Hold, BlockWork.BlockWork, Work.Work}
use Rattle.image_defs.specs.declared.image.{Work.TheVariants.Logic, Work.TheVariants.Array, Work.TheVariants.Host, PortImage.PortImage}
use Rattle.image_defs.specs.declared.file.{PortClaims.PortClaims, ImageFile.ImageFile}
use Rattle.image_lines.specs.Ranges.{IsSmall, IsSmallSource, IsSmallTask, IsInRange}
use Rattle.image_lines.specs.declared.line.Line.{Line}
use Rattle.image_lines.specs.declared.line.Line.TheVariants as line
use Rattle.image_file.specs.Files.{sizes_of, kind_of, claimed, work_lines, port_lines, all_port_lines, file_lines}
use Rattle.image_file.specs.Ranges.{tables_of}
use Rattle.func_table.specs.Entries.{HasWords}

-- ---- lists

-- what holds of each member by its place holds of all
pub all_of_each : {X : Type 0} (P : X → Type 0) (xs : List X) → Each P xs → All P xs
all_of_each P xs holds k d low = holds k (get_or xs k d) (slice_get-get_or xs k d low)

each_of_map : {X Y : Type 0} (P : Y → Type 0) (f : X → Y) (xs : List X) → Each P (map f xs) → Each (λ x. P (f x)) xs
each_of_map P f xs holds i x at = holds i (f x) (slice_get-map f xs i ∙ ap (option_map f) at)

all_zip : {X Y : Type 0} (P : X × Y → Type 0) (xs : List X) (ys : List Y) → ((i : ℕ) (x : X) (y : Y) → slice_get xs i ≡ Some x → slice_get ys i ≡ Some y → P (x, y)) → All P (zip xs ys)
all_zip P [] ys holds = All-nil P
all_zip P (x ∷ xs) [] holds = All-nil P
all_zip P (x ∷ xs) (y ∷ ys) holds = All-cons P (x, y) (zip xs ys) (holds 0 x y refl refl) (all_zip P xs ys (λ i z w here there. holds (suc i) z w here there))

all_claimed : {X : Type 0} (make : X → ℕ → Line) (xs : List X) (items : List ℕ) → ((i : ℕ) (x : X) (y : ℕ) → slice_get xs i ≡ Some x → slice_get items i ≡ Some y → IsInRange (make x y)) → All IsInRange (claimed make xs items)
all_claimed {X} make xs items holds = All-map IsInRange (λ (x : X × ℕ). make x.0 x.1) (zip xs items) (all_zip (λ x. IsInRange (make x.0 x.1)) xs items holds)

from_one : (most n : ℕ) → (1 ≤ n) × (n ≤ most) → (nat_le 1 n && nat_le n most) ≡ true
from_one most n (some, few) = and_from (nat_le 1 n) (nat_le n most) (le-leb 1 n some) (le-leb n most few)

-- ---- what a port does

-- the slots are below this, and the sources that are there are small
module _ (slots : ℕ) (few : slots ≤ MAX_SLOTS) (columns : ℕ) (few_columns : columns ≤ MAX_SIGNALS) (port : PortImage) (there : (source : Source) → IsThere port source → IsSmallSource source) (items : List ℕ) (named : Each IsSmall items) where
  slot_small : (slot : ℕ) → slot < slots → IsSmall slot
  slot_small slot low = omega (arith, low, few)

  task_small : (tables : ℕ) → tables < 2 ^ 32 → (task : Task) → task_slot task < slots → IsTask port tables task → IsSmallTask task
  task_small tables many (Eval slot table a b c d) low (within, first, second, third, fourth) =
      ((slot_small slot low, omega (arith, within, many)), ((there a first.there, there b second.there), (there c third.there, there d fourth.there)))
  task_small tables many (Hold slot from) low past = (slot_small slot low, there from past.there)

  block_in_range : (block : BlockWork) → IsBlock port block → IsInRange (line.Block block)
  block_in_range block is = record {
    small = (
      (let most = is.address_bits.1 in omega (arith, most), let most = is.word_bits.1 in omega (arith, most)),
      (
        there block.we is.we.there,
        (all_of_each IsSmallSource block.address (λ i s at. there s (is.address i s at).there), all_of_each IsSmallSource block.word (λ i s at. there s (is.word i s at).there)),
      ),
    );
    within = and_from (nat_le 1 (length block.address) && nat_le (length block.address) MAX_ADDRESS_BITS) (nat_le 1 (length block.word) && nat_le (length block.word) MAX_WORD_BITS)
        (from_one MAX_ADDRESS_BITS (length block.address) is.address_bits) (from_one MAX_WORD_BITS (length block.word) is.word_bits);
  }

  work_in_range : (work : Work) → IsWork columns port work → Each (λ slot. slot < slots) (item_slots work) → Each HasWords (tables_of work) → length (tables_of work) < 2 ^ 32 → length (blocks_of work) < 2 ^ 32
      → All IsInRange (work_lines work items)
  work_in_range (Logic tables tasks) is low words many blocks =
      All-append IsInRange (map line.Table tables) (claimed line.Work tasks items)
      (All-map IsInRange line.Table tables (all_of_each (λ table. IsInRange (line.Table table)) tables (λ i table at. record { small = ((words i table at).eight, (words i table at).words); within = refl })))
      (all_claimed line.Work tasks items (λ i task item at claim. record {
        small = (task_small (length tables) many task (each_of_map (λ slot. slot < slots) task_slot tasks low i task at) (is i task at), named i item claim);
        within = refl;
      }))
  work_in_range (Array blocks outs) (are, bits) low words tables many =
      All-append IsInRange (map line.Block blocks) (claimed line.Bit outs items)
      (All-map IsInRange line.Block blocks (all_of_each (λ block. IsInRange (line.Block block)) blocks (λ i block at. block_in_range block (are i block at))))
      (all_claimed line.Bit outs items (λ i out item at claim.
      let bit = bits i out at in
      let block_low = slice_get_within blocks out.block bit.0 bit.1 in
      let word = (are out.block bit.0 bit.1).word_bits.1 in
      let bit_low = bit.2 in
      record {
        small = (
          (slot_small out.slot (each_of_map (λ slot. slot < slots) (λ out. out.slot) outs low i out at), omega (arith, block_low, many)),
          (omega (arith, bit_low, word), named i item claim),
        );
        within = refl;
      }))
  work_in_range (Host inputs printed) (are, prints) low words tables blocks =
      All-append IsInRange (claimed line.Input inputs items) (map line.Print printed)
      (all_claimed line.Input inputs items (λ i input item at claim.
      let within = are i input at in
      record {
        small = (slot_small input.slot (each_of_map (λ slot. slot < slots) (λ input. input.slot) inputs low i input at), (omega (arith, within, few_columns), named i item claim));
        within = refl;
      }))
      (All-map IsInRange line.Print printed (all_of_each (λ source. IsInRange (line.Print source)) printed (λ i source at. record { small = there source (prints i source at).there; within = refl })))

-- ---- whole files

module _ (file : ImageFile) (formed : IsWellFormed file.image) (columns : file.image.columns ≤ MAX_SIGNALS)
    (words : Each (λ port. Each HasWords (tables_of port.work)) file.image.ports)
    (tables : Each (λ port. length (tables_of port.work) < 2 ^ 32) file.image.ports)
    (blocks : Each (λ port. length (blocks_of port.work) < 2 ^ 32) file.image.ports)
    (named : Each (λ claims. Each IsSmall claims.items) file.claims.ports) where
  there_small : (p : ℕ) (port : PortImage) → IsPort file.image p port → (source : Source) → IsThere port source → IsSmallSource source
  there_small p port at (Own slot last) found = let low = (formed.ports p port at).item_slots_within found.0 slot found.1 in let few = formed.slots in omega (arith, low, few)
  there_small p port at (Got slot last) found = let low = (formed.ports p port at).in_slots_within found.0 slot found.1 in let few = formed.slots in omega (arith, low, few)
  there_small p port at (Const v) found = tt

  port_small : (p : ℕ) (port : PortImage) → IsPort file.image p port → IsSmall p
  port_small p port at = let low = slice_get_within file.image.ports p port at in let few = formed.most_ports in omega (arith, low, few)

  sends_in_range : (p : ℕ) (port : PortImage) → IsPort file.image p port → All IsInRange (map line.Send port.outs)
  sends_in_range p port at = All-map IsInRange line.Send port.outs (all_of_each (λ link. IsInRange (line.Send link)) port.outs (λ i link here.
      let is : IsLinkOut file.image p port link = (formed.ports p port at).sends i link here in
      let low = (formed.ports p port at).item_slots_within is.item.0 link.slot is.item.1 in
      let few = formed.slots in
      record {
        small = (omega (arith, low, few), (is.some, all_of_each IsSmall link.readers (λ k r reads. let heard : ReceivesFrom file.image r link.slot p = is.received k r reads in port_small r heard.port heard.is)));
        within = refl;
      }))

  takes_in_range : (p : ℕ) (port : PortImage) → IsPort file.image p port → All IsInRange (map line.Take port.ins)
  takes_in_range p port at = All-map IsInRange line.Take port.ins (all_of_each (λ link. IsInRange (line.Take link)) port.ins (λ i link here.
      let is : IsLinkIn file.image p link = (formed.ports p port at).receives i link here in
      let low = each_of_map (λ slot. slot < file.image.slots) (λ link. link.slot) port.ins (formed.ports p port at).in_slots_within i link here in
      let few = formed.slots in
      record { small = (omega (arith, low, few), port_small link.sender is.sender is.is); within = refl }))

  port_in_range : (p : ℕ) (port : PortImage) (claims : PortClaims) → IsPort file.image p port → slice_get file.claims.ports p ≡ Some claims → All IsInRange (port_lines port claims.items)
  port_in_range p port claims at claim =
      let right : IsPortImage file.image p port = formed.ports p port at in
      All-cons IsInRange (line.Port (kind_of port.work)) (work_lines port.work claims.items ++ map line.Send port.outs ++ map line.Take port.ins) (record { small = tt; within = refl })
      (All-append IsInRange (work_lines port.work claims.items ++ map line.Send port.outs) (map line.Take port.ins)
      (All-append IsInRange (work_lines port.work claims.items) (map line.Send port.outs)
      (work_in_range file.image.slots formed.slots file.image.columns columns port (there_small p port at) claims.items (named p claims claim) port.work right.work right.item_slots_within (words p port at) (tables p port at) (blocks p port at))
      (sends_in_range p port at)) (takes_in_range p port at))

  ports_in_range : All IsInRange (all_port_lines file.image.ports file.claims.ports)
  ports_in_range =
      all_flat_of IsInRange (λ (port : PortImage × PortClaims). port_lines port.0 port.1.items) (zip file.image.ports file.claims.ports)
      (all_zip (λ port. All IsInRange (port_lines port.0 port.1.items)) file.image.ports file.claims.ports port_in_range)

  head_in_range : IsInRange (line.Head (sizes_of file.image))
  head_in_range = record {
    small = (
      (let few = formed.slots in omega (arith, few), let few = formed.units.1 in omega (arith, few)),
      (tt, (omega (arith, columns), let few = formed.most_ports in omega (arith, few))),
    );
    within = within;
  } where
    within : (nat_le file.image.slots MAX_SLOTS && (nat_le 1 file.image.units && nat_le file.image.units MAX_UNITS) && nat_le file.image.columns MAX_SIGNALS && (nat_le 1 (length file.image.ports) && nat_le (length file.image.ports) MAX_PORTS)) ≡ true
    within = rw (le-leb file.image.slots MAX_SLOTS formed.slots, le-leb 1 file.image.units formed.units.0, le-leb file.image.units MAX_UNITS formed.units.1, le-leb file.image.columns MAX_SIGNALS columns, le-leb 1 (length file.image.ports) formed.some_ports, le-leb (length file.image.ports) MAX_PORTS formed.most_ports) refl

  pub lines_in_range : All IsInRange (file_lines file)
  lines_in_range =
      All-cons IsInRange line.Version (line.Head (sizes_of file.image) ∷ all_port_lines file.image.ports file.claims.ports ++ line.End ∷ []) (record { small = tt; within = refl })
      (All-cons IsInRange (line.Head (sizes_of file.image)) (all_port_lines file.image.ports file.claims.ports ++ line.End ∷ []) head_in_range
      (All-append IsInRange (all_port_lines file.image.ports file.claims.ports) (line.End ∷ []) ports_in_range (All-cons IsInRange line.End [] (record { small = tt; within = refl }) (All-nil IsInRange))))
