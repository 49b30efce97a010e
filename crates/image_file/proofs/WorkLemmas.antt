-- What a line adds to a text so far: itself, behind the lines that are there.
use Rattle.std.proofs.Common.{◌≡◌, ℕ, ◌+◌, ◌≤◌, ◌==◌, true, List, [], ◌∷◌, ◌++◌, length, map, refl, sym, ap, ◌∙◌, arith, append-nil, append_assoc, length-append}
use Rattle.std.proofs.lemmas.List.{length-map, map-append, nil_from_length, Sums.sum_by_push}
use Rattle.limits.specs.declared.TheConstants.{MAX_FUNCTIONS, MAX_ARRAY_BITS}
use Rattle.image_defs.specs.declared.image.{Work.Work, Work.TheVariants.Logic, Work.TheVariants.Array, Work.TheVariants.Host, PortImage.PortImage}
use Rattle.image_defs.specs.{Places.item_slots, Places.task_slot, declared.file.PortClaims.PortClaims}
use Rattle.image_lines.specs.declared.line.Line.{Line}
use Rattle.image_lines.specs.declared.line.Line.TheVariants as line
use Rattle.image_file.specs.Files.{claimed, work_lines, port_lines, all_port_lines, kind_of}
use Rattle.image_file.specs.Drafts.{work_allows, work_holds, work_with, items_with, bits_with}
use Rattle.image_file.specs.Ranges.{tables_of, bits_of, block_bits}

pub nil_of : {X : Type 0} (xs : List X) → (length xs == 0) ≡ true → xs ≡ []
nil_of xs is = nil_from_length xs (grind (arith, is))

pub claimed_more : {X : Type 0} (make : X → ℕ → Line) (xs : List X) (items : List ℕ) (x : X) (item : ℕ) → length items ≡ length xs
    → claimed make (xs ++ x ∷ []) (items ++ item ∷ []) ≡ claimed make xs items ++ make x item ∷ []
claimed_more make [] [] x item same = refl
claimed_more make [] (other ∷ items) x item same = absurd (omega (arith, same))
claimed_more make (y ∷ xs) [] x item same = absurd (omega (arith, same))
claimed_more make (y ∷ xs) (other ∷ items) x item same =
    ap (λ (ls : List Line). make y other ∷ ls) (claimed_more make xs items x item (omega (arith, same)))

pub ports_more : (ports : List PortImage) (claims : List PortClaims) (port : PortImage) (claim : PortClaims) → length claims ≡ length ports
    → all_port_lines (ports ++ port ∷ []) (claims ++ claim ∷ []) ≡ all_port_lines ports claims ++ port_lines port claim.items
ports_more [] [] port claim same = append-nil (port_lines port claim.items)
ports_more [] (other ∷ claims) port claim same = absurd (omega (arith, same))
ports_more (other ∷ ports) [] port claim same = absurd (omega (arith, same))
ports_more (first ∷ ports) (own ∷ claims) port claim same =
    ap (λ (ls : List Line). port_lines first own.items ++ ls) (ports_more ports claims port claim (omega (arith, same)))
    ∙ sym (append_assoc (port_lines first own.items) (all_port_lines ports claims) (port_lines port claim.items))

pub claims_of_map : {X : Type 0} (slot : X → ℕ) (items : List ℕ) (xs : List X) → length items ≡ length (map slot xs) → length items ≡ length xs
claims_of_map slot items xs same = same ∙ length-map xs slot

-- ---- what a port does

-- what is known of a port's work as far as it has been read
pub record IsHeld (work : Work) (items : List ℕ) (bits : ℕ) : Type 0 where
  pub claims : length items ≡ length (item_slots work)
  pub bits_are : bits ≡ bits_of work
  pub few_bits : bits ≤ MAX_ARRAY_BITS
  pub few_tables : length (tables_of work) ≤ MAX_FUNCTIONS

pub record WorkStep (work : Work) (items : List ℕ) (bits : ℕ) (said : Line) : Type 0 where
  pub lines : work_lines (work_with work said) (items_with items said) ≡ work_lines work items ++ said ∷ []
  pub held : IsHeld (work_with work said) (items_with items said) (bits_with bits said)
  pub kind : kind_of (work_with work said) ≡ kind_of work

more_held : (work other : Work) (items : List ℕ) (item bits : ℕ) → IsHeld work items bits → length (item_slots other) ≡ length (item_slots work) + 1
    → bits_of other ≡ bits_of work → tables_of other ≡ tables_of work → IsHeld other (items ++ item ∷ []) bits
more_held work other items item bits held slots same tables = record {
  claims = omega (arith, length-append items (item ∷ []), held.claims, slots);
  bits_are = held.bits_are ∙ sym same;
  few_bits = held.few_bits;
  few_tables = rw tables held.few_tables;
}

pub pushed : {X : Type 0} (make : X → Line) (xs : List X) (x : X) → map make (xs ++ x ∷ []) ≡ map make xs ++ make x ∷ []
pushed make xs x = map-append make xs (x ∷ [])

slots_more : {X : Type 0} (slot : X → ℕ) (xs : List X) (x : X) → length (map slot (xs ++ x ∷ [])) ≡ length (map slot xs) + 1
slots_more slot xs x = ap (λ (ns : List ℕ). length ns) (map-append slot xs (x ∷ [])) ∙ length-append (map slot xs) (slot x ∷ [])

pub work_step : (work : Work) (items : List ℕ) (bits : ℕ) (said : Line) → IsHeld work items bits → work_allows work said ≡ true → work_holds work bits said ≡ true
    → WorkStep work items bits said
work_step (Logic tables tasks) items bits (line.Table table) held may room =
    let none = nil_of tasks may in record {
      lines = rw none (ap (λ (ls : List Line). ls ++ []) (pushed line.Table tables table) ∙ append-nil (map line.Table tables ++ line.Table table ∷ []) ∙ ap (λ (ls : List Line). ls ++ line.Table table ∷ []) (sym (append-nil (map line.Table tables))));
      held = record { claims = held.claims; bits_are = held.bits_are; few_bits = held.few_bits; few_tables = grind (arith, length-append tables (table ∷ []), room) };
      kind = refl;
    }
work_step (Logic tables tasks) items bits (line.Work task item) held may room =
    record {
      lines = ap (λ (ls : List Line). map line.Table tables ++ ls) (claimed_more line.Work tasks items task item (claims_of_map task_slot items tasks held.claims)) ∙ sym (append_assoc (map line.Table tables) (claimed line.Work tasks items) (line.Work task item ∷ []));
      held = more_held (Logic tables tasks) (Logic tables (tasks ++ task ∷ [])) items item bits held (slots_more task_slot tasks task) refl refl;
      kind = refl;
    }
work_step (Logic tables tasks) items bits said held may room = cc
work_step (Array blocks outs) items bits (line.Block block) held may room =
    let none = nil_of outs may in record {
      lines = rw none (ap (λ (ls : List Line). ls ++ []) (pushed line.Block blocks block) ∙ append-nil (map line.Block blocks ++ line.Block block ∷ []) ∙ ap (λ (ls : List Line). ls ++ line.Block block ∷ []) (sym (append-nil (map line.Block blocks))));
      held = record { claims = held.claims; bits_are = ap (λ n. n + block_bits block) held.bits_are ∙ sym (sum_by_push block_bits blocks block); few_bits = grind (arith, room); few_tables = held.few_tables };
      kind = refl;
    }
work_step (Array blocks outs) items bits (line.Bit bit item) held may room =
    record {
      lines = ap (λ (ls : List Line). map line.Block blocks ++ ls) (claimed_more line.Bit outs items bit item (claims_of_map (λ out. out.slot) items outs held.claims)) ∙ sym (append_assoc (map line.Block blocks) (claimed line.Bit outs items) (line.Bit bit item ∷ []));
      held = more_held (Array blocks outs) (Array blocks (outs ++ bit ∷ [])) items item bits held (slots_more (λ out. out.slot) outs bit) refl refl;
      kind = refl;
    }
work_step (Array blocks outs) items bits said held may room = cc
work_step (Host inputs printed) items bits (line.Input input item) held may room =
    let none = nil_of printed may in record {
      lines = rw none (append-nil (claimed line.Input (inputs ++ input ∷ []) (items ++ item ∷ [])) ∙ claimed_more line.Input inputs items input item (claims_of_map (λ input. input.slot) items inputs held.claims) ∙ ap (λ (ls : List Line). ls ++ line.Input input item ∷ []) (sym (append-nil (claimed line.Input inputs items))));
      held = more_held (Host inputs printed) (Host (inputs ++ input ∷ []) printed) items item bits held (slots_more (λ input. input.slot) inputs input) refl refl;
      kind = refl;
    }
work_step (Host inputs printed) items bits (line.Print source) held may room =
    record {
      lines = ap (λ (ls : List Line). claimed line.Input inputs items ++ ls) (pushed line.Print printed source) ∙ sym (append_assoc (claimed line.Input inputs items) (map line.Print printed) (line.Print source ∷ []));
      held = record { claims = held.claims; bits_are = held.bits_are; few_bits = held.few_bits; few_tables = held.few_tables };
      kind = refl;
    }
work_step (Host inputs printed) items bits said held may room = cc
