-- The writes of all memories, one after the other.
use Rattle.std.proofs.Common.{◌≡◌, ◌≢◌, ◌∙◌, ℕ, ◌+◌, ◌<◌, inl, inr, List, [], length, get_or, set, refl, sym, ap, subst, arith, Some}
use Rattle.std.proofs.lemmas.List.{length-set, get_or-set_same, get_or-set_other, get_or_default}
use Rattle.std.proofs.lemmas.{Bool.Decides.eqb_tells, Option.slice_get-get_or}
use Rattle.std.specs.List.{slice_get, refill}
use Rattle.logic_four.specs.{declared.V4.V4, Memory.HasShape, Memory.written}
use Rattle.net_defs.specs.{declared.netlist.Netlist.Netlist, declared.netlist.Block.Block, Time.value_at, Steps.values_of}
use Rattle.list_laws.proofs.Ranges.{last_or}
use Rattle.net_ops.specs.{States.AreShaped, code.States.WroteMemories}
use Rattle.net_ops.proofs.lemmas.Writes.{refill_set}

-- a memory of a netlist by its number
pub memory_here : (net : Netlist) (m : ℕ) (memory : Block) → m < length net.blocks → memory ≡ get_or net.blocks m memory → slice_get net.blocks m ≡ Some memory
memory_here net m memory within is = slice_get-get_or net.blocks m memory within ∙ ap Some (sym is)

pub same_memory : (net : Netlist) (m : ℕ) (memory other : Block) → m < length net.blocks → memory ≡ get_or net.blocks m memory → slice_get net.blocks m ≡ Some other → other ≡ memory
same_memory net m memory other within is at = let both = sym at ∙ memory_here net m memory within is in cc

-- no memory has written yet
pub wrote_none : (net : Netlist) (row : List V4) (words : List (List (List V4))) → WroteMemories net row 0 words words
wrote_none net row words = record {
  memories = refl;
  written = λ m memory below at. absurd (omega arith);
  others = λ m above. refl;
}

module _ (net : Netlist) (row : List V4) (old words now : List (List (List V4))) (m : ℕ) (memory : Block) (item : List (List V4)) (shaped : AreShaped net old) (so_far : WroteMemories net row m old words) (same : now ≡ words) (within : m < length net.blocks) (is : memory ≡ get_or net.blocks m memory) where
  pub here : get_or now m item ≡ get_or old m []
  here = ap (λ list. get_or list m item) same ∙ (get_or_default words m item [] (omega (arith, so_far.memories, shaped.memories)) ∙ so_far.others m (omega arith))

  pub shape_here : HasShape (length memory.address) (length memory.word) (get_or now m item)
  shape_here = subst (HasShape (length memory.address) (length memory.word)) (sym here) (shaped.shape m memory (memory_here net m memory within is))

  pub wrote_more : (new : List (List V4)) → new ≡ written (get_or now m item) (value_at row memory.we) (values_of row memory.address) (values_of row memory.word)
      → WroteMemories net row (m + 1) old (refill (length words) words (set now m new))
  wrote_more new did = rw (refill_set words now m new same) (record {
    memories = length-set words m new ∙ so_far.memories;
    written = λ k other below at. elim (eqb_tells k m) [
      | inl h ↦
          let at_m : slice_get net.blocks m ≡ Some other = subst (λ n. slice_get net.blocks n ≡ Some other) h.1 at in
          let equal : other ≡ memory = same_memory net m memory other within is at_m in
          let room : m < length words = omega (arith, so_far.memories, shaped.memories) in
          ap (λ n. get_or (set words m new) n []) h.1 ∙ (get_or-set_same words m new [] room ∙ (did
          ∙ (ap (λ block. written (get_or now m item) (value_at row block.we) (values_of row block.address) (values_of row block.word)) (sym equal)
          ∙ (ap (λ list. written list (value_at row other.we) (values_of row other.address) (values_of row other.word)) here
          ∙ ap (λ n. written (get_or old n []) (value_at row other.we) (values_of row other.address) (values_of row other.word)) (sym h.1)))))
      | inr h ↦ get_or-set_other words m k new [] h.1 ∙ so_far.written k other (elim (last_or k m below) [ inl j ↦ j | inr j ↦ absurd (h.1 j) ]) at
    ];
    others = λ k above.
        let other : k ≢ m = omega arith in
        get_or-set_other words m k new [] other ∙ so_far.others k (omega arith);
  })
