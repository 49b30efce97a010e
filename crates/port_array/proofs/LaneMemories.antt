-- The memories of all lanes, one by one and lane by lane.
use Rattle.std.proofs.Common.{◌≡◌, ◌≢◌, ◌∙◌, inl, inr, ℕ, ◌+◌, ◌<◌, List, [], ◌∷◌, ◌++◌, length, replicate, get_or, set, slice_get, Some, sym, ap, subst, arith}
use Rattle.std.proofs.lemmas.List.{length-map, length-set, length-replicate, length_push, get_or-replicate, map-set}
use Rattle.std.proofs.lemmas.{Bool.cases_eq, Option.slice_get-map, Option.slice_get_within}
use Rattle.std.specs.Option.{option_map}
use Rattle.list_laws.proofs.{Places.one_there, Places.at_front, Places.seam_at, Ranges.last_or}
use Rattle.logic_four.specs.{declared.V4.V4, Memory.initial_words, Memory.HasShape}
use Rattle.logic_four.proofs.lemmas.MemoryLemmas.{first_shape}
use Rattle.image_defs.specs.{declared.image.BlockWork.BlockWork, Ports.View, Ports.lane_port}
use Rattle.image_defs.proofs.lemmas.PlaceLemmas.{at_map}
use Rattle.port_bank.specs.declared.word.Word as word
use Rattle.port_bank.specs.Places.{lane_values}
use Rattle.port_array.specs.Lanes.{lane_memory, lane_memories, IsWhole, AreWhole}
use Rattle.port_array.specs.code.Lanes.{IsFirst, Stays, HasActed, AreFirst, HaveActed}
use Rattle.port_array.specs.{declared.memory.MemoryState.MemoryState, Acts.LaneMemory, code.Acts.act_at, code.Acts.Acted, code.Acts.AreActed}
use Rattle.port_array.specs.Acts as plain
use Rattle.port_array.specs.code.Acts as plain_code
use Rattle.port_array.proofs.MemoryLemmas.{set_place, acted_more}

module _ {W P F S : Type 0} (w : word.Ghosts W P F S) where
  -- ---- one memory

  -- as long in each lane as the planes
  pub lane_long : (l : ℕ) (memory : MemoryState W) → length (lane_values w.lane l memory.outs) ≡ length memory.outs
  lane_long l memory = length-map memory.outs (λ p. w.lane p l)

  -- a memory before the first edge
  pub first_of : (v : V4) (block : BlockWork) (memory : MemoryState W) → memory.cells ≡ replicate w.lanes (initial_words (length block.address) (length block.word) v)
      → length memory.address ≡ length block.address → length memory.word ≡ length block.word → length memory.answers ≡ length block.word → length memory.outs ≡ length block.word
      → IsFirst w v block memory
  first_of v block memory cells address word answers outs = record {
    whole = record {
      lanes = ap length cells ∙ length-replicate w.lanes words;
      answers = answers;
      fits = λ l low. record {
        shape = subst (HasShape (length block.address) (length block.word)) (sym (words_are l low)) (first_shape (length block.address) (length block.word) v);
        address = address;
        word = word;
        outs = lane_long l memory ∙ outs;
      };
    };
    words = words_are;
  } where
    words : List (List V4)
    words = initial_words (length block.address) (length block.word) v

    words_are : (l : ℕ) → l < w.lanes → (lane_memory w l memory).cells ≡ words
    words_are l low = ap (λ list. get_or list l []) cells ∙ get_or-replicate w.lanes l words [] low

  -- the words of a lane changed, and those of the others stayed
  pub whole_after : (block : BlockWork) (k : ℕ) (old new : MemoryState W) → IsWhole w block old → length new.cells ≡ length old.cells
      → length new.address ≡ length block.address → length new.word ≡ length block.word → length new.answers ≡ length block.word → length new.outs ≡ length old.outs
      → HasShape (length block.address) (length block.word) (lane_memory w k new).cells
      → ((l : ℕ) → l < w.lanes → l ≢ k → (lane_memory w l new).cells ≡ (lane_memory w l old).cells) → IsWhole w block new
  whole_after block k old new whole cells address word answers outs shape others = record {
    lanes = cells ∙ whole.lanes;
    answers = answers;
    fits = λ l low. record {
      shape = shape_at l low;
      address = address;
      word = word;
      outs = lane_long l new ∙ outs ∙ sym (lane_long l old) ∙ (whole.fits l low).outs;
    };
  } where
    shape_at : (l : ℕ) → l < w.lanes → HasShape (length block.address) (length block.word) (lane_memory w l new).cells
    shape_at l low = elim (cases_eq l k) [
      | inl same ↦ subst (λ n. HasShape (length block.address) (length block.word) (lane_memory w n new).cells) (sym same) shape
      | inr other ↦ subst (HasShape (length block.address) (length block.word)) (sym (others l low other)) (whole.fits l low).shape
    ]

  -- one lane more went through an edge
  pub acted_lane : (view : View S) (block : BlockWork) (k : ℕ) (old now new : MemoryState W) → k < w.lanes → HasActed w view block k old now
      → Acted (lane_port w.stimulus k view) block (lane_memory w k now) (lane_memory w k new) → ((l : ℕ) → l < w.lanes → l ≢ k → Stays w l now new) → HasActed w view block (k + 1) old new
  acted_lane view block k old now new low so_far here others = record {
    acted = λ l before. elim (last_or l k before) [
      | inl earlier ↦ stayed l earlier
      | inr same ↦ subst (λ n. Acted (lane_port w.stimulus n view) block (lane_memory w n old) (lane_memory w n new)) (sym same) at_k
    ];
    rest = λ l past below. (others l below (λ same. omega (arith, same, past))).words ∙ so_far.rest l (omega arith) below;
  } where
    stayed : (l : ℕ) → l < k → Acted (lane_port w.stimulus l view) block (lane_memory w l old) (lane_memory w l new)
    stayed l earlier =
        let kept : Stays w l now new = others l (omega arith) (λ same. omega (arith, same, earlier)) in
        record { words = kept.words ∙ (so_far.acted l earlier).words; outputs = kept.outputs ∙ (so_far.acted l earlier).outputs }

    at_k : Acted (lane_port w.stimulus k view) block (lane_memory w k old) (lane_memory w k new)
    at_k =
        let same : (lane_memory w k now).cells ≡ (lane_memory w k old).cells = so_far.rest k (omega arith) low in
        record {
          words = here.words ∙ ap (λ words. (act_at (lane_port w.stimulus k view) block words).words) same;
          outputs = here.outputs ∙ ap (λ words. (act_at (lane_port w.stimulus k view) block words).outputs) same;
        }

  -- ---- all memories

  -- a memory more, that of the next block
  pub first_more : (v : V4) (blocks : List BlockWork) (memories : List (MemoryState W)) (i : ℕ) (block : BlockWork) (memory : MemoryState W) → length memories ≡ i → slice_get blocks i ≡ Some block → IsFirst w v block memory
      → ((b : ℕ) (other : BlockWork) (m : MemoryState W) → slice_get blocks b ≡ Some other → slice_get memories b ≡ Some m → IsFirst w v other m)
      → (b : ℕ) (other : BlockWork) (m : MemoryState W) → slice_get blocks b ≡ Some other → slice_get (memories ++ memory ∷ []) b ≡ Some m → IsFirst w v other m
  first_more v blocks memories i block memory long at first so_far b other m here there = elim (last_or b (length memories) (omega (arith, length_push memories memory, slice_get_within (memories ++ memory ∷ []) b m there))) [
    | inl low ↦ so_far b other m here (sym (at_front memories (memory ∷ []) b low) ∙ there)
    | inr last ↦
        let same_memory : memory ≡ m = one_there (memories ++ memory ∷ []) (length memories) b memory m (sym last) (seam_at memories memory []) there in
        let same_block : block ≡ other = one_there blocks i b block other (sym (last ∙ long)) at here in
        rw (← same_memory, ← same_block) first
  ]

  -- what stands in a place stands there in each lane
  pub lane_there : (l : ℕ) (memories : List (MemoryState W)) (b : ℕ) (memory : MemoryState W) → slice_get memories b ≡ Some memory → slice_get (lane_memories w l memories) b ≡ Some (lane_memory w l memory)
  lane_there l memories b memory there = slice_get-map (lane_memory w l) memories b ∙ ap (option_map (lane_memory w l)) there

  module _ (blocks : List BlockWork) (now : List (MemoryState W)) (m : ℕ) (block : BlockWork) (new : MemoryState W) (here : slice_get blocks m ≡ Some block) where
    pub whole_more : AreWhole w blocks now → IsWhole w block new → AreWhole w blocks (set now m new)
    whole_more all whole = record {
      long = length-set now m new ∙ all.long;
      each = λ b other memory at there. elim (set_place now m new b memory there) [
        | inl h ↦ let same : block ≡ other = one_there blocks m b block other (sym h.0) here at in rw (← h.1, ← same) whole
        | inr h ↦ all.each b other memory at h.1
      ];
    }

    -- one memory more went through an edge, in each lane
    pub have_more : (view : View S) (old : List (MemoryState W)) (one : MemoryState W) → HaveActed w view blocks m old now → slice_get now m ≡ Some one → HasActed w view block w.lanes one new → HaveActed w view blocks (m + 1) old (set now m new)
    have_more view old one so_far there acted l low =
        subst (AreActed (lane_port w.stimulus l view) blocks (m + 1) (lane_memories w l old)) (sym (map-set (lane_memory w l) now m new))
        (acted_more blocks (lane_memories w l now) m block (lane_memory w l new) here (lane_port w.stimulus l view) (lane_memories w l old) (lane_memory w l one) (so_far l low)
        (lane_there l now m one there) (acted.acted l low))

  -- in each lane they are what plain ones are
  pub lane_fit : (l : ℕ) → l < w.lanes → (blocks : List BlockWork) (memories : List (MemoryState W)) → AreWhole w blocks memories → plain.AreFit blocks (lane_memories w l memories)
  lane_fit l low blocks memories all = record {
    long = length-map memories (lane_memory w l) ∙ all.long;
    each = λ b block memory at there. of_lane b block memory at (at_map (lane_memory w l) memories b memory there);
  } where
    of_lane : (b : ℕ) (block : BlockWork) (memory : LaneMemory) → slice_get blocks b ≡ Some block → (one : MemoryState W) × (slice_get memories b ≡ Some one) × (lane_memory w l one ≡ memory) → plain.FitsMemory block memory
    of_lane b block memory at (one, there, same) = subst (plain.FitsMemory block) same ((all.each b block one at there).fits l low)

  pub lane_first : (l : ℕ) → l < w.lanes → (v : V4) (blocks : List BlockWork) (memories : List (MemoryState W)) → AreFirst w v blocks memories → plain_code.AreFirst v blocks (lane_memories w l memories)
  lane_first l low v blocks memories all = record {
    long = length-map memories (lane_memory w l) ∙ all.long;
    each = λ b block memory at there. of_lane b block memory at (at_map (lane_memory w l) memories b memory there);
  } where
    of_lane : (b : ℕ) (block : BlockWork) (memory : LaneMemory) → slice_get blocks b ≡ Some block → (one : MemoryState W) × (slice_get memories b ≡ Some one) × (lane_memory w l one ≡ memory) → plain_code.IsFirst v block memory
    of_lane b block memory at (one, there, same) =
        subst (plain_code.IsFirst v block) same (record { fits = (all.each b block one at there).whole.fits l low; words = (all.each b block one at there).words l low })
