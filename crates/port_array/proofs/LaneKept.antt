-- An array processor keeps in each lane what a plain one keeps.
use Rattle.std.proofs.Common.{◌≡◌, ℕ, ◌+◌, ◌<◌, true, false, List, length, get_or, sym, ap, subst}
use Rattle.std.proofs.lemmas.Option.{slice_get_within}
use Rattle.net_defs.specs.Time.{is_edge, initial_value}
use Rattle.image_defs.specs.Ports.{View, lane_port, at_first, after_begin, after_execute, after_receive, after_end, CanExecute, value_in}
use Rattle.image_defs.specs.declared.image.{OutBit.OutBit, Work.TheVariants.Array, PortImage.PortImage, Image.Image}
use Rattle.image_defs.specs.{Places.IsPort, WellFormed.IsWellFormed}
use Rattle.port_bank.specs.declared.word.Word as word
use Rattle.port_bank.specs.{Lanes.InEach, Reads.IsHeld, Words.InEachLane, Words.AreValues}
use Rattle.port_bank.proofs.lemmas.LaneLemmas.{in_each, in_lane}
use Rattle.port_array.specs.Lanes.{Parts, lane_memories, lane_array, AreWhole, IsReady}
use Rattle.port_array.specs.{declared.memory.MemoryState.MemoryState, code.Acts.answered_bit, code.Acts.FitsBit}
use Rattle.port_array.specs.code.Lanes.{ReadPast, AreFirst, HaveActed}
use Rattle.port_array.specs.Kept as one_kept
use Rattle.port_array.proofs.KeptLemmas as plain
use Rattle.port_array.proofs.LaneMemories.{lane_fit, lane_first}

module _ {W P F S : Type 0} (w : word.Ghosts W P F S) where
  pub all_read : (a : Parts W S) → IsReady w a → ReadPast w a.bank a.blocks
  all_read a ready l low = plain.blocks_read (lane_array w l a) (ready.each l low)

  -- before the first turn
  pub ready_first : (a : Parts W S) (image : Image) (feed : S) (p : ℕ) (port_image : PortImage) → a.bank ≡ at_first image feed p → IsWellFormed image → IsPort image p port_image
      → port_image.work ≡ Array a.blocks a.bits → AreFirst w (initial_value image.init) a.blocks a.memories → IsReady w a
  ready_first a image feed p port_image bank fits is work first = record {
    port_image = port_image;
    is = subst (λ view. IsPort view.image view.port port_image) (sym bank) is;
    work = work;
    whole = record { long = first.long; each = λ b block memory at there. (first.each b block memory at there).whole };
    each = λ l low.
        plain.ready_first (lane_array w l a) image (w.stimulus image.columns feed l) p port_image (ap (lane_port w.stimulus l) bank) fits is work
        (lane_first w l low (initial_value image.init) a.blocks a.memories first);
  }

  -- a turn begins
  pub ready_begun : (a : Parts W S) (memories : List (MemoryState W)) → IsReady w a → a.bank.begun ≡ false → AreWhole w a.blocks memories
      → (is_edge a.bank.image.units a.bank.turn ≡ true → HaveActed w a.bank a.blocks (length a.blocks) a.memories memories)
      → (is_edge a.bank.image.units a.bank.turn ≡ false → memories ≡ a.memories)
      → (bank : View S) → bank ≡ after_begin a.bank → IsReady w (record a { bank = bank; memories = memories })
  ready_begun a memories ready fresh whole acted same bank begins = record {
    port_image = ready.port_image;
    is = subst (λ view. IsPort view.image view.port ready.port_image) (sym begins) ready.is;
    work = ready.work;
    whole = whole;
    each = λ l low.
        plain.ready_begun (lane_array w l a) (lane_memories w l memories) (ready.each l low) fresh (lane_fit w l low a.blocks memories whole)
        (λ edge. acted edge l low) (λ none. ap (lane_memories w l) (same none)) (lane_port w.stimulus l bank) (ap (lane_port w.stimulus l) begins);
  }

  -- ---- an item is executed

  -- the output bit that is executed next
  module _ (some : 0 < w.lanes) (a : Parts W S) (slot i : ℕ) (d : OutBit) (ready : IsReady w a) (can : InEachLane w (λ view. CanExecute view slot) a.bank) (same : i ≡ a.bank.executed) where
    can_in : (l : ℕ) → l < w.lanes → CanExecute (lane_port w.stimulus l a.bank) slot
    can_in = in_lane w.lanes (λ l. CanExecute (lane_port w.stimulus l a.bank) slot) can

    pub next_fits : FitsBit (lane_memories w 0 a.memories) (get_or a.bits i d)
    next_fits = (plain.next_bit (lane_array w 0 a) slot i d (ready.each 0 some) (can_in 0 some) same).fits

    pub next_within : i < length a.bits
    next_within =
        subst (λ k. k < length a.bits) (sym same)
        (slice_get_within a.bits a.bank.executed (get_or a.bits i d) (plain.next_bit (lane_array w 0 a) slot i d (ready.each 0 some) (can_in 0 some) same).there)

    -- what its memories answered is what the item has, in each lane
    pub next_answers : (answer values : W) → ((l : ℕ) → l < w.lanes → w.lane answer l ≡ answered_bit (lane_memories w l a.memories) (get_or a.bits i d))
        → InEach w.lanes (λ l. IsHeld (lane_port w.stimulus l a.bank) slot (w.lane answer l) (w.lane values l)) → AreValues w values (λ view. value_in view slot) a.bank
    next_answers answer values is held = in_each w.lanes (λ l. w.lane values l ≡ value_in (lane_port w.stimulus l a.bank) slot) (λ l low.
        plain.next_answers (lane_array w l a) slot (get_or a.bits i d) (w.lane answer l) (w.lane values l) (ready.each l low) (can_in l low)
        (plain.next_bit (lane_array w l a) slot i d (ready.each l low) (can_in l low) same) (is l low)
        (in_lane w.lanes (λ k. IsHeld (lane_port w.stimulus k a.bank) slot (w.lane answer k) (w.lane values k)) held l low))

  -- the bank has come further in the turn, or ended it, and the memories are as they were
  moved : (a : Parts W S) (bank : View S) → (ready : IsReady w a) → IsPort bank.image bank.port ready.port_image → ((l : ℕ) → l < w.lanes → one_kept.IsReady (record (lane_array w l a) { bank = lane_port w.stimulus l bank })) → IsReady w (record a { bank = bank })
  moved a bank ready is each = record { port_image = ready.port_image; is = is; work = ready.work; whole = ready.whole; each = each }

  pub ready_executed : (a : Parts W S) (bank : View S) → IsReady w a → bank ≡ after_execute a.bank → IsReady w (record a { bank = bank })
  ready_executed a bank ready same = moved a bank ready (subst (λ view. IsPort view.image view.port ready.port_image) (sym same) ready.is) (λ l low.
      plain.ready_moved (lane_array w l a) (lane_port w.stimulus l bank) (a.bank.executed + 1) a.bank.received (ready.each l low) (ap (lane_port w.stimulus l) same))

  pub ready_received : (a : Parts W S) (bank : View S) → IsReady w a → bank ≡ after_receive a.bank → IsReady w (record a { bank = bank })
  ready_received a bank ready same = moved a bank ready (subst (λ view. IsPort view.image view.port ready.port_image) (sym same) ready.is) (λ l low.
      plain.ready_moved (lane_array w l a) (lane_port w.stimulus l bank) a.bank.executed (a.bank.received + 1) (ready.each l low) (ap (lane_port w.stimulus l) same))

  pub ready_ended : (a : Parts W S) (bank : View S) → IsReady w a → a.bank.begun ≡ true → bank ≡ after_end a.bank → IsReady w (record a { bank = bank })
  ready_ended a bank ready begun same = moved a bank ready (subst (λ view. IsPort view.image view.port ready.port_image) (sym same) ready.is) (λ l low.
      plain.ready_ended (lane_array w l a) (lane_port w.stimulus l bank) (ready.each l low) begun (ap (lane_port w.stimulus l) same))
