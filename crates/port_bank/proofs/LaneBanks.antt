-- The bank of a port keeps in each lane what a plain port's keeps.
use Rattle.std.proofs.Common.{◌≡◌, ◌≢◌, ◌∙◌, Bool, ℕ, ◌+◌, ◌<◌, ◌≤◌, true, false, set, refl, sym, subst, arith}
use Rattle.std.proofs.lemmas.{Bool.ne_eqb, Option.slice_get_within}
use Rattle.logic_four.specs.{declared.V4.V4, Values.value_at}
use Rattle.net_defs.specs.{declared.stimulus.Stimulus.Stimulus, Time.is_edge, Time.initial_value, Valid.IsValidStimulus}
use Rattle.image_defs.specs.Ports.{View, lane_port, after_begin, after_execute, after_receive, after_end, CanBegin, CanExecute, CanReceive, CanEnd, value_in}
use Rattle.image_defs.specs.{Places.item_slots, WellFormed.IsWellFormed}
use Rattle.port_bank.specs.{declared.steps.Operand.Operand, Banks.IsKept, Banks.IsKeptInLane, Banks.lane_bank, Lanes.InEach}
use Rattle.port_bank.specs.{Places.Turns, Places.count, Places.in_lane, code.Places.numbered, code.Places.AreBlank, Reads.IsRead, Reads.IsHeld}
use Rattle.port_bank.proofs.BankLemmas as plain
use Rattle.port_bank.proofs.lemmas.LaneLemmas as lane_lemmas

module _ {W S : Type 0} (lanes : ℕ) (some : 0 < lanes) (lane : W → ℕ → V4) (stimulus : ℕ → S → ℕ → Stimulus) where
  -- ---- what is read

  pub read_right : (view : View S) (edge : Bool) (places : Turns W) (operand : Operand) (w : W) → IsKept lanes lane stimulus view edge places
      → ((l : ℕ) → l < lanes → lane w l ≡ numbered (in_lane lane l places) operand.number) → InEach lanes (λ l. IsRead (lane_port stimulus l view) operand (lane w l))
  read_right view edge places operand w kept is = lane_lemmas.in_each lanes (λ l. IsRead (lane_port stimulus l view) operand (lane w l)) (λ l low.
      subst (IsRead (lane_port stimulus l view) operand) (sym (is l low)) (plain.read_right (lane_bank lane stimulus l view edge places) operand (kept.each l low)))

  -- ---- a register

  pub held_first : (view : View S) (edge : Bool) (places : Turns W) (slot : ℕ) (new w : W) → IsKept lanes lane stimulus view edge places → view.turn ≡ 1 → InEach lanes (λ l. lane w l ≡ initial_value view.image.init)
      → InEach lanes (λ l. IsHeld (lane_port stimulus l view) slot (lane new l) (lane w l))
  held_first view edge places slot new w kept first is = lane_lemmas.in_each lanes (λ l. IsHeld (lane_port stimulus l view) slot (lane new l) (lane w l)) (λ l low port i at stands.
      rw first (lane_lemmas.in_lane lanes (λ l. lane w l ≡ initial_value view.image.init) is l low))

  pub held_edge : (view : View S) (edge : Bool) (places : Turns W) (slot : ℕ) (new : W) → IsKept lanes lane stimulus view edge places → view.turn ≢ 1 → edge ≡ true
      → InEach lanes (λ l. IsHeld (lane_port stimulus l view) slot (lane new l) (lane new l))
  held_edge view edge places slot new kept later is = lane_lemmas.in_each lanes (λ l. IsHeld (lane_port stimulus l view) slot (lane new l) (lane new l)) (λ l low port i at stands.
      rw (ne_eqb view.turn 1 later, ← (kept.each l low).edge, is) refl)

  pub held_past : (view : View S) (edge : Bool) (places : Turns W) (slot : ℕ) (new w : W) → IsKept lanes lane stimulus view edge places → view.turn ≢ 1 → edge ≡ false
      → ((l : ℕ) → l < lanes → lane w l ≡ value_at (in_lane lane l places).past slot) → InEach lanes (λ l. IsHeld (lane_port stimulus l view) slot (lane new l) (lane w l))
  held_past view edge places slot new w kept later is values = lane_lemmas.in_each lanes (λ l. IsHeld (lane_port stimulus l view) slot (lane new l) (lane w l)) (λ l low port i at stands.
      rw (ne_eqb view.turn 1 later, ← (kept.each l low).edge, is) (values l low ∙ ((kept.each l low).past port at).own i slot (slice_get_within (item_slots port.work) i slot stands) stands))

  -- ---- places

  -- a slot's number, and how many items and links come before it
  pub item_bounds : (view : View S) (edge : Bool) (places : Turns W) (slot : ℕ) → IsKept lanes lane stimulus view edge places → InEach lanes (λ l. CanExecute (lane_port stimulus l view) slot)
      → (view.executed ≤ slot) × (slot < view.image.slots) × (slot < count places)
  item_bounds view edge places slot kept each =
      let can : CanExecute (lane_port stimulus 0 view) slot = lane_lemmas.in_lane lanes (λ l. CanExecute (lane_port stimulus l view) slot) each 0 some in
      let fits : IsWellFormed view.image = (kept.each 0 some).image in
      let low : slot < view.image.slots = plain.slot_low view.image view.port can.port view.executed slot fits can.is can.next in
      (plain.item_low view.image view.port can.port view.executed slot fits can.is can.next, low, omega (arith, low, kept.count))

  pub receipt_bounds : (view : View S) (edge : Bool) (places : Turns W) (slot : ℕ) (w : W) → IsKept lanes lane stimulus view edge places
      → InEach lanes (λ l. CanReceive (lane_port stimulus l view) slot (lane w l)) → (view.received ≤ slot) × (slot < view.image.slots) × (view.image.slots + slot < count places)
  receipt_bounds view edge places slot w kept each =
      let can : CanReceive (lane_port stimulus 0 view) slot (lane w 0) = lane_lemmas.in_lane lanes (λ l. CanReceive (lane_port stimulus l view) slot (lane w l)) each 0 some in
      let fits : IsWellFormed view.image = (kept.each 0 some).image in
      let bounds : (view.received ≤ can.link.slot) × (can.link.slot < view.image.slots) = plain.receipt_bounds view.image view.port can.port view.received can.link fits can.is can.next in
      let same : can.link.slot ≡ slot = can.slot_is in
      (omega (arith, bounds.0, same), omega (arith, bounds.1, same), omega (arith, bounds.1, same, kept.count))

  -- ---- what is kept

  pub kept_new : (view : View S) (edge : Bool) (places : Turns W) → IsWellFormed view.image → ((l : ℕ) → l < lanes → IsValidStimulus (stimulus view.image.columns view.stimulus l))
      → view.turn ≡ 1 → view.begun ≡ false → edge ≡ false → view.executed ≡ 0 → view.received ≡ 0 → AreBlank lanes lane view.image.slots places → IsKept lanes lane stimulus view edge places
  kept_new view edge places fits valid turn begun at_edge executed received blank = record {
    count = blank.count;
    each = λ l low. plain.kept_new (lane_bank lane stimulus l view edge places) fits (valid l low) turn begun at_edge executed received (blank.each l low);
  }

  pub kept_executed : (view : View S) (edge : Bool) (old new : Turns W) (slot : ℕ) (w : W) → IsKept lanes lane stimulus view edge old → InEach lanes (λ l. CanExecute (lane_port stimulus l view) slot)
      → InEach lanes (λ l. lane w l ≡ value_in (lane_port stimulus l view) slot) → count new ≡ count old
      → ((l : ℕ) → l < lanes → in_lane lane l new ≡ record (in_lane lane l old) { this = set (in_lane lane l old).this slot (lane w l) }) → IsKept lanes lane stimulus (after_execute view) edge new
  kept_executed view edge old new slot w kept can value long is = record {
    count = long ∙ kept.count;
    each = λ l low.
        subst (λ turns. IsKeptInLane (record (lane_bank lane stimulus l view edge old) { executed = view.executed + 1; places = turns })) (sym (is l low))
        (plain.kept_executed (lane_bank lane stimulus l view edge old) slot (lane w l) (kept.each l low)
        (lane_lemmas.in_lane lanes (λ l. CanExecute (lane_port stimulus l view) slot) can l low)
        (lane_lemmas.in_lane lanes (λ l. lane w l ≡ value_in (lane_port stimulus l view) slot) value l low));
  }

  pub kept_received : (view : View S) (edge : Bool) (old new : Turns W) (slot : ℕ) (w : W) → IsKept lanes lane stimulus view edge old
      → InEach lanes (λ l. CanReceive (lane_port stimulus l view) slot (lane w l)) → count new ≡ count old
      → ((l : ℕ) → l < lanes → in_lane lane l new ≡ record (in_lane lane l old) { this = set (in_lane lane l old).this (view.image.slots + slot) (lane w l) })
      → IsKept lanes lane stimulus (after_receive view) edge new
  kept_received view edge old new slot w kept can long is = record {
    count = long ∙ kept.count;
    each = λ l low.
        subst (λ turns. IsKeptInLane (record (lane_bank lane stimulus l view edge old) { received = view.received + 1; places = turns })) (sym (is l low))
        (plain.kept_received (lane_bank lane stimulus l view edge old) slot (lane w l) (kept.each l low)
        (lane_lemmas.in_lane lanes (λ l. CanReceive (lane_port stimulus l view) slot (lane w l)) can l low));
  }

  pub kept_ended : (view : View S) (edge now : Bool) (old new : Turns W) → IsKept lanes lane stimulus view edge old → InEach lanes (λ l. CanEnd (lane_port stimulus l view))
      → now ≡ is_edge view.image.units (view.turn + 1) → count new ≡ count old
      → ((l : ℕ) → l < lanes → in_lane lane l new ≡ record { this = (in_lane lane l old).past; past = (in_lane lane l old).this }) → IsKept lanes lane stimulus (after_end view) now new
  kept_ended view edge now old new kept can is_right long is = record {
    count = long ∙ kept.count;
    each = λ l low.
        subst (λ turns. IsKeptInLane (record (lane_bank lane stimulus l view edge old) { turn = view.turn + 1; begun = false; at_edge = now; executed = 0; received = 0; places = turns })) (sym (is l low))
        (plain.kept_ended (lane_bank lane stimulus l view edge old) now (kept.each l low) (lane_lemmas.in_lane lanes (λ l. CanEnd (lane_port stimulus l view)) can l low) is_right);
  }

  -- the turns of a run
  pub few_turns : (view : View S) (edge : Bool) (places : Turns W) → IsKept lanes lane stimulus view edge places → view.turn ≤ 4096000001
  few_turns view edge places kept = plain.few_turns (lane_bank lane stimulus 0 view edge places) (kept.each 0 some)
