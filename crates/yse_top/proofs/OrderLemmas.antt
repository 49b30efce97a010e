-- Where a run in an order ends is one outcome, whichever image the netlist was compiled to.
use Rattle.std.proofs.Common.{◌≡◌, ◌∙◌, sym, ap, subst, refl, inl, inr, ℕ, ◌+◌, ◌<◌, List, length, get_or, replicate, arith}
use Rattle.std.proofs.lemmas.{Bool.cases_eq, List.Elements.All-replicate, Option.slice_get_within, Option.slice_get-get_or}
use Rattle.list_laws.proofs.Members.{all_flat_of, each}
use Rattle.machine_text.specs.{declared.machine.Machine.Machine, Machines.ports_of}
use Rattle.net_defs.specs.declared.{homes.HomeChoice.HomeChoice, netlist.Netlist.Netlist, stimulus.Stimulus.Stimulus, timing.Timing.Timing}
use Rattle.net_defs.specs.{Reference.HasOneSimulation, Steps.State, Time.cycle_count, Time.turn_count, Trace.trace_to}
use Rattle.image_defs.specs.{declared.image.Image.Image, declared.image.PortImage.PortImage, Places.Each, Places.IsPort, WellFormed.IsWellFormed}
use Rattle.list_laws.proofs.Decidable.{IsDecidable, decide_each, decide_same}
use Rattle.node_defs.proofs.lemmas.MemberLemmas.{member_at}
use Rattle.event_defs.specs.Steps.{CoreState, AreFirstSteps, AllDone, rows_done}
use Rattle.event_defs.specs.{Linked.AreLinkedAlike, declared.place.Place.Place, declared.place.CoreStep.CoreStep}
use Rattle.stim_text.specs.{declared.order.Order.Order, declared.order.OrderLine.OrderLine, Orders.IsValidOrder, Orders.steps_of}
use Rattle.yse_compile.proofs.lemmas.DesignExists.{HasDesign}
use Rattle.call_steps.specs.{Images.IsMachineImage, Outcome.Outcome, Outcome.done, Outcome.unfinished}
use Rattle.yse_commands.specs.Orders.{IsAfterOrder, EndsIn, EndsInOrder}
use Rattle.yse_top.proofs.{OneLemmas.alike, ProperLemmas.HasEnd, ProperLemmas.IsEnding, ProperLemmas.IsOfEnd}

-- two states of which all that is printed is the same
pub record AreDoneAlike (until : ℕ) (image other : Image) (one two : CoreState) : Type 0 where
  pub there : AllDone image until one → AllDone other until two
  pub back : AllDone other until two → AllDone image until one
  pub rows : rows_done image one ≡ rows_done other two

-- states at the same places, with as many rows done, on images that are linked alike
pub done_alike : (until : ℕ) (image other : Image) (one two : CoreState) → AreLinkedAlike image other → one.place ≡ two.place → rows_done image one ≡ rows_done other two → AreDoneAlike until image other one two
done_alike until image other one two linked places rows = record {
  there = λ done. record {
    each = λ p port is.
        let mine = member_at image.ports p (omega (arith, slice_get_within other.ports p port is, linked.count)) in
        sym (ap (λ (f : ℕ → Place). (f p).turn) places) ∙ done.each p mine.0 mine.1;
  };
  back = λ done. record {
    each = λ p port is.
        let theirs = member_at other.ports p (omega (arith, slice_get_within image.ports p port is, linked.count)) in
        ap (λ (f : ℕ → Place). (f p).turn) places ∙ done.each p theirs.0 theirs.1;
  };
  rows = rows;
}

-- the state after an order decides, for all images of the netlist, what is done
abbrev pub DecidesOrder : Order → ℕ → HomeChoice → Netlist → Machine → Timing → Stimulus → Type 0
DecidesOrder order banks choice net machine timing stimulus =
    (image other : Image) (one two : CoreState) → IsMachineImage choice net machine timing image → IsMachineImage choice net machine timing other
    → IsAfterOrder order banks timing stimulus image one → IsAfterOrder order banks timing stimulus other two
    → AreDoneAlike (turn_count timing stimulus) image other one two

module _ (net : Netlist) (timing : Timing) (stimulus : Stimulus) where
  -- the trace of some rows
  abbrev to : List State → ℕ → List ℕ
  to states rows = trace_to net timing states rows

  ends_one : (states others : List State) (image other : Image) (one two : CoreState) (o p : Outcome) → states ≡ others → AreDoneAlike (turn_count timing stimulus) image other one two
      → EndsIn net timing stimulus states image one o → EndsIn net timing stimulus others other two p → o ≡ p
  ends_one states others image other one two o p same alike_states (inl (all, is)) (inl (all_too, is_too)) =
      is ∙ ap (λ s. done (to s (cycle_count stimulus))) same ∙ sym is_too
  ends_one states others image other one two o p same alike_states (inl (all, is)) (inr (some, is_too)) = absurd (some (alike_states.there all))
  ends_one states others image other one two o p same alike_states (inr (some, is)) (inl (all, is_too)) = absurd (some (alike_states.back all))
  ends_one states others image other one two o p same alike_states (inr (some, is)) (inr (some_too, is_too)) =
      is ∙ ap (λ s. unfinished (rows_done image one) (cycle_count stimulus) (to s (rows_done image one))) same
      ∙ ap (λ rows. unfinished rows (cycle_count stimulus) (to others rows)) alike_states.rows ∙ sym is_too

  ends_status : (states : List State) (image : Image) (state : CoreState) (o : Outcome) → EndsIn net timing stimulus states image state o → IsOfEnd o.status
  ends_status states image state o (inl (all, is)) = subst (λ (p : Outcome). IsOfEnd p.status) (sym is) tt
  ends_status states image state o (inr (some, is)) = subst (λ (p : Outcome). IsOfEnd p.status) (sym is) tt

  pub order_ending : (order : Order) (banks : ℕ) (choice : HomeChoice) (machine : Machine) → HasOneSimulation net timing stimulus → DecidesOrder order banks choice net machine timing stimulus → IsEnding (EndsInOrder order banks choice net machine timing stimulus)
  order_ending order banks choice machine simulation decides = record {
    one = λ o p is is_too n m. alike o p (ends_one is.states is_too.states is.image is_too.image is.state is_too.state o p
        (simulation.only is.states is.simulation ∙ sym (simulation.only is_too.states is_too.simulation))
        (decides is.image is_too.image is.state is_too.state is.made is_too.made is.after is_too.after) is.ends is_too.ends);
    ends = λ o is. ends_status is.states is.image is.state o is.ends;
  }

  -- ---- there is an outcome

  -- whether all ports are done
  done_known : (image : Image) (until : ℕ) (state : CoreState) → IsDecidable (AllDone image until state)
  done_known image until state =
      decide_same ((p : ℕ) (port : PortImage) → IsPort image p port → (state.place p).turn ≡ until + 1) (AllDone image until state) (λ each. record { each = each }) (λ done. done.each)
      (decide_each (λ p port. (state.place p).turn ≡ until + 1) (λ p port. cases_eq (state.place p).turn (until + 1)) image.ports)

  -- the steps of a valid order are of its ports
  steps_within : (ports : ℕ) (order : Order) → IsValidOrder ports order → Each (λ p. p < ports) (steps_of order)
  steps_within ports order valid i p at =
      each (λ (q : ℕ). q < ports) (steps_of order) i p
      (all_flat_of (λ (q : ℕ). q < ports) (λ (line : OrderLine). replicate line.times line.port) order.lines
      (λ l d low. All-replicate (λ (q : ℕ). q < ports) (get_or order.lines l d).times (get_or order.lines l d).port (valid.port l (get_or order.lines l d) (slice_get-get_or order.lines l d low)))) at

  pub order_outcome : (order : Order) (banks : ℕ) (choice : HomeChoice) (machine : Machine) → HasOneSimulation net timing stimulus → HasDesign choice net machine timing → IsValidOrder (ports_of machine) order
      → ((image : Image) → IsWellFormed image → Each (λ p. p < length image.ports) (steps_of order) → (answers : List CoreStep) × (state : CoreState) × AreFirstSteps image stimulus banks (turn_count timing stimulus) (steps_of order) answers state)
      → HasEnd (EndsInOrder order banks choice net machine timing stimulus)
  order_outcome order banks choice machine simulation has valid steps = told (done_known has.chosen.compiled.image (turn_count timing stimulus) after.1) where
    count : length has.chosen.compiled.image.ports ≡ ports_of machine
    count =
        let design = has.is.design in
        let ports = design.built.matches.ports in
        let planned = design.built.planned.ports in
        let logic = design.logic in
        let array = design.array in
        omega (arith, ports, planned, logic, array)

    after : (answers : List CoreStep) × (state : CoreState) × AreFirstSteps has.chosen.compiled.image stimulus banks (turn_count timing stimulus) (steps_of order) answers state
    after = steps has.chosen.compiled.image has.is.design.built.fits (subst (λ n. Each (λ p. p < n) (steps_of order)) (sym count) (steps_within (ports_of machine) order valid))

    ending : (o : Outcome) → EndsIn net timing stimulus simulation.states has.chosen.compiled.image after.1 o → EndsInOrder order banks choice net machine timing stimulus o
    ending o ends = record {
      image = has.chosen.compiled.image;
      made = record { chosen = has.chosen; is = has.is; image_is = refl };
      state = after.1;
      after = record { answers = after.0; steps = after.2 };
      states = simulation.states;
      simulation = simulation.exists;
      ends = ends;
    }

    told : IsDecidable (AllDone has.chosen.compiled.image (turn_count timing stimulus) after.1) → HasEnd (EndsInOrder order banks choice net machine timing stimulus)
    told (inl all) =
        let o : Outcome = done (to simulation.states (cycle_count stimulus)) in
        (o, ending o (inl (all, refl)), λ e. cc)
    told (inr some) =
        let o : Outcome = unfinished (rows_done has.chosen.compiled.image after.1) (cycle_count stimulus) (to simulation.states (rows_done has.chosen.compiled.image after.1)) in
        (o, ending o (inr (some, refl)), λ e. cc)
