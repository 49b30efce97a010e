-- What the rows of an order come to: the trace after the last row, and else the rows that are done.
use Rattle.std.proofs.Common.{None, Option, Some, ◌≡◌, ◌∙◌, sym, ap, subst, inl, inr, ℕ, ◌*◌, arith}
use Rattle.std.proofs.lemmas.Option.{none-some, same_Some}
use Rattle.net_defs.specs.declared.{homes.HomeChoice.HomeChoice, netlist.Netlist.Netlist, timing.Timing.Timing, stimulus.Stimulus.Stimulus, trace.Rows.Rows}
use Rattle.net_defs.specs.{Time.cycle_count, Time.turn_count, Valid.IsValidStimulus}
use Rattle.machine_text.specs.declared.machine.Machine.{Machine}
use Rattle.image_defs.specs.declared.image.Image.{Image}
use Rattle.event_defs.specs.Steps.{AllDone, AreFirstSteps, rows_done}
use Rattle.seen_list.specs.Filling.{Filling}
use Rattle.stim_text.specs.{declared.order.Order.Order, Orders.steps_of}
use Rattle.trace_text.specs.Line.{HasRoom}
use Rattle.machine_run.specs.Shown.{AreShown}
use Rattle.call_steps.specs.{Images.IsImageOf, Images.IsMachineImage, Outcome.Outcome, Outcome.done, Outcome.unfinished}
use Rattle.yse_commands.specs.{Orders.EndsIn, Orders.EndsInOrder, Outputs.CanPrint, Outputs.trace_bytes}
use Rattle.order_run.specs.Orders.{AreRowsInOrder}
use Rattle.yse_commands.proofs.ShownLemmas.{front_shown, shown_prints}

-- the rows that are done by the end of an order, with a netlist and a line of its trace
module _ (order : Order) (banks : ℕ) (choice : HomeChoice) (net : Netlist) (machine : Machine) (timing : Timing) (stimulus : Stimulus) (image : Image) (of : IsImageOf net timing image) (made : IsMachineImage choice net machine timing image) (rows : Rows) (ending : Option ℕ) (are : AreRowsInOrder order banks stimulus image rows ending) (line : Filling) where
  turns : image.units * cycle_count stimulus ≡ turn_count timing stimulus
  turns = ap (λ u. u * cycle_count stimulus) of.units

  pub order_prints : IsValidStimulus stimulus → HasRoom net line → CanPrint (record { net = net; rows = rows; line = line })
  order_prints valid room = shown_prints net timing stimulus image (rows_done image are.state) rows line room valid of are.shown are.few

  ended : (outcome : Outcome) → EndsIn net timing stimulus (of.shows stimulus).states image are.state outcome → EndsInOrder order banks choice net machine timing stimulus outcome
  ended outcome ends = record {
    image = image;
    made = made;
    state = are.state;
    after = record {
      answers = are.answers;
      steps = subst (λ t. AreFirstSteps image stimulus banks t (steps_of order) are.answers are.state) turns are.steps;
    };
    states = (of.shows stimulus).states;
    simulation = (of.shows stimulus).simulation;
    ends = ends;
  }

  pub order_done : ending ≡ None → EndsInOrder order banks choice net machine timing stimulus (done (trace_bytes (record { net = net; rows = rows; line = line })))
  order_done none = ended (done (trace_bytes (record { net = net; rows = rows; line = line }))) (elim are.done_or_ended [
    | inl (all, _) ↦ inl (
      subst (λ t. AllDone image t are.state) turns all,
      ap done (front_shown net timing stimulus image (cycle_count stimulus) rows.rows of (subst (λ n. AreShown image stimulus n rows.rows) (are.all all) are.shown) (omega arith)),
    )
    | inr (_, some) ↦ absurd (none-some _ (sym none ∙ some))
  ])

  pub order_unfinished : (rows_then cycles : ℕ) → cycles ≡ cycle_count stimulus → ending ≡ Some rows_then → EndsInOrder order banks choice net machine timing stimulus (unfinished rows_then cycles (trace_bytes (record { net = net; rows = rows; line = line })))
  order_unfinished rows_then cycles all is = ended (unfinished rows_then cycles (trace_bytes (record { net = net; rows = rows; line = line }))) (elim are.done_or_ended [
    | inl (_, none) ↦ absurd (none-some _ (sym none ∙ is))
    | inr (some, at) ↦ inr (
      (λ done. some (subst (λ t. AllDone image t are.state) (sym turns) done)),
      ap (λ n. unfinished n cycles (trace_bytes (record { net = net; rows = rows; line = line }))) (same_Some _ _ (sym is ∙ at))
          ∙ ap (λ n. unfinished (rows_done image are.state) n (trace_bytes (record { net = net; rows = rows; line = line }))) all
          ∙ ap (unfinished (rows_done image are.state) (cycle_count stimulus)) (front_shown net timing stimulus image (rows_done image are.state) rows.rows of are.shown are.few),
    )
  ])
