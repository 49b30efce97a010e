-- What a run of the core comes to: all rows, and else the rows that are done.
use Rattle.std.proofs.Common.{Option, Some, ◌≡◌, ◌∙◌, ap, subst, inl, inr, ℕ, ◌*◌}
use Rattle.net_defs.specs.{declared.stimulus.Stimulus.Stimulus, declared.trace.Rows.Rows, Time.cycle_count}
use Rattle.image_defs.specs.{declared.image.Image.Image, WellFormed.IsWellFormed}
use Rattle.event_defs.specs.{Sound.IsSound, Steps.rows_done}
use Rattle.order_run.specs.Core.{AreDone, CoreView, IsSameCore, IsStart, rows_of, state_of}
use Rattle.order_run.specs.{Orders.AreRowsInOrder, code.Stepped.HasStepped, code.Stepped.IsEndingOf}
use Rattle.stim_text.specs.{declared.order.Order.Order, Orders.steps_of}
use Rattle.machine_run.specs.Shown.{AreShown}
use Rattle.order_run.proofs.StepLemmas.{all_rows, done_same, few_rows, first_steps, same_done, same_image, same_shown}

-- a run of the core, from its start to its last state
module _ (stimulus : Stimulus) (image : Image) (fits : IsWellFormed image) (banks : ℕ) (first last : CoreView) (start : IsStart image stimulus banks first) (same : IsSameCore first last) (sound : IsSound image stimulus banks (image.units * cycle_count stimulus) (state_of last)) (rows : Rows) (are : AreShown last.image last.stimulus (rows_of last) rows.rows) where
  shown : AreShown image stimulus (rows_done image (state_of last)) rows.rows
  shown = same_shown image stimulus banks first last start same rows.rows are

  -- the rows of a run that is done are all of them
  pub all_shown : AreDone last → AreShown image stimulus (cycle_count stimulus) rows.rows
  all_shown done = subst (λ n. AreShown image stimulus n rows.rows) (all_rows image stimulus banks (state_of last) fits sound (same_done image stimulus banks first last start same done)) shown

  rows_same : rows_of last ≡ rows_done image (state_of last)
  rows_same = ap (λ i. rows_done i (state_of last)) (same_image image stimulus banks first last start same)

  pub rows_in_order : (order : Order) (ending : Option ℕ) → HasStepped first last (steps_of order) → IsEndingOf last ending → AreRowsInOrder order banks stimulus image rows ending
  rows_in_order order ending stepped ends = record {
    state = state_of last;
    answers = stepped.answers;
    steps = first_steps image stimulus banks first last (steps_of order) start stepped;
    few = few_rows image stimulus banks (state_of last) fits sound;
    all = all_rows image stimulus banks (state_of last) fits sound;
    shown = shown;
    done_or_ended = elim ends [
      | inl (done, none) ↦ inl (same_done image stimulus banks first last start same done, none)
      | inr (some, is) ↦ inr ((λ done. some (done_same image stimulus banks first last start same done)), is ∙ ap (λ n. Some n) rows_same)
    ];
  }
