-- Which order a text reads as, and its first fault.
use Rattle.std.specs.Prelude.{◌≡◌, ℕ, ◌<◌, ◌≤◌, List, length, replicate, slice_get, Option, Some, All}
use Rattle.std.specs.List.{flat_map, filter_map, sum_by}
use Rattle.text_lines.specs.Lines.{parts_of}
use Rattle.stim_text.specs.{declared.order.Order.Order, declared.order.OrderLine.OrderLine, declared.refusal.OrderNo.OrderNo, Repeats.first_fault_of}
use Rattle.stim_text.specs.OrderLines.{IsAllowed, line_of, fault_of}
use Rattle.limits.specs.declared.TheConstants.{MAX_STEPS, MAX_REPEAT}

-- the lines of an order among the lines of its text
abbrev pub lines_of : List (List ℕ) → List OrderLine
lines_of parts = filter_map line_of parts

-- the sum of the repeats
abbrev pub step_count : List OrderLine → ℕ
step_count lines = sum_by (λ line. line.times) lines

-- The text reads as the order: each line is blank or the number of one of so many ports with its
-- repeat, the order's lines are those of the text, and there are at most 1,000,000,000 steps.
pub record Reads (ports : ℕ) (text : List ℕ) (order : Order) : Type 0 where
  pub lines : All (IsAllowed ports) (parts_of text)
  pub order_lines : order.lines ≡ lines_of (parts_of text)
  pub steps : step_count order.lines ≤ MAX_STEPS

-- the fault of the first line that has one, each being asked after the steps of the lines before it
abbrev pub first_fault : ℕ → List ℕ → Option OrderNo
first_fault ports text = first_fault_of line_of (λ line. line.times) (fault_of ports) (parts_of text)

-- ---- what an order says

-- the steps of an order, each as the number of its port: the lines with their repeats written out
abbrev pub steps_of : Order → List ℕ
steps_of order = flat_map (λ line. replicate line.times line.port) order.lines

-- a valid order of so many ports: each line is 1 to 1,000,000 steps of one of them, and there are at
-- most 1,000,000,000 steps in all
pub record IsValidOrder (ports : ℕ) (order : Order) : Type 0 where
  pub port :
      (l : ℕ) (line : OrderLine) → slice_get order.lines l ≡ Some line
      → line.port < ports
  pub times :
      (l : ℕ) (line : OrderLine) → slice_get order.lines l ≡ Some line
      → (1 ≤ line.times) × (line.times ≤ MAX_REPEAT)
  pub steps : length (steps_of order) ≤ MAX_STEPS
