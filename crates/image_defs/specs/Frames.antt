-- The value of an image. It meets the equations of `Steps`. It is made turn by turn, and in a turn slot by
-- slot; whoever uses it cites the equations, which are a law, and never how it is made.
use Rattle.std.specs.Prelude.{ℕ, zero, suc, ◌*◌, ◌==◌, if◌then◌else◌, List, [], length, Option, Some, None, slice_get, unwrap_or}
use Rattle.std.specs.{List.position_or_len, Option.option_map}
use Rattle.logic_four.specs.{declared.V4.V4, declared.V4.TheVariants.Undef, Memory.initial_words}
use Rattle.net_defs.specs.{declared.stimulus.Stimulus.Stimulus, Time.initial_value}
use Rattle.image_defs.specs.Places.{item_slots, blocks_of, printed_of, host_of}
use Rattle.image_defs.specs.Steps.{Frame, Grid, value_of_member, item_value, source_value, block_words_after}
use Rattle.image_defs.specs.declared.image.{BlockWork.BlockWork, LinkIn.LinkIn, PortImage.PortImage, Image.Image}

module _ (image : Image) (stimulus : Stimulus) where
  -- the value in a slot of a port, by the values of the slots before
  abbrev pub slot_value : ℕ → Frame → Grid → ℕ → ℕ → Option PortImage → V4
  slot_value turn old new p slot None = Undef
  slot_value turn old new p slot (Some port) =
      item_value image stimulus turn old new p port.ins port.work (position_or_len (λ s. s == slot) (item_slots port.work))

  -- the values of a turn in its first so many slots
  unfoldable pub filled : ℕ → Frame → ℕ → Grid
  filled turn old zero p slot = Undef
  filled turn old (suc n) p slot =
      if slot == n then slot_value turn old (filled turn old n) p n (slice_get image.ports p) else filled turn old n p slot

  -- what words make of the memory of this number of a port, if it is there
  abbrev pub words_by : (List LinkIn → BlockWork → List (List V4)) → Option PortImage → ℕ → List (List V4)
  words_by words None b = []
  words_by words (Some port) b = unwrap_or (option_map (words port.ins) (slice_get (blocks_of port.work) b)) []

  abbrev pub next_frame : ℕ → Frame → Frame
  next_frame turn old = record {
    value = λ p slot. filled turn old (suc slot) p slot;
    words = λ p b. words_by (λ ins block. block_words_after image turn p ins old.value block (old.words p b)) (slice_get image.ports p) b;
  }

  abbrev pub first_frame : Frame
  first_frame = record {
    value = λ p slot. Undef;
    words = λ p b. words_by (λ ins block. initial_words (length block.address) (length block.word) (initial_value image.init)) (slice_get image.ports p) b;
  }

  -- what the image has at a turn
  unfoldable pub frame : ℕ → Frame
  frame zero = first_frame
  frame (suc turn) = next_frame (suc turn) (frame turn)

-- the value of the image at a turn, port and slot
abbrev pub image_value : Image → Stimulus → ℕ → ℕ → ℕ → V4
image_value image stimulus turn p slot = (frame image stimulus turn).value p slot

-- ---- what is shown

-- the value of printed source j, by the values of a turn; all of them are of this turn, in a well-formed image
abbrev pub printed_value : Image → Grid → ℕ → V4
printed_value image values j =
    value_of_member (λ port. value_of_member (source_value (host_of image) port.ins values values) (slice_get (printed_of port.work) j)) (slice_get image.ports (host_of image))

-- the cell of column j that the image shows for cycle c, counted from 1: printed source j at the last
-- turn of the cycle
abbrev pub shown : Image → Stimulus → ℕ → ℕ → V4
shown image stimulus c j = printed_value image (frame image stimulus (c * image.units)).value j
