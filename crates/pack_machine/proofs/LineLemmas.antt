-- The lines of lanes: of a row, of a lane, and of all lanes.
use Rattle.std.proofs.Common.{List, Some, [], ap, arith, get_or, inl, inr, length, set, slice_get, sym, ℕ, ◌*◌, ◌+◌, ◌<◌, ◌∙◌, ◌≡◌, ◌≤◌}
use Rattle.std.proofs.{Math.Nat.mul-le-mul_left, lemmas.Bool.cases_eq, lemmas.List.length-set}
use Rattle.std.proofs.lemmas.{List.FromFn.get_or-enumerate_from, List.FromFn.length-map-range_with_len, Option.get_or_from_slice_get, Option.slice_get-get_or}
use Rattle.std.specs.{Prelude.unwrap_or, List.enumerate_from}
use Rattle.machine_run.proofs.lemmas.LinesLemmas.{row_shown}
use Rattle.machine_run.specs.Lines.{cells_shown}
use Rattle.crew_run.proofs.lemmas.Places.{set_other, set_same}
use Rattle.image_defs.specs.{Frames.shown, Steps.timing_of, declared.image.Image.Image}
use Rattle.logic_four.specs.{declared.V4.V4, declared.V4.TheVariants.Undef, Values.value_at}
use Rattle.net_defs.specs.declared.{netlist.Netlist.Netlist, stimulus.Stimulus.Stimulus}
use Rattle.slot_words.specs.packed.Words.{stimulus_of, turns_of}
use Rattle.port_host.specs.Rows.{printed_sources}
use Rattle.seen_list.specs.Filling.{Filling}
use Rattle.stim_text.proofs.lemmas.LaneLemmas.{lane_input}
use Rattle.stim_text.specs.{Lanes.longest, Lanes.own_stimulus, declared.lanes.Lanes.Lanes}
use Rattle.trace_text.specs.Line.{row_room}
use Rattle.pack_machine.specs.{code.Lines.HasLineRoom, declared.lines.LaneLines.LaneLines}
use Rattle.pack_machine.proofs.FrameLemmas.{shown_same}

-- ---- the host

-- the turns of a cycle of the longest lane are made
pub turns_there : (image : Image) (lanes : Lanes) (cycle turn : ℕ) → cycle ≤ longest lanes → turn ≡ turns_of image lanes + 1 → image.units * cycle < turn
turns_there image lanes cycle turn within is =
    let less : image.units * cycle ≤ image.units * longest lanes = mul-le-mul_left image.units within in
    omega (arith, less, is)

-- a lane shows as all run what it shows for its own stimulus
pub shown_own : (image : Image) (lanes : Lanes) (l cycle j : ℕ) → shown image (stimulus_of image lanes l) cycle j ≡ shown image (own_stimulus image.columns lanes l) cycle j
shown_own image lanes l cycle j =
    shown_same image (stimulus_of image lanes l) (own_stimulus image.columns lanes l) (lane_input image.columns lanes l (timing_of image)) cycle j

-- ---- the cells of a row

-- the first n cells are those that the image shows for the cycle
pub record HasCellsTo (image : Image) (stimulus : Stimulus) (cycle n : ℕ) (cells : List V4) : Type 0 where
  pub width : length cells ≡ length (printed_sources image)
  pub are : (j : ℕ) → j < n → value_at cells j ≡ shown image stimulus cycle j

module _ (image : Image) (stimulus : Stimulus) (cycle : ℕ) where
  pub cells_none : (cells : List V4) → length cells ≡ length (printed_sources image) → HasCellsTo image stimulus cycle 0 cells
  cells_none cells width = record { width = width; are = λ j low. absurd (omega (arith, low)) }

  pub cells_more : (n : ℕ) (cells : List V4) (v : V4) → n < length cells → v ≡ shown image stimulus cycle n → HasCellsTo image stimulus cycle n cells → HasCellsTo image stimulus cycle (n + 1) (set cells n v)
  cells_more n cells v within is so_far = record {
    width = length-set cells n v ∙ so_far.width;
    are = λ j low. elim (cases_eq j n) [
      | inl same ↦ ap (value_at (set cells n v)) same ∙ (get_or_from_slice_get (set cells n v) n v Undef (set_same cells n v within) ∙ (is ∙ ap (shown image stimulus cycle) (sym same)))
      | inr away ↦ other j (omega (arith, low, away, within)) away ∙ so_far.are j (omega (arith, low, away))
    ];
  } where
    other : (j : ℕ) → j < length cells → (j ≡ n → ⊥) → value_at (set cells n v) j ≡ value_at cells j
    other j low away = get_or_from_slice_get (set cells n v) j (get_or cells j Undef) Undef (set_other cells n j v away ∙ slice_get-get_or cells j Undef low)

  pub cells_all : (n : ℕ) (cells : List V4) → length cells ≤ n → HasCellsTo image stimulus cycle n cells → cells ≡ cells_shown image stimulus cycle
  cells_all n cells past so_far = row_shown image stimulus cycle cells so_far.width (λ j low. so_far.are j (omega (arith, low, past)))

-- ---- lanes

-- the own stimulus of a lane that is given
pub own_is : (columns : ℕ) (lanes : Lanes) (l : ℕ) (stimulus : Stimulus) → slice_get lanes.lanes l ≡ Some stimulus → own_stimulus columns lanes l ≡ stimulus
unfolding own_stimulus
own_is columns lanes l stimulus given = ap (λ o. unwrap_or o (record { columns = columns; rows = [] })) given

-- a lane and its place
pub numbered : (lanes : List Stimulus) (l : ℕ) (stimulus : Stimulus) → l < length lanes → stimulus ≡ get_or lanes l stimulus → (l, stimulus) ≡ get_or (enumerate_from 0 lanes) l (l, stimulus)
numbered lanes l stimulus within at =
    ap (λ (s : Stimulus). (l, s)) at ∙ sym (get_or-enumerate_from 0 lanes l (l, stimulus) within ∙ ap (λ (k : ℕ). (k, get_or lanes l stimulus)) (omega arith))

-- ---- the room stays

-- after another line, and another row of as many cells
pub room_written : (net : Netlist) (image : Image) (room : LaneLines) (line : Filling) (row : List V4) → line.room ≡ room.line.room → length row ≡ length (printed_sources image) → HasLineRoom net image room
    → HasLineRoom net image (record room { line = line; row = row })
room_written net image room line row same width has = record {
  mark = has.mark;
  line = record { header = omega (arith, same, has.line.header); rows = omega (arith, same, has.line.rows) };
  row = width;
  printed = has.printed;
}

-- after another line
pub headed : (net : Netlist) (image : Image) (room : LaneLines) (line : Filling) → line.room ≡ room.line.room → HasLineRoom net image room → HasLineRoom net image (record room { line = line })
headed net image room line same has = record { mark = has.mark; line = record { header = omega (arith, same, has.line.header); rows = omega (arith, same, has.line.rows) }; row = has.row; printed = has.printed }

-- after the line of another lane
pub marked : (net : Netlist) (image : Image) (room : LaneLines) (mark : Filling) → mark.room ≡ room.mark.room → HasLineRoom net image room → HasLineRoom net image (record room { mark = mark })
marked net image room mark same has = record { mark = record { room = omega (arith, same, has.mark.room) }; line = has.line; row = has.row; printed = has.printed }

-- as many cells are shown as printed
pub cells_wide : (image : Image) (stimulus : Stimulus) (cycle : ℕ) (row : List V4) → row ≡ cells_shown image stimulus cycle → length row ≡ length (printed_sources image)
cells_wide image stimulus cycle row is = ap length is ∙ length-map-range_with_len (shown image stimulus cycle) 0 (length (printed_sources image))

-- a row of the image fits the line
pub row_fits : (net : Netlist) (image : Image) (room : LaneLines) (row : List V4) → length row ≡ length (printed_sources image) → HasLineRoom net image room → row_room (length row) ≤ room.line.room
row_fits net image room row width has = omega (arith, width, has.printed, has.line.rows)
