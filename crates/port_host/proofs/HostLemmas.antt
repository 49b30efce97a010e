-- The host keeps its place in the stimulus, and the rows of the cycles that are over and not given up.
use Rattle.std.proofs.Common.{◌≡◌, ◌≢◌, ◌∙◌, ◌⊎◌, inl, inr, ℕ, ◌+◌, ◌-◌, ◌*◌, ◌/◌, ◌<◌, ◌≤◌, true, false, List, [], length, get_or, Option, Some, None, slice_get, sym, ap, subst, refl, arith}
use Rattle.std.proofs.lemmas.{Bool.cases_lt, Option.slice_get_within, Option.slice_get-get_or, Option.slice_get_read}
use Rattle.logic_four.specs.{declared.V4.V4, declared.V4.TheVariants.Undef, Values.value_at}
use Rattle.net_defs.specs.{declared.stimulus.Stimulus.Stimulus, Time.cycle_rows, Time.cycle_count, Time.cycle_of, Valid.IsValidStimulus}
use Rattle.image_defs.specs.Places.{Each, host_of, printed_of, item_slots, in_slots, IsPort, IsItemIn}
use Rattle.image_defs.specs.Steps.{Grid, value_of_member, source_value, column_value, item_value}
use Rattle.image_defs.specs.Ports.{PortView, CanExecute, CanEnd, at_first, after_end, value_in}
use Rattle.image_defs.specs.declared.image.{Source.Source, Source.TheVariants.Own, Source.TheVariants.Got, Source.TheVariants.Const, LinkIn.LinkIn}
use Rattle.image_defs.specs.declared.image.{InColumn.InColumn, Work.TheVariants.Host, PortImage.PortImage, Image.Image}
use Rattle.image_defs.specs.{WellFormed.IsWellFormed, WellFormed.IsPresent, WellFormed.IsWork, Frames.frame, Frames.printed_value, Frames.shown}
use Rattle.image_defs.proofs.lemmas.PlaceLemmas.{at_map}
use Rattle.port_bank.specs.{Flat.IsWithin, Reads.IsAtHand, Reads.now_in, Reads.past_in}
use Rattle.port_bank.proofs.lemmas.TurnLemmas.{item_meets, there_within}
use Rattle.port_host.specs.Rows.{values_in, turn_of, rows_done, printed_sources, row_start, HasRoom, IsOn, HasRows}
use Rattle.port_host.specs.{declared.cursor.Progress.Progress, declared.port.HostPort.TheInside.Inside, code.Rows.HasPrinted, Kept.IsReady, Kept.view_of}
use Rattle.port_host.proofs.RowLemmas.{row_fits, cycles_over, cycle_runs, cycle_ends, cycle_goes_on, cycle_done, one_more, row_more}
use Rattle.port_host.proofs.CursorLemmas.{still_within, row_at}

-- ---- the work of the host

work_right : (image : Image) (p : ℕ) (port : PortImage) (inputs : List InColumn) (printed : List Source) → IsWellFormed image → IsPort image p port → port.work ≡ Host inputs printed
    → IsWork image.columns port (Host inputs printed)
work_right image p port inputs printed fits is work = subst (IsWork image.columns port) work (fits.ports p port is).work

same_work : (a : Inside) (port : PortImage) → IsReady a → IsPort a.bank.image a.bank.port port → port.work ≡ Host a.inputs.now a.printed.now
same_work a port ready is = let here = ready.is in let same : ready.port_image ≡ port = cc in subst (λ q. q.work ≡ Host a.inputs.now a.printed.now) same ready.work

pub printed_within : (a : Inside) → IsReady a → Each (IsWithin a.bank.image.slots) a.printed.now
printed_within a ready j source there =
    let right : IsPresent ready.port_image source = (work_right a.bank.image a.bank.port ready.port_image a.inputs.now a.printed.now ready.image ready.is ready.work).1 j source there in
    there_within a.bank.image a.bank.port ready.port_image source ready.image ready.is right.there

-- ---- before the first turn

pub host_found : (image : Image) (count : ℕ) (port_image : PortImage) (ports : List PortImage) → IsWellFormed image → ports ≡ image.ports → count ≡ length image.ports → port_image ≡ get_or ports (count - 1) port_image
    → IsPort image (host_of image) port_image
host_found image count port_image ports fits whole counted there =
    slice_get_read image.ports (length image.ports) (host_of image) port_image refl (omega (arith, fits.some_ports)) (there ∙ ap (λ xs. get_or xs (count - 1) port_image) whole ∙ ap (λ n. get_or image.ports (n - 1) port_image) counted)

pub room_made : (cells : List V4) (window count : ℕ) (printed : List Source) → length cells ≡ window * count → count ≡ length printed → length cells ≡ window * length printed
room_made cells window count printed room width = room ∙ ap (λ n. window * n) width

pub ready_first : (a : Inside) (image : Image) (stimulus : Stimulus) (port_image : PortImage) → a.bank ≡ at_first image stimulus (host_of image)
    → IsWellFormed image → IsValidStimulus stimulus → stimulus.columns ≡ image.columns → IsPort image (host_of image) port_image → port_image.work ≡ Host a.inputs.now a.printed.now
    → a.stim.now ≡ stimulus → a.units ≡ image.units → a.first_row ≡ 0
    → ((units : ℕ) → 0 < units → IsOn stimulus units a.progress) → ((units : ℕ) → turn_of units a.progress ≡ 1) → length a.cells ≡ a.window * length a.printed.now → IsReady a
ready_first a image stimulus port_image bank fits valid columns is work stim units none on first room =
    let no_rows : a.progress.rows ≡ 0 = omega (arith, first 1) in record {
      image = subst (λ view. IsWellFormed view.image) (sym bank) fits;
      stimulus = subst IsValidStimulus (sym stim) valid;
      columns = ap (λ s. s.columns) stim ∙ (columns ∙ ap (λ view. view.image.columns) (sym bank));
      stimulus_is = ap (λ view. view.stimulus) bank ∙ sym stim;
      units_is = units ∙ ap (λ view. view.image.units) (sym bank);
      host = subst (λ view. view.port ≡ host_of view.image) (sym bank) refl;
      port_image = port_image;
      is = subst (λ view. IsPort view.image view.port port_image) (sym bank) is;
      work = work;
      running = λ begun. absurd (not_begun (ap (λ view. view.begun) (sym bank) ∙ begun));
      turn = ap (λ view. view.turn) bank ∙ sym (first a.units);
      on = subst (λ s. IsOn s a.units a.progress) (sym stim) (on a.units (omega (arith, units, fits.units.0)));
      given = omega (arith, none);
      few = omega (arith, no_rows);
      room = room;
      cells = record { each = λ c j some few low. absurd (omega (arith, some, few, no_rows)) };
    }
  where
    not_begun : false ≡ true → ⊥
    not_begun e = cc

-- ---- an input

-- the run goes on in this turn
pub runs_here : (a : Inside) → IsReady a → a.bank.begun ≡ true → a.progress.rows < cycle_count a.stim.now
runs_here a ready begun =
    let few : a.bank.turn ≤ a.units * cycle_count a.stim.now =
    subst (λ u. a.bank.turn ≤ u * cycle_count a.stim.now) (sym ready.units_is) (subst (λ s. a.bank.turn ≤ a.bank.image.units * cycle_count s) ready.stimulus_is (ready.running begun)) in
    cycle_runs a.units (cycle_count a.stim.now) a.bank.turn a.progress ready.turn few

-- and there is a row of this cycle
pub row_there : (a : Inside) → IsReady a → a.bank.begun ≡ true → a.progress.cursor.row < length a.stim.now.rows
row_there a ready begun = still_within a.stim.now a.progress.rows a.progress.cursor ready.on.cursor (runs_here a ready begun)

-- the input that is executed next
pub record IsNext (a : Inside) (input : InColumn) : Type 0 where
  pub there : slice_get a.inputs.now a.bank.executed ≡ Some input
  pub low : input.column < a.stim.now.columns

pub next_input : (a : Inside) (slot i : ℕ) (d : InColumn) → IsReady a → CanExecute a.bank slot → i ≡ a.bank.executed → IsNext a (get_or a.inputs.now i d)
next_input a slot i d ready can same = of_input (at_map (λ input. input.slot) a.inputs.now a.bank.executed slot (subst (λ work. IsItemIn work a.bank.executed slot) (same_work a can.port ready can.is) can.next)) where
  of_input : (input : InColumn) × (slice_get a.inputs.now a.bank.executed ≡ Some input) × (input.slot ≡ slot) → IsNext a (get_or a.inputs.now i d)
  of_input (input, there, at) =
      let here : slice_get a.inputs.now a.bank.executed ≡ Some (get_or a.inputs.now i d) =
      ap (slice_get a.inputs.now) (sym same) ∙ slice_get-get_or a.inputs.now i d (omega (arith, same, slice_get_within a.inputs.now a.bank.executed input there)) in
      record {
        there = here;
        low = subst (λ n. (get_or a.inputs.now i d).column < n) (sym ready.columns)
            ((work_right a.bank.image a.bank.port ready.port_image a.inputs.now a.printed.now ready.image ready.is ready.work).0 a.bank.executed (get_or a.inputs.now i d) here);
      }

pub rows_here : (a : Inside) → IsReady a → rows_done a.bank ≡ a.progress.rows
rows_here a ready =
    ap (λ u. (a.bank.turn - 1) / u) (sym ready.units_is) ∙ cycles_over a.units a.bank.turn a.progress ready.on.unit ready.turn

pub next_answers : (a : Inside) (slot : ℕ) (input : InColumn) (v : V4) → IsReady a → (can : CanExecute a.bank slot) → IsNext a input
    → v ≡ value_at (values_in (slice_get a.stim.now.rows a.progress.cursor.row)) input.column → v ≡ value_in a.bank slot
next_answers a slot input v ready can next is =
    is
    ∙ ap (λ row. value_at row input.column) (sym (row_at a.stim.now a.progress.rows a.progress.cursor ready.on.cursor))
    ∙ ap (λ s. value_at (get_or (cycle_rows s) a.progress.rows []) input.column) (sym ready.stimulus_is)
    ∙ ap (λ n. value_at (get_or (cycle_rows a.bank.stimulus) n []) input.column) cycle
    ∙ ap (value_of_member (column_value a.bank.image a.bank.stimulus a.bank.turn)) (sym next.there)
    ∙ ap (λ work. item_value a.bank.image a.bank.stimulus a.bank.turn (past_in a.bank) (now_in a.bank).value a.bank.port can.port.ins work a.bank.executed) (sym (same_work a can.port ready can.is))
    ∙ sym (item_meets a.bank can.port a.bank.executed slot ready.image (omega (arith, ready.turn)) can.is can.next)
  where
    cycle : a.progress.rows ≡ cycle_of a.bank.image.units a.bank.turn - 1
    cycle = let done = rows_here a ready in omega (arith, done)

-- ---- the last turn of a cycle

last_turn_is : (a : Inside) → IsReady a → a.progress.unit + 1 ≡ a.units → a.bank.turn ≡ (a.progress.rows + 1) * a.bank.image.units
last_turn_is a ready last =
    ready.turn ∙ (let more = one_more a.progress.rows (a.progress.rows + 1) a.units refl in omega (arith, last, more)) ∙ ap (λ u. (a.progress.rows + 1) * u) ready.units_is

pub room_there : (a : Inside) → IsReady a → HasRoom (view_of a) → a.progress.unit + 1 ≡ a.units
    → row_start (a.progress.rows - a.first_row) (length a.printed.now) + length a.printed.now ≤ length a.cells
room_there a ready room last =
    let done = cycle_done a.bank (a.progress.rows + 1) (omega (arith, last, ready.units_is)) (last_turn_is a ready last) in
    let fits = row_fits (a.progress.rows - a.first_row) a.window (length a.printed.now) (omega (arith, room, done, ready.given)) in
    omega (arith, fits, ready.room)

-- a printed source is at hand once all is executed and received
present_at_hand : (view : PortView) (port : PortImage) (source : Source) → view.executed ≡ length (item_slots port.work) → view.received ≡ length port.ins → IsPresent port source → IsAtHand view port source
present_at_hand view port (Own s last) items receipts present = of_place present.there where
  of_place : (i : ℕ) × (slice_get (item_slots port.work) i ≡ Some s) → IsAtHand view port (Own s last)
  of_place (i, stands) = (i, stands, λ now. omega (arith, items, slice_get_within (item_slots port.work) i s stands))
present_at_hand view port (Got s last) items receipts present = of_place present.there where
  of_link : (i : ℕ) → (link : LinkIn) × (slice_get port.ins i ≡ Some link) × (link.slot ≡ s) → IsAtHand view port (Got s last)
  of_link i (link, there, same) = (i, link, there, same, λ now. omega (arith, receipts, slice_get_within port.ins i link there))

  of_place : (i : ℕ) × (slice_get (in_slots port.ins) i ≡ Some s) → IsAtHand view port (Got s last)
  of_place (i, stands) = of_link i (at_map (λ link. link.slot) port.ins i s stands)
present_at_hand view port (Const v) items receipts present = tt

-- it has what the values of this turn say
present_taken : (p : ℕ) (ins : List LinkIn) (old new : Grid) (port : PortImage) (source : Source) → IsPresent port source → source_value p ins old new source ≡ source_value p ins new new source
present_taken p ins old new port (Own s last) present = ap (λ l. source_value p ins old new (Own s l)) present.last ∙ ap (λ l. source_value p ins new new (Own s l)) (sym present.last)
present_taken p ins old new port (Got s last) present = ap (λ l. source_value p ins old new (Got s l)) present.last ∙ ap (λ l. source_value p ins new new (Got s l)) (sym present.last)
present_taken p ins old new port (Const v) present = refl

-- what the image prints, by its host
printed_is : (image : Image) (values : Grid) (p j : ℕ) (port_image : PortImage) (source : Source) → p ≡ host_of image → IsPort image p port_image → slice_get (printed_of port_image.work) j ≡ Some source
    → printed_value image values j ≡ source_value p port_image.ins values values source
printed_is image values p j port_image source host is there =
    ap (value_of_member (λ port. value_of_member (source_value (host_of image) port.ins values values) (slice_get (printed_of port.work) j))) (ap (slice_get image.ports) (sym host) ∙ is)
    ∙ ap (value_of_member (source_value (host_of image) port_image.ins values values)) there
    ∙ ap (λ q. source_value q port_image.ins values values source) (sym host)

-- the row of the cycle, once it is printed
module _ (a : Inside) (cells : List V4) (ready : IsReady a) (can : CanEnd a.bank) (last : a.progress.unit + 1 ≡ a.units)
    (kept : HasPrinted a.bank a.printed.now (length a.printed.now) (row_start (a.progress.rows - a.first_row) (length a.printed.now)) a.cells cells) where
  port_image_is : can.port ≡ ready.port_image
  port_image_is = let here = ready.is in let there = can.is in cc

  source_here : (j : ℕ) (source : Source) → j < length a.printed.now → slice_get a.printed.now j ≡ Some source
      → value_at cells (row_start (a.progress.rows - a.first_row) (length a.printed.now) + j) ≡ shown a.bank.image a.bank.stimulus (a.progress.rows + 1) j
  source_here j source low there =
      let right : IsPresent ready.port_image source = (work_right a.bank.image a.bank.port ready.port_image a.inputs.now a.printed.now ready.image ready.is ready.work).1 j source there in
      let items : a.bank.executed ≡ length (item_slots ready.port_image.work) = can.executed_all ∙ ap (λ q. length (item_slots q.work)) port_image_is in
      let receipts : a.bank.received ≡ length ready.port_image.ins = can.received_all ∙ ap (λ q. length q.ins) port_image_is in
      kept.printed j source low there ready.port_image ready.is (present_at_hand a.bank ready.port_image source items receipts right)
      ∙ present_taken a.bank.port ready.port_image.ins (past_in a.bank).value (now_in a.bank).value ready.port_image source right
      ∙ sym (printed_is a.bank.image (now_in a.bank).value a.bank.port j ready.port_image source ready.host ready.is (ap (λ work. slice_get (printed_of work) j) ready.work ∙ there))
      ∙ ap (λ t. printed_value a.bank.image (frame a.bank.image a.bank.stimulus t).value j) (last_turn_is a ready last)

  row_kept : HasRows (a.progress.rows - a.first_row + 1) (length a.printed.now) (λ c. shown a.bank.image a.bank.stimulus (a.first_row + c)) cells
  row_kept =
      row_more (a.progress.rows - a.first_row) (length a.printed.now) (λ c. shown a.bank.image a.bank.stimulus (a.first_row + c)) a.cells cells ready.cells kept.before
      (λ j low.
      source_here j (get_or a.printed.now j (Const Undef)) low (slice_get-get_or a.printed.now j (Const Undef) low)
      ∙ ap (λ c. shown a.bank.image a.bank.stimulus c j) row_number)
    where
      row_number : a.progress.rows + 1 ≡ a.first_row + (a.progress.rows - a.first_row + 1)
      row_number = omega (arith, ready.given)

pub ready_ended : (a : Inside) (cells : List V4) (progress : Progress) (bank : PortView) → IsReady a → CanEnd a.bank → HasRoom (view_of a)
    → (a.progress.unit + 1 ≡ a.units → HasPrinted a.bank a.printed.now (length a.printed.now) (row_start (a.progress.rows - a.first_row) (length a.printed.now)) a.cells cells)
    → (a.progress.unit + 1 ≢ a.units → cells ≡ a.cells) → IsOn a.stim.now a.units progress → turn_of a.units progress ≡ turn_of a.units a.progress + 1
    → bank ≡ after_end a.bank → IsReady (record a { bank = bank; progress = progress; cells = cells })
ready_ended a cells progress bank ready can room kept same on more is =
    subst (λ view. IsReady (record a { bank = view; progress = progress; cells = cells })) (sym is) (of_unit (cases_lt (a.progress.unit + 1) a.units))
  where
    turn_then : a.bank.turn + 1 ≡ turn_of a.units progress
    turn_then = ap (λ t. t + 1) ready.turn ∙ sym more

    rows_then : rows_done (after_end a.bank) ≡ progress.rows
    rows_then = ap (λ u. (a.bank.turn + 1 - 1) / u) (sym ready.units_is) ∙ cycles_over a.units (a.bank.turn + 1) progress on.unit turn_then

    ready_with : length cells ≡ length a.cells → a.progress.rows ≤ progress.rows
        → HasRows (progress.rows - a.first_row) (length a.printed.now) (λ c. shown a.bank.image a.bank.stimulus (a.first_row + c)) cells
        → IsReady (record a { bank = after_end a.bank; progress = progress; cells = cells })
    ready_with long no_less rows = record {
      image = ready.image;
      stimulus = ready.stimulus;
      columns = ready.columns;
      stimulus_is = ready.stimulus_is;
      units_is = ready.units_is;
      host = ready.host;
      port_image = ready.port_image;
      is = ready.is;
      work = ready.work;
      running = λ begun. cc;
      turn = turn_then;
      on = on;
      given = omega (arith, ready.given, no_less);
      few = omega (arith, room, rows_then);
      room = long ∙ ready.room;
      cells = rows;
    }

    of_unit : (a.progress.unit + 1 < a.units) ⊎ (a.units ≤ a.progress.unit + 1) → IsReady (record a { bank = after_end a.bank; progress = progress; cells = cells })
    of_unit (inl below) =
        let other : a.progress.unit + 1 ≢ a.units = λ e. omega (arith, below, e) in
        let stays : progress.rows ≡ a.progress.rows = cycle_goes_on a.units a.progress progress ready.on.unit on.unit more other in
        ready_with (ap length (same other)) (omega (arith, stays))
        (subst (λ rows. HasRows (rows - a.first_row) (length a.printed.now) (λ c. shown a.bank.image a.bank.stimulus (a.first_row + c)) cells) (sym stays)
        (subst (HasRows (a.progress.rows - a.first_row) (length a.printed.now) (λ c. shown a.bank.image a.bank.stimulus (a.first_row + c))) (sym (same other)) ready.cells))
    of_unit (inr past) =
        let last : a.progress.unit + 1 ≡ a.units = omega (arith, past, ready.on.unit) in
        let ends : progress.rows ≡ a.progress.rows + 1 = cycle_ends a.units a.progress progress on.unit more last in
        ready_with (kept last).long (omega (arith, ends))
        (subst (λ rows. HasRows rows (length a.printed.now) (λ c. shown a.bank.image a.bank.stimulus (a.first_row + c)) cells) (omega (arith, ends, ready.given)) (row_kept a cells ready can last (kept last)))

-- ---- rows that are given up

pub ready_given_up : (a : Inside) → IsReady a → IsReady (record a { first_row = a.progress.rows })
ready_given_up a ready = record {
  image = ready.image;
  stimulus = ready.stimulus;
  columns = ready.columns;
  stimulus_is = ready.stimulus_is;
  units_is = ready.units_is;
  host = ready.host;
  port_image = ready.port_image;
  is = ready.is;
  work = ready.work;
  running = ready.running;
  turn = ready.turn;
  on = ready.on;
  given = omega arith;
  few = omega arith;
  room = ready.room;
  cells = record { each = λ c j some few low. absurd (omega (arith, some, few)) };
}

-- ---- the cells

pub width_is : (a : Inside) → IsReady a → length (printed_sources a.bank.image) ≡ length a.printed.now
width_is a ready =
    ap (λ o. length (sources_of o)) (ap (slice_get a.bank.image.ports) (sym ready.host) ∙ ready.is) ∙ ap (λ work. length (printed_of work)) ready.work
  where
    sources_of : Option PortImage → List Source
    sources_of None = []
    sources_of (Some port) = printed_of port.work

pub row_done : (a : Inside) (cycle : ℕ) → IsReady a → a.first_row < cycle → cycle ≤ rows_done a.bank
    → row_start (cycle - 1 - a.first_row) (length a.printed.now) + length a.printed.now ≤ length a.cells
row_done a cycle ready kept few =
    let done = rows_here a ready in
    let fits = row_fits (cycle - 1 - a.first_row) a.window (length a.printed.now) (omega (arith, kept, few, done, ready.few)) in
    omega (arith, fits, ready.room)

pub cells_done : (a : Inside) (cycle j : ℕ) → IsReady a → a.first_row < cycle → cycle ≤ rows_done a.bank → j < length a.printed.now
    → value_at a.cells (row_start (cycle - 1 - a.first_row) (length a.printed.now) + j) ≡ shown a.bank.image a.bank.stimulus cycle j
cells_done a cycle j ready kept few low =
    ap (λ n. value_at a.cells (row_start n (length a.printed.now) + j)) place
    ∙ ready.cells.each (cycle - a.first_row) j (omega (arith, kept)) (let done = rows_here a ready in omega (arith, few, done)) low
    ∙ ap (λ c. shown a.bank.image a.bank.stimulus c j) number
  where
    place : cycle - 1 - a.first_row ≡ cycle - a.first_row - 1
    place = omega arith

    number : a.first_row + (cycle - a.first_row) ≡ cycle
    number = omega (arith, kept)
