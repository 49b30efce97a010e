-- In each lane the packed host keeps what a plain host keeps.
use Rattle.std.proofs.Common.{◌≡◌, ◌≢◌, ◌∙◌, ℕ, ◌+◌, ◌-◌, ◌*◌, ◌/◌, ◌<◌, ◌≤◌, Bool, true, List, [], length, get_or, sym, ap, subst, refl, arith}
use Rattle.std.proofs.{Math.Nat.div-le_of_le-mul, lemmas.List.length-map, lemmas.Option.slice_get_within}
use Rattle.limits.specs.declared.TheConstants.{LANES, MAX_CYCLES}
use Rattle.logic_four.specs.Values.{value_at}
use Rattle.net_defs.specs.{declared.stimulus.Stimulus.Stimulus, Time.cycle_rows, Time.cycle_count}
use Rattle.image_defs.specs.Ports.{at_first, after_end, CanExecute, CanEnd, last_turn, value_in}
use Rattle.image_defs.specs.declared.image.{InColumn.InColumn, Work.TheVariants.Host, PortImage.PortImage, Image.Image}
use Rattle.image_defs.specs.{Places.Each, Places.host_of, Places.IsPort, WellFormed.IsWellFormed, Frames.shown}
use Rattle.lane_planes.specs.{declared.planes.Planes.Planes, Lanes.lane_of}
use Rattle.stim_text.specs.{declared.lanes.Lanes.Lanes, Lanes.lane_stimulus, Lanes.longest, Lanes.AreLanes}
use Rattle.stim_text.proofs.lemmas.LaneLemmas.{lane_valid, lane_columns, lane_cycles}
use Rattle.port_bank.specs.{Flat.IsWithin, Packed.PackPortView, Packed.lane_port, Packed.InEachLane}
use Rattle.port_host.specs.Rows.{printed_sources, row_start, HasRoom, IsAt, IsOn}
use Rattle.port_host.specs.declared.cursor.RowCursor.{RowCursor}
use Rattle.port_host.specs.declared.port.HostPort.TheInside as plain
use Rattle.port_host.specs.Kept as plain_host
use Rattle.port_host.proofs.HostLemmas as host
use Rattle.pack_walk.specs.{Cells.in_lane, code.Cells.HasPrintedAll, code.Feeds.FeedView, code.Feeds.IsFed, Ready.lane_host, Ready.IsReady, Turns.cycles_done}
use Rattle.pack_walk.specs.{code.Turns.turn_at, declared.port.PackHost.TheInside.Inside}
use Rattle.port_host.proofs.CursorLemmas.{row_at}
use Rattle.pack_walk.proofs.{CursorLemmas.cursor_at, FeedLemmas.fed_padded}

-- ---- before the first turn

pub ready_new : (a : Inside) (image : Image) (lanes : Lanes) (port_image : PortImage) → a.bank ≡ at_first image lanes (host_of image) → IsWellFormed image → AreLanes image.columns lanes → IsPort image (host_of image) port_image
    → port_image.work ≡ Host a.inputs.now a.printed.now → a.feed ≡ record { lanes = lanes; columns = image.columns; cycles = 0 } → a.units ≡ image.units → a.unit ≡ 0 → length a.cells ≡ longest lanes * length a.printed.now → IsReady a
ready_new a image lanes port_image bank fits are is work feed units unit room = record {
  lanes = subst (λ (v : PackPortView). AreLanes v.image.columns v.stimulus) (sym bank) are;
  feed_lanes = ap (λ (f : FeedView). f.lanes) feed ∙ ap (λ (v : PackPortView). v.stimulus) (sym bank);
  feed_columns = ap (λ (f : FeedView). f.columns) feed ∙ ap (λ (v : PackPortView). v.image.columns) (sym bank);
  each = λ l low. (
    (cursor l).0,
    host.ready_first (lane_host l (cursor l).0 a) image (stimulus l) port_image (ap (lane_port l) bank) fits (lane_valid image.columns lanes l are) (lane_columns image.columns lanes l are) is work
        (ap (λ (v : PackPortView). lane_stimulus v.image.columns v.stimulus l) bank) units refl (on l) first
        (length-map a.cells (λ (q : Planes). lane_of q l) ∙ (room ∙ ap (λ (v : PackPortView). longest v.stimulus * length a.printed.now) (sym bank))),
  );
} where
  stimulus : ℕ → Stimulus
  stimulus l = lane_stimulus image.columns lanes l

  cycles : a.feed.cycles ≡ 0
  cycles = ap (λ (f : FeedView). f.cycles) feed

  cursor : (l : ℕ) → (c : RowCursor) × IsAt (stimulus l) 0 c
  cursor l = cursor_at (stimulus l) (lane_valid image.columns lanes l are) 0

  on : (l units : ℕ) → 0 < units → IsOn (stimulus l) units (record { rows = a.feed.cycles; unit = a.unit; cursor = (cursor l).0 })
  on l units some = record {
    rows = omega (arith, cycles);
    unit = omega (arith, unit, some);
    cursor = subst (λ n. IsAt (stimulus l) n (cursor l).0) (sym cycles) (cursor l).1;
  }

  first : (units : ℕ) → turn_at units a.feed.cycles a.unit ≡ 1
  first units = ap (λ n. n * units + a.unit + 1) cycles ∙ omega (arith, unit)

-- ---- within a turn

plain_moved : (b : plain.Inside) (begun : Bool) (executed received : ℕ) → plain_host.IsReady b → (begun ≡ true → b.bank.turn ≤ last_turn b.bank)
    → plain_host.IsReady (record b { bank = record b.bank { begun = begun; executed = executed; received = received } })
plain_moved b begun executed received ready running = record {
  image = ready.image;
  stimulus = ready.stimulus;
  columns = ready.columns;
  stimulus_is = ready.stimulus_is;
  units_is = ready.units_is;
  host = ready.host;
  port_image = ready.port_image;
  is = ready.is;
  work = ready.work;
  running = running;
  turn = ready.turn;
  on = ready.on;
  given = ready.given;
  few = ready.few;
  room = ready.room;
  cells = ready.cells;
}

pub ready_moved : (a : Inside) (begun : Bool) (executed received : ℕ) (bank : PackPortView) → IsReady a → (begun ≡ true → InEachLane (λ view. view.turn ≤ last_turn view) a.bank)
    → bank ≡ record a.bank { begun = begun; executed = executed; received = received } → IsReady (record a { bank = bank })
ready_moved a begun executed received bank ready running is = subst (λ (v : PackPortView). IsReady (record a { bank = v })) (sym is) (record {
  lanes = ready.lanes;
  feed_lanes = ready.feed_lanes;
  feed_columns = ready.feed_columns;
  each = λ l low. ((ready.each l low).0, plain_moved (lane_host l (ready.each l low).0 a) begun executed received (ready.each l low).1 (λ begins. running begins l low));
})

-- a turn that has begun is one of the run
pub still_runs : (a : Inside) → IsReady a → a.bank.begun ≡ true → InEachLane (λ view. view.turn ≤ last_turn view) a.bank
still_runs a ready begun l low = (ready.each l low).1.running begun

-- ---- an input

pub column_there : (a : Inside) (slot i : ℕ) (d : InColumn) → IsReady a → InEachLane (λ view. CanExecute view slot) a.bank → i ≡ a.bank.executed → (i < length a.inputs.now) × ((get_or a.inputs.now i d).column < a.feed.columns)
column_there a slot i d ready can same =
    let one = ready.each 0 (omega arith) in
    let next = host.next_input (lane_host 0 one.0 a) slot i d one.1 (can 0 (omega arith)) same in
    (omega (arith, same, slice_get_within a.inputs.now a.bank.executed (get_or a.inputs.now i d) next.there), omega (arith, next.low, one.1.columns, ready.feed_columns))

pub inputs_answer : (a : Inside) (slot i : ℕ) (d : InColumn) (values : Planes) → IsReady a → InEachLane (λ view. CanExecute view slot) a.bank → i ≡ a.bank.executed
    → IsFed a.feed.columns a.feed.lanes a.feed.cycles (get_or a.inputs.now i d).column values → (l : ℕ) → l < LANES → lane_of values l ≡ value_in (lane_port l a.bank) slot
inputs_answer a slot i d values ready can same fed l low =
    let one = ready.each l low in
    let input = get_or a.inputs.now i d in
    let stimulus = lane_stimulus a.bank.image.columns a.bank.stimulus l in
    host.next_answers (lane_host l one.0 a) slot input (lane_of values l) one.1 (can l low) (host.next_input (lane_host l one.0 a) slot i d one.1 (can l low) same)
    (fed l low
    ∙ (fed_padded a.feed.columns a.feed.lanes a.feed.cycles input.column l
    ∙ (ap (λ n. value_at (get_or (cycle_rows (lane_stimulus n a.feed.lanes l)) a.feed.cycles []) input.column) ready.feed_columns
    ∙ (ap (λ lanes. value_at (get_or (cycle_rows (lane_stimulus a.bank.image.columns lanes l)) a.feed.cycles []) input.column) ready.feed_lanes
    ∙ ap (λ row. value_at row input.column) (row_at stimulus a.feed.cycles one.0 one.1.on.cursor)))))

-- ---- the end of a turn

pub units_here : (a : Inside) → IsReady a → a.unit < a.units
units_here a ready = (ready.each 0 (omega arith)).1.on.unit

pub printed_there : (a : Inside) → IsReady a → Each (IsWithin a.bank.image.slots) a.printed.now
printed_there a ready = let one = ready.each 0 (omega arith) in host.printed_within (lane_host 0 one.0 a) one.1

-- the cycle is one of the run
cycle_low : (a : Inside) (l : ℕ) (low : l < LANES) → IsReady a → a.bank.begun ≡ true → a.feed.cycles < cycle_count (lane_stimulus a.bank.image.columns a.bank.stimulus l)
cycle_low a l low ready begun = let one = ready.each l low in host.runs_here (lane_host l one.0 a) one.1 begun

pub few_cycles : (a : Inside) → IsReady a → a.bank.begun ≡ true → a.feed.cycles < MAX_CYCLES
few_cycles a ready begun =
    let valid = lane_valid a.bank.image.columns a.bank.stimulus 0 ready.lanes in
    omega (arith, cycle_low a 0 (omega arith) ready begun, valid.cycles)

has_room : (a : Inside) (l : ℕ) (low : l < LANES) (ready : IsReady a) → a.bank.begun ≡ true → HasRoom (plain_host.view_of (lane_host l (ready.each l low).0 a))
has_room a l low ready begun =
    let one = ready.each l low in
    let few : a.bank.turn ≤ a.bank.image.units * longest a.bank.stimulus =
    subst (λ n. a.bank.turn ≤ a.bank.image.units * n) (lane_cycles a.bank.image.columns a.bank.stimulus l) (one.1.running begun) in
    let done : a.bank.turn / a.bank.image.units ≤ longest a.bank.stimulus = div-le_of_le-mul a.bank.image.units few in
    let same : (a.bank.turn + 1 - 1) / a.bank.image.units ≡ a.bank.turn / a.bank.image.units = ap (λ n. n / a.bank.image.units) (omega arith) in
    omega (arith, done, same)

no_less : (n : ℕ) → n - 0 ≡ n
no_less n = omega arith

pub room_for : (a : Inside) → IsReady a → a.bank.begun ≡ true → a.unit + 1 ≡ a.units → row_start a.feed.cycles (length a.printed.now) + length a.printed.now ≤ length a.cells
room_for a ready begun last =
    let one = ready.each 0 (omega arith) in
    let fits = host.room_there (lane_host 0 one.0 a) one.1 (has_room a 0 (omega arith) ready begun) last in
    let same : row_start (a.feed.cycles - 0) (length a.printed.now) ≡ row_start a.feed.cycles (length a.printed.now) = ap (λ n. row_start n (length a.printed.now)) (no_less a.feed.cycles) in
    omega (arith, fits, same, length-map a.cells (λ (q : Planes). lane_of q 0))

pub ready_over : (a : Inside) (cells : List Planes) (feed : FeedView) (unit : ℕ) (bank : PackPortView) → IsReady a → InEachLane CanEnd a.bank
    → (a.unit + 1 ≡ a.units → HasPrintedAll a.bank a.printed.now (length a.printed.now) (row_start a.feed.cycles (length a.printed.now)) a.cells cells)
    → (a.unit + 1 ≢ a.units → cells ≡ a.cells) → unit < a.units → turn_at a.units feed.cycles unit ≡ turn_at a.units a.feed.cycles a.unit + 1
    → feed.cycles ≤ a.feed.cycles + 1 → feed ≡ record a.feed { cycles = feed.cycles } → bank ≡ after_end a.bank
    → IsReady (record a { bank = bank; feed = feed; unit = unit; cells = cells })
ready_over a cells feed unit bank ready can kept same within more few moved is =
    subst (λ (v : PackPortView). IsReady (record a { bank = v; feed = feed; unit = unit; cells = cells })) (sym is) (record {
      lanes = ready.lanes;
      feed_lanes = ap (λ (f : FeedView). f.lanes) moved ∙ ready.feed_lanes;
      feed_columns = ap (λ (f : FeedView). f.columns) moved ∙ ready.feed_columns;
      each = λ l low. ((cursor l).0, ended l low);
    })
  where
    stimulus : ℕ → Stimulus
    stimulus l = lane_stimulus a.bank.image.columns a.bank.stimulus l

    cursor : (l : ℕ) → (c : RowCursor) × IsAt (stimulus l) feed.cycles c
    cursor l = cursor_at (stimulus l) (lane_valid a.bank.image.columns a.bank.stimulus l ready.lanes) feed.cycles

    ended : (l : ℕ) (low : l < LANES) → plain_host.IsReady (lane_host l (cursor l).0 (record a { bank = after_end a.bank; feed = feed; unit = unit; cells = cells }))
    ended l low =
        let one = ready.each l low in
        let begun = (can l low).begun in
        let on : IsOn (stimulus l) a.units (record { rows = feed.cycles; unit = unit; cursor = (cursor l).0 }) = record {
          rows = omega (arith, few, cycle_low a l low ready begun);
          unit = within;
          cursor = (cursor l).1;
        } in
        host.ready_ended (lane_host l one.0 a) (in_lane l cells) (record { rows = feed.cycles; unit = unit; cursor = (cursor l).0 }) (lane_port l (after_end a.bank)) one.1 (can l low) (has_room a l low ready begun)
        (λ last.
        let printed = (kept last).lanes l low in
        rw (no_less a.feed.cycles) printed)
        (λ other. ap (in_lane l) (same other)) on more refl

-- ---- the cells

pub cell_there : (a : Inside) (cycle column : ℕ) → IsReady a → 1 ≤ cycle → cycle ≤ cycles_done a.bank → column < length (printed_sources a.bank.image)
    → row_start (cycle - 1) (length a.printed.now) + column < length a.cells
cell_there a cycle column ready first done low =
    let one = ready.each 0 (omega arith) in
    let there = host.row_done (lane_host 0 one.0 a) cycle one.1 (omega (arith, first)) done in
    let same : row_start (cycle - 1 - 0) (length a.printed.now) ≡ row_start (cycle - 1) (length a.printed.now) = ap (λ n. row_start n (length a.printed.now)) (no_less (cycle - 1)) in
    omega (arith, there, same, low, host.width_is (lane_host 0 one.0 a) one.1, length-map a.cells (λ (q : Planes). lane_of q 0))

pub cell_shows : (a : Inside) (l cycle column : ℕ) → IsReady a → l < LANES → 1 ≤ cycle → cycle ≤ cycles_done a.bank → column < length (printed_sources a.bank.image)
    → value_at (in_lane l a.cells) (row_start (cycle - 1) (length a.printed.now) + column) ≡ shown a.bank.image (lane_stimulus a.bank.image.columns a.bank.stimulus l) cycle column
cell_shows a l cycle column ready lane first done low =
    let one = ready.each l lane in
    ap (λ n. value_at (in_lane l a.cells) (row_start n (length a.printed.now) + column)) (sym (no_less (cycle - 1)))
    ∙ host.cells_done (lane_host l one.0 a) cycle column one.1 (omega (arith, first)) done (omega (arith, low, host.width_is (lane_host l one.0 a) one.1))
