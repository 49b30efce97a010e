use Rattle.std.proofs.Common.{◌≡◌, [], get_or, subst, sym}
use Rattle.std.proofs.lemmas.Option.{slice_get-get_or}
use Rattle.logic_four.specs.Values.{settled}
use Rattle.func_table.specs.Entries.{entry_for}
use Rattle.image_defs.specs.Ports.{lane_port}
use Rattle.port_bank.specs.{Flat.place_count, Reads.IsHeld, Reads.IsRead}
use Rattle.port_bank.proofs.lemmas.LaneLemmas.{in_lane}
use Rattle.port_logic.specs.{Ops.IsFormIn, code.Ops.FitsOp, code.Tasks.IsAnswer}
use Rattle.port_logic.proofs.OpLemmas.{keep_right, look_right, pair_right}
use Rattle.port_logic.proofs.port.answer.Goals as goal

pub returns-in-Look : goal.returns-in-Look
returns-in-Look g c l low =
    let table = get_or c.args.tables.now c.in-Look.table (record { words = [] }) in
    subst (λ op. IsAnswer g.W.Word.is_pair g.W.Word.is_form (lane_port g.W.Word.stimulus l c.args.bank.now) c.args.tables.now op c.args.slot (g.W.Word.lane c.look.result l)) (sym c.in-Look.is)
    (look_right g.W.Word.is_pair g.W.Word.is_form (lane_port g.W.Word.stimulus l c.args.bank.now) c.args.tables.now c.in-Look.form c.in-Look.table c.in-Look.a c.in-Look.b c.in-Look.c c.in-Look.d c.args.slot table
    (g.W.Word.lane c.read-a-in-Look.result l) (g.W.Word.lane c.read-b-in-Look.result l) (g.W.Word.lane c.read-c.result l) (g.W.Word.lane c.read-d.result l) (g.W.Word.lane c.look.result l)
    (slice_get-get_or c.args.tables.now c.in-Look.table (record { words = [] }) (subst (FitsOp g.W.Word.is_form c.args.tables.now (place_count c.args.bank.now.image.slots)) c.in-Look.is c.requires.fits).0)
    (in_lane g.W.Word.lanes (λ l. IsRead (lane_port g.W.Word.stimulus l c.args.bank.now) c.in-Look.a (g.W.Word.lane c.read-a-in-Look.result l)) c.read-a-in-Look.ensures l low)
    (in_lane g.W.Word.lanes (λ l. IsRead (lane_port g.W.Word.stimulus l c.args.bank.now) c.in-Look.b (g.W.Word.lane c.read-b-in-Look.result l)) c.read-b-in-Look.ensures l low)
    (in_lane g.W.Word.lanes (λ l. IsRead (lane_port g.W.Word.stimulus l c.args.bank.now) c.in-Look.c (g.W.Word.lane c.read-c.result l)) c.read-c.ensures l low)
    (in_lane g.W.Word.lanes (λ l. IsRead (lane_port g.W.Word.stimulus l c.args.bank.now) c.in-Look.d (g.W.Word.lane c.read-d.result l)) c.read-d.ensures l low)
    (in_lane g.W.Word.lanes (λ l. g.W.Word.lane c.look.result l ≡ entry_for table (g.W.Word.lane c.read-a-in-Look.result l) (g.W.Word.lane c.read-b-in-Look.result l) (g.W.Word.lane c.read-c.result l) (g.W.Word.lane c.read-d.result l)) c.look.ensures l low))

pub returns-in-Keep : goal.returns-in-Keep
returns-in-Keep g c l low =
    subst (λ op. IsAnswer g.W.Word.is_pair g.W.Word.is_form (lane_port g.W.Word.stimulus l c.args.bank.now) c.args.tables.now op c.args.slot (g.W.Word.lane c.held.result l)) (sym c.in-Keep.is)
    (keep_right g.W.Word.is_pair g.W.Word.is_form (lane_port g.W.Word.stimulus l c.args.bank.now) c.args.tables.now c.in-Keep.from c.args.slot (g.W.Word.lane c.read-taken.result l) (g.W.Word.lane c.held.result l)
    (in_lane g.W.Word.lanes (λ l. IsRead (lane_port g.W.Word.stimulus l c.args.bank.now) c.in-Keep.from (g.W.Word.lane c.read-taken.result l)) c.read-taken.ensures l low)
    (subst (λ v. IsHeld (lane_port g.W.Word.stimulus l c.args.bank.now) c.args.slot v (g.W.Word.lane c.held.result l))
    (in_lane g.W.Word.lanes (λ l. g.W.Word.lane c.settled-settled.result l ≡ settled (g.W.Word.lane c.read-taken.result l)) c.settled-settled.ensures l low)
    (in_lane g.W.Word.lanes (λ l. IsHeld (lane_port g.W.Word.stimulus l c.args.bank.now) c.args.slot (g.W.Word.lane c.settled-settled.result l) (g.W.Word.lane c.held.result l)) c.held.ensures l low)))

pub read-a-requires : goal.read-a-requires
read-a-requires g c = (subst (FitsOp g.W.Word.is_form c.args.tables.now (place_count c.args.bank.now.image.slots)) c.in-Pair.is c.requires.fits).0

pub read-b-requires : goal.read-b-requires
read-b-requires g c = (subst (FitsOp g.W.Word.is_form c.args.tables.now (place_count c.args.bank.now.image.slots)) c.in-Pair.is c.requires.fits).1

pub bounds-tables-table : goal.bounds-tables-table
bounds-tables-table g c = (subst (FitsOp g.W.Word.is_form c.args.tables.now (place_count c.args.bank.now.image.slots)) c.in-Look.is c.requires.fits).0

pub read-a-requires-in-Look : goal.read-a-requires-in-Look
read-a-requires-in-Look g c = (subst (FitsOp g.W.Word.is_form c.args.tables.now (place_count c.args.bank.now.image.slots)) c.in-Look.is c.requires.fits).2

pub read-b-requires-in-Look : goal.read-b-requires-in-Look
read-b-requires-in-Look g c = (subst (FitsOp g.W.Word.is_form c.args.tables.now (place_count c.args.bank.now.image.slots)) c.in-Look.is c.requires.fits).3

pub read-c-requires : goal.read-c-requires
read-c-requires g c = (subst (FitsOp g.W.Word.is_form c.args.tables.now (place_count c.args.bank.now.image.slots)) c.in-Look.is c.requires.fits).4

pub read-d-requires : goal.read-d-requires
read-d-requires g c = (subst (FitsOp g.W.Word.is_form c.args.tables.now (place_count c.args.bank.now.image.slots)) c.in-Look.is c.requires.fits).5

pub read-taken-requires : goal.read-taken-requires
read-taken-requires g c = subst (FitsOp g.W.Word.is_form c.args.tables.now (place_count c.args.bank.now.image.slots)) c.in-Keep.is c.requires.fits

pub look-requires : goal.look-requires
look-requires g c =
    let fits = subst (FitsOp g.W.Word.is_form c.args.tables.now (place_count c.args.bank.now.image.slots)) c.in-Look.is c.requires.fits in
    subst (λ table. IsFormIn g.W.Word.is_form table c.in-Look.form) (slice_get-get_or c.args.tables.now c.in-Look.table _ fits.0) fits.1

pub returns-in-Pair : goal.returns-in-Pair
returns-in-Pair g c l low =
    let view = lane_port g.W.Word.stimulus l c.args.bank.now in
    let lane = g.W.Word.lane in
    subst (λ op. IsAnswer g.W.Word.is_pair g.W.Word.is_form view c.args.tables.now op c.args.slot (lane c.pair.result l)) (sym c.in-Pair.is)
    (pair_right g.W.Word.is_pair g.W.Word.is_form view c.args.tables.now c.in-Pair.pair c.in-Pair.a c.in-Pair.b c.args.slot (lane c.read-a.result l) (lane c.read-b.result l) (lane c.pair.result l)
    (in_lane g.W.Word.lanes (λ l. IsRead (lane_port g.W.Word.stimulus l c.args.bank.now) c.in-Pair.a (lane c.read-a.result l)) c.read-a.ensures l low)
    (in_lane g.W.Word.lanes (λ l. IsRead (lane_port g.W.Word.stimulus l c.args.bank.now) c.in-Pair.b (lane c.read-b.result l)) c.read-b.ensures l low)
    (λ table third fourth known.
    in_lane g.W.Word.lanes (λ l. lane c.pair.result l ≡ entry_for table (lane c.read-a.result l) (lane c.read-b.result l) third fourth) (c.pair.ensures table third fourth known) l low))
