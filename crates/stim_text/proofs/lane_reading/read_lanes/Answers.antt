use Rattle.std.proofs.{Common.◌∙◌, lemmas.Result.err_from_is_err_and}
use Rattle.stim_text.specs.{declared.refusal.LaneNo.TheVariants.Memory as NoMemory, LaneTexts.first_lanes_fault}
use Rattle.stim_text.proofs.{LaneTextLemmas.lanes_from_none, LaneTextLemmas.none_from_lanes, LaneTextLemmas.lanes_from_reads, ReadingLemmas.memory_alone}
use Rattle.stim_text.proofs.lane_reading.read_lanes.Goals as goal

pub returns-clause-answers : goal.returns-clause-answers
returns-clause-answers c =
    let read = c.in_ok-lanes.ensures.answers in
    (read.0, lanes_from_none c.args.inputs c.args.bytes.now c.in_ok-lanes.lanes read.0 read.1)

pub returns-clause-lanes : goal.returns-clause-lanes
returns-clause-lanes c =
    let read = c.in_ok-lanes.ensures.answers in
    lanes_from_reads c.args.inputs c.args.bytes.now _ (lanes_from_none c.args.inputs c.args.bytes.now c.in_ok-lanes.lanes read.0 read.1)

pub returns-in_err-lanes-clause-only : goal.returns-in_err-lanes-clause-only
returns-in_err-lanes-clause-only c lanes reads =
    let p = err_from_is_err_and c.from_residual.result c.from_residual.ensures.1 in
    let none = none_from_lanes c.args.inputs c.args.bytes.now lanes reads in
    let memory = memory_alone (first_lanes_fault c.args.inputs c.args.bytes.now) NoMemory c.in_err-lanes.field-0.0 none c.in_err-lanes.ensures.answers in
    (none, rw p.1 (p.2 ∙ memory))
