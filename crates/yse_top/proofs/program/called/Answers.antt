-- Each promise of the call is handed on.
use Rattle.yse_top.proofs.program.called.Goals as goal

pub returns : goal.returns
returns g c = record {
  status = c.yse.result;
  number = c.exit_code.ensures;
  trace = c.yse.ensures.trace;
  readings = c.yse.ensures.expected.0;
  outcome = c.yse.ensures.expected.1;
  read = c.yse.ensures.expected.2;
  is = c.yse.ensures.expected.3;
  ends = c.yse.ensures.expected.4;
  told_turns = c.yse.ensures.expected.5;
  complete = c.yse.ensures.complete;
  visits = c.yse.ensures.visits;
  words_refused = c.yse.ensures.words;
  no_output = c.yse.ensures.no_output;
  no_line = c.yse.ensures.no_line;
  kept_store = c.yse.ensures.store;
  out_kept = c.yse.ensures.out_kept;
  err_kept = c.yse.ensures.err_kept;
  in_place = c.yse.ensures.in_place;
  read_fault = c.yse.ensures.read_fault;
  write_fault = c.yse.ensures.write_fault;
  begun = c.yse.ensures.begun;
  absent = c.yse.ensures.absent;
}
