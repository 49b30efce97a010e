-- The outcome that the call came to, and the law of whole calls, say the rest.
use Rattle.std.proofs.Common.{map}
use Rattle.std.specs.String.{string_bytes}
use Rattle.yse_commands.specs.Expected.{Expected}
use Rattle.yse_top.proofs.CameLemmas.{absent_came, completes_came, fault_came, line_kept, output_kept, trace_came, visits_came, words_came, write_came}
use Rattle.yse_top.proofs.CallLemmas.{few_begun}
use Rattle.yse_top.proofs.yse.Goals as goal

pub returns-clause-expected : goal.returns-clause-expected
unfolding Expected
returns-clause-expected g c = let came = c.call.ensures.came in (came.follows.readings, came.outcome, came.follows.are, came.follows.step, came.ends, came.told)

pub returns-clause-trace : goal.returns-clause-trace
returns-clause-trace g c is = trace_came _ _ _ _ _ _ (map string_bytes c.args.words.now) _ _ _ _ _ _ c.calls_are_proper.ensures.words c.call.ensures.came is

pub returns-clause-visits : goal.returns-clause-visits
returns-clause-visits g c = visits_came g.G.Gate _ _ _ _ _ (map string_bytes c.args.words.now) _ _ _ _ _ _ c.calls_are_proper.ensures.words c.call.ensures.came

pub returns-clause-complete : goal.returns-clause-complete
unfolding Expected
returns-clause-complete g c readings outcome expected well told kept written =
    completes_came _ _ _ _ _ _ (map string_bytes c.args.words.now) _ _ _ _ _ _ _ (c.calls_are_proper.ensures.proper (map string_bytes c.args.words.now)) c.call.ensures.came readings outcome expected well told kept written

pub returns-clause-words : goal.returns-clause-words
returns-clause-words g c = words_came _ _ _ _ _ _ (map string_bytes c.args.words.now) _ _ _ _ _ _ c.calls_are_proper.ensures.words c.call.ensures.came

pub returns-clause-read_fault : goal.returns-clause-read_fault
unfolding Expected
returns-clause-read_fault g c is = fault_came _ _ _ _ _ _ (map string_bytes c.args.words.now) _ _ _ _ _ _ _ (c.calls_are_proper.ensures.proper (map string_bytes c.args.words.now)) c.call.ensures.came is

pub returns-clause-write_fault : goal.returns-clause-write_fault
unfolding Expected
returns-clause-write_fault g c is = write_came _ _ _ _ _ _ (map string_bytes c.args.words.now) _ _ _ _ _ _ _ (c.calls_are_proper.ensures.proper (map string_bytes c.args.words.now)) c.call.ensures.came is

pub returns-clause-begun : goal.returns-clause-begun
unfolding Expected
returns-clause-begun g c =
    let came = c.call.ensures.came in
    few_begun _ _ _ _ _ _ came.follows.readings came.outcome (c.calls_are_proper.ensures.proper (map string_bytes c.args.words.now)) came.follows.are came.follows.step

pub returns-clause-absent : goal.returns-clause-absent
unfolding Expected
returns-clause-absent g c other = absent_came _ _ _ _ _ _ (map string_bytes c.args.words.now) _ _ _ _ _ _ _ (c.calls_are_proper.ensures.proper (map string_bytes c.args.words.now)) c.call.ensures.came other

pub returns-clause-store : goal.returns-clause-store
returns-clause-store g c = let follows = c.call.ensures.came.follows in record { same_names = follows.same_names; same_bytes = follows.same_bytes }

pub returns-clause-out_kept : goal.returns-clause-out_kept
returns-clause-out_kept g c = let came = c.call.ensures.came in output_kept _ came.outcome _ _ _ _ came.ends

pub returns-clause-err_kept : goal.returns-clause-err_kept
returns-clause-err_kept g c = let came = c.call.ensures.came in line_kept _ came.outcome _ _ _ _ _ _ _ _ came.ends
