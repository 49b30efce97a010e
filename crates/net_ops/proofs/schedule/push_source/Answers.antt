use Rattle.std.proofs.Common.{◌≡◌, ◌∙◌, sym, ap, get_or, Some}
use Rattle.std.proofs.lemmas.{Option.slice_get-get_or, Result.on_ok_weaker}
use Rattle.net_ops.specs.Schedules.{giver_of}
use Rattle.net_ops.proofs.ScheduleLemmas.{is_source, sources_kept, sources_more}
use Rattle.net_ops.proofs.schedule.push_source.Goals as goal

pub returns-then-is_gate : goal.returns-then-is_gate
returns-then-is_gate c = sources_kept c.args.net.now c.args.s c.args.sources.now c.requires.before (sym c.is_gate.ensures ∙ c.if-is_gate.true)

pub returns : goal.returns
returns c =
    let found = c.index-as_slice-s.result in
    let read : get_or c.args.net.now.signals c.args.s found ≡ found = rw (← c.as_slice.ensures) (sym c.index-as_slice-s.is) in
    let at = slice_get-get_or c.args.net.now.signals c.args.s found c.requires.signal ∙ ap Some read in
    let giver = c.giver_of.ensures ∙ ap (λ n. giver_of n found.driver) c.len.ensures in
    on_ok_weaker c.push.result (sources_more c.args.net.now c.args.s c.args.sources.now c.push.new.self c.giver_of.result c.requires.before
    (is_source c.args.net.now c.requires.valid c.args.s found c.giver_of.result at (sym c.is_gate.ensures ∙ c.if-is_gate.false) giver)) c.push.ensures.ok
