-- Each name is written after those before it.
use Rattle.std.proofs.Common.{◌∙◌, sym, ap, arith, ◌++◌, get_or}
use Rattle.std.proofs.lemmas.{Grind.get_or_default_zero, List.append-nil, Result.err_from_is_err_and}
use Rattle.std.specs.Prelude.{codes}
use Rattle.net_defs.specs.Canonical.{name_of}
use Rattle.edge_io.proofs.lemmas.WritingLemmas.{writes_none, writes_more, writes_ended, writes_all}
use Rattle.refusals.proofs.lines.netlist.write_names.Goals as goal

pub members-init : goal.members-init
members-init g c = writes_none _ _

pub returns-in_err-write_pieces : goal.returns-in_err-write_pieces
returns-in_err-write_pieces g c =
    let p = err_from_is_err_and c.from_residual.result c.from_residual.ensures.1 in
    rw (p.1, p.2) (writes_ended (λ s. codes " " ++ name_of c.args.net.now s) c.args.members.now c.members.member-index (get_or c.args.members.now c.members.member-index 0) _ _ _ _ _ _ _ _ _ c.members-test.true
    (sym (get_or_default_zero _ _ _ c.members-test.true)) c.in_err-write_pieces.was (ap (λ n. codes " " ++ n) (append-nil c.name_of.result.now ∙ c.name_of.ensures)) c.members.invariant c.write_pieces.ensures)

pub members-preserved : goal.members-preserved
members-preserved g c =
    writes_more (λ s. codes " " ++ name_of c.args.net.now s) c.args.members.now c.members.member-index (get_or c.args.members.now c.members.member-index 0) _ _ _ _ _ _ _ _ _ c.members-test.true
    (sym (get_or_default_zero _ _ _ c.members-test.true)) c.in_ok-write_pieces.was (ap (λ n. codes " " ++ n) (append-nil c.name_of.result.now ∙ c.name_of.ensures)) c.members.invariant c.write_pieces.ensures

pub returns : goal.returns
returns g c = writes_all (λ s. codes " " ++ name_of c.args.net.now s) c.args.members.now c.members.member-index _ _ _ _ (omega (arith, c.members-test.false)) c.members.invariant
