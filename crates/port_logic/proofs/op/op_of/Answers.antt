use Rattle.std.proofs.Common.{◌<◌, length, subst, sym, arith}
use Rattle.std.proofs.lemmas.Option.{slice_get_read}
use Rattle.port_logic.specs.{Ops.IsOp, code.Ops.IsTabled, code.Ops.IsTaskWithin}
use Rattle.port_logic.proofs.op.op_of.Goals as goal

pub bounds-forms-table : goal.bounds-forms-table
bounds-forms-table g c =
    let low : c.in-Eval.table < length c.args.tables.now = subst (IsTabled (length c.args.tables.now)) c.in-Eval.is c.requires.tabled in
    omega (arith, low, c.requires.forms.long)

pub gate_of-requires : goal.gate_of-requires
gate_of-requires g c =
    let low : c.in-Eval.table < length c.args.tables.now = subst (IsTabled (length c.args.tables.now)) c.in-Eval.is c.requires.tabled in
    let within = subst (IsTaskWithin c.args.slots) c.in-Eval.is c.requires.within in
    record {
      few = c.requires.few;
      tabled = low;
      form = c.requires.forms.each c.in-Eval.table c.index-forms-table.result (slice_get_read c.args.forms.now (length c.args.tables.now) c.in-Eval.table c.index-forms-table.result (sym c.requires.forms.long) low c.index-forms-table.is);
      a = within.0;
      b = within.1;
      c = within.2;
      d = within.3;
    }

pub operand_of-requires-clause-within : goal.operand_of-requires-clause-within
operand_of-requires-clause-within g c = subst (IsTaskWithin c.args.slots) c.in-Hold.is c.requires.within

pub returns-in-Eval : goal.returns-in-Eval
returns-in-Eval g c = subst (λ task. IsOp g.W.Word.is_pair g.W.Word.is_form c.args.slots c.args.tables.now task c.gate_of.result) (sym c.in-Eval.is) c.gate_of.ensures
