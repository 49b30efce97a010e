use Rattle.std.proofs.Common.{◌∙◌, [], get_or, sym, subst}
use Rattle.std.proofs.lemmas.Option.{slice_get-get_or}
use Rattle.port_bank.specs.Flat.{IsWithin}
use Rattle.port_logic.specs.Ops.{IsFormIn}
use Rattle.port_logic.proofs.OpLemmas.{look_is}
use Rattle.port_logic.proofs.op.gate_of.Goals.{in-Const+in-Const-d+in_default-pair_of, in-Const+in_default-d, in_default}
use Rattle.port_logic.proofs.op.gate_of.Goals as goal

pub pair_of-requires : goal.pair_of-requires
pair_of-requires g c = subst (λ table. IsFormIn g.W.Word.is_form table c.args.form) (slice_get-get_or c.args.tables.now c.args.table _ c.requires.tabled) c.requires.form

pub returns-in-Some : goal.returns-in-Some
returns-in-Some g c = record {
  third = c.in-Const.third;
  fourth = c.in-Const-d.fourth;
  c_is = c.in-Const.is;
  d_is = c.in-Const-d.is;
  read = get_or c.args.tables.now c.args.table (record { words = [] });
  there = slice_get-get_or c.args.tables.now c.args.table (record { words = [] }) c.requires.tabled;
  known = c.in-Some.ensures;
  x_is = c.operand_of.ensures;
  y_is = c.operand_of-in-Some.ensures;
}

pub look_of-requires-clause-c : goal.look_of-requires-clause-c
look_of-requires-clause-c g c = elim c.match-c.branch [
  | in-Const+in-Const-d+in_default-pair_of w ↦ subst (IsWithin c.args.slots) (sym w.c-is) tt
  | in-Const+in_default-d w ↦ subst (IsWithin c.args.slots) (sym w.c-is) tt
  | in_default w ↦ subst (IsWithin c.args.slots) (sym w.c-is) c.requires.c
]

pub look_of-requires-clause-d : goal.look_of-requires-clause-d
look_of-requires-clause-d g c = elim c.match-c.branch [
  | in-Const+in-Const-d+in_default-pair_of w ↦ subst (IsWithin c.args.slots) (sym w.d-is) tt
  | in-Const+in_default-d w ↦ subst (IsWithin c.args.slots) (sym w.d-is) c.requires.d
  | in_default w ↦ subst (IsWithin c.args.slots) (sym w.d-is) c.requires.d
]

pub returns : goal.returns
returns g c =
    let is = look_is g.W.Word.is_pair g.W.Word.is_form c.args.slots c.args.tables.now c.args.form c.args.table c.args.a c.args.b c.match-c.c c.match-c.d c.look_of.result c.look_of.ensures c.requires.form c.args.c c.args.d in
    elim c.match-c.branch [
      | in-Const+in-Const-d+in_default-pair_of w ↦ is (w.c-is ∙ sym w.in-Const.is) (w.d-is ∙ sym w.in-Const-d.is)
      | in-Const+in_default-d w ↦ is (w.c-is ∙ sym w.in-Const.is) w.d-is
      | in_default w ↦ is w.c-is w.d-is
    ]
