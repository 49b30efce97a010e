use Rattle.std.proofs.Common.{◌≡◌, ◌∙◌, ◌<◌, length, ap, subst, sym}
use Rattle.std.proofs.lemmas.Option.{slice_get_within}
use Rattle.image_defs.specs.{Places.IsPort, WellFormed.IsLogic}
use Rattle.port_bank.proofs.lemmas.TurnLemmas.{port_image_found}
use Rattle.port_logic.specs.code.Ops.{AreForms}
use Rattle.port_logic.proofs.TaskLemmas.{tasks_tabled, tasks_within, ready_first}
use Rattle.port_logic.proofs.port.LogicPort.new.Goals as goal

pub ops_of-requires-clause-within : goal.ops_of-requires-clause-within
ops_of-requires-clause-within g c =
    let port_image = c.index-as_slice-port.result in
    let same : c.requires.logic.port ≡ port_image = port_image_found c.args.image.now c.args.port c.requires.logic.port port_image _ c.requires.logic.is c.as_slice.ensures c.index-as_slice-port.is in
    rw c.as_slice-tasks.ensures
    (tasks_within c.args.image.now c.args.port port_image c.in-Logic.tables c.in-Logic.tasks c.requires.image (subst (IsPort c.args.image.now c.args.port) same c.requires.logic.is) c.in-Logic.is)

pub ops_of-requires-clause-tabled : goal.ops_of-requires-clause-tabled
ops_of-requires-clause-tabled g c =
    let port_image = c.index-as_slice-port.result in
    let same : c.requires.logic.port ≡ port_image = port_image_found c.args.image.now c.args.port c.requires.logic.port port_image _ c.requires.logic.is c.as_slice.ensures c.index-as_slice-port.is in
    rw (c.as_slice-tables.ensures, c.as_slice-tasks.ensures)
    (tasks_tabled c.args.image.now c.args.port port_image c.in-Logic.tables c.in-Logic.tasks c.requires.image (subst (IsPort c.args.image.now c.args.port) same c.requires.logic.is) c.in-Logic.is)

pub invariant_of-result : goal.invariant_of-result
invariant_of-result g c =
    let port_image = c.index-as_slice-port.result in
    let same : c.requires.logic.port ≡ port_image = port_image_found c.args.image.now c.args.port c.requires.logic.port port_image _ c.requires.logic.is c.as_slice.ensures c.index-as_slice-port.is in
    ready_first g.W.Word.is_pair g.W.Word.is_form c.in_ok-bank-in-Logic.bank c.as_slice-tables.result.now c.as_slice-tasks.result.now c.in_ok-ops-in-Logic.ops
    c.args.image.now c.args.stim.now c.args.port port_image c.in_ok-bank-in-Logic.ensures c.requires.image (subst (IsPort c.args.image.now c.args.port) same c.requires.logic.is)
    (rw (c.as_slice-tables.ensures, c.as_slice-tasks.ensures) c.in-Logic.is) c.in_ok-ops-in-Logic.ensures

pub unreachable-requires : goal.unreachable-requires
unreachable-requires g c =
    let port_image = c.index-as_slice-port.result in
    let same : c.requires.logic.port ≡ port_image = port_image_found c.args.image.now c.args.port c.requires.logic.port port_image _ c.requires.logic.is c.as_slice.ensures c.index-as_slice-port.is in
    subst IsLogic (ap (λ q. q.work) same ∙ c.in-Array.is) c.requires.logic.kind

pub unreachable-requires-in-Host : goal.unreachable-requires-in-Host
unreachable-requires-in-Host g c =
    let port_image = c.index-as_slice-port.result in
    let same : c.requires.logic.port ≡ port_image = port_image_found c.args.image.now c.args.port c.requires.logic.port port_image _ c.requires.logic.is c.as_slice.ensures c.index-as_slice-port.is in
    subst IsLogic (ap (λ q. q.work) same ∙ c.in-Host.is) c.requires.logic.kind

pub bounds-as_slice-port : goal.bounds-as_slice-port
bounds-as_slice-port g c = subst (λ ports. c.args.port < length ports) (sym c.as_slice.ensures) (slice_get_within c.args.image.now.ports c.args.port c.requires.logic.port c.requires.logic.is)

pub ops_of-requires-clause-forms : goal.ops_of-requires-clause-forms
ops_of-requires-clause-forms g c = subst (AreForms g.W.Word.is_form c.as_slice-tables.result.now) (sym c.as_slice-in-Logic.ensures) c.in_ok-forms-in-Logic.ensures
