use Rattle.std.proofs.Common.{◌∙◌, ap, subst, sym, ◌≡◌, length, Some, arith}
use Rattle.image_defs.specs.{Ports.at_first, WellFormed.IsHost, WellFormed.IsLogic, WellFormed.IsArray}
use Rattle.image_defs.specs.declared.image.Work.TheVariants.{Logic, Array}
use Rattle.port_walk.proofs.lemmas.KindLemmas.{port_image_there, host_last, host_number, rows_first, none_first}
use Rattle.port_walk.proofs.kind.first_kind.Goals as goal

pub returns-in_ok-new-in-Host : goal.returns-in_ok-new-in-Host
returns-in_ok-new-in-Host c =
    let image = c.args.image.now in
    let port_image = c.index-as_slice-port.result in
    let is = port_image_there image c.args.port port_image c.as_slice.result.now c.requires.there c.as_slice.ensures c.index-as_slice-port.is in
    let host = subst IsHost (sym (ap (λ s. s.work) c.index-as_slice-port.is ∙ c.in-Host.is)) tt in
    let last = host_last image c.requires.image c.args.port port_image is (c.args.window, 0) host in
    record {
      view = ap (λ host. host.port) c.in_ok-new-in-Host.ensures ∙ ap (at_first image c.args.stim.now) (host_number image c.args.port last);
      rows = ap (λ host. Some (host.window, host.first_row)) c.in_ok-new-in-Host.ensures ∙ rows_first image c.requires.image c.args.port port_image is (c.args.window, 0) host;
    }

pub bounds-as_slice-port : goal.bounds-as_slice-port
bounds-as_slice-port c = omega (arith, c.requires.there, ap length c.as_slice.ensures)

pub new-requires-clause-logic : goal.new-requires-clause-logic
new-requires-clause-logic c =
    let image = c.args.image.now in
    let port_image = c.index-as_slice-port.result in
    let is = port_image_there image c.args.port port_image c.as_slice.result.now c.requires.there c.as_slice.ensures c.index-as_slice-port.is in
    record { port = port_image; is = is; kind = subst IsLogic (sym (ap (λ s. s.work) c.index-as_slice-port.is ∙ c.in-Logic.is)) tt }

pub returns-in_ok-new-in-Logic : goal.returns-in_ok-new-in-Logic
returns-in_ok-new-in-Logic c =
    let image = c.args.image.now in
    let port_image = c.index-as_slice-port.result in
    let is = port_image_there image c.args.port port_image c.as_slice.result.now c.requires.there c.as_slice.ensures c.index-as_slice-port.is in
    let work : port_image.work ≡ Logic c.in-Logic.tables c.in-Logic.tasks = ap (λ s. s.work) c.index-as_slice-port.is ∙ c.in-Logic.is in
    record { view = c.in_ok-new-in-Logic.ensures; rows = none_first image c.requires.image c.args.port port_image is (c.args.window, 0) (subst IsHost work) }

pub new-requires-in-Array-clause-array : goal.new-requires-in-Array-clause-array
new-requires-in-Array-clause-array c =
    let image = c.args.image.now in
    let port_image = c.index-as_slice-port.result in
    let is = port_image_there image c.args.port port_image c.as_slice.result.now c.requires.there c.as_slice.ensures c.index-as_slice-port.is in
    record { port = port_image; is = is; kind = subst IsArray (sym (ap (λ s. s.work) c.index-as_slice-port.is ∙ c.in-Array.is)) tt }

pub returns-in_ok-new-in-Array : goal.returns-in_ok-new-in-Array
returns-in_ok-new-in-Array c =
    let image = c.args.image.now in
    let port_image = c.index-as_slice-port.result in
    let is = port_image_there image c.args.port port_image c.as_slice.result.now c.requires.there c.as_slice.ensures c.index-as_slice-port.is in
    let work : port_image.work ≡ Array c.in-Array.blocks c.in-Array.outs = ap (λ s. s.work) c.index-as_slice-port.is ∙ c.in-Array.is in
    record { view = c.in_ok-new-in-Array.ensures; rows = none_first image c.requires.image c.args.port port_image is (c.args.window, 0) (subst IsHost work) }
