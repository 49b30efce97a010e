use Rattle.std.proofs.Common.{◌∙◌, ◌≤◌, length, ap, ap₂, subst, sym}
use Rattle.net_defs.specs.declared.stimulus.Stimulus.{Stimulus}
use Rattle.image_defs.specs.{declared.image.Image.Image, Frames.shown}
use Rattle.port_host.specs.Rows.{printed_sources}
use Rattle.order_run.specs.Core.{CoreView, rows_of}
use Rattle.order_run.proofs.RoundLemmas.{first_here, host_there, image_here, stimulus_here, is_host, rows_here}
use Rattle.order_run.proofs.core_run.Core.cells.Goals as goal

pub cells-requires-clause-host : goal.cells-requires-clause-host
cells-requires-clause-host c core_port at = is_host c.self.inside c.self.invariant c.len.result c.len.ensures c.as_slice.result.now c.as_slice.ensures core_port at

pub cells-requires-clause-all : goal.cells-requires-clause-all
cells-requires-clause-all c core_port at = first_here c.self.inside c.self.invariant c.len.result c.len.ensures c.as_slice.result.now c.as_slice.ensures core_port at

pub cells-requires-clause-done : goal.cells-requires-clause-done
cells-requires-clause-done c core_port at =
    let rows = rows_here c.self.inside c.self.invariant c.len.result c.len.ensures c.as_slice.result.now c.as_slice.ensures core_port at in
    subst (λ n. c.args.cycle ≤ n) (sym (rows ∙ ap rows_of c.self.view_is)) c.requires.done

pub returns : goal.returns
returns c =
    let host = host_there c.self.inside c.self.invariant c.len.result c.len.ensures c.as_slice.result.now c.as_slice.ensures in
    let image = image_here c.self.inside c.self.invariant c.len.result c.len.ensures c.as_slice.result.now c.as_slice.ensures host.0 host.1 in
    let stimulus = stimulus_here c.self.inside c.self.invariant c.len.result c.len.ensures c.as_slice.result.now c.as_slice.ensures host.0 host.1 in
    record {
      long = (c.cells.ensures host.0 host.1).long ∙ ap (λ (i : Image). length (printed_sources i)) (image ∙ ap (λ (v : CoreView). v.image) c.self.view_is);
      cells = λ j low. (c.cells.ensures host.0 host.1).shows j low
          ∙ ap₂ (λ (i : Image) (s : Stimulus). shown i s c.args.cycle j) (image ∙ ap (λ (v : CoreView). v.image) c.self.view_is) (stimulus ∙ ap (λ (v : CoreView). v.stimulus) c.self.view_is);
    }
