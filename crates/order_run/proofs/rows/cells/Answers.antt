use Rattle.std.proofs.Common.{ap, ap₂, arith, length, subst, sym, ℕ, ◌-◌, ◌/◌, ◌∙◌, ◌≤◌}
use Rattle.std.proofs.lemmas.Option.{get_or_from_slice_get, slice_get-get_or}
use Rattle.image_defs.specs.{Frames.shown, declared.image.Image.Image}
use Rattle.net_defs.specs.declared.stimulus.Stimulus.{Stimulus}
use Rattle.port_host.specs.Rows.{printed_sources}
use Rattle.order_run.specs.{code.CorePorts.IsRowOf, declared.core_ports.CorePort.CorePort}
use Rattle.order_run.proofs.rows.cells.Goals as goal

pub unreachable-requires : goal.unreachable-requires
unreachable-requires c = c.in-None.ensures (c.requires.host _ (slice_get-get_or c.args.core_ports.now c.args.p c.index-core_ports-p.result c.requires.there))

pub cells-requires : goal.cells-requires
cells-requires c =
    let first = c.requires.all _ (slice_get-get_or c.args.core_ports.now c.args.p c.index-core_ports-p.result c.requires.there) in
    record {
      kept = omega (arith, c.in-Some.ensures.first_row, first, c.requires.some);
      done = subst (λ rows. c.args.cycle ≤ rows)
          (sym (ap₂ (λ (turn units : ℕ). (turn - 1) / units) c.in-Some.ensures.turn (ap (λ (image : Image). image.units) c.in-Some.ensures.image)))
          (c.requires.done _ (slice_get-get_or c.args.core_ports.now c.args.p c.index-core_ports-p.result c.requires.there));
    }

pub returns : goal.returns
returns c core_port at =
    subst (λ (s : CorePort). IsRowOf s c.args.cycle c.cells.result.now) (get_or_from_slice_get c.args.core_ports.now c.args.p core_port c.index-core_ports-p.result at) (record {
      long = c.cells.ensures.long ∙ ap (λ (i : Image). length (printed_sources i)) c.in-Some.ensures.image;
      shows = λ j low. c.cells.ensures.cells j low ∙ ap₂ (λ (i : Image) (s : Stimulus). shown i s c.args.cycle j) c.in-Some.ensures.image c.in-Some.ensures.stimulus;
    })
