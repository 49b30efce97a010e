use Rattle.std.proofs.Common.{ap, ap₂, ℕ, ◌-◌, ◌/◌, ◌∙◌}
use Rattle.std.proofs.lemmas.Option.{get_or_from_slice_get, slice_get-get_or}
use Rattle.image_defs.specs.declared.image.Image.{Image}
use Rattle.order_run.specs.code.CorePorts.{host_rows}
use Rattle.order_run.proofs.rows.rows_done.Goals as goal

pub unreachable-requires : goal.unreachable-requires
unreachable-requires c = c.in-None.ensures (c.requires.host _ (slice_get-get_or c.args.core_ports.now c.args.p c.index-core_ports-p.result c.requires.there))

pub returns : goal.returns
returns c core_port at =
    c.rows_done.ensures
    ∙ (ap₂ (λ (turn units : ℕ). (turn - 1) / units) c.in-Some.ensures.turn (ap (λ (image : Image). image.units) c.in-Some.ensures.image)
    ∙ ap host_rows (get_or_from_slice_get c.args.core_ports.now c.args.p core_port c.index-core_ports-p.result at))
