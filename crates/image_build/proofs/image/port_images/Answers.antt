use Rattle.std.proofs.Common.{◌≡◌, ◌∙◌, ◌<◌, [], length, Some, slice_get, ap, sym, subst, arith}
use Rattle.std.proofs.lemmas.{List.get_or_default, Option.slice_get-get_or}
use Rattle.image_defs.specs.Matches.{claims_of}
use Rattle.image_build.specs.{PortItems.ArePortItems, code.Layouts.IsWorkFor}
use Rattle.image_build.proofs.PortLemmas.{ports_more}
use Rattle.image_build.proofs.image.port_images.Goals as goal

pub port_image-requires-clause-items : goal.port_image-requires-clause-items
port_image-requires-clause-items c =
    let same : c.as_slice-items.result.now ≡ claims_of c.args.lists.now c.ports.p = c.as_slice-items.ensures ∙ c.index-lists-p.is ∙ get_or_default c.args.lists.now c.ports.p c.index-lists-p.result [] c.ports-test.true in
    subst (ArePortItems c.args.nodes.now c.args.homes.now c.args.plan.now.slots c.ports.p) (sym same) (c.requires.claims.items c.ports.p (omega (arith, c.ports-test.true, c.requires.claims.ports)))

pub ports-preserved : goal.ports-preserved
ports-preserved c =
    let same : c.as_slice-items.result.now ≡ claims_of c.args.lists.now c.ports.p = c.as_slice-items.ensures ∙ c.index-lists-p.is ∙ get_or_default c.args.lists.now c.ports.p c.index-lists-p.result [] c.ports-test.true in
    let within : c.ports.p < length c.args.switch.now.ports = omega (arith, c.ports-test.true, c.requires.claims.ports, c.requires.switch.ports) in
    let is = rw c.as_slice-links.ensures at c.index-links-p.is in
    let at : slice_get c.args.switch.now.ports c.ports.p ≡ Some c.index-links-p.result = slice_get-get_or c.args.switch.now.ports c.ports.p c.index-links-p.result within ∙ ap Some (sym is) in
    let work = subst (λ items. IsWorkFor c.args.nodes.now c.args.homes.now c.args.plan.now.slots c.ports.p items c.in_ok-port.port.work) same c.in_ok-port.ensures.work in
    rw c.in_ok-push.ensures.ok (ports_more c.args.nodes.now c.args.homes.now c.args.plan.now c.args.switch.now c.args.lists.now c.ports.p c.ports.ports c.in_ok-port.port c.index-links-p.result c.ports.invariant
    work at c.in_ok-port.ensures.links)
