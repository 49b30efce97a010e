use Rattle.std.proofs.Common.{◌∙◌, refl}
use Rattle.image_build.specs.PortItems.{ArePlanClaims}
use Rattle.image_build.proofs.image.laid_out.Goals as goal

pub port_images-requires-clause-claims : goal.port_images-requires-clause-claims
port_images-requires-clause-claims c = rw c.as_slice.ensures c.in_ok-items.ensures

pub returns : goal.returns
returns c =
    let claims : ArePlanClaims c.args.nodes.now c.args.homes.now c.args.plan.now.slots c.as_slice.result.now = rw c.as_slice.ensures c.in_ok-items.ensures in
    let columns = rw c.as_slice-2.ensures at c.column_count.ensures in (
      c.as_slice.result.now,
      record {
        slots = refl;
        units = refl;
        init = refl;
        columns = columns;
        ports = c.in_ok-ports.ensures.are ∙ claims.ports;
        planned = claims;
        works = c.in_ok-ports.ensures.works;
        links = c.in_ok-ports.ensures.links;
      },
    )
