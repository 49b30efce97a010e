-- Images that are built of one design send and receive alike.
use Rattle.std.proofs.Common.{◌≡◌, ◌∙◌, length, sym, subst, arith}
use Rattle.std.proofs.lemmas.Option.{slice_get_within}
use Rattle.list_laws.proofs.Members.{member_at}
use Rattle.event_defs.specs.Linked.{AreLinkedAlike}
use Rattle.net_defs.specs.declared.timing.Timing.{Timing}
use Rattle.node_defs.specs.declared.items.NodeNet.{NodeNet}
use Rattle.plan_defs.specs.{declared.plan.Homes.Homes, declared.plan.Plan.Plan, declared.switch.Switch.Switch, Homes.ports_of}
use Rattle.image_defs.specs.declared.image.Image.{Image}
use Rattle.image_build.specs.Built.{IsBuilt}

-- what is so of the parts of a design is so of the same
pub moved_parts : {nodes others : NodeNet} {homes other_homes : Homes} {plan other_plan : Plan} {switch other_switch : Switch} (P : NodeNet → Homes → Plan → Switch → Type 0)
    → (nodes ≡ others) × (homes ≡ other_homes) × (plan ≡ other_plan) × (switch ≡ other_switch) → P nodes homes plan switch → P others other_homes other_plan other_switch
moved_parts {others = others} {homes = homes} {other_homes = other_homes} {plan = plan} {other_plan = other_plan} {switch = switch} P same is =
    subst (P others other_homes other_plan) same.3
    (subst (λ p. P others other_homes p switch) same.2 (subst (λ h. P others h plan switch) same.1 (subst (λ n. P n homes plan switch) same.0 is)))

pub linked_alike : (nodes : NodeNet) (homes : Homes) (plan : Plan) (switch : Switch) (timing : Timing) (image twin : Image) → length switch.ports ≡ ports_of homes
    → IsBuilt nodes homes plan switch timing image → IsBuilt nodes homes plan switch timing twin → AreLinkedAlike image twin
linked_alike nodes homes plan switch timing image twin ports is is_too = record {
  units = is.matches.units ∙ sym is_too.matches.units;
  count = as_many ∙ (sym is_too.planned.ports ∙ is_too.matches.ports);
  ports = λ p port other at at_too.
      let found = member_at switch.ports p (omega (arith, slice_get_within image.ports p port at, as_many, ports)) in
      let links = is.links p port found.0 at found.1 in
      let others = is_too.links p other found.0 at_too found.1 in
      record { outs = links.outs ∙ sym others.outs; ins = links.ins ∙ sym others.ins };
} where
  -- the image has the ports of its homes
  as_many : length image.ports ≡ ports_of homes
  as_many = sym is.matches.ports ∙ is.planned.ports
