-- The images that are built of one design are one, and so are their claims.
use Rattle.std.proofs.Common.{◌≡◌, ◌∙◌, ℕ, List, length, map, Some, slice_get, sym, ap, subst}
use Rattle.std.proofs.lemmas.{List.length-map, Option.slice_get-map}
use Rattle.list_laws.proofs.Options.{one_some}
use Rattle.std.specs.Option.{option_map}
use Rattle.event_defs.specs.Linked.{AreLinkedAlike}
use Rattle.net_defs.specs.declared.timing.Timing.{Timing}
use Rattle.node_defs.specs.declared.items.NodeNet.{NodeNet}
use Rattle.func_table.specs.Entries.{HasWords}
use Rattle.func_table.proofs.OrderLemmas.{same_by, words_decide}
use Rattle.plan_defs.specs.declared.{plan.Homes.Homes, plan.Plan.Plan, switch.Switch.Switch}
use Rattle.image_defs.specs.declared.image.{Work.Work, Work.TheVariants.Logic, Work.TheVariants.Array, Work.TheVariants.Host, Image.Image}
use Rattle.image_defs.specs.{Places.Each, declared.file.Claims.Claims, declared.file.PortClaims.PortClaims, Claimed.lists_of}
use Rattle.image_file.specs.Ranges.{tables_of}
use Rattle.image_build.specs.Built.{IsBuilt, IsOrdered}
use Rattle.image_build.proofs.OneImage.{IsBuiltBy, AreAll, one_built}
use Rattle.yse_compile.specs.{declared.compiler.Compiled.Compiled, Claims.AreClaimsOf}
use Rattle.yse_compile.proofs.ClaimLemmas.{one_claims}

-- claims of the same lists are the same
same_claims : (one other : Claims) → lists_of one ≡ lists_of other → one ≡ other
same_claims one other same = ap (λ ps. record { ports = ps }) (same_by one.ports other.ports (sym (length-map one.ports (λ (q : PortClaims). q.items)) ∙ ap length same ∙ length-map other.ports (λ (q : PortClaims). q.items)) (λ k p q here there.
    ap (λ xs. record { items = xs }) (one_some p.items q.items
    (sym (read one.ports k p here) ∙ ap (λ xs. slice_get xs k) same ∙ read other.ports k q there)))) where
      read : (ports : List PortClaims) (k : ℕ) (p : PortClaims) → slice_get ports k ≡ Some p → slice_get (map (λ (q : PortClaims). q.items) ports) k ≡ Some p.items
      read ports k p here = slice_get-map (λ (q : PortClaims). q.items) ports k ∙ ap (option_map (λ (q : PortClaims). q.items)) here

-- tables of eight words, where there are any
all_words : (image : Image) → Each (λ port. Each HasWords (tables_of port.work)) image.ports → Each (λ port. AreAll HasWords port.work) image.ports
all_words image words p port at = by port.work (words p port at) where
  by : (work : Work) → Each HasWords (tables_of work) → AreAll HasWords work
  by (Logic tables tasks) whole = whole
  by (Array blocks outs) whole = tt
  by (Host inputs printed) whole = tt

-- a built image by the lists of its claims
built_by : (timing : Timing) (compiled : Compiled) (claims : Claims) → IsBuilt compiled.nodes compiled.homes compiled.plan compiled.switch timing compiled.image → AreClaimsOf compiled claims
    → IsBuiltBy compiled.nodes compiled.homes compiled.plan.slots (lists_of claims) timing compiled.image
built_by timing compiled claims built are =
    let same : built.claims ≡ lists_of claims = one_claims compiled.nodes compiled.homes compiled.plan.slots built.claims (lists_of claims) built.planned are.planned in
    let matches = are.matches timing built in
    record {
      placed = record { fits = built.fits; planned = are.planned; placed = are.placed; ports = matches.ports };
      matches = matches;
      ordered = λ p port at. subst (λ lists. IsOrdered compiled.nodes compiled.homes compiled.image lists p port.ins port.work) same (built.ordered p port at);
    }

-- a design of these parts
abbrev pub design_of : NodeNet → Homes → Plan → Switch → Image → Compiled
design_of nodes homes plan switch image = record { nodes = nodes; homes = homes; plan = plan; switch = switch; image = image }

pub one_image : (nodes : NodeNet) (homes : Homes) (plan : Plan) (switch : Switch) (timing : Timing) (image twin : Image) (claims claims_too : Claims)
    → IsBuilt nodes homes plan switch timing image → IsBuilt nodes homes plan switch timing twin → AreLinkedAlike image twin
    → AreClaimsOf (design_of nodes homes plan switch image) claims → AreClaimsOf (design_of nodes homes plan switch twin) claims_too → (image ≡ twin) × (claims ≡ claims_too)
one_image nodes homes plan switch timing image twin claims claims_too built built_too linked are are_too = (
  one_built nodes homes plan.slots (lists_of claims_too) timing image twin HasWords
      (subst (λ lists. IsBuiltBy nodes homes plan.slots lists timing image) lists (built_by timing (design_of nodes homes plan switch image) claims built are))
      (built_by timing (design_of nodes homes plan switch twin) claims_too built_too are_too)
      (built.slots ∙ sym built_too.slots) words_decide (all_words image are.words) (all_words twin are_too.words)
      (λ p port other at at_too. (let links = linked.ports p port other at at_too in (links.outs, links.ins))),
  same_claims claims claims_too lists,
) where
  lists : lists_of claims ≡ lists_of claims_too
  lists = one_claims nodes homes plan.slots (lists_of claims) (lists_of claims_too) are.planned are_too.planned
