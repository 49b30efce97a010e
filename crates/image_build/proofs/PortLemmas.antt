-- The ports, one after another.
use Rattle.std.proofs.Common.{◌≡◌, inl, inr, ℕ, ◌+◌, List, [], ◌∷◌, ◌++◌, length, Some, slice_get, sym, ap, ◌∙◌, refl, arith}
use Rattle.std.proofs.lemmas.{Bool.cases_lt, List.length_push, Option.slice_get_within}
use Rattle.list_laws.proofs.Places.{at_front}
use Rattle.node_defs.specs.declared.items.NodeNet.{NodeNet}
use Rattle.image_defs.specs.{declared.image.PortImage.PortImage, Matches.claims_of}
use Rattle.plan_defs.specs.declared.{plan.Homes.Homes, plan.Plan.Plan, switch.PortLinks.PortLinks, switch.Switch.Switch}
use Rattle.image_build.specs.{Built.AreLinksOf, code.Layouts.IsWorkFor, code.Plans.AreFirstPorts}
use Rattle.image_build.proofs.GrowLemmas.{last_place}

module _ (nodes : NodeNet) (homes : Homes) (plan : Plan) (switch : Switch) (claims : List (List ℕ)) where
  pub ports_none : AreFirstPorts nodes homes plan switch claims 0 []
  ports_none = record {
    are = refl;
    works = λ p port here. (let low = slice_get_within {A = PortImage} [] p port here in absurd (omega (arith, low)));
    links = λ p port links here at. (let low = slice_get_within {A = PortImage} [] p port here in absurd (omega (arith, low)));
  }

  -- one more port
  pub ports_more : (n : ℕ) (ports : List PortImage) (port : PortImage) (links : PortLinks) → AreFirstPorts nodes homes plan switch claims n ports → IsWorkFor nodes homes plan.slots n (claims_of claims n) port.work
      → slice_get switch.ports n ≡ Some links → AreLinksOf links port → AreFirstPorts nodes homes plan switch claims (n + 1) (ports ++ port ∷ [])
  ports_more n ports port links so_far work at linked = record {
    are = length_push ports port ∙ ap (λ k. k + 1) so_far.are;
    works = λ p one here. elim (cases_lt p (length ports)) [
      | inl inside ↦ so_far.works p one (sym (at_front ports (port ∷ []) p inside) ∙ here)
      | inr past ↦ (let last = last_place ports port p one past here in let is : p ≡ n = last.0 ∙ so_far.are in rw (is, last.1) work)
    ];
    links = λ p one other here there. elim (cases_lt p (length ports)) [
      | inl inside ↦ so_far.links p one other (sym (at_front ports (port ∷ []) p inside) ∙ here) there
      | inr past ↦ (
          let last = last_place ports port p one past here in
          let is : p ≡ n = last.0 ∙ so_far.are in
          let same : other ≡ links = cc (is, there, at) in
          rw (same, last.1) linked)
    ];
  }
