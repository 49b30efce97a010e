-- A plan has one list of claims, and through it a built image matches its items.
use Rattle.std.proofs.Common.{◌≡◌, ◌∙◌, ℕ, ◌<◌, List, [], length, map, sym, ap, subst, arith}
use Rattle.std.proofs.lemmas.List.{ext_get_or, length-map}
use Rattle.net_defs.specs.declared.timing.Timing.{Timing}
use Rattle.node_defs.specs.declared.items.NodeNet.{NodeNet}
use Rattle.plan_defs.specs.{declared.plan.Homes.Homes, Homes.ports_of, Slots.slot_of}
use Rattle.switch_set.proofs.lemmas.SameLemmas.{same_slots}
use Rattle.image_defs.specs.{Places.Each, Places.item_slots, Matches.claims_of, Matches.Matches, declared.file.Claims.Claims}
use Rattle.image_defs.specs.{declared.file.PortClaims.PortClaims, Claimed.lists_of, Claimed.HasClaims}
use Rattle.image_check.proofs.ClaimLemmas.{claims_there}
use Rattle.image_file.specs.Ranges.{tables_of}
use Rattle.image_build.specs.{PortItems.IsAt, PortItems.ArePortItems, PortItems.ArePlanClaims, Built.IsBuilt}
use Rattle.yse_compile.specs.{declared.compiler.Compiled.Compiled, Claims.IsPlaced, Claims.AreClaimsOf}
use Rattle.func_table.specs.Entries.{HasWords}

module _ (nodes : NodeNet) (homes : Homes) (slots : List ℕ) where
  one_port : (p : ℕ) (xs ys : List ℕ) → ArePortItems nodes homes slots p xs → ArePortItems nodes homes slots p ys → xs ≡ ys
  one_port p xs ys one other =
      same_slots (slot_of slots) (λ i x. x ≡ i) (λ i x y first second. first ∙ sym second) (IsAt nodes homes p) xs ys
      one.rising other.rising one.each one.whole other.each other.whole

  pub one_claims : (xs ys : List (List ℕ)) → ArePlanClaims nodes homes slots xs → ArePlanClaims nodes homes slots ys → xs ≡ ys
  one_claims xs ys one other =
      ext_get_or [] xs ys (one.ports ∙ sym other.ports) (λ p low.
      let within : p < ports_of homes = let count = one.ports in omega (arith, low, count) in
      one_port p (claims_of xs p) (claims_of ys p) (one.items p within) (other.items p within))

-- claims that are the plan's are those of the design
pub plan_claims_are : (compiled : Compiled) (claims : Claims) → IsPlaced compiled
    → ArePlanClaims compiled.nodes compiled.homes compiled.plan.slots (lists_of claims) → Each (λ port. Each HasWords (tables_of port.work)) compiled.image.ports → AreClaimsOf compiled claims
plan_claims_are compiled claims is planned words = record {
  planned = planned;
  placed = λ p port at. subst (λ lists. item_slots port.work ≡ map (slot_of compiled.plan.slots) (claims_of lists p)) (same is.timing is.built) (is.built.placed p port at);
  words = words;
  whole = whole;
  matches = through;
} where
  same : (timing : Timing) (built : IsBuilt compiled.nodes compiled.homes compiled.plan compiled.switch timing compiled.image) → built.claims ≡ lists_of claims
  same timing built = one_claims compiled.nodes compiled.homes compiled.plan.slots built.claims (lists_of claims) built.planned planned

  through : (timing : Timing) → IsBuilt compiled.nodes compiled.homes compiled.plan compiled.switch timing compiled.image → Matches compiled.image (lists_of claims) compiled.nodes timing
  through timing built = subst (λ lists. Matches compiled.image lists compiled.nodes timing) (same timing built) built.matches

  whole : HasClaims (record { image = compiled.image; claims = claims })
  whole = record {
    ports = sym (length-map claims.ports (λ (port : PortClaims). port.items)) ∙ (through is.timing is.built).ports;
    items = λ p port here at there. sym (ap length (claims_there claims p here (sym there))) ∙ (through is.timing is.built).as_many p port at;
  }
