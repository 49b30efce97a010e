-- Items that are used at each logic port.
use Rattle.std.proofs.Common.{◌≡◌, ◌≢◌, ◌∙◌, inl, inr, ℕ, ◌<◌, Bool, true, false, List, length, replicate, get_or, sym, ap, arith}
use Rattle.std.proofs.lemmas.{Bool.cases_eq, List.length-replicate}
use Rattle.list_laws.proofs.Ranges.{replicate_read}
use Rattle.node_defs.specs.{declared.items.NodeNet.NodeNet, WellFormed.IsWellFormed}
use Rattle.plan_defs.specs.{declared.plan.Homes.Homes, Homes.AreHomes, Homes.home_of}
use Rattle.home_pick.specs.{declared.bags.Entry.Entry, Bags.flag, code.Bags.times, Crossings.uses_by, Crossings.moved}
use Rattle.home_pick.specs.code.{Moves.others_at, Moves.pull_by, Moves.AreUsesWithout, Spread.AreSpread, Spread.AreSpreadWithout, Spread.Unmarks, Uses.bag_at}
use Rattle.home_pick.specs.code.Work.{beside}
use Rattle.home_pick.proofs.{SumLemmas.if_same, SumLemmas.if_apart, SumLemmas.flag_some, LinkLemmas.uses_low, MoveLemmas.uses_home, MoveLemmas.uses_moved}
use Rattle.home_pick.proofs.PullLemmas.{used_pull}

-- nothing is marked
pub none_spread : (nodes : NodeNet) (homes : Homes) (spread : List Bool) → spread ≡ replicate (length nodes.items) false → AreSpread nodes homes spread
none_spread nodes homes spread is = record {
  size = ap length is ∙ length-replicate {A = Bool} (length nodes.items) false;
  each = λ i port marked within. absurd (let f : false ≡ true = sym (replicate_read (length nodes.items) i false) ∙ ap (λ (s : List Bool). get_or s i false) (sym is) ∙ marked in cc);
}

-- node v is lifted
pub lifted_spread : (nodes : NodeNet) (homes : Homes) (uses : List (List Entry)) (old new : List Bool) (v own : ℕ) (taken : List Entry) → IsWellFormed nodes → AreHomes nodes homes → AreSpread nodes homes old → AreUsesWithout nodes homes v uses → v < length nodes.items
    → ((i : ℕ) → times taken i ≡ uses_by nodes v i) → own ≡ home_of homes v → Unmarks old new (λ i. times taken i ≢ 0 → times (bag_at uses i) own ≢ 0) → AreSpreadWithout nodes homes v new
lifted_spread nodes homes uses old new v own taken formed are spread without low counts home unmarks = record {
  size = unmarks.size ∙ spread.size;
  each = λ i port marked within.
      let some = spread.each i port (unmarks.had i marked) within in
      let split = uses_home nodes homes v i port (omega (arith, low, are.items)) are.items in
      elim (cases_eq (home_of homes v) port) [
        | inr apart ↦ (λ none. some (let nothing = if_apart (home_of homes v) port (uses_by nodes v i) 0 apart in omega (arith, split, nothing, none)))
        | inl same ↦ elim (cases_eq (uses_by nodes v i) 0) [
          | inl unused ↦ (λ none. some (let nothing = if_same (home_of homes v) port (uses_by nodes v i) 0 same in omega (arith, split, nothing, none, unused)))
          | inr used ↦
              let holds = unmarks.holds i marked (λ none. used (sym (counts i) ∙ none)) in
              let there : times (bag_at uses i) own ≡ others_at nodes homes v i port = without.times i own (uses_low nodes v i formed used) ∙ ap (others_at nodes homes v i) (home ∙ same) in
              (λ none. holds (there ∙ none))
        ]
      ];
}

-- node v is put
pub put_spread : (nodes : NodeNet) (homes : Homes) (spread : List Bool) (v port : ℕ) → AreHomes nodes homes → v < length nodes.items → AreSpreadWithout nodes homes v spread → AreSpread nodes (moved homes v port) spread
put_spread nodes homes spread v port are low without = record {
  size = without.size;
  each = λ i q marked within none. without.each i q marked within (let all = uses_moved nodes homes v port i q (omega (arith, low, are.items)) are.items in omega (arith, all, none));
}

-- what is used everywhere pulls equally everywhere
pub even_pull : (nodes : NodeNet) (homes : Homes) (v port : ℕ) (spread : List Bool) (e : Entry) → AreSpreadWithout nodes homes v spread → e.key ≢ v → uses_by nodes v e.key ≢ 0 → get_or spread e.key false ≡ true → port < homes.logic → beside (pull_by nodes homes v port) v e ≡ 1
even_pull nodes homes v port spread e without apart some marked within =
    let others : flag (others_at nodes homes v e.key port) ≡ 1 = flag_some (others_at nodes homes v e.key port) (let is = without.each e.key port marked within in omega (arith, is)) in
    let used = used_pull nodes homes v port e.key apart some in
    let first = if_apart e.key v 0 (pull_by nodes homes v port e.key) apart in
    elim (cases_eq (home_of homes e.key) port) [
      | inl here ↦ (let at = if_same (home_of homes e.key) port 1 (flag (others_at nodes homes v e.key port)) here in omega (arith, used, first, at))
      | inr away ↦ (let at = if_apart (home_of homes e.key) port 1 (flag (others_at nodes homes v e.key port)) away in omega (arith, used, first, at, others))
    ]
