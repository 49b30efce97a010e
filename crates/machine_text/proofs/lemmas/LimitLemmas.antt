-- The limit that holds at a port of a valid machine is in its range.
use Rattle.std.proofs.Common.{◌≡◌, ◌∙◌, ℕ, suc, ◌≤◌, Bool, true, false, List, [], ◌∷◌, Option, Some, None, refl, sym, subst, arith}
use Rattle.std.proofs.lemmas.Bool.{and_parts}
use Rattle.std.specs.{Prelude.◌==◌, Prelude.All, List.find}
use Rattle.machine_text.specs.Limits.{same_limited, is_at, common_limit, limit_at, limit_most}
use Rattle.machine_text.specs.declared.machine.Limited.{Limited, TheVariants.Functions, TheVariants.Nodes, TheVariants.Bits}
use Rattle.machine_text.specs.{declared.machine.Machine.Machine, declared.machine.PortLimit.PortLimit, Machines.IsValid, Machines.IsOwnLimit}

-- what is found passes the test, and is what all are
pub found_is : {X : Type 0} (P : X → Type 0) (test : X → Bool) (xs : List X) (x : X) → All P xs → find test xs ≡ Some x → P x × (test x ≡ true)
found_is P test [] x all found = cc
found_is {X} P test (y ∷ ys) x all found = by_test (test y) refl (found_is P test ys x (λ i d within. all (suc i) d (omega (arith, within)))) where
  one : {a b : X} → Some a ≡ Some b → a ≡ b
  one is = cc

  by_test : (b : Bool) → test y ≡ b → (find test ys ≡ Some x → P x × (test x ≡ true)) → P x × (test x ≡ true)
  by_test true passes rest =
      let here : find test (y ∷ ys) ≡ Some y = rw passes refl in
      let same : y ≡ x = one (sym here ∙ found) in
      (subst P same (all 0 y (omega arith)), subst (λ z. test z ≡ true) same passes)
  by_test false fails rest = let past : find test (y ∷ ys) ≡ find test ys = rw fails refl in rest (sym past ∙ found)

limited_same : (a b : Limited) → same_limited a b ≡ true → a ≡ b
limited_same Functions Functions is = refl
limited_same Nodes Nodes is = refl
limited_same Bits Bits is = refl
limited_same a b is = cc

common_in_range : (machine : Machine) (what : Limited) → IsValid machine → (1 ≤ common_limit machine what) × (common_limit machine what ≤ limit_most what)
common_in_range machine Functions valid = (valid.functions_least, valid.functions_most)
common_in_range machine Nodes valid = (valid.nodes_least, valid.nodes_most)
common_in_range machine Bits valid = (valid.bits_least, valid.bits_most)

pub limit_in_range : (machine : Machine) (what : Limited) (port : ℕ) → IsValid machine → (1 ≤ limit_at machine what port) × (limit_at machine what port ≤ limit_most what)
limit_in_range machine what port valid = by_own (find (is_at what port) machine.own) refl where
  by_own : (found : Option PortLimit) → find (is_at what port) machine.own ≡ found → (1 ≤ limit_at machine what port) × (limit_at machine what port ≤ limit_most what)
  by_own None missing = rw missing (common_in_range machine what valid)
  by_own (Some own) there =
      let is : IsOwnLimit machine own × (is_at what port own ≡ true) = found_is (IsOwnLimit machine) (is_at what port) machine.own own valid.own there in
      let same : own.what ≡ what = limited_same own.what what (and_parts (same_limited own.what what) (own.port == port) is.1).0 in
      rw there (is.0.least, subst (λ w. own.limit ≤ limit_most w) same is.0.most)
