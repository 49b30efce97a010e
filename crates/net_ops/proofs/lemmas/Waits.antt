-- What a driver says of its signal, and what a gate waits for.
use Rattle.std.proofs.Common.{◌≡◌, ◌∙◌, ℕ, zero, suc, ◌<◌, ◌⊎◌, inl, inr, Bool, true, false, if◌then◌else◌, List, [], ◌∷◌, length, map, refl, ap, subst, arith, Some}
use Rattle.std.specs.List.{slice_get, Contains, All}
use Rattle.logic_four.specs.{declared.Kind.Kind, Kinds.AllowsOperands}
use Rattle.net_defs.specs.declared.{netlist.Netlist.Netlist, netlist.Signal.Signal, netlist.Driver.TheVariants.Gate, timing.Timing.Timing}
use Rattle.net_defs.specs.{Steps.is_late, Valid.IsValid, Valid.IsSignal, Valid.IsDrivable, Loops.waits_for}

-- maps that agree at each item
pub map_same : {X : Type 0} (f g : ℕ → X) (xs : List ℕ) → ((x : ℕ) → Contains xs x → f x ≡ g x) → map f xs ≡ map g xs
map_same f g [] same = refl
map_same f g (x ∷ xs) same =
    ap (λ y. y ∷ map f xs) (same x (zero, omega arith, refl)) ∙ ap (λ ys. g x ∷ ys) (map_same f g xs (λ y held. same y (suc held.0, omega (arith, held.1), held.2)))

pub late_or : (net : Netlist) (timing : Timing) (s : ℕ) → (is_late net timing s ≡ true) ⊎ (is_late net timing s ≡ false)
late_or net timing s = by_test (is_late net timing s) where
  by_test : (test : Bool) → (test ≡ true) ⊎ (test ≡ false)
  by_test true = inl refl
  by_test false = inr refl

pub waits_here : (net : Netlist) (timing : Timing) (s : ℕ) (signal : Signal) (kind : Kind) (ops : List ℕ) → slice_get net.signals s ≡ Some signal → signal.driver ≡ Gate kind ops → is_late net timing s ≡ false → waits_for net timing s ≡ ops
waits_here net timing s signal kind ops is driver early = rw (is, driver) (ap (λ late. if late then [] else ops) early)

-- what an operand is
pub operand_low : (net : Netlist) (valid : IsValid net) (s : ℕ) (signal : Signal) (kind : Kind) (ops : List ℕ) → slice_get net.signals s ≡ Some signal → signal.driver ≡ Gate kind ops → (o : ℕ) → Contains ops o → o < length net.signals
operand_low net valid s signal kind ops is driver o held = subst (λ x. x < length net.signals) held.2 (all.1 held.0 o held.1) where
  all : AllowsOperands kind (length ops) × All (IsSignal net) ops
  all = subst (IsDrivable net s) driver (valid.drivers s signal is)
