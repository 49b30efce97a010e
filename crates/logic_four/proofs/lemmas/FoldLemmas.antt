-- The proofs of the laws of gates of many operands.
use Rattle.std.proofs.Common.{◌≡◌, ◌∙◌, ℕ, ◌+◌, ◌%◌, List, [], ◌∷◌, ◌++◌, map, refl, sym, ap, arith, IsTrue}
use Rattle.std.proofs.lemmas.{Bool.Decides.nat_tests, List.Sums.sum_by-cons}
use Rattle.std.specs.Prelude.{not, ◌==◌, ◌&&◌, cond}
use Rattle.std.specs.List.{flat_map, list_all}
use Rattle.logic_four.specs.declared.V4.TheVariants.{Zero, One, Undef, HighZ}
use Rattle.logic_four.specs.declared.Kind.TheVariants.{And, Nand, Or, Nor, Xor, Xnor, Bus}
use Rattle.logic_four.specs.Gates.{gate_value, is_one, is_high_z, and_value, or_value, xor_value, bus_value, is_driven_zero, is_driven_one}
use Rattle.logic_four.specs.Folds.{takes_many, base_kind, JoinsFront, JoinsParts, JoinsGroups}
use Rattle.logic_four.specs.declared.{V4.V4, Kind.Kind}

-- a value of a list that is joined from the right
record Joins (f : List V4 → V4) : Type 0 where
  each : (x : V4) (xs : List V4) → f (x ∷ xs) ≡ f (x ∷ f xs ∷ [])
  unit : (xs : List V4) → f (f [] ∷ f xs ∷ []) ≡ f xs
  turned : (a b c : V4) → f (a ∷ f (b ∷ c ∷ []) ∷ []) ≡ f (f (a ∷ b ∷ []) ∷ c ∷ [])

-- each law follows
module _ (f : List V4 → V4) (joins : Joins f) where
  join_parts : (front back : List V4) → f (front ++ back) ≡ f (f front ∷ f back ∷ [])
  join_parts [] back = sym (joins.unit back)
  join_parts (x ∷ front) back =
      joins.each x (front ++ back)
      ∙ (ap (λ v. f (x ∷ v ∷ [])) (join_parts front back)
      ∙ (joins.turned x (f front) (f back) ∙ ap (λ v. f (v ∷ f back ∷ [])) (sym (joins.each x front))))

  join_front : (front rest : List V4) → f (front ++ rest) ≡ f (f front ∷ rest)
  join_front front rest = join_parts front rest ∙ sym (joins.each (f front) rest)

  join_groups : (groups : List (List V4)) → f (flat_map (λ group. group) groups) ≡ f (map f groups)
  join_groups [] = refl
  join_groups (front ∷ groups) =
      join_parts front (flat_map (λ group. group) groups)
      ∙ (ap (λ v. f (f front ∷ v ∷ [])) (join_groups groups) ∙ sym (joins.each (f front) (map f groups)))

and_joins : Joins and_value
and_joins = record { each = λ x xs. grind arith; unit = λ xs. grind arith; turned = λ a b c. grind arith }

or_joins : Joins or_value
or_joins = record { each = λ x xs. grind arith; unit = λ xs. grind arith; turned = λ a b c. grind arith }

-- one more 1 turns the parity
odd_next : (n : ℕ) → ((1 + n) % 2 == 1) ≡ not (n % 2 == 1)
odd_next n = grind (arith, nat_tests)

xor_each : (x : V4) (xs : List V4) → xor_value (x ∷ xs) ≡ xor_value (x ∷ xor_value xs ∷ [])
xor_each Zero xs = grind (arith, sum_by-cons (λ v. cond (is_one v) 1 0) Zero xs)
xor_each One xs = grind (arith, odd_next, sum_by-cons (λ v. cond (is_one v) 1 0) One xs)
xor_each Undef xs = refl
xor_each HighZ xs = refl

xor_joins : Joins xor_value
xor_joins = record { each = xor_each; unit = λ xs. grind arith; turned = λ a b c. grind arith }

-- what drives neither a 0 nor a 1 drives nothing
no_driver : (xs : List V4) → list_all is_high_z xs ≡ (is_driven_zero xs && is_driven_one xs)
no_driver [] = refl
no_driver (x ∷ xs) = grind (arith, no_driver xs)

bus_joins : Joins bus_value
bus_joins = record { each = λ x xs. grind (arith, no_driver xs); unit = λ xs. grind arith; turned = λ a b c. grind arith }

-- so is each base kind, and every kind answers alike where its base kind does
joins_of : (kind : Kind) → IsTrue (takes_many kind) → Joins (gate_value (base_kind kind))
joins_of And many = and_joins
joins_of Nand many = and_joins
joins_of Or many = or_joins
joins_of Nor many = or_joins
joins_of Xor many = xor_joins
joins_of Xnor many = xor_joins
joins_of Bus many = bus_joins
joins_of _ many = cc

from_base : (kind : Kind) (vs ws : List V4) → IsTrue (takes_many kind) → gate_value (base_kind kind) vs ≡ gate_value (base_kind kind) ws → gate_value kind vs ≡ gate_value kind ws
from_base kind vs ws many same = grind arith

pub front : JoinsFront
front kind first rest many = from_base kind _ _ many (join_front (gate_value (base_kind kind)) (joins_of kind many) first rest)

pub parts : JoinsParts
parts kind first back many = from_base kind _ _ many (join_parts (gate_value (base_kind kind)) (joins_of kind many) first back)

pub groups : JoinsGroups
groups kind gs many = from_base kind _ _ many (join_groups (gate_value (base_kind kind)) (joins_of kind many) gs)
