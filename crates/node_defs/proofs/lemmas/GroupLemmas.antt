-- The groups of a gate, level by level.
use Rattle.std.proofs.Common.{◌≡◌, ◌∙◌, ℕ, zero, suc, ◌+◌, ◌-◌, ◌*◌, ◌<◌, ◌≤◌, nat_le, true, false, List, [], ◌∷◌, ◌++◌, length, map, get_or, refl, arith}
use Rattle.std.proofs.lemmas.{Bool.le-leb, Bool.lt-leb, List.length-append, List.get_or_append_left, List.get_or-append_right}
use Rattle.std.proofs.lemmas.List.FromFn.{length-map-range_with_len, get_or-map-range_with_len}
use Rattle.std.specs.List.{range_with_len}
use Rattle.node_defs.specs.Groups.{group_count, group_of, groups_from, groups}
use Rattle.node_defs.specs.declared.groups.Group.{Group}

-- no group
abbrev pub nowhere : Group
nowhere = record { first = 0; size = 0 }

-- the helpers of a level of so many wires
abbrev pub level_of : ℕ → ℕ → List Group
level_of first count = map (group_of first count) (range_with_len 0 (group_count count))

-- at most four wires are one group
pub groups_narrow : (levels first count : ℕ) → count ≤ 4 → groups_from levels first count ≡ record { first = first; size = count } ∷ []
unfolding groups_from
groups_narrow zero first count few = refl
groups_narrow (suc levels) first count few =
    let narrow : nat_le count 4 ≡ true = le-leb count 4 few in
    rw narrow refl

-- more are a level of helpers, and the levels after it
pub groups_wide : (levels first count : ℕ) → 4 < count → groups_from (suc levels) first count ≡ level_of first count ++ groups_from levels (first + count) (group_count count)
unfolding groups_from
groups_wide levels first count many =
    let wide : nat_le count 4 ≡ false = lt-leb count 4 many in
    rw wide refl

pub level_length : (first count : ℕ) → length (level_of first count) ≡ group_count count
level_length first count = length-map-range_with_len (group_of first count) 0 (group_count count)

-- a group of a level
pub level_at : (first count i : ℕ) → i < group_count count → get_or (level_of first count) i nowhere ≡ group_of first count i
level_at first count i within = get_or-map-range_with_len (group_of first count) 0 (group_count count) i i nowhere within (omega arith)

-- so many helpers stand before a level of so many wires
pub record Counted (operands helpers count : ℕ) : Type 0 where
  pub levels : ℕ
  pub first : ℕ
  pub enough : count ≤ levels + 4
  pub all : length (groups operands) ≡ helpers + length (groups_from levels first count)
  pub few : helpers + 2 * count ≤ 2 * operands

pub counted_begun : (operands : ℕ) → Counted operands 0 operands
counted_begun operands = record { levels = operands; first = 0; enough = omega arith; all = omega arith; few = omega arith }

pub counted_more : (operands helpers count : ℕ) → 4 < count → Counted operands helpers count → Counted operands (helpers + group_count count) (group_count count)
counted_more operands helpers count many counted = with_levels counted.levels refl where
  with_levels : (levels : ℕ) → counted.levels ≡ levels → Counted operands (helpers + group_count count) (group_count count)
  with_levels zero none = absurd (omega (arith, counted.enough, many, none))
  with_levels (suc levels) some = record {
    levels = levels;
    first = counted.first + count;
    enough = omega (arith, counted.enough, many, some);
    all =
        let wide : length (groups_from counted.levels counted.first count) ≡ group_count count + length (groups_from levels (counted.first + count) (group_count count)) =
        rw some (rw (groups_wide levels counted.first count many) (rw (length-append (level_of counted.first count) (groups_from levels (counted.first + count) (group_count count))) (rw (level_length counted.first count) refl))) in
        omega (arith, counted.all, wide);
    few = omega (arith, counted.few, many);
  }

pub counted_all : (operands helpers count : ℕ) → count ≤ 4 → Counted operands helpers count → helpers + 1 ≡ length (groups operands)
counted_all operands helpers count few counted =
    let one : length (groups_from counted.levels counted.first count) ≡ 1 = rw (groups_narrow counted.levels counted.first count few) refl in
    omega (arith, counted.all, one)

-- the place is so far into the levels that begin with so many wires
pub record AtLevel (operands place first count left : ℕ) : Type 0 where
  pub levels : ℕ
  pub enough : count ≤ levels + 4
  pub within : left < length (groups_from levels first count)
  pub same : get_or (groups operands) place nowhere ≡ get_or (groups_from levels first count) left nowhere
  pub few : first + 2 * count ≤ 2 * operands

-- past the helpers of this level
pub at_next : (operands place first count left : ℕ) → 4 < count → group_count count ≤ left → AtLevel operands place first count left
    → AtLevel operands place (first + count) (group_count count) (left - group_count count)
at_next operands place first count left many past at = with_levels at.levels refl where
  with_levels : (levels : ℕ) → at.levels ≡ levels → AtLevel operands place (first + count) (group_count count) (left - group_count count)
  with_levels zero none = absurd (omega (arith, at.enough, many, none))
  with_levels (suc levels) some =
      let wide : groups_from at.levels first count ≡ level_of first count ++ groups_from levels (first + count) (group_count count) =
      rw some (groups_wide levels first count many) in
      record {
        levels = levels;
        enough = omega (arith, at.enough, many, some);
        within =
            let long : length (groups_from at.levels first count) ≡ group_count count + length (groups_from levels (first + count) (group_count count)) =
            rw wide (rw (length-append (level_of first count) (groups_from levels (first + count) (group_count count))) (rw (level_length first count) refl)) in
            omega (arith, long, at.within, past);
        same = at.same ∙ rw wide (get_or-append_right (level_of first count) (groups_from levels (first + count) (group_count count)) (group_count count) left nowhere (level_length first count) past);
        few = omega (arith, at.few, many);
      }

-- a helper of this level
pub found_helper : (operands place first count left : ℕ) → 4 < count → left < group_count count → AtLevel operands place first count left
    → get_or (groups operands) place nowhere ≡ group_of first count left
found_helper operands place first count left many here at = with_levels at.levels refl where
  with_levels : (levels : ℕ) → at.levels ≡ levels → get_or (groups operands) place nowhere ≡ group_of first count left
  with_levels zero none = absurd (omega (arith, at.enough, many, none))
  with_levels (suc levels) some =
      let wide : groups_from at.levels first count ≡ level_of first count ++ groups_from levels (first + count) (group_count count) =
      rw some (groups_wide levels first count many) in
      let short : left < length (level_of first count) = rw (level_length first count) here in
      at.same ∙ rw wide (get_or_append_left (level_of first count) (groups_from levels (first + count) (group_count count)) nowhere left short) ∙ level_at first count left here

-- the group of the own node
pub found_own : (operands place first count left : ℕ) → count ≤ 4 → AtLevel operands place first count left
    → get_or (groups operands) place nowhere ≡ record { first = first; size = count }
found_own operands place first count left few at =
    let one : groups_from at.levels first count ≡ record { first = first; size = count } ∷ [] = groups_narrow at.levels first count few in
    let single : length (groups_from at.levels first count) ≡ 1 = rw one refl in
    let last : left ≡ 0 = omega (arith, at.within, single) in
    at.same ∙ rw one (rw last refl)
