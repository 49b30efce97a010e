-- How many groups a gate has, and their sizes and places.
use Rattle.std.proofs.Common.{◌≡◌, ℕ, zero, suc, ◌+◌, ◌-◌, ◌*◌, ◌<◌, ◌≤◌, [], ◌∷◌, ◌++◌, length, get_or, inl, inr, refl, arith}
use Rattle.std.proofs.lemmas.{Bool.cases_lt, List.length-append, List.get_or_append_left, List.get_or-append_right}
use Rattle.node_defs.specs.Groups.{group_count, groups_from, groups, group_at}
use Rattle.node_defs.specs.declared.groups.Group.{Group}
use Rattle.node_defs.proofs.lemmas.GroupLemmas.{nowhere, level_of, groups_narrow, groups_wide, level_length, level_at}

-- so many wires stand before this group's last, where its level begins with so many
pub record IsShaped (wires : ℕ) (group : Group) : Type 0 where
  pub some : 1 ≤ group.size
  pub few : group.size ≤ 4
  pub ends : group.first + group.size ≤ wires

one_group : (levels first count place : ℕ) → 1 ≤ count → count ≤ 4 → place < length (groups_from levels first count)
    → IsShaped (first + count + place) (get_or (groups_from levels first count) place nowhere)
one_group levels first count place some few within =
    let one : groups_from levels first count ≡ record { first = first; size = count } ∷ [] = groups_narrow levels first count few in
    let single : length (groups_from levels first count) ≡ 1 = rw one refl in
    let last : place ≡ 0 = omega (arith, within, single) in
    rw one (rw last record { some = some; few = few; ends = omega arith })

wide_group : (levels first count place : ℕ) → 4 < count → place < length (groups_from (suc levels) first count)
    → ((p : ℕ) → p < length (groups_from levels (first + count) (group_count count)) → IsShaped (first + count + group_count count + p) (get_or (groups_from levels (first + count) (group_count count)) p nowhere))
    → IsShaped (first + count + place) (get_or (groups_from (suc levels) first count) place nowhere)
wide_group levels first count place many within below =
    let wide : groups_from (suc levels) first count ≡ level_of first count ++ groups_from levels (first + count) (group_count count) = groups_wide levels first count many in
    let long : length (groups_from (suc levels) first count) ≡ group_count count + length (groups_from levels (first + count) (group_count count)) =
    rw wide (rw (length-append (level_of first count) (groups_from levels (first + count) (group_count count))) (rw (level_length first count) refl)) in
    rw wide (elim (cases_lt place (group_count count)) [
      | inl here ↦
          let short : place < length (level_of first count) = rw (level_length first count) here in
          rw (get_or_append_left (level_of first count) (groups_from levels (first + count) (group_count count)) nowhere place short)
          (rw (level_at first count place here) record { some = omega arith; few = omega arith; ends = omega arith })
      | inr past ↦
          let deeper : _ = below (place - group_count count) (omega (arith, long, within, past)) in
          rw (get_or-append_right (level_of first count) (groups_from levels (first + count) (group_count count)) (group_count count) place nowhere (level_length first count) past)
          record { some = deeper.some; few = deeper.few; ends = omega (arith, deeper.ends, past) }
    ])

shaped_from : (levels first count place : ℕ) → 1 ≤ count → count ≤ levels + 4 → place < length (groups_from levels first count)
    → IsShaped (first + count + place) (get_or (groups_from levels first count) place nowhere)
shaped_from zero first count place some enough within = one_group zero first count place some (omega arith) within
shaped_from (suc levels) first count place some enough within = elim (cases_lt 4 count) [
  | inr few ↦ one_group (suc levels) first count place some few within
  | inl many ↦ wide_group levels first count place many within (λ p p_within. shaped_from levels (first + count) (group_count count) p (omega (arith, many)) (omega (arith, many, enough)) p_within)
]

-- each group of a gate has one to four wires, which stand before its own helper
pub shaped : (n place : ℕ) → 1 ≤ n → place < length (groups n) → IsShaped (n + place) (group_at n place)
shaped n place some within =
    let shape : _ = shaped_from n 0 n place some (omega arith) within in
    record { some = shape.some; few = shape.few; ends = omega (arith, shape.ends) }

few_from : (levels first count : ℕ) → count ≤ levels + 4 → (1 ≤ length (groups_from levels first count)) × (length (groups_from levels first count) ≤ 2 * count + 1)
few_from zero first count enough =
    let single : length (groups_from zero first count) ≡ 1 = rw (groups_narrow zero first count (omega arith)) refl in
    (omega (arith, single), omega (arith, single))
few_from (suc levels) first count enough = elim (cases_lt 4 count) [
  | inr few ↦
      let single : length (groups_from (suc levels) first count) ≡ 1 = rw (groups_narrow (suc levels) first count few) refl in
      (omega (arith, single), omega (arith, single))
  | inl many ↦
      let long : length (groups_from (suc levels) first count) ≡ group_count count + length (groups_from levels (first + count) (group_count count)) =
      rw (groups_wide levels first count many) (rw (length-append (level_of first count) (groups_from levels (first + count) (group_count count))) (rw (level_length first count) refl)) in
      let rest : _ = few_from levels (first + count) (group_count count) (omega (arith, many, enough)) in
      (omega (arith, long, many), omega (arith, long, rest.1, many))
]

-- a gate has one group at least, and not many more than operands
pub some_groups : (n : ℕ) → 1 ≤ length (groups n)
some_groups n = (few_from n 0 n (omega arith)).0

pub few_groups : (n : ℕ) → length (groups n) ≤ 2 * n + 1
few_groups n = (few_from n 0 n (omega arith)).1

-- of no operands there is a group of no wires
pub no_groups : groups 0 ≡ record { first = 0; size = 0 } ∷ []
no_groups = groups_narrow 0 0 0 (omega arith)

-- at most four operands are one group
pub narrow_groups : (n : ℕ) → n ≤ 4 → groups n ≡ record { first = 0; size = n } ∷ []
narrow_groups n few = groups_narrow n 0 n few

-- the wires of a group stand before its own helper, and are few
group_shape : (n place : ℕ) → place < length (groups n) → ((group_at n place).first + (group_at n place).size ≤ n + place) × ((group_at n place).size ≤ 4)
group_shape n place within = elim (cases_lt 0 n) [
  | inl some ↦ ((shaped n place some within).ends, (shaped n place some within).few)
  | inr none ↦
      let empty : n ≡ 0 = omega arith in
      let single : length (groups n) ≡ 1 = rw empty (rw no_groups refl) in
      let first : place ≡ 0 = omega (arith, within, single) in
      rw empty (rw first (rw no_groups (omega arith, omega arith)))
]

pub group_within : (n place : ℕ) → place < length (groups n) → (group_at n place).first + (group_at n place).size ≤ n + place
group_within n place within = (group_shape n place within).0

pub group_few : (n place : ℕ) → place < length (groups n) → (group_at n place).size ≤ 4
group_few n place within = (group_shape n place within).1
