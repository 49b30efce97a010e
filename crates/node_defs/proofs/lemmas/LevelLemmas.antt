-- A gate over its last group of wires answers what it answers over its operands, where each helper has
-- what the gate's base kind answers over its group.
use Rattle.std.proofs.Common.{◌≡◌, ◌∙◌, ◌⊎◌, inl, inr, ℕ, zero, suc, ◌+◌, ◌-◌, ◌*◌, ◌<◌, ◌≤◌, min, IsTrue, List, [], ◌∷◌, ◌++◌, length, map, get_or, refl, sym, ap, arith}
use Rattle.std.proofs.lemmas.List.{length-append, length-map, get_or_append_left, get_or-append-add, map-append, append-nil, same_lists, get_or-map}
use Rattle.std.proofs.lemmas.{Bool.cases_lt, List.Concat.flat_map-cons, List.FromFn.length-map-range_with_len, List.FromFn.get_or-map-range_with_len}
use Rattle.std.specs.List.{range_with_len, flat_map}
use Rattle.list_laws.proofs.Ranges.{range_append}
use Rattle.logic_four.specs.{declared.V4.V4, declared.Kind.Kind, Gates.gate_value, Folds.takes_many, Folds.base_kind}
use Rattle.logic_four.proofs.lemmas.FoldLemmas.{groups}
use Rattle.node_defs.specs.{declared.groups.Group.Group, Groups.group_count, Groups.group_of, Groups.groups_from}
use Rattle.node_defs.proofs.lemmas.GroupLemmas.{nowhere, level_of, level_length, level_at, groups_narrow, groups_wide}

-- the values of these wires
abbrev pub wires : (ℕ → V4) → Group → List V4
wires value group = map value (range_with_len group.first group.size)

-- the groups of a level from group number i on have all wires from there on
pub cut_whole : (value : ℕ → V4) (first count i c : ℕ) → count ≤ 4 * (i + c)
    → flat_map (λ vs. vs) (map (λ k. wires value (group_of first count k)) (range_with_len i c)) ≡ map value (range_with_len (first + 4 * i) (count - 4 * i))
cut_whole value first count i zero all =
    let none : count - 4 * i ≡ zero = omega (arith, all) in
    rw none refl
cut_whole value first count i (suc c) all =
    flat_map-cons (λ vs. vs) (wires value (group_of first count i)) (map (λ k. wires value (group_of first count k)) (range_with_len (i + 1) c))
    ∙ (ap (λ vs. wires value (group_of first count i) ++ vs) (cut_whole value first count (i + 1) c (omega (arith, all)))
    ∙ by_size (cases_lt (count - 4 * i) 4)) where
      by_size : (count - 4 * i < 4) ⊎ (4 ≤ count - 4 * i)
          → wires value (group_of first count i) ++ map value (range_with_len (first + 4 * (i + 1)) (count - 4 * (i + 1))) ≡ map value (range_with_len (first + 4 * i) (count - 4 * i))
      by_size (inl few) =
          let size : min (count - 4 * i) 4 ≡ count - 4 * i = omega (arith, few) in
          let none : count - 4 * (i + 1) ≡ zero = omega (arith, few) in
          rw none (rw size (append-nil (map value (range_with_len (first + 4 * i) (count - 4 * i)))))
      by_size (inr many) =
          let size : min (count - 4 * i) 4 ≡ 4 = omega (arith, many) in
          let others : count - 4 * i ≡ 4 + (count - 4 * (i + 1)) = omega (arith, many) in
          let next : first + 4 * (i + 1) ≡ (first + 4 * i) + 4 = omega arith in
          rw size (rw next (rw others (
          sym (ap (map value) (range_append (first + 4 * i) 4 (count - 4 * (i + 1)))
          ∙ map-append value (range_with_len (first + 4 * i) 4) (range_with_len ((first + 4 * i) + 4) (count - 4 * (i + 1)))))))

-- the groups of a level have all its wires
pub cut_level : (value : ℕ → V4) (first count : ℕ)
    → flat_map (λ vs. vs) (map (λ k. wires value (group_of first count k)) (range_with_len 0 (group_count count))) ≡ map value (range_with_len first count)
cut_level value first count =
    let begin : first + 4 * 0 ≡ first = omega arith in
    let all : count - 4 * 0 ≡ count = omega arith in
    cut_whole value first count 0 (group_count count) (omega arith)
    ∙ (ap (λ a. map value (range_with_len a (count - 4 * 0))) begin ∙ ap (λ n. map value (range_with_len first n)) all)

-- the helpers from this wire on have what the base kind answers over these groups, but for the last
abbrev pub Helps : (ℕ → V4) → Kind → ℕ → List Group → Type 0
Helps value kind wire groups = (h : ℕ) → h + 1 < length groups → value (wire + h) ≡ gate_value (base_kind kind) (wires value (get_or groups h nowhere))

pub groups_last : (first count : ℕ) → groups_from zero first count ≡ record { first = first; size = count } ∷ []
unfolding groups_from
groups_last first count = refl

-- there is a group
pub some_group : (levels first count : ℕ) → 1 ≤ length (groups_from levels first count)
some_group levels first count = by_size levels first count (cases_lt 4 count) where
  by_size : (l f c : ℕ) → (4 < c) ⊎ (c ≤ 4) → 1 ≤ length (groups_from l f c)
  by_size l f c (inr few) = rw (groups_narrow l f c few) (omega arith)
  by_size zero f c (inl many) = rw (groups_last f c) (omega arith)
  by_size (suc l) f c (inl many) =
      rw (groups_wide l f c many) (
      let long : length (level_of f c ++ groups_from l (f + c) (group_count c)) ≡ length (level_of f c) + length (groups_from l (f + c) (group_count c)) = length-append (level_of f c) (groups_from l (f + c) (group_count c)) in
      omega (arith, long, level_length f c, many))

-- the last of these groups
abbrev pub last_of : List Group → Group
last_of groups = get_or groups (length groups - 1) nowhere

-- helpers have their groups' values, so what they have is what the base kind answers for each group
level_values : (value : ℕ → V4) (kind : Kind) (first count : ℕ)
    → ((h : ℕ) → h < group_count count → value (first + count + h) ≡ gate_value (base_kind kind) (wires value (group_of first count h)))
    → map value (range_with_len (first + count) (group_count count)) ≡ map (gate_value (base_kind kind)) (map (λ k. wires value (group_of first count k)) (range_with_len 0 (group_count count)))
level_values value kind first count helps =
    same_lists (map value (range_with_len (first + count) (group_count count))) (map (gate_value (base_kind kind)) (map (λ k. wires value (group_of first count k)) (range_with_len 0 (group_count count))))
    (length-map-range_with_len value (first + count) (group_count count)
    ∙ sym (length-map (map (λ k. wires value (group_of first count k)) (range_with_len 0 (group_count count))) (gate_value (base_kind kind))
    ∙ length-map-range_with_len (λ k. wires value (group_of first count k)) 0 (group_count count)))
    (λ h d within. at h d (rw (← length-map-range_with_len value (first + count) (group_count count)) within)) where
      at : (h : ℕ) (d : V4) → h < group_count count
          → get_or (map value (range_with_len (first + count) (group_count count))) h d ≡ get_or (map (gate_value (base_kind kind)) (map (λ k. wires value (group_of first count k)) (range_with_len 0 (group_count count)))) h d
      at h d within =
          let short : h < length (map (λ k. wires value (group_of first count k)) (range_with_len 0 (group_count count))) =
          rw (length-map-range_with_len (λ k. wires value (group_of first count k)) 0 (group_count count)) within in
          get_or-map-range_with_len value (first + count) (group_count count) h (first + count + h) d within refl
          ∙ (helps h within
          ∙ sym (get_or-map (gate_value (base_kind kind)) (map (λ k. wires value (group_of first count k)) (range_with_len 0 (group_count count))) h [] d short
          ∙ ap (gate_value (base_kind kind)) (get_or-map-range_with_len (λ k. wires value (group_of first count k)) 0 (group_count count) h h [] within (omega arith))))

-- where the helpers help, the last group answers what all wires of its level answer
pub levels_fold : (value : ℕ → V4) (kind : Kind) (levels first count : ℕ) → IsTrue (takes_many kind)
    → Helps value kind (first + count) (groups_from levels first count)
    → gate_value kind (wires value (last_of (groups_from levels first count))) ≡ gate_value kind (map value (range_with_len first count))
levels_fold value kind levels first count many helps = by_size levels first count helps (cases_lt 4 count) where
  narrow : (l f c : ℕ) → groups_from l f c ≡ record { first = f; size = c } ∷ [] → gate_value kind (wires value (last_of (groups_from l f c))) ≡ gate_value kind (map value (range_with_len f c))
  narrow l f c one = rw one refl

  by_size : (l f c : ℕ) → Helps value kind (f + c) (groups_from l f c) → (4 < c) ⊎ (c ≤ 4)
      → gate_value kind (wires value (last_of (groups_from l f c))) ≡ gate_value kind (map value (range_with_len f c))
  by_size l f c helping (inr few) = narrow l f c (groups_narrow l f c few)
  by_size zero f c helping (inl wide) = narrow zero f c (groups_last f c)
  by_size (suc l) f c helping (inl wide) = rest (by_size l (f + c) (group_count c)) where
    others : List Group
    others = groups_from l (f + c) (group_count c)

    cut : groups_from (suc l) f c ≡ level_of f c ++ others
    cut = groups_wide l f c wide

    long : length (groups_from (suc l) f c) ≡ group_count c + length others
    long = rw cut (length-append (level_of f c) others ∙ ap (λ n. n + length others) (level_length f c))

    more : 1 ≤ length others
    more = some_group l (f + c) (group_count c)

    last_same : last_of (groups_from (suc l) f c) ≡ last_of others
    last_same =
        let place : length (groups_from (suc l) f c) - 1 ≡ length (level_of f c) + (length others - 1) = omega (arith, long, more, level_length f c) in
        rw place (rw cut (get_or-append-add (level_of f c) others (length others - 1) nowhere))

    helper_here : (h : ℕ) → h < group_count c → value (f + c + h) ≡ gate_value (base_kind kind) (wires value (group_of f c h))
    helper_here h within =
        let short : h < length (level_of f c) = rw (level_length f c) within in
        helping h (omega (arith, long, more, within))
        ∙ ap (λ g. gate_value (base_kind kind) (wires value g)) (rw cut (get_or_append_left (level_of f c) others nowhere h short) ∙ level_at f c h within)

    helps_later : Helps value kind ((f + c) + group_count c) others
    helps_later h within =
        let wire : (f + c) + group_count c + h ≡ f + c + (group_count c + h) = omega arith in
        let there : length (level_of f c) + h ≡ group_count c + h = ap (λ n. n + h) (level_length f c) in
        rw wire (helping (group_count c + h) (omega (arith, long, within))
        ∙ ap (λ g. gate_value (base_kind kind) (wires value g)) (rw (← there) (rw cut (get_or-append-add (level_of f c) others h nowhere))))

    rest : (Helps value kind ((f + c) + group_count c) others → (4 < group_count c) ⊎ (group_count c ≤ 4) → gate_value kind (wires value (last_of others)) ≡ gate_value kind (map value (range_with_len (f + c) (group_count c))))
        → gate_value kind (wires value (last_of (groups_from (suc l) f c))) ≡ gate_value kind (map value (range_with_len f c))
    rest later =
        rw last_same (later helps_later (cases_lt 4 (group_count c))
        ∙ (ap (gate_value kind) (level_values value kind f c helper_here)
        ∙ (sym (groups kind (map (λ k. wires value (group_of f c k)) (range_with_len 0 (group_count c))) many)
        ∙ ap (gate_value kind) (cut_level value f c))))
