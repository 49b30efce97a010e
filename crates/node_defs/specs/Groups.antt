-- How a wide gate is cut into nodes of at most four operands. The wires of a gate of n operands are
-- its operands, wires 0 to n - 1, and its helpers: helper number h is wire n + h.
use Rattle.std.specs.Prelude.{ℕ, zero, suc, ◌+◌, ◌-◌, ◌*◌, ◌/◌, nat_le, min, if◌then◌else◌, List, [], ◌∷◌, ◌++◌, length, map, slice_index_or}
use Rattle.std.specs.List.{range_with_len}
use Rattle.node_defs.specs.declared.groups.Group.{Group}

-- the number of groups of four into which so many wires are cut
abbrev pub group_count : ℕ → ℕ
group_count count = (count + 3) / 4

-- group number i of so many wires from the first one on, cut from the left: the last has one to four
abbrev pub group_of : ℕ → ℕ → ℕ → Group
group_of first count i = record { first = first + 4 * i; size = min (count - 4 * i) 4 }

-- the groups of a level of so many wires from the first one on, and those of the levels after it. Of
-- more than four wires each group is a helper, and the helpers are the wires of the next level; at
-- most four feed the gate's own node. The first number bounds the levels; the number of operands is
-- always enough.
unfoldable pub groups_from : ℕ → ℕ → ℕ → List Group
groups_from zero first count = record { first = first; size = count } ∷ []
groups_from (suc levels) first count =
    if nat_le count 4
    then record { first = first; size = count } ∷ []
    else map (group_of first count) (range_with_len 0 (group_count count)) ++ groups_from levels (first + count) (group_count count)

-- the groups of a gate of n operands: one for each helper by its number, and last that of its own node
abbrev pub groups : ℕ → List Group
groups n = groups_from n 0 n

-- the number of helpers
abbrev pub helper_count : ℕ → ℕ
helper_count n = length (groups n) - 1

-- the group at this place
abbrev pub group_at : ℕ → ℕ → Group
group_at n place = slice_index_or (groups n) place (record { first = 0; size = 0 })
