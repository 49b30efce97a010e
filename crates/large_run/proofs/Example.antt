-- The first draws, as numbers from outside.
use Rattle.std.proofs.Common.{List, [], map, refl, ◌∷◌, ◌≡◌}
use Rattle.large_run.specs.Draws.{draw}

pub first_draws : map (draw 1) (1 ∷ 2 ∷ 3 ∷ 4 ∷ 5 ∷ 6 ∷ 7 ∷ 8 ∷ []) ≡ 171 ∷ 29241 ∷ 5826 ∷ 27638 ∷ 4134 ∷ 10727 ∷ 18177 ∷ 20829 ∷ []
unfolding draw
first_draws = refl
