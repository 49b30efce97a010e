-- One lane of a row that is written.
use Rattle.std.proofs.Common.{◌≡◌, ◌∙◌, ℕ, ◌<◌, List, length, get_or, set, sym, ap, take, drop}
use Rattle.std.proofs.{Math.Seq.map-set_same, lemmas.List.length-map, lemmas.List.get_or-map, lemmas.List.map-set}
use Rattle.std.specs.List.{drop-map, take-map}
use Rattle.logic_four.specs.declared.V4.{V4, TheVariants.Undef}
use Rattle.net_defs.specs.Time.{value_at}
use Rattle.net_ops.specs.{Lanes.lane_row, code.Values.Keeps}

module _ {W : Type 0} (lane : W → ℕ → V4) where
  -- the value of a lane in a place of a row
  pub lane_at : (row : List W) (s l : ℕ) (w : W) → w ≡ get_or row s w → s < length row → lane w l ≡ value_at (lane_row lane l row) s
  lane_at row s l w is within = ap (λ w. lane w l) is ∙ sym (get_or-map (λ w. lane w l) row s w Undef within)

  pub lane_set : (row : List W) (s l : ℕ) (w : W) → lane_row lane l (set row s w) ≡ set (lane_row lane l row) s (lane w l)
  lane_set row s l w = map-set (λ w. lane w l) row s w

  pub lane_long : (row : List W) (l : ℕ) → length (lane_row lane l row) ≡ length row
  lane_long row l = length-map row (λ w. lane w l)

  -- a lane that a place keeps
  pub lane_kept : (row : List W) (s k : ℕ) (here new : W) → here ≡ get_or row s here → lane new k ≡ lane here k → lane_row lane k (set row s new) ≡ lane_row lane k row
  lane_kept row s k here new is same = map-set_same (λ w. lane w k) row s new here (same ∙ ap (λ w. lane w k) is)

  pub lane_keeps : (count l : ℕ) (old new : List W) → Keeps count old new → Keeps count (lane_row lane l old) (lane_row lane l new)
  lane_keeps count l old new keeps = record {
    long = lane_long new l ∙ (keeps.long ∙ sym (lane_long old l));
    this = take-map (λ w. lane w l) count new ∙ (ap (lane_row lane l) keeps.this ∙ sym (take-map (λ w. lane w l) count old));
    last = ap (take count) (drop-map (λ w. lane w l) count new) ∙ (take-map (λ w. lane w l) count (drop count new) ∙ (ap (lane_row lane l) keeps.last ∙ sym (take-map (λ w. lane w l) count old)));
  }
