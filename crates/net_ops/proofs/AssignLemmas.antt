-- What the operations of gates give, in one lane.
use Rattle.std.proofs.Common.{◌≡◌, ◌∙◌, ℕ, ◌<◌, Bool, true, List, length, get_or, sym, ap, subst, arith, Option}
use Rattle.std.specs.List.{Contains, refill, All}
use Rattle.logic_four.specs.declared.V4.{V4}
use Rattle.net_defs.specs.{declared.netlist.Netlist.Netlist, declared.timing.Timing.Timing, Time.value_at}
use Rattle.list_laws.proofs.{Places.place_of, Members.refill_whole}
use Rattle.net_ops.specs.{declared.ops.PairOp.PairOp, Lanes.forced, Lanes.lane_row, Ops.follow, Ops.IsWithin, Places.place_count}
use Rattle.net_ops.specs.{Schedules.here_value, Schedules.Settles, code.States.Assigns}
use Rattle.net_ops.proofs.LaneLemmas.{lane_long}

-- what the operations of a list settle in a lane of a row that was lent
module _ {W F : Type 0} (lane : W → ℕ → V4) (answer : F → V4 → V4 → V4) (is_form : F → Type 0) (net : Netlist) (timing : Timing) (stuck : ℕ → Option V4) (l : ℕ) where
  pub settles_assigns : (which : ℕ → Bool) (list : List ℕ) (ops now_ops : List (PairOp F)) (old now new : List W)
      → ((k : ℕ) → k < length list → which (get_or list k 0) ≡ true) → ((s : ℕ) → which s ≡ true → Contains list s)
      → Settles answer is_form net timing list (length list) ops → now_ops ≡ ops → now ≡ old → length old ≡ place_count net → length new ≡ length now
      → lane_row lane l new ≡ follow answer stuck now_ops (lane_row lane l now)
      → Assigns which (λ s. forced (stuck s) (here_value net timing s (lane_row lane l (refill (length old) old new)))) (lane_row lane l old) (lane_row lane l (refill (length old) old new))
  settles_assigns which list ops now_ops old now new all each settles same_ops same long kept made =
      let whole : refill (length old) old new ≡ new = refill_whole old new (kept ∙ ap length same) in
      let is : lane_row lane l new ≡ follow answer stuck ops (lane_row lane l old) = made ∙ (ap (λ list. follow answer stuck list (lane_row lane l now)) same_ops ∙ ap (λ row. follow answer stuck ops (lane_row lane l row)) same) in
      let row_long : length (lane_row lane l old) ≡ place_count net = lane_long lane old l ∙ long in
      rw (whole, is) (record {
        long = settles.long stuck (lane_row lane l old);
        here = λ s plays.
            let at = place_of list s (each s plays) in
            subst (λ x. value_at (follow answer stuck ops (lane_row lane l old)) x ≡ forced (stuck x) (here_value net timing x (follow answer stuck ops (lane_row lane l old)))) at.2 (settles.here stuck (lane_row lane l old) at.0 row_long at.1);
        others = λ p none.
            settles.others stuck (lane_row lane l old) p (λ k below same_place.
            let granted : which p ≡ true = ap which (sym same_place) ∙ all k below in
            cc);
      })

-- the places of operations, and what forces tell of
module _ {F : Type 0} (answer : F → V4 → V4 → V4) (is_form : F → Type 0) (net : Netlist) (timing : Timing) (list : List ℕ) (n : ℕ) (ops now_ops : List (PairOp F)) (settles : Settles answer is_form net timing list n ops) (same : now_ops ≡ ops) where
  pub ops_within : (count : ℕ) → count ≡ place_count net → All (IsWithin is_form count count) now_ops
  ops_within count long = rw (same, long) (λ k d within.
      let op = settles.within k d within in
      record { gate = omega (arith, op.gate); a = op.a; b = op.b; form = op.form })

  pub ops_told : (tells : ℕ → Type 0) → ((s : ℕ) → s < length net.signals → tells s) → All (λ op. tells op.gate) now_ops
  ops_told tells told = rw same (λ k d within. told (get_or ops k d).gate (settles.within k d within).gate)
