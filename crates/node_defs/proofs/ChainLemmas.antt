-- Where each state has exactly one next one, there is exactly one list of states from the first one on.
use Rattle.std.proofs.Common.{◌≡◌, ◌∙◌, ℕ, zero, suc, ◌+◌, ◌<◌, List, length, map, get_or, refl, sym, ap, subst, arith}
use Rattle.std.proofs.lemmas.{Option.slice_get-get_or, Option.slice_get_within, Option.get_or_from_slice_get, List.same_lists}
use Rattle.std.proofs.lemmas.List.FromFn.{length-map-range_with_len, get_or-map-range_with_len}
use Rattle.std.specs.{Prelude.Some, Prelude.slice_get, List.range_with_len}
use Rattle.list_laws.proofs.{Members.member_at, Options.one_some}

module _ {S : Type 0} (first : S) (Step : ℕ → S → S → Type 0) (next : ℕ → S → S)
    (right : (turn : ℕ) (old : S) → Step turn old (next turn old))
    (only : (turn : ℕ) (old new : S) → Step turn old new → new ≡ next turn old) where
  -- the state after so many turns
  state_after : ℕ → S
  state_after zero = first
  state_after (suc turn) = next (turn + 1) (state_after turn)

  state_next : (turn : ℕ) → state_after (turn + 1) ≡ next (turn + 1) (state_after turn)
  unfolding state_after
  state_next turn = let more : turn + 1 ≡ suc turn = omega arith in ap state_after more

  state_first : state_after 0 ≡ first
  unfolding state_after
  state_first = refl

  -- the states from the first one to that after so many turns
  pub states_to : ℕ → List S
  states_to turns = map state_after (range_with_len 0 (turns + 1))

  pub states_count : (turns : ℕ) → length (states_to turns) ≡ turns + 1
  unfolding states_to
  states_count turns = length-map-range_with_len state_after 0 (turns + 1)

  state_read : (turns k : ℕ) (d : S) → k < turns + 1 → get_or (states_to turns) k d ≡ state_after k
  unfolding states_to
  state_read turns k d within = get_or-map-range_with_len state_after 0 (turns + 1) k k d within (omega arith)

  state_at : (turns k : ℕ) → k < turns + 1 → slice_get (states_to turns) k ≡ Some (state_after k)
  state_at turns k within =
      slice_get-get_or (states_to turns) k first (rw (states_count turns) within) ∙ ap Some (state_read turns k first within)

  pub states_first : (turns : ℕ) → slice_get (states_to turns) 0 ≡ Some first
  states_first turns = state_at turns 0 (omega arith) ∙ ap Some state_first

  pub states_step : (turns turn : ℕ) (old new : S) → slice_get (states_to turns) turn ≡ Some old → slice_get (states_to turns) (turn + 1) ≡ Some new → Step (turn + 1) old new
  states_step turns turn old new was is =
      let within : turn + 1 < turns + 1 = rw (← states_count turns) (slice_get_within (states_to turns) (turn + 1) new is) in
      let before : state_after turn ≡ old = one_some (state_after turn) old (sym (state_at turns turn (omega (arith, within))) ∙ was) in
      let after : state_after (turn + 1) ≡ new = one_some (state_after (turn + 1)) new (sym (state_at turns (turn + 1) within) ∙ is) in
      subst (λ o. Step (turn + 1) o new) before (subst (λ n. Step (turn + 1) (state_after turn) n) (sym (state_next turn) ∙ after) (right (turn + 1) (state_after turn)))

  module _ (turns : ℕ) (others : List S) (count : length others ≡ turns + 1) (begun : slice_get others 0 ≡ Some first)
      (steps : (turn : ℕ) (old new : S) → slice_get others turn ≡ Some old → slice_get others (turn + 1) ≡ Some new → Step (turn + 1) old new) where
    other_at : (k : ℕ) → k < turns + 1 → slice_get others k ≡ Some (state_after k)
    other_at zero within = begun ∙ ap Some (sym state_first)
    other_at (suc k) within =
        let more : suc k ≡ k + 1 = omega arith in
        let new : (n : S) × (slice_get others (k + 1) ≡ Some n) = member_at others (k + 1) (omega (arith, count, within)) in
        rw more (new.1 ∙ ap Some (only (k + 1) (state_after k) new.0 (steps k (state_after k) new.0 (other_at k (omega (arith, within))) new.1) ∙ sym (state_next k)))

    pub states_only : others ≡ states_to turns
    states_only =
        same_lists others (states_to turns) (count ∙ sym (states_count turns)) (λ k d within.
        let inside : k < turns + 1 = rw (← count) within in
        get_or_from_slice_get others k (state_after k) d (other_at k inside) ∙ sym (state_read turns k d inside))
