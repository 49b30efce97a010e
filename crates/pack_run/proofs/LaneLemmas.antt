-- What packed words and the words of a lane's core say of one another.
use Rattle.std.proofs.Common.{ap, arith, inl, inr, refl, subst, sym, ℕ, ◌%◌, ◌*◌, ◌+◌, ◌<◌, ◌∙◌, ◌≡◌, ◌≢◌, ◌≤◌}
use Rattle.std.proofs.lemmas.Bool.{cases_eq}
use Rattle.limits.specs.declared.TheConstants.{LANES}
use Rattle.logic_four.specs.{Values.code_of, declared.V4.V4}
use Rattle.lane_planes.specs.{Lanes.lane_of, declared.planes.Planes.Planes}
use Rattle.event_defs.proofs.lemmas.{SlotLemmas.updated_here, StampLemmas.written_here, StampLemmas.written_there, WordLemmas.stamp_in as stamp_of_put}
use Rattle.event_defs.specs.{Sound.AreStamps, Steps.written}
use Rattle.event_defs.specs.Steps as core
use Rattle.slot_words.specs.packed.{Laws.packed_stamp, Sound.IsPackOf, Words.packed, Words.stamp_in, Words.packed_stamp_of}
use Rattle.pack_run.specs.Core.{IsLaneWord}

pub only_bank : (turn : ℕ) → turn % 1 ≡ 0
only_bank turn = omega arith

-- with one bank the word of a send names the turn in which it was put last
pub stamp_last : (latest : ℕ) (word : ℕ → ℕ) → AreStamps 1 latest word → core.stamp_of (word 0) ≡ latest
stamp_last latest word stamps = elim (cases_eq latest 0) [
  | inl none ↦ stamps.fresh 1 (omega (arith, none)) (omega arith) ∙ sym none
  | inr some ↦ subst (λ b. core.stamp_of (word b) ≡ latest) (only_bank latest) (stamps.written latest (omega (arith, some)) (omega arith) (omega arith))
]

-- the word of what a lane's core puts in a turn
pub put_word : (l turn : ℕ) (planes : Planes) (v : V4) → 1 ≤ turn → lane_of planes l ≡ v → IsLaneWord l (packed turn planes) (4 * turn + code_of v)
put_word l turn planes v first is = record {
  fresh = λ none. let stamp = stamp_of_put turn v in absurd (omega (arith, stamp, none, first));
  put = λ _. (
    planes,
    ap (λ k. packed k planes) (sym (stamp_of_put turn v)),
    ap (λ k. 4 * k + code_of v) (sym (stamp_of_put turn v)) ∙ ap (λ u. 4 * core.stamp_of (4 * turn + code_of v) + code_of u) (sym is),
  );
}

-- a word that was packed for all lanes is that of each
pub lane_word : (l turn word : ℕ) (plain : ℕ → ℕ) → l < LANES → IsPackOf turn word plain → IsLaneWord l word (plain l)
lane_word l turn word plain low packs = elim (cases_eq turn 0) [
  | inl none ↦
      let both = packs.fresh none in
      record { fresh = λ _. (both.0, both.1 l); put = λ first. let zero_is = both.1 l in let stamp : core.stamp_of (plain l) ≡ 0 = ap core.stamp_of zero_is in absurd (omega (arith, first, stamp)) }
  | inr some ↦
      let first : 1 ≤ turn = omega (arith, some) in
      let has = packs.put first in
      subst (λ w. IsLaneWord l w (plain l)) (sym has.is) (subst (IsLaneWord l (packed turn has.planes)) (sym (has.lanes l low)) (put_word l turn has.planes (lane_of has.planes l) first refl))
]

-- ---- what a reader finds whose turn is that of the last Put or the one after it

module _ (l word plain turn : ℕ) (is : IsLaneWord l word plain) (begun : 1 ≤ turn) (behind : turn ≤ core.stamp_of plain + 1) (ahead : core.stamp_of plain ≤ turn) where
  stamp_is : 1 ≤ core.stamp_of plain → packed_stamp_of word ≡ stamp_in (core.stamp_of plain)
  stamp_is some = let has = is.put some in ap packed_stamp_of has.1 ∙ packed_stamp (core.stamp_of plain) has.0

  -- a packed word with this turn's stamp is of this turn
  pub plain_now : packed_stamp_of word ≡ stamp_in turn → core.stamp_of plain ≡ turn
  plain_now same = elim (cases_eq (core.stamp_of plain) 0) [
    | inl none ↦
        let zero_is : packed_stamp_of word ≡ 0 = ap packed_stamp_of (is.fresh none).0 in
        let wrong : 0 ≡ turn % 16 = sym zero_is ∙ same in
        absurd (omega (arith, wrong, none, behind, begun))
    | inr some ↦
        let e : core.stamp_of plain % 16 ≡ turn % 16 = sym (stamp_is (omega (arith, some))) ∙ same in
        omega (arith, e, behind, ahead)
  ]

  -- and one with another stamp is of the turn before
  pub plain_before : packed_stamp_of word ≢ stamp_in turn → core.stamp_of plain < turn
  plain_before other = elim (cases_eq (core.stamp_of plain) turn) [
    | inl same ↦ absurd (other (stamp_is (omega (arith, same, begun)) ∙ ap stamp_in same))
    | inr differs ↦ omega (arith, differs, ahead)
  ]

-- a word that is packed for a turn says something of that turn alone, or of one sixteen turns away
pub not_before : (l turn plain : ℕ) (planes : Planes) → IsLaneWord l (packed turn planes) plain → core.stamp_of plain + 1 ≡ turn → ⊥
not_before l turn plain planes is before = elim (cases_eq (core.stamp_of plain) 0) [
  | inl none ↦
      let zero_is : packed_stamp_of (packed turn planes) ≡ 0 = ap packed_stamp_of (is.fresh none).0 in
      let wrong : 0 ≡ turn % 16 = sym zero_is ∙ packed_stamp turn planes in
      absurd (omega (arith, wrong, none, before))
  | inr some ↦
      let has = is.put (omega (arith, some)) in
      let e : turn % 16 ≡ core.stamp_of plain % 16 = sym (packed_stamp turn planes) ∙ (ap packed_stamp_of has.1 ∙ packed_stamp (core.stamp_of plain) has.0) in
      absurd (omega (arith, e, before))
]

-- words that are written at one place say the same where they did, and there
pub both_written : (l : ℕ) (word plain : ℕ → ℕ → ℕ → ℕ) (p i y x : ℕ) → IsLaneWord l y x → (q k : ℕ) → IsLaneWord l (word q k 0) (plain q k 0)
    → IsLaneWord l (written word p i 0 y q k 0) (written plain p i 0 x q k 0)
both_written l word plain p i y x here q k was = elim (cases_eq q p) [
  | inl same_port ↦ elim (cases_eq k i) [
    | inl same_send ↦
        subst (λ q. IsLaneWord l (written word p i 0 y q k 0) (written plain p i 0 x q k 0)) (sym same_port)
        (subst (λ k. IsLaneWord l (written word p i 0 y p k 0) (written plain p i 0 x p k 0)) (sym same_send)
        (subst (λ n. IsLaneWord l n (written plain p i 0 x p i 0)) (sym (at_own word y)) (subst (IsLaneWord l y) (sym (at_own plain x)) here)))
    | inr other ↦ kept (λ e. other e.1)
  ]
  | inr other ↦ kept (λ e. other e.0)
] where
  at_own : (f : ℕ → ℕ → ℕ → ℕ) (n : ℕ) → written f p i 0 n p i 0 ≡ n
  at_own f n = ap (λ (w : ℕ → ℕ). w 0) (written_here f p i 0 n) ∙ updated_here (f p i) 0 n

  kept : ((q ≡ p) × (k ≡ i) → ⊥) → IsLaneWord l (written word p i 0 y q k 0) (written plain p i 0 x q k 0)
  kept away =
      subst (λ (w : ℕ → ℕ). IsLaneWord l (w 0) (written plain p i 0 x q k 0)) (sym (written_there word p i 0 y q k away))
      (subst (λ (w : ℕ → ℕ). IsLaneWord l (word q k 0) (w 0)) (sym (written_there plain p i 0 x q k away)) was)
