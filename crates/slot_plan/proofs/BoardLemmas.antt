-- Boards that get bits.
use Rattle.std.proofs.Common.{◌≡◌, ◌∙◌, ◌⊎◌, ◌↔◌, inl, inr, ℕ, ◌+◌, ◌*◌, ◌/◌, ◌<◌, ◌≤◌, List, length, get_or, sym, ap, subst, arith}
use Rattle.std.proofs.{Math.Nat.mul-le-mul_right, lemmas.List.get_or_default}
use Rattle.list_laws.proofs.Ranges.{last_or}
use Rattle.plan_defs.specs.{declared.bit_rows.BitRows.BitRows, Bits.HasBit, Bits.Adds, Bits.IsShaped}
use Rattle.plan_defs.proofs.{lemmas.AddLemmas.adds_same, UserLemmas.adds_either}
use Rattle.slot_plan.specs.code.Boards.{IsBoard, IsTaken, IsRuledOut, IsShut, IsRowFor}
use Rattle.slot_plan.specs.declared.board.Board.{Board}

-- there is room for each row
pub row_room : (rows : BitRows) (count stride row : ℕ) → IsShaped rows count stride → row < count → row * rows.stride + rows.stride ≤ length rows.words
row_room rows count stride row shape low =
    let bound : (row + 1) * stride ≤ count * stride = mul-le-mul_right stride (omega (arith, low)) in
    rw (shape.stride_is, shape.words) (omega (arith, bound))

-- so is one in which a full word is noted
pub board_noted : (board : Board) (full : BitRows) (row w : ℕ) → IsBoard board → ((b : ℕ) → b < 64 → HasBit board.rows row (64 * w + b)) → Adds board.full full (λ r k. (r ≡ row) × (k ≡ w)) → IsBoard (record { rows = board.rows; full = full; ports = board.ports })
board_noted board full row w is all adds = record {
  few = is.few;
  small = is.small;
  room = is.room;
  bits = is.bits ∙ ap (λ n. 64 * n) (sym adds.stride);
  notes = λ r low. rw (adds.stride, adds.words) (is.notes r low);
  full = λ r k b noted low. elim ((adds.bits r k).0 noted) [
    | inl old ↦ is.full r k b old low
    | inr new ↦ subst (λ q. HasBit board.rows q (64 * k + b)) (sym new.0) (subst (λ n. HasBit board.rows row (64 * n + b)) (sym new.1) (all b low))
  ];
}

-- the slots of a word that is before the first slot or noted as full are shut
pub passed_shut : (board : Board) (home : ℕ) (readers : List ℕ) (from w b : ℕ) → IsBoard board → b < 64 → IsRuledOut board.full board.ports home readers (from / 64) w → IsShut board home readers from (64 * w + b)
passed_shut board home readers from w b is low (inl before) = inl (omega (arith, before, low))
passed_shut board home readers from w b is low (inr (inl noted)) = inr (inl (is.full home w b noted low))
passed_shut board home readers from w b is low (inr (inr (r, among, noted))) = inr (inr (r, among, is.full (board.ports + r) w b noted low))

-- ---- the slots taken for the first so many readers

abbrev pub IsTakenTo : BitRows → ℕ → ℕ → List ℕ → ℕ → ℕ → Type 0
IsTakenTo rows ports home readers n s = HasBit rows home s ⊎ ((k : ℕ) × (k < n) × HasBit rows (ports + get_or readers k 0) s)

pub taken_none : (rows : BitRows) (ports home : ℕ) (readers : List ℕ) (s : ℕ) → IsTakenTo rows ports home readers 0 s → HasBit rows home s
taken_none rows ports home readers s (inl has) = has
taken_none rows ports home readers s (inr (k, low, has)) = absurd (omega (arith, low))

pub taken_more : (rows : BitRows) (ports home : ℕ) (readers : List ℕ) (n s : ℕ) → IsTakenTo rows ports home readers (n + 1) s ↔ (IsTakenTo rows ports home readers n s ⊎ HasBit rows (ports + get_or readers n 0) s)
taken_more rows ports home readers n s = (there, back) where
  there : IsTakenTo rows ports home readers (n + 1) s → IsTakenTo rows ports home readers n s ⊎ HasBit rows (ports + get_or readers n 0) s
  there (inl has) = inl (inl has)
  there (inr (k, low, has)) = elim (last_or k n low) [
    | inl below ↦ inl (inr (k, below, has))
    | inr same ↦ inr (subst (λ i. HasBit rows (ports + get_or readers i 0) s) same has)
  ]

  back : IsTakenTo rows ports home readers n s ⊎ HasBit rows (ports + get_or readers n 0) s → IsTakenTo rows ports home readers (n + 1) s
  back (inl (inl has)) = inl has
  back (inl (inr (k, low, has))) = inr (k, omega arith, has)
  back (inr has) = inr (n, omega arith, has)

pub taken_all : (rows : BitRows) (ports home : ℕ) (readers : List ℕ) (n s : ℕ) → n ≡ length readers → IsTakenTo rows ports home readers n s ↔ IsTaken rows ports home readers s
taken_all rows ports home readers n s whole = (there, back) where
  there : IsTakenTo rows ports home readers n s → IsTaken rows ports home readers s
  there (inl has) = inl has
  there (inr (k, low, has)) =
      let inside : k < length readers = omega (arith, low, whole) in
      inr (get_or readers k 0, (k, inside, get_or_default readers k (get_or readers k 0) 0 inside), has)

  back : IsTaken rows ports home readers s → IsTakenTo rows ports home readers n s
  back (inl has) = inl has
  back (inr (r, (k, low, is), has)) = inr (k, omega (arith, low, whole), subst (λ q. HasBit rows (ports + q) s) (sym (get_or_default readers k 0 r low ∙ is)) has)

-- ---- the rows of the first so many readers

abbrev pub IsRowTo : Board → ℕ → List ℕ → ℕ → ℕ → Type 0
IsRowTo board home readers n row = (row ≡ home) ⊎ ((k : ℕ) × (k < n) × (row ≡ board.ports + get_or readers k 0))

pub rows_none : (board : Board) (home : ℕ) (readers : List ℕ) (slot : ℕ) (a b : BitRows) → Adds a b (λ r k. (r ≡ home) × (k ≡ slot)) → Adds a b (λ row s. IsRowTo board home readers 0 row × (s ≡ slot))
rows_none board home readers slot a b adds = adds_same a b (λ r k. (r ≡ home) × (k ≡ slot)) (λ row s. IsRowTo board home readers 0 row × (s ≡ slot)) adds (λ row s. (λ h. (there row h.0, h.1), λ h. (inl h.0, h.1))) where
  there : (row : ℕ) → IsRowTo board home readers 0 row → row ≡ home
  there row (inl same) = same
  there row (inr (k, low, is)) = absurd (omega (arith, low))

pub rows_more : (board : Board) (home : ℕ) (readers : List ℕ) (n slot : ℕ) (a b c : BitRows) → Adds a b (λ row s. IsRowTo board home readers n row × (s ≡ slot)) → Adds b c (λ row s. (row ≡ board.ports + get_or readers n 0) × (s ≡ slot)) → Adds a c (λ row s. IsRowTo board home readers (n + 1) row × (s ≡ slot))
rows_more board home readers n slot a b c before adds =
    adds_same a c (λ row s. (IsRowTo board home readers n row ⊎ (row ≡ board.ports + get_or readers n 0)) × (s ≡ slot)) (λ row s. IsRowTo board home readers (n + 1) row × (s ≡ slot))
    (adds_either a b c (IsRowTo board home readers n) (λ row. row ≡ board.ports + get_or readers n 0) slot before adds)
    (λ row s. (λ h. (there row h.0, h.1), λ h. (back row h.0, h.1))) where
      there : (row : ℕ) → IsRowTo board home readers (n + 1) row → IsRowTo board home readers n row ⊎ (row ≡ board.ports + get_or readers n 0)
      there row (inl same) = inl (inl same)
      there row (inr (k, low, is)) = elim (last_or k n low) [ inl below ↦ inl (inr (k, below, is)) | inr same ↦ inr (is ∙ ap (λ i. board.ports + get_or readers i 0) same) ]

      back : (row : ℕ) → IsRowTo board home readers n row ⊎ (row ≡ board.ports + get_or readers n 0) → IsRowTo board home readers (n + 1) row
      back row (inl (inl same)) = inl same
      back row (inl (inr (k, low, is))) = inr (k, omega arith, is)
      back row (inr is) = inr (n, omega arith, is)

pub rows_all : (board : Board) (home : ℕ) (readers : List ℕ) (n slot : ℕ) (a b : BitRows) → n ≡ length readers → Adds a b (λ row s. IsRowTo board home readers n row × (s ≡ slot)) → Adds a b (λ row s. IsRowFor board home readers row × (s ≡ slot))
rows_all board home readers n slot a b whole adds =
    adds_same a b (λ row s. IsRowTo board home readers n row × (s ≡ slot)) (λ row s. IsRowFor board home readers row × (s ≡ slot)) adds (λ row s. (λ h. (there row h.0, h.1), λ h. (back row h.0, h.1))) where
      there : (row : ℕ) → IsRowFor board home readers row → IsRowTo board home readers n row
      there row (inl same) = inl same
      there row (inr (r, (k, low, is), at)) = inr (k, omega (arith, low, whole), at ∙ ap (λ q. board.ports + q) (sym (get_or_default readers k 0 r low ∙ is)))

      back : (row : ℕ) → IsRowTo board home readers n row → IsRowFor board home readers row
      back row (inl same) = inl same
      back row (inr (k, low, at)) =
          let inside : k < length readers = omega (arith, low, whole) in
          inr (get_or readers k 0, (k, inside, get_or_default readers k (get_or readers k 0) 0 inside), at)
