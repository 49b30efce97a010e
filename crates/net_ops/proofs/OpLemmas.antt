-- Operations that join two values, and gates made of them.
use Rattle.std.proofs.Common.{◌≡◌, ◌≢◌, ◌∙◌, ℕ, zero, suc, ◌+◌, ◌<◌, ◌≤◌, List, [], ◌∷◌, ◌++◌, length, map, take, get_or, set, refl, sym, ap, ap₂, arith, IsTrue, Option, Some, None}
use Rattle.std.proofs.lemmas.List.{length-set, get_or-set_same, get_or-set_other, map_more, take_all, append_assoc}
use Rattle.std.proofs.lemmas.List.{Elements.All-append, Sums.fold_push, Sums.fold_more}
use Rattle.std.specs.List.{All}
use Rattle.logic_four.specs.{declared.V4.V4, declared.V4.TheVariants.Undef, declared.Kind.Kind, Gates.gate_value, Kinds.AllowsOperands}
use Rattle.logic_four.specs.Folds.{takes_many, base_kind, lone_kind}
use Rattle.logic_four.proofs.lemmas.FoldLemmas.{front}
use Rattle.net_defs.specs.Time.{value_at}
use Rattle.net_ops.specs.Ops.{op_value, do_op, follow, IsWithin}
use Rattle.net_ops.specs.{declared.ops.PairOp.PairOp, Lanes.forced, Lanes.lane_row, code.Sequences.Adds}
use Rattle.net_ops.proofs.LaneLemmas.{lane_at, lane_set}

pub All-one : {X : Type 0} (P : X → Type 0) (x : X) → P x → All P (x ∷ [])
All-one P x holds zero e below = holds
All-one P x holds (suc k) e below = absurd (omega (arith, below))

-- what is held in the end may be held before
pub forced_twice : (h : Option V4) (g : V4 → V4) (v : V4) → forced h (g (forced h v)) ≡ forced h (g v)
forced_twice None g v = refl
forced_twice (Some w) g v = refl

-- a gate of this kind over what a gate of its base kind answers for the first operands, and one more
join_more : (kind : Kind) (f : ℕ → V4) (operands : List ℕ) (k : ℕ) → IsTrue (takes_many kind) → k < length operands
    → gate_value kind (gate_value (base_kind kind) (map f (take k operands)) ∷ f (get_or operands k 0) ∷ []) ≡ gate_value kind (map f (take (k + 1) operands))
join_more kind f operands k many within = sym (ap (gate_value kind) (map_more f operands k 0 within) ∙ front kind (map f (take k operands)) (f (get_or operands k 0) ∷ []) many)

base_many : (kind : Kind) → IsTrue (takes_many kind) → IsTrue (takes_many (base_kind kind))
base_many kind many = grind arith

base_twice : (kind : Kind) → base_kind (base_kind kind) ≡ base_kind kind
base_twice kind = grind arith

-- a gate of one operand reads it twice
pub lone : (kind : Kind) (a : V4) → AllowsOperands kind 1 → gate_value (lone_kind kind) (a ∷ a ∷ []) ≡ gate_value kind (a ∷ [])
lone kind a allowed = grind arith

-- an operation done in a lane
pub op_done : {W F : Type 0} (lane : W → ℕ → V4) (answer : F → V4 → V4 → V4) (stuck : ℕ → Option V4) (l : ℕ) (op : PairOp F) (row : List W) (a b made put : W)
    → op.a < length row → op.b < length row → a ≡ get_or row op.a a → b ≡ get_or row op.b b
    → lane made l ≡ answer op.form (lane a l) (lane b l) → lane put l ≡ forced (stuck op.gate) (lane made l)
    → lane_row lane l (set row op.gate put) ≡ do_op answer stuck (lane_row lane l row) op
op_done lane answer stuck l op row a b made put a_low b_low a_is b_is made_is put_is =
    lane_set lane row op.gate l put
    ∙ ap (set (lane_row lane l row) op.gate)
    (put_is ∙ ap (forced (stuck op.gate)) (made_is ∙ ap₂ (answer op.form) (lane_at lane row op.a l a a_is a_low) (lane_at lane row op.b l b b_is b_low)))

module _ {F : Type 0} (answer : F → V4 → V4 → V4) (is_form : F → Type 0) where
  -- the operations one by one
  pub follow_more : (stuck : ℕ → Option V4) (ops : List (PairOp F)) (start row new : List V4) (i : ℕ) (op : PairOp F) → i < length ops → row ≡ follow answer stuck (take i ops) start
      → new ≡ do_op answer stuck row (get_or ops i op) → new ≡ follow answer stuck (take (i + 1) ops) start
  follow_more stuck ops start row new i op within so_far changed =
      changed ∙ (ap (λ r. do_op answer stuck r (get_or ops i op)) so_far ∙ sym (fold_more (do_op answer stuck) start ops i op within))

  -- the value of a signal may be said in another way
  pub adds_as : (signals place : ℕ) (f g : List V4 → V4) (old new : List (PairOp F)) → Adds answer is_form signals place f old new → ((row : List V4) → f row ≡ g row) → Adds answer is_form signals place g old new
  adds_as signals place f g old new adds same = record {
    ops = adds.ops;
    grown = adds.grown;
    within = adds.within;
    long = adds.long;
    here = λ stuck row long. adds.here stuck row long ∙ ap (forced (stuck place)) (same row);
    others = adds.others;
  }

  -- one operation
  pub pair_does : (signals gate a b : ℕ) (value : V4 → V4 → V4) (form : F) (old new : List (PairOp F)) → gate < signals → a < signals + signals → b < signals + signals
      → is_form form → ((x y : V4) → answer form x y ≡ value x y) → new ≡ old ++ record { gate = gate; a = a; b = b; form = form } ∷ []
      → Adds answer is_form signals gate (λ row. value (value_at row a) (value_at row b)) old new
  pair_does signals gate a b value form old new low a_low b_low made answers grown =
      let op : PairOp F = record { gate = gate; a = a; b = b; form = form } in
      record {
        ops = op ∷ [];
        grown = grown;
        within = All-one (IsWithin is_form signals (signals + signals)) op (record { gate = low; a = a_low; b = b_low; form = made });
        long = λ stuck row. length-set row gate (forced (stuck gate) (op_value answer row op));
        here = λ stuck row long.
            get_or-set_same row gate (forced (stuck gate) (op_value answer row op)) Undef (omega (arith, long, low)) ∙ ap (forced (stuck gate)) (answers (value_at row a) (value_at row b));
        others = λ stuck row p other. get_or-set_other row gate p (forced (stuck gate) (op_value answer row op)) Undef other;
      }

  -- one operation that reads its operand twice
  pub lone_does : (signals gate a : ℕ) (value : V4 → V4) (form : F) (old new : List (PairOp F)) → gate < signals → a < signals + signals
      → is_form form → ((x : V4) → answer form x x ≡ value x) → new ≡ old ++ record { gate = gate; a = a; b = a; form = form } ∷ []
      → Adds answer is_form signals gate (λ row. value (value_at row a)) old new
  lone_does signals gate a value form old new low a_low made answers grown =
      adds_as signals gate (λ row. answer form (value_at row a) (value_at row a)) (λ row. value (value_at row a)) old new
      (pair_does signals gate a a (answer form) form old new low a_low a_low made (λ x y. refl) grown)
      (λ row. answers (value_at row a))

  -- one operation more, which takes what its place has
  chain_does : (signals gate b : ℕ) (value : V4 → V4 → V4) (form : F) (f : List V4 → V4) (old mid new : List (PairOp F)) → gate < signals → b < signals + signals → b ≢ gate
      → is_form form → ((x y : V4) → answer form x y ≡ value x y)
      → Adds answer is_form signals gate f old mid → new ≡ mid ++ record { gate = gate; a = gate; b = b; form = form } ∷ []
      → Adds answer is_form signals gate (λ row. value (f row) (value_at row b)) old new
  chain_does signals gate b value form f old mid new low b_low other made answers first grown =
      let op : PairOp F = record { gate = gate; a = gate; b = b; form = form } in
      let does : (stuck : ℕ → Option V4) (row : List V4) → follow answer stuck (first.ops ++ op ∷ []) row ≡ do_op answer stuck (follow answer stuck first.ops row) op = λ stuck row. fold_push (do_op answer stuck) row first.ops op in
      let one : op.gate < signals + signals = omega (arith, low) in
      record {
        ops = first.ops ++ op ∷ [];
        grown = grown ∙ (ap (λ ops. ops ++ op ∷ []) first.grown ∙ append_assoc old first.ops (op ∷ []));
        within = All-append (IsWithin is_form signals (signals + signals)) first.ops (op ∷ []) first.within (All-one (IsWithin is_form signals (signals + signals)) op (record { gate = low; a = one; b = b_low; form = made }));
        long = λ stuck row.
            ap length (does stuck row)
            ∙ (length-set (follow answer stuck first.ops row) gate (forced (stuck gate) (op_value answer (follow answer stuck first.ops row) op)) ∙ first.long stuck row);
        here = λ stuck row long.
            ap (λ r. value_at r gate) (does stuck row)
            ∙ (get_or-set_same (follow answer stuck first.ops row) gate (forced (stuck gate) (op_value answer (follow answer stuck first.ops row) op)) Undef (omega (arith, long, low, first.long stuck row))
            ∙ (ap (forced (stuck gate)) (answers (value_at (follow answer stuck first.ops row) gate) (value_at (follow answer stuck first.ops row) b))
            ∙ (ap₂ (λ x y. forced (stuck gate) (value x y)) (first.here stuck row long) (first.others stuck row b other)
            ∙ forced_twice (stuck gate) (λ x. value x (value_at row b)) (f row))));
        others = λ stuck row p apart.
            ap (λ r. value_at r p) (does stuck row)
            ∙ (get_or-set_other (follow answer stuck first.ops row) gate p (forced (stuck gate) (op_value answer (follow answer stuck first.ops row) op)) Undef apart ∙ first.others stuck row p apart);
      }

  module _ (signals base gate : ℕ) (operands : List ℕ) (low : gate < signals) (base_low : base ≤ signals) (within : All (λ o. o < signals) operands) (apart : All (λ o. base + o ≢ gate) operands) where
    -- a gate of this kind over the first so many operands
    abbrev over : Kind → ℕ → List V4 → V4
    over kind k row = gate_value kind (map (λ o. value_at row (base + o)) (take k operands))

    place_low : (k : ℕ) → k < length operands → base + get_or operands k 0 < signals + signals
    place_low k inside = let operand : get_or operands k 0 < signals = within k 0 inside in omega (arith, operand, base_low)

    -- one operand more of a wide gate, whose first operands are joined in its place
    wide_more : (k : ℕ) (kind joining : Kind) (form : F) (old mid new : List (PairOp F)) → joining ≡ base_kind kind → IsTrue (takes_many kind) → k < length operands
        → is_form form → ((x y : V4) → answer form x y ≡ gate_value kind (x ∷ y ∷ []))
        → Adds answer is_form signals gate (over joining k) old mid
        → new ≡ mid ++ record { gate = gate; a = gate; b = base + get_or operands k 0; form = form } ∷ []
        → Adds answer is_form signals gate (over kind (k + 1)) old new
    wide_more k kind joining form old mid new is many inside made answers first grown =
        adds_as signals gate (λ row. gate_value kind (over joining k row ∷ value_at row (base + get_or operands k 0) ∷ [])) (over kind (k + 1)) old new
        (chain_does signals gate (base + get_or operands k 0) (λ x y. gate_value kind (x ∷ y ∷ [])) form (over joining k) old mid new low (place_low k inside) (apart k 0 inside) made answers first grown)
        (λ row.
        ap (λ j. gate_value kind (over j k row ∷ value_at row (base + get_or operands k 0) ∷ [])) is
        ∙ join_more kind (λ o. value_at row (base + o)) operands k many inside)

    -- one operand more before the last
    pub wide_joins : (k : ℕ) (kind it : Kind) (form : F) (old mid new : List (PairOp F)) → it ≡ base_kind kind → IsTrue (takes_many kind) → k < length operands
        → is_form form → ((x y : V4) → answer form x y ≡ gate_value it (x ∷ y ∷ []))
        → Adds answer is_form signals gate (over (base_kind kind) k) old mid
        → new ≡ mid ++ record { gate = gate; a = gate; b = base + get_or operands k 0; form = form } ∷ []
        → Adds answer is_form signals gate (over (base_kind kind) (k + 1)) old new
    wide_joins k kind it form old mid new is many inside made answers first grown =
        wide_more k (base_kind kind) (base_kind kind) form old mid new (sym (base_twice kind)) (base_many kind many) inside made
        (λ x y. answers x y ∙ ap (λ j. gate_value j (x ∷ y ∷ [])) is) first grown

    -- the last operand
    pub wide_last : (k last : ℕ) (kind : Kind) (form : F) (old mid new : List (PairOp F)) → IsTrue (takes_many kind) → last ≡ k → k + 1 ≡ length operands
        → is_form form → ((x y : V4) → answer form x y ≡ gate_value kind (x ∷ y ∷ []))
        → Adds answer is_form signals gate (over (base_kind kind) k) old mid
        → new ≡ mid ++ record { gate = gate; a = gate; b = base + get_or operands last 0; form = form } ∷ []
        → Adds answer is_form signals gate (λ row. gate_value kind (map (λ o. value_at row (base + o)) operands)) old new
    wide_last k last kind form old mid new many same whole made answers first grown =
        adds_as signals gate (over kind (k + 1)) (λ row. gate_value kind (map (λ o. value_at row (base + o)) operands)) old new
        (wide_more k kind (base_kind kind) form old mid new refl many (omega (arith, whole)) made answers first
        (grown ∙ ap (λ n. mid ++ record { gate = gate; a = gate; b = base + get_or operands n 0; form = form } ∷ []) same))
        (λ row. ap (λ xs. gate_value kind (map (λ o. value_at row (base + o)) xs)) (take_all (k + 1) operands (omega (arith, whole))))

-- gates of one operand and of two, and the first two of a wide gate
module _ {F : Type 0} (answer : F → V4 → V4 → V4) (is_form : F → Type 0) (signals base gate : ℕ) (low : gate < signals) (base_low : base ≤ signals) (form : F) (made : is_form form) (old new : List (PairOp F)) where
  pub one_does : (kind : Kind) (operands : List ℕ) → All (λ o. o < signals) operands → length operands ≡ 1 → AllowsOperands kind (length operands)
      → (AllowsOperands kind 1 → (x : V4) → answer form x x ≡ gate_value kind (x ∷ []))
      → new ≡ old ++ record { gate = gate; a = base + get_or operands 0 0; b = base + get_or operands 0 0; form = form } ∷ []
      → Adds answer is_form signals gate (λ row. gate_value kind (map (λ o. value_at row (base + o)) operands)) old new
  one_does kind [] within one allowed answers grown = absurd (omega (arith, one))
  one_does kind (x ∷ y ∷ rest) within one allowed answers grown = absurd (omega (arith, one))
  one_does kind (x ∷ []) within one allowed answers grown =
      let operand : x < signals = within 0 0 (omega arith) in
      lone_does answer is_form signals gate (base + x) (λ v. gate_value kind (v ∷ [])) form old new low (omega (arith, operand, base_low)) made (answers allowed) grown

  pub two_do : (kind : Kind) (operands : List ℕ) → All (λ o. o < signals) operands → 1 < length operands
      → ((x y : V4) → answer form x y ≡ gate_value kind (x ∷ y ∷ []))
      → new ≡ old ++ record { gate = gate; a = base + get_or operands 0 0; b = base + get_or operands 1 0; form = form } ∷ []
      → Adds answer is_form signals gate (λ row. gate_value kind (map (λ o. value_at row (base + o)) (take 2 operands))) old new
  two_do kind [] within two answers grown = absurd (omega (arith, two))
  two_do kind (x ∷ []) within two answers grown = absurd (omega (arith, two))
  two_do kind (x ∷ y ∷ rest) within two answers grown =
      let first : x < signals = within 0 0 (omega arith) in
      let second : y < signals = within 1 0 (omega arith) in
      pair_does answer is_form signals gate (base + x) (base + y) (λ v w. gate_value kind (v ∷ w ∷ [])) form old new low (omega (arith, first, base_low)) (omega (arith, second, base_low)) made answers grown

  pub both_do : (kind : Kind) (operands : List ℕ) → All (λ o. o < signals) operands → length operands ≡ 2
      → ((x y : V4) → answer form x y ≡ gate_value kind (x ∷ y ∷ []))
      → new ≡ old ++ record { gate = gate; a = base + get_or operands 0 0; b = base + get_or operands 1 0; form = form } ∷ []
      → Adds answer is_form signals gate (λ row. gate_value kind (map (λ o. value_at row (base + o)) operands)) old new
  both_do kind operands within two answers grown =
      adds_as answer is_form signals gate (λ row. gate_value kind (map (λ o. value_at row (base + o)) (take 2 operands))) (λ row. gate_value kind (map (λ o. value_at row (base + o)) operands)) old new
      (two_do kind operands within (omega (arith, two)) answers grown)
      (λ row. ap (λ xs. gate_value kind (map (λ o. value_at row (base + o)) xs)) (take_all 2 operands (omega (arith, two))))
