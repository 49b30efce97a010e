-- What a task laid flat answers is the value of the task.
use Rattle.std.proofs.Common.{◌≡◌, ◌∙◌, inl, inr, ℕ, ◌+◌, ◌*◌, ◌<◌, ◌≤◌, ◌⊎◌, List, [], ◌∷◌, ◌++◌, length, slice_get, Some, sym, ap, ap₂, subst, refl, arith}
use Rattle.std.proofs.lemmas.{Option.slice_get_within, Bool.cases_lt, List.length-append}
use Rattle.list_laws.proofs.Places.{at_front, seam_at}
use Rattle.logic_four.specs.{declared.V4.V4, Values.settled}
use Rattle.net_defs.specs.Steps.{registered}
use Rattle.func_table.specs.{declared.table.Table.Table, Entries.entry_for, Entries.looked_up}
use Rattle.image_defs.specs.declared.image.{Source.Source, Task.Task, Task.TheVariants.Eval, Task.TheVariants.Hold}
use Rattle.image_defs.specs.{Places.task_slot, Steps.past_value, Steps.task_value, Steps.timing_of, Ports.PortView}
use Rattle.port_bank.specs.Reads.{IsAtHand, IsRead, IsHeld, now_in, past_in, value_taken}
use Rattle.port_bank.specs.{declared.steps.Operand.Operand, Flat.place_count, Flat.operand_of}
use Rattle.port_bank.proofs.lemmas.TurnLemmas.{place_within, past_at_hand, past_taken}
use Rattle.port_logic.specs.Ops.{IsFormIn, IsGate, IsOp, IsPairOf, AreOpsOf}
use Rattle.port_logic.specs.code.Ops.{AreFormsOf, IsLookOf, IsTaskWithin, IsTabled, FitsOp}
use Rattle.port_logic.specs.declared.op.Op.{Op, TheVariants.Pair, TheVariants.Look, TheVariants.Keep}
use Rattle.port_logic.specs.code.Tasks.{IsTaskAtHand, IsAnswer}

module _ {P F : Type 0} (is_pair : Table → V4 → V4 → P → Type 0) (is_form : Table → F → Type 0) where
  -- ---- an answer

  pub pair_right : (view : PortView) (tables : List Table) (pair : P) (a b : Operand) (slot : ℕ) (x y v : V4) → IsRead view a x → IsRead view b y
      → ((table : Table) (c d : V4) → is_pair table c d pair → v ≡ entry_for table x y c d) → IsAnswer is_pair is_form view tables (Pair pair a b) slot v
  pair_right view tables pair a b slot x y v is_x is_y is port i task at stands same hand op = of_task task hand op where
    of_gate : (table : ℕ) (p q r u : Source) → IsAtHand view port p → IsAtHand view port q → IsPairOf is_pair view.image.slots tables table p q r u pair a b
        → v ≡ looked_up (slice_get tables table) (value_taken view port p) (value_taken view port q) (value_taken view port r) (value_taken view port u)
    of_gate table p q r u p_hand q_hand op =
        is op.read op.third op.fourth op.known
        ∙ ap₂ (λ s t. entry_for op.read s t op.third op.fourth) (is_x port p at p_hand op.x_is) (is_y port q at q_hand op.y_is)
        ∙ sym (ap (λ o. looked_up o (value_taken view port p) (value_taken view port q) (value_taken view port r) (value_taken view port u)) op.there
        ∙ ap₂ (λ s t. entry_for op.read (value_taken view port p) (value_taken view port q) (value_taken view port s) (value_taken view port t)) op.c_is op.d_is)

    of_task : (task : Task) → IsTaskAtHand view port task → IsOp is_pair is_form view.image.slots tables task (Pair pair a b)
        → v ≡ task_value view.image view.turn view.port port.ins (past_in view) (now_in view).value tables task
    of_task (Eval s table p q r u) hand op = of_gate table p q r u hand.0 hand.1 op
    of_task (Hold s source) hand op = absurd op

  pub look_right : (view : PortView) (tables : List Table) (form : F) (table : ℕ) (a b c d : Operand) (slot : ℕ) (read : Table) (va vb vc vd v : V4)
      → slice_get tables table ≡ Some read → IsRead view a va → IsRead view b vb → IsRead view c vc → IsRead view d vd → v ≡ entry_for read va vb vc vd
      → IsAnswer is_pair is_form view tables (Look form table a b c d) slot v
  look_right view tables form table a b c d slot read va vb vc vd v there ra rb rc rd is port i task its stands at hand op = of_task task hand op where
    of_task : (task : Task) → IsTaskAtHand view port task → IsOp is_pair is_form view.image.slots tables task (Look form table a b c d)
        → v ≡ task_value view.image view.turn view.port port.ins (past_in view) (now_in view).value tables task
    of_task (Hold s source) hand op = absurd op
    of_task (Eval s t p q r u) hand op =
        let found : slice_get tables t ≡ Some read = subst (λ k. slice_get tables k ≡ Some read) op.1 there in
        let ea : va ≡ value_taken view port p = ra port p its hand.0 op.2 in
        let eb : vb ≡ value_taken view port q = rb port q its hand.1 op.3 in
        let ec : vc ≡ value_taken view port r = rc port r its hand.2 op.4 in
        let ed : vd ≡ value_taken view port u = rd port u its hand.3 op.5 in
        rw (found, is, ea, eb, ec, ed) refl

  pub keep_right : (view : PortView) (tables : List Table) (from : Operand) (slot : ℕ) (read kept : V4) → IsRead view from read → IsHeld view slot (settled read) kept → IsAnswer is_pair is_form view tables (Keep from) slot kept
  keep_right view tables from slot read kept is_read is_held port i task is stands at hand op = of_task task at hand op where
    of_task : (task : Task) → task_slot task ≡ slot → IsTaskAtHand view port task → IsOp is_pair is_form view.image.slots tables task (Keep from)
        → kept ≡ task_value view.image view.turn view.port port.ins (past_in view) (now_in view).value tables task
    of_task (Eval s t p q r u) at hand op = absurd op
    of_task (Hold s source) at hand op =
        let taken : read ≡ past_value view.port port.ins (past_in view).value source = is_read port source is (past_at_hand view port source hand) op ∙ past_taken view port source hand in
        is_held port i is stands
        ∙ ap (λ v. registered (timing_of view.image) view.turn (settled v) ((past_in view).value view.port slot)) taken
        ∙ ap (λ t. registered (timing_of view.image) view.turn (settled (past_value view.port port.ins (past_in view).value source)) ((past_in view).value view.port t)) (sym at)

  -- ---- a task laid flat

  -- a gate of any operands, by its table
  pub look_is : (slots : ℕ) (tables : List Table) (form : F) (table : ℕ) (a b p q : Source) (op : Op P F) → IsLookOf slots form table a b p q op → IsFormIn is_form (slice_get tables table) form
      → (c d : Source) → p ≡ c → q ≡ d → IsGate is_pair is_form slots tables table a b c d op
  look_is slots tables form table a b p q op is known c d c_is d_is =
      subst (IsGate is_pair is_form slots tables table a b c d) (sym is) (known, refl, refl, refl, ap (operand_of slots) c_is, ap (operand_of slots) d_is)

  -- ---- what fits

  low_as : (places : ℕ) (one other : Operand) → one ≡ other → other.number < 2 * places → one.number < 2 * places
  low_as places one other same low = subst (λ o. o.number < 2 * places) (sym same) low

  -- a task that names what there is fits
  pub op_fits : (slots : ℕ) (tables : List Table) (task : Task) (op : Op P F) → IsTabled (length tables) task → IsTaskWithin slots task → IsOp is_pair is_form slots tables task op
      → FitsOp is_form tables (place_count slots) op
  op_fits slots tables (Eval slot table a b c d) (Pair pair x y) tabled within is =
      (low_as (place_count slots) x (operand_of slots a) is.x_is (place_within slots a within.0), low_as (place_count slots) y (operand_of slots b) is.y_is (place_within slots b within.1))
  op_fits slots tables (Eval slot table a b c d) (Look form number x y z w) tabled within is = (
    subst (λ n. n < length tables) (sym is.1) tabled,
    subst (λ n. IsFormIn is_form (slice_get tables n) form) (sym is.1) is.0,
    low_as (place_count slots) x (operand_of slots a) is.2 (place_within slots a within.0),
    low_as (place_count slots) y (operand_of slots b) is.3 (place_within slots b within.1),
    low_as (place_count slots) z (operand_of slots c) is.4 (place_within slots c within.2),
    low_as (place_count slots) w (operand_of slots d) is.5 (place_within slots d within.3),
  )
  op_fits slots tables (Eval slot table a b c d) (Keep from) tabled within is = absurd is
  op_fits slots tables (Hold slot source) (Pair pair x y) tabled within is = absurd is
  op_fits slots tables (Hold slot source) (Look form number x y z w) tabled within is = absurd is
  op_fits slots tables (Hold slot source) (Keep from) tabled within is = low_as (place_count slots) from (operand_of slots source) is (place_within slots source within)

  -- ---- lists that grow

  last_one : {A : Type 0} (xs : List A) (x y : A) (i : ℕ) → slice_get (xs ++ x ∷ []) i ≡ Some y → length xs ≤ i → (i ≡ length xs) × (x ≡ y)
  last_one xs x y i at past =
      let low : i < length (xs ++ x ∷ []) = slice_get_within (xs ++ x ∷ []) i y at in
      let here : i ≡ length xs = omega (arith, low, past, length-append xs (x ∷ [])) in
      let same : Some x ≡ Some y = sym (seam_at xs x []) ∙ ap (slice_get (xs ++ x ∷ [])) (sym here) ∙ at in
      (here, cc)

  -- no task yet
  pub ops_none : (slots : ℕ) (tables : List Table) (tasks : List Task) (ops : List (Op P F)) → ops ≡ [] → AreOpsOf is_pair is_form slots tables tasks 0 ops
  ops_none slots tables tasks ops is =
      subst (AreOpsOf is_pair is_form slots tables tasks 0) (sym is) (record {
        long = refl;
        each = λ i task op there at. let low : i < 0 = slice_get_within [] i op at in absurd (omega (arith, low));
      })

  -- what one more table is known as
  pub forms_more : (tables : List Table) (n : ℕ) (forms : List F) (table : Table) (form : F) → AreFormsOf is_form tables n forms → slice_get tables n ≡ Some table → is_form table form
      → AreFormsOf is_form tables (n + 1) (forms ++ form ∷ [])
  forms_more tables n forms table form are there is = record {
    long = length-append forms (form ∷ []) ∙ ap (λ k. k + 1) are.long;
    each = λ i other at. of_place i other at (cases_lt i (length forms));
  } where
    of_place : (i : ℕ) (other : F) → slice_get (forms ++ form ∷ []) i ≡ Some other → (i < length forms) ⊎ (length forms ≤ i) → IsFormIn is_form (slice_get tables i) other
    of_place i other at (inl before) = are.each i other (sym (at_front forms (form ∷ []) i before) ∙ at)
    of_place i other at (inr past) =
        let last = last_one forms form other i at past in
        subst (λ k. IsFormIn is_form (slice_get tables k) other) (sym (last.0 ∙ are.long)) (rw there (subst (is_form table) last.1 is))

  -- one more task by places
  pub ops_more : (slots : ℕ) (tables : List Table) (tasks : List Task) (n : ℕ) (ops : List (Op P F)) (task : Task) (op : Op P F) → AreOpsOf is_pair is_form slots tables tasks n ops → slice_get tasks n ≡ Some task
      → IsOp is_pair is_form slots tables task op → AreOpsOf is_pair is_form slots tables tasks (n + 1) (ops ++ op ∷ [])
  ops_more slots tables tasks n ops task op are there is = record {
    long = length-append ops (op ∷ []) ∙ ap (λ k. k + 1) are.long;
    each = λ i other its found at. of_place i other its found at (cases_lt i (length ops));
  } where
    of_place : (i : ℕ) (other : Task) (its : Op P F) → slice_get tasks i ≡ Some other → slice_get (ops ++ op ∷ []) i ≡ Some its → (i < length ops) ⊎ (length ops ≤ i) → IsOp is_pair is_form slots tables other its
    of_place i other its found at (inl before) = are.each i other its found (sym (at_front ops (op ∷ []) i before) ∙ at)
    of_place i other its found at (inr past) =
        let last = last_one ops op its i at past in
        let one : Some task ≡ Some other = sym there ∙ ap (slice_get tasks) (sym (last.0 ∙ are.long)) ∙ found in
        let same : task ≡ other = cc in
        subst (λ t. IsOp is_pair is_form slots tables t its) same (subst (IsOp is_pair is_form slots tables task) last.1 is)
