-- The line that a row says, by its head and the word and numbers in it.
use Rattle.std.proofs.Common.{◌≡◌, ℕ, ◌≤◌, Bool, true, false, cond, eqb, List, [], ◌∷◌, ◌++◌, append-nil, length, Option, Some, None, Result, Ok, Err, ap, ◌∙◌, refl, arith}
use Rattle.std.proofs.lemmas.{Bool.eqb-true, List.nil_from_length}
use Rattle.bench_read.proofs.Common.{MatchResult, Kind, kind_of, allows_operands, all_of, Form, Row, form_of, BenchNo, Syntax, UnknownKind, Arity, Act, Line, driven, used, allows_memory, said_by_gate, said_by_form, said_by, said}
use Rattle.limits.specs.declared.TheConstants.{MAX_ADDRESS_BITS, MAX_GATE_OPERANDS, MAX_WORD_BITS}
use Rattle.logic_four.specs.declared.Kind.TheVariants as kind
use Rattle.bench_text.specs.{declared.form.Head.Head, Heads.HasHead, Heads.FoundForm}
use Rattle.bench_text.specs.declared.form.Head.TheVariants as head
use Rattle.bench_read.specs.declared.draft.Act.TheVariants as act
use Rattle.bench_read.specs.Lines as lines
use Rattle.bench_read.specs.code.Storing.{act_by_kind, act_by_head, act_of, name_in, driven_by, printed_by, IsFound}

-- ---- numbers

-- no kind allows more than the widest gate has
few_allowed : (kind : Kind) (n : ℕ) → allows_operands kind n ≡ true → n ≤ MAX_GATE_OPERANDS
few_allowed kind.And n e = grind (arith, e)
few_allowed kind n e = grind (arith, e)

-- what a memory's numbers are
pub record AreMemoryBits (address words outputs : ℕ) : Type 0 where
  pub some_address : 1 ≤ address
  pub few_address : address ≤ MAX_ADDRESS_BITS
  pub some_words : 1 ≤ words
  pub few_words : words ≤ MAX_WORD_BITS
  pub outputs_are : words ≡ outputs

pub memory_bits : (address words outputs : ℕ) → allows_memory address words outputs ≡ true → AreMemoryBits address words outputs
memory_bits address words outputs e =
    record { some_address = grind (arith, e); few_address = grind (arith, e); some_words = grind (arith, e); few_words = grind (arith, e); outputs_are = grind (arith, e) }

-- ---- the line

module _ (row : Row) (outs old_uses new_uses : List (List ℕ)) where
  -- where the row says this, it says a line of this act, or has the same fault
  record Agree (name : List ℕ) (says : Result Line BenchNo) (does : Result Act BenchNo) : Type 0 where
    answers : said row ≡ says → MatchResult does (λ which. IsFound row which (driven_by which (name ∷ []) outs) old_uses (new_uses ++ printed_by which name)) (λ e. said row ≡ Err e)

  -- the line drives the one name or the names in its square brackets, and uses those that were added to a list
  says_line : (name : List ℕ) (line : Line) → driven_by (act_of line) (name ∷ []) outs ≡ driven line → new_uses ++ printed_by (act_of line) name ≡ old_uses ++ used line
      → Agree name (Ok line) (Ok (act_of line))
  says_line name line drives uses = record { answers = λ says. record { line = line; says = says; does = refl; drives = drives; uses = uses } }

  refused : (name : List ℕ) (e : BenchNo) → Agree name (Err e) (Err e)
  refused name e = record { answers = λ says. says }

  by_test : {name : List ℕ} {l m : Result Line BenchNo} {r s : Result Act BenchNo} (b : Bool) → (b ≡ true → Agree name l r) → Agree name m s → Agree name (cond b l m) (cond b r s)
  by_test true passes fails = passes refl
  by_test false passes fails = fails

  by_head : (h : Head) (form : Form) → HasHead [] outs old_uses new_uses h form → Agree (name_in h) (said_by_form row.at form) (act_by_head row.at h)
  by_head (head.Port word name) form (is, _, same) =
      rw is (by_test _ (λ _. says_line name.now (lines.Input name.now) refl (rw same refl))
      (by_test _ (λ _. says_line name.now (lines.Output name.now) refl (rw same refl)) (refused name.now (Syntax row.at))))
  by_head (head.Gate name word count) form (uses, is, found, _) =
      rw (is, found.counted) (by_test _ (λ _. by_test _ register (refused name.now (Arity row.at))) (by_kind (kind_of word.now)))
    where
      with_uses : length (all_of uses) ≤ MAX_GATE_OPERANDS → new_uses ++ [] ≡ old_uses ++ all_of uses
      with_uses few = append-nil new_uses ∙ found.added (omega (arith, few, found.counted))

      register : eqb (length (all_of uses)) 1 ≡ true → Agree name.now (Ok (lines.Register name.now uses.first)) (Ok act.Register)
      register is =
          let one = eqb-true (length (all_of uses)) 1 is in
          says_line name.now (lines.Register name.now uses.first) refl (rw (with_uses (omega (arith, one)), nil_from_length uses.others (omega (arith, one))) refl)

      by_kind : (o : Option Kind) → Agree name.now (said_by_gate row.at name.now uses o) (act_by_kind row.at (length (all_of uses)) o)
      by_kind None = refused name.now (UnknownKind row.at)
      by_kind (Some kind) =
          by_test _ (λ allowed. says_line name.now (lines.Gate name.now kind (all_of uses)) refl (with_uses (few_allowed kind (length (all_of uses)) allowed)))
          (refused name.now (Arity row.at))
  by_head (head.Memory word out_count address_count word_count) form (names, enable, address, words, is, found, addresses, datas, added) =
      rw (is, found.counted, addresses, datas) (by_test _ (λ _. by_test _ (λ allowed.
      let bits = memory_bits (length (all_of address)) (length (all_of words)) (length (all_of names)) allowed in
      says_line [] (lines.Memory (all_of names) enable (all_of address) (all_of words))
      (found.added (omega (arith, bits.few_words, bits.outputs_are, found.counted)))
      (append-nil new_uses ∙ added (omega (arith, bits.few_address, addresses)) (omega (arith, bits.few_words, datas)))
      ) (refused [] (Arity row.at))) (refused [] (UnknownKind row.at)))

  -- a row says a line that does what its head does, or has the same fault
  pub by_found : (h : Head) (r : Result Act BenchNo) → FoundForm [] outs old_uses new_uses (Some h) (form_of row.pieces) → act_by_head row.at h ≡ r
      → MatchResult r (λ which. IsFound row which (driven_by which (name_in h ∷ []) outs) old_uses (new_uses ++ printed_by which (name_in h))) (λ e. said row ≡ Err e)
  unfolding said
  by_found h r (form, is, has) does = rw (← does) ((by_head h form has).answers (ap (said_by row.at) is))
