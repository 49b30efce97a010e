-- What a scan finds at a place is the token of the place, or its fault.
use Rattle.std.proofs.Common.{◌≡◌, ℕ, zero, suc, ◌+◌, ◌-◌, ◌<◌, ◌≤◌, true, false, List, length, drop, get_or, None, Some, sym, ◌∙◌, refl, arith, add-zero}
use Rattle.std.proofs.lemmas.List.{length-drop, get_or-drop, Sums.prefix_len-le-length, Sums.prefix_len_passes, Sums.prefix_len_stops}
use Rattle.text_lines.specs.Places.{stays_in_comment, is_comment, line_at, column_at, is_line_end}
use Rattle.text_lines.specs.Names.{is_name_byte}
use Rattle.text_lines.proofs.lemmas.AnswerLemmas.{first_none, first_some}
use Rattle.bench_text.specs.Tokens.{follows_name, begins_name, name_length, token_at, is_bad, fault_at, first_fault}
use Rattle.bench_text.specs.code.Scans.{HasPassed, follows_comment, scan_at, scan_after, fault_by, token_by}
use Rattle.bench_text.specs.{declared.scan.Scan.Scan, declared.token.TextNo.TextNo, declared.class.Class.TheVariants.Name, Bytes.class_of}
use Rattle.bench_text.proofs.lemmas.ByteLemmas.{class_is, named_byte}

pub is_comment_step : (text : List ℕ) (i : ℕ) → is_comment text i ≡ stays_in_comment (follows_comment text i) (get_or text i 0)
unfolding is_comment
is_comment_step text zero = refl
is_comment_step text (suc i) = refl

-- what a scan finds is the fault of the place, and its token
pub place_is : (text : List ℕ) (i : ℕ) (scan : Scan) → scan ≡ scan_at text i
    → (fault_by text i scan (class_of (get_or text i 0)) ≡ fault_at text i) × (token_by text i scan (class_of (get_or text i 0)) ≡ token_at text i)
unfolding fault_at is_bad begins_name is_line_end stays_in_comment token_at
place_is text i scan at = rw at (grind (arith, class_is (get_or text i 0), is_comment_step text i), grind (arith, class_is (get_or text i 0), is_comment_step text i))

-- ---- a scan, one place on

pub after_is : (text : List ℕ) (i : ℕ) (scan : Scan) → scan ≡ scan_at text i → scan_after scan (get_or text i 0) ≡ scan_at text (i + 1)
unfolding line_at column_at
after_is text i scan at = let next : i + 1 ≡ suc i = omega arith in rw (at, next, sym (is_comment_step text i)) refl

-- lines and columns are no more than places
pub place_below : (text : List ℕ) (i : ℕ) → (line_at text i ≤ i + 1) × (column_at text i ≤ i + 1)
unfolding line_at column_at
place_below text zero = (omega arith, omega arith)
place_below text (suc i) = let before = place_below text i in (grind (arith, before.0), grind (arith, before.1))

-- ---- runs of name bytes

module _ (text : List ℕ) (i : ℕ) where
  pub run_front : (k d : ℕ) → k < name_length text i → is_name_byte (get_or (drop i text) k d) ≡ true
  unfolding name_length
  run_front k d below = prefix_len_passes is_name_byte (drop i text) k d below

  pub run_passes : (k : ℕ) → i ≤ k → k < i + name_length text i → is_name_byte (get_or text k 0) ≡ true
  run_passes k from below =
      let place : i + (k - i) ≡ k = omega arith in
      rw (get_or-drop, place) at (run_front (k - i) 0 (omega arith))

  pub run_within : i ≤ length text → i + name_length text i ≤ length text
  unfolding name_length
  run_within within = omega (arith, prefix_len-le-length is_name_byte (drop i text), length-drop i text)

  pub run_stops : (k : ℕ) → k ≡ i + name_length text i → k < length text → is_name_byte (get_or text k 0) ≡ false
  unfolding name_length
  run_stops k is within = rw is (rw get_or-drop at (prefix_len_stops is_name_byte (drop i text) 0 (omega (arith, length-drop i text))))

  pub run_begins : i < length text → is_name_byte (get_or text i 0) ≡ true → 0 < name_length text i
  run_begins within named = grind (arith, run_stops i, within, named)

-- a place inside a name has no fault and begins no token
pub inside : (text : List ℕ) (i k : ℕ) → i < k → k < i + name_length text i → (fault_at text k ≡ None) × (token_at text k ≡ None)
unfolding fault_at token_at is_bad begins_name
inside text i zero after before = absurd (omega arith)
inside text i (suc k) after before =
    let here = named_byte (get_or text (suc k) 0) (run_passes text i (suc k) (omega arith) before) in
    let follows = run_passes text i k (omega arith) (omega arith) in
    (grind (arith, here.visible, follows), grind (arith, here.no_sign, follows))

-- where a scan stands inside a name, or behind it
pub scan_behind : (text : List ℕ) (i k : ℕ) → k ≤ name_length text i
    → scan_at text (i + k) ≡ record { line = line_at text i; column = column_at text i + k; in_comment = follows_comment text i; in_name = follows_name text (i + k) }
unfolding line_at column_at stays_in_comment
scan_behind text i zero most = simp add-zero
scan_behind text i (suc k) most =
    let next : i + suc k ≡ suc (i + k) = omega arith in
    let column : column_at text i + suc k ≡ column_at text i + k + 1 = omega arith in
    let named = run_passes text i (i + k) (omega arith) (omega arith) in
    let byte = named_byte (get_or text (i + k) 0) named in
    rw (next, column) (grind (arith, is_comment_step text (i + k), scan_behind text i k (omega arith), byte))

-- ---- a scan

-- one byte
pub passed_one : {text : List ℕ} {i : ℕ} {scan next : Scan} → scan ≡ scan_at text i → i < length text → fault_at text i ≡ None
    → next ≡ scan_after scan (get_or text i 0) → HasPassed text i 1 next
passed_one {text} {i} {scan} at within none after = record {
  some = omega arith;
  within = omega arith;
  no_fault = λ k least most. let here : k ≡ i = omega arith in rw here none;
  next_is = after ∙ after_is text i scan at;
}

-- a name
pub passed_name : {text : List ℕ} {i n : ℕ} {scan : Scan} → scan ≡ scan_at text i → i < length text → class_of (get_or text i 0) ≡ Name
    → n ≡ name_length text i → fault_at text i ≡ None
    → HasPassed text i n (record { line = scan.line; column = scan.column + n; in_comment = scan.in_comment; in_name = true })
passed_name {text} {i} {n} at within class is none =
    let some : 0 < n = omega (arith, run_begins text i within (rw class at (class_is (get_or text i 0)).name)) in
    let last : i + n ≡ suc (i + n - 1) = omega arith in
    let follows : follows_name text (i + n) ≡ true = rw last (run_passes text i (i + n - 1) (omega arith) (omega arith)) in
    record {
      some = some;
      within = omega (arith, run_within text i (omega arith));
      no_fault = λ k least most. grind (arith, none, inside text i k);
      next_is = rw (at, scan_behind text i n (omega arith), follows) refl;
    }

-- the scan stands before place i, and no place before has a fault
pub record HasScanned (text : List ℕ) (i : ℕ) (scan : Scan) : Type 0 where
  pub at : scan ≡ scan_at text i
  pub no_fault : (k : ℕ) → k < i → fault_at text k ≡ None

pub scanned_none : (text : List ℕ) → HasScanned text 0 (record { line = 1; column = 1; in_comment = false; in_name = false })
unfolding line_at column_at
scanned_none text = record { at = refl; no_fault = λ k below. absurd (omega arith) }

-- the fault of the place where the scan stands
pub scanned_fault : {text : List ℕ} {i : ℕ} {scan : Scan} {fault : TextNo} → HasScanned text i scan → i < length text → fault_at text i ≡ Some fault → first_fault text ≡ Some fault
scanned_fault {text} {i} {fault = fault} before within here = first_some (fault_at text) i (length text) fault within (first_none (fault_at text) i before.no_fault) here

-- all places have passed
pub scanned_all : {text : List ℕ} {i : ℕ} {scan : Scan} → HasScanned text i scan → length text ≤ i → first_fault text ≡ None
scanned_all {text} before past = first_none (fault_at text) (length text) (λ k below. before.no_fault k (omega arith))
