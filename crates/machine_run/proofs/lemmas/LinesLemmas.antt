-- Lines that follow one another.
use Rattle.std.proofs.Common.{List, Option, Ok, Err, Result, [], ◌∷◌, ◌++◌, ap, ap₂, arith, length, sym, subst, ℕ, zero, suc, ◌+◌, ◌-◌, ◌<◌, ◌∙◌, ◌≡◌, ◌≤◌}
use Rattle.std.proofs.lemmas.List.{append-nil, ext_get_or, Concat.flat_map-append, FromFn.get_or-map-range_with_len, FromFn.length-map-range_with_len}
use Rattle.std.specs.List.{flat_map, range_with_len}
use Rattle.edge_io.proofs.lemmas.WritingLemmas.{writes_cut, writes_none, writes_on}
use Rattle.edge_io.specs.{Writing.Takes, declared.writing.WriteNo.WriteNo}
use Rattle.image_defs.specs.{Frames.shown, declared.image.Image.Image}
use Rattle.logic_four.specs.{Values.value_at, declared.V4.V4, declared.V4.TheVariants.Undef}
use Rattle.net_defs.specs.{Trace.cycle_line, declared.stimulus.Stimulus.Stimulus}
use Rattle.port_host.specs.Rows.{printed_sources}
use Rattle.machine_run.specs.Lines.{cells_shown, lines_between}

-- a range is a first part and the rest
range_joined : (a m n k b : ℕ) → k ≡ m + n → b ≡ a + m → range_with_len a k ≡ range_with_len a m ++ range_with_len b n
range_joined a zero n k b whole next = ap₂ range_with_len (omega (arith, next)) (omega (arith, whole))
range_joined a (suc m) n zero b whole next = absurd (omega (arith, whole))
range_joined a (suc m) n (suc k) b whole next = ap (λ xs. a ∷ xs) (range_joined (a + 1) m n k b (omega (arith, whole)) (omega (arith, next)))

module _ (cells : ℕ → List V4) where
  -- the lines up to b, and those from there on
  pub lines_joined : (a b c : ℕ) → a ≤ b → b ≤ c → lines_between cells a c ≡ lines_between cells a b ++ lines_between cells b c
  lines_joined a b c ab bc =
      ap (flat_map (λ k. cycle_line (k + 1) (cells (k + 1)))) (range_joined a (b - a) (c - b) (c - a) b (omega (arith, ab, bc)) (omega (arith, ab)))
      ∙ flat_map-append (λ k. cycle_line (k + 1) (cells (k + 1))) (range_with_len a (b - a)) (range_with_len b (c - b))

  pub lines_none : (a : ℕ) → lines_between cells a a ≡ []
  lines_none a =
      let none : a - a ≡ 0 = omega arith in
      ap (λ n. flat_map (λ k. cycle_line (k + 1) (cells (k + 1))) (range_with_len a n)) none

  pub lines_one : (a : ℕ) → lines_between cells a (a + 1) ≡ cycle_line (a + 1) (cells (a + 1))
  lines_one a =
      let one : a + 1 - a ≡ 1 = omega arith in
      ap (λ n. flat_map (λ k. cycle_line (k + 1) (cells (k + 1))) (range_with_len a n)) one ∙ append-nil (cycle_line (a + 1) (cells (a + 1)))

  -- no line was written yet
  pub lines_begin : (told : Option (List ℕ)) (f n : ℕ) → n ≡ 0 → Takes told told f f (Ok tt) (lines_between cells 0 n)
  lines_begin told f n is = subst (Takes told told f f (Ok tt)) (sym (ap (lines_between cells 0) is ∙ lines_none 0)) (writes_none told f)

  module _ (old mid new : Option (List ℕ)) (f g h : ℕ) (from a b : ℕ) (first : Takes old mid f g (Ok tt) (lines_between cells from a)) (fa : from ≤ a) (ab : a ≤ b) (r : Result (Unit {0}) WriteNo) (then : Takes mid new g h r (lines_between cells a b)) where
    -- what is written of lines after those before them
    lines_on : Takes old new f h r (lines_between cells from b)
    lines_on = subst (Takes old new f h r) (sym (lines_joined from a b fa ab)) (writes_on old mid new f g h r (lines_between cells from a) (lines_between cells a b) first then)

    -- they were taken
    pub lines_written : r ≡ Ok tt → Takes old new f h (Ok tt) (lines_between cells from b)
    lines_written is = subst (λ q. Takes old new f h q (lines_between cells from b)) is lines_on

    -- a fault in them ends all lines
    pub lines_cut : (e : WriteNo) (c : ℕ) → b ≤ c → r ≡ Err e → Takes old new f h (Err e) (lines_between cells from c)
    lines_cut e c bc is =
        subst (Takes old new f h (Err e)) (sym (lines_joined from b c (omega (arith, fa, ab)) bc)) (writes_cut old new f h e (lines_between cells from b) (lines_between cells b c) (subst (λ q. Takes old new f h q (lines_between cells from b)) is lines_on))

-- a row with what the image shows
pub row_shown : (image : Image) (stimulus : Stimulus) (cycle : ℕ) (row : List V4) → length row ≡ length (printed_sources image) → ((j : ℕ) → j < length row → value_at row j ≡ shown image stimulus cycle j) → row ≡ cells_shown image stimulus cycle
row_shown image stimulus cycle row long cells =
    ext_get_or Undef row (cells_shown image stimulus cycle) (long ∙ sym (length-map-range_with_len (shown image stimulus cycle) 0 (length (printed_sources image))))
    (λ i low. cells i low ∙ sym (get_or-map-range_with_len (shown image stimulus cycle) 0 (length (printed_sources image)) i i Undef (omega (arith, low, long)) (omega arith)))
