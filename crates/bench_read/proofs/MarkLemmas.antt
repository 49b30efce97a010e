-- Marks of the gates that lines name, and the numbers of those that are marked.
use Rattle.std.proofs.Common.{◌≡◌, ℕ, zero, suc, ◌+◌, ◌<◌, Bool, true, false, cond, List, [], ◌∷◌, ◌++◌, length, get_or, sym, ap, ◌∙◌, subst, refl, arith, append-nil}
use Rattle.std.proofs.lemmas.List.{Elements.filter-append, FromFn.get_or-range_with_len, FromFn.length-range_with_len, Kept.AllPairs-filter}
use Rattle.std.specs.{Prelude.AllPairs, Prelude.filter, List.range_with_len}
use Rattle.list_laws.proofs.Ranges.{range_more}
use Rattle.text_lines.specs.Lines.{parts_of}
use Rattle.net_defs.specs.{declared.netlist.Netlist.Netlist, Steps.is_listed, Valid.Ascends}
use Rattle.bench_read.specs.{GateLists.gates_of, GateLists.ascending, GateLists.Reads, code.GateLists.AreMarks, code.GateLists.marked}

-- ---- the numbers of those that are marked

filter_range : (p q : ℕ → Bool) (a n : ℕ) → ((s : ℕ) → s < a + n → p s ≡ q s) → filter p (range_with_len a n) ≡ filter q (range_with_len a n)
filter_range p q a zero same = refl
filter_range p q a (suc n) same =
    rw (same a (omega arith)) (ap (λ kept. cond (q a) (a ∷ kept) kept) (filter_range p q (a + 1) n (λ s within. same s (omega arith))))

pub marked_are : (net : Netlist) (named : List ℕ) (marks : List Bool) → AreMarks net named marks → marked marks ≡ ascending net named
marked_are net named marks are =
    filter_range (λ s. get_or marks s false) (is_listed named) 0 (length marks) (λ s within. are.here s (omega arith))
    ∙ ap (λ n. filter (is_listed named) (range_with_len 0 n)) are.count

-- one place more
marked_place : (p : ℕ → Bool) (n : ℕ) → filter p (range_with_len 0 (n + 1)) ≡ filter p (range_with_len 0 n) ++ filter p (n ∷ [])
marked_place p n =
    let next : 0 + n ≡ n = omega arith in
    ap (filter p) (range_more 0 n) ∙ filter-append p (range_with_len 0 n) ((0 + n) ∷ []) ∙ ap (λ m. filter p (range_with_len 0 n) ++ filter p (m ∷ [])) next

pub marked_set : (marks : List Bool) (n : ℕ) → get_or marks n false ≡ true → filter (λ s. get_or marks s false) (range_with_len 0 (n + 1)) ≡ filter (λ s. get_or marks s false) (range_with_len 0 n) ++ n ∷ []
marked_set marks n set_there =
    marked_place (λ s. get_or marks s false) n ∙ ap (λ b. filter (λ s. get_or marks s false) (range_with_len 0 n) ++ cond b (n ∷ []) []) set_there

pub marked_unset : (marks : List Bool) (n : ℕ) → get_or marks n false ≡ false → filter (λ s. get_or marks s false) (range_with_len 0 (n + 1)) ≡ filter (λ s. get_or marks s false) (range_with_len 0 n)
marked_unset marks n unset =
    marked_place (λ s. get_or marks s false) n
    ∙ ap (λ b. filter (λ s. get_or marks s false) (range_with_len 0 n) ++ cond b (n ∷ []) []) unset
    ∙ append-nil _

range_rises : (n : ℕ) → AllPairs (λ s t. s < t) (range_with_len 0 n)
range_rises n i j d before within =
    let inside : j < n = omega (arith, length-range_with_len 0 n) in
    omega (arith, get_or-range_with_len 0 n i d (omega arith), get_or-range_with_len 0 n j d inside)

-- places in order ascend
pub places_ascend : (p : ℕ → Bool) (n : ℕ) → Ascends (filter p (range_with_len 0 n))
places_ascend p n i j before within = AllPairs-filter (λ s t. s < t) p (range_with_len 0 n) (range_rises n) i j 0 before within

-- so what a text reads as ascends
pub ascends_from_reads : (net : Netlist) (text listed : List ℕ) → Reads net text listed → Ascends listed
ascends_from_reads net text listed reads = subst Ascends (sym reads.are) (places_ascend (is_listed (gates_of net (parts_of text))) (length net.signals))
