-- Names that stand once.
use Rattle.std.proofs.Common.{◌≡◌, ℕ, ◌+◌, ◌<◌, Bool, true, false, not, cond, List, [], ◌∷◌, ◌++◌, length, map, take, get_or, slice_get, Some, inl, inr, sym, ap, ◌∙◌, arith, bytes_eq}
use Rattle.std.proofs.lemmas.List.{get_or-take, length-take-le, map_push, take_more}
use Rattle.std.proofs.lemmas.{Bool.cases_Bool, List.Elements.All-from_get_or, List.Folds.list_any_none}
use Rattle.std.proofs.lemmas.{Option.get_or_from_slice_get, Option.slice_get-get_or, Option.slice_get_within, Slice.Eq.bytes_eq-Decides}
use Rattle.bench_read.proofs.Common.{count_by, list_any, sum_by-cons, sum_by-append, sum_by_push, count_none, none_counted, AreOnce}
use Rattle.list_laws.proofs.Tests.{list_any-map}
use Rattle.net_defs.specs.{declared.netlist.Signal.Signal, Valid.NamesDiffer}

pub same_name : (a b : List ℕ) → bytes_eq a b ≡ true → a ≡ b
same_name a b e = grind (arith, bytes_eq-Decides)

pub same_bytes : (a : List ℕ) → bytes_eq a a ≡ true
same_bytes a = grind (arith, bytes_eq-Decides)

-- one more name, which none of them is
pub once_more : (names : List (List ℕ)) (name : List ℕ) → AreOnce names → list_any (bytes_eq name) names ≡ false → AreOnce (names ++ name ∷ [])
once_more names name once none other =
    let none_of : bytes_eq other name ≡ true → count_by (bytes_eq other) names ≡ 0 = λ same. rw (same_name other name same) (count_none (bytes_eq name) names none) in
    grind (arith, none_of, once other, sum_by_push (λ n. cond (bytes_eq other n) 1 0) names name)

-- a name that stands once stands nowhere before
pub new_from_once : (names : List (List ℕ)) (name : List ℕ) (rest : List (List ℕ)) → AreOnce (names ++ name ∷ rest) → list_any (bytes_eq name) names ≡ false
new_from_once names name rest once = none_counted (bytes_eq name) names (omega (arith, simp same_bytes at (simp (sum_by-append, sum_by-cons) at (once name))))

-- names that stand once stand once without those behind
pub once_front : (names rest : List (List ℕ)) → AreOnce (names ++ rest) → AreOnce names
once_front names rest once name = omega (arith, once name, sum_by-append (λ n. cond (bytes_eq name n) 1 0) names rest)

-- ---- the names of signals

-- a signal has another name than those before it
pub name_is_new : (signals : List Signal) (i : ℕ) (signal : Signal) → NamesDiffer signals → slice_get signals i ≡ Some signal → list_any (bytes_eq signal.name) (map (λ s. s.name) (take i signals)) ≡ false
name_is_new signals i signal differ is =
    list_any-map (bytes_eq signal.name) (λ (s : Signal). s.name) (take i signals)
    ∙ list_any_none (λ (s : Signal). bytes_eq signal.name s.name) (take i signals) (All-from_get_or (λ (s : Signal). bytes_eq signal.name s.name ≡ false) (take i signals) signal (λ k inside. other k (omega (arith, inside, length-take-le i signals (omega (arith, within))))))
  where
    within : i < length signals
    within = slice_get_within signals i signal is

    other : (k : ℕ) → k < i → bytes_eq signal.name (get_or (take i signals) k signal).name ≡ false
    other k before = elim (cases_Bool (bytes_eq signal.name (get_or (take i signals) k signal).name)) [
      | inl same ↦
          let here = ap (λ (s : Signal). s.name) (get_or-take i signals k signal before) in
          let one : k ≡ i = differ k i (get_or signals k signal) signal (slice_get-get_or signals k signal (omega (arith, within))) is (sym (same_name signal.name _ same ∙ here)) in
          absurd (omega (arith, one))
      | inr differs ↦ differs
    ]

-- so it is added to them
pub name_is_added : (signals : List Signal) (i : ℕ) (signal : Signal) (old new : List (List ℕ)) (is_new : Bool) → NamesDiffer signals → slice_get signals i ≡ Some signal → old ≡ map (λ s. s.name) (take i signals) → is_new ≡ not (list_any (bytes_eq signal.name) old) → new ≡ cond is_new (old ++ signal.name ∷ []) old → new ≡ map (λ s. s.name) (take (i + 1) signals)
name_is_added signals i signal old new is_new differ is so_far fresh added =
    added
    ∙ ap (λ b. cond b (old ++ signal.name ∷ []) old) (fresh ∙ ap (λ names. not (list_any (bytes_eq signal.name) names)) so_far ∙ ap not (name_is_new signals i signal differ is))
    ∙ ap (λ (names : List (List ℕ)). names ++ signal.name ∷ []) so_far
    ∙ sym (ap (map (λ s. s.name)) (take_more signals i signal (slice_get_within signals i signal is)) ∙ map_push (λ (s : Signal). s.name) (take i signals) (get_or signals i signal) ∙ ap (λ (s : Signal). map (λ t. t.name) (take i signals) ++ s.name ∷ []) (get_or_from_slice_get signals i signal signal is))
