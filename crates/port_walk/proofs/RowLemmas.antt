-- The readers of all sends of a port, in one list.
use Rattle.std.proofs.Common.{◌≡◌, inl, inr, ℕ, ◌+◌, ◌-◌, ◌*◌, ◌<◌, ◌≤◌, List, [], ◌∷◌, ◌++◌, length, take, drop, get_or, slice_get, Some, sym, ap, ◌∙◌, subst, arith, length-append}
use Rattle.std.proofs.lemmas.List.{length_push, length-drop, drop-append-le, take-append-le, get_or_append_left, get_or_push}
use Rattle.std.proofs.Math.Seq.{drop-append_seam, take-length}
use Rattle.list_laws.proofs.{Places.one_there, Ranges.last_or}
use Rattle.limits.specs.declared.TheConstants.{MAX_PORTS}
use Rattle.image_defs.specs.declared.image.LinkOut.{LinkOut}
use Rattle.port_walk.specs.{Rows.IsRow, Rows.AreReaders, code.Stops.HasFewReaders}

-- what stands in a list before its end stands there in a longer one
pub row_stays : (all more : List ℕ) (from to : ℕ) (row : List ℕ) → IsRow all from to row → IsRow (all ++ more) from to row
row_stays all more from to row is = record {
  order = is.order;
  within = let within = is.within in omega (arith, length-append all more);
  is = ap (take (to - from)) (drop-append-le from all more (omega (arith, is.order, is.within)))
      ∙ take-append-le (to - from) (drop from all) more (omega (arith, length-drop from all, is.within))
      ∙ is.is;
}

-- what is added stands at the end
pub row_added : (all row : List ℕ) (from to : ℕ) → from ≡ length all → to ≡ length (all ++ row) → IsRow (all ++ row) from to row
row_added all row from to begins ends =
    let long = length-append all row in
    let wide : to - from ≡ length row = omega arith in
    record {
      order = omega arith;
      within = omega arith;
      is = ap (λ n. take (to - from) (drop n (all ++ row))) begins ∙ (ap (take (to - from)) (drop-append_seam all row) ∙ (ap (λ n. take n row) wide ∙ take-length row));
    }

module _ (n : ℕ) (outs : List LinkOut) (all starts : List ℕ) (are : AreReaders n outs (record { all = all; starts = starts })) (link : LinkOut) (is : slice_get outs n ≡ Some link) (few : HasFewReaders link) (last : ℕ)
    (ends : last ≡ length (all ++ link.readers)) where
  stays : (i : ℕ) → i < n + 1 → get_or (starts ++ last ∷ []) i 0 ≡ get_or starts i 0
  stays i low = get_or_append_left starts (last ∷ []) 0 i (omega (arith, are.count))

  at_end : get_or (starts ++ last ∷ []) (n + 1) 0 ≡ last
  at_end = get_or_push starts last 0 (n + 1) are.count

  pub readers_more : AreReaders (n + 1) outs (record { all = all ++ link.readers; starts = starts ++ last ∷ [] })
  readers_more = record {
    count = length_push starts last ∙ ap (λ k. k + 1) are.count;
    end = at_end ∙ ends;
    few = let most = few in let so_far = are.few in let long = length-append all link.readers in times_more n (length all) (length link.readers) (length (all ++ link.readers)) long so_far most;
    each = λ i other low there. elim (last_or i n low) [
      | inl before ↦
          subst (λ from. IsRow (all ++ link.readers) from (get_or (starts ++ last ∷ []) (i + 1) 0) other.readers) (sym (stays i low))
          (subst (λ to. IsRow (all ++ link.readers) (get_or starts i 0) to other.readers) (sym (stays (i + 1) (omega arith)))
          (row_stays all link.readers (get_or starts i 0) (get_or starts (i + 1) 0) other.readers (are.each i other before there)))
      | inr here ↦
          let same : link ≡ other = one_there outs n i link other (sym here) is there in
          subst (λ (l : LinkOut). IsRow (all ++ link.readers) (get_or (starts ++ last ∷ []) i 0) (get_or (starts ++ last ∷ []) (i + 1) 0) l.readers) same
          (row_added all link.readers (get_or (starts ++ last ∷ []) i 0) (get_or (starts ++ last ∷ []) (i + 1) 0)
          (stays i low ∙ (ap (λ k. get_or starts k 0) here ∙ are.end))
          (ap (λ k. get_or (starts ++ last ∷ []) (k + 1) 0) here ∙ (at_end ∙ ends)))
    ];
  } where
    times_more : (k a b c : ℕ) → c ≡ a + b → a ≤ MAX_PORTS * k → b ≤ MAX_PORTS → c ≤ MAX_PORTS * (k + 1)
    times_more k a b c sum one other = omega arith

-- one send more, by what a step of the loop gives
pub readers_grown : (n : ℕ) (outs : List LinkOut) (all starts : List ℕ) → AreReaders n outs (record { all = all; starts = starts }) → (link : LinkOut) → slice_get outs n ≡ Some link → HasFewReaders link
    → (row later places : List ℕ) (last : ℕ) → row ≡ link.readers → later ≡ all ++ row → places ≡ starts ++ last ∷ [] → last ≡ length later → AreReaders (n + 1) outs (record { all = later; starts = places })
readers_grown n outs all starts are link is few row later places last row_is later_is places_is last_is =
    let all_is : later ≡ all ++ link.readers = later_is ∙ ap (λ xs. all ++ xs) row_is in
    subst (λ xs. AreReaders (n + 1) outs (record { all = xs; starts = places })) (sym all_is)
    (subst (λ xs. AreReaders (n + 1) outs (record { all = all ++ link.readers; starts = xs })) (sym places_is)
    (readers_more n outs all starts are link is few last (last_is ∙ ap length all_is)))
