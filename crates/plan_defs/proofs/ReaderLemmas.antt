-- Readers that are listed one item after another.
use Rattle.std.proofs.Common.{◌≡◌, ◌≢◌, ◌∙◌, inl, inr, ℕ, List, [], ◌∷◌, ◌++◌, length, get_or, sym, ap, subst, arith, Some, slice_get}
use Rattle.std.proofs.lemmas.{Option.slice_get_within, Option.get_or_from_slice_get, Option.slice_get-get_or}
use Rattle.std.proofs.{lemmas.List.get_or_append_left, lemmas.List.length-append, Math.Seq.get_or-append_seam}
use Rattle.list_laws.proofs.Ranges.{last_or}
use Rattle.plan_defs.specs.{declared.bit_rows.BitRows.BitRows, Bits.HasBit, declared.plan.Homes.Homes, Homes.home_of, Lists.Lists, Readers.IsReaderList}
use Rattle.plan_defs.specs.code.UserRows.{AreUsers}
use Rattle.node_defs.specs.declared.items.NodeNet.{NodeNet}

-- the ports of an item's row but for its home are its readers
readers_are : (nodes : NodeNet) (homes : Homes) (users : BitRows) (i home : ℕ) (list : List ℕ) → AreUsers nodes homes users → home ≡ home_of homes i → Lists (λ port. HasBit users i port × (port ≢ home)) list → IsReaderList nodes homes i list
readers_are nodes homes users i home list are is lists = record {
  rising = lists.rising;
  exact = λ port. (
    λ among. (let known = (lists.exact port).0 among in record { user = (are.exact i port).0 known.0; away = λ same. known.1 (same ∙ sym is) }),
    λ reads. (lists.exact port).1 ((are.exact i port).1 reads.user, λ same. reads.away (same ∙ is)),
  );
}

-- one list more
pub readers_more : (nodes : NodeNet) (homes : Homes) (users : BitRows) (lists : List (List ℕ)) (i home : ℕ) (list : List ℕ) → AreUsers nodes homes users → home ≡ home_of homes i → length lists ≡ i
    → ((k : ℕ) (ports : List ℕ) → slice_get lists k ≡ Some ports → IsReaderList nodes homes k ports) → Lists (λ port. HasBit users i port × (port ≢ home)) list
    → (k : ℕ) (ports : List ℕ) → slice_get (lists ++ list ∷ []) k ≡ Some ports → IsReaderList nodes homes k ports
readers_more nodes homes users lists i home list are is count each last k ports at =
    let long = length-append lists (list ∷ []) in
    let low = slice_get_within (lists ++ list ∷ []) k ports at in
    let read : get_or (lists ++ list ∷ []) k [] ≡ ports = get_or_from_slice_get (lists ++ list ∷ []) k ports [] at in
    elim (last_or k (length lists) (omega (arith, long, low))) [
      | inl below ↦ each k ports (slice_get-get_or lists k [] below ∙ ap Some (sym (get_or_append_left lists (list ∷ []) [] k below) ∙ read))
      | inr same ↦
          let here : list ≡ ports = sym (ap (λ n. get_or (lists ++ list ∷ []) n []) same ∙ get_or-append_seam lists list [] []) ∙ read in
          subst (λ n. IsReaderList nodes homes n ports) (sym (same ∙ count)) (subst (λ l. IsReaderList nodes homes i l) here (readers_are nodes homes users i home list are is last))
    ]
