use Rattle.std.proofs.Common.{get_or, inl, inr, ap, ◌∙◌, ◌≡◌, ◌≤◌, Some, slice_get, slice_index_or, subst, sym, refl, arith}
use Rattle.std.proofs.lemmas.{Bool.cases_lt, Bool.false≢true, Option.slice_get-get_or, Option.slice_get_within, Option.get_or_from_slice_get}
use Rattle.list_laws.proofs.Ranges.{last_or}
use Rattle.image_defs.proofs.lemmas.PlaceLemmas.{rises}
use Rattle.port_walk.proofs.CursorLemmas.{from_next}
use Rattle.port_walk.proofs.readers.first_lagging.Goals as goal

pub returns-then-lags : goal.returns-then-lags
returns-then-lags c =
    let readers = c.args.readers.now in
    let i = c.readers.reader-index in
    let here : slice_get readers i ≡ Some (get_or readers i 0) = slice_get-get_or readers i 0 c.readers-test.true in
    record {
      reads = (i, here);
      lags = c.if-lags.ensures.0 refl;
      least = λ r stands less. elim (cases_lt stands.0 i) [
        | inl before ↦ c.readers.invariant stands.0 r before stands.1
        | inr after ↦
            let high = from_next readers i (get_or readers i 0) (rises readers c.requires.rising)
            (λ s at. let e : Some (get_or readers i 0) ≡ Some s = sym here ∙ at in let same : get_or readers i 0 ≡ s = cc in omega arith) stands.0 r stands.1 after in
            absurd (omega arith)
      ];
    }

pub readers-preserved : goal.readers-preserved
readers-preserved c i r low at = elim (last_or i c.readers.reader-index low) [
  | inl before ↦ c.readers.invariant i r before at
  | inr last ↦
      let is : get_or c.args.readers.now c.readers.reader-index 0 ≡ r = ap (λ k. get_or c.args.readers.now k 0) (sym last) ∙ get_or_from_slice_get c.args.readers.now i r 0 at in
      subst (λ s. c.args.turns ≤ slice_index_or c.args.known.now s 0) is (elim (cases_lt (get_or c.args.known.now (get_or c.args.readers.now c.readers.reader-index 0) 0) c.args.turns) [ inl less ↦ absurd (false≢true (c.if-lags.ensures.1 less)) | inr more ↦ more ])
]

pub returns : goal.returns
returns c = record { each = λ r stands. c.readers.invariant stands.0 r (let within = slice_get_within c.args.readers.now stands.0 r stands.1 in omega arith) stands.1 }
