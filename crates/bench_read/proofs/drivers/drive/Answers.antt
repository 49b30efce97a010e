use Rattle.std.proofs.Common.{◌≡◌, ◌+◌, ◌<◌, ◌++◌, append-nil, [], ◌∷◌, List, ℕ, Bor, map, take, drop, length, get_or, sym, ap, ◌∙◌, refl, inl, inr, ⊎_elim, subst, arith}
use Rattle.std.proofs.lemmas.List.{take_all, take_more, map_push, map-append, take-append-drop}
use Rattle.bench_read.proofs.Common.{err_from_is_err_and, twice_fault, Named, each_named, named_by}
use Rattle.bench_read.proofs.TwiceLemmas.{HasDriven, twice_nil, drive_more, drive_fault}
use Rattle.bench_read.proofs.drivers.drive.Goals as goal

-- the names of a line, up to a place and after it
module _ (at : ℕ) (names : List (Bor (List ℕ))) (i : ℕ) (d : Bor (List ℕ)) (within : i < length names) where
  abbrev line : List (Bor (List ℕ)) → List Named
  line some = each_named at (map (λ name. name.now) some)

  abbrev front : List Named
  front = line (take i names) ++ record { at = at; name = (get_or names i d).now } ∷ []

  grown : line (take (i + 1) names) ≡ front
  grown = rw (take_more names i d within) (simp map_push refl)

  whole : line names ≡ front ++ line (drop (i + 1) names)
  whole = ap line (sym (take-append-drop (i + 1) names)) ∙ simp map-append (ap (λ ns. ns ++ line (drop (i + 1) names)) grown)

pub loop-name-init : goal.loop-name-init
loop-name-init c = record { same = c.requires; so_far = sym (append-nil _); no_fault = twice_nil _ }

pub loop-name-preserved : goal.loop-name-preserved
loop-name-preserved c =
    let is = c.in_ok-drive_one.ensures.answers in
    subst (λ line. HasDriven (map named_by c.args.drivers.now) line c.drive_one.new.names c.drive_one.new.drivers) (sym (grown c.args.at c.args.driven.now c.loop-name.name-index _ (omega arith)))
    (drive_more c.loop-name.invariant _ is.0 is.1.0 is.1.1)

pub returns-in_err-drive_one : goal.returns-in_err-drive_one
returns-in_err-drive_one c =
    let p = err_from_is_err_and c.from_residual.result c.from_residual.ensures.1 in
    record {
      answers = rw (p.1, p.2) (⊎_elim inl
          (λ fault. inr (ap (twice_fault _) (whole c.args.at c.args.driven.now c.loop-name.name-index _ (omega arith)) ∙ drive_fault c.loop-name.invariant _ c.in_err-drive_one.field-0.0 _ fault))
          c.in_err-drive_one.ensures.answers);
    }

pub returns : goal.returns
returns c =
    let so = c.loop-name.invariant in
    let all = take_all c.loop-name.name-index c.args.driven.now (omega arith) in
    record { answers = (rw all at so.no_fault, (so.same, rw all at so.so_far)) }
