-- Names that lines drive, and those that one drives again.
use Rattle.std.proofs.Common.{◌≡◌, ℕ, not, Some, refl, false, List, [], ◌∷◌, ◌++◌, append_assoc, append-nil, map, None, sym, ap, ◌∙◌, bytes_eq}
use Rattle.std.proofs.lemmas.List.Folds.{find_at}
use Rattle.bench_read.proofs.Common.{◌↔◌, list_any, find, option_map, option_or, map_push, slice_get-map, map-map, list_any-map, prefix_len-map, find_none, any_not_none, mapped_none, first-zero, or_none, BenchNo, DrivenName, Named, named_by, names_by, AreOnce}
use Rattle.bench_read.proofs.FirstLemmas.{by_push, first_push, first_stays}
use Rattle.bench_read.proofs.NameLemmas.{once_more, new_from_once, once_front}
use Rattle.bench_read.specs.Faults.{is_same, repeat_fault, option_repeat_fault, twice_fault}
use Rattle.bench_read.specs.declared.refusal.BenchNo.TheVariants.{DrivenTwice}

abbrev pub names_in : List Named → List (List ℕ)
names_in = map (λ named. named.name)

-- a name has no fault where none of the drivers has it
pub repeat_none : (drivers : List Named) (named : Named) → repeat_fault drivers named ≡ None ↔ (list_any (bytes_eq named.name) (names_in drivers) ≡ false)
unfolding repeat_fault
repeat_none drivers named =
    rw (list_any-map (bytes_eq named.name) (λ driver. driver.name) drivers) (
      λ none. any_not_none (is_same named) drivers (mapped_none _ (find (is_same named) drivers) none),
      λ new. ap (option_map _) (find_none (is_same named) drivers new),
    )

-- a name that a driver has
pub repeat_some : (drivers : List DrivenName) (named : Named) (driver : DrivenName) → find (λ d. bytes_eq named.name d.name.now) drivers ≡ Some driver → repeat_fault (map named_by drivers) named ≡ Some (DrivenTwice named.name driver.at named.at)
unfolding repeat_fault
repeat_some drivers named driver found =
    let at = sym (find_at (λ d. bytes_eq named.name d.name.now) drivers) ∙ found in
    rw (find_at (is_same named) (map named_by drivers), prefix_len-map (λ d. not (is_same named d)) named_by drivers, slice_get-map named_by drivers _, at) refl

pub names_same : (drivers : List DrivenName) → names_in (map named_by drivers) ≡ names_by drivers
names_same = map-map (λ (named : Named). named.name) named_by

-- one more of the names of a line
pub twice_push : (drivers names : List Named) (named : Named) → twice_fault drivers (names ++ named ∷ []) ≡ option_or (twice_fault drivers names) (repeat_fault (drivers ++ names) named)
unfolding twice_fault
twice_push drivers names named = first_push (λ front. option_repeat_fault (drivers ++ front)) names named

pub twice_nil : (drivers : List Named) → twice_fault drivers [] ≡ None
unfolding twice_fault
twice_nil drivers = first-zero _

-- names have no fault after drivers where all of them differ
pub twice_none : (drivers names : List Named) → AreOnce (names_in drivers) → twice_fault drivers names ≡ None ↔ AreOnce (names_in (drivers ++ names))
twice_none drivers names once = by_push (λ ns. twice_fault drivers ns ≡ None ↔ AreOnce (names_in (drivers ++ ns))) more [] names (λ _. rw (append-nil drivers) once, λ _. twice_nil drivers) where
  more : (ns : List Named) (n : Named) → twice_fault drivers ns ≡ None ↔ AreOnce (names_in (drivers ++ ns)) → twice_fault drivers (ns ++ n ∷ []) ≡ None ↔ AreOnce (names_in (drivers ++ (ns ++ n ∷ [])))
  more ns n before =
      let front = names_in (drivers ++ ns) in
      rw (twice_push drivers ns n, sym (append_assoc drivers ns (n ∷ [])), map_push (λ named. named.name) (drivers ++ ns) n) (
        λ no_fault. let both = or_none _ _ no_fault in once_more front n.name (before.0 both.0) ((repeat_none (drivers ++ ns) n).0 both.1),
        λ all. rw (before.1 (once_front front (n.name ∷ []) all)) ((repeat_none (drivers ++ ns) n).1 (new_from_once front n.name [] all)),
      )

-- ---- the names of a line, one after another

-- some of them were added to the drivers, and none of them is a fault
pub record HasDriven (before line : List Named) (names : List (List ℕ)) (drivers : List DrivenName) : Type 0 where
  pub same : names ≡ names_by drivers
  pub so_far : map named_by drivers ≡ before ++ line
  pub no_fault : twice_fault before line ≡ None

-- with one more
module _ {before line : List Named} {names : List (List ℕ)} {drivers : List DrivenName} (so : HasDriven before line names drivers) (here : Named) where
  fault_here : twice_fault before (line ++ here ∷ []) ≡ repeat_fault (map named_by drivers) here
  fault_here = rw (twice_push before line here, so.no_fault, so.so_far) refl

  pub drive_more : {new_names : List (List ℕ)} {new_drivers : List DrivenName} → repeat_fault (map named_by drivers) here ≡ None
      → new_names ≡ names_by new_drivers → map named_by new_drivers ≡ map named_by drivers ++ here ∷ [] → HasDriven before (line ++ here ∷ []) new_names new_drivers
  drive_more none same pushed = record { same = same; so_far = rw (pushed, so.so_far) (append_assoc before line (here ∷ [])); no_fault = fault_here ∙ none }

  pub drive_fault : (e : BenchNo) (later : List Named) → repeat_fault (map named_by drivers) here ≡ Some e → twice_fault before ((line ++ here ∷ []) ++ later) ≡ Some e
  unfolding twice_fault
  drive_fault e later fault = first_stays (λ front. option_repeat_fault (before ++ front)) e (line ++ here ∷ []) later (fault_here ∙ fault)
