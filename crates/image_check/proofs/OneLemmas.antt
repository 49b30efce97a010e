-- An image is accepted or refused once: the answers of the check exclude one another.
use Rattle.std.proofs.Common.{◌≡◌, ◌≢◌, ◌∙◌, sym, ap, refl, ◌⊎◌, inl, inr, ℕ, ◌<◌, ◌≤◌, List, Ok, Err, arith}
use Rattle.std.proofs.lemmas.Bool.{cases_lt}
use Rattle.net_defs.specs.declared.timing.Timing.{Timing}
use Rattle.node_defs.specs.declared.items.NodeNet.{NodeNet}
use Rattle.image_defs.specs.Claimed.{lists_of, HasTiming, PlaceMatches, ColumnMatches, IsFirstPlace, IsFirstColumn}
use Rattle.image_defs.specs.{declared.image.Image.Image, Matches.Matches, declared.file.ImageFile.ImageFile}
use Rattle.image_check.specs.{declared.check.CheckNo.CheckNo, Check.HasOneAnswer, Check.Says}
use Rattle.image_check.specs.declared.check.CheckNo.TheVariants as no

-- what an accepted image has
module _ (image : Image) (claims : List (List ℕ)) (nodes : NodeNet) (timing : Timing) (matches : Matches image claims nodes timing) where
  matched_timing : HasTiming image nodes timing
  matched_timing = record {
    units = matches.units;
    init = matches.init;
    columns = matches.columns;
    printed = λ host is. (matches.printed host is).as_many;
  }

  matched_place : (p slot : ℕ) → PlaceMatches image claims nodes p slot
  matched_place p slot k x port is stands claimed = matches.items p k x port is claimed

  matched_column : (j : ℕ) → ColumnMatches image claims nodes j
  matched_column j x host source is stands item = (matches.printed host is).each j x source stands item

module _ (file : ImageFile) (nodes : NodeNet) (timing : Timing) where
  -- an image is not both accepted and refused
  never_both : (why : CheckNo) → why ≢ no.Memory → Says file nodes timing (Ok tt) → Says file nodes timing (Err why) → ⊥
  never_both no.Form known (formed, matches) refused = refused formed
  never_both no.Timing known (formed, matches) refused = refused.1 (matched_timing file.image (lists_of file.claims) nodes timing matches)
  never_both (no.Place p slot) known (formed, matches) refused = refused.2.differs (matched_place file.image (lists_of file.claims) nodes timing matches p slot)
  never_both (no.Column j) known (formed, matches) refused = refused.3.differs (matched_column file.image (lists_of file.claims) nodes timing matches j)
  never_both no.Memory known says refused = known refl

  -- one place is the first that differs, and one column
  one_place : (p slot q at : ℕ) → IsFirstPlace file.image (lists_of file.claims) nodes p slot → IsFirstPlace file.image (lists_of file.claims) nodes q at → no.Place p slot ≡ no.Place q at
  one_place p slot q at first second = by_port (cases_lt p q) (cases_lt q p)
    where
      by_slot : p ≡ q → (slot < at) ⊎ (at ≤ slot) → (at < slot) ⊎ (slot ≤ at) → no.Place p slot ≡ no.Place q at
      by_slot same (inl before) next = absurd (first.differs (second.before p slot (inr (same, before))))
      by_slot same (inr most) (inl before) = absurd (second.differs (first.before q at (inr (sym same, before))))
      by_slot same (inr most) (inr least) = let at_same : slot ≡ at = omega (arith, most, least) in ap (λ x. no.Place x slot) same ∙ ap (no.Place q) at_same

      by_port : (p < q) ⊎ (q ≤ p) → (q < p) ⊎ (p ≤ q) → no.Place p slot ≡ no.Place q at
      by_port (inl before) next = absurd (first.differs (second.before p slot (inl before)))
      by_port (inr most) (inl before) = absurd (second.differs (first.before q at (inl before)))
      by_port (inr most) (inr least) = by_slot (omega (arith, most, least)) (cases_lt slot at) (cases_lt at slot)

  one_column : (j k : ℕ) → IsFirstColumn file.image (lists_of file.claims) nodes j → IsFirstColumn file.image (lists_of file.claims) nodes k → no.Column j ≡ no.Column k
  one_column j k first second = by (cases_lt j k) (cases_lt k j)
    where
      by : (j < k) ⊎ (k ≤ j) → (k < j) ⊎ (j ≤ k) → no.Column j ≡ no.Column k
      by (inl before) next = absurd (first.differs (second.before j before))
      by (inr most) (inl before) = absurd (second.differs (first.before k before))
      by (inr most) (inr least) = let same : j ≡ k = omega (arith, most, least) in ap no.Column same

  one_refusal : (why also : CheckNo) → why ≢ no.Memory → also ≢ no.Memory → Says file nodes timing (Err why) → Says file nodes timing (Err also) → why ≡ also
  one_refusal no.Memory also known known_too says says_too = absurd (known refl)
  one_refusal why no.Memory known known_too says says_too = absurd (known_too refl)
  one_refusal no.Form no.Form known known_too says says_too = refl
  one_refusal no.Form no.Timing known known_too says says_too = absurd (says says_too.0)
  one_refusal no.Form (no.Place q at) known known_too says says_too = absurd (says says_too.0)
  one_refusal no.Form (no.Column k) known known_too says says_too = absurd (says says_too.0)
  one_refusal no.Timing no.Form known known_too says says_too = absurd (says_too says.0)
  one_refusal no.Timing no.Timing known known_too says says_too = refl
  one_refusal no.Timing (no.Place q at) known known_too says says_too = absurd (says.1 says_too.1)
  one_refusal no.Timing (no.Column k) known known_too says says_too = absurd (says.1 says_too.1)
  one_refusal (no.Place p slot) no.Form known known_too says says_too = absurd (says_too says.0)
  one_refusal (no.Place p slot) no.Timing known known_too says says_too = absurd (says_too.1 says.1)
  one_refusal (no.Place p slot) (no.Place q at) known known_too says says_too = one_place p slot q at says.2 says_too.2
  one_refusal (no.Place p slot) (no.Column k) known known_too says says_too = absurd (says.2.differs (says_too.2 p slot))
  one_refusal (no.Column j) no.Form known known_too says says_too = absurd (says_too says.0)
  one_refusal (no.Column j) no.Timing known known_too says says_too = absurd (says_too.1 says.1)
  one_refusal (no.Column j) (no.Place q at) known known_too says says_too = absurd (says_too.2.differs (says.2 q at))
  one_refusal (no.Column j) (no.Column k) known known_too says says_too = one_column j k says.3 says_too.3

  pub one_answer : HasOneAnswer file nodes timing
  one_answer (Ok passed) (Ok again) known known_too says says_too = refl
  one_answer (Ok passed) (Err why) known known_too says refused = absurd (never_both why (λ is. known_too (ap Err is)) says refused)
  one_answer (Err why) (Ok passed) known known_too refused says = absurd (never_both why (λ is. known (ap Err is)) says refused)
  one_answer (Err why) (Err also) known known_too says says_too = ap Err (one_refusal why also (λ is. known (ap Err is)) (λ is. known_too (ap Err is)) says says_too)
