-- An image is accepted or refused once.
use Rattle.std.proofs.Common.{◌≡◌, ◌≢◌, ◌∙◌, sym, ap, refl, subst, ◌⊎◌, inl, inr, ℕ, List, Some, None, Ok, Err}
use Rattle.net_defs.specs.declared.{netlist.Netlist.Netlist, timing.Timing.Timing}
use Rattle.node_defs.specs.{declared.items.NodeNet.NodeNet, Order.IsMapped}
use Rattle.image_defs.specs.declared.{image.Image.Image, file.ImageFile.ImageFile}
use Rattle.image_check.specs.{declared.check.CheckNo.CheckNo, Check.HasAnswer, Check.HasOneAnswer, Check.Says}
use Rattle.image_check.specs.declared.check.CheckNo.TheVariants as no
use Rattle.image_file.specs.{Files.image_text, Ranges.IsInRanges, Ranges.Reads, Reading.first_fault, declared.refusal.ImageNo.ImageNo}
use Rattle.text_lines.specs.Answers.{IsReader}
use Rattle.refusals.specs.declared.status.Status.TheVariants as status
use Rattle.refusals.specs.Lines.{match_line}
use Rattle.call_steps.specs.{Outcome.Outcome, Outcome.refusal, Images.IsAccepted, Images.IsImageFileOf, Steps.◌>>◌, Steps.Checks, Steps.Gives}
use Rattle.yse_commands.proofs.lemmas.ReachLemmas.{all_told}
use Rattle.yse_top.specs.Sequel.{IsTaken}
use Rattle.yse_top.proofs.{AgainLemmas.again_checks, AgainLemmas.again_file, AgainLemmas.again_gives, AgainLemmas.again_then, AgainLemmas.held_passes, OneLemmas.alike, ProperLemmas.IsCheck, ProperLemmas.IsOfText}

-- ---- one answer of the check

-- an image is not both accepted and refused, and it is refused for one cause
module _ (file : ImageFile) (timing : Timing) (nodes : NodeNet) (once : HasOneAnswer file nodes timing) where
  never_both : (why : CheckNo) → why ≢ no.Memory → Says file nodes timing (Ok tt) → Says file nodes timing (Err why) → ⊥
  never_both why known says refused =
      let same : Ok tt ≡ Err why = once (Ok tt) (Err why) (λ is. cc) (λ is. let e : why ≡ no.Memory = cc in known e) says refused in
      cc

  one_refusal : (why also : CheckNo) → why ≢ no.Memory → also ≢ no.Memory → Says file nodes timing (Err why) → Says file nodes timing (Err also) → why ≡ also
  one_refusal why also known known_too says says_too =
      let same : Err why ≡ Err also =
      once (Err why) (Err also) (λ is. let e : why ≡ no.Memory = cc in known e) (λ is. let e : also ≡ no.Memory = cc in known_too e) says says_too in
      cc

-- items of the netlist, and what the check says of the image by them
pub record IsAnsweredBy (net : Netlist) (timing : Timing) (file : ImageFile) : Type 0 where
  pub nodes : NodeNet
  pub items : IsMapped net timing nodes
  pub answer : HasAnswer file nodes timing

-- the check of an image answers, and once
pub accepted_check : (net : Netlist) (timing : Timing) (file : ImageFile) → ((one other : NodeNet) → IsMapped net timing one → IsMapped net timing other → one ≡ other)
    → ((nodes : NodeNet) → HasOneAnswer file nodes timing) → IsAnsweredBy net timing file → IsCheck (IsAccepted net timing file)
accepted_check net timing file same once by = record {
  values = λ x y passed passed_too. refl;
  either = λ x o passed refused.
      never_both file timing refused.0 (once refused.0) refused.2 refused.3 (subst (λ n. Says file n timing (Ok tt)) (same passed.0 refused.0 passed.1 refused.1) passed.2) refused.4;
  refusals = λ o p refused refused_too.
      alike o p (refused.5
      ∙ ap (λ why. refusal status.ImageMatch (match_line why))
      (one_refusal file timing refused_too.0 (once refused_too.0) refused.2 refused_too.2 refused.3 refused_too.3
      (subst (λ n. Says file n timing (Err refused.2)) (same refused.0 refused_too.0 refused.1 refused_too.1) refused.4) refused_too.4)
      ∙ sym refused_too.5);
  some = elim by.answer [
    | inl says ↦ inl (tt, (by.nodes, by.items, says))
    | inr refused ↦ inr (refusal status.ImageMatch (match_line refused.0), (by.nodes, by.items, refused.0, refused.1, refused.2, refl))
  ];
  of_text = λ o refused. subst (λ (p : Outcome). IsOfText p.status) (sym refused.5) tt;
}

-- ---- an image that is known to match

-- it is taken, where its text is what is read
module _ (net : Netlist) (timing : Timing) (nodes : NodeNet) (file : ImageFile) (reader : IsReader Reads first_fault) (same : (one other : NodeNet) → IsMapped net timing one → IsMapped net timing other → one ≡ other)
    (once : HasOneAnswer file nodes timing) (items : IsMapped net timing nodes) (ranges : IsInRanges file) (says : Says file nodes timing (Ok tt)) where
  reads : Reads (image_text file) file
  reads = record { is = refl; ranges = ranges }

  never_refused : (o : Outcome) → IsAccepted net timing file (Err o) → ⊥
  never_refused o refused =
      never_both file timing nodes once refused.2 refused.3 says (subst (λ n. Says file n timing (Err refused.2)) (same refused.0 nodes refused.1 items) refused.4)

  never_faulty : (o : Outcome) → IsImageFileOf (image_text file) (Err o) → ⊥
  never_faulty o refused = clash (reader.no_fault (image_text file) file reads) refused.1
    where
      clash : {why : ImageNo} → first_fault (image_text file) ≡ None → first_fault (image_text file) ≡ Some why → ⊥
      clash e f = cc

  pub image_taken : IsTaken net timing file
  image_taken held name readings result is short are step =
      (again_then held {Next = λ found. Checks (IsAccepted net timing found) >> Gives found.image} (again_file held name IsImageFileOf (image_text file) file (held_passes name (held name) (image_text file) is short) (λ other is_too. reader.one (image_text file) other file is_too reads) never_faulty)
      (again_then held {Next = λ passed. Gives file.image} (again_checks held (IsAccepted net timing file) tt (λ passed accepted. refl) never_refused)
      (again_gives held file.image))).again readings result (all_told (Some held) readings are) step
