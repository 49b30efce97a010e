-- The loop, the image, and whether the netlist accepts it.
use Rattle.std.proofs.Common.{◌≡◌, ◌∙◌, sym, ap, subst, List, ℕ, Result, Ok, Err}
use Rattle.std.specs.Prelude.{IfOk, IfErr, OnOk}
use Rattle.edge_io.specs.declared.files.Files as files
use Rattle.image_defs.specs.declared.{file.ImageFile.ImageFile, image.Image.Image}
use Rattle.net_defs.specs.declared.{netlist.Netlist.Netlist, timing.Timing.Timing}
use Rattle.refusals.specs.declared.refusal.Refusal.{Refusal}
use Rattle.call_steps.specs.{declared.checks.Built.Built, Checks.HasNoLoop, Checks.Refuses, FileSteps.ImageFileIn, FileSteps.ImageIn, Images.IsAccepted, Outcome.Outcome, Refused.answer, Refused.refused_of}
use Rattle.call_steps.specs.Steps.{◌>>=◌, ◌>>◌, Checks, FilesPass, Gives, Step}
use Rattle.call_steps.proofs.lemmas.StepLemmas.{gives, handed_on, passed_on, passes, refuses, stopped}
use Rattle.call_steps.proofs.designs.built_in.Goals as goal

abbrev with_image : Netlist → Image → Built
with_image net image = record { net = net; image = image }

abbrev has_built : Built → Result Built Outcome
has_built built = Ok built

-- the check of the image
abbrev matched_in : Netlist → Timing → ImageFile → Step Image
matched_in net timing file = Checks (IsAccepted net timing file) >> Gives file.image

-- the netlist accepts the image or doesn't
matched : {F : Type 0} {tells : files.Ghosts F} {old new : F} (name : List ℕ) (net : Netlist) (timing : Timing) (file : ImageFile) (result : Result Built Refusal) → FilesPass tells old new (ImageFileIn name) (Ok file)
    → IfOk result (λ built. (built.net ≡ net) × (built.image ≡ file.image)) → OnOk result (IsAccepted net timing file (Ok tt)) → IfErr result (λ no. Refuses (IsAccepted net timing file) (refused_of no))
    → FilesPass tells old new (ImageIn name net timing >>= λ image. Gives (with_image net image)) (answer result)
matched {tells = tells} {old = old} {new = new} name net timing file (Ok built) image same accepted refused =
    let is : with_image net file.image ≡ built = ap (λ n. with_image n file.image) (sym same.0) ∙ ap (with_image built.net) (sym same.1) in
    let read : FilesPass tells old new (ImageIn name net timing) (Ok file.image) = passed_on {Next = matched_in net timing} image (passed_on {Next = λ passed. Gives file.image} (passes (IsAccepted net timing file) {x = tt} accepted) gives) in
    subst (λ b. FilesPass tells old new (ImageIn name net timing >>= λ i. Gives (with_image net i)) (has_built b)) is (passed_on read gives)
matched {tells = tells} {old = old} {new = new} name net timing file (Err why) image same accepted refused =
    let read : FilesPass tells old new (ImageIn name net timing) (Err (refused_of why)) = passed_on {Next = matched_in net timing} image (stopped {Next = λ passed. Gives file.image} (refuses (IsAccepted net timing file) refused)) in
    stopped read

pub returns-in_err-mapped-clause-step : goal.returns-in_err-mapped-clause-step
returns-in_err-mapped-clause-step g c = handed_on _ _ c.from_residual.ensures (stopped (refuses (HasNoLoop c.args.net c.args.timing.now) c.in_err-mapped.ensures.looped))

pub returns-in_err-image-clause-step : goal.returns-in_err-image-clause-step
returns-in_err-image-clause-step g c =
    handed_on _ _ c.from_residual-in_err-image.ensures (passed_on (passes (HasNoLoop c.args.net c.args.timing.now) {x = tt} c.in_ok-mapped.ensures.acyclic) (stopped (stopped {Next = matched_in c.args.net c.args.timing.now} c.in_err-image.ensures.step)))

pub returns-clause-step : goal.returns-clause-step
returns-clause-step g c =
    let net = c.args.net in
    let timing = c.args.timing.now in
    let same = c.in_ok-mapped.ensures.same in
    passed_on (passes (HasNoLoop net timing) {x = tt} c.in_ok-mapped.ensures.acyclic)
    (matched c.args.file.now net timing c.in_ok-image.image _ c.in_ok-image.ensures.step (rw same at c.accepted.ensures.same) (rw same at c.accepted.ensures.matches) (rw same at c.accepted.ensures.refused))
