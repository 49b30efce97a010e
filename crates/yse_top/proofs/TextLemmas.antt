-- The text of the image that a design is compiled to is one, and there is one.
use Rattle.std.proofs.Common.{◌≡◌, ◌∙◌, ℕ, List, refl, sym, ap₂}
use Rattle.machine_text.specs.declared.machine.Machine.{Machine}
use Rattle.net_defs.specs.declared.{homes.HomeChoice.HomeChoice, netlist.Netlist.Netlist, timing.Timing.Timing}
use Rattle.image_defs.specs.declared.{image.Image.Image, file.Claims.Claims, file.ImageFile.ImageFile}
use Rattle.image_file.specs.Files.{image_text}
use Rattle.yse_compile.specs.{declared.choose.Chosen.Chosen, Chosen.IsChosen, Claims.AreClaimsOf}
use Rattle.yse_compile.proofs.lemmas.DesignExists.{HasDesign}
use Rattle.yse_commands.specs.commands.Compile.{IsImageTextOf}

-- two designs that are chosen have one image, with one list of claims
abbrev pub HasOneImage : HomeChoice → Netlist → Machine → Timing → Type 0
HasOneImage choice net machine timing =
    (one other : Chosen) (claims claims_too : Claims) → IsChosen net machine timing choice one → IsChosen net machine timing choice other
    → AreClaimsOf one.compiled claims → AreClaimsOf other.compiled claims_too → (one.compiled.image ≡ other.compiled.image) × (claims ≡ claims_too)

module _ (choice : HomeChoice) (net : Netlist) (machine : Machine) (timing : Timing) where
  pub one_text : HasOneImage choice net machine timing → (s t : List ℕ) → IsImageTextOf choice net machine timing s → IsImageTextOf choice net machine timing t → s ≡ t
  one_text one s t a b =
      let same = one a.chosen b.chosen a.file.claims b.file.claims a.is b.is a.claims b.claims in
      a.text
      ∙ ap₂ {A = Image} {B = Claims} {C = List ℕ} (λ (image : Image) (claims : Claims). image_text (record { image = image; claims = claims })) (a.image ∙ same.0 ∙ sym b.image) same.1
      ∙ sym b.text

  pub some_text : HasDesign choice net machine timing → (s : List ℕ) × IsImageTextOf choice net machine timing s
  some_text has =
      let file : ImageFile = record { image = has.chosen.compiled.image; claims = has.claims } in
      (image_text file, record { chosen = has.chosen; is = has.is; file = file; image = refl; claims = has.are; text = refl })
