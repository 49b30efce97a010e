use Rattle.std.proofs.Common.{◌≡◌, ◌≢◌, ◌∙◌, Option, None, Some, ap, refl, sym}
use Rattle.std.proofs.lemmas.Option.{none-some}
use Rattle.bench_text.specs.{Forms.Form, Spelling.spelled, Decoding.form_of}
use Rattle.bench_text.proofs.lemmas.SpellingLemmas.{form_again, form_spelled}
use Rattle.bench_text.proofs.law.forms_are_spelled.Goals as goal

pub returns-clause-form : goal.returns-clause-form
returns-clause-form c pieces form = (form_spelled pieces form, λ e. ap form_of e ∙ form_again form)

pub returns-clause-none : goal.returns-clause-none
returns-clause-none c pieces = (λ none form e. none-some form (sym none ∙ (ap form_of e ∙ form_again form)), found (form_of pieces) refl) where
  found : (o : Option Form) → form_of pieces ≡ o → ((form : Form) → pieces ≢ spelled form) → form_of pieces ≡ None
  found None e spells = e
  found (Some form) e spells = absurd (spells form (form_spelled pieces form e))
