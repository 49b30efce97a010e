-- The names are read back, and the places of the forms are found.
use Rattle.std.proofs.Common.{refl, []}
use Rattle.help_text.specs.Texts.{about}
use Rattle.help_text.proofs.TextLemmas.{all_names_told, form_told, names_told, names_told_of, said, text_fits}
use Rattle.help_text.proofs.law.forms_are_told.Goals as goal

pub returns-clause-options : goal.returns-clause-options
returns-clause-options c = names_told

pub returns-clause-those_of_one : goal.returns-clause-those_of_one
returns-clause-those_of_one c = names_told_of

pub returns-clause-those_of_all : goal.returns-clause-those_of_all
returns-clause-those_of_all c = all_names_told

pub returns-clause-said : goal.returns-clause-said
returns-clause-said c = said

pub returns-clause-one : goal.returns-clause-one
unfolding about
returns-clause-one c = λ topic. ([], _, refl)

pub returns-clause-all : goal.returns-clause-all
returns-clause-all c = form_told

pub returns-clause-size : goal.returns-clause-size
returns-clause-size c = text_fits
