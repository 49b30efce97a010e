-- Where the form of a command stands, and which options stand in it.
use Rattle.std.proofs.Common.{◌≡◌, true, ◌∙◌, ℕ, ◌<◌, ◌+◌, List, ◌++◌, take, drop, get_or, length, map, refl, ap, sym, append_assoc, codes, arith}
use Rattle.std.proofs.lemmas.List.{get_or-map}
use Rattle.std.specs.List.{flat_map}
use Rattle.list_laws.proofs.Maps.{flat_map_at}
use Rattle.cmd_words.specs.{Topics.options_of, Topics.topics, declared.topic.Topic.Topic}
use Rattle.cmd_words.specs.declared.topic.Topic.TheVariants as topic
use Rattle.help_text.specs.Forms.{form_of, head_of, bracketed, filled, names_in}
use Rattle.help_text.specs.Notes.{does, operands, prints, says, value_word}
use Rattle.help_text.specs.Texts.{about, entry, fits, narrow, option_line, overview, says_all, IsPartOf}
use Rattle.help_text.specs.declared.text.TheConstants.{HEAD, STATUSES}

-- where a command stands among all
placed : (topic : Topic) → (i : ℕ) × (i < length topics) × (topic ≡ get_or topics i topic)
placed topic.Run = (0, omega arith, refl)
placed topic.Refer = (1, omega arith, refl)
placed topic.Order = (2, omega arith, refl)
placed topic.Plan = (3, omega arith, refl)
placed topic.Show = (4, omega arith, refl)
placed topic.Large = (5, omega arith, refl)
placed topic.Compile = (6, omega arith, refl)
placed topic.Exec = (7, omega arith, refl)
placed topic.Pack = (8, omega arith, refl)
placed topic.Fault = (9, omega arith, refl)
placed topic.Cover = (10, omega arith, refl)
placed topic.Help = (11, omega arith, refl)

-- what holds of all commands, one after the other, holds of each
each_same : {X : Type 0} (f g : Topic → X) → map f topics ≡ map g topics → (topic : Topic) → f topic ≡ g topic
each_same f g same topic =
    let at = placed topic in
    ap f at.2 ∙ sym (get_or-map f topics at.0 topic (f topic) at.1) ∙ ap (λ xs. get_or xs at.0 (f topic)) same ∙ get_or-map g topics at.0 topic (f topic) at.1 ∙ ap g (sym at.2)

pub names_told : (topic : Topic) → names_in (form_of topic) ≡ options_of topic
unfolding names_in form_of head_of bracketed filled operands value_word
names_told = each_same (λ topic. names_in (form_of topic)) options_of refl

parted : (head before blank form rest behind tail : List ℕ)
    → head ++ ((before ++ ((blank ++ (form ++ rest)) ++ behind)) ++ tail) ≡ (head ++ (before ++ blank)) ++ (form ++ (rest ++ (behind ++ tail)))
parted head before blank form rest behind tail = simp append_assoc

pub form_told : (topic : Topic) → IsPartOf (form_of topic) overview
unfolding overview entry
form_told topic =
    let at = placed topic in
    let i = at.0 in (
      HEAD.now ++ (flat_map entry (take i topics) ++ codes "\n"),
      (codes "\n    " ++ (does topic ++ codes "\n")) ++ (flat_map entry (drop (i + 1) topics) ++ STATUSES.now),
      ap (λ entries. HEAD.now ++ (entries ++ STATUSES.now)) (flat_map_at entry topics i topic at.2 at.1)
          ∙ parted HEAD.now (flat_map entry (take i topics)) (codes "\n") (form_of topic) (codes "\n    " ++ (does topic ++ codes "\n")) (flat_map entry (drop (i + 1) topics)) STATUSES.now,
    )

-- by the bytes of each text
pub text_fits : (topic : Topic) → fits (about topic) ≡ true
unfolding about form_of head_of bracketed filled operands value_word option_line prints says narrow
text_fits = each_same (λ topic. fits (about topic)) (λ topic. true) refl

-- the texts have no options but those of their forms
pub names_told_of : (topic : Topic) → names_in (about topic) ≡ options_of topic
unfolding names_in about form_of head_of bracketed filled operands value_word option_line prints says
names_told_of = each_same (λ topic. names_in (about topic)) options_of refl

pub all_names_told : names_in overview ≡ flat_map options_of topics
unfolding names_in overview entry form_of head_of bracketed filled operands value_word does
all_names_told = refl

pub said : (topic : Topic) → says_all topic ≡ true
unfolding says
said = each_same says_all (λ topic. true) refl
