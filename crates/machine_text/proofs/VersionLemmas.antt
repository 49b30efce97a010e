-- A text of version 1 that reads as a machine says the same behind the line of version 2.
use Rattle.std.proofs.Common.{◌≡◌, ℕ, Bool, true, false, cond, List, [], ◌∷◌, codes, Option, Some, None, sym, ap, ◌∙◌, subst, refl}
use Rattle.std.proofs.lemmas.List.{Elements.All-from_recursion, Elements.recursion_from_All, Kept.AllPairs-cons}
use Rattle.std.specs.{List.All, List.AllPairs, List.AllByRecursion, Prelude.unwrap_or}
use Rattle.text_lines.specs.{Bytes.is_blank, Lines.part_of, Lines.parts_of, Numbers.number_of, Words.words_of}
use Rattle.machine_text.specs.Settings.{announces_two, is_allowed, limits_of, line_words, lines_say, same_given, says_from, set_by, settings_of, settled_by, version_of, words_say}
use Rattle.machine_text.specs.declared.{machine.Machine.Machine, quantity.Quantity.Quantity, quantity.Quantity.TheVariants.Nodes}
use Rattle.machine_text.specs.declared.{quantity.Version.TheVariants.One, quantity.Version.TheVariants.Two, saying.Says.Says, saying.Says.TheVariants.Nothing}
use Rattle.machine_text.specs.{Quantities.named, Machines.Reads, Machines.behind_version_two, Machines.machine_said}

set_by_both : (quantity : Option Quantity) (n : Option ℕ) → is_allowed (set_by One quantity n) ≡ true → set_by Two quantity n ≡ set_by One quantity n
set_by_both None n allowed = refl
set_by_both (Some quantity) None allowed = refl
set_by_both (Some Nodes) (Some n) allowed = cc
set_by_both (Some quantity) (Some n) allowed = refl

-- what is allowed in version 1 says the same in version 2
words_both : (words : List (List ℕ)) → is_allowed (words_say One words) ≡ true → words_say Two words ≡ words_say One words
words_both (word ∷ number ∷ []) allowed = set_by_both (named word) (number_of number) allowed
words_both (word ∷ port ∷ number ∷ []) allowed = cc
words_both words allowed = refl

lines_both : (lines : List (List (List ℕ))) → AllByRecursion (λ said. is_allowed said ≡ true) (says_from (Some One) lines) → says_from (Some Two) lines ≡ says_from (Some One) lines
unfolding says_from
lines_both [] allowed = refl
lines_both (words ∷ lines) allowed = rw (words_both words allowed.0, lines_both lines allowed.1) refl

stays_two : (lines : List (List (List ℕ))) → settled_by (Some Two) lines ≡ Some Two
unfolding settled_by
stays_two [] = refl
stays_two (words ∷ lines) = stays_two lines

says_both : (lines : List (List (List ℕ))) → unwrap_or (settled_by None lines) One ≡ One → AllByRecursion (λ said. is_allowed said ≡ true) (says_from None lines) → says_from (Some Two) lines ≡ says_from None lines
unfolding says_from settled_by
says_both [] one allowed = refl
says_both ([] ∷ lines) one allowed = ap (λ later. Nothing ∷ later) (says_both lines one allowed.1)
says_both ((word ∷ words) ∷ lines) one allowed = chosen (announces_two (word ∷ words)) one allowed where
  two_is_not_one : Two ≡ One → ⊥
  two_is_not_one e = cc

  chosen : (b : Bool) → unwrap_or (settled_by (cond b (Some Two) (Some One)) lines) One ≡ One → (is_allowed (cond b Nothing (words_say One (word ∷ words))) ≡ true) × AllByRecursion (λ said. is_allowed said ≡ true) (says_from (cond b (Some Two) (Some One)) lines) → words_say Two (word ∷ words) ∷ says_from (Some Two) lines ≡ cond b Nothing (words_say One (word ∷ words)) ∷ says_from (cond b (Some Two) (Some One)) lines
  chosen true one allowed = absurd (two_is_not_one (sym (ap (λ version. unwrap_or version One) (stays_two lines)) ∙ one))
  chosen false one allowed = rw (words_both (word ∷ words) allowed.0, lines_both lines allowed.1) refl

-- the words of the line `version 2`
words_behind : (text : List ℕ) → line_words (behind_version_two text) ≡ (codes "version" ∷ codes "2" ∷ []) ∷ line_words text
unfolding parts_of part_of words_of is_blank
words_behind text = refl

announced : (lines : List (List (List ℕ))) → says_from None ((codes "version" ∷ codes "2" ∷ []) ∷ lines) ≡ Nothing ∷ says_from (Some Two) lines
unfolding says_from number_of
announced lines = refl

says_behind : (text : List ℕ) → version_of text ≡ One → All (λ said. is_allowed said ≡ true) (lines_say text) → lines_say (behind_version_two text) ≡ Nothing ∷ lines_say text
says_behind text one allowed =
    ap (says_from None) (words_behind text) ∙ announced (line_words text)
    ∙ ap (λ later. Nothing ∷ later) (says_both (line_words text) one (recursion_from_All (λ said. is_allowed said ≡ true) (lines_say text) allowed))

nothing_apart : (said : Says) → same_given said Nothing ≡ false
nothing_apart Nothing = refl
nothing_apart said = refl

said_behind : (says : List Says) → machine_said (Nothing ∷ says) ≡ machine_said says
unfolding settings_of limits_of
said_behind says = refl

-- the text behind the line of version 2 reads as the same machine
pub reads_behind : (text : List ℕ) (machine : Machine) → version_of text ≡ One → Reads text machine → Reads (behind_version_two text) machine
reads_behind text machine one reads =
    let says = lines_say text in
    let is = says_behind text one reads.lines in
    record {
      lines = subst (All (λ said. is_allowed said ≡ true)) (sym is) (All-from_recursion (λ said. is_allowed said ≡ true) (Nothing ∷ says) (refl, recursion_from_All (λ said. is_allowed said ≡ true) says reads.lines));
      once = subst (AllPairs (λ a b. same_given b a ≡ false)) (sym is) (AllPairs-cons (λ a b. same_given b a ≡ false) Nothing says (λ i d within. nothing_apart _) reads.once);
      numbers = reads.numbers ∙ sym (said_behind says) ∙ ap machine_said (sym is);
      ports = reads.ports;
      own = reads.own;
    }
