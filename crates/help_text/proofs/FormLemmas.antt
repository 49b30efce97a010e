-- A form grows by an option.
use Rattle.std.proofs.Common.{◌≡◌, ◌∙◌, ℕ, ◌<◌, ◌+◌, ◌-◌, List, [], ◌∷◌, ◌++◌, map, drop, get_or, length, Bor, refl, sym, ap, ap₂, append_assoc, append-nil, add-one}
use Rattle.std.proofs.{Math.Seq.drop-cons, lemmas.List.Folds.flat_map-map}
use Rattle.std.specs.List.{flat_map}
use Rattle.cmd_words.specs.{Arguments.Word, Topics.options_of, declared.topic.Topic.Topic}
use Rattle.help_text.specs.Forms.{bracketed, filled, form_of, head_of, left_after, placed}
use Rattle.help_text.specs.Texts.{option_line}

module _ {X : Type 0} (part : X → List ℕ) (names : List X) (i : ℕ) where
  -- what is left to be filled is the part here, and then the others
  filled_here : (d : X) → i < length names → (left : ℕ)
      → filled left (map part (drop i names)) ≡ placed left (part (get_or names i d)) ++ filled (left_after left (part (get_or names i d))) (map part (drop (i + 1) names))
  unfolding filled
  filled_here d within left =
      ap (λ rest. filled left (map part rest)) (drop-cons names i d within)
      ∙ ap (λ n. placed left (part (get_or names i d)) ++ filled (left_after left (part (get_or names i d))) (map part (drop n names))) (sym (add-one i))

  pub filled_more : (d : X) → i < length names → (form new whole : List ℕ) (left rest : ℕ) → form ++ filled left (map part (drop i names)) ≡ whole
      → new ≡ form ++ placed left (part (get_or names i d)) → rest ≡ left_after left (part (get_or names i d))
      → new ++ filled rest (map part (drop (i + 1) names)) ≡ whole
  filled_more d within form new whole left rest is grown after =
      ap₂ (λ new rest. new ++ filled rest (map part (drop (i + 1) names))) grown after
      ∙ append_assoc form (placed left (part (get_or names i d))) (filled (left_after left (part (get_or names i d))) (map part (drop (i + 1) names)))
      ∙ ap (λ rest. form ++ rest) (sym (filled_here d within left))
      ∙ is

  -- nothing is left
  pub filled_all : (form whole : List ℕ) (left : ℕ) → drop i names ≡ [] → form ++ filled left (map part (drop i names)) ≡ whole → form ≡ whole
  unfolding filled
  filled_all form whole left none is = sym (append-nil form) ∙ ap (λ rest. form ++ filled left (map part rest)) (sym none) ∙ is

-- ---- by the list of options

parts_of : (names : List (Bor Word)) → map bracketed (map (λ name. name.now) names) ≡ map (λ name. bracketed name.now) names
parts_of [] = refl
parts_of (name ∷ names) = ap (λ parts. bracketed name.now ∷ parts) (parts_of names)

pub form_made : (topic : Topic) (head new : List ℕ) (left : ℕ) (names : List (Bor Word)) → head ≡ head_of topic → left ≡ 80 - length head → map (λ name. name.now) names ≡ options_of topic
    → new ≡ head ++ filled left (map (λ name. bracketed name.now) names) → new ≡ form_of topic
unfolding form_of
form_made topic head new left names is columns options made =
    made
    ∙ ap₂ (λ head left. head ++ filled left (map (λ (name : Bor Word). bracketed name.now) names)) is (columns ∙ ap (λ (head : List ℕ). 80 - length head) is)
    ∙ ap (λ parts. head_of topic ++ filled (80 - length (head_of topic)) parts) (sym (parts_of names) ∙ ap (map bracketed) options)

pub lines_of : (topic : Topic) (names : List (Bor Word)) → map (λ name. name.now) names ≡ options_of topic → flat_map (λ name. option_line name.now) names ≡ flat_map option_line (options_of topic)
lines_of topic names options = sym (flat_map-map option_line (λ (name : Bor Word). name.now) names) ∙ ap (flat_map option_line) options
