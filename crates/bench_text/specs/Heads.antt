-- What a reader of a line's form finds.
use Rattle.std.specs.Prelude.{◌≡◌, ℕ, ◌≤◌, List, ◌∷◌, ◌++◌, length, Option, Some, None}
use Rattle.limits.specs.declared.TheConstants.{MAX_GATE_OPERANDS}
use Rattle.bench_text.specs.{declared.form.Head.Head, Forms.Names, Forms.all_of, Forms.Form}
use Rattle.bench_text.specs.declared.form.Head.TheVariants as head
use Rattle.bench_text.specs.Forms as forms

-- names were counted, and added to a list where they are not more than the widest gate may have
pub record Added (old new : List (List ℕ)) (count : ℕ) (names : List (List ℕ)) : Type 0 where
  pub counted : count ≡ length names
  pub added : count ≤ MAX_GATE_OPERANDS → new ≡ old ++ names

-- the head of a form, with the names that a memory drives added to one list and the names that a gate or a
-- memory uses to another
abbrev pub HasHead : (old_outs new_outs old_uses new_uses : List (List ℕ)) → Head → Form → Type 0
HasHead old_outs new_outs old_uses new_uses (head.Port word name) form =
    (form ≡ forms.Port word.now name.now) × (new_outs ≡ old_outs) × (new_uses ≡ old_uses)
HasHead old_outs new_outs old_uses new_uses (head.Gate name word count) form =
    (uses : Names) × (form ≡ forms.Gate name.now word.now uses) × Added old_uses new_uses count (all_of uses)
    × (new_outs ≡ old_outs)
HasHead old_outs new_outs old_uses new_uses (head.Memory word out_count address_count word_count) form =
    (outs : Names) × (enable : List ℕ) × (address : Names) × (words : Names)
    × (form ≡ forms.Memory outs word.now enable address words) × Added old_outs new_outs out_count (all_of outs)
    × (address_count ≡ length (all_of address)) × (word_count ≡ length (all_of words))
    × (address_count ≤ MAX_GATE_OPERANDS → word_count ≤ MAX_GATE_OPERANDS
    → new_uses ≡ old_uses ++ (enable ∷ (all_of address ++ all_of words)))

-- the head of the form was found; or there is none
abbrev pub FoundForm : (old_outs new_outs old_uses new_uses : List (List ℕ)) → Option Head → Option Form → Type 0
FoundForm old_outs new_outs old_uses new_uses None found = found ≡ None
FoundForm old_outs new_outs old_uses new_uses (Some head) found =
    (form : Form) × (found ≡ Some form) × HasHead old_outs new_outs old_uses new_uses head form
