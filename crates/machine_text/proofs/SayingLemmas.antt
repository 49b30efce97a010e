-- What the lines of a text say, one line after another.
use Rattle.std.proofs.Common.{◌≡◌, ℕ, ◌+◌, ◌<◌, ◌≤◌, List, [], ◌∷◌, length, map, drop, get_or, Option, sym, ap, ◌∙◌, refl, inl, inr}
use Rattle.std.proofs.lemmas.{Bool.cases_lt, List.drop_all, List.drop_more}
use Rattle.std.specs.List.{enumerate_from}
use Rattle.text_lines.specs.Words.{words_of}
use Rattle.machine_text.specs.{declared.quantity.Version.Version, declared.saying.Says.Says, declared.saying.Says.TheVariants.Nothing, code.Sayings.said_lines}
use Rattle.machine_text.specs.Settings.{line_says, says_from, settled}

-- what numbered lines say is what they say, with the numbers
pub said_numbered : (version : Option Version) (k : ℕ) (parts : List (List ℕ)) → said_lines version (enumerate_from k parts) ≡ enumerate_from k (says_from version (map words_of parts))
unfolding said_lines says_from
said_numbered version k [] = refl
said_numbered version k (part ∷ parts) =
    ap (λ later. (k, line_says version (words_of part)) ∷ later) (said_numbered (settled version (words_of part)) (k + 1) parts)

-- ---- a loop over what the lines say, of which k have passed

-- the next line has this number and says this, and then these are left
pub record IsNext (says : List Says) (k line : ℕ) (said : Says) (left : List (ℕ × Says)) : Type 0 where
  pub within : k < length says
  pub number : line ≡ k + 1
  pub here : said ≡ get_or says k Nothing
  pub rest : left ≡ enumerate_from (k + 1 + 1) (drop (k + 1) says)

nil_is_not_cons : {A : Type 0} {x : A} {xs : List A} → [] ≡ x ∷ xs → ⊥
nil_is_not_cons e = cc

pub next_said : (says : List Says) (k line : ℕ) (said : Says) (left now : List (ℕ × Says)) → now ≡ enumerate_from (k + 1) (drop k says) → now ≡ (line, said) ∷ left → IsNext says k line said left
next_said says k line said left now is next =
    elim (cases_lt k (length says)) [
      | inl within ↦
          let more = ap (enumerate_from (k + 1)) (drop_more says k Nothing within) in
          let same : (line, said) ∷ left ≡ (k + 1, get_or says k Nothing) ∷ enumerate_from (k + 1 + 1) (drop (k + 1) says) = sym next ∙ is ∙ more in
          let pair : ◌≡◌ {A = ℕ × Says} (line, said) (k + 1, get_or says k Nothing) = cc in
          record { within = within; number = ap (λ p. p.0) pair; here = ap (λ p. p.1) pair; rest = cc }
      | inr past ↦ absurd (nil_is_not_cons (sym (is ∙ ap (enumerate_from (k + 1)) (drop_all k says past)) ∙ next))
    ]

pub no_next_said : (says : List Says) (k : ℕ) (now : List (ℕ × Says)) → now ≡ enumerate_from (k + 1) (drop k says) → now ≡ [] → length says ≤ k
no_next_said says k now is none =
    elim (cases_lt k (length says)) [
      | inl within ↦ absurd (nil_is_not_cons (sym none ∙ is ∙ ap (enumerate_from (k + 1)) (drop_more says k Nothing within)))
      | inr past ↦ past
    ]
