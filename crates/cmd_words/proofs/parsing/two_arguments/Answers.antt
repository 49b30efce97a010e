use Rattle.std.proofs.Common.{◌≡◌, ◌∙◌, ◌≤◌, ◌<◌, List, [], ◌∷◌, Some, length, get_or, map, unwrap_or, refl, ap, arith}
use Rattle.cmd_words.specs.{Arguments.Word, code.Parses.both_of}
use Rattle.cmd_words.proofs.parsing.two_arguments.Goals as goal

both : {X : Type 0} (f : X → Word) (xs : List X) (d : X) → 2 ≤ length xs → length xs < 3 → Some (f (get_or xs 0 d), f (get_or xs 1 d)) ≡ both_of (map f xs)
both f [] d some few = absurd (omega (arith, some))
both f (x ∷ []) d some few = absurd (omega (arith, some))
both f (x ∷ y ∷ []) d some few = refl
both f (x ∷ y ∷ z ∷ xs) d some few = absurd (omega (arith, few))

pub returns-in-Some-len2 : goal.returns-in-Some-len2
returns-in-Some-len2 c =
    both (λ word. word.now) c.in-Some-len2.field-0.now _ c.in-Some-len2.len_at_least c.in-Some-len2.len_below
    ∙ ap (λ words. both_of (unwrap_or words [])) c.in-Some-len2.ensures
