use Rattle.std.proofs.Common.{◌≡◌, ◌∙◌, ◌≤◌, ◌<◌, List, [], ◌∷◌, Some, length, get_or, map, unwrap_or, refl, ap, arith}
use Rattle.cmd_words.specs.{Arguments.Word, code.Parses.three_of}
use Rattle.cmd_words.proofs.parsing.three_arguments.Goals as goal

three : {X : Type 0} (f : X → Word) (xs : List X) (d : X) → 3 ≤ length xs → length xs < 4 → Some (f (get_or xs 0 d), f (get_or xs 1 d), f (get_or xs 2 d)) ≡ three_of (map f xs)
three f [] d some few = absurd (omega (arith, some))
three f (x ∷ []) d some few = absurd (omega (arith, some))
three f (x ∷ y ∷ []) d some few = absurd (omega (arith, some))
three f (x ∷ y ∷ z ∷ []) d some few = refl
three f (x ∷ y ∷ z ∷ w ∷ xs) d some few = absurd (omega (arith, few))

pub returns-in-Some-len3 : goal.returns-in-Some-len3
returns-in-Some-len3 c =
    three (λ word. word.now) c.in-Some-len3.field-0.now _ c.in-Some-len3.len_at_least c.in-Some-len3.len_below
    ∙ ap (λ words. three_of (unwrap_or words [])) c.in-Some-len3.ensures
