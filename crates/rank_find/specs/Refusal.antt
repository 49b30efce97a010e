-- What a refusal carries.
use Rattle.std.specs.Prelude.{List, ℕ, ⊤}
use Rattle.rank_find.specs.declared.RankNo.{RankNo, TheVariants.Loop, TheVariants.Memory}

-- a refusal for a loop carries one that is so
abbrev pub IfLoop : RankNo → (List ℕ → Type 0) → Type 0
IfLoop (Loop signals) P = P signals
IfLoop Memory P = ⊤
