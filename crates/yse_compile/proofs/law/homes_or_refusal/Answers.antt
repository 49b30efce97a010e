use Rattle.std.proofs.Common.{inl, inr}
use Rattle.home_pick.proofs.HomeLemmas.{homes_are}
use Rattle.yse_compile.proofs.HousedLemmas as housed
use Rattle.yse_compile.proofs.law.homes_or_refusal.Goals as goal

pub returns : goal.returns
returns c nodes machine formed valid = elim (housed.homes_or_refusal nodes machine formed valid) [
  | inl found ↦ inl (found.0, found.1, homes_are nodes machine found.0 formed valid found.1)
  | inr refused ↦ inr refused
]
