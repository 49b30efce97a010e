-- The names and the bytes that a store of files tells.
use Rattle.std.specs.Prelude.{ℕ, List, Bool, false, not, IsTrue, Option, None, Some, ⊤}

-- whether names are told and this one isn't among them
abbrev pub is_absent : Option (List ℕ → Bool) → List ℕ → Bool
is_absent None name = false
is_absent (Some has) name = not (has name)

-- names are told and this one isn't among them
abbrev pub IsAbsent : Option (List ℕ → Bool) → List ℕ → Type 0
IsAbsent names name = IsTrue (is_absent names name)

-- where bytes are told, a fact of the bytes of this name
abbrev pub OfTold : Option (List ℕ → List ℕ) → List ℕ → (List ℕ → Type 0) → Type 0
OfTold None name P = ⊤
OfTold (Some bytes) name P = P (bytes name)
