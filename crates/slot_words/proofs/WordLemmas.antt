-- What the planes of a packed word are.
use Rattle.std.proofs.Common.{ap, arith, subst, ℕ, ◌%◌, ◌+◌, ◌/◌, ◌<◌, ◌^◌, ◌∙◌, ◌≡◌}
use Rattle.std.proofs.Math.Bridge.{le_prop}
use Rattle.limits.specs.declared.TheConstants.{LANES}
use Rattle.lane_planes.specs.declared.planes.Planes.{Planes}
use Rattle.slot_words.specs.{code.PackedWords.IsPlanesOf, packed.Words.packed}

pub packed_low : (turn : ℕ) (planes : Planes) → packed turn planes / 16 % 2 ^ LANES ≡ planes.low
packed_low turn planes = let low = planes.low_small in let high = planes.high_small in omega arith

pub packed_high : (turn : ℕ) (planes : Planes) → packed turn planes / 2 ^ (LANES + 4) ≡ planes.high
packed_high turn planes = let low = planes.low_small in let high = planes.high_small in omega arith

abbrev made : (low high : ℕ) → low < 2 ^ LANES → high < 2 ^ LANES → Planes
made low high low_small high_small = record { low = low; high = high; low_small = low_small; high_small = high_small }

-- planes with the same words are one
same_planes : (low high n m : ℕ) (low_small : low < 2 ^ LANES) (high_small : high < 2 ^ LANES) (n_small : n < 2 ^ LANES) (m_small : m < 2 ^ LANES) → low ≡ n → high ≡ m
    → made low high low_small high_small ≡ made n m n_small m_small
same_planes low high n m low_small high_small n_small m_small low_is high_is =
    subst (λ k. (k_small : k < 2 ^ LANES) → made low high low_small high_small ≡ made k m k_small m_small) low_is
    (λ k_small. subst (λ k. (h_small : k < 2 ^ LANES) → made low high low_small high_small ≡ made low k k_small h_small) high_is
    (λ h_small. ap (λ s. made low high s high_small) (le_prop low_small k_small) ∙ ap (λ s. made low high k_small s) (le_prop high_small h_small)) m_small) n_small

-- the planes of a word are those that it was made of
pub read_back : (turn word : ℕ) (planes other : Planes) → word ≡ packed turn other → IsPlanesOf word planes → planes ≡ other
read_back turn word planes other is read =
    same_planes planes.low planes.high other.low other.high planes.low_small planes.high_small other.low_small other.high_small
    (read.0 ∙ (ap (λ n. n / 16 % 2 ^ LANES) is ∙ packed_low turn other)) (read.1 ∙ (ap (λ n. n / 2 ^ (LANES + 4)) is ∙ packed_high turn other))
