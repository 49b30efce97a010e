-- What a sink has taken, write by write.
use Rattle.std.proofs.Common.{◌≡◌, ℕ, ◌+◌, ◌-◌, List, ◌++◌, length, take, drop, Option, None, Some, refl, ap, ◌∙◌, sym, append_assoc}
use Rattle.std.proofs.{Math.Seq.take-add, lemmas.List.take_rest}
use Rattle.std.specs.Io.KnownBytes.{append_known}

-- one piece after another is both pieces joined
pub append_known-append : (told : Option (List ℕ)) (first then : List ℕ)
    → append_known (append_known told first) then ≡ append_known told (first ++ then)
append_known-append None first then = refl
append_known-append (Some taken) first then = ap Some (append_assoc taken first then)

-- a write of `&piece[d..]` that took n bytes, where the first d bytes were taken before
pub taken_more : (told before now : Option (List ℕ)) (piece : List ℕ) (d n : ℕ)
    → before ≡ append_known told (take d piece)
    → now ≡ append_known before (take n (take (length piece - d) (drop d piece)))
    → now ≡ append_known told (take (d + n) piece)
taken_more told before now piece d n first then =
    then ∙ ap (λ rest. append_known before (take n rest)) (take_rest piece d)
    ∙ ap (λ known. append_known known (take n (drop d piece))) first
    ∙ append_known-append told (take d piece) (take n (drop d piece))
    ∙ ap (append_known told) (sym (take-add d n piece))
