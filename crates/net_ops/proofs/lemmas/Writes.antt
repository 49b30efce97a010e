-- A list that is written from the left to the right.
use Rattle.std.proofs.Common.{◌≡◌, ◌∙◌, ℕ, ◌+◌, ◌<◌, List, [], ◌∷◌, ◌++◌, length, take, drop, map, get_or, set, sym, ap, arith, append_assoc}
use Rattle.std.proofs.lemmas.List.{drop_more, set_at, map_more, length-map, length-take-le, length-set, drop_all, append-nil, take_all}
use Rattle.std.specs.List.{refill}

pub write_more : {X : Type 0} (front old : List X) (i : ℕ) (y d : X) → length front ≡ i → i < length old → set (front ++ drop i old) i y ≡ (front ++ y ∷ []) ++ drop (i + 1) old
write_more front old i y d long within =
    ap (λ rest. set (front ++ rest) i y) (drop_more old i d within) ∙ set_at front (get_or old i d) (drop (i + 1) old) y i long ∙ sym (append_assoc front (y ∷ []) (drop (i + 1) old))

pub map_over : {X Y : Type 0} (f : X → Y) (xs : List X) (old : List Y) (i : ℕ) (d : X) (e : Y) → i < length xs → length xs ≡ length old → set (map f (take i xs) ++ drop i old) i (f (get_or xs i d)) ≡ map f (take (i + 1) xs) ++ drop (i + 1) old
map_over f xs old i d e within long =
    let front : length (map f (take i xs)) ≡ i = length-map (take i xs) f ∙ length-take-le i xs (omega arith) in
    write_more (map f (take i xs)) old i (f (get_or xs i d)) e front (omega arith) ∙ ap (λ front. front ++ drop (i + 1) old) (sym (map_more f xs i d within))

-- a list whose loan ends with one item written
pub refill_set : {X : Type 0} (xs now : List X) (i : ℕ) (y : X) → now ≡ xs → refill (length xs) xs (set now i y) ≡ set xs i y
refill_set xs now i y same =
    let long : length (set now i y) ≡ length xs = length-set now i y ∙ ap length same in
    ap (λ rest. take (length xs) (set now i y ++ rest)) (drop_all (length (set now i y)) xs (omega arith))
    ∙ (ap (λ list. take (length xs) list) (append-nil (set now i y)) ∙ (take_all (length xs) (set now i y) (omega arith) ∙ ap (λ list. set list i y) same))
