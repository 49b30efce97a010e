-- The words of a memory among its places.
use Rattle.std.proofs.Common.{inl, inr, ◌≡◌, ◌≢◌, ◌⊎◌, ℕ, ◌+◌, ◌*◌, ◌<◌, ◌≤◌, List, [], ◌∷◌, length, map, set, get_or, replicate, refl, sym, ◌∙◌, ap, arith, get_or-set_same, get_or-set_other}
use Rattle.std.proofs.lemmas.List.{ext_get_or, length-set, length-map, length-replicate, get_or-replicate, get_or-map}
use Rattle.std.proofs.lemmas.{Bool.cases_eq, Bool.cases_lt, List.FromFn.length-map-range_with_len, List.FromFn.get_or-map-range_with_len}
use Rattle.std.proofs.lemmas.{Nat.row_fits, Nat.mul-le, Option.slice_get-get_or}
use Rattle.std.specs.Prelude.{Some, None, slice_get}
use Rattle.logic_four.specs.{declared.V4.V4, declared.V4.TheVariants.Zero, declared.V4.TheVariants.Undef, Memory.undefined_word, Memory.written_at}
use Rattle.logic_four.specs.Packed.{packed_value}
use Rattle.array_cells.specs.{declared.cells.Cells.TheInside.Inside, Places.values_from, Places.words_of, Places.HasRoom}
use Rattle.array_cells.specs.code.Places.{Writes, stored}

pub length-values_from : (packed : List ℕ) (base n : ℕ) → length (values_from packed base n) ≡ n
unfolding values_from
length-values_from packed base n = length-map-range_with_len (λ i. packed_value packed (base + i)) 0 n

pub get_or-values_from : (packed : List ℕ) (base n i : ℕ) (d : V4) → i < n
    → get_or (values_from packed base n) i d ≡ packed_value packed (base + i)
unfolding values_from
get_or-values_from packed base n i d within =
    get_or-map-range_with_len (λ i. packed_value packed (base + i)) 0 n i i d within (omega arith)

pub length-words_of : (packed : List ℕ) (w n : ℕ) → length (words_of packed w n) ≡ w
unfolding words_of
length-words_of packed w n = length-map-range_with_len (λ k. values_from packed (k * n) n) 0 w

pub get_or-words_of : (packed : List ℕ) (w n k : ℕ) (d : List V4) → k < w
    → get_or (words_of packed w n) k d ≡ values_from packed (k * n) n
unfolding words_of
get_or-words_of packed w n k d within =
    get_or-map-range_with_len (λ k. values_from packed (k * n) n) 0 w k k d within (omega arith)

-- words of n bits, and a word among them that has m bits
pub record IsWord (packed : List ℕ) (w n k m : ℕ) : Type 0 where
  pub within : k < w
  pub width : n ≡ m
  pub fits : k * n + m ≤ 32 * length packed
  pub small : k * n + m ≤ 4194304

is_word : (packed : List ℕ) (w n : ℕ) (words : List (List V4)) (k m : ℕ)
    → HasRoom packed w n → words_of packed w n ≡ words → k < length words → length (get_or words k []) ≡ m → IsWord packed w n k m
is_word packed w n words k m room view within long =
    let count : w ≡ length words = sym (length-words_of packed w n) ∙ ap length view in
    let among : k < w = omega arith in
    let width : n ≡ m =
    sym (length-values_from packed (k * n) n)
    ∙ ap length (sym (get_or-words_of packed w n k [] among))
    ∙ ap (λ ws. length (get_or ws k [])) view
    ∙ long in
    let places : k * n + n ≤ w * n = row_fits k n w n among (omega arith) in
    let all : w * n ≤ 65536 * 64 = mul-le w n 65536 64 room.few_words room.few_bits in
    let room_is : w * n ≤ 32 * length packed = room.places in
    record { within = among; width = width; fits = omega arith; small = omega arith }

-- the word of a memory with the number k, which has m bits
pub word_in : (inside : Inside) (words : List (List V4)) (k m : ℕ)
    → HasRoom inside.sheet inside.words inside.word_bits
    → words_of inside.sheet inside.words inside.word_bits ≡ words
    → k < length words → length (get_or words k []) ≡ m
    → IsWord inside.sheet inside.words inside.word_bits k m
word_in inside = is_word inside.sheet inside.words inside.word_bits

-- two lists of words that agree word by word, and two words that agree bit by bit
same_words : (xs ys : List (List V4)) (w : ℕ) → length xs ≡ w → length ys ≡ w
    → ((k : ℕ) → k < w → get_or xs k [] ≡ get_or ys k []) → xs ≡ ys
same_words xs ys w long long' each = ext_get_or [] xs ys (long ∙ sym long') (λ k h. each k (omega arith))

values_from-is : (packed : List ℕ) (base : ℕ) (word : List V4)
    → ((i : ℕ) → i < length word → packed_value packed (base + i) ≡ get_or word i Undef)
    → values_from packed base (length word) ≡ word
values_from-is packed base word each =
    ext_get_or Undef _ word (length-values_from packed base (length word))
    (λ i h.
    let within : i < length word = omega (arith, length-values_from packed base (length word)) in
    get_or-values_from packed base (length word) i Undef within ∙ each i within)

-- one value in each place of a word
values_from-all : (packed : List ℕ) (base n : ℕ) (v : V4) → ((i : ℕ) → i < n → packed_value packed (base + i) ≡ v)
    → values_from packed base n ≡ replicate n v
values_from-all packed base n v each =
    ap (values_from packed base) (sym (length-replicate n v))
    ∙ values_from-is packed base (replicate n v)
    (λ i h.
    let within : i < n = omega (arith, length-replicate n v) in
    each i within ∙ sym (get_or-replicate n i v Undef within))

-- a memory with one value in each bit
pub words_of-filled : (packed : List ℕ) (w n : ℕ) (v : V4)
    → ((place : ℕ) → place < w * n → packed_value packed place ≡ v)
    → words_of packed w n ≡ replicate w (replicate n v)
words_of-filled packed w n v all =
    same_words (words_of packed w n) (replicate w (replicate n v)) w (length-words_of packed w n) (length-replicate w (replicate n v))
    (λ k h.
    get_or-words_of packed w n k [] h
    ∙ values_from-all packed (k * n) n v
    (λ i small. let places : k * n + n ≤ w * n = row_fits k n w n h (omega arith) in all (k * n + i) (omega arith))
    ∙ sym (get_or-replicate w k (replicate n v) [] h))

-- every word is forgotten
pub words_of-forgotten : (old new : List ℕ) (w n : ℕ) → HasRoom old w n
    → ((place : ℕ) → place < 32 * length old → packed_value new place ≡ Undef)
    → words_of new w n ≡ map (λ word. undefined_word (length word)) (words_of old w n)
words_of-forgotten old new w n room all =
    same_words (words_of new w n) (map (λ word. undefined_word (length word)) (words_of old w n)) w (length-words_of new w n)
    (length-map (words_of old w n) (λ word. undefined_word (length word)) ∙ length-words_of old w n)
    (λ k h.
    get_or-words_of new w n k [] h
    ∙ values_from-all new (k * n) n Undef
    (λ i small.
    let places : k * n + n ≤ w * n = row_fits k n w n h (omega arith) in
    let room_is : w * n ≤ 32 * length old = room.places in
    all (k * n + i) (omega arith))
    ∙ ap undefined_word (sym (length-values_from old (k * n) n) ∙ ap length (sym (get_or-words_of old w n k [] h)))
    ∙ sym (get_or-map (λ word. undefined_word (length word)) (words_of old w n) k [] [] (rw (length-words_of old w n) h)))

-- one word is stored
apart_places : (k j n m i : ℕ) → n ≡ m → j ≢ k → i < n → (j * n + i < k * n) ⊎ (k * n + m ≤ j * n + i)
apart_places k j n m i same apart within =
    elim (cases_lt j k) as (λ _. (j * n + i < k * n) ⊎ (k * n + m ≤ j * n + i)) [
      | inl below ↦ inl (let places : j * n + n ≤ k * n = row_fits j n k n below (omega arith) in omega arith)
      | inr above ↦ inr (let places : k * n + n ≤ j * n = row_fits k n j n (omega arith) (omega arith) in omega arith)
    ]

stored_word : (new : List ℕ) (n base : ℕ) (we : V4) (word : List V4) → n ≡ length word
    → ((i : ℕ) → i < length word → packed_value new (base + i) ≡ stored we (get_or word i Zero))
    → values_from new base n ≡ map (stored we) word
stored_word new n base we word width each =
    ap (values_from new base) (width ∙ sym (length-map word (stored we)))
    ∙ values_from-is new base (map (stored we) word)
    (λ i h.
    let within : i < length word = omega (arith, length-map word (stored we)) in
    each i within ∙ sym (get_or-map (stored we) word i Zero Undef within))

kept_word : (old new : List ℕ) (base n : ℕ)
    → ((i : ℕ) → i < n → packed_value new (base + i) ≡ packed_value old (base + i))
    → values_from new base n ≡ values_from old base n
kept_word old new base n each =
    ext_get_or Undef (values_from new base n) (values_from old base n) (length-values_from new base n ∙ sym (length-values_from old base n))
    (λ i h.
    let within : i < n = omega (arith, length-values_from new base n) in
    get_or-values_from new base n i Undef within ∙ each i within ∙ sym (get_or-values_from old base n i Undef within))

pub words_of-stored : (old new : List ℕ) (w n k : ℕ) (we : V4) (word : List V4) → k < w → n ≡ length word
    → Writes old new (k * n) (length word) (λ i. stored we (get_or word i Zero))
    → words_of new w n ≡ set (words_of old w n) k (map (stored we) word)
words_of-stored old new w n k we word within width writes =
    same_words (words_of new w n) (set (words_of old w n) k (map (stored we) word)) w (length-words_of new w n)
    (length-set (words_of old w n) k (map (stored we) word) ∙ length-words_of old w n)
    (λ j h. get_or-words_of new w n j [] h ∙
    elim (cases_eq j k) as (λ _. values_from new (j * n) n ≡ get_or (set (words_of old w n) k (map (stored we) word)) j []) [
      | inl same ↦ rw (same, get_or-set_same (words_of old w n) k (map (stored we) word) [] (rw (length-words_of old w n) within)) (stored_word new n (k * n) we word width writes.inside)
      | inr other ↦
          rw (get_or-set_other (words_of old w n) k j (map (stored we) word) [] other, get_or-words_of old w n j [] h)
          (kept_word old new (j * n) n (λ i small. writes.outside (j * n + i) (apart_places k j n (length word) i width other small)))
    ])

-- what is written where the enable is not 0
map-const : (bits : List V4) (v : V4) → map (λ (_ : V4). v) bits ≡ replicate (length bits) v
map-const [] v = refl
map-const (b ∷ bits) v = ap (λ vs. v ∷ vs) (map-const bits v)

pub written_at_stored : (we : V4) → we ≢ Zero → (k : ℕ) (words : List (List V4)) (d : List V4)
    → written_at we (Some k) words d ≡ set words k (map (stored we) d)
written_at_stored we enabled k words d = grind (arith, map-const d Undef)

pub written_at_forgotten : (we : V4) → we ≢ Zero → (words : List (List V4)) (d : List V4)
    → written_at we None words d ≡ map (λ word. undefined_word (length word)) words
written_at_forgotten we enabled words d = grind arith

-- a bit of a word
pub bit_read : (packed : List ℕ) (w n : ℕ) (words : List (List V4)) (k i : ℕ) → words_of packed w n ≡ words
    → k < w → i < n
    → slice_get (get_or words k []) i ≡ Some (packed_value packed (k * n + i))
bit_read packed w n words k i view within inside =
    let word : get_or words k [] ≡ values_from packed (k * n) n =
    ap (λ ws. get_or ws k []) (sym view) ∙ get_or-words_of packed w n k [] within in
    rw word
    (slice_get-get_or (values_from packed (k * n) n) i Undef (rw (length-values_from packed (k * n) n) inside)
    ∙ ap Some (get_or-values_from packed (k * n) n i Undef inside))

-- a word whole
pub word_read : (packed : List ℕ) (w n : ℕ) (words : List (List V4)) (k m : ℕ) (d : List V4)
    → words_of packed w n ≡ words → k < w → n ≡ m
    → values_from packed (k * n) m ≡ get_or words k d
word_read packed w n words k m d view within width =
    ap (values_from packed (k * n)) (sym width) ∙ sym (get_or-words_of packed w n k d within) ∙ ap (λ ws. get_or ws k d) view
