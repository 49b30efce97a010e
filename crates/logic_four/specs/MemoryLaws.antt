-- What follows from the definition of the memory act, in the words of a user of a memory.
use Rattle.std.specs.Prelude.{◌≡◌, ◌≢◌, ℕ, ◌^◌, ◌<◌, List, [], ◌∷◌, ◌++◌, length, map, replicate, slice_get, Some, None}
use Rattle.logic_four.specs.Memory.{address_of, undefined_word, read_word, memory_act, initial_words, HasShape}
use Rattle.logic_four.specs.{declared.V4.V4, declared.V4.TheVariants.Zero, declared.V4.TheVariants.One, declared.V4.TheVariants.Undef, Values.settled}

-- bit 0 of an address is its least significant
abbrev pub BitZeroComesFirst : Type 0
BitZeroComesFirst = address_of (Zero ∷ One ∷ One ∷ []) ≡ Some 6

-- an address with a bit that is not 0 or 1 is not known
abbrev pub UndefinedBitsHideAddress : Type 0
UndefinedBitsHideAddress =
    (bit : V4) (bits others : List V4) → settled bit ≡ Undef → address_of (bits ++ bit ∷ others) ≡ None

-- so many address bits name so many words
abbrev pub AddressIsWithin : Type 0
AddressIsWithin =
    (address : List V4) (n : ℕ) → address_of address ≡ Some n → n < 2 ^ length address

-- the outputs of an edge are the word that the address names before it, whatever is written
abbrev pub AnswersOldWord : Type 0
AnswersOldWord =
    (words : List (List V4)) (we : V4) (address d word : List V4) (n : ℕ)
    → address_of address ≡ Some n
    → slice_get words n ≡ Some word
    → (memory_act words we address d).outputs ≡ word

-- where the address is not known, every output is undefined
abbrev pub UnknownAddressAnswersUndefined : Type 0
UnknownAddressAnswersUndefined =
    (words : List (List V4)) (we : V4) (address d : List V4)
    → address_of address ≡ None
    → (memory_act words we address d).outputs ≡ undefined_word (length d)

-- an enable of 0 changes nothing
abbrev pub DisabledKeepsWords : Type 0
DisabledKeepsWords =
    (words : List (List V4)) (address d : List V4) → (memory_act words Zero address d).words ≡ words

-- a later read of a word that was written gives the settled data
abbrev pub ReadsWhatWasWritten : Type 0
ReadsWhatWasWritten =
    (words : List (List V4)) (address d : List V4) (n : ℕ)
    → address_of address ≡ Some n
    → n < length words
    → read_word (memory_act words One address d).words address (length d) ≡ map settled d

-- an undefined enable makes the word undefined
abbrev pub UndefinedEnableHidesWord : Type 0
UndefinedEnableHidesWord =
    (words : List (List V4)) (we : V4) (address d : List V4) (n : ℕ)
    → settled we ≡ Undef
    → address_of address ≡ Some n
    → n < length words
    → read_word (memory_act words we address d).words address (length d) ≡ undefined_word (length d)

-- a write to a known address leaves the words at all other addresses
abbrev pub KeepsOtherWords : Type 0
KeepsOtherWords =
    (words : List (List V4)) (we : V4) (address d other : List V4) (n m bits : ℕ)
    → address_of address ≡ Some n
    → address_of other ≡ Some m
    → m ≢ n
    → read_word (memory_act words we address d).words other bits ≡ read_word words other bits

-- a write that may be enabled, to an address that is not known, makes every word undefined
abbrev pub UnknownAddressHidesAll : Type 0
UnknownAddressHidesAll =
    (words : List (List V4)) (we : V4) (address d : List V4)
    → we ≢ Zero
    → address_of address ≡ None
    → (memory_act words we address d).words ≡ map (λ word. undefined_word (length word)) words

-- a memory begins in its shape
abbrev pub BeginsInShape : Type 0
BeginsInShape = (m n : ℕ) (v : V4) → HasShape m n (initial_words m n v)

-- a memory begins with the initial value in every bit
abbrev pub BeginsAsInitial : Type 0
BeginsAsInitial =
    (address : List V4) (n bits : ℕ) (v : V4)
    → address_of address ≡ Some n
    → read_word (initial_words (length address) bits v) address bits ≡ replicate bits v

-- an edge keeps the shape
abbrev pub KeepsShape : Type 0
KeepsShape =
    (m n : ℕ) (words : List (List V4)) (we : V4) (address d : List V4)
    → HasShape m n words
    → length d ≡ n
    → HasShape m n (memory_act words we address d).words

-- the outputs are as many as a word has bits
abbrev pub OutputsFitWord : Type 0
OutputsFitWord =
    (m n : ℕ) (words : List (List V4)) (we : V4) (address d : List V4)
    → HasShape m n words
    → length address ≡ m
    → length d ≡ n
    → length (memory_act words we address d).outputs ≡ n
