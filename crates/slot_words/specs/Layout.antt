-- Which word of a crossbar is whose: first the progress word of each port, then the words of all sends, port
-- after port, send after send, bank after bank.
use Rattle.std.specs.Prelude.{ℕ, ◌+◌, ◌*◌, ◌==◌, if◌then◌else◌, List, drop, length, nat_lt, slice_index_or}
use Rattle.image_defs.specs.declared.image.Image.{Image}
use Rattle.event_defs.specs.Row.{send_count, send_number, word_in, word_place}
use Rattle.slot_words.specs.declared.rule.TheConstants.{UNCLAIMED}

-- how many words there are
abbrev pub word_count : Image → ℕ → ℕ
word_count image banks = length image.ports + send_count image * banks

-- where the progress word of port p stands, and where that of bank b of send number i of port p
abbrev pub progress_word : ℕ → ℕ
progress_word p = p

abbrev pub send_word : Image → ℕ → ℕ → ℕ → ℕ → ℕ
send_word image banks p i b = length image.ports + word_place banks (send_number image p i) b

-- the number in port p's progress word
abbrev pub progress_in : List ℕ → ℕ → ℕ
progress_in words p = slice_index_or words (progress_word p) 0

-- the turns that a progress word tells to be finished: an unclaimed one tells of none
abbrev pub turns_told : ℕ → ℕ
turns_told number = if number == UNCLAIMED then 0 else number

-- what a word tells who looks at it: a progress word the turns that are finished, and a word of a send its number
abbrev pub told_in : Image → List ℕ → ℕ → ℕ
told_in image words word = if nat_lt word (length image.ports) then turns_told (progress_in words word) else slice_index_or words word 0

-- the number in the word of bank b of send number i of port p
abbrev pub sent_in : Image → ℕ → List ℕ → ℕ → ℕ → ℕ → ℕ
sent_in image banks words = word_in image banks (drop (length image.ports) words)
