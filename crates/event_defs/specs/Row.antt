-- The words of all sends in one row: port after port, send after send, bank after bank.
use Rattle.std.specs.Prelude.{ℕ, ◌+◌, ◌*◌, ◌&&◌, nat_lt, if◌then◌else◌, List, length, slice_get, slice_index_or}
use Rattle.image_defs.specs.declared.image.Image.{Image}
use Rattle.event_defs.specs.Counts.{sum_to, of_port}

-- how many sends port p has in a turn, and how many all ports before it
abbrev pub sends_of : Image → ℕ → ℕ
sends_of image p = of_port (λ port. length port.outs) (slice_get image.ports p)

abbrev pub sends_before : Image → ℕ → ℕ
sends_before image p = sum_to p (sends_of image)

-- how many sends there are
abbrev pub send_count : Image → ℕ
send_count image = sends_before image (length image.ports)

-- the number of send number i of port p among all sends
abbrev pub send_number : Image → ℕ → ℕ → ℕ
send_number image p i = sends_before image p + i

-- where bank b of a send stands in the row, by the number of the send among all sends
abbrev pub word_place : ℕ → ℕ → ℕ → ℕ
word_place banks send b = send * banks + b

-- the word of bank b of send number i of port p, and 0 where there is none
abbrev pub word_in : Image → ℕ → List ℕ → ℕ → ℕ → ℕ → ℕ
word_in image banks words p i b =
    if nat_lt i (sends_of image p) && nat_lt b banks then slice_index_or words (word_place banks (send_number image p i) b) 0 else 0
