-- What a byte is in a netlist text.
use Rattle.std.specs.Prelude.{ℕ, ◌==◌, Option, Some, None, if◌then◌else◌}
use Rattle.text_lines.specs.Bytes.{is_line_feed, is_return, is_hash, is_blank}
use Rattle.text_lines.specs.Names.{is_name_byte}
use Rattle.bench_text.specs.declared.class.Class.TheVariants.{Name, Sign, Blank, Feed, Return, Hash, Bad}
use Rattle.bench_text.specs.declared.token.Mark.TheVariants.{Open, Close, Comma, Equals, Semi, Left, Right}
use Rattle.bench_text.specs.declared.{class.Class.Class, token.Mark.Mark}

-- the mark of a byte that is a token by itself
unfoldable pub sign_of : ℕ → Option Mark
sign_of byte =
    if byte == 40 then Some Open
    else if byte == 41 then Some Close
    else if byte == 44 then Some Comma
    else if byte == 61 then Some Equals
    else if byte == 59 then Some Semi
    else if byte == 91 then Some Left
    else if byte == 93 then Some Right
    else None

-- the class of a byte that is no mark
abbrev pub unsigned_class : ℕ → Class
unsigned_class byte =
    if is_name_byte byte then Name
    else if is_blank byte then Blank
    else if is_line_feed byte then Feed
    else if is_return byte then Return
    else if is_hash byte then Hash
    else Bad

abbrev pub class_by : ℕ → Option Mark → Class
class_by byte None = unsigned_class byte
class_by byte (Some mark) = Sign mark

-- what a byte is: a mark, of a name, a blank, LF, CR, `#`, or none of these
unfoldable pub class_of : ℕ → Class
class_of byte = class_by byte (sign_of byte)
