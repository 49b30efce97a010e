-- The names that texts give to signals.
use Rattle.std.specs.Prelude.{ℕ, ◌≤◌, Bool, ◌==◌, ◌&&◌, ◌||◌, not, List, length, IsTrue}
use Rattle.std.specs.List.{list_all}
use Rattle.limits.specs.declared.TheConstants.{MAX_NAME_BYTES}
use Rattle.text_lines.specs.Bytes.{is_visible, is_hash}

-- one of the marks `(` `)` `,` `=` `;` `[` `]`
unfoldable pub is_mark : ℕ → Bool
is_mark byte = byte == 40 || byte == 41 || byte == 44 || byte == 61 || byte == 59 || byte == 91 || byte == 93

-- a byte that may stand in a name: 0x21 to 0x7E, no mark and no comment sign
unfoldable pub is_name_byte : ℕ → Bool
is_name_byte byte = is_visible byte && not (is_mark byte) && not (is_hash byte)

-- a name: 1 to 255 such bytes
pub record IsName (name : List ℕ) : Type 0 where
  pub some : 1 ≤ length name
  pub short : length name ≤ MAX_NAME_BYTES
  pub bytes : IsTrue (list_all is_name_byte name)
