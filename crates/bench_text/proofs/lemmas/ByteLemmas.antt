-- What a byte is, by its class.
use Rattle.std.proofs.Common.{◌≡◌, ℕ, Bool, true, false, Option, Some, None, arith}
use Rattle.text_lines.specs.Bytes.{is_visible, is_hash, is_line_feed, is_return, is_blank}
use Rattle.text_lines.specs.Names.{is_mark, is_name_byte}
use Rattle.bench_text.specs.declared.class.Class.TheVariants.{Name, Sign, Blank, Feed, Return, Hash, Bad}
use Rattle.bench_text.specs.{declared.class.Class.Class, declared.token.Mark.Mark, Bytes.sign_of, Bytes.class_of}

-- the mark of a byte of a class, and whether it is of a name, visible, a blank, LF, CR and `#`
abbrev pub tests_in : Class → Option Mark × Bool × Bool × Bool × Bool × Bool × Bool
tests_in Name = (None, true, true, false, false, false, false)
tests_in (Sign mark) = (Some mark, false, true, false, false, false, false)
tests_in Blank = (None, false, false, true, false, false, false)
tests_in Feed = (None, false, false, false, true, false, false)
tests_in Return = (None, false, false, false, false, true, false)
tests_in Hash = (None, false, true, false, false, false, true)
tests_in Bad = (None, false, false, false, false, false, false)

pub record IsOfClass (byte : ℕ) (class : Class) : Type 0 where
  pub sign : sign_of byte ≡ (tests_in class).0
  pub name : is_name_byte byte ≡ (tests_in class).1
  pub visible : is_visible byte ≡ (tests_in class).2
  pub blank : is_blank byte ≡ (tests_in class).3
  pub feed : is_line_feed byte ≡ (tests_in class).4
  pub return : is_return byte ≡ (tests_in class).5
  pub hash : is_hash byte ≡ (tests_in class).6

pub class_is : (byte : ℕ) → IsOfClass byte (class_of byte)
unfolding class_of sign_of is_name_byte is_mark is_visible is_blank
class_is byte = record { sign = grind arith; name = grind arith; visible = grind arith; blank = grind arith; feed = grind arith; return = grind arith; hash = grind arith }

-- a byte of a name is visible, and no mark, `#` or LF
pub record NameByte (byte : ℕ) : Type 0 where
  pub visible : is_visible byte ≡ true
  pub no_sign : sign_of byte ≡ None
  pub no_hash : is_hash byte ≡ false
  pub no_feed : is_line_feed byte ≡ false

pub named_byte : (byte : ℕ) → is_name_byte byte ≡ true → NameByte byte
unfolding is_name_byte is_mark sign_of is_visible
named_byte byte named = record { visible = grind (arith, named); no_sign = grind (arith, named); no_hash = grind (arith, named); no_feed = grind (arith, named) }
