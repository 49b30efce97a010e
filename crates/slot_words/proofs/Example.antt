-- What words hold, by numbers worked out by hand.
use Rattle.std.proofs.Common.{Some, false, refl, true, ◌+◌, ◌*◌, ◌≡◌}
use Rattle.logic_four.specs.{Values.code_of, declared.V4.TheVariants.Undef}
use Rattle.slot_words.specs.{code.PlainWords.IsTakenOf, declared.crossbar.Taken.TheVariants.Value, plain.Words.is_of}

-- 14 is the word of an undefined value in turn 3, and of no other turn
pub word_of_undefined : 4 * 3 + code_of Undef ≡ 14
word_of_undefined = refl

pub of_turn_3 : is_of 14 3 ≡ true
of_turn_3 = refl

pub taken_in_turn_3 : IsTakenOf (Some 14) (Value Undef)
taken_in_turn_3 = refl

pub not_of_turn_4 : is_of 14 4 ≡ false
not_of_turn_4 = refl

pub nothing_in_turn_1 : is_of 0 1 ≡ false
nothing_in_turn_1 = refl
