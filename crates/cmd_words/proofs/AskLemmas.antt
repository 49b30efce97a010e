-- What arguments and values say, said of a parse.
use Rattle.std.proofs.Common.{◌≡◌, inl, inr, ℕ, List, [], ◌∷◌, Option, Some, None, option_map, refl, sym, ap, ap₂, ◌∙◌}
use Rattle.std.specs.Prelude.{option_and_then, codes, Result, Ok, Err}
use Rattle.std.specs.Result.{IsErrAnd}
use Rattle.list_laws.proofs.Options.{one_some}
use Rattle.clap.specs.declared.parser.matches.ArgMatches.{ArgMatches}
use Rattle.net_defs.specs.declared.{homes.HomeChoice.HomeChoice, timing.Timing.Timing}
use Rattle.cmd_words.specs.Asked.{Answers, IsRefusal, Values, image_by, of_image, of_large, of_netlist, of_topic, of_two_files, large_by, run_by, run_with, says}
use Rattle.cmd_words.specs.code.Parses.{arguments_found, both_of, of_word, one_of, perhaps_one_of, three_of, value_found, settings_by, IsParsedAs}
use Rattle.cmd_words.specs.Settings.{timing_by, banks_by, workers_by, homes_by}
use Rattle.cmd_words.specs.{declared.command.RunWords.RunWords, declared.command.WordNo.WordNo, Arguments.Word, Arguments.value_given, Uses.Found}

-- what words say is what a parse of them found says
pub says_found : {T : Type 0} (names words : List Word) (reading : List Word → Values → Option T) (matches : ArgMatches) → IsParsedAs names words matches
    → says names reading words ≡ reading (arguments_found matches) (value_found matches)
says_found names words reading matches is =
    ap (option_and_then (λ (found : Found). reading found.arguments (value_given found.given))) is.parsed_as ∙ sym (ap₂ reading is.arguments is.values)

-- the two words
both_are : (arguments : List Word) (one other : Word) → both_of arguments ≡ Some (one, other) → arguments ≡ one ∷ other ∷ []
both_are (first ∷ second ∷ []) one other e = ap (λ (both : Word × Word). both.0 ∷ both.1 ∷ []) (one_some (first, second) (one, other) e)
both_are [] one other e = cc
both_are (first ∷ []) one other e = cc
both_are (first ∷ second ∷ third ∷ others) one other e = cc

pub says_two : (names words : List Word) (matches : ArgMatches) (netlist stimulus : Word) → IsParsedAs names words matches
    → Some (netlist, stimulus) ≡ both_of (arguments_found matches) → says names of_two_files words ≡ run_by netlist stimulus (value_found matches)
says_two names words matches netlist stimulus is both =
    says_found names words of_two_files matches is
    ∙ ap (λ arguments. of_two_files arguments (value_found matches)) (both_are (arguments_found matches) netlist stimulus (sym both))

pub says_large : (names words : List Word) (matches : ArgMatches) (gates cycles : Word) → IsParsedAs names words matches
    → Some (gates, cycles) ≡ both_of (arguments_found matches) → says names of_large words ≡ large_by gates cycles (value_found matches)
says_large names words matches gates cycles is both =
    says_found names words of_large matches is
    ∙ ap (λ arguments. of_large arguments (value_found matches)) (both_are (arguments_found matches) gates cycles (sym both))

-- the three words
three_are : (arguments : List Word) (one other third : Word) → three_of arguments ≡ Some (one, other, third) → arguments ≡ one ∷ other ∷ third ∷ []
three_are (first ∷ second ∷ last ∷ []) one other third e =
    ap (λ (three : Word × Word × Word). three.0 ∷ three.1 ∷ three.2 ∷ []) (one_some (first, second, last) (one, other, third) e)
three_are [] one other third e = cc
three_are (first ∷ []) one other third e = cc
three_are (first ∷ second ∷ []) one other third e = cc
three_are (first ∷ second ∷ last ∷ more ∷ others) one other third e = cc

pub says_image : (names words : List Word) (matches : ArgMatches) (netlist image stimulus : Word) → IsParsedAs names words matches
    → Some (netlist, image, stimulus) ≡ three_of (arguments_found matches) → says names of_image words ≡ image_by netlist image stimulus (value_found matches)
says_image names words matches netlist image stimulus is three =
    says_found names words of_image matches is
    ∙ ap (λ arguments. of_image arguments (value_found matches)) (three_are (arguments_found matches) netlist image stimulus (sym three))

-- one word is the file of a netlist
one_is : (arguments : List Word) (value : Values) (netlist : Word) → one_of arguments ≡ Some netlist → of_netlist arguments value ≡ run_by netlist [] value
one_is (one ∷ []) value netlist e = ap (λ (file : Word). run_by file [] value) (one_some one netlist e)
one_is [] value netlist e = cc
one_is (one ∷ other ∷ others) value netlist e = cc

pub says_netlist : (names words : List Word) (matches : ArgMatches) (netlist : Word) → IsParsedAs names words matches
    → Some netlist ≡ one_of (arguments_found matches) → says names of_netlist words ≡ run_by netlist [] (value_found matches)
says_netlist names words matches netlist is one =
    says_found names words of_netlist matches is ∙ one_is (arguments_found matches) (value_found matches) netlist (sym one)

-- no word, or one, is what help is asked of
topic_is : (arguments : List Word) (value : Values) (word : Option Word) → perhaps_one_of arguments ≡ Some word → of_topic arguments value ≡ of_word word
topic_is [] value word e = ap of_word (one_some None word e)
topic_is (one ∷ []) value word e = ap of_word (one_some (Some one) word e)
topic_is (one ∷ other ∷ others) value word e = cc

pub says_topic : (names words : List Word) (matches : ArgMatches) (word : Option Word) → IsParsedAs names words matches
    → Some word ≡ perhaps_one_of (arguments_found matches) → says names of_topic words ≡ of_word word
says_topic names words matches word is perhaps =
    says_found names words of_topic matches is ∙ topic_is (arguments_found matches) (value_found matches) word (sym perhaps)

-- what is refused asks for no command
pub refused_made : {T U : Type 0} (make : T → U) (answer : Option T) (given : WordNo) (result : Result U WordNo) → IsErrAnd result (λ no. no ≡ given) → IsRefusal answer given → Answers result (option_map make answer)
refused_made make answer given (Ok x) says refused = absurd says
refused_made make answer given (Err refusal) says (inl full) = inl (says ∙ full)
refused_made make answer given (Err refusal) says (inr usage) = inr (says ∙ usage.0, ap (option_map make) usage.1)

-- ---- a simulation, by its settings and its files

-- what two files, the values of options and settings ask for
abbrev pub run_of : Word → Word → Values → Timing × ℕ × ℕ × HomeChoice → RunWords
run_of netlist stimulus value settings = record {
  netlist = netlist;
  stimulus = stimulus;
  machine = value (codes "machine");
  order = value (codes "order");
  last = value (codes "last");
  timing = settings.0;
  banks = settings.1;
  workers = settings.2;
  homes = settings.3;
  faults = value (codes "faults");
}

pub run_set : (netlist stimulus : Word) (value : Values) → run_by netlist stimulus value ≡ option_map (run_of netlist stimulus value) (settings_by value)
run_set netlist stimulus value = go (timing_by value) (banks_by value) (workers_by value) (homes_by value) where
  go : (timing : Option Timing) (banks workers : Option ℕ) (homes : Option HomeChoice)
      → run_with netlist stimulus value timing banks workers homes
      ≡ option_map (run_of netlist stimulus value) (option_and_then (λ banks. option_and_then (λ workers. option_and_then (λ homes. option_and_then (λ timing.
      Some (timing, banks, workers, homes)) timing) homes) workers) banks)
  go (Some timing) (Some banks) (Some workers) (Some homes) = refl
  go (Some timing) (Some banks) (Some workers) None = refl
  go (Some timing) (Some banks) None homes = refl
  go (Some timing) None workers homes = refl
  go None (Some banks) (Some workers) (Some homes) = refl
  go None (Some banks) (Some workers) None = refl
  go None (Some banks) None homes = refl
  go None None workers homes = refl
