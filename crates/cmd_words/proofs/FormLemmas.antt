-- The command that words ask for is the one whose form they have.
use Rattle.std.proofs.Common.{◌≡◌, inl, inr, ℕ, Bool, true, false, List, [], ◌∷◌, Option, Some, None, option_map, refl, sym, subst, ap, ap₂, ◌∙◌, codes}
use Rattle.std.proofs.lemmas.Slice.Eq.{bytes_eq-Decides}
use Rattle.std.specs.Prelude.{bytes_eq, cond, find, flat_map, if◌then◌else◌, option_and_then, Result, Ok, Err, MatchResult}
use Rattle.std.specs.List.{AllByRecursion, list_all}
use Rattle.list_laws.proofs.Options.{one_some}
use Rattle.net_defs.specs.declared.{homes.HomeChoice.HomeChoice, timing.Timing.Timing}
use Rattle.cmd_words.specs.declared.command.Command.TheVariants.{Run, Refer, Order, Plan, Compile, Exec, Pack, Fault, Cover, Show, Large, Help}
use Rattle.cmd_words.specs.Arguments.{Word, Piece, alone, spaced, joined, options_of, IsPiece, AreArguments, value_given}
use Rattle.cmd_words.specs.Asked.{Values, asked, of_image, of_large, of_netlist, of_one_file, of_topic, of_two_files, large_with, run_by, run_with, says, Answers}
use Rattle.cmd_words.specs.Forms.{HasForm, HasNoForm, IsCall, IsLarge, IsOfTopic, IsRun}
use Rattle.cmd_words.specs.Settings.{run_options, refer_options, order_options, plan_options, compile_options, exec_options, pack_options, fault_options, cover_options, show_options, large_options, help_options, timing_by, banks_by, workers_by, homes_by, gates_of, cycles_of}
use Rattle.cmd_words.specs.Topics.{topic_of, topic_words, topics, word_of}
use Rattle.cmd_words.specs.declared.{command.Command.Command, command.RunWords.RunWords, command.WordNo.WordNo, topic.Topic.Topic}
use Rattle.cmd_words.specs.Uses.{Found, parsed}
use Rattle.cmd_words.specs.declared.topic.Topic.TheVariants as topic
use Rattle.cmd_words.proofs.{ArgumentLemmas.arguments_from, ArgumentLemmas.parsed_from, AskLemmas.run_of, LookLemmas.is_proper}

-- ---- from the form to what is asked

-- what the words of a call say
call_says : {T : Type 0} (names : List Word) → list_all is_proper names ≡ true → (reading : List Word → Values → Option T) (name : Word) (words arguments : List Word) (given : List (Word × Word))
    → (call : IsCall name names words arguments given) → says names reading call.others ≡ reading arguments (value_given given)
call_says names proper reading name words arguments given call =
    ap (option_and_then (λ (found : Found). reading found.arguments (value_given found.given))) (parsed_from names proper call.others arguments given call.arguments_are)

-- the simulation of a form's values
form_run : (name : Word) (names words arguments : List Word) (run : RunWords) → (form : IsRun name names words arguments run)
    → run_by run.netlist run.stimulus (value_given form.given) ≡ Some run
form_run name names words arguments run form =
    let value = value_given form.given in
    ap₂ (λ timing banks. run_with run.netlist run.stimulus value timing banks (workers_by value) (homes_by value)) form.timing form.banks
    ∙ ap₂ (run_with run.netlist run.stimulus value (Some run.timing) (Some run.banks)) form.workers form.homes
    ∙ ap₂ (λ machine order. Some (record run { machine = machine; order = order; last = value (codes "last"); faults = value (codes "faults") })) (sym form.machine) (sym form.order)
    ∙ ap₂ (λ last faults. Some (record run { last = last; faults = faults })) (sym form.last) (sym form.faults)

run_says : (names : List Word) → list_all is_proper names ≡ true → (name : Word) (words : List Word) (run : RunWords) → (form : IsRun name names words (run.netlist ∷ run.stimulus ∷ []) run)
    → says names of_two_files form.call.others ≡ Some run
run_says names proper name words run form =
    call_says names proper of_two_files name words (run.netlist ∷ run.stimulus ∷ []) form.given form.call
    ∙ form_run name names words (run.netlist ∷ run.stimulus ∷ []) run form

layout_says : (names : List Word) → list_all is_proper names ≡ true → (name : Word) (words : List Word) (run : RunWords) → (form : IsRun name names words (run.netlist ∷ []) run) → run.stimulus ≡ []
    → says names of_netlist form.call.others ≡ Some run
layout_says names proper name words run form none =
    call_says names proper of_netlist name words (run.netlist ∷ []) form.given form.call
    ∙ ap (λ stimulus. run_by run.netlist stimulus (value_given form.given)) (sym none)
    ∙ form_run name names words (run.netlist ∷ []) run form

image_says : (words : List Word) (run : RunWords) (image : Word) → (form : IsRun (codes "exec") exec_options words (run.netlist ∷ image ∷ run.stimulus ∷ []) run)
    → says exec_options of_image form.call.others ≡ Some (Exec run image)
image_says words run image form =
    call_says exec_options refl of_image (codes "exec") words (run.netlist ∷ image ∷ run.stimulus ∷ []) form.given form.call
    ∙ ap (option_map (λ run. Exec run image)) (form_run (codes "exec") exec_options words (run.netlist ∷ image ∷ run.stimulus ∷ []) run form)

large_says : (words : List Word) (gates cycles workers : ℕ) → (form : IsLarge words gates cycles workers)
    → says large_options of_large form.call.others ≡ Some (Large gates cycles workers)
large_says words gates cycles workers form =
    call_says large_options refl of_large (codes "large") words (form.gates_word ∷ form.cycles_word ∷ []) form.given form.call
    ∙ ap₂ (λ gates cycles. large_with gates cycles (workers_by (value_given form.given))) form.gates_are form.cycles_are
    ∙ ap (large_with (Some gates) (Some cycles)) form.workers_are

-- the word of a command is that of it alone
named_topic : (topic : Topic) → topic_of (word_of topic) ≡ Some topic
named_topic topic.Run = refl
named_topic topic.Refer = refl
named_topic topic.Order = refl
named_topic topic.Plan = refl
named_topic topic.Show = refl
named_topic topic.Large = refl
named_topic topic.Compile = refl
named_topic topic.Exec = refl
named_topic topic.Pack = refl
named_topic topic.Fault = refl
named_topic topic.Cover = refl
named_topic topic.Help = refl

topic_said : (value : Values) (topic : Option Topic) → of_topic (topic_words topic) value ≡ Some topic
topic_said value None = refl
topic_said value (Some topic) = ap (option_map Some) (named_topic topic)

pub asked_from : (words : List Word) (command : Command) → HasForm words command → asked words ≡ Some command
unfolding asked
asked_from words (Run run) form = rw (form.call.words_are) (ap (option_map Run) (run_says run_options refl (codes "run") words run form))
asked_from words (Refer run) form = rw (form.call.words_are) (ap (option_map Refer) (run_says refer_options refl (codes "refer") words run form))
asked_from words (Order run) form = rw (form.call.words_are) (ap (option_map Order) (run_says order_options refl (codes "order") words run form))
asked_from words (Plan run) form = rw (form.0.call.words_are) (ap (option_map Plan) (layout_says plan_options refl (codes "plan") words run form.0 form.1))
asked_from words (Compile run) form = rw (form.0.call.words_are) (ap (option_map Compile) (layout_says compile_options refl (codes "compile") words run form.0 form.1))
asked_from words (Exec run image) form = rw (form.call.words_are) (image_says words run image form)
asked_from words (Pack run) form = rw (form.call.words_are) (ap (option_map Pack) (run_says pack_options refl (codes "pack") words run form))
asked_from words (Fault run) form = rw (form.call.words_are) (ap (option_map Fault) (run_says fault_options refl (codes "fault") words run form))
asked_from words (Cover run) form = rw (form.call.words_are) (ap (option_map Cover) (run_says cover_options refl (codes "cover") words run form))
asked_from words (Show netlist) form = rw (form.words_are) (ap (option_map Show) (call_says show_options refl of_one_file (codes "show") words (netlist ∷ []) [] form))
asked_from words (Large gates cycles workers) form = rw (form.call.words_are) (large_says words gates cycles workers form)
asked_from words (Help topic) form =
    rw (form.words_are) (ap (option_map Help) (call_says help_options refl of_topic (codes "help") words (topic_words topic) [] form ∙ topic_said (value_given []) topic))

-- ---- from what is asked to the form

record SaysSo {T : Type 0} (names : List Word) (reading : List Word → Values → Option T) (words : List Word) (answer : T) : Type 0 where
  pub found : Found
  pub arguments : AreArguments names words found.arguments found.given
  pub answers : reading found.arguments (value_given found.given) ≡ Some answer

says_back : {T : Type 0} (names : List Word) (reading : List Word → Values → Option T) (words : List Word) (answer : T) → says names reading words ≡ Some answer → SaysSo names reading words answer
says_back names reading words answer e = go (parsed names words) refl e
  where
    go : (given : Option Found) → parsed names words ≡ given → option_and_then (λ (found : Found). reading found.arguments (value_given found.given)) given ≡ Some answer
        → SaysSo names reading words answer
    go None is e = cc
    go (Some found) is e = record { found = found; arguments = arguments_from names words found is; answers = e }

-- what a command of one form was made of
record IsMade {T : Type 0} (make : T → Command) (given : Option T) (command : Command) : Type 0 where
  pub answer : T
  pub given_is : given ≡ Some answer
  pub command_is : command ≡ make answer

made_back : {T : Type 0} (make : T → Command) (given : Option T) (command : Command) → option_map make given ≡ Some command → IsMade make given command
made_back make None command e = cc
made_back make (Some answer) command e = record { answer = answer; given_is = refl; command_is = cc }

-- the run has what the values of options say
record IsSetBy (value : Values) (run : RunWords) : Type 0 where
  pub machine : run.machine ≡ value (codes "machine")
  pub order : run.order ≡ value (codes "order")
  pub last : run.last ≡ value (codes "last")
  pub timing : timing_by value ≡ Some run.timing
  pub banks : banks_by value ≡ Some run.banks
  pub workers : workers_by value ≡ Some run.workers
  pub homes : homes_by value ≡ Some run.homes
  pub faults : run.faults ≡ value (codes "faults")

run_back : (netlist stimulus : Word) (value : Values) (run : RunWords) → run_by netlist stimulus value ≡ Some run → (netlist ≡ run.netlist) × (stimulus ≡ run.stimulus) × IsSetBy value run
run_back netlist stimulus value run e = go (timing_by value) (banks_by value) (workers_by value) (homes_by value) refl refl refl refl e
  where
    go : (timing : Option Timing) (banks workers : Option ℕ) (homes : Option HomeChoice) → timing_by value ≡ timing → banks_by value ≡ banks → workers_by value ≡ workers → homes_by value ≡ homes
        → run_with netlist stimulus value timing banks workers homes ≡ Some run → (netlist ≡ run.netlist) × (stimulus ≡ run.stimulus) × IsSetBy value run
    go (Some timing) (Some banks) (Some workers) (Some homes) t b w h e =
        subst (λ (run : RunWords). (netlist ≡ run.netlist) × (stimulus ≡ run.stimulus) × IsSetBy value run) (one_some (run_of netlist stimulus value (timing, banks, workers, homes)) run e)
        (refl, refl, record { machine = refl; order = refl; last = refl; timing = t; banks = b; workers = w; homes = h; faults = refl })
    go (Some timing) (Some banks) (Some workers) None t b w h e = cc
    go (Some timing) (Some banks) None homes t b w h e = cc
    go (Some timing) None workers homes t b w h e = cc
    go None banks workers homes t b w h e = cc

-- arguments that are these files are of the form of a run that has what their options say
form_of : (names : List Word) (name : Word) (words files : List Word) (found : Found) (run : RunWords) → AreArguments names words found.arguments found.given → found.arguments ≡ files
    → IsSetBy (value_given found.given) run → IsRun name names (name ∷ words) files run
form_of names name words files found run are is set = record {
  given = found.given;
  call = record { others = words; words_are = refl; arguments_are = rw is at are };
  machine = set.machine;
  order = set.order;
  last = set.last;
  timing = set.timing;
  banks = set.banks;
  workers = set.workers;
  homes = set.homes;
  faults = set.faults;
}

two_back : (arguments : List Word) (value : Values) (run : RunWords) → of_two_files arguments value ≡ Some run → (arguments ≡ run.netlist ∷ run.stimulus ∷ []) × IsSetBy value run
two_back (netlist ∷ stimulus ∷ []) value run e =
    let is = run_back netlist stimulus value run e in
    (ap₂ (λ (netlist stimulus : Word). netlist ∷ stimulus ∷ []) is.0 is.1, is.2)
two_back [] value run e = cc
two_back (one ∷ []) value run e = cc
two_back (one ∷ other ∷ third ∷ others) value run e = cc

run_form : (names : List Word) (name : Word) (words : List Word) (run : RunWords) → says names of_two_files words ≡ Some run
    → IsRun name names (name ∷ words) (run.netlist ∷ run.stimulus ∷ []) run
run_form names name words run e =
    let so = says_back names of_two_files words run e in
    let is = two_back so.found.arguments (value_given so.found.given) run so.answers in
    form_of names name words _ so.found run so.arguments is.0 is.1

-- the one file of a layout, which has no stimulus
layout_back : (arguments : List Word) (value : Values) (run : RunWords) → of_netlist arguments value ≡ Some run → (arguments ≡ run.netlist ∷ []) × (run.stimulus ≡ []) × IsSetBy value run
layout_back (netlist ∷ []) value run e =
    let is = run_back netlist [] value run e in
    (ap (λ (word : Word). word ∷ []) is.0, sym is.1, is.2)
layout_back [] value run e = cc
layout_back (one ∷ other ∷ others) value run e = cc

layout_form : (names : List Word) (name : Word) (words : List Word) (run : RunWords) → says names of_netlist words ≡ Some run
    → IsRun name names (name ∷ words) (run.netlist ∷ []) run × (run.stimulus ≡ [])
layout_form names name words run e =
    let so = says_back names of_netlist words run e in
    let is = layout_back so.found.arguments (value_given so.found.given) run so.answers in
    (form_of names name words _ so.found run so.arguments is.0 is.2, is.1)

-- a simulation by an image
record IsImageMade (arguments : List Word) (value : Values) (command : Command) : Type 0 where
  pub run : RunWords
  pub image : Word
  pub command_is : command ≡ Exec run image
  pub arguments_are : arguments ≡ run.netlist ∷ image ∷ run.stimulus ∷ []
  pub set : IsSetBy value run

image_back : (arguments : List Word) (value : Values) (command : Command) → of_image arguments value ≡ Some command → IsImageMade arguments value command
image_back (netlist ∷ image ∷ stimulus ∷ []) value command e = go (run_by netlist stimulus value) refl e
  where
    go : (run : Option RunWords) → run_by netlist stimulus value ≡ run → option_map (λ run. Exec run image) run ≡ Some command
        → IsImageMade (netlist ∷ image ∷ stimulus ∷ []) value command
    go None by e = cc
    go (Some run) by e =
        let is = run_back netlist stimulus value run by in
        record {
          run = run;
          image = image;
          command_is = sym (one_some (Exec run image) command e);
          arguments_are = ap₂ (λ (netlist stimulus : Word). netlist ∷ image ∷ stimulus ∷ []) is.0 is.1;
          set = is.2;
        }
image_back [] value command e = cc
image_back (one ∷ []) value command e = cc
image_back (one ∷ other ∷ []) value command e = cc
image_back (one ∷ other ∷ third ∷ fourth ∷ others) value command e = cc

image_form : (words : List Word) (command : Command) → says exec_options of_image words ≡ Some command → HasForm (codes "exec" ∷ words) command
image_form words command e =
    let so = says_back exec_options of_image words command e in
    let made = image_back so.found.arguments (value_given so.found.given) command so.answers in
    rw (made.command_is) (form_of exec_options (codes "exec") words _ so.found made.run so.arguments made.arguments_are made.set)

one_back : (arguments : List Word) (value : Values) (netlist : Word) → of_one_file arguments value ≡ Some netlist → arguments ≡ netlist ∷ []
one_back (one ∷ []) value netlist e = let same : one ≡ netlist = cc in ap (λ word. word ∷ []) same
one_back [] value netlist e = cc
one_back (one ∷ other ∷ others) value netlist e = cc

-- a command without options is given none
no_options : (pieces : List Piece) → AllByRecursion (IsPiece []) pieces → flat_map options_of pieces ≡ []
no_options [] are = refl
no_options (alone word ∷ pieces) are = no_options pieces are.1
no_options (spaced name value ∷ pieces) are = let bad : false ≡ true = are.0.0 in cc
no_options (joined name value ∷ pieces) are = let bad : false ≡ true = are.0.0 in cc

-- such a command, by what its arguments are
bare_form : {T : Type 0} (reading : List Word → Values → Option T) (name : Word) (words arguments : List Word) (answer : T)
    → ((found : List Word) (value : Values) → reading found value ≡ Some answer → found ≡ arguments) → says [] reading words ≡ Some answer → IsCall name [] (name ∷ words) arguments []
bare_form reading name words arguments answer back e =
    let so = says_back [] reading words answer e in
    let none : so.found.given ≡ [] = so.arguments.given_are ∙ no_options so.arguments.pieces so.arguments.pieces_are in
    record {
      others = words;
      words_are = refl;
      arguments_are = rw (back so.found.arguments (value_given so.found.given) so.answers, none) at so.arguments;
    }

show_form : (words : List Word) (netlist : Word) → says show_options of_one_file words ≡ Some netlist → IsCall (codes "show") show_options (codes "show" ∷ words) (netlist ∷ []) []
show_form words netlist = bare_form of_one_file (codes "show") words (netlist ∷ []) netlist (λ found value. one_back found value netlist)

-- a command of a generated design, by its numbers
record IsLargeMade (arguments : List Word) (value : Values) (command : Command) : Type 0 where
  pub gates : ℕ
  pub cycles : ℕ
  pub workers : ℕ
  pub command_is : command ≡ Large gates cycles workers
  pub gates_word : Word
  pub cycles_word : Word
  pub arguments_are : arguments ≡ gates_word ∷ cycles_word ∷ []
  pub gates_are : gates_of gates_word ≡ Some gates
  pub cycles_are : cycles_of cycles_word ≡ Some cycles
  pub workers_are : workers_by value ≡ Some workers

large_back : (arguments : List Word) (value : Values) (command : Command) → of_large arguments value ≡ Some command → IsLargeMade arguments value command
large_back (gates ∷ cycles ∷ []) value command e = go (gates_of gates) (cycles_of cycles) (workers_by value) refl refl refl e
  where
    go : (g c w : Option ℕ) → gates_of gates ≡ g → cycles_of cycles ≡ c → workers_by value ≡ w
        → large_with g c w ≡ Some command → IsLargeMade (gates ∷ cycles ∷ []) value command
    go (Some g) (Some c) (Some w) gs cs ws e =
        record {
          gates = g;
          cycles = c;
          workers = w;
          command_is = sym (one_some (Large g c w) command e);
          gates_word = gates;
          cycles_word = cycles;
          arguments_are = refl;
          gates_are = gs;
          cycles_are = cs;
          workers_are = ws;
        }
    go (Some g) (Some c) None gs cs ws e = cc
    go (Some g) None w gs cs ws e = cc
    go None c w gs cs ws e = cc
large_back [] value command e = cc
large_back (one ∷ []) value command e = cc
large_back (one ∷ other ∷ third ∷ others) value command e = cc

large_form : (words : List Word) (command : Command) → says large_options of_large words ≡ Some command → HasForm (codes "large" ∷ words) command
large_form words command e =
    let so = says_back large_options of_large words command e in
    let made = large_back so.found.arguments (value_given so.found.given) command so.answers in
    rw (made.command_is) (record {
      gates_word = made.gates_word;
      cycles_word = made.cycles_word;
      given = so.found.given;
      call = record { others = words; words_are = refl; arguments_are = rw (made.arguments_are) at so.arguments };
      gates_are = made.gates_are;
      cycles_are = made.cycles_are;
      workers_are = made.workers_are;
    })

-- what is found of a word is a command of this word
found_topic : (word : Word) (others : List Topic) (topic : Topic) → find (λ topic. bytes_eq word (word_of topic)) others ≡ Some topic → word ≡ word_of topic
found_topic word [] topic e = cc
found_topic word (first ∷ others) topic e = go (bytes_eq word (word_of first)) refl (λ e. found_topic word others topic e) e
  where
    go : (same : Bool) → bytes_eq word (word_of first) ≡ same → (find (λ topic. bytes_eq word (word_of topic)) others ≡ Some topic → word ≡ word_of topic)
        → cond same (Some first) (find (λ topic. bytes_eq word (word_of topic)) others) ≡ Some topic → word ≡ word_of topic
    go true is later e = (bytes_eq-Decides word (word_of first)).0 is ∙ ap word_of (one_some first topic e)
    go false is later e = later e

topic_back : (arguments : List Word) (value : Values) (topic : Option Topic) → of_topic arguments value ≡ Some topic → arguments ≡ topic_words topic
topic_back [] value topic e = ap topic_words (one_some None topic e)
topic_back (word ∷ []) value topic e = go (topic_of word) refl e
  where
    go : (found : Option Topic) → topic_of word ≡ found → option_map Some found ≡ Some topic → word ∷ [] ≡ topic_words topic
    go None is e = cc
    go (Some one) is e = ap (λ (word : Word). word ∷ []) (found_topic word topics one is) ∙ ap topic_words (one_some (Some one) topic e)
topic_back (one ∷ other ∷ others) value topic e = cc

help_form : (words : List Word) (topic : Option Topic) → says help_options of_topic words ≡ Some topic → IsCall (codes "help") help_options (codes "help" ∷ words) (topic_words topic) []
help_form words topic = bare_form of_topic (codes "help") words (topic_words topic) topic (λ found value. topic_back found value topic)

-- a command is the one that is named, or one of the others
picked : (name text : Word) (words : List Word) (given rest : Option Command) (command : Command)
    → (if bytes_eq name text then given else rest) ≡ Some command
    → (given ≡ Some command → HasForm (text ∷ words) command)
    → (rest ≡ Some command → HasForm (name ∷ words) command) → HasForm (name ∷ words) command
picked name text words given rest command e this others = go (bytes_eq name text) refl e
  where
    go : (same : Bool) → bytes_eq name text ≡ same → (if same then given else rest) ≡ Some command → HasForm (name ∷ words) command
    go true is e = rw ((bytes_eq-Decides name text).0 is) (this e)
    go false is e = others e

-- the command has the form if what it is made of gives it
made : {T : Type 0} (words : List Word) (make : T → Command) (given : Option T) (command : Command)
    → ((answer : T) → given ≡ Some answer → HasForm words (make answer)) → option_map make given ≡ Some command → HasForm words command
made words make given command this e =
    let is = made_back make given command e in
    rw (is.command_is) (this is.answer is.given_is)

pub form_from : (words : List Word) (command : Command) → asked words ≡ Some command → HasForm words command
unfolding asked
form_from [] command e = cc
form_from (name ∷ words) command e =
    picked name (codes "run") words _ _ command e (made (codes "run" ∷ words) Run (says run_options of_two_files words) command (run_form run_options (codes "run") words)) (λ e.
    picked name (codes "refer") words _ _ command e (made (codes "refer" ∷ words) Refer (says refer_options of_two_files words) command (run_form refer_options (codes "refer") words)) (λ e.
    picked name (codes "order") words _ _ command e (made (codes "order" ∷ words) Order (says order_options of_two_files words) command (run_form order_options (codes "order") words)) (λ e.
    picked name (codes "plan") words _ _ command e (made (codes "plan" ∷ words) Plan (says plan_options of_netlist words) command (layout_form plan_options (codes "plan") words)) (λ e.
    picked name (codes "compile") words _ _ command e (made (codes "compile" ∷ words) Compile (says compile_options of_netlist words) command (layout_form compile_options (codes "compile") words)) (λ e.
    picked name (codes "exec") words _ _ command e (image_form words command) (λ e.
    picked name (codes "pack") words _ _ command e (made (codes "pack" ∷ words) Pack (says pack_options of_two_files words) command (run_form pack_options (codes "pack") words)) (λ e.
    picked name (codes "fault") words _ _ command e (made (codes "fault" ∷ words) Fault (says fault_options of_two_files words) command (run_form fault_options (codes "fault") words)) (λ e.
    picked name (codes "cover") words _ _ command e (made (codes "cover" ∷ words) Cover (says cover_options of_two_files words) command (run_form cover_options (codes "cover") words)) (λ e.
    picked name (codes "show") words _ _ command e (made (codes "show" ∷ words) Show (says show_options of_one_file words) command (show_form words)) (λ e.
    picked name (codes "large") words _ _ command e (large_form words command) (λ e.
    picked name (codes "help") words _ _ command e (made (codes "help" ∷ words) Help (says help_options of_topic words) command (help_form words)) (λ e. cc))))))))))))

-- ---- the contract

pub read_by_form : (words : List Word) (result : Result Command WordNo) → Answers result (asked words) → MatchResult result (HasForm words) (HasNoForm words)
read_by_form words (Ok command) e = form_from words command e
read_by_form words (Err refusal) (inl memory) = inl memory
read_by_form words (Err refusal) (inr usage) = inr (usage.0, λ command form. let bad : None ≡ Some command = sym usage.1 ∙ asked_from words command form in cc)

-- ---- laws

pub one_form : (words : List Word) (one other : Command) → HasForm words one → HasForm words other → one ≡ other
one_form words one other first second = one_some one other (sym (asked_from words one first) ∙ asked_from words other second)

-- the call of a form
pub of_command : (words : List Word) (command : Command) → HasForm words command → IsOfTopic words command
of_command words (Run run) form = (_, _, form.call)
of_command words (Refer run) form = (_, _, form.call)
of_command words (Order run) form = (_, _, form.call)
of_command words (Plan run) form = (_, _, form.0.call)
of_command words (Compile run) form = (_, _, form.0.call)
of_command words (Exec run image) form = (_, _, form.call)
of_command words (Pack run) form = (_, _, form.call)
of_command words (Fault run) form = (_, _, form.call)
of_command words (Cover run) form = (_, _, form.call)
of_command words (Show netlist) form = (_, _, form)
of_command words (Large gates cycles workers) form = (_, _, form.call)
of_command words (Help topic) form = (_, _, form)
