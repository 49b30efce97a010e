-- The parse holds what the words give, by the lemmas on `clap`'s clauses.
use Rattle.std.proofs.Common.{◌≡◌, ◌∙◌, sym, true, map}
use Rattle.std.specs.String.{string_bytes}
use Rattle.clap.specs.Words.{app_of}
use Rattle.cmd_words.specs.code.Parses.{has_no_short, texts_in}
use Rattle.cmd_words.proofs.MatchLemmas.{parse_ok, parse_err, short_refused}
use Rattle.cmd_words.proofs.parsing.parse.Goals as goal

pub returns-then-not-has_no_short : goal.returns-then-not-has_no_short
returns-then-not-has_no_short c = short_refused (texts_in c.args.options.now) (map string_bytes c.args.words.now) (sym c.has_no_short.ensures ∙ c.if-not-has_no_short.true)

pub returns-in-Ok-try_get_matches_from : goal.returns-in-Ok-try_get_matches_from
returns-in-Ok-try_get_matches_from c =
    let names = texts_in c.args.options.now in
    let fair : has_no_short (map string_bytes c.args.words.now) ≡ true = sym c.has_no_short.ensures ∙ c.if-not-has_no_short.false in
    parse_ok names (map string_bytes c.args.words.now) c.requires fair (app_of c.in-Ok.command) c.in-Ok-try_get_matches_from.matches c.in-Ok.ensures
    c.in-Ok-try_get_matches_from.ensures.kinds c.in-Ok-try_get_matches_from.ensures.matches

pub returns-in-Err-try_get_matches_from : goal.returns-in-Err-try_get_matches_from
returns-in-Err-try_get_matches_from c =
    let names = texts_in c.args.options.now in
    let fair : has_no_short (map string_bytes c.args.words.now) ≡ true = sym c.has_no_short.ensures ∙ c.if-not-has_no_short.false in
    rw (c.refusal.ensures) (parse_err names (map string_bytes c.args.words.now) c.requires fair (app_of c.in-Ok.command) c.in-Err-try_get_matches_from.error c.in-Ok.ensures
    c.in-Err-try_get_matches_from.ensures.kinds)
