use Rattle.std.proofs.Common.{◌≡◌, ◌∙◌, List, Option, ap, map, refl, subst, sym, true}
use Rattle.std.proofs.lemmas.Result.{err_from_is_err_and}
use Rattle.std.specs.Prelude.{IsSomeAnd, string_bytes}
use Rattle.clap.specs.Words.{App, HasMatchesOf, Row, Text, fault_of, is_simple, is_simple_and_free}
use Rattle.clap.specs.Words.{subcommand_of, subcommand_rows_of, takes}
use Rattle.clap.specs.declared.parser.matches.ArgMatches.{ArgMatches}
use Rattle.l4sh_options.specs.Shell.{shell_app}
use Rattle.l4sh_options.specs.Shell.{HasMatchesIn, Reads}
use Rattle.l4sh_options.proofs.Versions.{asked, is_some_fault, told}
use Rattle.l4sh_options.proofs.shell.options_by.Goals as goal

-- the subcommand that a parse of `l4sh` entered is the one that the words name
shell_is_simple : is_simple shell_app ≡ true
shell_is_simple = refl

entered : (app : App) (words : List Text) (m : ArgMatches) → app ≡ shell_app → HasMatchesOf app words m
    → subcommand_rows_of m ≡ subcommand_of shell_app words
entered app words m same has = (subst (λ (a : App). HasMatchesOf a words m) same has shell_is_simple).1

-- an error of the parse is returned as it is
pub returns-in_err-matches-clause-taken : goal.returns-in_err-matches-clause-taken
returns-in_err-matches-clause-taken c =
    let p = err_from_is_err_and c.from_residual.result c.from_residual.ensures.1 in
    rw (p.1, p.2) (λ taken. c.in_err-matches.ensures.passes
    (ap (λ (app : App). takes app (map string_bytes c.args.words.now)) c.requires.0 ∙ taken.0))

-- an `Ok` of the parse comes where the words have no fault
pub returns-in-Some-clause-faultless : goal.returns-in-Some-clause-faultless
returns-in-Some-clause-faultless c =
    ap (λ (app : App). fault_of app (map string_bytes c.args.words.now)) (sym c.requires.0)
    ∙ c.in_ok-matches.ensures.kinds (ap is_simple_and_free c.requires.0)

-- the options are those of the subcommand that the parse entered, and so of the one that the words
-- name
pub returns-in-Some-clause-asked : goal.returns-in-Some-clause-asked
returns-in-Some-clause-asked c =
    let named = entered _ _ c.in_ok-matches.matches c.requires.0 c.in_ok-matches.ensures.ok.2 in
    subst (λ (named : Option (Text × List Row)). IsSomeAnd named (λ p. HasMatchesIn p.0 p.1 c.in-Some.options))
    named c.in-Some.ensures.asked

-- words that are taken name a subcommand with what it needs, and that gives options
pub returns-in_ok-error-in-None-clause-taken : goal.returns-in_ok-error-in-None-clause-taken
returns-in_ok-error-in-None-clause-taken c =
    let named = entered _ _ c.in_ok-matches.matches c.requires.0 c.in_ok-matches.ensures.ok.2 in
    λ taken.
    let reads = subst (λ (named : Option (Text × List Row)). IsSomeAnd named (λ p. Reads p.0 p.1)) (sym named) taken.1 in
    let bad = c.in-None.ensures.found reads in
    cc

-- the fault of words that ask for the version, as the parse has it
pub returns-in_err-matches-clause-version : goal.returns-in_err-matches-clause-version
returns-in_err-matches-clause-version c =
    let p = err_from_is_err_and c.from_residual.result c.from_residual.ensures.1 in
    let words = map string_bytes c.args.words.now in
    let same = ap (λ (app : App). fault_of app words) c.requires.0 in
    rw (p.1, p.2) (λ asks. told _ _ _ c.in_err-matches.was (same ∙ asked words asks)
    (c.in_err-matches.ensures.kinds (ap is_simple_and_free c.requires.0)))

pub returns-in-Some-clause-version : goal.returns-in-Some-clause-version
returns-in-Some-clause-version c =
    let words = map string_bytes c.args.words.now in
    let same = ap (λ (app : App). fault_of app words) c.requires.0 in
    let none = c.in_ok-matches.ensures.kinds (ap is_simple_and_free c.requires.0) in
    λ asks. is_some_fault _ none (same ∙ asked words asks)

pub returns-in_ok-error-in-None-clause-version : goal.returns-in_ok-error-in-None-clause-version
returns-in_ok-error-in-None-clause-version c =
    let words = map string_bytes c.args.words.now in
    let same = ap (λ (app : App). fault_of app words) c.requires.0 in
    let none = c.in_ok-matches.ensures.kinds (ap is_simple_and_free c.requires.0) in
    λ asks. absurd (is_some_fault _ none (same ∙ asked words asks))
