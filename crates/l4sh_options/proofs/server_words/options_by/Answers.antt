use Rattle.std.proofs.Common.{◌∙◌, ap, map, rules, sym}
use Rattle.std.specs.Prelude.{string_bytes}
use Rattle.clap.specs.Simple.{is_simple}
use Rattle.clap.specs.Words.{App, fault_of, is_simple_and_free, matches_of}
use Rattle.l4sh_options.proofs.server_words.options_by.Goals as goal

-- an `Ok` of the parse comes where the words have no fault
pub returns-in-Ok-clause-faultless : goal.returns-in-Ok-clause-faultless
returns-in-Ok-clause-faultless c =
    ap (λ (app : App). fault_of app (map string_bytes c.args.words.now)) (sym c.requires.0)
    ∙ c.in_ok-matches.ensures.kinds (ap is_simple_and_free c.requires.0)

-- the options are those of the matches, and the matches those of the words
pub returns-in-Ok-clause-options : goal.returns-in-Ok-clause-options
returns-in-Ok-clause-options c =
    let parsed = (c.in_ok-matches.ensures.ok.2 (ap is_simple c.requires.0)).0 in
    let same = parsed ∙ ap (λ (app : App). matches_of app (map string_bytes c.args.words.now)) c.requires.0 in
    rw (← same) (search rules)
