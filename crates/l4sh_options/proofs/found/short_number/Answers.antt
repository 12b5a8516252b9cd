use Rattle.std.proofs.Common.{◌∙◌}
use Rattle.std.specs.Str.Parse.{ExplainsUnsignedError, HasUnsignedDigitsIfOk, ParsesUnsigned}
use Rattle.clap.specs.Words.{found_of}
use Rattle.clap.proofs.WalkLemmas.{one_text-rows}
use Rattle.l4sh_options.proofs.Numbers.{read_number}
use Rattle.l4sh_options.proofs.found.short_number.Goals as goal

pub returns : goal.returns
returns c =
    let rows = one_text-rows (found_of c.args.found.now) c.args.id.now in
    read_number _ 16 (λ bs r. ParsesUnsigned 16 10 bs r × ExplainsUnsignedError 10 bs r × HasUnsignedDigitsIfOk bs r)
    _ c.get_one.result (λ t r reads. reads.0)
    (λ none. c.get_one.ensures.none (rows ∙ none)) (λ t some. c.get_one.ensures.value t (rows ∙ some))
