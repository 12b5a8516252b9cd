use Rattle.std.proofs.lemmas.Bool.{false≢true}
use Rattle.std.proofs.Common.{◌∙◌, sym, ap, length, arith}
use Rattle.ipc_laws.proofs.Normal.{normal_counts}
use Rattle.ipc_desks.proofs.message.Message.of.Goals as goal

pub returns-in_err-words-clause-ample : goal.returns-in_err-words-clause-ample
returns-in_err-words-clause-ample g c ample =
    let few = normal_counts c.args.call.now (sym c.is_normal.ensures.value ∙ c.is_normal.ensures.always) in
    absurd (false≢true (c.in_err-words.ensures.ample ample (omega (arith, few.together, c.len.ensures.count, ap (λ l. length l) c.words.ensures, ap (λ l. length l) c.strings-strings.ensures))))
