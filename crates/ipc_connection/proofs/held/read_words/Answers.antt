use Rattle.std.proofs.Common.{◌+◌, ◌*◌, ◌-◌, ap, arith, take, drop, length-drop, ◌∙◌}
use Rattle.ipc_frame.specs.Numbers.{words_in}
use Rattle.ipc_connection.proofs.WordLemmas.{words_read, words_there}
use Rattle.ipc_connection.proofs.held.read_words.Goals as goal

pub returns : goal.returns
returns c =
    let size = (c.args.place + 8 * c.args.count) - c.args.place in
    let behind = drop c.args.place c.args.start.now in
    words_read (take size behind) c.read_u64_into.new.dst c.read_u64_into.ensures
    ∙ (ap (λ n. words_in n (take size behind)) (c.read_u64_into.auto.dst ∙ c.requires.room) ∙ words_there c.args.count behind size (omega arith) (omega (arith, c.requires.there, length-drop c.args.place c.args.start.now)))
