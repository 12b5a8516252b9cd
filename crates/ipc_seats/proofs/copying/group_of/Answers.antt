use Rattle.std.proofs.Common.{sym, ◌<◌, length, arith}
use Rattle.std.proofs.lemmas.List.{length-take-le, take_all}
use Rattle.ipc_seats.proofs.copying.group_of.Goals as goal

pub slice_bounds-result-end : goal.slice_bounds-result-end
slice_bounds-result-end c =
    let more : 256 < length c.args.rest.now = c.if-rest-gt-MOST_OF_A_GROUP.true in
    sym (length-take-le 256 c.args.rest.now (omega (arith, more)))

pub returns-else-rest-gt-MOST_OF_A_GROUP : goal.returns-else-rest-gt-MOST_OF_A_GROUP
returns-else-rest-gt-MOST_OF_A_GROUP c = sym (take_all 256 c.args.rest.now c.if-rest-gt-MOST_OF_A_GROUP.false)
