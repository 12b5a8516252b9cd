use Rattle.std.proofs.Common.{◌≡◌, ◌+◌, ◌≤◌, ◌++◌, length, take, sym, ap, ◌∙◌, arith}
use Rattle.std.proofs.lemmas.List.{length-take-le}
use Rattle.ipc_connection.proofs.ReadOnLemmas.{front_is}
use Rattle.ipc_connection.proofs.block.Block.read_behind.Goals as goal

pub returns-in-Ok-clause-read : goal.returns-in-Ok-clause-read
returns-in-Ok-clause-read g c =
    let filled = c.self.inside.filled in
    let old = c.self.inside.bytes.items in
    let most = c.args.most in
    let count = c.in-Ok.count in
    let list = c.make_room.new.list in
    let lent = c.deref_mut.result.now in
    let read = c.read-read.new.buf in
    let there : filled + most ≤ length list.items = c.make_room.ensures.room c.if-not-make_room.false in
    let size : length lent ≡ length list.items = ap length c.deref_mut.ensures.value in
    let room : length read ≡ most = omega (arith, c.read-read.auto.buf, size, there) in
    let bound = c.in-Ok.ensures.bound in
    let front : take filled lent ≡ take filled old = ap (take filled) c.deref_mut.ensures.value ∙ c.make_room.ensures.begins filled c.self.invariant in
    let len : length (take filled lent) ≡ filled = ap length front ∙ length-take-le filled old c.self.invariant in (
      omega (arith, bound.0, room),
      record {
        more = take count read;
        counted = sym bound.1;
        behind = front_is _ read _ _ filled count list.len len bound.0 (omega (arith, bound.0, room, there, list.ok)) ∙ ap (λ xs. xs ++ take count read) (front ∙ c.self.view_is);
        gave = record { came = c.in-Ok.ensures.came; consumed = c.in-Ok.ensures.bytes.0 };
        at_end = λ none. c.in-Ok.ensures.bytes.1 none (omega (arith, room, c.requires.some));
      },
    )
