use Rattle.std.proofs.Common.{◌*◌, ◌<◌, ◌≤◌, ◌++◌, length, sym, ap, ◌∙◌, add-one, arith}
use Rattle.ipc_desks.proofs.MessageLemmas.{simple_items-more, append_two, length-le-size}
use Rattle.ipc_desks.proofs.message.Message.into_received.Goals as goal

pub overflow_mul-string_len : goal.overflow_mul-string_len
overflow_mul-string_len c =
    let strings = c.self.inside.strings in
    omega (arith, length-le-size strings c.loop-k.k, c.len-k-end.ensures.within.1, c.string_len.ensures)

pub loop-k-preserved : goal.loop-k-preserved
loop-k-preserved c =
    let strings = c.self.inside.strings in
    let k = c.loop-k.k in
    let below : k < length strings = omega arith in
    let fits : length strings ≤ length c.args.buffers.now = omega (arith, ap (λ m. length m.strings) c.self.view_is) in
    let next = simple_items-more c.args.buffers.now strings k c.string_len.result c.first_pointer.result below (omega arith) c.string_len.ensures c.first_pointer.ensures in
    record {
      appended =
          rw (c.push_reserved-in-loop-k.ensures.items, c.push_reserved.ensures.items, add-one) (append_two c.loop-k.words.items _ (c.string_len.result * 1024) c.first_pointer.result _ (omega arith) ∙ ap (λ l. c.loop-k.words.items ++ l) (sym next) ∙ c.loop-k.invariant.appended);
      room = omega arith;
    }
