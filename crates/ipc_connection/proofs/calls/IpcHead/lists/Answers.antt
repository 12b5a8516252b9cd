use Rattle.std.proofs.Common.{ℕ, List, Option, ◌&&◌, nat_lt, length}
use Rattle.ipc_items.specs.declared.buffer_list.Substring.{Substring}
use Rattle.ipc_connection.specs.CallOf.{sends, accepts_strings, strings_in, buffers_in}
use Rattle.ipc_connection.specs.Frames.{parts_of}
use Rattle.ipc_connection.specs.Payloads.{payload_of}
use Rattle.ipc_connection.proofs.CallLemmas.{lists_read, second_bad, first_bad, both_bad, lists_never}
use Rattle.ipc_connection.proofs.calls.IpcHead.lists.Goals as goal
use Rattle.ipc_connection.proofs.calls.IpcHead.lists.Goals.{in-Ok-buffers-2, in-Err-buffers-2}

abbrev Strings : Type 0
Strings = List (List ℕ)

abbrev Buffers : Type 0
Buffers = Option (List (List Substring))

pub returns-in-Ok-buffers-clause-reads : goal.returns-in-Ok-buffers-clause-reads
returns-in-Ok-buffers-clause-reads g c =
    let ipc = parts_of c.args.self.now c.args.words.now c.args.buffer_words.now (payload_of c.args.payload) in
    lists_read Strings Buffers (strings_in ipc) (buffers_in ipc) (sends ipc && nat_lt 0 (length c.args.words.now)) (accepts_strings ipc && nat_lt 0 (length c.args.buffer_words.now)) _ _ c.in-Ok.ensures.ok c.in-Ok-buffers.ensures.ok

pub returns-in-Err-buffers-clause-reads : goal.returns-in-Err-buffers-clause-reads
returns-in-Err-buffers-clause-reads g c =
    let ipc = parts_of c.args.self.now c.args.words.now c.args.buffer_words.now (payload_of c.args.payload) in
    let h = c.in-Err-buffers.ensures in
    second_bad Strings Buffers (strings_in ipc) (buffers_in ipc) (sends ipc && nat_lt 0 (length c.args.words.now)) (accepts_strings ipc && nat_lt 0 (length c.args.buffer_words.now)) _ _ c.in-Ok.ensures.ok (record { fault_is = h.fault; memory = h.memory; lean = h.lean })

pub returns-after-buffers-2-clause-reads : goal.returns-after-buffers-2-clause-reads
returns-after-buffers-2-clause-reads g c =
    let ipc = parts_of c.args.self.now c.args.words.now c.args.buffer_words.now (payload_of c.args.payload) in
    let h = c.in-Err.ensures in
    elim c.match-buffers-2.branch [
      | in-Ok-buffers-2 w ↦
          rw w.result-is (first_bad Strings Buffers (strings_in ipc) (buffers_in ipc) (sends ipc && nat_lt 0 (length c.args.words.now)) (accepts_strings ipc && nat_lt 0 (length c.args.buffer_words.now)) _ _ w.in-Ok-buffers-2.ensures.ok (record { fault_is = h.fault; memory = h.memory; lean = λ _. h.lean }))
      | in-Err-buffers-2 w ↦
          let k = w.in-Err-buffers-2.ensures in
          rw w.result-is (both_bad Strings Buffers (strings_in ipc) (buffers_in ipc) (sends ipc && nat_lt 0 (length c.args.words.now)) (accepts_strings ipc && nat_lt 0 (length c.args.buffer_words.now)) (lists_never ipc) _ _ _ (record { fault_is = h.fault; memory = h.memory; lean = λ _. h.lean }) (record { fault_is = k.fault; memory = k.memory; lean = k.lean }) w.first_of.ensures.lack w.first_of.ensures.other)
    ]
