use Rattle.std.proofs.Common.{unwrap_or, [], refl}
use Rattle.ipc_connection.specs.CallOf.{asks_memory, normal_call}
use Rattle.ipc_connection.specs.Frames.{parts_of}
use Rattle.ipc_connection.specs.Payloads.{payload_of}
use Rattle.ipc_connection.proofs.CallLemmas.{is_timely, lists_there, no_time_point, time_point, call_made, call_lacks, call_bad, few_sent, unsent, lacks_words}
use Rattle.ipc_connection.proofs.calls.IpcHead.call.Goals as goal

pub returns-in_default-clause-ample : goal.returns-in_default-clause-ample
returns-in_default-clause-ample g c ample ok = absurd (no_time_point _ (c.in_default.ensures.none.0 refl) ok)

pub returns-in_default-clause-reads : goal.returns-in_default-clause-reads
returns-in_default-clause-reads g c =
    time_point (parts_of c.args.self.now c.args.words.now c.args.buffer_words.now (payload_of c.args.payload)) _ (c.in_default.ensures.none.0 refl)

pub normal_call-requires-clause-few : goal.normal_call-requires-clause-few
normal_call-requires-clause-few g c =
    let ipc = parts_of c.args.self.now c.args.words.now c.args.buffer_words.now (payload_of c.args.payload) in
    few_sent ipc (asks_memory ipc) (is_timely _ c.in-Some.ensures.none.1) (c.in-Ok.strings) (unwrap_or c.in-Ok.buffers []) c.in-Ok.ensures.reads c.requires.words c.requires.few_words

pub normal_call-requires-clause-unsent : goal.normal_call-requires-clause-unsent
normal_call-requires-clause-unsent g c =
    let ipc = parts_of c.args.self.now c.args.words.now c.args.buffer_words.now (payload_of c.args.payload) in
    unsent ipc (asks_memory ipc) (is_timely _ c.in-Some.ensures.none.1) (c.in-Ok.strings) (unwrap_or c.in-Ok.buffers []) c.in-Ok.ensures.reads

pub returns-in-Ok-normal_call-clause-reads : goal.returns-in-Ok-normal_call-clause-reads
unfolding normal_call
returns-in-Ok-normal_call-clause-reads g c =
    let ipc = parts_of c.args.self.now c.args.words.now c.args.buffer_words.now (payload_of c.args.payload) in
    call_made ipc (asks_memory ipc) (is_timely _ c.in-Some.ensures.none.1) c.in-Ok.strings (unwrap_or c.in-Ok.buffers []) c.in-Ok-normal_call.call c.in-Ok.ensures.reads c.in-Ok-normal_call.ensures.ok

pub returns-in-Err-normal_call-clause-reads : goal.returns-in-Err-normal_call-clause-reads
returns-in-Err-normal_call-clause-reads g c =
    let ipc = parts_of c.args.self.now c.args.words.now c.args.buffer_words.now (payload_of c.args.payload) in
    call_lacks ipc (asks_memory ipc) (is_timely _ c.in-Some.ensures.none.1) c.in-Ok.strings (unwrap_or c.in-Ok.buffers []) c.in-Ok.ensures.reads (lacks_words ipc c.in-Err-normal_call.ensures.lean)

pub returns-in-Err-clause-ample : goal.returns-in-Err-clause-ample
returns-in-Err-clause-ample g c ample ok =
    let there = lists_there _ (is_timely _ c.in-Some.ensures.none.1) ok in
    let wrong = c.in-Err.ensures.ample ample there.0 there.1 in
    absurd (cc)

pub returns-in-Err-clause-reads : goal.returns-in-Err-clause-reads
returns-in-Err-clause-reads g c =
    let ipc = parts_of c.args.self.now c.args.words.now c.args.buffer_words.now (payload_of c.args.payload) in
    rw c.of_items.ensures (call_bad ipc (asks_memory ipc) (is_timely _ c.in-Some.ensures.none.1) c.in-Err.fault c.in-Err.ensures.reads)
