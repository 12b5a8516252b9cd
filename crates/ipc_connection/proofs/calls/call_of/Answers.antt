use Rattle.ipc_connection.proofs.CallLemmas.{reads_fault, same_frame}
use Rattle.ipc_connection.proofs.calls.call_of.Goals as goal

pub returns-clause-fault : goal.returns-clause-fault
returns-clause-fault g c =
    let same = same_frame c.args.ipc.now _ _ _ _ _ _ _ _ _ c.to.ensures c.from.ensures c.timeouts.ensures c.originator.ensures c.tag.ensures c.acceptor.ensures c.words.ensures c.buffer_words.ensures.buffer_words c.payload.ensures.payload in
    reads_fault _ _ _ _ (rw same at c.call.ensures.reads)

pub returns-clause-ample : goal.returns-clause-ample
returns-clause-ample g c ample ok =
    let same = same_frame c.args.ipc.now _ _ _ _ _ _ _ _ _ c.to.ensures c.from.ensures c.timeouts.ensures c.originator.ensures c.tag.ensures c.acceptor.ensures c.words.ensures c.buffer_words.ensures.buffer_words c.payload.ensures.payload in
    c.call.ensures.ample ample (rw same ok)
