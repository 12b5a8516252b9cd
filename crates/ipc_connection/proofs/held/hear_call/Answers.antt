use Rattle.std.proofs.Common.{◌≡◌, ◌+◌, ◌*◌, drop, ap, ap₂, sym, subst, ◌∙◌}
use Rattle.std.proofs.lemmas.List.{drop-drop}
use Rattle.ipc_frame.specs.Parts.{IpcParts, words_of}
use Rattle.ipc_frame.specs.Numbers.{words_in}
use Rattle.ipc_frame.specs.declared.fault.FrameFault.TheVariants.{NoMemory}
use Rattle.ipc_connection.specs.CallOf.{call_of, asks_memory}
use Rattle.ipc_connection.specs.Reads.{Reads}
use Rattle.ipc_connection.proofs.CallLemmas.{same_frame}
use Rattle.ipc_connection.proofs.held.hear_call.Goals as goal

pub returns : goal.returns
returns c = λ ipc at.
    let head = c.read_head-head.ensures in
    let tag : c.read_head-head.result.tag ≡ ipc.tag = ap (λ h. h.tag) head ∙ sym at.tag in
    let count : c.untyped.result + c.typed.result ≡ words_of ipc.tag = ap₂ (λ a b. a + b) c.untyped.ensures c.typed.ensures ∙ ap words_of tag in
    let one = c.read_words.ensures ∙ (ap (λ n. words_in n (drop 50 c.args.start.now)) count ∙ at.words) in
    let place : drop (50 + 8 * (c.untyped.result + c.typed.result)) c.args.start.now ≡ drop (8 * words_of ipc.tag) (drop 50 c.args.start.now) = ap (λ n. drop (50 + 8 * n) c.args.start.now) count ∙ sym (drop-drop (8 * words_of ipc.tag) 50 c.args.start.now) in
    let two = c.read_words-2.ensures ∙ (ap₂ (λ n xs. words_in n xs) at.buffer_count place ∙ at.buffer_words) in
    let same = same_frame ipc _ _ _ _ _ _ c.read_words.new.words c.read_words-2.new.words c.args.payload.items (ap (λ h. h.to) head ∙ sym at.to) (ap (λ h. h.from) head ∙ sym at.from) (ap (λ h. h.timeouts) head ∙ sym at.timeouts) (ap (λ h. h.originator) head ∙ sym at.originator) tag (ap (λ h. h.acceptor) head ∙ sym at.acceptor) one two at.payload in
    subst (λ (p : IpcParts). Reads NoMemory (call_of p) (asks_memory p) c.call.result) same c.call.ensures.reads
