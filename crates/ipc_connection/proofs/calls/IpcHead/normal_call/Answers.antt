use Rattle.std.proofs.Common.{[], unwrap_or, ap, ◌∙◌, subst}
use Rattle.ipc_items.specs.Strings.{AreStrings}
use Rattle.ipc_history.specs.CallParts.{is_normal}
use Rattle.ipc_connection.specs.Frames.{parts_of}
use Rattle.ipc_connection.proofs.NormalLemmas.{is_normal_call, parts_are}
use Rattle.ipc_connection.proofs.calls.IpcHead.normal_call.Goals as goal

pub unwrap-requires : goal.unwrap-requires
unwrap-requires g c =
    let ipc = parts_of c.args.self.now c.args.words.now [] [] in
    let words = c.in_ok-words.ensures.ok ∙ c.untyped_words.ensures in
    let same = parts_are ipc _ _ _ _ _ c.args.strings c.args.buffers c.requires.send c.requires.receive c.received-tag.ensures c.virtual_sender.ensures words c.requires.accepted in
    let strings : AreStrings c.args.strings = subst AreStrings c.strings.view_is c.strings.invariant in
    c.new.ensures.normal.1 (ap is_normal same ∙ is_normal_call ipc c.args.strings (unwrap_or c.args.buffers []) c.requires.untyped c.requires.few c.requires.unsent strings c.are_buffers.ensures)

pub returns-clause-ok : goal.returns-clause-ok
returns-clause-ok g c =
    let ipc = parts_of c.args.self.now c.args.words.now [] [] in
    let words = c.in_ok-words.ensures.ok ∙ c.untyped_words.ensures in
    let same = parts_are ipc _ _ _ _ _ c.args.strings c.args.buffers c.requires.send c.requires.receive c.received-tag.ensures c.virtual_sender.ensures words c.requires.accepted in
    (rw c.unwrap.ensures at c.new.ensures.value) ∙ same
