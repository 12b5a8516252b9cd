use Rattle.std.proofs.lemmas.Option.{same_Some}
use Rattle.std.proofs.Common.{sym, ap, ◌∙◌}
use Rattle.ipc_threads.specs.Threads.{next_id_of}
use Rattle.ipc_threads.proofs.SlotTables.{free_is, next_is, opened_is, opens}
use Rattle.ipc_threads.proofs.slot_table.SlotTable.open.Goals as goal

pub unreachable-requires : goal.unreachable-requires
unreachable-requires c = c.in_default.not-Ok _ (c.open.ensures.answer ∙ (ap (λ number. next_id_of c.self.inside.threads number c.args.space) c.number-number.ensures ∙ opens c.self.inside.threads _ _ _ c.requires.place (free_is c.self.inside.threads c.self.inside.calls c.args.self.now (c.self.invariant.0 ∙ sym c.self.invariant.1) c.self.view_is _ c.requires.free) (next_is c.self.inside.threads c.self.inside.calls c.args.self.now (c.self.invariant.0 ∙ sym c.self.invariant.1) c.self.view_is _ _ c.requires.version)))

pub returns : goal.returns
returns c = rw (c.in-Ok.ensures.opened, c.number-number.ensures) (opened_is c.self.inside.threads c.self.inside.calls c.args.self.now (c.self.invariant.0 ∙ sym c.self.invariant.1) c.self.view_is c.args.thread c.args.space _ (same_Some _ _ (sym c.in-Ok.ensures.version ∙ rw c.number-number.ensures (next_is c.self.inside.threads c.self.inside.calls c.args.self.now (c.self.invariant.0 ∙ sym c.self.invariant.1) c.self.view_is _ _ c.requires.version))))
