use Rattle.std.proofs.Common.{sym, ap, ◌∙◌}
use Rattle.std.specs.Option.{option_map_or}
use Rattle.ipc_threads.proofs.SlotTables.{space_live}
use Rattle.ipc_threads.proofs.slot_table.SlotTable.space_in.Goals as goal

pub returns-in-Some : goal.returns-in-Some
returns-in-Some c = c.from.ensures ∙ sym (space_live c.self.inside.threads c.self.inside.calls c.args.self.now (c.self.invariant.0 ∙ sym c.self.invariant.1) c.self.view_is c.args.thread ∙ ap (λ o. option_map_or (λ space. space) o 0) (sym c.space_of.ensures.space ∙ c.in-Some.is))

pub returns-in-None : goal.returns-in-None
returns-in-None c = sym (space_live c.self.inside.threads c.self.inside.calls c.args.self.now (c.self.invariant.0 ∙ sym c.self.invariant.1) c.self.view_is c.args.thread ∙ ap (λ o. option_map_or (λ space. space) o 0) (sym c.space_of.ensures.space ∙ c.in-None.is))
