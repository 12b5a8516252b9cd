use Rattle.std.proofs.Common.{sym, ap, ◌∙◌, Some}
use Rattle.ipc_waits.proofs.Answering.{moving_told}
use Rattle.ipc_waits.proofs.waiting.Waiting.next_moving.Goals as goal

pub returns-in-Some : goal.returns-in-Some
returns-in-Some c = ap (λ n. Some n) c.first_number.ensures ∙ moving_told c.args.self.now.slots.past _ (sym c.in-Some.is ∙ c.least_transfer.ensures)

pub returns-in-None : goal.returns-in-None
returns-in-None c = moving_told c.args.self.now.slots.past _ (sym c.in-None.is ∙ c.least_transfer.ensures)
