use Rattle.std.proofs.Common.{◌∙◌, sym, ap}
use Rattle.ipc_history.specs.declared.entry.Entry.TheVariants.{Given}
use Rattle.ipc_compact.specs.Kept.{passes}
use Rattle.ipc_compact.proofs.PassingLemmas.{at_passes, broke_passes, exreg_passes, opened_passes}
use Rattle.ipc_compact.proofs.noting.Keeping.keeps_input.Goals as goal

pub returns-in-Opened : goal.returns-in-Opened
returns-in-Opened c = c.keeps_thread.ensures ∙ (sym (opened_passes c.args.self.now c.in-Opened.thread c.in-Opened.field-1) ∙ ap (λ i. passes c.args.self.now (Given i)) (sym c.in-Opened.is))

pub returns-in-Broke : goal.returns-in-Broke
returns-in-Broke c = c.keeps_thread-in-Broke.ensures ∙ (sym (broke_passes c.args.self.now c.in-Broke.thread) ∙ ap (λ i. passes c.args.self.now (Given i)) (sym c.in-Broke.is))

pub returns-in-At : goal.returns-in-At
returns-in-At c = sym (at_passes c.args.self.now c.in-At.field-0) ∙ ap (λ i. passes c.args.self.now (Given i)) (sym c.in-At.is)

pub returns-in-Exreg : goal.returns-in-Exreg
returns-in-Exreg c = sym (exreg_passes c.args.self.now c.in-Exreg.field-0 c.in-Exreg.field-1 c.in-Exreg.field-2) ∙ ap (λ i. passes c.args.self.now (Given i)) (sym c.in-Exreg.is)
