use Rattle.ipc_compact.proofs.PartnerLemmas.{other_input}
use Rattle.ipc_compact.proofs.kept.KeptPartners.note_input.Goals as goal

pub returns-in_default : goal.returns-in_default
returns-in_default c = other_input c.args.slots.now.past c.kept.ensures.legal c.args.self.now c.requires.knows c.args.input.now c.requires.follows c.in_default.not-Called
