use Rattle.std.proofs.Common.{subst}
use Rattle.ipc_frame.specs.Numbers.{AreWords}
use Rattle.ipc_frame.specs.Parts.{IpcrParts}
use Rattle.ipc_frame.proofs.ipcr.IpcrFrame.of.Goals as goal

pub invariant_of-result : goal.invariant_of-result
invariant_of-result c = (c.requires.is, subst (λ (p : IpcrParts). AreWords p.words) c.parts.view_is (subst AreWords c.deref.ensures.value c.are_words.ensures), c.requires.pieces)
