use Rattle.std.proofs.Common.{sym, subst, ◌∙◌, arith}
use Rattle.ipc_frame.specs.declared.frame.Frame.TheVariants as frame
use Rattle.ipc_frame.specs.Versions.{end_widths, end_words, version_told}
use Rattle.ipc_frame.specs.Parts.{IpcrParts, FitsIpcr}
use Rattle.ipc_frame.specs.Frames.{IsFrame, outcome_widths}
use Rattle.ipc_frame.proofs.VersionLemmas.{are_joined}
use Rattle.ipc_frame.proofs.ipcr.IpcrFrame.is_frame.Goals as goal

pub returns : goal.returns
returns c =
    let same = c.parts.view_is ∙ c.self.view_is in
    subst (λ (p : IpcrParts). IsFrame (frame.Ipcr p)) same (record {
      fields = are_joined (end_widths (version_told c.parts.inside.end)) outcome_widths (end_words c.parts.inside.end) _ c.end_fits.ensures (omega arith, (omega arith, (omega arith, (omega arith, tt))));
      tail = subst FitsIpcr (sym c.parts.view_is) c.self.invariant;
    })
