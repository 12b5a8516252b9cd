use Rattle.std.proofs.Common.{◌≡◌, ◌*◌, subst, ap, ap₂, ◌∙◌, sym, Option, Some, IfOk, List, ℕ, length, drop, arith, length-drop}
use Rattle.ipc_frame.specs.declared.kind.FrameKind.TheVariants.{Ipcr}
use Rattle.ipc_frame.specs.declared.frame.Frame.{Frame}
use Rattle.ipc_frame.specs.declared.frame.Frame.TheVariants as frame
use Rattle.ipc_frame.specs.declared.version.CallEnd.{CallEnd}
use Rattle.ipc_frame.specs.Versions.{end_count, end_in}
use Rattle.ipc_frame.specs.Numbers.{fields_in}
use Rattle.ipc_frame.specs.Frames.{outcome_widths, widths}
use Rattle.ipc_frame.specs.Reading.{ipcr_in}
use Rattle.ipc_frame.specs.Decoding.{MakesIpcr}
use Rattle.ipc_frame.proofs.VersionLemmas.{fields_behind, outcome_head}
use Rattle.ipc_frame.proofs.DecodeLemmas.{makes_outcome}
use Rattle.ipc_frame.proofs.decoding.read_outcome.Goals as goal

pub read_ipcr-requires-clause-head : goal.read_ipcr-requires-clause-head
read_ipcr-requires-clause-head g c =
    omega (arith, c.requires.head, outcome_head c.args.version, ap length c.split_end-end.ensures.behind, length-drop (8 * end_count c.args.version) c.args.head.now)

pub read_ipcr-requires-clause-made : goal.read_ipcr-requires-clause-made
read_ipcr-requires-clause-made g c =
    let version = c.args.version in
    let fields = fields_in (widths (Ipcr version)) c.args.head.now in
    let f = c.requires.made.0 in
    let made = makes_outcome version fields c.args.tail.now f c.requires.made.1 in
    let same : drop (end_count version) fields ≡ fields_in outcome_widths c.split_end-end.result.1.now = fields_behind version c.args.head.now ∙ ap (fields_in outcome_widths) (sym c.split_end-end.ensures.behind) in
    (f, subst (λ (end : Option CallEnd). MakesIpcr end (fields_in outcome_widths c.split_end-end.result.1.now) c.args.tail.now f) (sym c.split_end-end.ensures.end) (subst (λ (xs : List ℕ). MakesIpcr (end_in version fields) xs c.args.tail.now f) same made))

pub returns-clause-ipcr : goal.returns-clause-ipcr
returns-clause-ipcr g c =
    let version = c.args.version in
    let fields = fields_in (widths (Ipcr version)) c.args.head.now in
    let same : drop (end_count version) fields ≡ fields_in outcome_widths c.split_end-end.result.1.now = fields_behind version c.args.head.now ∙ ap (fields_in outcome_widths) (sym c.split_end-end.ensures.behind) in
    let all : ipcr_in c.split_end-end.result.0 (fields_in outcome_widths c.split_end-end.result.1.now) c.args.tail.now ≡ ipcr_in (end_in version fields) (drop (end_count version) fields) c.args.tail.now =
    ap₂ (λ end xs. ipcr_in end xs c.args.tail.now) c.split_end-end.ensures.end (sym same) in
    subst (λ (o : Option Frame). IfOk c.read_ipcr.result (λ ipcr. o ≡ Some (frame.Ipcr ipcr))) all c.read_ipcr.ensures.ipcr
