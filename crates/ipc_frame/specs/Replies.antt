-- An outcome as it is sent (L4 X.2 manual, Ipc: output parameters): its words, and the pieces of
-- its strings in order.
use Rattle.std.specs.Prelude.{List}
use Rattle.std.specs.List.{flat_map}
use Rattle.ipc_items.specs.Pieces.{PlacedBytes}
use Rattle.ipc_history.specs.Outcomes.{OutcomeParts, pieces_in}
use Rattle.ipc_frame.specs.declared.version.WireVersion.{WireVersion}
use Rattle.ipc_frame.specs.declared.frame.Frame.{Frame}
use Rattle.ipc_frame.specs.declared.frame.Frame.TheVariants as frame
use Rattle.ipc_frame.specs.Versions.{end_of}
use Rattle.ipc_frame.specs.Parts.{IpcrParts}

-- the pieces of the strings, in order
abbrev pub pieces_told : OutcomeParts → List PlacedBytes
pieces_told outcome = flat_map (λ pieces. pieces) (pieces_in outcome)

abbrev pub reply_of : WireVersion → OutcomeParts → IpcrParts
reply_of version outcome = record {
  end = end_of version outcome;
  tag = outcome.tag;
  sender = outcome.sender;
  actual = outcome.actual;
  error = outcome.error;
  words = outcome.words;
  pieces = pieces_told outcome;
}

abbrev pub ipcr_of : WireVersion → OutcomeParts → Frame
ipcr_of version outcome = frame.Ipcr (reply_of version outcome)
