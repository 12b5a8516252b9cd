-- What an encoder puts out: a frame, or the one that tells an outcome.
use Rattle.ipc_frame.specs.declared.frame.Frame.{Frame}
use Rattle.ipc_frame.specs.declared.encoding.Source.{Source}
use Rattle.ipc_frame.specs.declared.encoding.Source.TheVariants as source
use Rattle.ipc_frame.specs.Replies.{ipcr_of}

abbrev pub frame_of_source : Source → Frame
frame_of_source (source.Frame frame) = frame
frame_of_source (source.Outcome version outcome) = ipcr_of version outcome
