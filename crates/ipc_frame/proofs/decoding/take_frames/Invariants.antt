use Rattle.std.proofs.Common.{◌≡◌, ◌≤◌, ◌-◌, length, drop}
use Rattle.ipc_frame.specs.Stream.{put_front, stream_of}
use Rattle.ipc_frame.proofs.decoding.take_frames.Given as goal

-- the frames so far, and those of the bytes that are left
abbrev pub invariant-loop-size : goal.invariant-loop-size
invariant-loop-size g l = record {
  all : put_front l.initial.frames.items (stream_of l.side l.bytes) ≡ put_front l.frames.items (stream_of l.side (drop l.used l.bytes));
  within : l.used ≤ length l.bytes;
}

abbrev pub decreases-loop-size : goal.decreases-loop-size
decreases-loop-size g l = length l.bytes - l.used
