-- What a contract sees of a client.
use Rattle.std.specs.Prelude.{◌≡◌, ℕ, List, [], ◌∷◌, ◌++◌, Bool, false, Option, None}
use Rattle.ipc_base.specs.Ports.{Input, input_of}
use Rattle.ipc_frame.specs.declared.frame.Frame.{Frame}
use Rattle.ipc_frame.specs.declared.version.WireVersion.{WireVersion}
use Rattle.ipc_frame.specs.declared.version.WireVersion.TheVariants.{One}
use Rattle.ipc_client.specs.declared.start.Start.{Start}

-- what its ports had moved before it began; what came to its reader and what is left there, and
-- what its writer has, where they are known; the frames that it sent, and those that answered them,
-- in order; how often each device failed; the version in which it is answered; whether it is closed
pub record ClientParts : Type 0 where
  pub start : Start
  pub input : Input
  pub written : Option (List ℕ)
  pub sent : List Frame
  pub answers : List Frame
  pub read_failures : ℕ
  pub write_failures : ℕ
  pub version : WireVersion
  pub is_closed : Bool

-- where a client begins whose ports are so
abbrev pub started : Input → Option (List ℕ) → Start
started input written = record { came = input.came; left = input.left; written = written }

-- what is noted of it
abbrev pub start_of : List Start → Start
start_of [] = started (input_of None None) None
start_of (start ∷ others) = start

abbrev pub start_input : Start → Input
start_input start = input_of start.came start.left

-- a client that has sent nothing, over ports that are so and failed so often
abbrev pub client_over : Input → Option (List ℕ) → ℕ → ℕ → ClientParts
client_over input written read_failures write_failures = record {
  start = started input written;
  input = input;
  written = written;
  sent = [];
  answers = [];
  read_failures = read_failures;
  write_failures = write_failures;
  version = One;
  is_closed = false;
}

-- one frame more was sent, and this one answered it
pub record Notes (old new : ClientParts) (asked answered : Frame) : Type 0 where
  pub start : new.start ≡ old.start
  pub sent : new.sent ≡ old.sent ++ asked ∷ []
  pub answers : new.answers ≡ old.answers ++ answered ∷ []

-- one more was sent, or a front of it, and none answered it
pub record NotesLast (old new : ClientParts) (asked : Frame) : Type 0 where
  pub start : new.start ≡ old.start
  pub sent : new.sent ≡ old.sent ++ asked ∷ []
  pub answers : new.answers ≡ old.answers
