-- What a decoder reads by itself, straight into the memory of a payload.
use Rattle.std.specs.Prelude.{◌≡◌, ◌<◌, ◌≤◌, ℕ, List, ◌++◌, length, Option, Some, None, Result, Ok, Err}
use Rattle.std.specs.Io.KnownBytes.{IsAtEnd}
use Rattle.ipc_base.specs.Ports.{Gives, GivesNothing, Input}
use Rattle.ipc_base.specs.declared.fault.PortFault.{PortFault}
use Rattle.ipc_connection.specs.Holding.{Kept}
use Rattle.ipc_connection.specs.Taking.{Decoding, Holds, IsUnfinished, Takes}

-- so many bytes were read from a port and put behind those that were there, none only at the end of
-- the input
pub record ReadsBehind (input input_now : Input) (old new : List ℕ) (count : ℕ) : Type 0 where
  pub more : List ℕ
  pub counted : length more ≡ count
  pub behind : new ≡ old ++ more
  pub gave : Gives input input_now more
  pub at_end : count ≡ 0 → IsAtEnd input_now.left

-- at most so many were read behind these; nothing was where the port failed, or where there was no
-- memory
abbrev pub ReadsInto : Input → Input → List ℕ → List ℕ → ℕ → Option (Result ℕ PortFault) → Type 0
ReadsInto input input_now old new most None = new ≡ old
ReadsInto input input_now old new most (Some (Err fault)) = new ≡ old
ReadsInto input input_now old new most (Some (Ok count)) = (count ≤ most) × ReadsBehind input input_now old new count

-- of the bytes of a frame that is not whole: it is not whole then either
abbrev pub KeepsOn : Input → Input → Kept → Kept → Option (Result ℕ PortFault) → Type 0
KeepsOn input input_now old new None = new ≡ old
KeepsOn input input_now old new (Some (Err fault)) = new ≡ old
KeepsOn input input_now old new (Some (Ok count)) =
    (old.lost ≡ 0) × (new.lost ≡ 0) × IsUnfinished new.bytes × ReadsBehind input input_now old.bytes new.bytes count

-- so many bytes were read from a port, none only at the end of the input; the decoder stands as if
-- it had been given them, and no frame ends in them
pub record TakesMore (input input_now : Input) (old new : Decoding) (count : ℕ) : Type 0 where
  pub more : List ℕ
  pub gave : Gives input input_now more
  pub at_end : count ≡ 0 → IsAtEnd input_now.left
  pub takes : (bytes : List ℕ) → Holds old bytes → Takes bytes more new (Ok (count, None))

-- a decoder that may have read by itself
abbrev pub TakesOn : Input → Input → Decoding → Decoding → Option (Result ℕ PortFault) → Type 0
TakesOn input input_now old new None = new ≡ old
TakesOn input input_now old new (Some (Err fault)) = new ≡ old
TakesOn input input_now old new (Some (Ok count)) = TakesMore input input_now old new count

-- a port of which may have been read: its failures are those that were told, and a read that failed
-- took nothing
abbrev pub Fails : Input → Input → ℕ → ℕ → Option (Result ℕ PortFault) → Type 0
Fails input input_now failures failures_now None = (input_now ≡ input) × (failures_now ≡ failures)
Fails input input_now failures failures_now (Some (Ok count)) = failures_now ≡ failures
Fails input input_now failures failures_now (Some (Err fault)) = (failures < failures_now) × GivesNothing input input_now
