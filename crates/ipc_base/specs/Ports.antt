-- What a call over a port tells.
use Rattle.std.specs.Prelude.{ℕ, ◌+◌, ◌*◌, ◌<◌, ◌≤◌, ◌^◌, List, Option, Result, length, take}
use Rattle.std.specs.Io.KnownBytes.{Appends, Consumes, Keeps, WriteAppends}

-- a front of these bytes was appended, and not all of them
abbrev pub AppendsPart : Option (List ℕ) → Option (List ℕ) → List ℕ → Type 0
AppendsPart old new bytes = (n : ℕ) × (n < length bytes) × Appends old new (take n bytes)

-- a front of these bytes was appended, or all of them
abbrev pub AppendsFront : Option (List ℕ) → Option (List ℕ) → List ℕ → Type 0
AppendsFront old new bytes = (n : ℕ) × (n ≤ length bytes) × Appends old new (take n bytes)

-- `read(buf)` put the n bytes that it gave behind those that had come at `Ok(n)`, and nothing at
-- `Err`
abbrev pub ReadAppends : {E : Type 0} → Option (List ℕ) → Option (List ℕ) → Result ℕ E → List ℕ → Type 0
ReadAppends old new result buf = WriteAppends old new result buf

-- what is known of a port that is read: the bytes that came so far, and those that are left
pub record Input : Type 0 where
  pub came : Option (List ℕ)
  pub left : Option (List ℕ)

abbrev pub input_of : Option (List ℕ) → Option (List ℕ) → Input
input_of came left = record { came = came; left = left }

-- a port gave these bytes: they came behind those before them, and were the first of those that
-- were left
pub record Gives (old new : Input) (bytes : List ℕ) : Type 0 where
  pub came : Appends old.came new.came bytes
  pub consumed : Consumes old.left new.left bytes

-- a port gave nothing
abbrev pub GivesNothing : Input → Input → Type 0
GivesNothing old new = Keeps old.came new.came × Keeps old.left new.left

-- the most bytes of one read into a piece  -- limit
abbrev pub piece_size : ℕ
piece_size = 8192

-- so many reads a port gives; the next one finds that the device failed  -- limit
abbrev pub max_reads : ℕ
max_reads = 2 ^ 63

-- no more bytes than so many come of a piece and of so many reads
abbrev pub most_left : ℕ → List ℕ → ℕ
most_left reads piece = reads * piece_size + length piece
