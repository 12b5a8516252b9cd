-- What is a front of some bytes: none, a part of them, and all.
use Rattle.std.proofs.Common.{ℕ, ◌≤◌, List, Option, length, arith}
use Rattle.std.proofs.Math.Seq.{take-length}
use Rattle.std.proofs.KnownBytes.{Appends-kept, Appends-nil}
use Rattle.std.specs.Io.KnownBytes.{Appends, Keeps}
use Rattle.ipc_base.specs.Ports.{AppendsFront, AppendsPart}

pub none_is_front : (a : Option (List ℕ)) (xs : List ℕ) → AppendsFront a a xs
none_is_front a xs = (0, omega arith, Appends-nil a)

pub part_is_front : (a b : Option (List ℕ)) (xs : List ℕ) → AppendsPart a b xs → AppendsFront a b xs
part_is_front a b xs h = (h.0, omega (arith, h.1), h.2)

pub all_is_front : (a b : Option (List ℕ)) (xs : List ℕ) → Appends a b xs → AppendsFront a b xs
all_is_front a b xs h = (length xs, omega arith, rw (take-length xs) h)

-- whatever is flushed behind it
pub whole_is_front : (a b c : Option (List ℕ)) (xs : List ℕ) → Appends a b xs → Keeps b c → AppendsFront a c xs
whole_is_front a b c xs h kept = all_is_front a c xs (Appends-kept a b c xs h kept)
