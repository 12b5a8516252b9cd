-- What a port gave, read by read.
use Rattle.std.proofs.Common.{◌≡◌, ℕ, List, [], ◌++◌, take, subst}
use Rattle.std.proofs.lemmas.List.{append-nil}
use Rattle.std.proofs.KnownBytes.{Appends-kept, Appends-nil, Appends-trans, Consumes-kept, Consumes-nil, Consumes-trans}
use Rattle.ipc_base.specs.Ports.{Gives, GivesNothing, Input}

pub gives_none : (input : Input) → Gives input input []
gives_none input = record { came = Appends-nil input.came; consumed = Consumes-nil input.left }

-- and then more
pub gives_then : (a b c : Input) (bytes more : List ℕ) → Gives a b bytes → Gives b c more → Gives a c (bytes ++ more)
gives_then a b c bytes more h k = record {
  came = Appends-trans a.came b.came c.came bytes more h.came k.came;
  consumed = Consumes-trans a.left b.left c.left bytes more h.consumed k.consumed;
}

-- and then nothing
pub gives_kept : (a b c : Input) (bytes : List ℕ) → Gives a b bytes → GivesNothing b c → Gives a c bytes
gives_kept a b c bytes h k = record {
  came = Appends-kept a.came b.came c.came bytes h.came k.0;
  consumed = Consumes-kept a.left b.left c.left bytes h.consumed k.1;
}

-- and then a read of no bytes
pub gives_no_more : (a b c : Input) (bytes : List ℕ) (count : ℕ) (buffer : List ℕ) → Gives a b bytes → Gives b c (take count buffer) → count ≡ 0 → Gives a c bytes
gives_no_more a b c bytes count buffer h k none =
    subst (λ (l : List ℕ). Gives a c l) (append-nil bytes) (gives_then a b c bytes [] h (subst (λ (n : ℕ). Gives b c (take n buffer)) none k))
