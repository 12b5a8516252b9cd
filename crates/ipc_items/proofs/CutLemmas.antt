-- Lists that are cut off the front of a payload, one behind the other.
use Rattle.std.proofs.Common.{◌≡◌, ℕ, ◌+◌, ◌-◌, ◌≤◌, Bool, false, List, [], ◌∷◌, ◌++◌, length, take, slice_set, sym, arith}
use Rattle.std.specs.List.{slice_range}
use Rattle.std.proofs.Math.Seq.{take-add}
use Rattle.std.proofs.lemmas.List.{append-nil, length-take-le}
use Rattle.ipc_items.specs.Rows.{rows, AreEnds, grown, opened}
use Rattle.ipc_items.proofs.RowLemmas.{pushed-ends, pushed-rows, grown-ends, grown-rows}

taken_size : (n : ℕ) (payload : List ℕ) → n ≤ length payload → n ≡ length (take n payload)
taken_size n payload h = sym (length-take-le n payload h)

-- a list is begun
pub begun_ends : (ends after : List ℕ) (n : ℕ) (payload : List ℕ) → after ≡ ends ++ n ∷ [] → n ≤ length payload → AreEnds 0 ends (length (take n payload)) → AreEnds 0 after (length (take n payload))
begun_ends ends after n payload e h are =
    pushed-ends ends after (take n payload) (take n payload) [] n (sym (append-nil (take n payload))) e (taken_size n payload h) are

pub begun_rows : (ends after : List ℕ) (n : ℕ) (payload : List ℕ) (goes_on : Bool) (old : List (List ℕ)) → goes_on ≡ false → rows 0 ends (take n payload) ≡ old → after ≡ ends ++ n ∷ [] → n ≤ length payload → AreEnds 0 ends (length (take n payload)) → rows 0 after (take n payload) ≡ opened goes_on old
begun_rows ends after n payload goes_on old off o e h are =
    rw (off, ← o) (pushed-rows ends after (take n payload) (take n payload) [] n (sym (append-nil (take n payload))) e (taken_size n payload h) are)

-- the last list gets more
more_taken : (n count : ℕ) (payload : List ℕ) → take (n + count) payload ≡ take n payload ++ slice_range payload n (n + count)
more_taken n count payload =
    let size : (n + count) - n ≡ count = omega arith in
    rw size (take-add n count payload)

pub grown_ends : (ends : List ℕ) (last n count : ℕ) (payload : List ℕ) → n + count ≤ length payload → last + 1 ≡ length ends → AreEnds 0 ends (length (take n payload)) → AreEnds 0 (slice_set ends last (n + count)) (length (take (n + count) payload))
grown_ends ends last n count payload h l are =
    grown-ends ends last (take n payload) (take (n + count) payload) (slice_range payload n (n + count)) (n + count) (more_taken n count payload) (taken_size (n + count) payload h) l are

pub grown_rows : (ends : List ℕ) (last n count : ℕ) (payload : List ℕ) → n + count ≤ length payload → last + 1 ≡ length ends → AreEnds 0 ends (length (take n payload)) → rows 0 (slice_set ends last (n + count)) (take (n + count) payload) ≡ grown (rows 0 ends (take n payload)) (slice_range payload n (n + count))
grown_rows ends last n count payload h l are =
    grown-rows ends last (take n payload) (take (n + count) payload) (slice_range payload n (n + count)) (n + count) (more_taken n count payload) (taken_size (n + count) payload h) l are
