-- One more piece of a text.
use Rattle.std.proofs.Common.{◌≡◌, ℕ, List, Option, take, drop, ◌+◌, ◌-◌, ◌≤◌, ◌<◌, length, arith, sym, ap, ◌∙◌}
use Rattle.std.proofs.Math.Seq.{take-add}
use Rattle.std.proofs.lemmas.List.{length-drop, length-take, take_rest, drop-take, drop-drop}
use Rattle.std.specs.Io.KnownBytes.{Appends}
use Rattle.std.proofs.KnownBytes.{Appends-trans}
use Rattle.ipc_base.specs.Ports.{most_left}

-- n more bytes, of those from a place on
pub appends_next : (a b c : Option (List ℕ)) (at n : ℕ) (bytes : List ℕ) → Appends a b (take at bytes)
    → Appends b c (take n (take (length bytes - at) (drop at bytes))) → Appends a c (take (at + n) bytes)
appends_next a b c at n bytes before more =
    rw (take-add at n bytes) (Appends-trans a b c (take at bytes) (take n (drop at bytes)) before (rw (take_rest bytes at) at more))

pub piece_within : (at n : ℕ) (bytes : List ℕ) → at ≤ length bytes → n ≤ length (take (length bytes - at) (drop at bytes)) → at + n ≤ length bytes
piece_within at n bytes within fits =
    let fits_rest : n ≤ length (drop at bytes) = rw (take_rest bytes at) at fits in
    omega (arith, length-drop at bytes, within, fits_rest)

-- without its first n bytes, a piece begins so much later
pub piece_shorter : (bytes : List ℕ) (start end n : ℕ) (piece : List ℕ) → take (end - start) (drop start bytes) ≡ piece → n ≤ length piece
    → take (end - (start + n)) (drop (start + n) bytes) ≡ drop n piece
piece_shorter bytes start end n piece is within =
    let rest = drop start bytes in
    let m = end - (start + n) in
    let fits : n ≤ end - start = omega (arith, length-take (end - start) rest, ap length is, within) in
    ap (take m) (sym (drop-drop n start bytes)) ∙ sym (drop-take n m rest) ∙ ap (λ k. drop n (take k rest)) (omega (arith, fits)) ∙ ap (drop n) is

-- one read less, where it gave bytes
pub piece_costs : (reads left n m : ℕ) (bytes piece : List ℕ) → n ≤ length bytes → length bytes ≡ 8192 → m ≤ n → (0 < n → left < reads) → 0 < length (take m bytes)
    → most_left left (take m bytes) ≤ most_left reads piece
piece_costs reads left n m bytes piece within whole part fewer some =
    let less : left < reads = fewer (omega (arith, length-take m bytes, part, some)) in
    omega (arith, length-take m bytes, within, whole, part, less)
