-- What goes out, piece by piece.
use Rattle.std.proofs.Common.{◌≡◌, ℕ, ◌+◌, ◌≤◌, ◌<◌, List, [], Option, take, drop, length, sym, ap, ◌∙◌, subst, arith}
use Rattle.std.proofs.Math.Seq.{drop-nil, take-add}
use Rattle.std.proofs.lemmas.List.{length-drop, take_all, drop-drop}
use Rattle.std.proofs.KnownBytes.{Appends-trans}
use Rattle.std.specs.Io.KnownBytes.{Appends}
use Rattle.ipc_base.specs.Ports.{AppendsPart}
use Rattle.ipc_frame.specs.Writing.{Writes}

-- more of the same bytes
pub writes_more : (a b c : Option (List ℕ)) (xs ys zs : List ℕ) → Writes a b xs ys → Writes b c ys zs → Writes a c xs zs
writes_more a b c xs ys zs h k =
    let n = h.0 in
    let m = k.0 in
    let left : ys ≡ drop n xs = h.3 in
    let some : m ≤ length (drop n xs) = subst (λ (l : List ℕ). m ≤ length l) left k.1 in
    let next : Appends b c (take m (drop n xs)) = subst (λ (l : List ℕ). Appends b c (take m l)) left k.2 in (
      n + m,
      omega (arith, length-drop n xs, some, h.1),
      rw (take-add n m xs) (Appends-trans a b c (take n xs) (take m (drop n xs)) h.2 next),
      k.3 ∙ (ap (λ (l : List ℕ). drop m l) left ∙ drop-drop m n xs),
    )

-- nothing is left
pub writes_all : (a b : Option (List ℕ)) (xs ys : List ℕ) → Writes a b xs ys → ys ≡ [] → Appends a b xs
writes_all a b xs ys h none =
    let short : length (drop h.0 xs) ≡ 0 = ap (λ (l : List ℕ). length l) (sym h.3 ∙ none) in
    let past : length xs ≤ h.0 = omega (arith, length-drop h.0 xs, short) in
    subst (λ (l : List ℕ). Appends a b l) (take_all h.0 xs past) h.2

-- a part of what is left went out
pub writes_part : (a b c : Option (List ℕ)) (xs ys : List ℕ) → Writes a b xs ys → AppendsPart b c ys → AppendsPart a c xs
writes_part a b c xs ys h k =
    let n = h.0 in
    let m = k.0 in
    let left : ys ≡ drop n xs = h.3 in
    let some : m < length (drop n xs) = subst (λ (l : List ℕ). m < length l) left k.1 in
    let next : Appends b c (take m (drop n xs)) = subst (λ (l : List ℕ). Appends b c (take m l)) left k.2 in (
      n + m,
      omega (arith, length-drop n xs, some, h.1),
      rw (take-add n m xs) (Appends-trans a b c (take n xs) (take m (drop n xs)) h.2 next),
    )

-- of no bytes none are left
pub nothing_left : (a b : Option (List ℕ)) (xs ys : List ℕ) → Writes a b xs ys → xs ≡ [] → ys ≡ []
nothing_left a b xs ys h none = h.3 ∙ (ap (λ (l : List ℕ). drop h.0 l) none ∙ drop-nil h.0)
