-- Texts that are put one after the other.
use Rattle.std.proofs.Common.{◌≡◌, ℕ, List, ◌++◌, Result, Ok, Err, OnOk, is_ok, if◌then◌else◌, ap, ◌∙◌, append_assoc}

pub behind : (a b c x y : List ℕ) → b ≡ a ++ x → c ≡ b ++ y → c ≡ a ++ (x ++ y)
behind a b c x y first more = more ∙ (ap (λ (l : List ℕ). l ++ y) first ∙ append_assoc a x y)

pub ok_if : {X E Q : Type 0} (result : Result X E) (new put old : List ℕ) → (new ≡ put → Q) → new ≡ (if is_ok result then put else old) → OnOk result Q
ok_if (Ok x) new put old f is = f is
ok_if (Err e) new put old f is = tt
