-- Which entries pass.
use Rattle.std.proofs.Common.{◌≡◌, refl, ap, ◌∙◌, ℕ, Bool, true, false, ◌||◌, ◌==◌, List, [], ◌∷◌, arith}
use Rattle.std.specs.List.{list_any}
use Rattle.ipc_history.specs.declared.entry.Entry.TheVariants.{Given}
use Rattle.ipc_history.specs.declared.entry.Input.TheVariants.{At, Opened, Exreg, Broke}
use Rattle.ipc_compact.specs.Compact.{is_among}
use Rattle.ipc_compact.specs.Kept.{KeptParts, passes}

four : (a b c d : Bool) → ((a || b) || (c || d)) ≡ ((a || c) || (b || d))
four a b c d = grind arith

any_of_two : (k j : ℕ) (ns : List ℕ) → list_any (λ n. (k == n) || (j == n)) ns ≡ (list_any (λ n. k == n) ns || list_any (λ n. j == n) ns)
any_of_two k j [] = refl
any_of_two k j (n ∷ ns) = ap (λ b. ((k == n) || (j == n)) || b) (any_of_two k j ns) ∙ four (k == n) (j == n) (list_any (λ n. k == n) ns) (list_any (λ n. j == n) ns)

pub some_first : (k j : ℕ) (ns : List ℕ) → list_any (λ n. k == n) ns ≡ true → list_any (λ n. (k == n) || (j == n)) ns ≡ true
some_first k j ns h = any_of_two k j ns ∙ rw h refl

pub none_first : (k j : ℕ) (ns : List ℕ) → list_any (λ n. k == n) ns ≡ false → list_any (λ n. (k == n) || (j == n)) ns ≡ list_any (λ n. j == n) ns
none_first k j ns h = any_of_two k j ns ∙ rw h refl

-- a test that nothing passes
none_of_them : (ns : List ℕ) → list_any (λ n. false) ns ≡ false
none_of_them [] = refl
none_of_them (n ∷ ns) = none_of_them ns

either_none : (b : Bool) → (b || false) ≡ b
either_none b = grind arith

pub at_passes : (kept : KeptParts) (moment : ℕ) → passes kept (Given (At moment)) ≡ false
at_passes kept moment = rw (none_of_them kept.calls) refl

pub exreg_passes : (kept : KeptParts) (thread target control : ℕ) → passes kept (Given (Exreg thread target control)) ≡ false
exreg_passes kept thread target control = rw (none_of_them kept.calls) refl

pub opened_passes : (kept : KeptParts) (thread space : ℕ) → passes kept (Given (Opened thread space)) ≡ is_among thread kept.threads
opened_passes kept thread space = rw (none_of_them kept.calls) refl

pub broke_passes : (kept : KeptParts) (thread : ℕ) → passes kept (Given (Broke thread)) ≡ is_among thread kept.threads
broke_passes kept thread = rw (none_of_them kept.calls) refl
