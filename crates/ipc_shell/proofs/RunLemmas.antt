-- Small facts for the runs of scripts.
use Rattle.std.proofs.Common.{◌≡◌, ◌≢◌, ℕ, rules, arith, ap, refl, Option, Some, None, List, [], ◌∷◌, length}
use Rattle.std.specs.Io.KnownBytes.{prepend_known}
use Rattle.ipc_shell.specs.declared.lines.NextLine.TheVariants as next

-- a line that was read is no failure
pub line_is_no_failure : next.Line ≢ next.Failed
line_is_no_failure is = absurd (search rules)

pub none_is_not_some : {X : Type 0} {x : X} (value : Option X) → value ≡ None → value ≡ Some x → ⊥
none_is_not_some value none some = cc

-- where no bytes stand before them
pub prepend_none : (held : List ℕ) (bytes : Option (List ℕ)) → held ≡ [] → prepend_known held bytes ≡ bytes
prepend_none [] None none = refl
prepend_none [] (Some bytes) none = refl
prepend_none (x ∷ xs) bytes none = absurd (omega (arith, ap length none))
