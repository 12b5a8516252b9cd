-- What writing a frame does to a port.
use Rattle.std.specs.Prelude.{◌≡◌, ℕ, ◌≤◌, List, Option, length, take, drop}
use Rattle.std.specs.Io.KnownBytes.{Appends}

-- so many bytes of those that were still to come went out, and these are left
abbrev pub Writes : Option (List ℕ) → Option (List ℕ) → List ℕ → List ℕ → Type 0
Writes old new before after =
    (n : ℕ) × (n ≤ length before) × Appends old new (take n before) × (after ≡ drop n before)
