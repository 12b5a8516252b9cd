-- Flags in words: a flag takes one bit.
use Rattle.std.specs.Prelude.{ℕ, Bool, true, false}

-- the bit of a flag
abbrev pub bit_of : Bool → ℕ
bit_of true = 1
bit_of false = 0
