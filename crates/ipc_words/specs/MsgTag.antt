-- L4 X.2 manual, message tag (MR0): u in bits 0 to 5, t in bits 6 to 11, the flags p, r, X and E in
-- bits 12 to 15, the label above.
use Rattle.std.specs.Prelude.{ℕ, ◌/◌, ◌%◌, ◌^◌, Bool, ◌==◌}

-- u, the number of untyped words
abbrev pub untyped_of : ℕ → ℕ
untyped_of tag = tag % 2 ^ 6

-- t, the number of typed words
abbrev pub typed_of : ℕ → ℕ
typed_of tag = tag / 2 ^ 6 % 2 ^ 6

-- the flags p (propagated), r (redirected), X (from another processor) and E (failed)
abbrev pub propagates : ℕ → Bool
propagates tag = tag / 2 ^ 12 % 2 == 1

abbrev pub redirects : ℕ → Bool
redirects tag = tag / 2 ^ 13 % 2 == 1

abbrev pub crosses : ℕ → Bool
crosses tag = tag / 2 ^ 14 % 2 == 1

abbrev pub has_failed : ℕ → Bool
has_failed tag = tag / 2 ^ 15 % 2 == 1

-- the label
abbrev pub label_of : ℕ → ℕ
label_of tag = tag / 2 ^ 16
