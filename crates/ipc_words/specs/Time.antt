-- L4 X.2 manual, time: a period of 16 bits has its exponent e in bits 10 to 14 and its mantissa m
-- in bits 0 to 9; bit 15 is 0.
use Rattle.std.specs.Prelude.{ℕ, ◌+◌, ◌*◌, ◌/◌, ◌%◌, ◌^◌, Option, Some, None, if◌then◌else◌, ◌==◌, nat_lt}

-- 2^e * m, the microseconds of a period; none for the period 0, which is never
abbrev pub span : ℕ → Option ℕ
span period = (if period == 0 then None else Some (2 ^ (period / 1024) * (period % 1024)))

-- the word of a period with exponent e and mantissa m
abbrev pub period_of : ℕ → ℕ → ℕ
period_of e m = 2 ^ 10 * e + m

-- the exponent and the mantissa of a period
abbrev pub exponent_of : ℕ → ℕ
exponent_of period = period / 2 ^ 10

abbrev pub mantissa_of : ℕ → ℕ
mantissa_of period = period % 2 ^ 10

-- the longest period that is not never, in microseconds: e = 31 and m = 1023
abbrev pub longest_span : ℕ
longest_span = 2_196_875_771_904

-- the period that a time of 16 bits holds; none where bit 15 is 1, which is a time point
abbrev pub period_in : ℕ → Option ℕ
period_in time = (if nat_lt time (2 ^ 15) then Some time else None)

-- the word of zero time that stands for all: e is 1 and m is 0
abbrev pub no_time : ℕ
no_time = 0x400
