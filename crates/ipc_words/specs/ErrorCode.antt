-- L4 X.2 manual, ErrorCode: p in bit 0 (0 for the send phase, 1 for the receive phase), e in bits 1
-- to 3, the offset above.
use Rattle.std.specs.Prelude.{ℕ, ◌+◌, ◌*◌, ◌/◌, ◌%◌, ◌^◌}

-- the code of a phase that failed with e at an offset
abbrev pub error_code : ℕ → ℕ → ℕ → ℕ
error_code p e offset = p + 2 * e + 16 * offset

-- p, e and the offset of an error code
abbrev pub phase_bit : ℕ → ℕ
phase_bit error = error % 2

abbrev pub code_of : ℕ → ℕ
code_of error = error / 2 % 2 ^ 3

abbrev pub offset_of : ℕ → ℕ
offset_of error = error / 2 ^ 4
