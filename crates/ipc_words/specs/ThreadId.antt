-- L4 X.2 manual, ThreadId: the ids that name no thread, and the fields of one that does.
use Rattle.std.specs.Prelude.{ℕ, ◌+◌, ◌*◌, ◌/◌, ◌%◌, ◌^◌, ◌≢◌}

-- nilthread, anythread and anylocalthread
abbrev pub nilthread : ℕ
nilthread = 0

abbrev pub anythread : ℕ
anythread = 0xffff_ffff_ffff_ffff

abbrev pub anylocalthread : ℕ
anylocalthread = 0xffff_ffff_ffff_ffc0

-- the thread number: bits 32 to 63
abbrev pub number_of : ℕ → ℕ
number_of id = id / 2 ^ 32

-- the version: bits 0 to 31
abbrev pub version_of : ℕ → ℕ
version_of id = id % 2 ^ 32

-- the word with these two fields
abbrev pub id_of : ℕ → ℕ → ℕ
id_of number version = version + 2 ^ 32 * number

-- a number and a version that make a global thread id: the version's low six bits are not all zero,
-- and the word is not anythread's
abbrev pub IsGlobal : ℕ → ℕ → Type 0
IsGlobal number version = (version % 2 ^ 6 ≢ 0) × (id_of number version ≢ anythread)
