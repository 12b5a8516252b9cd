-- Our choice (docs/PROFILE.md): the versions of a thread number. The low six bits of a version are
-- never all zero.
use Rattle.std.specs.Prelude.{ℕ, ◌+◌, ◌%◌, Option, Some, None, if◌then◌else◌, ◌==◌}

-- the version that follows v; none after 2^32 - 1, where the number is worn out
abbrev pub next_version_of : ℕ → Option ℕ
next_version_of v = (if v == 0xffff_ffff then None else (if (v + 1) % 64 == 0 then Some (v + 2) else Some (v + 1)))
