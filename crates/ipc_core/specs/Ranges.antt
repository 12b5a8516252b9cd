-- Which numbers and spaces a thread may have.
use Rattle.std.specs.Prelude.{ℕ, Bool, ◌||◌, nat_lt}
use Rattle.ipc_words.specs.Limits.{max_thread_number, max_space}

-- no thread may have this number in this space
abbrev pub is_out_of_range : ℕ → ℕ → Bool
is_out_of_range number space = nat_lt number 1 || nat_lt max_thread_number number || nat_lt space 1 || nat_lt max_space space
