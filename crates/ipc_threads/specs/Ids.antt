-- Numbers and spaces of threads.
use Rattle.std.specs.Prelude.{ℕ, Bool, ◌≤◌, ◌&&◌, nat_le}
use Rattle.ipc_words.specs.Limits.{max_thread_number, max_space}

abbrev pub is_thread_number : ℕ → Bool
is_thread_number number = nat_le 1 number && nat_le number max_thread_number

abbrev pub is_space : ℕ → Bool
is_space space = nat_le 1 space && nat_le space max_space

-- a thread may have this number and live in this space
abbrev pub IsPlace : ℕ → ℕ → Type 0
IsPlace number space = (1 ≤ number) × (number ≤ max_thread_number) × (1 ≤ space) × (space ≤ max_space)
