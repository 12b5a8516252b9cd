-- Lists of strings that are kept so that their memory is used again.
use Rattle.std.specs.Prelude.{ℕ, ◌*◌, ◌≤◌, List, length, sum_by}
use Rattle.ipc_words.specs.Limits.{max_string_bytes}
use Rattle.ipc_items.specs.Strings.{size_of}

-- our choice: at most so many lists
abbrev pub max_free_blocks : ℕ
max_free_blocks = 64

-- our choice: at most so many bytes in all of them
abbrev pub max_free_bytes : ℕ
max_free_bytes = 4 * max_string_bytes

-- the bytes of all lists
abbrev pub bytes_of_lists : List (List (List ℕ)) → ℕ
bytes_of_lists lists = sum_by size_of lists

-- the limits
abbrev pub AreFreeBlocks : List (List (List ℕ)) → Type 0
AreFreeBlocks lists = (length lists ≤ max_free_blocks) × (bytes_of_lists lists ≤ max_free_bytes)
