-- The limits, each with its source: the L4 X.2 manual, or our choice (docs/PROFILE.md). Two limits
-- of one number are two names.
use Rattle.std.specs.Prelude.{ℕ, ◌^◌}

-- Threads and spaces. Our choice: the greatest thread number and the greatest space; both are
-- counted from 1
abbrev pub max_thread_number : ℕ
max_thread_number = 1023

abbrev pub max_space : ℕ
max_space = 64

-- the slots of a table of threads: one for each number from 0
abbrev pub table_slots : ℕ
table_slots = 1024

-- our choice: the greatest number of a connection, counted from 1; a number is never used twice
abbrev pub max_connections : ℕ
max_connections = 65535

-- Messages. L4 X.2 manual, message registers: MR1 to MR63, the untyped and the typed words together
abbrev pub max_message_words : ℕ
max_message_words = 63

-- L4 X.2 manual, string items: two words each at least, so at most 31 strings in 63 words
abbrev pub max_strings : ℕ
max_strings = 31

-- our choice: the bytes of all strings of a message
abbrev pub max_string_bytes : ℕ
max_string_bytes = 2 ^ 20

-- L4 X.2 manual, buffer registers: BR1 to BR32, the words that spell buffer strings in a frame
abbrev pub max_buffer_words : ℕ
max_buffer_words = 32

-- our choice: the substrings of all buffer strings of a call
abbrev pub max_substrings : ℕ
max_substrings = 31

-- L4 X.2 manual, string items: a substring's length has 54 bits, so each length is below this
abbrev pub substring_length_limit : ℕ
substring_length_limit = 2 ^ 54

-- Time. Our choice: the last moment, in microseconds, 2^63 - 1
abbrev pub last_moment : ℕ
last_moment = 0x7fff_ffff_ffff_ffff

-- Histories. Our choice: the greatest limit of entries, and the greatest number of a call
abbrev pub max_entries : ℕ
max_entries = 1048576

abbrev pub max_calls : ℕ
max_calls = 4294967295

-- our choice: the bytes of one copy, so that of a block
abbrev pub block_bytes : ℕ
block_bytes = 65536

-- an input brings at most four outputs for each thread number
abbrev pub max_outputs : ℕ
max_outputs = 4092

-- a command appends at most an At, its input, and the outputs that it brings
abbrev pub max_command_entries : ℕ
max_command_entries = 4094

-- Room, in entries. What an open, a call, each block of its strings, and an ExchangeRegisters may
-- need
abbrev pub need_of_open : ℕ
need_of_open = 4

abbrev pub need_of_call : ℕ
need_of_call = 7

abbrev pub need_of_block : ℕ
need_of_block = 2

abbrev pub need_of_exchange : ℕ
need_of_exchange = 2

-- what is kept free for each live thread, for each open call, and for each block of its strings
abbrev pub pledge_of_thread : ℕ
pledge_of_thread = 2

abbrev pub pledge_of_open_call : ℕ
pledge_of_open_call = 5

abbrev pub pledge_of_block : ℕ
pledge_of_block = 2

-- Formats. The bytes of the longest line of an entry, without its newline
abbrev pub max_line_bytes : ℕ
max_line_bytes = 2105343

-- our choice: the bytes of the body of a frame
abbrev pub max_frame_body : ℕ
max_frame_body = 2 ^ 21

-- an IPCR frame counts its pieces in one byte
abbrev pub max_pieces : ℕ
max_pieces = 255

-- Charts. Our choice: the greatest number of an entry at which a chart may begin or end, a number
-- of 32 bits
abbrev pub max_chart_entry : ℕ
max_chart_entry = 4294967295
