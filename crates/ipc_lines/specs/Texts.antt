-- Our choice (docs/FORMATS.md): the spelling of numbers, thread ids, words, strings and buffers in
-- a line. Decimals are std's `decimal`, without leading zeros; 0 is `0`.
use Rattle.std.specs.Prelude.{ℕ, ◌%◌, [], ◌∷◌, ◌++◌, ◌==◌}
use Rattle.std.specs.Prelude.{List, false, Option, Some, None, map, codes, if◌then◌else◌}
use Rattle.std.specs.Fmt.{decimal, digits}
use Rattle.std.specs.List.{join_with_byte}
use Rattle.hex.specs.Hex.{encode_lower}
use Rattle.ipc_words.specs.ThreadId.{nilthread, anythread, anylocalthread, number_of, version_of}
use Rattle.ipc_words.specs.Timeouts.{timeouts_of}
use Rattle.ipc_items.specs.declared.buffer_list.Substring.{Substring}
use Rattle.ipc_items.specs.Pieces.{PlacedBytes}

-- HEX: `0x` and lower-case digits without leading zeros; 0 is `0x0`
abbrev pub hex_text : ℕ → List ℕ
hex_text n = codes "0x" ++ digits 16 false n

-- ID: a name for the ids that name no thread, `number.version` where the low six bits are not all
-- zero, else HEX
abbrev pub id_text : ℕ → List ℕ
id_text id =
    if id == nilthread then codes "nil"
    else if id == anythread then codes "any"
    else if id == anylocalthread then codes "local"
    else if id % 64 == 0 then hex_text id
    else decimal (number_of id) ++ codes "." ++ decimal (version_of id)

-- the periods of the two phases: HEX of the word of both
abbrev pub timeouts_text : ℕ → ℕ → List ℕ
timeouts_text send receive = hex_text (timeouts_of receive send)

-- the texts of the elements with a byte between each two; where there is no element, a text of its
-- own
abbrev pub listed : {X : Type 0} → List ℕ → ℕ → (X → List ℕ) → List X → List ℕ
listed none separator text [] = none
listed none separator text (x ∷ xs) = join_with_byte separator (map text (x ∷ xs))

-- words: `-`, or HEX with commas between
abbrev pub words_text : List ℕ → List ℕ
words_text words = listed (codes "-") 44 hex_text words

-- bytes: `x`, and two lower-case hex digits for each byte
abbrev pub bytes_text : List ℕ → List ℕ
bytes_text bytes = codes "x" ++ encode_lower bytes

-- strings: `-`, or the bytes of each with commas between
abbrev pub strings_text : List (List ℕ) → List ℕ
strings_text strings = listed (codes "-") 44 bytes_text strings

-- a substring: its length in decimal, `@`, and its pointer in HEX
abbrev pub substring_text : Substring → List ℕ
substring_text part = decimal part.length ++ codes "@" ++ hex_text part.pointer

-- a buffer string: its substrings with `+` between
abbrev pub buffer_text : List Substring → List ℕ
buffer_text parts = listed [] 43 substring_text parts

-- buffers: `-` where no strings are accepted, `s` where they are and there is no buffer string,
-- else the buffer strings with commas between
abbrev pub buffers_text : Option (List (List Substring)) → List ℕ
buffers_text None = codes "-"
buffers_text (Some buffers) = listed (codes "s") 44 buffer_text buffers

-- a piece: its pointer in HEX, `:`, and its bytes
abbrev pub piece_text : PlacedBytes → List ℕ
piece_text piece = hex_text piece.pointer ++ codes ":" ++ bytes_text piece.bytes

-- pieces: `-`, or each with commas between
abbrev pub pieces_text : List PlacedBytes → List ℕ
pieces_text placed = listed (codes "-") 44 piece_text placed
