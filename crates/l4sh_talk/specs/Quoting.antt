-- The words of a line that is typed.
use Rattle.std.specs.Prelude.{ℕ, if◌then◌else◌, ◌==◌, ◌||◌, List, [], ◌∷◌, ◌++◌, Bool, true, false, Option, Some, None}

-- a line up to a place: the words that are whole, what is there of the next one, and whether a
-- quotation mark is open
pub record WordsSoFar : Type 0 where
  pub words : List (List ℕ)
  pub word : List ℕ
  pub is_quoted : Bool

abbrev pub no_words : WordsSoFar
no_words = record { words = []; word = []; is_quoted = false }

-- a space, a tab or a carriage return stands between words
abbrev pub is_blank : ℕ → Bool
is_blank byte = (byte == 32) || ((byte == 9) || (byte == 13))

-- words, and a further one where it has begun
abbrev pub and_word : List (List ℕ) → List ℕ → List (List ℕ)
and_word words [] = words
and_word words (byte ∷ bytes) = words ++ (byte ∷ bytes) ∷ []

abbrev pub with_byte : ℕ → Bool → WordsSoFar → WordsSoFar
with_byte byte is_quoted before =
    record { words = before.words; word = before.word ++ byte ∷ []; is_quoted = is_quoted }

abbrev pub with_end : WordsSoFar → WordsSoFar
with_end before = record { words = and_word before.words before.word; word = []; is_quoted = false }

-- behind a byte that begins no comment; the first mark of a text stands before it, the last one
-- does not behind it
abbrev pub quoted_step : WordsSoFar → ℕ → WordsSoFar
quoted_step before byte =
    if byte == 34 then record before { is_quoted = false } else with_byte byte true before

abbrev pub bare_step : WordsSoFar → ℕ → WordsSoFar
bare_step before byte =
    if byte == 34 then with_byte byte true before
    else if is_blank byte then with_end before else with_byte byte false before

abbrev pub word_step : WordsSoFar → ℕ → WordsSoFar
word_step before byte = if before.is_quoted then quoted_step before byte else bare_step before byte

-- all words, at the end; none where a mark is open
abbrev pub words_at_end : WordsSoFar → Option (List (List ℕ))
words_at_end before =
    if before.is_quoted then None else Some (and_word before.words before.word)

abbrev pub begins_comment : WordsSoFar → ℕ → Bool
begins_comment before byte = if before.is_quoted then false else byte == 35

-- behind a place the line goes on with these bytes; a comment ends it
abbrev pub words_behind : WordsSoFar → List ℕ → Option (List (List ℕ))
words_behind before [] = words_at_end before
words_behind before (byte ∷ bytes) =
    if begins_comment before byte then words_at_end before else words_behind (word_step before byte) bytes

-- the words of a line
abbrev pub line_words : List ℕ → Option (List (List ℕ))
line_words line = words_behind no_words line
