-- Our choice (docs/FORMATS.md): which texts a field may be, kind by kind. Each is one that the
-- readers of lines read: the text of a value within the limits.
use Rattle.std.specs.Prelude.{◌≡◌, ℕ, ◌+◌, ◌*◌, ◌%◌, ◌^◌, ◌<◌, ◌≤◌, ◌&&◌, ◌||◌, ◌==◌, not}
use Rattle.std.specs.Prelude.{IsTrue, Bool, List, [], ◌∷◌, Option, IfSome, length, nat_le}
use Rattle.std.specs.List.{list_all}
use Rattle.std.specs.Fmt.{decimal}
use Rattle.ipc_words.specs.Limits.{max_message_words}
use Rattle.ipc_words.specs.Control.{is_masked}
use Rattle.ipc_items.specs.declared.buffer_list.Substring.{Substring}
use Rattle.ipc_lines.specs.Texts.{hex_text, id_text, timeouts_text, words_text, strings_text, buffers_text}
use Rattle.ipc_lines.specs.Reading.{IsWord, AreWords, IsStringList, IsBufferList}
use Rattle.l4sh_explain.specs.declared.grammars.Field.{Field}
use Rattle.l4sh_explain.specs.declared.grammars.FieldKind.{FieldKind}
use Rattle.l4sh_explain.specs.declared.grammars.FieldKind.TheVariants as kind
use Rattle.l4sh_explain.specs.Grammars.{kind_of}

-- a decimal of 64 bits
abbrev pub IsDecimal : List ℕ → Type 0
IsDecimal text = (number : ℕ) × IsWord number × (text ≡ decimal number)

-- the one spelling of a thread id
abbrev pub IsId : List ℕ → Type 0
IsId text = (id : ℕ) × IsWord id × (text ≡ id_text id)

-- HEX of 64 bits
abbrev pub IsHex : List ℕ → Type 0
IsHex text = (word : ℕ) × IsWord word × (text ≡ hex_text word)

-- HEX of a control with no bit but R and S
abbrev pub IsMasked : List ℕ → Type 0
IsMasked text = (control : ℕ) × IsTrue (is_masked control) × (text ≡ hex_text control)

-- two periods, neither of them a time point
abbrev pub IsTimeouts : List ℕ → Type 0
IsTimeouts text = (send : ℕ) × (receive : ℕ) × (send < 2 ^ 15) × (receive < 2 ^ 15)
    × (text ≡ timeouts_text send receive)

-- words, at most as many as a message has
abbrev pub IsWords : List ℕ → Type 0
IsWords text = (words : List ℕ) × AreWords words × (length words ≤ max_message_words)
    × (text ≡ words_text words)

-- strings within the limits of a message
abbrev pub IsStrings : List ℕ → Type 0
IsStrings text = (strings : List (List ℕ)) × IsStringList strings × (text ≡ strings_text strings)

-- buffer strings within the limits of a call, or none accepted
abbrev pub IsBuffers : List ℕ → Type 0
IsBuffers text = (buffers : Option (List (List Substring))) × IfSome buffers IsBufferList
    × (text ≡ buffers_text buffers)

-- a hexadecimal digit of either case
abbrev pub is_digit : ℕ → Bool
is_digit byte =
    (nat_le 48 byte && nat_le byte 57) || (nat_le 97 byte && nat_le byte 102)
    || (nat_le 65 byte && nat_le byte 70)

-- an even number of hexadecimal digits, two at least
abbrev pub are_digits : List ℕ → Bool
are_digits text =
    list_all is_digit text && not (length text == 0) && (length text % 2 == 0)

-- the texts of a kind
abbrev pub IsOfKind : FieldKind → List ℕ → Type 0
IsOfKind kind.Decimal text = IsDecimal text
IsOfKind kind.Id text = IsId text
IsOfKind kind.Hex text = IsHex text
IsOfKind kind.MaskedControl text = IsMasked text
IsOfKind kind.Timeouts text = IsTimeouts text
IsOfKind kind.Words text = IsWords text
IsOfKind kind.Strings text = IsStrings text
IsOfKind kind.Buffers text = IsBuffers text
IsOfKind kind.Digits text = IsTrue (are_digits text)

-- a text that a field may be
abbrev pub Spells : Field → List ℕ → Type 0
Spells field text = IsOfKind (kind_of field) text

-- texts that these fields may be, one for each
abbrev pub SpellAll : List Field → List (List ℕ) → Type 0
SpellAll [] [] = Unit {0}
SpellAll [] (text ∷ texts) = ⊥
SpellAll (field ∷ fields) [] = ⊥
SpellAll (field ∷ fields) (text ∷ texts) = Spells field text × SpellAll fields texts
