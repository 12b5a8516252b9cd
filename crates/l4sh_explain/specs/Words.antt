-- Our choice (docs/FORMATS.md): the words with which a reason begins.
use Rattle.std.specs.Prelude.{◌≡◌, ℕ, ◌==◌, List, ◌++◌, codes, if◌then◌else◌}
use Rattle.std.specs.Fmt.{decimal}
use Rattle.l4sh_explain.specs.declared.grammars.Field.{Field}
use Rattle.l4sh_explain.specs.declared.grammars.Field.TheVariants.{Number, Space, Thread, To, From, Timeouts, Tag, Originator, Words, Strings, Buffers, Target, Control, MaskedControl, Moment, Connection, Bytes, ByteCount, Call, SendingCall, ReceivingCall, Code}
use Rattle.l4sh_explain.specs.declared.grammars.Grammar.{Grammar}
use Rattle.l4sh_explain.specs.declared.reasons.Reason.{Reason}
use Rattle.l4sh_explain.specs.declared.reasons.Reason.TheVariants as reason
use Rattle.l4sh_explain.specs.declared.whole.LineFault.{LineFault}
use Rattle.l4sh_explain.specs.declared.whole.LineFault.TheVariants.{Comment, Answer, SpaceBefore, CarriageReturn, SpaceBehind, TabBehind, TwoSpaces, Tab}
use Rattle.l4sh_explain.specs.Reasons.{IsFirstFault}

abbrev pub line_fault_words : LineFault → List ℕ
line_fault_words Comment = codes "a line beginning with #: there are no comments"
line_fault_words Answer =
    codes "an answer of l4sh run: a trace has entries alone (leave them out by grep -v '^[=!]')"
line_fault_words SpaceBefore = codes "a space before the first field"
line_fault_words CarriageReturn =
    codes "a carriage return at the end: a line ends by a newline alone, not by CRLF"
line_fault_words SpaceBehind = codes "a space behind the last field"
line_fault_words TabBehind = codes "a tab at the end: fields have one space between each two"
line_fault_words TwoSpaces = codes "two spaces in a row: fields have one space between each two"
line_fault_words Tab = codes "a tab: fields have one space between each two"

abbrev pub field_words : Field → List ℕ
field_words Number = codes "number"
field_words Space = codes "space"
field_words Thread = codes "thread"
field_words To = codes "to"
field_words From = codes "from"
field_words Timeouts = codes "timeouts"
field_words Tag = codes "tag"
field_words Originator = codes "originator"
field_words Words = codes "words"
field_words Strings = codes "strings"
field_words Buffers = codes "buffers"
field_words Target = codes "target"
field_words Control = codes "control"
field_words MaskedControl = codes "control"
field_words Moment = codes "moment"
field_words Connection = codes "connection"
field_words Bytes = codes "bytes"
field_words ByteCount = codes "bytes"
field_words Call = codes "call"
field_words SendingCall = codes "sending call"
field_words ReceivingCall = codes "receiving call"
field_words Code = codes "code"

-- that one field is wanted, or several are, and how many came
abbrev pub one_wanted_words : ℕ → List ℕ
one_wanted_words came =
    codes "behind its name this line wants 1 field, but " ++ (decimal came ++ codes " came")

abbrev pub several_wanted_words : ℕ → ℕ → List ℕ
several_wanted_words wanted came =
    codes "behind its name this line wants " ++ (decimal wanted ++ (codes " fields, but "
    ++ (decimal came ++ codes " came")))

-- how many fields are wanted, and how many came
abbrev pub count_words : ℕ → ℕ → List ℕ
count_words wanted came =
    (if wanted == 1 then one_wanted_words came else several_wanted_words wanted came)

-- the number and the name of a field
abbrev pub place_words : ℕ → Field → List ℕ
place_words number field =
    codes "field " ++ (decimal number ++ (codes ", " ++ (field_words field
    ++ codes ": wanted is ")))

-- a fault of the whole line and a number of fields are told whole, a field by its number and name
abbrev pub front_words : Reason → List ℕ
front_words (reason.Line fault) = line_fault_words fault
front_words (reason.Name grammar text) = codes "field 1: wanted is "
front_words (reason.Count wanted came) = count_words wanted came
front_words (reason.Field bad) = place_words bad.number bad.field

-- a text begins so
pub record BeginsWith (front text : List ℕ) : Type 0 where
  pub rest : List ℕ
  pub text_is : text ≡ front ++ rest

-- a text tells the first fault of a line
pub record SaysWhy (grammar : Grammar) (line text : List ℕ) : Type 0 where
  pub why : Reason
  pub is_first : IsFirstFault grammar line why
  pub begins : BeginsWith (front_words why) text
