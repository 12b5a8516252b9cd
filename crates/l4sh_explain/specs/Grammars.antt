-- Our choice (docs/FORMATS.md): the names that lines begin with, and the fields behind each, from
-- left to right.
use Rattle.std.specs.Prelude.{ℕ, Bool, true, false, List, [], ◌∷◌, Option, codes, find}
use Rattle.std.specs.Str.{bytes_eq}
use Rattle.l4sh_explain.specs.declared.grammars.Grammar.{Grammar}
use Rattle.l4sh_explain.specs.declared.grammars.Grammar.TheVariants.{Script, Wire, Trace}
use Rattle.l4sh_explain.specs.declared.grammars.LineName.{LineName}
use Rattle.l4sh_explain.specs.declared.grammars.LineName.TheVariants.{Open, Call, Take, Exreg, Broke, At, Advance, Compact, Connect, Feed, End}
use Rattle.l4sh_explain.specs.declared.grammars.LineName.TheVariants.{Opened, Called, Moved, Began, Turned, Ended, Overflowed, Aborted, Failed}
use Rattle.l4sh_explain.specs.declared.grammars.Field.{Field}
use Rattle.l4sh_explain.specs.declared.grammars.Field.TheVariants as field
use Rattle.l4sh_explain.specs.declared.grammars.FieldKind.{FieldKind}
use Rattle.l4sh_explain.specs.declared.grammars.FieldKind.TheVariants as kind

abbrev pub name_text : LineName → List ℕ
name_text Open = codes "open"
name_text Call = codes "call"
name_text Take = codes "take"
name_text Exreg = codes "exreg"
name_text Broke = codes "broke"
name_text At = codes "at"
name_text Advance = codes "advance"
name_text Compact = codes "compact"
name_text Connect = codes "connect"
name_text Feed = codes "feed"
name_text End = codes "end"
name_text Opened = codes "opened"
name_text Called = codes "called"
name_text Moved = codes "moved"
name_text Began = codes "began"
name_text Turned = codes "turned"
name_text Ended = codes "ended"
name_text Overflowed = codes "overflowed"
name_text Aborted = codes "aborted"
name_text Failed = codes "failed"

-- the names of all grammars
abbrev pub all_names : List LineName
all_names =
    Open ∷ Call ∷ Take ∷ Exreg ∷ Broke ∷ At ∷ Advance ∷ Compact ∷ Connect ∷ Feed ∷ End ∷ Opened
    ∷ Called ∷ Moved ∷ Began ∷ Turned ∷ Ended ∷ Overflowed ∷ Aborted ∷ Failed ∷ []

-- the name that a text is, of any grammar
abbrev pub any_name : List ℕ → Option LineName
any_name text = find (λ name. bytes_eq text (name_text name)) all_names

-- the commands of a script
abbrev pub is_command : LineName → Bool
is_command Open = true
is_command Call = true
is_command Take = true
is_command Exreg = true
is_command Broke = true
is_command At = true
is_command Advance = true
is_command Compact = true
is_command _ = false

-- those of a wire script
abbrev pub is_wire_command : LineName → Bool
is_wire_command Connect = true
is_wire_command Feed = true
is_wire_command End = true
is_wire_command At = true
is_wire_command Advance = true
is_wire_command _ = false

-- the entries of a trace
abbrev pub is_entry : LineName → Bool
is_entry At = true
is_entry Opened = true
is_entry Called = true
is_entry Exreg = true
is_entry Broke = true
is_entry Moved = true
is_entry Began = true
is_entry Turned = true
is_entry Ended = true
is_entry Overflowed = true
is_entry Aborted = true
is_entry Failed = true
is_entry _ = false

-- the names of a grammar
abbrev pub is_of : Grammar → LineName → Bool
is_of Script name = is_command name
is_of Wire name = is_wire_command name
is_of Trace name = is_entry name

-- CALL, the nine fields of a call
abbrev pub call_fields : List Field
call_fields =
    field.Thread ∷ field.To ∷ field.From ∷ field.Timeouts ∷ field.Tag ∷ field.Originator
    ∷ field.Words ∷ field.Strings ∷ field.Buffers ∷ []

-- the control of an entry has no bit but R and S; that of a command may have any
abbrev pub control_field : Grammar → Field
control_field Trace = field.MaskedControl
control_field _ = field.Control

-- the fields behind a name, from left to right
abbrev pub fields_of : Grammar → LineName → List Field
fields_of grammar Open = field.Number ∷ field.Space ∷ []
fields_of grammar Call = call_fields
fields_of grammar Take = field.Thread ∷ []
fields_of grammar Exreg = field.Thread ∷ field.Target ∷ control_field grammar ∷ []
fields_of grammar Broke = field.Thread ∷ []
fields_of grammar At = field.Moment ∷ []
fields_of grammar Advance = []
fields_of grammar Compact = []
fields_of grammar Connect = field.Space ∷ []
fields_of grammar Feed = field.Connection ∷ field.Bytes ∷ []
fields_of grammar End = field.Connection ∷ []
fields_of grammar Opened = field.Thread ∷ field.Space ∷ []
fields_of grammar Called = field.Call ∷ call_fields
fields_of grammar Moved = field.Call ∷ field.ByteCount ∷ []
fields_of grammar Began = field.SendingCall ∷ field.ReceivingCall ∷ []
fields_of grammar Turned = field.Call ∷ field.Thread ∷ []
fields_of grammar Ended = field.SendingCall ∷ field.ReceivingCall ∷ []
fields_of grammar Overflowed = field.SendingCall ∷ field.ReceivingCall ∷ field.ByteCount ∷ []
fields_of grammar Aborted = field.SendingCall ∷ field.ReceivingCall ∷ field.ByteCount ∷ []
fields_of grammar Failed = field.Call ∷ field.Code ∷ []

-- how a field is spelled
abbrev pub kind_of : Field → FieldKind
kind_of field.Number = kind.Decimal
kind_of field.Space = kind.Decimal
kind_of field.Moment = kind.Decimal
kind_of field.Connection = kind.Decimal
kind_of field.Call = kind.Decimal
kind_of field.SendingCall = kind.Decimal
kind_of field.ReceivingCall = kind.Decimal
kind_of field.ByteCount = kind.Decimal
kind_of field.Thread = kind.Id
kind_of field.To = kind.Id
kind_of field.From = kind.Id
kind_of field.Originator = kind.Id
kind_of field.Target = kind.Id
kind_of field.Tag = kind.Hex
kind_of field.Control = kind.Hex
kind_of field.Code = kind.Hex
kind_of field.MaskedControl = kind.MaskedControl
kind_of field.Timeouts = kind.Timeouts
kind_of field.Words = kind.Words
kind_of field.Strings = kind.Strings
kind_of field.Buffers = kind.Buffers
kind_of field.Bytes = kind.Digits
