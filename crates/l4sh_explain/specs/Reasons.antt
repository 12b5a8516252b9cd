-- Our choice (docs/FORMATS.md): which lines are good, and of another line its first fault.
use Rattle.std.specs.Prelude.{◌≡◌, ◌≢◌, ℕ, ◌+◌, ◌⊎◌, IsTrue, List, [], ◌∷◌, Option, Some, MatchOption, length, slice_get}
use Rattle.ipc_history.specs.CallParts.{CallParts}
use Rattle.ipc_lines.specs.Lines.{call_fields}
use Rattle.ipc_lines.specs.Reading.{parts_at, IsCall}
use Rattle.l4sh_explain.specs.declared.grammars.Grammar.{Grammar}
use Rattle.l4sh_explain.specs.declared.grammars.LineName.{LineName}
use Rattle.l4sh_explain.specs.declared.grammars.LineName.TheVariants.{Call, Called}
use Rattle.l4sh_explain.specs.declared.grammars.Field.{Field}
use Rattle.l4sh_explain.specs.declared.rules.CallRule.{CallRule}
use Rattle.l4sh_explain.specs.declared.reasons.Wanted.{Wanted}
use Rattle.l4sh_explain.specs.declared.reasons.Wanted.TheVariants.{Spelling, Rule}
use Rattle.l4sh_explain.specs.declared.reasons.BadField.{BadField}
use Rattle.l4sh_explain.specs.declared.reasons.Reason.{Reason}
use Rattle.l4sh_explain.specs.declared.reasons.Reason.TheVariants as reason
use Rattle.l4sh_explain.specs.Grammars.{name_text, is_of, fields_of, kind_of}
use Rattle.l4sh_explain.specs.Spellings.{Spells, SpellAll}
use Rattle.l4sh_explain.specs.Rules.{IsWellFormed, shape_of, broken_rule, place_of, field_of}
use Rattle.l4sh_explain.specs.Whole.{line_fault_of}

-- nine fields that spell a call in normal form
abbrev pub SpellsCall : List (List ℕ) → Type 0
SpellsCall texts = (thread : ℕ) × (call : CallParts) × IsCall thread call
    × (texts ≡ call_fields thread call)

-- the call in a line is in normal form
abbrev pub IsInForm : LineName → List (List ℕ) → Type 0
IsInForm Call texts = SpellsCall texts
IsInForm Called [] = ⊥
IsInForm Called (number ∷ texts) = SpellsCall texts
IsInForm _ texts = Unit {0}

-- the texts behind a name are those of its fields, and a call among them is in normal form
abbrev pub ReadsBehind : Grammar → LineName → List (List ℕ) → Type 0
ReadsBehind grammar name texts = SpellAll (fields_of grammar name) texts × IsInForm name texts

-- the parts of a line are a name of the grammar, and what belongs behind it
abbrev pub ReadsParts : Grammar → List (List ℕ) → Type 0
ReadsParts grammar parts = (name : LineName) × (texts : List (List ℕ)) × IsTrue (is_of grammar name)
    × (parts ≡ name_text name ∷ texts) × ReadsBehind grammar name texts

-- a good line
abbrev pub Reads : Grammar → List ℕ → Type 0
Reads grammar line = ReadsParts grammar (parts_at 32 line)

-- what is said of a field: its number, its name, what is wanted, and what stood there
pub record Says (number : ℕ) (field : Field) (wanted : Wanted) (text : List ℕ) (bad : BadField) : Type 0 where
  pub number_is : bad.number ≡ number
  pub field_is : bad.field ≡ field
  pub wanted_is : bad.wanted ≡ wanted
  pub text_is : bad.text.now ≡ text

-- the first text, from left to right, that is not of its field; the fields are counted from a
-- number on
abbrev pub IsFirstUnspelled : ℕ → List Field → List (List ℕ) → BadField → Type 0
IsFirstUnspelled number [] texts bad = ⊥
IsFirstUnspelled number (field ∷ fields) [] bad = ⊥
IsFirstUnspelled number (field ∷ fields) (text ∷ texts) bad =
    (¬ (Spells field text) × Says number field (Spelling (kind_of field)) text bad)
    ⊎ (Spells field text × IsFirstUnspelled (number + 1) fields texts bad)

-- the field of the first rule that a call breaks; its fields are counted from a number on
pub record IsFirstBroken (number : ℕ) (texts : List (List ℕ)) (bad : BadField) : Type 0 where
  pub thread : ℕ
  pub call : CallParts
  pub well_formed : IsWellFormed thread call
  pub spelled : texts ≡ call_fields thread call
  pub rule : CallRule
  pub broken : broken_rule (shape_of call) ≡ Some rule
  pub text : List ℕ
  pub stands : slice_get texts (place_of rule) ≡ Some text
  pub says : Says (number + place_of rule) (field_of rule) (Rule rule) text bad

-- in a line a call begins at its second field, behind the number of the call at its third
abbrev pub IsUnformed : LineName → List (List ℕ) → BadField → Type 0
IsUnformed Call texts bad = IsFirstBroken 2 texts bad
IsUnformed Called [] bad = ⊥
IsUnformed Called (number ∷ texts) bad = IsFirstBroken 3 texts bad
IsUnformed _ texts bad = ⊥

-- the first field at fault behind a name: one that is not well formed, else one that the normal
-- form of a call refuses
abbrev pub IsBadField : Grammar → LineName → List (List ℕ) → BadField → Type 0
IsBadField grammar name texts bad =
    IsFirstUnspelled 2 (fields_of grammar name) texts bad
    ⊎ (SpellAll (fields_of grammar name) texts × IsUnformed name texts bad)

-- a text is a name of the grammar
abbrev pub IsNamed : Grammar → List ℕ → LineName → Type 0
IsNamed grammar text name = IsTrue (is_of grammar name) × (text ≡ name_text name)

-- the first fault among the parts of a line: its name, then the number of its fields, then a field
abbrev pub IsFaultOf : Grammar → List ℕ → List (List ℕ) → Reason → Type 0
IsFaultOf grammar first texts (reason.Line fault) = ⊥
IsFaultOf grammar first texts (reason.Name of text) =
    (of ≡ grammar) × (text.now ≡ first) × ((name : LineName) → ¬ (IsNamed grammar first name))
IsFaultOf grammar first texts (reason.Count wanted came) = (name : LineName)
    × IsNamed grammar first name × (wanted ≡ length (fields_of grammar name))
    × (came ≡ length texts) × (wanted ≢ came)
IsFaultOf grammar first texts (reason.Field bad) = (name : LineName)
    × IsNamed grammar first name × (length (fields_of grammar name) ≡ length texts)
    × IsBadField grammar name texts bad

abbrev pub IsFaultIn : Grammar → List (List ℕ) → Reason → Type 0
IsFaultIn grammar [] why = ⊥
IsFaultIn grammar (first ∷ texts) why = IsFaultOf grammar first texts why

-- the first fault of a line: of the whole line, else among its parts
abbrev pub IsFirstFault : Grammar → List ℕ → Reason → Type 0
IsFirstFault grammar line why =
    MatchOption (line_fault_of grammar line)
    (IsFaultIn grammar (parts_at 32 line) why)
    (λ fault. why ≡ reason.Line fault)

-- no reason exactly of a good line; of another line its first fault
abbrev pub Tells : Grammar → List ℕ → Option Reason → Type 0
Tells grammar line answer =
    MatchOption answer (Reads grammar line) (λ why. ¬ (Reads grammar line) × IsFirstFault grammar line why)
