-- A good line of a trace is the line of an entry.
use Rattle.std.proofs.Common.{◌≡◌, ℕ, List, [], ◌∷◌, IsTrue, codes, refl, sym, ap, subst, ◌∙◌}
use Rattle.std.specs.Prelude.{◌↔◌}
use Rattle.ipc_history.specs.declared.entry.Entry.{Entry}
use Rattle.ipc_history.specs.declared.entry.Entry.TheVariants.{Given, Written}
use Rattle.ipc_history.specs.declared.entry.Input.TheVariants as input
use Rattle.ipc_history.specs.declared.entry.Output.TheVariants as output
use Rattle.ipc_lines.specs.Lines.{entry_fields, entry_text}
use Rattle.ipc_lines.specs.Reading.{IsReadable, parts_at}
use Rattle.ipc_lines.proofs.ListTexts.{spaced_found}
use Rattle.ipc_lines.proofs.Splitting.{lines_split_into_fields}
use Rattle.l4sh_explain.specs.declared.grammars.Grammar.TheVariants.{Trace}
use Rattle.l4sh_explain.specs.declared.grammars.LineName.{LineName}
use Rattle.l4sh_explain.specs.declared.grammars.LineName.TheVariants.{Open, Call, Take, Exreg, Broke, At, Advance, Compact, Connect, Feed, End}
use Rattle.l4sh_explain.specs.declared.grammars.LineName.TheVariants.{Opened, Called, Moved, Began, Turned, Ended, Overflowed, Aborted, Failed}
use Rattle.l4sh_explain.specs.declared.grammars.Field.{Field}
use Rattle.l4sh_explain.specs.declared.grammars.Field.TheVariants as field
use Rattle.l4sh_explain.specs.Grammars.{name_text, is_of}
use Rattle.l4sh_explain.specs.Spellings.{Spells, SpellAll}
use Rattle.l4sh_explain.specs.Reasons.{ReadsBehind, ReadsParts, Reads}
use Rattle.l4sh_explain.proofs.CallWells.{call_spells, is_well_formed}

-- the texts of one, of two and of three fields
pub record One (f : Field) (texts : List (List ℕ)) : Type 0 where
  pub a : List ℕ
  pub spells : Spells f a
  pub are : texts ≡ a ∷ []

pub record Two (f g : Field) (texts : List (List ℕ)) : Type 0 where
  pub a : List ℕ
  pub b : List ℕ
  pub first : Spells f a
  pub second : Spells g b
  pub are : texts ≡ a ∷ b ∷ []

pub record Three (f g k : Field) (texts : List (List ℕ)) : Type 0 where
  pub a : List ℕ
  pub b : List ℕ
  pub d : List ℕ
  pub first : Spells f a
  pub second : Spells g b
  pub third : Spells k d
  pub are : texts ≡ a ∷ b ∷ d ∷ []

pub one : (f : Field) (texts : List (List ℕ)) → SpellAll (f ∷ []) texts → One f texts
one f [] h = absurd h
one f (a ∷ []) h = record { a = a; spells = h.0; are = refl }
one f (a ∷ x ∷ xs) h = absurd h.1

pub two : (f g : Field) (texts : List (List ℕ)) → SpellAll (f ∷ g ∷ []) texts → Two f g texts
two f g [] h = absurd h
two f g (a ∷ []) h = absurd h.1
two f g (a ∷ b ∷ []) h = record { a = a; b = b; first = h.0; second = h.1.0; are = refl }
two f g (a ∷ b ∷ x ∷ xs) h = absurd h.1.1

pub three : (f g k : Field) (texts : List (List ℕ)) → SpellAll (f ∷ g ∷ k ∷ []) texts → Three f g k texts
three f g k [] h = absurd h
three f g k (a ∷ []) h = absurd h.1
three f g k (a ∷ b ∷ []) h = absurd h.1.1
three f g k (a ∷ b ∷ d ∷ []) h = record { a = a; b = b; d = d; first = h.0; second = h.1.0; third = h.1.1.0; are = refl }
three f g k (a ∷ b ∷ d ∷ x ∷ xs) h = absurd h.1.1.1

pub record Spelled (name : LineName) (texts : List (List ℕ)) : Type 0 where
  pub entry : Entry
  pub readable : IsReadable entry
  pub are : name_text name ∷ texts ≡ entry_fields entry

called : (texts : List (List ℕ)) → ReadsBehind Trace Called texts → Spelled Called texts
called [] h = absurd h.0
called (n ∷ texts) h =
    let number = h.0.0 in
    let call = h.1 in
    record { entry = Given (input.Called number.0 call.0 call.1); readable = (number.1, call.2); are = λ i. codes "called" ∷ number.2 i ∷ call.3 i }

entry_of : (name : LineName) (texts : List (List ℕ)) → IsTrue (is_of Trace name) → ReadsBehind Trace name texts → Spelled name texts
entry_of At texts is h =
    let t = one field.Moment texts h.0 in
    record { entry = Given (input.At t.spells.0); readable = t.spells.1; are = ap (λ ts. codes "at" ∷ ts) t.are ∙ (λ i. codes "at" ∷ t.spells.2 i ∷ []) }
entry_of Opened texts is h =
    let t = two field.Thread field.Space texts h.0 in
    record { entry = Given (input.Opened t.first.0 t.second.0); readable = (t.first.1, t.second.1); are = ap (λ ts. codes "opened" ∷ ts) t.are ∙ (λ i. codes "opened" ∷ t.first.2 i ∷ t.second.2 i ∷ []) }
entry_of Called texts is h = called texts h
entry_of Exreg texts is h =
    let t = three field.Thread field.Target field.MaskedControl texts h.0 in
    record { entry = Given (input.Exreg t.first.0 t.second.0 t.third.0); readable = (t.first.1, t.second.1, t.third.1); are = ap (λ ts. codes "exreg" ∷ ts) t.are ∙ (λ i. codes "exreg" ∷ t.first.2 i ∷ t.second.2 i ∷ t.third.2 i ∷ []) }
entry_of Broke texts is h =
    let t = one field.Thread texts h.0 in
    record { entry = Given (input.Broke t.spells.0); readable = t.spells.1; are = ap (λ ts. codes "broke" ∷ ts) t.are ∙ (λ i. codes "broke" ∷ t.spells.2 i ∷ []) }
entry_of Moved texts is h =
    let t = two field.Call field.ByteCount texts h.0 in
    record { entry = Given (input.Moved t.first.0 t.second.0); readable = (t.first.1, t.second.1); are = ap (λ ts. codes "moved" ∷ ts) t.are ∙ (λ i. codes "moved" ∷ t.first.2 i ∷ t.second.2 i ∷ []) }
entry_of Began texts is h =
    let t = two field.SendingCall field.ReceivingCall texts h.0 in
    record { entry = Written (output.Began t.first.0 t.second.0); readable = (t.first.1, t.second.1); are = ap (λ ts. codes "began" ∷ ts) t.are ∙ (λ i. codes "began" ∷ t.first.2 i ∷ t.second.2 i ∷ []) }
entry_of Turned texts is h =
    let t = two field.Call field.Thread texts h.0 in
    record { entry = Written (output.Turned t.first.0 t.second.0); readable = (t.first.1, t.second.1); are = ap (λ ts. codes "turned" ∷ ts) t.are ∙ (λ i. codes "turned" ∷ t.first.2 i ∷ t.second.2 i ∷ []) }
entry_of Ended texts is h =
    let t = two field.SendingCall field.ReceivingCall texts h.0 in
    record { entry = Written (output.Ended t.first.0 t.second.0); readable = (t.first.1, t.second.1); are = ap (λ ts. codes "ended" ∷ ts) t.are ∙ (λ i. codes "ended" ∷ t.first.2 i ∷ t.second.2 i ∷ []) }
entry_of Overflowed texts is h =
    let t = three field.SendingCall field.ReceivingCall field.ByteCount texts h.0 in
    record { entry = Written (output.Overflowed t.first.0 t.second.0 t.third.0); readable = (t.first.1, t.second.1, t.third.1); are = ap (λ ts. codes "overflowed" ∷ ts) t.are ∙ (λ i. codes "overflowed" ∷ t.first.2 i ∷ t.second.2 i ∷ t.third.2 i ∷ []) }
entry_of Aborted texts is h =
    let t = three field.SendingCall field.ReceivingCall field.ByteCount texts h.0 in
    record { entry = Written (output.Aborted t.first.0 t.second.0 t.third.0); readable = (t.first.1, t.second.1, t.third.1); are = ap (λ ts. codes "aborted" ∷ ts) t.are ∙ (λ i. codes "aborted" ∷ t.first.2 i ∷ t.second.2 i ∷ t.third.2 i ∷ []) }
entry_of Failed texts is h =
    let t = two field.Call field.Code texts h.0 in
    record { entry = Written (output.Failed t.first.0 t.second.0); readable = (t.first.1, t.second.1); are = ap (λ ts. codes "failed" ∷ ts) t.are ∙ (λ i. codes "failed" ∷ t.first.2 i ∷ t.second.2 i ∷ []) }
entry_of Open texts is h = absurd (cc is)
entry_of Call texts is h = absurd (cc is)
entry_of Take texts is h = absurd (cc is)
entry_of Advance texts is h = absurd (cc is)
entry_of Compact texts is h = absurd (cc is)
entry_of Connect texts is h = absurd (cc is)
entry_of Feed texts is h = absurd (cc is)
entry_of End texts is h = absurd (cc is)

found : (line : List ℕ) → Reads Trace line → (entry : Entry) × IsReadable entry × (line ≡ entry_text entry)
found line h =
    let spelled = entry_of h.0 h.1 h.2 h.4 in
    (spelled.entry, spelled.readable, spaced_found line (entry_fields spelled.entry) (h.3 ∙ spelled.are))

-- the fields of an entry are good
reads_entry : (entry : Entry) → IsReadable entry → ReadsParts Trace (entry_fields entry)
reads_entry (Given (input.At moment)) h = (At, _, refl, refl, (((moment, h, refl), tt), tt))
reads_entry (Given (input.Opened thread space)) h = (Opened, _, refl, refl, (((thread, h.0, refl), ((space, h.1, refl), tt)), tt))
reads_entry (Given (input.Called number thread call)) h =
    (Called, _, refl, refl, (((number, h.0, refl), call_spells thread call (is_well_formed thread call h.1)), (thread, call, h.1, refl)))
reads_entry (Given (input.Exreg thread dest control)) h = (Exreg, _, refl, refl, (((thread, h.0, refl), ((dest, h.1, refl), ((control, h.2, refl), tt))), tt))
reads_entry (Given (input.Broke thread)) h = (Broke, _, refl, refl, (((thread, h, refl), tt), tt))
reads_entry (Given (input.Moved number count)) h = (Moved, _, refl, refl, (((number, h.0, refl), ((count, h.1, refl), tt)), tt))
reads_entry (Written (output.Began sending receiving)) h = (Began, _, refl, refl, (((sending, h.0, refl), ((receiving, h.1, refl), tt)), tt))
reads_entry (Written (output.Turned receiving thread)) h = (Turned, _, refl, refl, (((receiving, h.0, refl), ((thread, h.1, refl), tt)), tt))
reads_entry (Written (output.Ended sending receiving)) h = (Ended, _, refl, refl, (((sending, h.0, refl), ((receiving, h.1, refl), tt)), tt))
reads_entry (Written (output.Overflowed sending receiving offset)) h =
    (Overflowed, _, refl, refl, (((sending, h.0, refl), ((receiving, h.1, refl), ((offset, h.2, refl), tt))), tt))
reads_entry (Written (output.Aborted sending receiving count)) h =
    (Aborted, _, refl, refl, (((sending, h.0, refl), ((receiving, h.1, refl), ((count, h.2, refl), tt))), tt))
reads_entry (Written (output.Failed number code)) h = (Failed, _, refl, refl, (((number, h.0, refl), ((code, h.1, refl), tt)), tt))

only : (line : List ℕ) → (entry : Entry) × IsReadable entry × (line ≡ entry_text entry) → Reads Trace line
only line h =
    let parts : parts_at 32 line ≡ entry_fields h.0 = ap (parts_at 32) h.2 ∙ lines_split_into_fields.0 h.0 in
    subst (ReadsParts Trace) (sym parts) (reads_entry h.0 h.1)

pub good_lines_are_entries : (line : List ℕ) → Reads Trace line ↔ ((entry : Entry) × IsReadable entry × (line ≡ entry_text entry))
good_lines_are_entries line = (found line, only line)
