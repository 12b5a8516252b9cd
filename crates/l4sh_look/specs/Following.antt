-- What an entry is about: the threads and the label that it names, by what the entries before it
-- say of the calls that it speaks of.
use Rattle.std.specs.Prelude.{◌≡◌, ℕ, List, [], ◌∷◌, ◌++◌, Bool, true, false, ◌==◌, Option, Some, None, find, map, option_map, if◌then◌else◌}
use Rattle.std.specs.List.{fold}
use Rattle.ipc_words.specs.IpcError.{phase_of}
use Rattle.ipc_words.specs.MsgTag.{label_of}
use Rattle.ipc_words.specs.ThreadId.{nilthread}
use Rattle.ipc_words.specs.declared.ipc_error.Phase.{Phase}
use Rattle.ipc_words.specs.declared.ipc_error.Phase.TheVariants.{Send, Receive}
use Rattle.ipc_history.specs.CallParts.{CallParts}
use Rattle.ipc_history.specs.declared.entry.Entry.{Entry}
use Rattle.ipc_history.specs.declared.entry.Entry.TheVariants.{Given, Written}
use Rattle.ipc_history.specs.declared.entry.Input.TheVariants.{At, Opened, Called, Exreg, Broke, Moved}
use Rattle.ipc_history.specs.declared.entry.Output.{Output}
use Rattle.ipc_history.specs.declared.entry.Output.TheVariants.{Began, Turned, Ended, Overflowed, Aborted, Failed}
use Rattle.l4sh_look.specs.Selecting.{is_told}
use Rattle.l4sh_look.specs.declared.notes.Note.{Note}
use Rattle.l4sh_look.specs.declared.selection.Selection.{Selection}
use Rattle.l4sh_look.specs.declared.selection.Subject.{Subject}

-- the last call of a thread: its number, its caller, the receiver of its send phase, its
-- FromSpecifier as it stands, and the label of its message
pub record LastCall : Type 0 where
  pub number : ℕ
  pub caller : ℕ
  pub to : ℕ
  pub from : ℕ
  pub label : ℕ

abbrev pub call_entered : ℕ → ℕ → CallParts → LastCall
call_entered number caller call =
    record { number = number; caller = caller; to = call.to; from = call.from; label = label_of call.tag }

-- the same of what is kept of a call
abbrev pub call_of_note : Note → LastCall
call_of_note note =
    record { number = note.number; caller = note.caller; to = note.to; from = note.from; label = note.label }

-- a call in the place of the one before it of its thread
abbrev pub with_call : LastCall → List LastCall → List LastCall
with_call call [] = call ∷ []
with_call call (kept ∷ calls) = if kept.caller == call.caller then call ∷ calls else kept ∷ with_call call calls

-- and without that of a thread
abbrev pub without : ℕ → List LastCall → List LastCall
without thread [] = []
without thread (kept ∷ calls) = if kept.caller == thread then calls else kept ∷ without thread calls

abbrev pub turned_to : ℕ → ℕ → LastCall → LastCall
turned_to number thread call = if call.number == number then record call { from = thread } else call

-- the same of what is kept
abbrev pub turned_note : ℕ → ℕ → Note → Note
turned_note number thread note = if note.number == number then record note { from = thread } else note

-- the last calls of the live threads behind one entry more
abbrev pub noted : List LastCall → Entry → List LastCall
noted calls (Given (At moment)) = calls
noted calls (Given (Opened thread space)) = calls
noted calls (Given (Called number caller call)) = with_call (call_entered number caller call) calls
noted calls (Given (Exreg thread other control)) = calls
noted calls (Given (Broke thread)) = without thread calls
noted calls (Given (Moved number count)) = calls
noted calls (Written (Began sending receiving)) = calls
noted calls (Written (Turned number thread)) = map (turned_to number thread) calls
noted calls (Written (Ended sending receiving)) = calls
noted calls (Written (Overflowed sending receiving count)) = calls
noted calls (Written (Aborted sending receiving count)) = calls
noted calls (Written (Failed number error)) = calls

unfoldable pub last_calls : List Entry → List LastCall
last_calls entries = fold noted [] entries

-- the call of a number, where it is the last one of its thread
abbrev pub call_at : List LastCall → ℕ → Option LastCall
call_at calls number = find (λ call. call.number == number) calls

-- another thread, or this one where nilthread stands for it
abbrev pub or_self : ℕ → ℕ → ℕ
or_self thread other = if other == nilthread then thread else other

abbrev pub alone : ℕ → Subject
alone thread =
    record { thread = thread; other = thread; awaited = thread; originator = thread; label = None; is_failure = false }

-- the label of a message to this receiver
abbrev pub label_sent : ℕ → ℕ → Option ℕ
label_sent to label = if to == nilthread then None else Some label

-- a call that is entered is about its caller, the receiver of its send phase, its FromSpecifier,
-- and its originator, which is nilthread where its tag does not propagate
abbrev pub about_entered : ℕ → CallParts → Subject
about_entered caller call = record {
  thread = caller;
  other = or_self caller call.to;
  awaited = or_self caller call.from;
  originator = or_self caller call.originator;
  label = label_sent call.to (label_of call.tag);
  is_failure = false;
}

-- what comes of a call is about its caller and one other thread
abbrev pub about_call : ℕ → LastCall → Subject
about_call other call = record {
  thread = call.caller;
  other = or_self call.caller other;
  awaited = call.caller;
  originator = call.caller;
  label = label_sent call.to call.label;
  is_failure = false;
}

-- the partner of a phase
abbrev pub partner_in : Phase → LastCall → ℕ
partner_in Send call = call.to
partner_in Receive call = call.from

abbrev pub failed : Subject → Subject
failed subject = record subject { is_failure = true }

-- a transfer is about the callers of its two calls
abbrev pub about_pair : Bool → Option LastCall → Option LastCall → Option Subject
about_pair is_failure (Some sending) (Some receiving) =
    Some (record (alone sending.caller) { other = receiving.caller; label = Some sending.label; is_failure = is_failure })
about_pair is_failure (Some sending) None = None
about_pair is_failure None receiving = None

abbrev pub about_output : List LastCall → Output → Option Subject
about_output calls (Began sending receiving) = about_pair false (call_at calls sending) (call_at calls receiving)
about_output calls (Turned number thread) = option_map (about_call thread) (call_at calls number)
about_output calls (Ended sending receiving) = about_pair false (call_at calls sending) (call_at calls receiving)
about_output calls (Overflowed sending receiving count) =
    about_pair true (call_at calls sending) (call_at calls receiving)
about_output calls (Aborted sending receiving count) =
    about_pair true (call_at calls sending) (call_at calls receiving)
about_output calls (Failed number error) =
    option_map (λ call. failed (about_call (partner_in (phase_of error) call) call)) (call_at calls number)

-- what an entry is about, with the last calls behind it; nothing for a moment by itself, and where
-- it names a call that is none of them
abbrev pub about : List LastCall → Entry → Option Subject
about calls (Given (At moment)) = None
about calls (Given (Opened thread space)) = Some (alone thread)
about calls (Given (Called number caller call)) = Some (about_entered caller call)
about calls (Given (Exreg thread other control)) = Some (record (alone thread) { other = other })
about calls (Given (Broke thread)) = Some (alone thread)
about calls (Given (Moved number count)) = option_map (λ call. about_call call.to call) (call_at calls number)
about calls (Written output) = about_output calls output

-- what an entry behind these ones is about
abbrev pub subject_in : List Entry → Entry → Option Subject
subject_in entries entry = about (last_calls (entries ++ entry ∷ [])) entry

-- it is told where that was chosen
abbrev pub tells_of : Selection → Option Subject → Bool
tells_of selection None = false
tells_of selection (Some subject) = is_told selection subject

abbrev pub is_told_behind : Selection → List Entry → Entry → Bool
is_told_behind selection entries entry = tells_of selection (subject_in entries entry)

-- the entries that came, and what is told of them
pub record Followed : Type 0 where
  pub selection : Selection
  pub past : List Entry
