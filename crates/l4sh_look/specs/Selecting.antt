-- Which entries are told.
use Rattle.std.specs.Prelude.{ℕ, Bool, true, false, not, ◌&&◌, ◌||◌, ◌==◌, Option, Some, None}
use Rattle.std.specs.Global.{Vec}
use Rattle.std.specs.List.{list_any}
use Rattle.l4sh_look.specs.declared.selection.Selection.{Selection}
use Rattle.l4sh_look.specs.declared.selection.Subject.{Subject}

abbrev pub is_one_of : Subject → ℕ → Bool
is_one_of subject one =
    (one == subject.thread) || (one == subject.other) || (one == subject.awaited) || (one == subject.originator)

-- one of its threads is among those that were chosen, or none was chosen
abbrev pub names_one : Option (Vec ℕ) → Subject → Bool
names_one None subject = true
names_one (Some chosen) subject = list_any (is_one_of subject) chosen.items

-- the label is the one that was chosen, or none was chosen
abbrev pub has_label : Option ℕ → Option ℕ → Bool
has_label None label = true
has_label (Some chosen) None = false
has_label (Some chosen) (Some label) = label == chosen

-- an entry is told where it names a thread that was chosen, has the label, and is a failure where
-- failures alone are told
abbrev pub is_told : Selection → Subject → Bool
is_told selection subject =
    names_one selection.threads subject
    && has_label selection.label subject.label
    && (not selection.failures || subject.is_failure)
