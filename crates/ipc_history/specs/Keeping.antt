-- Which entries of a list are kept where it is compacted by a test: those that pass it; and of the
-- moments those that are looked at.
use Rattle.std.specs.Prelude.{ℕ, List, [], ◌∷◌, ◌++◌, Bool, true, false, ◌&&◌, ◌||◌, not, if◌then◌else◌}
use Rattle.std.specs.List.{list_any}
use Rattle.ipc_history.specs.Words.{before}
use Rattle.ipc_history.specs.declared.entry.Entry.{Entry}
use Rattle.ipc_history.specs.declared.entry.Entry.TheVariants.{Given, Written}
use Rattle.ipc_history.specs.declared.entry.Input.TheVariants.{At, Called}
use Rattle.ipc_history.specs.declared.entry.Output.TheVariants.{Ended, Overflowed, Aborted, Failed}

-- an At
abbrev pub is_at : Entry → Bool
is_at (Given (At moment)) = true
is_at _ = false

-- an entry that names a call and may begin or end one of its phases, but Began and Turned: the
-- moment before it is looked at
abbrev pub has_moment : Entry → Bool
has_moment (Given (Called n thread call)) = true
has_moment (Written (Ended n m)) = true
has_moment (Written (Overflowed n m offset)) = true
has_moment (Written (Aborted n m count)) = true
has_moment (Written (Failed n code)) = true
has_moment _ = false

-- an At before these entries is kept where no At follows, or a kept entry whose moment is looked at
-- before the next At
abbrev pub keeps_at : (Entry → Bool) → List Entry → Bool
keeps_at test rest = not (list_any is_at rest) || list_any (λ e. has_moment e && test e) (before is_at rest)

-- an entry before these is kept
abbrev pub keeps : (Entry → Bool) → Entry → List Entry → Bool
keeps test e rest = (if is_at e then keeps_at test rest else test e)

-- what is kept of a list, in its order
abbrev pub kept_list : (Entry → Bool) → List Entry → List Entry
kept_list test [] = []
kept_list test (e ∷ rest) = (if keeps test e rest then e ∷ kept_list test rest else kept_list test rest)

-- what is kept of the front of a list, where of the rest all is held
abbrev pub kept_ahead : (Entry → Bool) → List Entry → List Entry → List Entry
kept_ahead test [] rest = []
kept_ahead test (e ∷ front) rest =
    (if keeps test e (front ++ rest) then e ∷ kept_ahead test front rest else kept_ahead test front rest)

-- and the places of those that are kept, where these are the places of the front
abbrev pub places_ahead : (Entry → Bool) → List Entry → List ℕ → List Entry → List ℕ
places_ahead test [] places rest = []
places_ahead test (e ∷ front) [] rest = []
places_ahead test (e ∷ front) (place ∷ places) rest =
    (if keeps test e (front ++ rest) then place ∷ places_ahead test front places rest else places_ahead test front places rest)
