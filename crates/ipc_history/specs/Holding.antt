-- The entries of a past that memory holds.
use Rattle.std.specs.Prelude.{◌≡◌, ℕ, ◌+◌, ◌-◌, ◌^◌, ◌<◌, ◌≤◌, List, length, take, drop, ◌++◌, Bool, nat_lt, if◌then◌else◌}
use Rattle.std.specs.Prelude.{IsTrue, IsFalse, slice_index_or, All, Contains, [], ◌∷◌, Option, Some, None, not, ◌||◌, ◌==◌, max}
use Rattle.std.specs.List.{list_any, range_with_len, slice_get}
use Rattle.ipc_history.specs.Calls.{is_called}
use Rattle.ipc_history.specs.Entries.{calls}
use Rattle.ipc_history.specs.Keeping.{kept_ahead, places_ahead}
use Rattle.ipc_history.specs.Phases.{is_over}
use Rattle.ipc_history.specs.HistoryParts.{HeldParts, HistoryParts}
use Rattle.ipc_history.specs.declared.entry.Entry.{Entry}

-- the entry at a place enters a call
abbrev pub HasCall : List Entry → ℕ → ℕ → Type 0
HasCall held place number = (place < length held) × ((d : Entry) → IsTrue (calls number (slice_index_or held place d)))

-- what is held of a past: entries of it alone, and the entry of each open call
pub record Holds (P held : List Entry) : Type 0 where
  pub among : All (Contains P) held
  pub called : (n : ℕ) → IsFalse (is_over P n) → IsTrue (is_called held n)

-- so many entries in front, and behind them the past from a place on, whole; so many were let go
pub record IsHeld (P held : List Entry) (kept gone : ℕ) : Type 0 where
  pub holds : Holds P held
  pub within : kept ≤ length held
  pub whole : drop kept held ≡ drop (kept + gone) P
  pub size : length held + gone ≡ length P
  pub few : gone < 2 ^ 63

-- each of these places is that of the entry beside it
abbrev pub AreAt : List Entry → List Entry → List ℕ → Type 0
AreAt P [] [] = Unit {0}
AreAt P (e ∷ front) (place ∷ places) = (slice_get P place ≡ Some e) × AreAt P front places
AreAt P _ _ = ⊥

-- places that rise, none before the first of these two and none from the second on
abbrev pub Rise : ℕ → ℕ → List ℕ → Type 0
Rise low behind [] = Unit {0}
Rise low behind (place ∷ places) = (low ≤ place) × (place < behind) × Rise (place + 1) behind places

-- the entries in front have their places; there is room for so many entries, for that of the places
-- too
pub record IsPlaced (P held : List Entry) (places : List ℕ) (kept gone room entries_room places_room : ℕ) : Type 0 where
  pub beside : length places ≡ kept
  pub at : AreAt P (take kept held) places
  pub rise : Rise 0 (kept + gone) places
  pub within : length held ≤ room
  pub entries_fit : room ≤ entries_room
  pub places_fit : room ≤ places_room

-- the entries that are held, oldest first
abbrev pub held_of : HistoryParts → List Entry
held_of history = history.held.front ++ drop history.held.whole_from history.entries

-- where compacting up to a place ends: not behind the last entry, and not before the place that was
-- reached
abbrev pub reached : ℕ → HistoryParts → ℕ
reached upto history =
    (if nat_lt upto history.held.whole_from
    then history.held.whole_from
    else (if nat_lt upto (length history.entries) then upto else length history.entries))

-- the entries before that place that are held
abbrev pub held_before : ℕ → HistoryParts → List Entry
held_before upto history =
    history.held.front ++ take (reached upto history - history.held.whole_from) (drop history.held.whole_from history.entries)

-- and their places
abbrev pub places_before : ℕ → HistoryParts → List ℕ
places_before upto history =
    history.held.places ++ range_with_len history.held.whole_from (reached upto history - history.held.whole_from)

-- what is held where of the entries before that place those are kept that pass a test, with the
-- moments that are looked at
abbrev pub compacted : (Entry → Bool) → ℕ → HistoryParts → HeldParts
compacted test upto history = record {
  front = kept_ahead test (held_before upto history) (drop (reached upto history) history.entries);
  places = places_ahead test (held_before upto history) (places_before upto history) (drop (reached upto history) history.entries);
  whole_from = reached upto history;
  mark = history.held.mark;
}

-- the entry of a place is held: from one place on all are, and before it those of the places that
-- are named
abbrev pub is_held : HeldParts → ℕ → Bool
is_held held place = not (nat_lt place held.whole_from) || list_any (λ p. p == place) held.places

-- the entry of a place of the past, counted from 0; None where it is held no more, or was not
-- written yet
abbrev pub held_entry : HeldParts → List Entry → ℕ → Option Entry
held_entry held entries place = (if is_held held place then slice_get entries place else None)

-- the entries before a place are marked too; the mark does not go back
abbrev pub marked_to : ℕ → HeldParts → HeldParts
marked_to upto held = record held { mark = max held.mark upto }
