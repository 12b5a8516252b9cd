-- Compacting up to a place, and once more up to a later one.
use Rattle.std.specs.Prelude.{◌≡◌, ℕ, ◌-◌, ◌≤◌, List, ◌++◌, length, take, drop}
use Rattle.std.specs.List.{range_with_len}
use Rattle.ipc_history.specs.Holding.{AreAt}
use Rattle.ipc_history.specs.Keeping.{kept_ahead, places_ahead}
use Rattle.ipc_history.specs.Legal.{Legal}
use Rattle.ipc_history.specs.declared.entry.Entry.{Entry}
use Rattle.ipc_compact.specs.Compact.{is_kept, kept_before, kept_of, kept_places}
use Rattle.ipc_compact.specs.Later.{AreAmong}

-- the entries before a place that are held were kept by a compaction up to it, when the history was
-- shorter and fewer outcomes were taken
pub record WasKept (H : List Entry) (taken : List ℕ) (front : List Entry) (place : ℕ) : Type 0 where
  pub past : List Entry
  pub since : List Entry
  pub whole : H ≡ past ++ since
  pub within : place ≤ length past
  pub took : List ℕ
  pub among : AreAmong took taken
  pub kept : front ≡ kept_before past took place

-- up to the end what is kept is the compact
abbrev pub KeptToTheEnd : Type 0
KeptToTheEnd = (H : List Entry) (taken : List ℕ) → kept_before H taken (length H) ≡ kept_of H taken

-- what the next compaction keeps of what is held is what it keeps of all
abbrev pub KeptAtPlaces : Type 0
KeptAtPlaces =
    (H : List Entry) (taken : List ℕ) (front : List Entry) (place upto : ℕ)
    → Legal H → WasKept H taken front place → place ≤ upto → upto ≤ length H
    → kept_ahead (is_kept H taken) (front ++ take (upto - place) (drop place H)) (drop upto H)
    ≡ kept_before H taken upto

-- and these are their places
pub record WasPlaced (H : List Entry) (taken : List ℕ) (front : List Entry) (places : List ℕ) (place : ℕ) : Type 0 where
  pub was : WasKept H taken front place
  pub places_are : places ≡ kept_places was.past was.took place

-- then the places of what the next compaction keeps of what is held are those of what it keeps of
-- all
abbrev pub PlacesKept : Type 0
PlacesKept =
    (H : List Entry) (taken : List ℕ) (front : List Entry) (places : List ℕ) (place upto : ℕ)
    → Legal H → WasPlaced H taken front places place → place ≤ upto → upto ≤ length H
    → places_ahead (is_kept H taken) (front ++ take (upto - place) (drop place H)) (places ++ range_with_len place (upto - place))
    (drop upto H)
    ≡ kept_places H taken upto

-- at these places stand the entries that are kept
abbrev pub PlacesTell : Type 0
PlacesTell =
    (H : List Entry) (taken : List ℕ) (place : ℕ) → place ≤ length H
    → AreAt H (kept_before H taken place) (kept_places H taken place)
