-- Calls that wait under keys: for a receiver, for a partner, until a moment.
use Rattle.std.specs.Prelude.{◌≡◌, ℕ, ◌<◌, ◌≤◌, nat_lt, nat_le, Bool, false, IsTrue, ◌&&◌, ◌||◌, ◌==◌}
use Rattle.std.specs.Prelude.{List, [], ◌∷◌, All, filter, map, Option, None, Some, if◌then◌else◌}
use Rattle.std.specs.List.{list_any, IsDistinct}
use Rattle.std.specs.Option.{option_map_or}
use Rattle.ipc_words.specs.Limits.{table_slots}
use Rattle.ipc_waits.specs.declared.queue.Wait.{Wait}

-- the same wait
abbrev pub is_same : Wait → Wait → Bool
is_same a b = (a.key == b.key) && (a.number == b.number) && (a.place == b.place)

-- whether a wait is in a queue, and whether one of the call at this place is
abbrev pub is_in : List Wait → Wait → Bool
is_in waits wait = list_any (is_same wait) waits

abbrev pub is_placed : List Wait → ℕ → Bool
is_placed waits place = list_any (λ w. w.place == place) waits

-- by rising keys, and under one key by rising numbers
abbrev pub comes_before : Wait → Wait → Bool
comes_before a b = nat_lt a.key b.key || ((a.key == b.key) && nat_le a.number b.number)

abbrev pub IsOrdered : List Wait → Type 0
IsOrdered [] = Unit {0}
IsOrdered (x ∷ xs) = ((w : Wait) → IsTrue (is_in xs w) → IsTrue (comes_before x w)) × IsOrdered xs

-- a queue: in order, of each place at most one wait
pub record IsQueue (waits : List Wait) : Type 0 where
  pub ordered : IsOrdered waits
  pub once : IsDistinct (λ a b. a == b) (map (λ w. w.place) waits)
  pub within : All (λ w. w.place < table_slots) waits

-- those under a key, and those whose key is no greater than a moment
abbrev pub under : ℕ → List Wait → List Wait
under key waits = filter (λ w. w.key == key) waits

abbrev pub until : ℕ → List Wait → List Wait
until moment waits = filter (λ w. nat_le w.key moment) waits

-- a key, if there is one, is no greater than a moment
abbrev pub is_until : Option ℕ → ℕ → Bool
is_until key moment = option_map_or (λ k. nat_le k moment) key false

-- the one of the lesser number, and the first where they are equal
abbrev pub lesser : Option Wait → Wait → Option Wait
lesser None w = Some w
lesser (Some known) w = (if nat_le known.number w.number then Some known else Some w)

-- the one of these waits that has the least number: none of no waits, else one of them, whose
-- number no other goes below
abbrev pub IsLeastWait : List Wait → Option Wait → Type 0
IsLeastWait waits None = waits ≡ []
IsLeastWait waits (Some least) =
    IsTrue (is_in waits least) × ((w : Wait) → IsTrue (is_in waits w) → least.number ≤ w.number)
