-- What a queue has at one place.
use Rattle.std.specs.Prelude.{◌≡◌, ℕ, List, Bool, false, Option, Some, None, option_map, option_and_then}
use Rattle.std.specs.Option.{option_map_or}
use Rattle.ipc_threads.specs.declared.slot.Standing.{Standing}
use Rattle.ipc_waits.specs.Queues.{is_in, is_same}
use Rattle.ipc_waits.specs.declared.queue.Wait.{Wait}

-- whether a wait is this one, where there is one
abbrev pub is_one : Option Wait → Wait → Bool
is_one wait w = option_map_or (is_same w) wait false

-- a wait of this place, or none
abbrev pub IsAt : ℕ → Option Wait → Type 0
IsAt place None = Unit {0}
IsAt place (Some w) = w.place ≡ place

-- at this place a queue has this wait and no other
abbrev pub HasHere : List Wait → ℕ → Option Wait → Type 0
HasHere waits place wait = (w : Wait) → w.place ≡ place → is_in waits w ≡ is_one wait w

-- the wait of a call at a place
abbrev pub wait_of : (Standing → Option ℕ) → ℕ → Option Standing → Option Wait
wait_of key_of place call =
    option_and_then (λ s. option_map (λ key. record { key = key; number = s.number; place = place }) (key_of s)) call
