-- The pairs of events.
use Rattle.std.specs.Prelude.{ℕ, Bool, ◌&&◌, ◌==◌}
use Rattle.std.specs.Ordering.{nat_cmp, ordering_then}
use Rattle.std.specs.declared.cmp.Ordering.{Ordering}
use Rattle.l4sh_look.specs.declared.event.Event.{Event}

-- a pair: the words of the thread that sends and of the one that receives
abbrev pub Pair : Type 0
Pair = ℕ × ℕ

abbrev pub compare_pairs : Pair → Pair → Ordering
compare_pairs a b = ordering_then (nat_cmp a.0 b.0) (nat_cmp a.1 b.1)

-- an event is of a pair
abbrev pub is_of : Pair → Event → Bool
is_of pair event = (event.from == pair.0) && (event.to == pair.1)
