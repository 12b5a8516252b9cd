-- The calls so far have turned.
use Rattle.std.proofs.Common.{◌≡◌, ◌++◌, map, take, drop}
use Rattle.l4sh_look.specs.Following.{turned_note}
use Rattle.l4sh_look.proofs.notes.turn.Given as goal

abbrev pub invariant-calls : goal.invariant-calls
invariant-calls l =
    l.call-items ≡ map (turned_note l.number l.from) (take l.call-index l.fn.calls.items) ++ drop l.call-index l.fn.calls.items
