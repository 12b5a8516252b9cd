use Rattle.std.proofs.Common.{◌≡◌, Contains}
use Rattle.ipc_check.proofs.ongoing.Ongoing.settle.Given as goal

abbrev pub invariant-loop : goal.invariant-loop
invariant-loop l = Contains l.self l.entry × (l.self ≡ l.initial.self)
