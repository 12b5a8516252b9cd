-- The microseconds, divided by a power of two and rounded up.
use Rattle.std.proofs.Common.{◌-◌}
use Rattle.ipc_client.proofs.PeriodLemmas.{IsHalved}
use Rattle.ipc_client.proofs.timeout.Timeout.micros.Given as goal

abbrev pub invariant-halvings : goal.invariant-halvings
invariant-halvings l = IsHalved l.micros l.exponent l.mantissa

abbrev pub decreases-halvings : goal.decreases-halvings
decreases-halvings l = 31 - l.exponent
