use Rattle.std.proofs.Common.{refl, arith}
use Rattle.ipc_client.proofs.PeriodLemmas.{halved_more, halved_is_least, period_is}
use Rattle.ipc_client.proofs.timeout.Timeout.micros.Goals as goal

pub halvings-preserved : goal.halvings-preserved
halvings-preserved c =
    halved_more c.args.micros c.halvings.exponent c.halvings.mantissa _ c.halvings.invariant
    (omega (arith, c.halvings-test.true)) (omega (arith, c.if-exponent-lt31.true)) refl

pub returns-in-Some : goal.returns-in-Some
returns-in-Some c =
    halved_is_least c.args.micros c.halvings.exponent c.halvings.mantissa c.in-Some.period
    c.halvings.invariant (omega (arith, c.if-mantissa-gt1023.false))
    (period_is _ c.in-Some.period c.in-Some.ensures.value)
