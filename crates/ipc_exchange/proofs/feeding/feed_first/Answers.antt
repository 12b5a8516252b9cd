use Rattle.std.proofs.Common.{sym, ◌∙◌, ap, subst, None, Some, arith}
use Rattle.ipc_connection.specs.Taking.{Takes}
use Rattle.ipc_connection.proofs.PieceLemmas.{take_hears}
use Rattle.ipc_exchange.proofs.FeedLemmas.{ends, fails, finished_is, goes_on, held_size, rests, service_stage, taken_as}
use Rattle.ipc_exchange.specs.Feeding.{has_finished}
use Rattle.ipc_exchange.proofs.feeding.feed_first.Goals as goal

pub returns-in-Ok-default-None-clause-all : goal.returns-in-Ok-default-None-clause-all
returns-in-Ok-default-None-clause-all c = λ none bytes holds.
    rests _ _ bytes _ _ _ (taken_as bytes _ _ _ _ None _ c.in-Ok-default-None.is c.in-Ok-default-None.field-0-1-is (c.take.ensures.taken bytes holds).1)

pub returns-then-has_finished-clause-all : goal.returns-then-has_finished-clause-all
returns-then-has_finished-clause-all c = λ none bytes holds.
    ends _ _ _ bytes _ _ _ _ (taken_as bytes _ _ _ _ (Some c.in-Ok-default-Some.heard) _ c.in-Ok-default-Some.is c.in-Ok-default-Some.field-0-1-is (c.take.ensures.taken bytes holds).1) c.hear.ensures.hears (service_stage c.hear.new.service c.args.place ∙ finished_is _ (sym c.has_finished.ensures ∙ c.if-has_finished.true))

pub returns-else-has_finished-clause-first : goal.returns-else-has_finished-clause-first
returns-else-has_finished-clause-first c = λ bytes holds.
    goes_on _ _ _ bytes _ _ _ _ (taken_as bytes _ _ _ _ (Some c.in-Ok-default-Some.heard) _ c.in-Ok-default-Some.is c.in-Ok-default-Some.field-0-1-is (c.take.ensures.taken bytes holds).1) c.hear.ensures.hears (ap has_finished (service_stage c.hear.new.service c.args.place) ∙ (sym c.has_finished.ensures ∙ c.if-has_finished.false))

pub returns-else-has_finished-clause-rest : goal.returns-else-has_finished-clause-rest
returns-else-has_finished-clause-rest c =
    let bytes = c.requires.holds.0 in
    (take_hears _ bytes _ _ _ (taken_as bytes _ _ _ _ (Some c.in-Ok-default-Some.heard) _ c.in-Ok-default-Some.is c.in-Ok-default-Some.field-0-1-is (c.take.ensures.taken bytes c.requires.holds.1).1)).holds

pub returns-else-has_finished-clause-within : goal.returns-else-has_finished-clause-within
returns-else-has_finished-clause-within c =
    let bytes = c.requires.holds.0 in
    (take_hears _ bytes _ _ _ (taken_as bytes _ _ _ _ (Some c.in-Ok-default-Some.heard) _ c.in-Ok-default-Some.is c.in-Ok-default-Some.field-0-1-is (c.take.ensures.taken bytes c.requires.holds.1).1)).within

pub returns-else-has_finished-clause-some : goal.returns-else-has_finished-clause-some
returns-else-has_finished-clause-some c =
    let bytes = c.requires.holds.0 in
    let first = take_hears _ bytes _ _ _ (taken_as bytes _ _ _ _ (Some c.in-Ok-default-Some.heard) _ c.in-Ok-default-Some.is c.in-Ok-default-Some.field-0-1-is (c.take.ensures.taken bytes c.requires.holds.1).1) in
    let size = held_size c.args.decoder.now bytes c.requires.holds.1 in
    omega (arith, first.some, size)

pub returns-in-Err-clause-all : goal.returns-in-Err-clause-all
returns-in-Err-clause-all c = λ none bytes holds.
    fails _ _ _ bytes _ _ _ (subst (λ r. Takes bytes c.args.piece.now c.take.new.self r) c.in-Err.is (c.take.ensures.taken bytes holds).1) c.hear-in-Err.ensures.hears
