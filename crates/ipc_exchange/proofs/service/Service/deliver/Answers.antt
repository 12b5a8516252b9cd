use Rattle.std.proofs.Common.{◌∙◌, refl, arith}
use Rattle.ipc_exchange.proofs.DeliverLemmas.{deliver_end, deliver_more, deliver_start}
use Rattle.ipc_exchange.proofs.service.Service.deliver.Goals as goal

pub loop-number-init : goal.loop-number-init
loop-number-init c = record { told = deliver_start c.args.self.now; stays = record { ready = c.requires; same = refl } }

pub loop-number-preserved : goal.loop-number-preserved
loop-number-preserved c = record { told = deliver_more c.args.self.now c.loop-number.self c.deliver_number.new.self _ c.loop-number.invariant.told c.deliver_number.ensures.told; stays = record { ready = c.deliver_number.ensures.ready.ready; same = c.deliver_number.ensures.ready.same ∙ c.loop-number.invariant.stays.same } }

pub returns-clause-told : goal.returns-clause-told
returns-clause-told c = deliver_end c.args.self.now c.loop-number.self _ c.loop-number.invariant.told (omega (arith, c.loop-number-test.false, c.loop-number.auto.number-end))
