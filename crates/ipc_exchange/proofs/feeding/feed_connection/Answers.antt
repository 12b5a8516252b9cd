use Rattle.std.proofs.Common.{refl, ◌∙◌, subst, []}
use Rattle.std.proofs.lemmas.List.{take_rest}
use Rattle.ipc_exchange.specs.Rooms.{service_of}
use Rattle.ipc_exchange.specs.Feeding.{FeedsConnection}
use Rattle.ipc_exchange.proofs.FeedLemmas.{feeds_both}
use Rattle.ipc_exchange.proofs.feeding.feed_connection.Goals as goal

pub loop-used-preserved : goal.loop-used-preserved
loop-used-preserved c = record {
  ready = record { ready = c.feed_first.ensures.ready.ready; same = c.feed_first.ensures.ready.same ∙ c.loop-used.invariant.ready.same };
  holds = ([], c.in-Some.ensures.rest);
  left = λ bytes holds.
      let l = c.loop-used.invariant.left bytes holds in
      ([], c.in-Some.ensures.rest, λ new decoder later. l.2 new decoder (feeds_both _ _ _ _ _ _ _ _ (c.in-Some.ensures.first l.0 l.1) (subst (λ r. FeedsConnection (service_of c.feed_first.new.service) c.args.place [] r new decoder) (take_rest c.loop-used.rest.now c.in-Some.used) later)));
}

pub returns-clause-fed : goal.returns-clause-fed
returns-clause-fed c = λ bytes holds.
    let l = c.loop-used.invariant.left bytes holds in
    l.2 _ _ (c.in_default.ensures.all refl l.0 l.1)
