use Rattle.std.proofs.Common.{◌∙◌}
use Rattle.ipc_exchange.proofs.TellingLemmas.{roomy_self, told_alone_by, told_connections, told_free, told_stays, told_within}
use Rattle.ipc_exchange.proofs.service.Service.tell_connection.Goals as goal

pub stage-before-requires : goal.stage-before-requires
stage-before-requires c = (told_within c.args.self.now _ c.args.place c.args.told c.requires (c.self.view_is ∙ c.place_thread.ensures))

pub tell-requires : goal.tell-requires
tell-requires c = record {
  within = told_within c.args.self.now _ c.args.place c.args.told c.requires (c.self.view_is ∙ c.place_thread.ensures);
  room = told_free c.args.self.now _ c.args.place c.args.told c.requires (c.self.view_is ∙ c.place_thread.ensures);
}

pub returns-clause-connections : goal.returns-clause-connections
returns-clause-connections c = rw c.tell.ensures.1 (told_connections c.args.self.now _ c.args.place c.args.told _ _ c.requires (c.self.view_is ∙ c.place_thread.ensures) (roomy_self _ _ (told_within c.args.self.now _ c.args.place c.args.told c.requires (c.self.view_is ∙ c.place_thread.ensures))) c.tell.ensures.2 c.tell.ensures.3)

pub returns-clause-ready : goal.returns-clause-ready
returns-clause-ready c = rw c.tell.ensures.1 (told_stays c.args.self.now _ c.args.place c.args.told _ _ c.requires (c.self.view_is ∙ c.place_thread.ensures) (roomy_self _ _ (told_within c.args.self.now _ c.args.place c.args.told c.requires (c.self.view_is ∙ c.place_thread.ensures))) c.tell.ensures.2 c.tell.ensures.3)

pub returns-clause-alone : goal.returns-clause-alone
returns-clause-alone c = rw c.tell.ensures.1 (told_alone_by c.args.self.now _ c.args.place c.args.told _ _ c.requires (c.self.view_is ∙ c.place_thread.ensures) (roomy_self _ _ (told_within c.args.self.now _ c.args.place c.args.told c.requires (c.self.view_is ∙ c.place_thread.ensures))) c.tell.ensures.2 c.tell.ensures.3 _ _ _ c.thread_left.ensures c.next_stage-after.ensures c.stage-before.ensures)
