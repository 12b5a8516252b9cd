use Rattle.std.proofs.Common.{ap, sym, ◌∙◌, Some}
use Rattle.ipc_base.specs.Ports.{Input}
use Rattle.ipc_client.specs.ClientParts.{ClientParts}
use Rattle.l4sh.proofs.SocketLemmas.{ends_over}
use Rattle.l4sh.proofs.live.talk_noted.Goals as goal

pub returns-clause-talks : goal.returns-clause-talks
returns-clause-talks g c =
    ends_over _ _ _ c.talk_to-ending.result c.new-client.result c.talk_to-ending.new.client c.into_taken.result c.into_came.result
    (ap (λ (parts : ClientParts). parts.written) c.new-client.ensures ∙ ap Some c.requires.unwritten)
    (ap (λ (parts : ClientParts). parts.input.came) c.new-client.ensures ∙ ap Some c.requires.unread)
    (sym c.into_ports-from_server.ensures.written ∙ ap Some (sym c.into_taken.ensures))
    (sym (ap (λ (input : Input). input.came) c.into_ports-from_server.ensures.input) ∙ ap Some (sym c.into_came.ensures))
    c.talk_to-ending.ensures.talks
