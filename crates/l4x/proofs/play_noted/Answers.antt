use Rattle.std.proofs.Common.{ap, sym, ◌∙◌, Some}
use Rattle.ipc_base.specs.Ports.{Input}
use Rattle.ipc_client.specs.ClientParts.{ClientParts}
use Rattle.l4x.proofs.SleepLemmas.{sleeps_noted}
use Rattle.l4x.proofs.play_noted.Goals as goal

pub returns : goal.returns
returns g c = record {
  sleeps = λ micros is. sleeps_noted c.play-end.result c.new-client.result c.play-end.new.client c.into_taken.result c.into_came.result micros
      (ap (λ (parts : ClientParts). parts.written) c.new-client.ensures ∙ ap Some c.requires.unwritten)
      (ap (λ (parts : ClientParts). parts.input.came) c.new-client.ensures ∙ ap Some c.requires.unread)
      (sym c.into_ports-reader.ensures.written ∙ ap Some (sym c.into_taken.ensures))
      (sym (ap (λ (input : Input). input.came) c.into_ports-reader.ensures.input) ∙ ap Some (sym c.into_came.ensures))
      (c.play-end.ensures.sleeps micros is);
}
