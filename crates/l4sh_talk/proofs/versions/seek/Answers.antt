use Rattle.std.proofs.Common.{arith}
use Rattle.l4sh_talk.proofs.TalkLemmas.{missed_one}
use Rattle.l4sh_talk.proofs.versions.seek.Goals as goal

pub versions-preserved : goal.versions-preserved
versions-preserved g c = record {
  few = omega (arith, (c.is_last.ensures.next c.if-is_last.false).1);
  missed = missed_one c.args.client.now c.versions.client c.ask_version.new.client c.args.request.now c.versions.missed c.in-Ok.reply
      c.versions.invariant.missed c.in-Ok.ensures (c.is_last.ensures.next c.if-is_last.false).0;
}
