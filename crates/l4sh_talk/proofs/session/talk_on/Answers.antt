use Rattle.l4sh_talk.specs.Talks.{talk_of}
use Rattle.l4sh_talk.proofs.TalkLemmas.{ends_all}
use Rattle.l4sh_talk.proofs.session.talk_on.Goals as goal

pub returns-in-None-clause-talks : goal.returns-in-None-clause-talks
returns-in-None-clause-talks g c =
    ends_all (talk_of (g.R.PortRead.remaining c.args.reader.now) c.args.client.now (g.W.PortWrite.written c.args.writer.now)) c.obey_lines.new.client
    (g.W.PortWrite.written c.obey_lines.new.writer) c.say_bye.new.client c.say_bye.result c.in-None.ensures.done c.say_bye.ensures.parts
