use Rattle.l4sh_look.proofs.TallyLemmas.{call_more, failure_more, message_more}
use Rattle.l4sh_look.proofs.tally.Tally.add.Goals as goal

pub returns-in_ok-self-in-Call : goal.returns-in_ok-self-in-Call
returns-in_ok-self-in-Call c events was =
    call_more events c.args.event c.args.self.now was c.in-Call.is c.in_ok-self-in-Call.field-0 c.in_ok-self-in-Call.ensures

pub returns-in_ok-self-in-Failure : goal.returns-in_ok-self-in-Failure
returns-in_ok-self-in-Failure c events was =
    failure_more events c.args.event c.args.self.now was c.in-Failure.is c.in_ok-self-in-Failure.field-0 c.in_ok-self-in-Failure.ensures

pub returns-in_ok-add-in-Message-2 : goal.returns-in_ok-add-in-Message-2
returns-in_ok-add-in-Message-2 c events was =
    message_more events c.args.event c.args.self.now was c.in-Message.bytes c.in-Message.sent c.in-Message.received c.in-Message.is
    c.in_ok-self-in-Message.field-0 c.saturating_add-self.result c.add.new.self c.add-in-Message.new.self
    c.in_ok-self-in-Message.ensures c.saturating_add-self.ensures c.in_ok-add-in-Message.ensures c.in_ok-add-in-Message-2.ensures
