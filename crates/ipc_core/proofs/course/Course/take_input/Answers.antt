use Rattle.std.proofs.Common.{subst}
use Rattle.ipc_history.specs.Settled.{Continued, Settled}
use Rattle.ipc_core.specs.Steps.{with_input}
use Rattle.ipc_core.proofs.Commands.{command_legal, continued_settled}
use Rattle.ipc_core.proofs.course.Course.take_input.Goals as goal

pub settle-requires-clause-legal : goal.settle-requires-clause-legal
settle-requires-clause-legal c =
    let continued = subst (λ l. Continued (with_input l c.args.moment c.args.input) c.give.new.self.entries) c.begin.ensures.entries c.give.ensures.continued in
    continued.legal (command_legal _ _ c.args.input c.requires.legal c.requires.quiet c.requires.in_range c.requires.undue c.requires.admissible c.requires.no_clock)

pub returns-clause-legal : goal.returns-clause-legal
returns-clause-legal c =
    let continued = subst (λ l. Continued (with_input l c.args.moment c.args.input) c.give.new.self.entries) c.begin.ensures.entries c.give.ensures.continued in
    c.settle.ensures.settled.legal (continued.legal (command_legal _ _ c.args.input c.requires.legal c.requires.quiet c.requires.in_range c.requires.undue c.requires.admissible c.requires.no_clock))

pub returns-clause-settled : goal.returns-clause-settled
returns-clause-settled c =
    let continued = subst (λ l. Continued (with_input l c.args.moment c.args.input) c.give.new.self.entries) c.begin.ensures.entries c.give.ensures.continued in
    continued_settled _ _ _ continued c.settle.ensures.settled

pub returns-then-give-clause-legal : goal.returns-then-give-clause-legal
returns-then-give-clause-legal c =
    let settled = subst (λ l. Settled (with_input l c.args.moment c.args.input) c.give.new.self.entries) c.begin.ensures.entries (c.give.ensures.settled c.if-give.true) in
    settled.legal (command_legal _ _ c.args.input c.requires.legal c.requires.quiet c.requires.in_range c.requires.undue c.requires.admissible c.requires.no_clock)
