use Rattle.std.proofs.Common.{sym, ap, subst, ◌∙◌, option_map}
use Rattle.ipc_waits.specs.Rules.{rule_of}
use Rattle.ipc_waits.specs.Next.{IsBest}
use Rattle.ipc_waits.proofs.Bests.{best_is}
use Rattle.ipc_waits.proofs.waiting.Waiting.least.Goals as goal

pub returns-in_err-output : goal.returns-in_err-output
returns-in_err-output c =
    let is = best_is c.args.self.now.slots.past c.args.self.now.slots.kept c.args.rule.now c.args.self.now.candidates c.best_at.result c.kept.ensures.legal (rw c.kept.ensures.kept at c.kept.ensures.stands) c.requires.asks (subst (λ l. IsBest (rule_of c.args.rule.now c.args.self.now.slots.past) c.args.self.now.slots.kept.table l c.best_at.result) c.places.ensures c.best_at.ensures) in
    c.from_residual.ensures ∙ sym (is ∙ ap (option_map (λ b. b.1)) c.in_err-output.was)

pub returns : goal.returns
returns c =
    let is = best_is c.args.self.now.slots.past c.args.self.now.slots.kept c.args.rule.now c.args.self.now.candidates c.best_at.result c.kept.ensures.legal (rw c.kept.ensures.kept at c.kept.ensures.stands) c.requires.asks (subst (λ l. IsBest (rule_of c.args.rule.now c.args.self.now.slots.past) c.args.self.now.slots.kept.table l c.best_at.result) c.places.ensures c.best_at.ensures) in
    sym (is ∙ ap (option_map (λ b. b.1)) c.in_ok-output.was)
