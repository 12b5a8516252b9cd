use Rattle.std.proofs.Common.{sym, ap, subst, ◌∙◌, map, option_map}
use Rattle.ipc_waits.specs.Rules.{rule_of}
use Rattle.ipc_waits.specs.Next.{IsBest}
use Rattle.ipc_waits.specs.declared.rules.Rule.TheVariants.{Copies}
use Rattle.ipc_waits.proofs.Bests.{best_is}
use Rattle.ipc_waits.proofs.TransferLemmas.{copies_ask}
use Rattle.ipc_waits.proofs.waiting.Waiting.least_transfer.Goals as goal

pub returns-in_err-output : goal.returns-in_err-output
returns-in_err-output c =
    let is = best_is c.args.self.now.slots.past c.args.self.now.slots.kept Copies (map (λ w. w.place) c.args.self.now.waits.watchers) c.best_among.result c.kept.ensures.legal (rw c.kept.ensures.kept at c.kept.ensures.stands) (copies_ask c.args.self.now.slots.past c.args.self.now.slots.kept c.kept.ensures.legal (rw c.kept.ensures.kept at c.kept.ensures.stands) c.args.self.now.waits.watchers c.requires.waiting.waits.watchers) (subst (λ l. IsBest (rule_of Copies c.args.self.now.slots.past) c.args.self.now.slots.kept.table (map (λ w. w.place) l) c.best_among.result) (c.all-watchers.ensures ∙ c.watchers.ensures) c.best_among.ensures) in
    c.from_residual.ensures ∙ sym (is ∙ ap (option_map (λ b. b.1)) c.in_err-output.was)

pub returns : goal.returns
returns c =
    let is = best_is c.args.self.now.slots.past c.args.self.now.slots.kept Copies (map (λ w. w.place) c.args.self.now.waits.watchers) c.best_among.result c.kept.ensures.legal (rw c.kept.ensures.kept at c.kept.ensures.stands) (copies_ask c.args.self.now.slots.past c.args.self.now.slots.kept c.kept.ensures.legal (rw c.kept.ensures.kept at c.kept.ensures.stands) c.args.self.now.waits.watchers c.requires.waiting.waits.watchers) (subst (λ l. IsBest (rule_of Copies c.args.self.now.slots.past) c.args.self.now.slots.kept.table (map (λ w. w.place) l) c.best_among.result) (c.all-watchers.ensures ∙ c.watchers.ensures) c.best_among.ensures) in
    sym (is ∙ ap (option_map (λ b. b.1)) c.in_ok-output.was)
