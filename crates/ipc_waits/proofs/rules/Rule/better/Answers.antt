use Rattle.std.proofs.Common.{sym, ap, ◌∙◌, option_copied}
use Rattle.ipc_waits.specs.Rules.{rule_of}
use Rattle.ipc_waits.proofs.Betters.{better_passes}
use Rattle.ipc_waits.proofs.Concerns.{unconcerned}
use Rattle.ipc_threads.proofs.Holders.{slot_standing}
use Rattle.ipc_waits.proofs.rules.Rule.better.Goals as goal

pub apply-requires : goal.apply-requires
apply-requires c =
    let P = c.args.slots.now.past in
    let stands = rw c.kept.ensures.kept at c.kept.ensures.stands in
    slot_standing P c.args.slots.now.kept stands c.args.place c.in-Some.call.now (sym c.held.ensures ∙ ap option_copied c.in-Some.is)

pub returns-then-not-concerns : goal.returns-then-not-concerns
returns-then-not-concerns c =
    let P = c.args.slots.now.past in
    let stands = rw c.kept.ensures.kept at c.kept.ensures.stands in
    let there = sym c.held.ensures ∙ ap option_copied c.in-Some.is in
    let standing = slot_standing P c.args.slots.now.kept stands c.args.place c.in-Some.call.now there in
    let concerns = sym c.concerns.ensures ∙ c.if-not-concerns.true in
    let nothing = unconcerned c.args.self.now P c.kept.ensures.legal c.in-Some.call.now standing concerns in
    better_passes (rule_of c.args.self.now P) _ c.args.best c.in-Some.call.now there nothing
