use Rattle.std.proofs.Common.{sym, ap, ◌∙◌, option_map, option_copied}
use Rattle.ipc_history.specs.Phases.{open_call}
use Rattle.ipc_threads.proofs.Lookups.{none_up}
use Rattle.ipc_threads.specs.Standings.{standing_of}
use Rattle.ipc_waits.proofs.Reaching.{reaches_awaits, reaches_it, reaches_open, reaches_words}
use Rattle.ipc_waits.proofs.meetings.reached.Goals as goal

pub returns-then-not-sends_words-clause-none : goal.returns-then-not-sends_words-clause-none
returns-then-not-sends_words-clause-none c = λ none r reaches. reaches_words c.args.slots.now.past c.kept-kept.result.now c.kept-kept.ensures.legal c.kept-kept.ensures.stands c.args.caller c.requires c.args.call.now r reaches (sym c.sends_words.ensures ∙ c.if-not-sends_words.true)

pub returns-then-awaits-clause-some : goal.returns-then-awaits-clause-some
returns-then-awaits-clause-some c = reaches_it c.args.slots.now.past c.kept-kept.result.now c.kept-kept.ensures.legal c.kept-kept.ensures.stands c.args.caller c.requires c.args.call.now c.in-Some.receiving.now (sym (ap option_copied c.in-Some.is) ∙ (c.call_of.ensures ∙ ap (λ t. option_map (standing_of c.args.slots.now.past) (open_call c.args.slots.now.past t)) c.to.ensures)) (sym c.sends_words.ensures ∙ c.if-not-sends_words.false) (rw c.are_local.ensures at (sym c.awaits.ensures ∙ c.if-awaits.true))

pub returns-else-awaits-clause-none : goal.returns-else-awaits-clause-none
returns-else-awaits-clause-none c = λ none r reaches. reaches_awaits c.args.slots.now.past c.kept-kept.result.now c.kept-kept.ensures.legal c.kept-kept.ensures.stands c.args.caller c.requires c.args.call.now c.in-Some.receiving.now r (sym (ap option_copied c.in-Some.is) ∙ (c.call_of.ensures ∙ ap (λ t. option_map (standing_of c.args.slots.now.past) (open_call c.args.slots.now.past t)) c.to.ensures)) reaches (rw c.are_local.ensures at (sym c.awaits.ensures ∙ c.if-awaits.false))

pub returns-in-None-clause-none : goal.returns-in-None-clause-none
returns-in-None-clause-none c = λ none r reaches. reaches_open c.args.slots.now.past c.kept-kept.result.now c.kept-kept.ensures.legal c.kept-kept.ensures.stands c.args.caller c.requires c.args.call.now r reaches (none_up c.args.slots.now.past (open_call c.args.slots.now.past c.args.call.now.to) (sym (ap option_copied c.in-None.is) ∙ (c.call_of.ensures ∙ ap (λ t. option_map (standing_of c.args.slots.now.past) (open_call c.args.slots.now.past t)) c.to.ensures)))
