use Rattle.std.proofs.Common.{◌∙◌, ◌==◌, sym, ap}
use Rattle.ipc_desks.proofs.LastCalls.{live_below}
use Rattle.ipc_compact.specs.Partners.{joined_at}
use Rattle.ipc_compact.proofs.BaseLemmas.{gone_unkept, idle_unkept, last_decides}
use Rattle.ipc_compact.proofs.partner_base.is_kept.Goals as goal

pub returns-then-not-is_live : goal.returns-then-not-is_live
returns-then-not-is_live c =
    sym (gone_unkept c.args.desks.now.past c.args.desks.now.taken c.kept.ensures.legal c.kept.ensures.keeps.over c.requires.others c.args.number c.args.caller c.requires.caller
    (rw c.requires.slots at (sym c.is_live.ensures ∙ c.if-not-is_live.true)))

pub returns-then-not-is_busy : goal.returns-then-not-is_busy
returns-then-not-is_busy c =
    sym (idle_unkept c.args.desks.now.past c.args.desks.now.taken c.kept.ensures.legal c.kept.ensures.keeps.over c.requires.others c.args.number c.args.caller c.requires.caller
    (sym c.is_busy.ensures ∙ c.if-not-is_busy.true))

pub at-requires : goal.at-requires
at-requires c = rw c.number.ensures (live_below c.args.desks.now.past c.kept.ensures.legal c.args.caller (rw c.requires.slots at (sym c.is_live.ensures ∙ c.if-not-is_live.false)))

pub returns : goal.returns
returns c =
    ap (λ j. j.number == c.args.number) (c.at.ensures ∙ ap (joined_at c.kept-2.result.now) c.number.ensures)
    ∙ last_decides c.args.desks.now.past c.args.desks.now.taken c.kept.ensures.legal c.kept.ensures.keeps.over c.requires.others c.args.number c.args.caller c.requires.caller
    (rw c.requires.slots at (sym c.is_live.ensures ∙ c.if-not-is_live.false)) (sym c.is_busy.ensures ∙ c.if-not-is_busy.false) c.kept-2.result.now (rw c.requires.partners at c.kept-2.ensures.knows)
