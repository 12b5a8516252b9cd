use Rattle.std.proofs.Common.{sym, ap, ◌∙◌, option_copied}
use Rattle.std.proofs.lemmas.Option.{none-some, same_Some}
use Rattle.ipc_threads.specs.Standings.{standing_of}
use Rattle.ipc_desks.proofs.Standings.{standing_there}
use Rattle.ipc_compact.proofs.PartnerLemmas.{partner_by}
use Rattle.ipc_compact.proofs.kept.known_partner.Goals as goal

pub unreachable-requires : goal.unreachable-requires
unreachable-requires c = none-some (standing_of c.args.slots.now.past c.args.number) (sym (ap option_copied c.in_default.is) ∙ (c.held.ensures ∙ standing_there c.args.slots.now.past c.kept.ensures.legal c.args.slots.now.kept (rw c.kept.ensures.kept at c.kept.ensures.stands) c.args.number c.requires.open c.args.place c.requires.place))

pub returns : goal.returns
returns c =
    let is = same_Some c.in-Some.call.now (standing_of c.args.slots.now.past c.args.number) (sym (ap option_copied c.in-Some.is) ∙ (c.held.ensures ∙ standing_there c.args.slots.now.past c.kept.ensures.legal c.args.slots.now.kept (rw c.kept.ensures.kept at c.kept.ensures.stands) c.args.number c.requires.open c.args.place c.requires.place)) in
    partner_by c.args.slots.now.past c.args.number c.in-Some.call.now is
