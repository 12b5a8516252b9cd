use Rattle.std.proofs.Common.{refl, ◌∙◌, sym, ap, subst}
use Rattle.ipc_history.specs.Calls.{call_at}
use Rattle.ipc_history.specs.Legal.{Legal}
use Rattle.ipc_history.specs.Phases.{is_over}
use Rattle.ipc_history.proofs.HoldingLemmas.{entered_by, first_among, in_neither, second_among}
use Rattle.ipc_history.proofs.entries.Entries.call.Goals as goal

pub returns-in-Some : goal.returns-in-Some
returns-in-Some c =
    let past = c.self.inside.past.now in
    let legal = subst Legal (sym c.self.view_is) c.requires.legal in
    let all = first_among past c.self.inside.held.now c.self.inside.since.now c.self.invariant in
    ap (λ l. call_at l c.args.number) (sym c.self.view_is)
    ∙ (entered_by past c.self.inside.held.now legal all c.args.number c.in-Some.place c.index-held-place.result c.in-Some.ensures c.index-held-place.is ∙ c.call_of.ensures)

pub returns-in-Some-place_at : goal.returns-in-Some-place_at
returns-in-Some-place_at c =
    let past = c.self.inside.past.now in
    let legal = subst Legal (sym c.self.view_is) c.requires.legal in
    let all = second_among past c.self.inside.held.now c.self.inside.since.now c.self.invariant in
    ap (λ l. call_at l c.args.number) (sym c.self.view_is)
    ∙ (entered_by past c.self.inside.since.now legal all c.args.number c.in-Some-place_at.place c.index-since-place.result c.in-Some-place_at.ensures c.index-since-place.is ∙ c.call_of-in-Some-place_at.ensures)

pub returns-in-Some-place_by_walk : goal.returns-in-Some-place_by_walk
returns-in-Some-place_by_walk c =
    let past = c.self.inside.past.now in
    let legal = subst Legal (sym c.self.view_is) c.requires.legal in
    let all = first_among past c.self.inside.held.now c.self.inside.since.now c.self.invariant in
    ap (λ l. call_at l c.args.number) (sym c.self.view_is)
    ∙ (entered_by past c.self.inside.held.now legal all c.args.number c.in-Some-place_by_walk.place c.index-held-place-in-Some-place_by_walk.result c.in-Some-place_by_walk.ensures.found c.index-held-place-in-Some-place_by_walk.is ∙ c.call_of-in-Some-place_by_walk.ensures)

pub unreachable-requires : goal.unreachable-requires
unreachable-requires c =
    let past = c.self.inside.past.now in
    let open_is = ap (λ l. is_over l c.args.number) c.self.view_is ∙ c.requires.«open» in
    in_neither past c.self.inside.held.now c.self.inside.since.now c.self.invariant c.args.number open_is (c.in_default-place_by_walk.ensures.none refl) (c.in-None.ensures.none refl)

pub returns : goal.returns
returns c =
    let past = c.self.inside.past.now in
    let legal = subst Legal (sym c.self.view_is) c.requires.legal in
    let all = second_among past c.self.inside.held.now c.self.inside.since.now c.self.invariant in
    ap (λ l. call_at l c.args.number) (sym c.self.view_is)
    ∙ (entered_by past c.self.inside.since.now legal all c.args.number c.in-Some-place_by_walk-2.place c.index-since-place-in-Some-place_by_walk-2.result c.in-Some-place_by_walk-2.ensures.found c.index-since-place-in-Some-place_by_walk-2.is ∙ c.call_of-in-Some-place_by_walk-2.ensures)
