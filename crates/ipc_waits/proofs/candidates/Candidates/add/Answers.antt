use Rattle.std.proofs.Common.{sym, subst, ◌∙◌, ap, arith}
use Rattle.ipc_waits.specs.Finding.{is_among}
use Rattle.ipc_waits.specs.Candidates.{ArePlaces}
use Rattle.ipc_waits.proofs.CandidateLemmas.{places_few, places_more}
use Rattle.ipc_waits.proofs.candidates.Candidates.add.Goals as goal

pub push_reserved-requires : goal.push_reserved-requires
push_reserved-requires c =
    let absent = ap (λ l. is_among l c.args.place) c.self.view_is ∙ (sym c.has.ensures ∙ c.if-not-has.true) in
    let few = places_few c.self.inside.places.items c.args.place c.self.invariant.0 c.requires absent in
    omega (arith, few, c.self.invariant.1)

pub invariant_of-self : goal.invariant_of-self
invariant_of-self c =
    let absent = ap (λ l. is_among l c.args.place) c.self.view_is ∙ (sym c.has.ensures ∙ c.if-not-has.true) in
    (subst ArePlaces (sym c.push_reserved.ensures.items) (places_more c.self.inside.places.items c.args.place c.self.invariant.0 c.requires absent), omega (arith, c.self.invariant.1, c.push_reserved.ensures.capacity))
