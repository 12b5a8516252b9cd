use Rattle.std.proofs.Common.{◌∙◌, ap, ◌++◌, ◌∷◌, []}
use Rattle.ipc_compact.specs.BaseRoom.{BaseParts}
use Rattle.ipc_compact.proofs.BaseLemmas.{kept_there, over_end, over_fits, over_more, over_same}
use Rattle.ipc_compact.proofs.partner_base.write_over.Goals.{in-Some, in_default}
use Rattle.ipc_compact.proofs.partner_base.write_over.Goals as goal

pub over_in-requires-clause-there : goal.over_in-requires-clause-there
over_in-requires-clause-there c =
    kept_there c.args.desks.now.past c.args.desks.now.taken c.kept.ensures.legal c.kept.ensures.keeps.over c.requires.others c.args.kept.now c.requires.kept
    c.loop-place.place c.index-kept-place.result c.loop-place-test.true c.index-kept-place.is

pub add_over-requires : goal.add_over-requires
add_over-requires c =
    rw (c.loop-place.invariant)
    (over_fits c.args.desks.now.past c.args.desks.now.taken c.kept.ensures.legal c.kept.ensures.keeps.over c.requires.others c.args.kept.now c.requires.kept
    c.loop-place.place c.index-kept-place.result c.loop-place-test.true c.index-kept-place.is c.in-Some.number c.over_in.result c.over_in.ensures c.in-Some.is)

pub loop-place-preserved : goal.loop-place-preserved
loop-place-preserved c = elim c.match-over_in.branch [
  | in-Some w ↦ w.room-is ∙ (w.add_over.ensures ∙ (ap (λ (r : BaseParts). record r { over = r.over ++ w.in-Some.number ∷ [] }) c.loop-place.invariant
      ∙ ap (λ l. record c.args.room.now { over = l }) (over_more c.args.desks.now.past c.args.desks.now.taken c.kept.ensures.legal c.kept.ensures.keeps.over c.requires.others c.args.kept.now c.requires.kept
      c.loop-place.place c.index-kept-place.result c.loop-place-test.true c.index-kept-place.is w.in-Some.number c.over_in.result c.over_in.ensures w.in-Some.is)))
  | in_default w ↦ w.room-is ∙ (c.loop-place.invariant
      ∙ ap (λ l. record c.args.room.now { over = l }) (over_same c.args.desks.now.past c.args.desks.now.taken c.kept.ensures.legal c.kept.ensures.keeps.over c.requires.others c.args.kept.now c.requires.kept
      c.loop-place.place c.index-kept-place.result c.loop-place-test.true c.index-kept-place.is c.over_in.result c.over_in.ensures w.in_default.is))
]

pub returns : goal.returns
returns c =
    c.loop-place.invariant
    ∙ ap (λ l. record c.args.room.now { over = l }) (over_end c.args.desks.now.past c.args.desks.now.taken c.kept.ensures.legal c.kept.ensures.keeps.over c.requires.others c.args.kept.now c.requires.kept
    c.loop-place.place c.loop-place-test.false)
