use Rattle.std.proofs.Common.{ap, ◌∙◌, get_or}
use Rattle.ipc_compact.proofs.Rebuilding.{fit, made_end, made_free, made_live, made_more, made_start, version_at, versions_len}
use Rattle.ipc_compact.proofs.base.Base.slots.Goals as goal

pub loop-place-init : goal.loop-place-init
loop-place-init g c = λ is. made_start c.args.self.now c.args.kept.now g.before is c.made-slots.result c.made-slots.ensures.table (rw (ap (λ b. b.moment) c.self.view_is, ap (λ b. b.calls) c.self.view_is) at c.made-slots.ensures.made)

pub live_of-live-requires : goal.live_of-live-requires
live_of-live-requires g c = fit c.args.self.now c.args.kept.now g.before c.requires

pub bounds-versions-place : goal.bounds-versions-place
bounds-versions-place g c =
    let versions = c.as_slice-versions.ensures.value ∙ ap (λ b. b.versions) c.self.view_is in
    rw (versions, versions_len c.args.self.now c.args.kept.now g.before c.requires) c.loop-place-test.true

pub make-requires-clause-free : goal.make-requires-clause-free
make-requires-clause-free g c = made_free c.args.self.now c.args.kept.now g.before c.requires c.loop-place.slots c.loop-place.place (c.loop-place.invariant c.requires)

pub make-requires-clause-live : goal.make-requires-clause-live
make-requires-clause-live g c =
    let versions = c.as_slice-versions.ensures.value ∙ ap (λ b. b.versions) c.self.view_is in
    let over = c.as_slice-over.ensures.value ∙ ap (λ b. b.over) c.self.view_is in
    made_live c.args.self.now c.args.kept.now g.before c.requires c.loop-place.place _ c.live_of-live.result (ap (λ l. get_or l c.loop-place.place 0) versions ∙ version_at c.args.self.now c.args.kept.now g.before c.requires c.loop-place.place 0 c.loop-place-test.true) (rw over at c.live_of-live.ensures)

pub loop-place-preserved : goal.loop-place-preserved
loop-place-preserved g c = λ is.
    let versions = c.as_slice-versions.ensures.value ∙ ap (λ b. b.versions) c.self.view_is in
    let over = c.as_slice-over.ensures.value ∙ ap (λ b. b.over) c.self.view_is in
    made_more c.args.self.now c.args.kept.now g.before is c.loop-place.slots c.make.new.self c.loop-place.place _ c.live_of-live.result c.loop-place-test.true (c.loop-place.invariant is) (ap (λ l. get_or l c.loop-place.place 0) versions ∙ version_at c.args.self.now c.args.kept.now g.before is c.loop-place.place 0 c.loop-place-test.true) (rw over at c.live_of-live.ensures) c.make.ensures

pub of-requires : goal.of-requires
of-requires g c = (c.requires.legal, made_end c.args.self.now c.args.kept.now g.before c.requires c.loop-place.slots c.loop-place.place c.loop-place-test.false (c.loop-place.invariant c.requires))
