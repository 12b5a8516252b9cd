use Rattle.std.proofs.Common.{◌+◌, ◌∙◌, subst, sym}
use Rattle.ipc_chain.specs.Judging.{TakesBelow}
use Rattle.ipc_chain.proofs.chain.Chain.take_below.Goals as goal

pub loop-place-preserved : goal.loop-place-preserved
loop-place-preserved c =
    let l = c.loop-place in
    let was = l.invariant in
    let start = c.args.self.now in
    record {
      past = c.in_ok-take_at.ensures.past ∙ was.past;
      told = c.in_ok-take_at.ensures.told ∙ was.told;
      taken = subst (λ P. TakesBelow P c.args.callers.now (l.place + 1) start.taken c.take_at.new.self.taken) was.past
          (c.in_ok-take_at.ensures.taken start.taken (subst (λ P. TakesBelow P c.args.callers.now l.place start.taken l.self.taken) (sym was.past) was.taken));
    }
