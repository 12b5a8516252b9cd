use Rattle.std.proofs.Common.{Contains, is_ok, sym, subst}
use Rattle.ipc_history.specs.Holding.{Holds}
use Rattle.ipc_check.proofs.Going.{pushed_copy}
use Rattle.ipc_check.proofs.ongoing.Ongoing.widen.Goals as goal

pub invariant_of-self-in-Some-4 : goal.invariant_of-self-in-Some-4
invariant_of-self-in-Some-4 c =
    let P = c.self.inside.past in
    let copy = c.in-Some.copy in
    let inside = subst (λ l. Contains l copy) (sym c.self.view_is) (subst (Contains c.args.self.now) (sym c.in-Some.ensures) c.requires) in
    record {
      told = c.self.invariant.told;
      holds = subst (Holds P) (sym c.push.ensures.items) (pushed_copy P c.self.inside.held.items copy (is_ok c.push.result) inside c.self.invariant.holds);
    }
