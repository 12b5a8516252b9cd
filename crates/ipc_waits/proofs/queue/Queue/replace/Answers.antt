use Rattle.std.proofs.Common.{Some, subst}
use Rattle.ipc_waits.specs.Places.{HasHere, IsAt}
use Rattle.ipc_waits.proofs.Here.{fresh_in, taken_out}
use Rattle.ipc_waits.proofs.queue.Queue.replace.Goals as goal
use Rattle.ipc_waits.proofs.queue.Queue.replace.Goals.{in-Some, in_default}

pub insert-requires-clause-fresh : goal.insert-requires-clause-fresh
insert-requires-clause-fresh c =
    let place = c.args.place in
    let wait = c.in-Some-after.wait in
    let at = subst (IsAt place) c.in-Some-after.is c.requires.there in
    elim c.match-before.branch [
      | in-Some w ↦ fresh_in place c.match-before.self w.remove.new.self wait w.self-is at
          (taken_out c.args.self.now w.remove.new.self place (Some w.in-Some.wait) (subst (HasHere c.args.self.now place) w.in-Some.is c.requires.before) w.remove.ensures)
      | in_default w ↦ fresh_in place c.match-before.self c.args.self.now wait w.self-is at (subst (HasHere c.args.self.now place) w.in_default.is c.requires.before)
    ]
