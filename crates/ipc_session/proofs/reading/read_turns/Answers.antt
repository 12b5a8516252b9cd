use Rattle.std.proofs.Common.{[], ap, arith, refl, ◌∙◌}
use Rattle.ipc_base.proofs.Giving.{gives_none}
use Rattle.ipc_connection.specs.declared.stage.Stage.TheVariants.{Greeting}
use Rattle.ipc_session.proofs.ReadLemmas.{ends_with, goes_on, goes_on_with, served_none}
use Rattle.ipc_session.specs.declared.turned.Turned.TheVariants.{Over}
use Rattle.ipc_session.proofs.reading.read_turns.Goals as goal

pub turns-init : goal.turns-init
turns-init g c = record {
  bytes = [];
  left = [];
  gave = gives_none _;
  holds = c.requires;
  served = served_none _ Greeting;
  kept = refl;
}

pub read_next-turned-requires : goal.read_next-turned-requires
read_next-turned-requires g c = goes_on _ _ _ _ _ c.turns.invariant.served

pub turns-preserved : goal.turns-preserved
turns-preserved g c =
    let before = c.turns.invariant in
    let read = c.read_next-turned.ensures _ _ _ _ before.gave before.holds before.served in
    let left = goes_on_with _ _ _ _ _ _ _ c.in-On.is read.leaves in
    record {
      bytes = read.bytes;
      left = left.0;
      gave = read.gave;
      holds = left.2;
      served = left.1;
      kept = read.kept _ c.in-On.is ∙ before.kept;
    }

pub returns-in-Over-clause-calls : goal.returns-in-Over-clause-calls
returns-in-Over-clause-calls g c =
    let before = c.turns.invariant in
    let read = c.read_next-turned.ensures _ _ _ _ before.gave before.holds before.served in
    (read.bytes, read.gave, ends_with _ _ _ _ _ _ _ c.in-Over.is read.leaves)

pub returns-in-Over-clause-device : goal.returns-in-Over-clause-device
returns-in-Over-clause-device g c is =
    let before = c.turns.invariant in
    let read = c.read_next-turned.ensures _ _ _ _ before.gave before.holds before.served in
    let fell = read.device (c.in-Over.is ∙ ap Over is) in
    let kept = before.kept in
    omega (arith, fell, kept)

pub returns-in-Over-clause-stopped : goal.returns-in-Over-clause-stopped
returns-in-Over-clause-stopped g c is =
    let before = c.turns.invariant in
    let read = c.read_next-turned.ensures _ _ _ _ before.gave before.holds before.served in
    absurd (read.not_stopped (c.in-Over.is ∙ ap Over is))

pub returns-in-Over-clause-ended : goal.returns-in-Over-clause-ended
returns-in-Over-clause-ended g c is =
    let before = c.turns.invariant in
    let read = c.read_next-turned.ensures _ _ _ _ before.gave before.holds before.served in
    read.ended (c.in-Over.is ∙ ap Over is)
