use Rattle.std.proofs.Common.{inl, inr, sym, refl, ◌∙◌}
use Rattle.ipc_connection.proofs.HeldLemmas.{StartIs, start_grows, keeps_start}
use Rattle.ipc_connection.proofs.held.Held.keep.Given.{Over}
use Rattle.ipc_connection.proofs.held.Held.keep.Goals as goal
use Rattle.ipc_connection.proofs.held.Held.keep.Goals.{then-self-lt-HEAD, else-self-lt-HEAD}

start : (g : Over) (c : goal.After-self-1 g) → StartIs c.self.inside.start c.self.inside.len c.if-self-lt-HEAD.start
start g c = elim c.if-self-lt-HEAD.branch [
  | then-self-lt-HEAD w ↦ inl (w.if-self-lt-HEAD.true, w.start-is)
  | else-self-lt-HEAD w ↦ inr (w.if-self-lt-HEAD.false, w.start-is ∙ w.start_size-start.ensures)
]

pub invariant_of-self : goal.invariant_of-self
invariant_of-self g c =
    let h = c.self.inside in
    let inv = c.self.invariant in
    start_grows h.start h.payload h.len h.lost c.min-count.result _ c.if-self-lt-HEAD.start c.args.bytes.now c.copy_from_slice.new.self c.self.told c.copy_from_slice.ensures.after c.if-self-start.true c.min-count.ensures refl inv.1 inv.2 inv.3 (start g c)

pub returns-then-self-start-clause-keeps : goal.returns-then-self-start-clause-keeps
returns-then-self-start-clause-keeps g c =
    let h = c.self.inside in
    let inv = c.self.invariant in
    rw (sym c.self.view_is) (keeps_start h.start h.payload h.len h.lost c.min-count.result _ c.if-self-lt-HEAD.start c.args.bytes.now c.copy_from_slice.new.self c.self.told c.copy_from_slice.ensures.after c.if-self-start.true c.min-count.ensures refl inv.1 inv.2 inv.3 (start g c))
