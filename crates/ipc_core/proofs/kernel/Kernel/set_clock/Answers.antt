use Rattle.std.proofs.Common.{◌≡◌, refl, sym, ap, subst, ◌∙◌, length, max, arith}
use Rattle.ipc_history.specs.declared.entry.Input.TheVariants.{At}
use Rattle.ipc_core.specs.Steps.{at_moment}
use Rattle.ipc_core.proofs.AmpleLemmas.{fits_grown}
use Rattle.ipc_core.proofs.BookLemmas.{books_grown}
use Rattle.ipc_core.proofs.ClockLemmas.{due_legal, kernel_ticks, kernel_waits, Sets, sets_due, sets_undue}
use Rattle.ipc_core.proofs.Commands.{continued_settled}
use Rattle.ipc_core.proofs.CourseLemmas.{more_books}
use Rattle.ipc_core.proofs.NewCalls.{ticks_grows}
use Rattle.ipc_core.proofs.Resting.{rests}
use Rattle.ipc_core.proofs.kernel.Kernel.set_clock.Goals.{then-is_any_due_at, else-is_any_due_at}
use Rattle.ipc_core.proofs.kernel.Kernel.set_clock.Goals as goal

pub is_any_due_at-requires : goal.is_any_due_at-requires
is_any_due_at-requires c = let range = c.self.invariant.kernel.stands.in_range in omega arith

pub settle-requires-clause-legal : goal.settle-requires-clause-legal
settle-requires-clause-legal c =
    let range = c.self.invariant.kernel.stands.in_range in
    let whole = rests _ _ _ c.self.inside.course c.begin.new.self c.self.invariant c.begin.ensures.entries c.begin.ensures.room c.begin.ensures.taken c.begin.ensures.since c.begin.ensures.held in
    c.tick.ensures.entries.legal (due_legal _ _ _ c.max-moment.result c.begin.new.self whole.kernel (omega arith) (omega arith) (sym c.is_any_due_at.ensures ∙ c.if-is_any_due_at.true))

pub invariant_of-self : goal.invariant_of-self
invariant_of-self c =
    let range = c.self.invariant.kernel.stands.in_range in
    let whole = rests _ _ _ c.self.inside.course c.begin.new.self c.self.invariant c.begin.ensures.entries c.begin.ensures.room c.begin.ensures.taken c.begin.ensures.since c.begin.ensures.held in
    elim c.if-is_any_due_at.branch [
      | then-is_any_due_at w ↦ rw w.self-inside-is (
          let settled = continued_settled _ _ _ w.tick.ensures.entries w.settle.ensures.settled in
          let books = more_books _ _ _ w.tick.ensures.books w.settle.ensures.books in
          let grows = ticks_grows _ _ _ settled in
          record {
            kernel = kernel_ticks _ _ _ c.max-moment.result c.begin.new.self whole.kernel (omega arith) (omega arith) (sym c.is_any_due_at.ensures ∙ w.if-is_any_due_at.true) w.settle.new.self settled (w.settle.ensures.room ∙ w.tick.ensures.room) (omega arith);
            books = books_grown _ _ (At c.max-moment.result) grows c.begin.new.self.taken _ books.taken _ c.begin.new.self.since (books.since ∙ (c.begin.ensures.since ∙ sym (ap length c.begin.ensures.entries))) whole.books tt;
            fits = fits_grown _ c.begin.new.self w.settle.new.self grows.more whole.fits grows.whole books.held;
          })
      | else-is_any_due_at w ↦ rw w.self-inside-is (record {
        kernel = kernel_waits _ _ _ c.max-moment.result c.begin.new.self whole.kernel (omega arith) (omega arith) (sym c.is_any_due_at.ensures ∙ w.if-is_any_due_at.false);
        books = whole.books;
        fits = whole.fits;
      })
    ]

pub returns-clause-history : goal.returns-clause-history
returns-clause-history c =
    let moment_is = c.max-moment.ensures ∙ ap (λ m. max c.self.inside.moment m) c.min.ensures in
    let same : c.begin.new.self.entries ≡ c.self.inside.course.entries = c.begin.ensures.entries in
    let history : Sets c.begin.new.self.entries c.max-moment.result c.if-is_any_due_at.self-inside.course.entries = elim c.if-is_any_due_at.branch [
      | then-is_any_due_at w ↦ rw w.self-inside-is (sets_due _ _ _ (sym c.is_any_due_at.ensures ∙ w.if-is_any_due_at.true) (continued_settled _ _ _ w.tick.ensures.entries w.settle.ensures.settled))
      | else-is_any_due_at w ↦ rw w.self-inside-is (sets_undue _ _ _ (sym c.is_any_due_at.ensures ∙ w.if-is_any_due_at.false) refl)
    ] in
    subst (λ k. Sets k.history (at_moment k c.args.now) c.if-is_any_due_at.self-inside.course.entries) c.self.view_is (subst (λ m. Sets c.self.inside.course.entries m c.if-is_any_due_at.self-inside.course.entries) moment_is (subst (λ l. Sets l c.max-moment.result c.if-is_any_due_at.self-inside.course.entries) same history))
