use Rattle.std.proofs.Common.{refl, sym, ap, ◌∙◌, arith}
use Rattle.ipc_history.specs.Legal.{next_moving}
use Rattle.ipc_history.specs.declared.entry.Input.TheVariants.{Moved}
use Rattle.ipc_core.proofs.AmpleLemmas.{fits_grown}
use Rattle.ipc_core.proofs.BookLemmas.{books_grown}
use Rattle.ipc_core.proofs.Resting.{begins_rested, rests}
use Rattle.ipc_core.proofs.ClockLemmas.{advanced, moved_admissible}
use Rattle.ipc_core.proofs.KernelLemmas.{kernel_after}
use Rattle.ipc_core.proofs.NewCalls.{takes_grows}
use Rattle.ipc_core.proofs.kernel.Kernel.copy_block.Goals as goal

pub take_input-requires-clause-admissible : goal.take_input-requires-clause-admissible
take_input-requires-clause-admissible c = moved_admissible _ _ _ c.in-Some.ensures.some.0 c.in-Some.ensures.some.1

pub invariant_of-self : goal.invariant_of-self
invariant_of-self c = rests _ _ _ c.self.inside.course c.begin.new.self c.self.invariant c.begin.ensures.entries c.begin.ensures.room c.begin.ensures.taken c.begin.ensures.since c.begin.ensures.held

pub returns-in_default-clause-idle : goal.returns-in_default-clause-idle
returns-in_default-clause-idle c = λ is. (
  ap (λ k. next_moving k.history) (sym c.self.view_is) ∙ c.in_default.ensures.none.0 refl,
  begins_rested _ _ c.begin.new.self c.self.view_is c.begin.ensures.entries c.begin.ensures.held c.begin.ensures.taken c.begin.ensures.since c.begin.ensures.room,
)

pub returns-clause-moved : goal.returns-clause-moved
returns-clause-moved c = λ is. advanced _ _ _ c.in-Some.number c.in-Some.block c.self.view_is c.in-Some.ensures.some.0 c.in-Some.ensures.some.1 c.take_input.ensures.settled c.take_input.ensures.legal c.take_input.ensures.since refl refl refl c.take_input.ensures.held c.take_input.ensures.room c.take_input.ensures.taken

pub invariant_of-self-2 : goal.invariant_of-self-2
invariant_of-self-2 c =
    let within = c.self.invariant.kernel.stands.within in
    let room = c.self.invariant.kernel.room in
    let same = c.take_input.ensures.room in
    let grows = takes_grows _ _ _ _ c.take_input.ensures.settled in
    record {
      kernel = kernel_after _ _ _ c.self.inside.course _ (Moved c.in-Some.number c.in-Some.block) c.self.invariant.kernel (moved_admissible _ _ _ c.in-Some.ensures.some.0 c.in-Some.ensures.some.1) refl (omega arith) (omega arith) c.take_input.ensures.settled c.take_input.ensures.spent;
      books = books_grown _ _ _ grows c.self.inside.course.taken _ c.take_input.ensures.taken _ c.self.inside.course.since c.take_input.ensures.since c.self.invariant.books tt;
      fits = fits_grown _ c.self.inside.course c.take_input.new.self grows.more c.self.invariant.fits grows.whole c.take_input.ensures.held;
    }
