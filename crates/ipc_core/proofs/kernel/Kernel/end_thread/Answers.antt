use Rattle.std.proofs.Common.{refl, sym, ◌∙◌, arith}
use Rattle.ipc_history.specs.declared.entry.Input.TheVariants.{Broke}
use Rattle.ipc_core.proofs.AmpleLemmas.{fits_grown}
use Rattle.ipc_core.proofs.BookLemmas.{books_grown}
use Rattle.ipc_core.proofs.ClockLemmas.{broke_admissible, thread_ended}
use Rattle.ipc_core.proofs.KernelLemmas.{kernel_after}
use Rattle.ipc_core.proofs.NewCalls.{takes_grows}
use Rattle.ipc_core.proofs.kernel.Kernel.end_thread.Goals as goal

pub take_input-requires-clause-admissible : goal.take_input-requires-clause-admissible
take_input-requires-clause-admissible c = broke_admissible _ _ (sym c.is_live.ensures ∙ c.if-not-is_live.false)

pub invariant_of-self : goal.invariant_of-self
invariant_of-self c =
    let live = sym c.is_live.ensures ∙ c.if-not-is_live.false in
    let within = c.self.invariant.kernel.stands.within in
    let room = c.self.invariant.kernel.room in
    let same = c.take_input.ensures.room in
    let grows = takes_grows _ _ _ _ c.take_input.ensures.settled in
    record {
      kernel = kernel_after _ _ _ c.self.inside.course _ (Broke c.args.thread) c.self.invariant.kernel (broke_admissible _ _ live) refl (omega arith) (omega arith) c.take_input.ensures.settled c.take_input.ensures.spent;
      books = books_grown _ _ _ grows c.self.inside.course.taken _ c.take_input.ensures.taken _ c.self.inside.course.since c.take_input.ensures.since c.self.invariant.books tt;
      fits = fits_grown _ c.self.inside.course c.take_input.new.self grows.more c.self.invariant.fits grows.whole c.take_input.ensures.held;
    }

pub returns-clause-ok : goal.returns-clause-ok
returns-clause-ok c = thread_ended _ _ _ c.args.thread c.self.view_is (sym c.is_live.ensures ∙ c.if-not-is_live.false) c.take_input.ensures.settled c.take_input.ensures.legal c.take_input.ensures.since refl refl refl c.take_input.ensures.held c.take_input.ensures.room c.take_input.ensures.taken
