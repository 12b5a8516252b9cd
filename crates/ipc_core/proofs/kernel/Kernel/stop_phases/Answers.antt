use Rattle.std.proofs.lemmas.Bool.{false≢true}
use Rattle.std.proofs.Common.{◌≡◌, ◌+◌, ◌≤◌, arith, refl, sym, ap, ◌∙◌, subst, true, IsTrue, inl, inr}
use Rattle.ipc_words.specs.Control.{masked_of}
use Rattle.ipc_history.specs.Threads.{is_live}
use Rattle.ipc_history.specs.Legal.{is_admissible}
use Rattle.ipc_history.specs.declared.entry.Input.TheVariants.{Exreg}
use Rattle.ipc_core.specs.Room.{LacksRoomFor, exreg_need}
use Rattle.ipc_laws.specs.Counting.{pledged}
use Rattle.ipc_core.proofs.OpeningLemmas.{may_stop}
use Rattle.ipc_core.proofs.RefusalLemmas.{exreg_allowed, exreg_busy, exreg_full, exreg_no_thread, idle_no_call, not_since}
use Rattle.ipc_core.proofs.ReservedLemmas.{kernel_took, reserved, takes_input}
use Rattle.ipc_core.specs.Books.{AreBooks}
use Rattle.ipc_core.specs.ExchangeRegisters.{exreg_answer}
use Rattle.ipc_core.proofs.NewCalls.{takes_grows}
use Rattle.ipc_core.proofs.AmpleLemmas.{ample_where, fits_grown, fits_same}
use Rattle.ipc_core.proofs.BookLemmas.{books_grown}
use Rattle.ipc_core.proofs.kernel.Kernel.stop_phases.Goals as goal

pub returns-then-not-is_live-clause-cause : goal.returns-then-not-is_live-clause-cause
returns-then-not-is_live-clause-cause g c =
    inl (exreg_no_thread c.args.self.now c.args.thread (ap (λ k. is_live k.history c.args.thread) (sym c.self.view_is) ∙ (sym c.is_live.ensures ∙ c.if-not-is_live.true)))

pub returns-then-is_busy-clause-cause : goal.returns-then-is_busy-clause-cause
returns-then-is_busy-clause-cause g c =
    inl (exreg_busy c.args.self.now c.args.thread (ap (λ k. is_live k.history c.args.thread) (sym c.self.view_is) ∙ (sym c.is_live.ensures ∙ c.if-not-is_live.false)) (sym c.is_busy.ensures ∙ c.if-is_busy.true))

pub returns-in_default-clause-cause : goal.returns-in_default-clause-cause
returns-in_default-clause-cause g c =
    inl (exreg_full c.args.self.now c.args.thread (ap (λ k. is_live k.history c.args.thread) (sym c.self.view_is) ∙ (sym c.is_live.ensures ∙ c.if-not-is_live.false)) (sym c.is_busy.ensures ∙ c.if-is_busy.false) (c.in_default.ensures.full.0 refl))

pub returns-in_default-make_room-clause-cause : goal.returns-in_default-make_room-clause-cause
returns-in_default-make_room-clause-cause g c =
    inr (exreg_allowed c.args.self.now c.args.thread (ap (λ k. is_live k.history c.args.thread) (sym c.self.view_is) ∙ (sym c.is_live.ensures ∙ c.if-not-is_live.false)) (sym c.is_busy.ensures ∙ c.if-is_busy.false) (not_since _ c.in-Some.ensures.full.1), refl)

pub returns-in_default-make_room-clause-memory : goal.returns-in_default-make_room-clause-memory
returns-in_default-make_room-clause-memory g c = λ is. subst (λ k. LacksRoomFor k exreg_need) c.self.view_is c.in_default-make_room.ensures.memory

pub returns-in_default-make_room-clause-ample : goal.returns-in_default-make_room-clause-ample
returns-in_default-make_room-clause-ample g c ample =
    let few = ample_where _ c.args.self.now c.self.inside.course exreg_need (ap (λ k. k.entries_limit) c.self.view_is) (ap (λ k. k.history) c.self.view_is) c.self.invariant.fits (not_since _ c.in-Some.ensures.full.1) in
    absurd (false≢true (c.in_default-make_room.ensures.ample ample few))

pub make_room-requires : goal.make_room-requires
make_room-requires g c = subst (λ l. pledged l + exreg_need ≤ c.in-Some.room) (sym (ap (λ k. k.history) c.self.view_is)) c.in-Some.ensures.value

pub take_input-requires-clause-admissible : goal.take_input-requires-clause-admissible
take_input-requires-clause-admissible g c =
    let history : c.self.inside.course.entries ≡ c.args.self.now.history = ap (λ k. k.history) c.self.view_is in
    let live : is_live c.args.self.now.history c.args.thread ≡ true = ap (λ k. is_live k.history c.args.thread) (sym c.self.view_is) ∙ (sym c.is_live.ensures ∙ c.if-not-is_live.false) in
    let idle = idle_no_call c.args.self.now c.args.thread (sym c.is_busy.ensures ∙ c.if-is_busy.false) in
    subst (λ l. IsTrue (is_admissible l (Exreg c.args.thread c.args.target c.masked.result))) (sym (c.make_room.ensures.entries ∙ history)) (may_stop c.args.self.now.history c.args.thread c.args.target c.args.control c.masked.result live idle c.masked.ensures)

pub take_input-requires-clause-room : goal.take_input-requires-clause-room
take_input-requires-clause-room g c =
    let had = reserved _ c.args.self.now c.self.inside.course c.make_room.new.self exreg_need c.self.view_is c.self.invariant.kernel refl c.make_room.ensures.entries c.make_room.ensures.room (not_since _ c.in-Some.ensures.full.1) c.in-Ok.ensures.ok in
    had.fits

pub invariant_of-self-2 : goal.invariant_of-self-2
invariant_of-self-2 g c =
    let history : c.self.inside.course.entries ≡ c.args.self.now.history = ap (λ k. k.history) c.self.view_is in
    let live : is_live c.args.self.now.history c.args.thread ≡ true = ap (λ k. is_live k.history c.args.thread) (sym c.self.view_is) ∙ (sym c.is_live.ensures ∙ c.if-not-is_live.false) in
    let idle = idle_no_call c.args.self.now c.args.thread (sym c.is_busy.ensures ∙ c.if-is_busy.false) in
    let admissible = subst (λ l. IsTrue (is_admissible l (Exreg c.args.thread c.args.target c.masked.result))) (sym (c.make_room.ensures.entries ∙ history)) (may_stop c.args.self.now.history c.args.thread c.args.target c.args.control c.masked.result live idle c.masked.ensures) in
    let had = reserved _ c.args.self.now c.self.inside.course c.make_room.new.self exreg_need c.self.view_is c.self.invariant.kernel refl c.make_room.ensures.entries c.make_room.ensures.room (not_since _ c.in-Some.ensures.full.1) c.in-Ok.ensures.ok in
    let kernel = kernel_took _ _ _ c.make_room.new.self c.take_input.new.self (Exreg c.args.thread c.args.target c.masked.result) had admissible refl c.take_input.ensures.settled c.take_input.ensures.room c.take_input.ensures.spent in
    let grows = takes_grows _ _ _ _ c.take_input.ensures.settled in
    let made = fits_same _ c.self.inside.course c.make_room.new.self c.self.invariant.fits c.make_room.ensures.entries c.make_room.ensures.books.held in
    record {
      kernel = kernel;
      books = books_grown _ _ _ grows c.self.inside.course.taken _ (c.take_input.ensures.taken ∙ c.make_room.ensures.books.taken) _ c.self.inside.course.since c.take_input.ensures.since (subst (λ l. AreBooks l c.self.inside.course.taken c.self.inside.course.since) (sym c.make_room.ensures.entries) c.self.invariant.books) tt;
      fits = fits_grown _ c.make_room.new.self c.take_input.new.self grows.more made grows.whole c.take_input.ensures.held;
    }

pub returns-clause-ok : goal.returns-clause-ok
returns-clause-ok g c =
    let history : c.self.inside.course.entries ≡ c.args.self.now.history = ap (λ k. k.history) c.self.view_is in
    let allowed = exreg_allowed c.args.self.now c.args.thread (ap (λ k. is_live k.history c.args.thread) (sym c.self.view_is) ∙ (sym c.is_live.ensures ∙ c.if-not-is_live.false)) (sym c.is_busy.ensures ∙ c.if-is_busy.false) (not_since _ c.in-Some.ensures.full.1) in
    let same = ap (λ m. Exreg c.args.thread c.args.target m) c.masked.ensures in
    let takes = takes_input _ c.args.self.now _ c.make_room.new.self (Exreg c.args.thread c.args.target c.masked.result) (Exreg c.args.thread c.args.target (masked_of c.args.control)) c.self.view_is c.make_room.ensures.entries same c.take_input.ensures.settled c.take_input.ensures.legal c.take_input.ensures.since refl refl refl (c.take_input.ensures.held ∙ c.make_room.ensures.books.held) (omega (arith, c.make_room.ensures.room, c.take_input.ensures.room)) in
    (allowed, record { answer_is = c.exreg_answer-answer.ensures ∙ ap (λ l. exreg_answer l c.args.thread c.args.target) (c.make_room.ensures.entries ∙ history); takes = takes; taken = c.take_input.ensures.taken ∙ (c.make_room.ensures.books.taken ∙ ap (λ k. k.taken) c.self.view_is) })

pub exreg_answer-answer-requires : goal.exreg_answer-answer-requires
exreg_answer-answer-requires g c =
    let history : c.make_room.new.self.entries ≡ c.self.inside.course.entries = c.make_room.ensures.entries in
    ap (λ l. is_live l c.args.thread) history ∙ (sym c.is_live.ensures ∙ c.if-not-is_live.false)
