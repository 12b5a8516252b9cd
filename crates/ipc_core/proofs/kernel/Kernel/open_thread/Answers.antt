use Rattle.std.proofs.lemmas.Bool.{false≢true}
use Rattle.std.proofs.Common.{◌≡◌, ◌+◌, ◌≤◌, refl, sym, ap, ◌∙◌, subst, false, IsTrue, Some, inl, inr, arith}
use Rattle.ipc_history.specs.Threads.{is_taken, next_version}
use Rattle.ipc_history.specs.Legal.{is_admissible}
use Rattle.ipc_history.specs.declared.entry.Input.TheVariants.{Opened}
use Rattle.ipc_core.specs.Room.{LacksRoomFor, open_need}
use Rattle.ipc_laws.specs.Counting.{pledged}
use Rattle.ipc_core.proofs.OpeningLemmas.{may_open_next}
use Rattle.ipc_core.proofs.RefusalLemmas.{not_since, open_allowed, open_bad, open_full, open_taken, open_worn, range_from}
use Rattle.ipc_core.proofs.ReservedLemmas.{kernel_took, reserved, takes_input}
use Rattle.ipc_core.specs.Books.{AreBooks}
use Rattle.ipc_core.proofs.NewCalls.{takes_grows}
use Rattle.ipc_core.proofs.AmpleLemmas.{ample_where, fits_grown, fits_same}
use Rattle.ipc_core.proofs.BookLemmas.{books_grown}
use Rattle.ipc_core.proofs.kernel.Kernel.open_thread.Goals as goal

pub returns-then-is_out_of_range-clause-cause : goal.returns-then-is_out_of_range-clause-cause
returns-then-is_out_of_range-clause-cause g c = inl (open_bad c.args.self.now c.args.number c.args.space (sym c.is_out_of_range.ensures ∙ c.if-is_out_of_range.true))

pub returns-then-is_taken-clause-cause : goal.returns-then-is_taken-clause-cause
returns-then-is_taken-clause-cause g c =
    let range = range_from c.args.number c.args.space (sym c.is_out_of_range.ensures ∙ c.if-is_out_of_range.false) in
    inl (open_taken c.args.self.now c.args.number c.args.space range (ap (λ k. is_taken k.history c.args.number) (sym c.self.view_is) ∙ (sym c.is_taken.ensures ∙ c.if-is_taken.true)))

pub returns-in_default-clause-cause : goal.returns-in_default-clause-cause
returns-in_default-clause-cause g c =
    let range = range_from c.args.number c.args.space (sym c.is_out_of_range.ensures ∙ c.if-is_out_of_range.false) in
    inl (open_worn c.args.self.now c.args.number c.args.space range (ap (λ k. is_taken k.history c.args.number) (sym c.self.view_is) ∙ (sym c.is_taken.ensures ∙ c.if-is_taken.false)) (ap (λ k. next_version k.history c.args.number) (sym c.self.view_is) ∙ sym c.in_default.ensures))

pub returns-in_default-room_for-clause-cause : goal.returns-in_default-room_for-clause-cause
returns-in_default-room_for-clause-cause g c =
    let range = range_from c.args.number c.args.space (sym c.is_out_of_range.ensures ∙ c.if-is_out_of_range.false) in
    inl (open_full c.args.self.now c.args.number c.args.space range (ap (λ k. is_taken k.history c.args.number) (sym c.self.view_is) ∙ (sym c.is_taken.ensures ∙ c.if-is_taken.false)) c.in-Some.version (ap (λ k. next_version k.history c.args.number) (sym c.self.view_is) ∙ sym c.in-Some.ensures) (c.in_default-room_for.ensures.full.0 refl))

pub returns-in_default-make_room-clause-cause : goal.returns-in_default-make_room-clause-cause
returns-in_default-make_room-clause-cause g c =
    let range = range_from c.args.number c.args.space (sym c.is_out_of_range.ensures ∙ c.if-is_out_of_range.false) in
    inr (open_allowed c.args.self.now c.args.number c.args.space range (ap (λ k. is_taken k.history c.args.number) (sym c.self.view_is) ∙ (sym c.is_taken.ensures ∙ c.if-is_taken.false)) c.in-Some.version (ap (λ k. next_version k.history c.args.number) (sym c.self.view_is) ∙ sym c.in-Some.ensures) (not_since _ c.in-Some-room_for.ensures.full.1), refl)

pub returns-in_default-make_room-clause-memory : goal.returns-in_default-make_room-clause-memory
returns-in_default-make_room-clause-memory g c = λ is. subst (λ k. LacksRoomFor k open_need) c.self.view_is c.in_default-make_room.ensures.memory

pub returns-in_default-make_room-clause-ample : goal.returns-in_default-make_room-clause-ample
returns-in_default-make_room-clause-ample g c ample =
    let few = ample_where _ c.args.self.now c.self.inside.course open_need (ap (λ k. k.entries_limit) c.self.view_is) (ap (λ k. k.history) c.self.view_is) c.self.invariant.fits (not_since _ c.in-Some-room_for.ensures.full.1) in
    absurd (false≢true (c.in_default-make_room.ensures.ample ample few))

pub make_room-requires : goal.make_room-requires
make_room-requires g c = subst (λ l. pledged l + open_need ≤ c.in-Some-room_for.room) (sym (ap (λ k. k.history) c.self.view_is)) c.in-Some-room_for.ensures.value

pub take_input-requires-clause-admissible : goal.take_input-requires-clause-admissible
take_input-requires-clause-admissible g c =
    let history : c.self.inside.course.entries ≡ c.args.self.now.history = ap (λ k. k.history) c.self.view_is in
    let range = range_from c.args.number c.args.space (sym c.is_out_of_range.ensures ∙ c.if-is_out_of_range.false) in
    let free : is_taken c.args.self.now.history c.args.number ≡ false = ap (λ k. is_taken k.history c.args.number) (sym c.self.view_is) ∙ (sym c.is_taken.ensures ∙ c.if-is_taken.false) in
    let next : next_version c.args.self.now.history c.args.number ≡ Some c.in-Some.version = ap (λ k. next_version k.history c.args.number) (sym c.self.view_is) ∙ sym c.in-Some.ensures in
    subst (λ l. IsTrue (is_admissible l (Opened c.thread_id-thread.result c.args.space))) (sym (c.make_room.ensures.entries ∙ history)) (may_open_next c.args.self.now.history c.thread_id-thread.result c.args.number c.in-Some.version c.args.space range c.thread_id-thread.ensures.number c.thread_id-thread.ensures.version free next)

pub take_input-requires-clause-room : goal.take_input-requires-clause-room
take_input-requires-clause-room g c =
    let had = reserved _ c.args.self.now c.self.inside.course c.make_room.new.self open_need c.self.view_is c.self.invariant.kernel refl c.make_room.ensures.entries c.make_room.ensures.room (not_since _ c.in-Some-room_for.ensures.full.1) c.in-Ok.ensures.ok in
    had.fits

pub invariant_of-self-2 : goal.invariant_of-self-2
invariant_of-self-2 g c =
    let history : c.self.inside.course.entries ≡ c.args.self.now.history = ap (λ k. k.history) c.self.view_is in
    let range = range_from c.args.number c.args.space (sym c.is_out_of_range.ensures ∙ c.if-is_out_of_range.false) in
    let free : is_taken c.args.self.now.history c.args.number ≡ false = ap (λ k. is_taken k.history c.args.number) (sym c.self.view_is) ∙ (sym c.is_taken.ensures ∙ c.if-is_taken.false) in
    let next : next_version c.args.self.now.history c.args.number ≡ Some c.in-Some.version = ap (λ k. next_version k.history c.args.number) (sym c.self.view_is) ∙ sym c.in-Some.ensures in
    let admissible = subst (λ l. IsTrue (is_admissible l (Opened c.thread_id-thread.result c.args.space))) (sym (c.make_room.ensures.entries ∙ history)) (may_open_next c.args.self.now.history c.thread_id-thread.result c.args.number c.in-Some.version c.args.space range c.thread_id-thread.ensures.number c.thread_id-thread.ensures.version free next) in
    let had = reserved _ c.args.self.now c.self.inside.course c.make_room.new.self open_need c.self.view_is c.self.invariant.kernel refl c.make_room.ensures.entries c.make_room.ensures.room (not_since _ c.in-Some-room_for.ensures.full.1) c.in-Ok.ensures.ok in
    let kernel = kernel_took _ _ _ c.make_room.new.self c.take_input.new.self (Opened c.thread_id-thread.result c.args.space) had admissible refl c.take_input.ensures.settled c.take_input.ensures.room c.take_input.ensures.spent in
    let grows = takes_grows _ _ _ _ c.take_input.ensures.settled in
    let made = fits_same _ c.self.inside.course c.make_room.new.self c.self.invariant.fits c.make_room.ensures.entries c.make_room.ensures.books.held in
    record {
      kernel = kernel;
      books = books_grown _ _ _ grows c.self.inside.course.taken _ (c.take_input.ensures.taken ∙ c.make_room.ensures.books.taken) _ c.self.inside.course.since c.take_input.ensures.since (subst (λ l. AreBooks l c.self.inside.course.taken c.self.inside.course.since) (sym c.make_room.ensures.entries) c.self.invariant.books) tt;
      fits = fits_grown _ c.make_room.new.self c.take_input.new.self grows.more made grows.whole c.take_input.ensures.held;
    }

pub returns-clause-ok : goal.returns-clause-ok
returns-clause-ok g c =
    let range = range_from c.args.number c.args.space (sym c.is_out_of_range.ensures ∙ c.if-is_out_of_range.false) in
    let free : is_taken c.args.self.now.history c.args.number ≡ false = ap (λ k. is_taken k.history c.args.number) (sym c.self.view_is) ∙ (sym c.is_taken.ensures ∙ c.if-is_taken.false) in
    let next : next_version c.args.self.now.history c.args.number ≡ Some c.in-Some.version = ap (λ k. next_version k.history c.args.number) (sym c.self.view_is) ∙ sym c.in-Some.ensures in
    let allowed = open_allowed c.args.self.now c.args.number c.args.space range free c.in-Some.version next (not_since _ c.in-Some-room_for.ensures.full.1) in
    let takes = takes_input _ c.args.self.now _ c.make_room.new.self (Opened c.thread_id-thread.result c.args.space) (Opened c.thread_id-thread.result c.args.space) c.self.view_is c.make_room.ensures.entries refl c.take_input.ensures.settled c.take_input.ensures.legal c.take_input.ensures.since refl refl refl (c.take_input.ensures.held ∙ c.make_room.ensures.books.held) (omega (arith, c.make_room.ensures.room, c.take_input.ensures.room)) in
    (allowed, record { number_is = c.thread_id-thread.ensures.number; version_is = next ∙ ap Some (sym c.thread_id-thread.ensures.version); takes = takes; taken = c.take_input.ensures.taken ∙ (c.make_room.ensures.books.taken ∙ ap (λ k. k.taken) c.self.view_is) })
