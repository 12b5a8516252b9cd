use Rattle.std.proofs.lemmas.Bool.{false≢true}
use Rattle.std.proofs.Common.{◌≡◌, ◌+◌, ◌≤◌, ℕ, Some, true, IsTrue, length, ap, sym, subst, inl, inr, refl, ◌∙◌, arith}
use Rattle.ipc_history.specs.Threads.{is_live}
use Rattle.ipc_history.specs.Calls.{calls_made}
use Rattle.ipc_history.specs.Legal.{Legal, is_admissible}
use Rattle.ipc_history.specs.Settled.{Settled}
use Rattle.ipc_history.specs.declared.entry.Input.TheVariants.{Called}
use Rattle.ipc_laws.specs.Counting.{pledged, room_owed}
use Rattle.ipc_core.specs.Room.{is_full, call_need}
use Rattle.ipc_core.specs.Steps.{with_input}
use Rattle.ipc_desks.specs.CallsOf.{is_busy, last_call}
use Rattle.ipc_core.specs.Outcomes.{is_among}
use Rattle.ipc_core.proofs.AmpleLemmas.{ample_where, fits_grown}
use Rattle.ipc_core.proofs.BookLemmas.{books_grown}
use Rattle.ipc_core.proofs.BusyLaws.{last_taken, not_waiting}
use Rattle.ipc_core.proofs.KernelLemmas.{kernel_after}
use Rattle.ipc_core.proofs.NewCalls.{takes_grows}
use Rattle.ipc_core.proofs.RefusalLemmas.{not_since}
use Rattle.ipc_core.proofs.EnteringLemmas.{no_thread, busy, spent, full, test_moved, passes, passes_entered, passes_may_call, called_room, called_within, enters}
use Rattle.ipc_core.proofs.kernel.Kernel.enter_call.Goals as goal

pub returns-then-not-is_live-clause-cause : goal.returns-then-not-is_live-clause-cause
returns-then-not-is_live-clause-cause g c = inl (no_thread c.args.self.now c.args.thread c.args.call (test_moved (λ l. is_live l c.args.thread) _ _ _ _ _ refl (ap (λ k. k.history) c.self.view_is) c.is_live.ensures c.if-not-is_live.true) ∙ ap Some (sym c.of.ensures.why))

pub returns-then-is_busy-clause-cause : goal.returns-then-is_busy-clause-cause
returns-then-is_busy-clause-cause g c =
    let live = test_moved (λ l. is_live l c.args.thread) _ _ _ _ _ refl (ap (λ k. k.history) c.self.view_is) c.is_live.ensures c.if-not-is_live.false in
    inl (busy c.args.self.now c.args.thread c.args.call live (sym c.is_busy.ensures ∙ c.if-is_busy.true) ∙ ap Some (sym c.of-then-is_busy.ensures.why))

pub returns-then-made-self-clause-cause : goal.returns-then-made-self-clause-cause
returns-then-made-self-clause-cause g c =
    let live = test_moved (λ l. is_live l c.args.thread) _ _ _ _ _ refl (ap (λ k. k.history) c.self.view_is) c.is_live.ensures c.if-not-is_live.false in
    let made = c.calls_made-made.ensures ∙ ap calls_made (ap (λ k. k.history) c.self.view_is) in
    let limit = ap (λ k. k.calls_limit) c.self.view_is in
    inl (spent c.args.self.now c.args.thread c.args.call live (sym c.is_busy.ensures ∙ c.if-is_busy.false) (omega (arith, made, limit, c.if-made-self.true)) ∙ ap Some (sym c.of-then-made-self.ensures.why))

pub returns-in_default-clause-cause : goal.returns-in_default-clause-cause
returns-in_default-clause-cause g c =
    let live = test_moved (λ l. is_live l c.args.thread) _ _ _ _ _ refl (ap (λ k. k.history) c.self.view_is) c.is_live.ensures c.if-not-is_live.false in
    let made = c.calls_made-made.ensures ∙ ap calls_made (ap (λ k. k.history) c.self.view_is) in
    let limit = ap (λ k. k.calls_limit) c.self.view_is in
    inl (full c.args.self.now c.args.thread c.args.call live (sym c.is_busy.ensures ∙ c.if-is_busy.false) (omega (arith, made, limit, c.if-made-self.false)) (ap (is_full c.args.self.now) (sym c.call_need-need.ensures) ∙ c.in_default.ensures.full.0 refl) ∙ ap Some (sym c.of-in_default.ensures.why))

pub returns-in-Err-clause-cause : goal.returns-in-Err-clause-cause
returns-in-Err-clause-cause g c = inr (passes_entered _ _ _ _ (passes c.args.self.now c.args.thread c.args.call _ _ _ c.calls_made-made.result _ _ _ refl (ap (λ k. k.history) c.self.view_is) (ap (λ k. k.calls_limit) c.self.view_is) c.is_live.ensures c.if-not-is_live.false c.is_busy.ensures c.if-is_busy.false c.calls_made-made.ensures c.if-made-self.false c.call_need-need.ensures c.in-Some.ensures.full), c.of-in-Err.ensures.why)

pub returns-in-Err-clause-ample : goal.returns-in-Err-clause-ample
returns-in-Err-clause-ample g c ample =
    let few = ample_where _ c.args.self.now c.self.inside.course c.call_need-need.result (ap (λ k. k.entries_limit) c.self.view_is) (ap (λ k. k.history) c.self.view_is) c.self.invariant.fits (not_since _ c.in-Some.ensures.full.1) in
    absurd (false≢true (c.in-Err.ensures.ample ample few))

pub prepare-requires : goal.prepare-requires
prepare-requires g c = subst (λ l. pledged l + c.call_need-need.result ≤ c.in-Some.room) (sym (ap (λ k. k.history) c.self.view_is)) c.in-Some.ensures.value

pub take_input-requires-clause-admissible : goal.take_input-requires-clause-admissible
take_input-requires-clause-admissible g c = subst (λ call. IsTrue (is_admissible c.prepare.new.self.entries (Called (c.calls_made-made.result + 1) c.args.thread call))) (sym c.in-Ok.ensures.call) (passes_may_call _ _ _ _ c.prepare.new.self.entries (passes c.args.self.now c.args.thread c.args.call _ _ _ c.calls_made-made.result _ _ _ refl (ap (λ k. k.history) c.self.view_is) (ap (λ k. k.calls_limit) c.self.view_is) c.is_live.ensures c.if-not-is_live.false c.is_busy.ensures c.if-is_busy.false c.calls_made-made.ensures c.if-made-self.false c.call_need-need.ensures c.in-Some.ensures.full) (c.in-Ok.ensures.entries ∙ ap (λ k. k.history) c.self.view_is) (sym c.is_normal-is_normal.ensures.value ∙ c.is_normal-is_normal.ensures.always))

pub take_input-requires-clause-room : goal.take_input-requires-clause-room
take_input-requires-clause-room g c = subst (λ call. length c.prepare.new.self.entries + room_owed c.prepare.new.self.entries + call_need call ≤ c.prepare.new.self.room) (sym c.in-Ok.ensures.call) (called_room c.prepare.new.self.entries _ _ _ (subst Legal (sym c.in-Ok.ensures.entries) c.self.invariant.kernel.stands.legal) c.call_need-need.ensures c.in-Ok.ensures.fits)

pub invariant_of-self : goal.invariant_of-self
invariant_of-self g c =
    let pass = passes c.args.self.now c.args.thread c.args.call _ _ _ c.calls_made-made.result _ _ _ refl (ap (λ k. k.history) c.self.view_is) (ap (λ k. k.calls_limit) c.self.view_is) c.is_live.ensures c.if-not-is_live.false c.is_busy.ensures c.if-is_busy.false c.calls_made-made.ensures c.if-made-self.false c.call_need-need.ensures c.in-Some.ensures.full in
    let view = ap (λ k. k.history) c.self.view_is in
    let fits = called_room c.prepare.new.self.entries _ (call_need c.args.call) c.prepare.new.self.room (subst Legal (sym c.in-Ok.ensures.entries) c.self.invariant.kernel.stands.legal) c.call_need-need.ensures c.in-Ok.ensures.fits in
    let same : c.prepare.new.self.entries ≡ c.self.inside.course.entries = c.in-Ok.ensures.entries in
    let settled = subst (λ call. Settled (with_input c.self.inside.course.entries c.self.inside.moment (Called (c.calls_made-made.result + 1) c.args.thread call)) c.take_input.new.self.entries) c.in-Ok.ensures.call (subst (λ l. Settled (with_input l c.self.inside.moment (Called (c.calls_made-made.result + 1) c.args.thread c.in-Ok.entered)) c.take_input.new.self.entries) same c.take_input.ensures.settled) in
    let kernel = kernel_after _ _ _ c.self.inside.course c.take_input.new.self (Called (c.calls_made-made.result + 1) c.args.thread c.args.call) c.self.invariant.kernel
    (passes_may_call _ _ _ _ c.self.inside.course.entries pass view (sym c.is_normal-is_normal.ensures.value ∙ c.is_normal-is_normal.ensures.always))
    refl
    (called_within c.args.self.now _ _ _ _ c.self.inside.course.entries pass view (ap (λ k. k.entries_limit) c.self.view_is) c.self.invariant.kernel.stands.legal)
    (subst (λ l. length l + room_owed l + call_need c.args.call ≤ c.take_input.new.self.room) same (subst (λ r. length c.prepare.new.self.entries + room_owed c.prepare.new.self.entries + call_need c.args.call ≤ r) (sym c.take_input.ensures.room) fits))
    settled
    (subst (λ call. length c.take_input.new.self.entries + room_owed c.take_input.new.self.entries ≤ length c.self.inside.course.entries + room_owed c.self.inside.course.entries + call_need call) c.in-Ok.ensures.call (subst (λ l. length c.take_input.new.self.entries + room_owed c.take_input.new.self.entries ≤ length l + room_owed l + call_need c.in-Ok.entered) same c.take_input.ensures.spent)) in
    let idle : (m : ℕ) → last_call c.self.inside.course.entries c.args.thread ≡ Some m → is_among m c.self.inside.course.taken ≡ true = λ m last. ap (λ k. is_among m k.taken) c.self.view_is ∙ last_taken c.args.self.now c.args.thread m (test_moved (λ l. is_live l c.args.thread) _ _ _ _ _ refl view c.is_live.ensures c.if-not-is_live.false) (sym c.is_busy.ensures ∙ c.if-is_busy.false) (ap (λ l. last_call l c.args.thread) (sym view) ∙ last) in
    let grows = takes_grows _ _ _ _ settled in
    record {
      kernel = kernel;
      books = books_grown _ _ (Called (c.calls_made-made.result + 1) c.args.thread c.args.call) grows c.self.inside.course.taken _ (c.take_input.ensures.taken ∙ c.in-Ok.ensures.taken) _ c.self.inside.course.since (c.take_input.ensures.since ∙ ap length same) c.self.invariant.books idle;
      fits = fits_grown _ c.self.inside.course c.take_input.new.self grows.more c.self.invariant.fits grows.whole (c.take_input.ensures.held ∙ c.in-Ok.ensures.held);
    }

pub returns-in-Ok-clause-ok : goal.returns-in-Ok-clause-ok
returns-in-Ok-clause-ok g c =
    let pass = passes c.args.self.now c.args.thread c.args.call _ _ _ c.calls_made-made.result _ _ _ refl (ap (λ k. k.history) c.self.view_is) (ap (λ k. k.calls_limit) c.self.view_is) c.is_live.ensures c.if-not-is_live.false c.is_busy.ensures c.if-is_busy.false c.calls_made-made.ensures c.if-made-self.false c.call_need-need.ensures c.in-Some.ensures.full in
    let same : c.prepare.new.self.entries ≡ c.self.inside.course.entries = c.in-Ok.ensures.entries in (
      passes_entered _ _ _ _ pass,
      enters _ c.args.self.now _ c.args.thread (c.calls_made-made.result + 1) c.args.call c.self.view_is (ap (λ n. n + 1) pass.made_is)
          (subst (λ call. Settled (with_input c.self.inside.course.entries c.self.inside.moment (Called (c.calls_made-made.result + 1) c.args.thread call)) c.take_input.new.self.entries) c.in-Ok.ensures.call (subst (λ l. Settled (with_input l c.self.inside.moment (Called (c.calls_made-made.result + 1) c.args.thread c.in-Ok.entered)) c.take_input.new.self.entries) same c.take_input.ensures.settled))
          c.take_input.ensures.legal (c.take_input.ensures.since ∙ ap length same)
          refl refl refl (c.take_input.ensures.held ∙ c.in-Ok.ensures.held) (omega (arith, c.in-Ok.ensures.room, c.take_input.ensures.room)) (c.take_input.ensures.taken ∙ c.in-Ok.ensures.taken),
    )

pub take_input-requires-clause-idle : goal.take_input-requires-clause-idle
take_input-requires-clause-idle g c = rw (c.in-Ok.ensures.entries, c.in-Ok.ensures.taken) (ap (λ k. is_busy k.history k.taken c.args.thread) c.self.view_is ∙ not_waiting c.args.self.now c.args.thread (test_moved (λ l. is_live l c.args.thread) _ _ _ _ _ refl (ap (λ k. k.history) c.self.view_is) c.is_live.ensures c.if-not-is_live.false) (sym c.is_busy.ensures ∙ c.if-is_busy.false))
