use Rattle.std.proofs.lemmas.Bool.{false≢true}
use Rattle.std.proofs.Common.{◌≡◌, ◌+◌, ◌*◌, ◌≤◌, sym, ◌∙◌, false, subst, IfSome, IsNone, IsTrue, arith}
use Rattle.std.specs.Prelude.{◌↔◌}
use Rattle.ipc_laws.specs.Counting.{pledged}
use Rattle.ipc_core.specs.Room.{is_full}
use Rattle.ipc_laws.proofs.LiveThreads.{live_bound}
use Rattle.ipc_core.proofs.ReservedLemmas.{full_where, most_of_thread, pledged_most, room_most, room_where}
use Rattle.ipc_core.proofs.kernel.Kernel.room_for.Goals as goal

pub room_within-requires : goal.room_within-requires
room_within-requires c = let few = live_bound c.self.inside.course.entries c.self.invariant.kernel.stands.legal in omega arith

pub returns-clause-full : goal.returns-clause-full
returns-clause-full c =
    let count = c.len.ensures in
    let within = c.self.invariant.kernel.stands.within in
    subst (λ k. IsNone c.room_within.result ↔ IsTrue (is_full k c.args.need)) c.self.view_is (full_where _ c.args.need _ c.live-live.result c.pledged_for_calls.result (IsNone c.room_within.result) (omega arith) c.live-live.ensures c.pledged_for_calls.ensures c.room_within.ensures.full)

pub returns-clause-value : goal.returns-clause-value
returns-clause-value c = subst (λ k. IfSome c.room_within.result (λ room. pledged k.history + c.args.need ≤ room)) c.self.view_is (room_where c.self.inside.course.entries c.args.need c.live-live.result c.pledged_for_calls.result c.room_within.result c.live-live.ensures c.pledged_for_calls.ensures c.room_within.ensures.value)

pub overflow_mul-most : goal.overflow_mul-most
overflow_mul-most c = let few = live_bound c.self.inside.course.entries c.self.invariant.kernel.stands.legal in omega (arith, few, c.live-live.ensures)

pub returns-then-most-left-clause-full : goal.returns-then-most-left-clause-full
returns-then-most-left-clause-full c =
    let count = c.len.ensures in
    let within = c.self.invariant.kernel.stands.within in
    let room : is_full c.args.self.now c.args.need ≡ false = subst (λ k. is_full k c.args.need ≡ false) c.self.view_is (room_most _ c.args.need _ c.live-live.result c.self.invariant.kernel.stands.legal (omega arith) c.live-live.ensures c.if-need-left.true c.if-most-left.true) in
    (λ none. absurd (false≢true (sym none)), λ full. absurd (false≢true (sym room ∙ full)))

pub returns-then-most-left-clause-value : goal.returns-then-most-left-clause-value
returns-then-most-left-clause-value c = subst (λ k. pledged k.history + c.args.need ≤ most_of_thread * c.live-live.result + c.args.need) c.self.view_is (omega (arith, pledged_most c.self.inside.course.entries c.self.invariant.kernel.stands.legal, c.live-live.ensures))
