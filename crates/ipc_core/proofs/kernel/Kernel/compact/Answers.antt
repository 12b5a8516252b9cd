use Rattle.std.proofs.Common.{◌≡◌, ◌+◌, ◌-◌, ◌∙◌, ap, sym, subst, length, min, arith}
use Rattle.ipc_history.specs.Holding.{held_of}
use Rattle.ipc_core.specs.Books.{TookOthers}
use Rattle.ipc_core.specs.Compacting.{kept_to, most_entries}
use Rattle.ipc_core.specs.KernelParts.{history_of}
use Rattle.ipc_core.proofs.CompactLemmas.{begun_same, compacts_whole, kept_begun}
use Rattle.ipc_core.proofs.kernel.Kernel.compact.Goals as goal

pub compact-requires-clause-others : goal.compact-requires-clause-others
compact-requires-clause-others c = subst (λ l. TookOthers l c.begin.new.self.taken) (sym c.begin.ensures.entries) (subst (TookOthers c.self.inside.course.entries) (sym c.begin.ensures.taken) c.self.invariant.books.others)

pub overflow_sub-dropped : goal.overflow_sub-dropped
overflow_sub-dropped c =
    let few = c.compact.ensures.less in
    let same = ap length (begun_same c.self.inside.course c.begin.new.self c.begin.ensures.entries c.begin.ensures.held c.begin.ensures.room) in
    omega (arith, few, same, c.held_len-before.ensures, c.held_len-left.ensures)

pub invariant_of-self : goal.invariant_of-self
invariant_of-self c =
    let few = c.compact.ensures.less in
    let same = ap length (begun_same c.self.inside.course c.begin.new.self c.begin.ensures.entries c.begin.ensures.held c.begin.ensures.room) in
    compacts_whole _ _ _ _ c.self.inside.course c.compact.new.self c.self.invariant (c.compact.ensures.entries ∙ c.begin.ensures.entries) (omega (arith, few, c.compact.ensures.room, c.begin.ensures.room)) (c.compact.ensures.taken ∙ c.begin.ensures.taken) (c.compact.ensures.since ∙ c.begin.ensures.since) c.raised-self-inside.ensures.least c.raised-self-inside.ensures.most
    (omega (arith, few, same, c.raised-self-inside.ensures.value, c.held_len-before.ensures, c.held_len-left.ensures))

pub returns : goal.returns
returns c =
    let few = c.compact.ensures.less in
    let same = ap length (begun_same c.self.inside.course c.begin.new.self c.begin.ensures.entries c.begin.ensures.held c.begin.ensures.room) in
    let dropped = c.held_len-before.result - c.held_len-left.result in
    record {
      history = c.compact.ensures.entries ∙ (c.begin.ensures.entries ∙ ap (λ k. k.history) c.self.view_is);
      held = subst (λ k. c.compact.new.self.held ≡ kept_to k.taken c.args.upto (history_of k)) c.self.view_is (c.compact.ensures.held ∙ kept_begun c.self.inside.course c.begin.new.self c.begin.ensures.entries c.begin.ensures.held c.begin.ensures.taken c.args.upto);
      left = c.held_len-left.ensures;
      dropped = (let all : dropped + c.held_len-left.result ≡ c.held_len-before.result = omega (arith, few, same, c.held_len-before.ensures, c.held_len-left.ensures) in all ∙ (c.held_len-before.ensures ∙ ap (λ k. length (held_of (history_of k))) c.self.view_is));
      entries_limit = c.raised-self-inside.ensures.value ∙ ap (λ k. min (k.entries_limit + dropped) most_entries) c.self.view_is;
      room = (let more : c.compact.new.self.room ≡ c.self.inside.course.room + dropped = omega (arith, few, same, c.compact.ensures.room, c.begin.ensures.room, c.held_len-before.ensures, c.held_len-left.ensures) in more ∙ ap (λ k. k.room + dropped) c.self.view_is);
      taken = c.compact.ensures.taken ∙ (c.begin.ensures.taken ∙ ap (λ k. k.taken) c.self.view_is);
      since = c.compact.ensures.since ∙ (c.begin.ensures.since ∙ ap (λ k. length k.history) c.self.view_is);
      moment = ap (λ k. k.moment) c.self.view_is;
      calls_limit = ap (λ k. k.calls_limit) c.self.view_is;
    }
