use Rattle.std.proofs.Common.{◌∙◌, sym, ap}
use Rattle.ipc_compact.specs.Compact.{kept_of}
use Rattle.ipc_core.proofs.CompactLemmas.{open_kept, passes_is}
use Rattle.ipc_chain.proofs.Keeping.{held_kept, judged_compacted}
use Rattle.ipc_chain.proofs.chain.Chain.compacted.Goals as goal

pub compact-requires-clause-called : goal.compact-requires-clause-called
compact-requires-clause-called c = λ n e opened inside is. passes_is c.self.inside.desks.past c.self.inside.history.entries c.self.inside.desks.taken c.kept.result.now c.self.invariant.desks_of c.self.invariant.legal c.kept.ensures.keeps c.self.invariant.others c.fill.new.self c.fill.ensures e ∙ open_kept c.self.inside.history.entries c.self.inside.desks.taken c.self.invariant.legal n e opened is

pub base_of-requires-clause-kept : goal.base_of-requires-clause-kept
base_of-requires-clause-kept c =
    c.held.ensures
    ∙ (held_kept c.self.inside.history c.compact.new.self c.self.inside.slots c.self.inside.desks c.self.inside.partners c.self.inside.takes c.fill.new.self c.self.invariant (λ e. passes_is c.self.inside.desks.past c.self.inside.history.entries c.self.inside.desks.taken c.kept.result.now c.self.invariant.desks_of c.self.invariant.legal c.kept.ensures.keeps c.self.invariant.others c.fill.new.self c.fill.ensures e) c.len-end.result c.len-end.ensures c.compact.ensures.entries c.compact.ensures.held
    ∙ ap (λ l. kept_of l c.self.inside.desks.taken) (sym c.self.invariant.desks_of))

pub invariant_of-self : goal.invariant_of-self
invariant_of-self c = judged_compacted c.self.inside.history c.compact.new.self c.self.inside.slots c.self.inside.desks c.self.inside.partners c.self.inside.takes c.fill.new.self c.self.invariant (λ e. passes_is c.self.inside.desks.past c.self.inside.history.entries c.self.inside.desks.taken c.kept.result.now c.self.invariant.desks_of c.self.invariant.legal c.kept.ensures.keeps c.self.invariant.others c.fill.new.self c.fill.ensures e) c.len-end.result c.len-end.ensures c.compact.ensures.entries c.compact.ensures.held

pub returns-clause-kept : goal.returns-clause-kept
returns-clause-kept c =
    held_kept c.self.inside.history c.compact.new.self c.self.inside.slots c.self.inside.desks c.self.inside.partners c.self.inside.takes c.fill.new.self c.self.invariant (λ e. passes_is c.self.inside.desks.past c.self.inside.history.entries c.self.inside.desks.taken c.kept.result.now c.self.invariant.desks_of c.self.invariant.legal c.kept.ensures.keeps c.self.invariant.others c.fill.new.self c.fill.ensures e) c.len-end.result c.len-end.ensures c.compact.ensures.entries c.compact.ensures.held
    ∙ ap (λ v. kept_of v.past v.taken) c.self.view_is
