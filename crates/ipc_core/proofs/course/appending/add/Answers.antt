use Rattle.std.proofs.Common.{◌≡◌, sym, ap, ◌∙◌, false}
use Rattle.ipc_core.specs.Outcomes.{is_among}
use Rattle.ipc_core.proofs.FinishedLaws.{new_name}
use Rattle.ipc_core.proofs.course.appending.add.Goals as goal

pub push_reserved-requires : goal.push_reserved-requires
push_reserved-requires c =
    let absent : is_among c.in-Some.thread c.args.names.now.items ≡ false = ap (is_among c.in-Some.thread) (sym c.deref.ensures.value) ∙ (sym c.is_named.ensures ∙ c.if-not-is_named.true) in
    (rw c.in-Some.is at c.requires) absent

pub returns-then-not-is_named-clause-items : goal.returns-then-not-is_named-clause-items
returns-then-not-is_named-clause-items c =
    let absent : is_among c.in-Some.thread c.args.names.now.items ≡ false = ap (is_among c.in-Some.thread) (sym c.deref.ensures.value) ∙ (sym c.is_named.ensures ∙ c.if-not-is_named.true) in
    c.push_reserved.ensures.items ∙ new_name c.args.names.now.items c.args.thread c.in-Some.thread c.in-Some.is absent
