use Rattle.std.proofs.Common.{All, Contains, sym, subst}
use Rattle.ipc_check.proofs.Going.{replaced}
use Rattle.ipc_check.proofs.ongoing.Ongoing.replace.Goals as goal

pub is_spare-requires : goal.is_spare-requires
is_spare-requires c =
    let held = c.self.inside.held.items in
    let now = c.self.inside.slots.past in
    subst (All (Contains now)) (sym c.deref.ensures.value) (subst (λ l. All (Contains l) held) (sym c.self.invariant.told) c.self.invariant.holds.among)

pub invariant_of-self : goal.invariant_of-self
invariant_of-self c =
    replaced c.self.inside.past c.args.self.now c.self.inside.held.items c.deref.result.now c.self.inside.slots c.args.place c.in-Some.copy c.args.entry.now
    c.self.invariant c.self.view_is c.in-Some.ensures c.requires c.deref.ensures.value c.if-is_spare.ensures

pub invariant_of-self-then-is_spare-2 : goal.invariant_of-self-then-is_spare-2
invariant_of-self-then-is_spare-2 c =
    replaced c.self.inside.past c.args.self.now c.self.inside.held.items c.deref.result.now c.self.inside.slots c.args.place c.in-Some.copy c.args.entry.now
    c.self.invariant c.self.view_is c.in-Some.ensures c.requires c.deref.ensures.value c.if-is_spare.ensures

pub invariant_of-self-then-is_spare-3 : goal.invariant_of-self-then-is_spare-3
invariant_of-self-then-is_spare-3 c =
    replaced c.self.inside.past c.args.self.now c.self.inside.held.items c.deref.result.now c.self.inside.slots c.args.place c.in-Some.copy c.args.entry.now
    c.self.invariant c.self.view_is c.in-Some.ensures c.requires c.deref.ensures.value c.if-is_spare.ensures
