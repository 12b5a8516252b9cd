use Rattle.std.proofs.Common.{◌-◌, ◌∙◌, ap, subst, Ok, Err, arith}
use Rattle.std.specs.List.{slice_get}
use Rattle.std.specs.List.Sorted.{IsBinarySearchResult}
use Rattle.std.specs.Ordering.{nat_cmp}
use Rattle.std.proofs.lemmas.List.Sorted.{searched}
use Rattle.ipc_history.specs.Holding.{held_entry}
use Rattle.ipc_history.proofs.PlaceLemmas.{entry_behind, entry_found, entry_missing, got_item, rise_sorted}
use Rattle.ipc_history.proofs.history.History.entry.Goals as goal

pub returns-then-place-whole_from : goal.returns-then-place-whole_from
returns-then-place-whole_from c =
    let from = c.whole_from.ensures in
    let view = ap (λ h. h.held.whole_from) c.self.view_is in
    let low = c.if-place-whole_from.true in
    got_item _ _ _ c.get.ensures.lookup.3 ∙ (ap (λ l. slice_get l (c.args.place - c.self.inside.gone)) c.deref.ensures.value ∙ (entry_behind _ _ _ _ _ _ _ _ c.self.invariant.held c.self.invariant.placed c.self.inside.mark c.args.place (omega (arith, from, view, low)) ∙ ap (λ h. held_entry h.held h.entries c.args.place) c.self.view_is))

pub returns-in-Ok : goal.returns-in-Ok
returns-in-Ok c =
    let found = searched c.self.inside.places.items c.args.place (Ok c.in-Ok.at) (subst (λ l. IsBinarySearchResult (λ y. nat_cmp y c.args.place) l (Ok c.in-Ok.at)) c.deref-2.ensures.value c.in-Ok.ensures.position) (rise_sorted _ _ _ c.self.invariant.placed.rise) in
    got_item _ _ _ c.get-in-Ok.ensures.lookup.3 ∙ (ap (λ l. slice_get l c.in-Ok.at) c.deref-in-Ok.ensures.value ∙ (entry_found _ _ _ _ _ _ _ _ c.self.invariant.held c.self.invariant.placed c.self.inside.mark c.args.place c.in-Ok.at found.0 found.1 ∙ ap (λ h. held_entry h.held h.entries c.args.place) c.self.view_is))

pub returns-in-Err : goal.returns-in-Err
returns-in-Err c =
    let from = c.whole_from.ensures in
    let view = ap (λ h. h.held.whole_from) c.self.view_is in
    let high = c.if-place-whole_from.false in
    let missing = searched c.self.inside.places.items c.args.place (Err c.in-Err.field-0) (subst (λ l. IsBinarySearchResult (λ y. nat_cmp y c.args.place) l (Err c.in-Err.field-0)) c.deref-2.ensures.value c.in-Err.ensures.position) (rise_sorted _ _ _ c.self.invariant.placed.rise) in
    entry_missing _ _ _ _ _ _ _ _ c.self.invariant.held c.self.invariant.placed c.self.inside.mark c.args.place c.in-Err.field-0 (omega (arith, from, view, high)) missing.1 missing.2 ∙ ap (λ h. held_entry h.held h.entries c.args.place) c.self.view_is
