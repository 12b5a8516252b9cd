use Rattle.std.proofs.Common.{◌≡◌, ◌∙◌, ◌+◌, ◌-◌, ◌≤◌, ap, drop, length, min, vec_len, arith}
use Rattle.std.proofs.lemmas.List.{drop_min, take_rest}
use Rattle.ipc_history.proofs.HoldingLemmas.{drop_at}
use Rattle.ipc_history.proofs.history.History.entries_from.Goals as goal

pub returns : goal.returns
returns c =
    let items = c.self.inside.entries.items in
    let whole = ap (λ h. h.held.whole_from) c.self.view_is in
    let least = c.requires in
    let ok = c.self.inside.entries.ok in
    let long : vec_len c.self.inside.entries ≡ length items = omega (arith, ok) in
    let low : c.self.inside.kept + c.self.inside.gone ≤ c.args.place = omega (arith, least, whole) in
    take_rest c.deref.result.now c.min-behind.result ∙ (rw (c.deref.ensures.value, c.min-behind.ensures, c.len.ensures) (ap (λ k. drop (min (c.args.place - c.self.inside.gone) k) items) long ∙ (drop_min (c.args.place - c.self.inside.gone) items ∙ (drop_at _ _ _ _ c.self.invariant.held c.args.place low ∙ ap (λ h. drop c.args.place h.entries) c.self.view_is))))
