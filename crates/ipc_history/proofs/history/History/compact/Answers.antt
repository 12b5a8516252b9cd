use Rattle.std.proofs.Common.{◌≡◌, ◌∙◌, ◌+◌, ◌-◌, ◌++◌, ap, ap₂, sym, drop, take, length, arith}
use Rattle.ipc_history.specs.Holding.{reached}
use Rattle.ipc_history.specs.HistoryParts.{HistoryParts}
use Rattle.std.specs.List.{range_with_len}
use Rattle.ipc_history.specs.Keeping.{kept_ahead, places_ahead}
use Rattle.ipc_history.proofs.HoldingLemmas.{drop_at, held_fields, reached_least, reached_most, still_held, take_at}
use Rattle.ipc_history.proofs.PlaceLemmas.{placed_ahead}
use Rattle.ipc_history.proofs.history.History.compact.Goals as goal

pub invariant_of-self : goal.invariant_of-self
invariant_of-self g c =
    let past = c.self.inside.past in
    let same : past ≡ c.args.self.now.entries = ap (λ h. h.entries) c.self.view_is in
    let size = c.self.invariant.held.size in
    let within = c.self.invariant.held.within in
    let view : HistoryParts = record { entries = past; held = record { front = take c.self.inside.kept c.self.inside.entries.items; places = c.self.inside.places.items; whole_from = c.self.inside.kept + c.self.inside.gone; mark = c.self.inside.mark }; room = c.self.inside.room + c.self.inside.gone } in
    let least = reached_least view c.args.upto (omega (arith, size, within)) in
    let most = reached_most view c.args.upto (omega (arith, size, within)) in
    let at : c.reached-reached.result ≡ reached c.args.upto view = c.reached-reached.ensures ∙ ap (reached c.args.upto) (sym c.self.view_is) in
    let ok = c.self.inside.entries.ok in
    let ok2 = c.keep_before-kept.new.entries.ok in
    let long = c.keep_before-kept.ensures.len in
    let few = c.requires.few in
    let places = c.keep_before-kept.ensures.places ∙ ap (λ l. places_ahead (g.K.Keeps.test c.args.keeps.now) (take (c.reached-reached.result - c.self.inside.gone) c.self.inside.entries.items) l (drop (c.reached-reached.result - c.self.inside.gone) c.self.inside.entries.items)) c.number.ensures.items in
    record {
      held = still_held _ _ _ _ c.self.invariant.held c.keep_before-kept.new.entries.items (g.K.Keeps.test c.args.keeps.now) c.reached-reached.result c.keep_before-kept.result
          (omega (arith, at, least)) (omega (arith, at, most)) (omega (arith, few, ap length same)) (λ n e o inside h. c.requires.called n e (rw (sym same) o) (rw (sym same) inside) h)
          c.keep_before-kept.ensures.few c.keep_before-kept.ensures.kept c.keep_before-kept.ensures.rest (omega (arith, long, ok, ok2));
      placed = rw (c.keep_before-kept.ensures.capacity, c.keep_before-kept.ensures.places_capacity, c.number.ensures.capacity) (placed_ahead _ _ _ _ _ _ _ _ c.self.invariant.held c.self.invariant.placed c.keep_before-kept.new.entries.items c.keep_before-kept.new.places.items (g.K.Keeps.test c.args.keeps.now) c.reached-reached.result c.keep_before-kept.result
          (omega (arith, at, least)) (omega (arith, at, most)) c.keep_before-kept.ensures.few c.keep_before-kept.ensures.kept places (omega (arith, long, ok, ok2)));
    }

pub returns-clause-held : goal.returns-clause-held
returns-clause-held g c =
    let size = c.self.invariant.held.size in
    let within = c.self.invariant.held.within in
    let view : HistoryParts = record { entries = c.self.inside.past; held = record { front = take c.self.inside.kept c.self.inside.entries.items; places = c.self.inside.places.items; whole_from = c.self.inside.kept + c.self.inside.gone; mark = c.self.inside.mark }; room = c.self.inside.room + c.self.inside.gone } in
    let least = reached_least view c.args.upto (omega (arith, size, within)) in
    let at : c.reached-reached.result ≡ reached c.args.upto view = c.reached-reached.ensures ∙ ap (reached c.args.upto) (sym c.self.view_is) in
    let less = c.keep_before-kept.ensures.few in
    let before = take_at _ _ _ _ c.self.invariant.held c.reached-reached.result (omega (arith, at, least)) ∙ ap (λ k. take c.self.inside.kept c.self.inside.entries.items ++ take (k - (c.self.inside.kept + c.self.inside.gone)) (drop (c.self.inside.kept + c.self.inside.gone) c.self.inside.past)) at in
    let after = drop_at _ _ _ _ c.self.invariant.held c.reached-reached.result (omega (arith, at, least)) ∙ ap (λ k. drop k c.self.inside.past) at in
    let front = c.keep_before-kept.ensures.kept ∙ ap₂ (kept_ahead (g.K.Keeps.test c.args.keeps.now)) before after in
    let numbered = c.number.ensures.items ∙ ap (λ k. c.self.inside.places.items ++ range_with_len (c.self.inside.kept + c.self.inside.gone) (k - (c.self.inside.kept + c.self.inside.gone))) at in
    let places = c.keep_before-kept.ensures.places ∙ (λ i. places_ahead (g.K.Keeps.test c.args.keeps.now) (before i) (numbered i) (after i)) in
    rw (← c.self.view_is) (held_fields _ _ _ _ _ _ _ front places (omega (arith, at, least, less)))
