use Rattle.std.proofs.Common.{refl, ◌≡◌, ◌∙◌, sym, ◌||◌, arith}
use Rattle.ipc_history.specs.Keeping.{has_moment}
use Rattle.ipc_history.proofs.SweepLemmas.{at_moved, at_place_moved, at_place_skipped, at_skipped, gathered_none, no_place_gathered, other_moved, other_place_moved, other_place_skipped, other_skipped}
use Rattle.ipc_history.proofs.keeping.gather.Goals as goal
use Rattle.ipc_history.proofs.keeping.gather.Goals.{then-is_wanted-2, else-is_wanted-2}

pub loop-place-init : goal.loop-place-init
loop-place-init g c =
    let ok = c.args.entries.now.ok in
    let places_ok = c.args.places.now.ok in
    let few = c.requires.few in
    let beside = c.requires.beside in
    record {
      gathered = gathered_none _ _ _ _ (omega (arith, ok, few)) c.requires.wanted;
      placed = no_place_gathered _ _ _ _ (omega (arith, ok, few)) (omega (arith, places_ok, beside));
      len = refl;
      capacity = refl;
      places_len = refl;
      places_capacity = refl;
    }

pub loop-place-preserved-then-is_wanted : goal.loop-place-preserved-then-is_wanted
loop-place-preserved-then-is_wanted g c =
    let loop = c.loop-place in
    let ok = c.args.entries.now.ok in
    let places_ok = c.args.places.now.ok in
    let few = c.requires.few in
    let beside = c.requires.beside in
    record {
      gathered = at_moved _ _ loop.entries.items c.args.behind loop.place loop.first loop.is_wanted c.loop-place-test.true (omega (arith, ok, few)) loop.invariant.gathered c.index-entry.result.now c.index-entry.ensures
          c.swap.new.self.items (let ok = c.swap.new.self.ok in let was = loop.entries.ok in omega (arith, ok, was, c.swap.ensures.len)) c.swap.ensures.by_index (sym c.is_at.ensures ∙ c.if-is_at.true) c.if-is_wanted.true;
      placed = at_place_moved _ _ loop.entries.items c.args.behind loop.place loop.first loop.is_wanted c.loop-place-test.true (omega (arith, ok, few)) loop.invariant.gathered c.index-entry.result.now c.index-entry.ensures
          c.args.places.now.items loop.places.items (omega (arith, places_ok, beside)) loop.invariant.placed
          c.swap-then-is_wanted.new.self.items (let ok = c.swap-then-is_wanted.new.self.ok in let was = loop.places.ok in omega (arith, ok, was, c.swap-then-is_wanted.ensures.len)) c.swap-then-is_wanted.ensures.by_index (sym c.is_at.ensures ∙ c.if-is_at.true) c.if-is_wanted.true;
      len = c.swap.ensures.len ∙ loop.invariant.len;
      capacity = c.swap.ensures.capacity ∙ loop.invariant.capacity;
      places_len = c.swap-then-is_wanted.ensures.len ∙ loop.invariant.places_len;
      places_capacity = c.swap-then-is_wanted.ensures.capacity ∙ loop.invariant.places_capacity;
    }

pub loop-place-preserved-then-keeps : goal.loop-place-preserved-then-keeps
loop-place-preserved-then-keeps g c =
    let loop = c.loop-place in
    let ok = c.args.entries.now.ok in
    let places_ok = c.args.places.now.ok in
    let few = c.requires.few in
    let beside = c.requires.beside in
    let want : c.if-is_wanted-2.is_wanted ≡ (loop.is_wanted || has_moment c.index-entry.result.now) = elim c.if-is_wanted-2.branch [
      | then-is_wanted-2 w ↦ w.is_wanted-is ∙ rw w.if-is_wanted-2.true refl
      | else-is_wanted-2 w ↦ w.is_wanted-is ∙ (w.has_moment-is_wanted.ensures ∙ rw w.if-is_wanted-2.false refl)
    ] in
    record {
      gathered = other_moved _ _ loop.entries.items c.args.behind loop.place loop.first loop.is_wanted c.loop-place-test.true (omega (arith, ok, few)) loop.invariant.gathered c.index-entry.result.now c.index-entry.ensures
          c.swap-then-keeps.new.self.items (let ok = c.swap-then-keeps.new.self.ok in let was = loop.entries.ok in omega (arith, ok, was, c.swap-then-keeps.ensures.len)) c.swap-then-keeps.ensures.by_index (sym c.is_at.ensures ∙ c.if-is_at.false) (sym c.keeps.ensures ∙ c.if-keeps.true) c.if-is_wanted-2.is_wanted want;
      placed = other_place_moved _ _ loop.entries.items c.args.behind loop.place loop.first loop.is_wanted c.loop-place-test.true (omega (arith, ok, few)) loop.invariant.gathered c.index-entry.result.now c.index-entry.ensures
          c.args.places.now.items loop.places.items (omega (arith, places_ok, beside)) loop.invariant.placed
          c.swap-then-keeps-2.new.self.items (let ok = c.swap-then-keeps-2.new.self.ok in let was = loop.places.ok in omega (arith, ok, was, c.swap-then-keeps-2.ensures.len)) c.swap-then-keeps-2.ensures.by_index (sym c.is_at.ensures ∙ c.if-is_at.false) (sym c.keeps.ensures ∙ c.if-keeps.true);
      len = c.swap-then-keeps.ensures.len ∙ loop.invariant.len;
      capacity = c.swap-then-keeps.ensures.capacity ∙ loop.invariant.capacity;
      places_len = c.swap-then-keeps-2.ensures.len ∙ loop.invariant.places_len;
      places_capacity = c.swap-then-keeps-2.ensures.capacity ∙ loop.invariant.places_capacity;
    }

pub loop-place-preserved-else-is_wanted : goal.loop-place-preserved-else-is_wanted
loop-place-preserved-else-is_wanted g c =
    let loop = c.loop-place in
    let ok = c.args.entries.now.ok in
    let places_ok = c.args.places.now.ok in
    let few = c.requires.few in
    let beside = c.requires.beside in
    record {
      gathered = at_skipped _ _ loop.entries.items c.args.behind loop.place loop.first loop.is_wanted c.loop-place-test.true (omega (arith, ok, few)) loop.invariant.gathered c.index-entry.result.now c.index-entry.ensures
          (sym c.is_at.ensures ∙ c.if-is_at.true) c.if-is_wanted.false;
      placed = at_place_skipped _ _ loop.entries.items c.args.behind loop.place loop.first loop.is_wanted c.loop-place-test.true (omega (arith, ok, few)) loop.invariant.gathered c.index-entry.result.now c.index-entry.ensures
          c.args.places.now.items loop.places.items (omega (arith, places_ok, beside)) loop.invariant.placed (sym c.is_at.ensures ∙ c.if-is_at.true) c.if-is_wanted.false;
      len = loop.invariant.len;
      capacity = loop.invariant.capacity;
      places_len = loop.invariant.places_len;
      places_capacity = loop.invariant.places_capacity;
    }

pub loop-place-preserved : goal.loop-place-preserved
loop-place-preserved g c =
    let loop = c.loop-place in
    let ok = c.args.entries.now.ok in
    let places_ok = c.args.places.now.ok in
    let few = c.requires.few in
    let beside = c.requires.beside in
    record {
      gathered = other_skipped _ _ loop.entries.items c.args.behind loop.place loop.first loop.is_wanted c.loop-place-test.true (omega (arith, ok, few)) loop.invariant.gathered c.index-entry.result.now c.index-entry.ensures
          (sym c.is_at.ensures ∙ c.if-is_at.false) (sym c.keeps.ensures ∙ c.if-keeps.false);
      placed = other_place_skipped _ _ loop.entries.items c.args.behind loop.place loop.first loop.is_wanted c.loop-place-test.true (omega (arith, ok, few)) loop.invariant.gathered c.index-entry.result.now c.index-entry.ensures
          c.args.places.now.items loop.places.items (omega (arith, places_ok, beside)) loop.invariant.placed (sym c.is_at.ensures ∙ c.if-is_at.false) (sym c.keeps.ensures ∙ c.if-keeps.false);
      len = loop.invariant.len;
      capacity = loop.invariant.capacity;
      places_len = loop.invariant.places_len;
      places_capacity = loop.invariant.places_capacity;
    }
