use Rattle.std.proofs.Common.{◌≡◌, ◌∷◌, [], ◌++◌, ◌+◌, map, ap, sym, subst, ◌∙◌}
use Rattle.ipc_items.specs.Buffers.{AreBuffers}
use Rattle.ipc_lines.specs.Texts.{buffer_text}
use Rattle.ipc_lines.proofs.Limits.{buffers_take, buffer_rows, IsRow}
use Rattle.ipc_lines.proofs.ListTexts.{item_at, found_more}
use Rattle.ipc_lines.proofs.Options.{none_of, is_some_and}
use Rattle.ipc_lines.proofs.items.buffers_of.Goals as goal

pub returns-in_default-clause-only : goal.returns-in_default-clause-only
returns-in_default-clause-only c list is e =
    let at = item_at buffer_text IsRow c.args.texts.now list c.loop-text.text-index e (buffer_rows list is) c.loop-text-test.true in
    absurd (none_of _ c.in_ok-parts.field-0 c.in_default.is (c.in_ok-parts.ensures.only at.item at.holds.0 at.holds.1 at.holds.2 at.text_is))

pub returns-then-not-branch-clause-only : goal.returns-then-not-branch-clause-only
returns-then-not-branch-clause-only c list is e =
    let at = item_at buffer_text IsRow c.args.texts.now list c.loop-text.text-index e (buffer_rows list is) c.loop-text-test.true in
    let value = is_some_and _ c.in_ok-parts.field-0 c.in-Some.parts c.in-Some.is (c.in_ok-parts.ensures.only at.item at.holds.0 at.holds.1 at.holds.2 at.text_is) in
    let pushed : c.deref.result.now ≡ at.item = c.deref.ensures.value ∙ value in
    let all = (λ j. c.loop-text.invariant.only list is e j ++ pushed j ∷ []) ∙ at.take_is in
    let fits = c.in_ok-push_buffer.ensures.within.1 (subst AreBuffers (sym all) (buffers_take (c.loop-text.text-index + 1) list is.0)) in
    let test = c.if-not-branch.true in
    absurd (cc (fits, test))

pub loop-text-preserved : goal.loop-text-preserved
loop-text-preserved c =
    let new = rw c.if-not-branch.false at c.in_ok-push_buffer.ensures.ok in
    record {
      found =
          let read = rw c.in-Some.is at c.in_ok-parts.ensures.found in
          found_more buffer_text c.args.texts.now c.loop-text.buffers c.loop-text.text-index c.in-Some.parts.items c.loop-text.invariant.found c.loop-text-test.true read
          ∙ ap (map buffer_text) ((λ j. c.loop-text.buffers ++ sym c.deref.ensures.value j ∷ []) ∙ sym new);
      only = λ list is e.
          let at = item_at buffer_text IsRow c.args.texts.now list c.loop-text.text-index e (buffer_rows list is) c.loop-text-test.true in
          let value = is_some_and _ c.in_ok-parts.field-0 c.in-Some.parts c.in-Some.is (c.in_ok-parts.ensures.only at.item at.holds.0 at.holds.1 at.holds.2 at.text_is) in
          let pushed : c.deref.result.now ≡ at.item = c.deref.ensures.value ∙ value in
          new ∙ (λ j. c.loop-text.invariant.only list is e j ++ pushed j ∷ []) ∙ at.take_is;
    }
