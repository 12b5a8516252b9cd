use Rattle.std.proofs.Common.{◌≡◌, ◌∷◌, [], ◌++◌, ◌+◌, map, ap, sym, subst, ◌∙◌}
use Rattle.hex.specs.Hex.{IsBytes}
use Rattle.ipc_items.specs.Strings.{AreStrings}
use Rattle.ipc_lines.specs.Texts.{bytes_text}
use Rattle.ipc_lines.proofs.Limits.{strings_take}
use Rattle.ipc_lines.proofs.ListTexts.{item_at, found_more}
use Rattle.ipc_lines.proofs.Options.{none_of, is_some_and}
use Rattle.ipc_lines.proofs.items.strings_of.Goals as goal

pub returns-in_default-clause-only : goal.returns-in_default-clause-only
returns-in_default-clause-only c list is e =
    let at = item_at bytes_text IsBytes c.args.texts.now list c.loop-text.text-index e is.1 c.loop-text-test.true in
    absurd (none_of _ c.in_ok-string.field-0 c.in_default.is (c.in_ok-string.ensures.only at.item at.holds at.text_is))

pub returns-then-not-branch-clause-only : goal.returns-then-not-branch-clause-only
returns-then-not-branch-clause-only c list is e =
    let at = item_at bytes_text IsBytes c.args.texts.now list c.loop-text.text-index e is.1 c.loop-text-test.true in
    let value = is_some_and _ c.in_ok-string.field-0 c.in-Some.string c.in-Some.is (c.in_ok-string.ensures.only at.item at.holds at.text_is) in
    let pushed : c.deref.result.now ≡ at.item = c.deref.ensures.value ∙ value in
    let all = (λ j. c.loop-text.invariant.only list is e j ++ pushed j ∷ []) ∙ at.take_is in
    let fits = c.in_ok-push.ensures.within.1 (subst AreStrings (sym all) (strings_take (c.loop-text.text-index + 1) list is.0)) in
    let test = c.if-not-branch.true in
    absurd (cc (fits, test))

pub loop-text-preserved : goal.loop-text-preserved
loop-text-preserved c =
    let new = rw c.if-not-branch.false at c.in_ok-push.ensures.ok in
    record {
      found =
          let read = rw c.in-Some.is at c.in_ok-string.ensures.found in
          found_more bytes_text c.args.texts.now c.loop-text.strings c.loop-text.text-index c.in-Some.string.items c.loop-text.invariant.found c.loop-text-test.true read
          ∙ ap (map bytes_text) ((λ j. c.loop-text.strings ++ sym c.deref.ensures.value j ∷ []) ∙ sym new);
      only = λ list is e.
          let at = item_at bytes_text IsBytes c.args.texts.now list c.loop-text.text-index e is.1 c.loop-text-test.true in
          let value = is_some_and _ c.in_ok-string.field-0 c.in-Some.string c.in-Some.is (c.in_ok-string.ensures.only at.item at.holds at.text_is) in
          let pushed : c.deref.result.now ≡ at.item = c.deref.ensures.value ∙ value in
          new ∙ (λ j. c.loop-text.invariant.only list is e j ++ pushed j ∷ []) ∙ at.take_is;
    }
