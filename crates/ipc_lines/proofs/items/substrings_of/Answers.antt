use Rattle.std.proofs.Common.{◌≡◌, ◌∷◌, [], ◌++◌, ◌∙◌, None, map, ap, refl, sym}
use Rattle.ipc_lines.specs.Texts.{substring_text}
use Rattle.ipc_lines.specs.Reading.{IsSubstring}
use Rattle.ipc_lines.proofs.ListTexts.{found_more, item_at}
use Rattle.ipc_lines.proofs.Options.{none_not_some, some_same}
use Rattle.ipc_lines.proofs.items.substrings_of.Goals as goal

pub returns-in_default-clause-only : goal.returns-in_default-clause-only
returns-in_default-clause-only c list parts e =
    let at = item_at substring_text IsSubstring c.args.texts.now list c.loop-text.text-index e parts c.loop-text-test.true in
    let other = c.in_default.ensures.only at.item at.holds at.text_is in
    absurd (none_not_some None _ refl other)

pub loop-text-preserved : goal.loop-text-preserved
loop-text-preserved c = record {
  found =
      found_more substring_text c.args.texts.now c.loop-text.parts.items c.loop-text.text-index c.in-Some.part c.loop-text.invariant.found c.loop-text-test.true c.in-Some.ensures.found
      ∙ ap (map substring_text) (sym c.in_ok-push.ensures.items);
  only = λ list parts e.
      let at = item_at substring_text IsSubstring c.args.texts.now list c.loop-text.text-index e parts c.loop-text-test.true in
      let same = c.in-Some.ensures.only at.item at.holds at.text_is in
      let value : c.in-Some.part ≡ at.item = some_same _ _ same in
      let push = c.in_ok-push.ensures.items in
      push ∙ (λ i. c.loop-text.invariant.only list parts e i ++ value i ∷ []) ∙ at.take_is;
}
