use Rattle.std.proofs.Common.{◌≡◌, codes, length, map, sym, ap, ◌∙◌, arith}
use Rattle.std.specs.List.{All}
use Rattle.std.proofs.lemmas.List.{length-map}
use Rattle.ipc_lines.specs.Texts.{buffer_text}
use Rattle.ipc_lines.specs.Reading.{parts_at, IsSubstring}
use Rattle.ipc_lines.proofs.High.{buffer_lacks}
use Rattle.ipc_lines.proofs.Limits.{buffers_count}
use Rattle.ipc_lines.proofs.ListTexts.{listed_found, listed_only}
use Rattle.ipc_lines.proofs.Options.{IfSome-weaker, false_not}
use Rattle.std.proofs.lemmas.Result.{IfOk-weaker}
use Rattle.ipc_lines.proofs.items.read_buffer_list.Goals as goal

pub returns-in-Some-clause-found : goal.returns-in-Some-clause-found
returns-in-Some-clause-found c =
    let parts = rw c.in-Some.is at c.in_ok-texts.ensures in
    let texts : map (λ text. text.now) c.deref.result.now ≡ parts_at 44 c.args.bytes.now = ap (map (λ text. text.now)) c.deref.ensures.value ∙ parts.0 in
    IfOk-weaker c.buffers_of.result _ _ (λ o. IfSome-weaker o _ _ (λ list e. listed_found (codes "s") 44 buffer_text c.args.bytes.now list (sym texts ∙ e))) c.buffers_of.ensures.found

pub returns-in-Some-clause-only : goal.returns-in-Some-clause-only
returns-in-Some-clause-only c list is e =
    let parts = rw c.in-Some.is at c.in_ok-texts.ensures in
    let texts : map (λ text. text.now) c.deref.result.now ≡ parts_at 44 c.args.bytes.now = ap (map (λ text. text.now)) c.deref.ensures.value ∙ parts.0 in
    let only = listed_only (codes "s") 44 buffer_text (λ parts. All IsSubstring parts) (λ parts s. buffer_lacks parts s) c.args.bytes.now list is.1 (false_not c.is_text.result c.if-is_text.false c.is_text.ensures.1) e in
    c.buffers_of.ensures.only list is (texts ∙ only)

pub returns-in-None-clause-only : goal.returns-in-None-clause-only
returns-in-None-clause-only c list is e =
    let past = rw c.in-None.is at c.in_ok-texts.ensures in
    let only = listed_only (codes "s") 44 buffer_text (λ parts. All IsSubstring parts) (λ parts s. buffer_lacks parts s) c.args.bytes.now list is.1 (false_not c.is_text.result c.if-is_text.false c.is_text.ensures.1) e in
    absurd (omega (arith, past, ap length only, length-map list buffer_text, buffers_count list is.0))
