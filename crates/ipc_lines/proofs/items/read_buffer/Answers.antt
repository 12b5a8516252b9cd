use Rattle.std.proofs.Common.{◌≡◌, [], length, map, sym, ap, ◌∙◌, arith}
use Rattle.std.proofs.lemmas.List.{length-map}
use Rattle.ipc_lines.specs.Texts.{substring_text}
use Rattle.ipc_lines.specs.Reading.{parts_at, IsSubstring}
use Rattle.ipc_lines.proofs.High.{lacks, substring_high}
use Rattle.ipc_lines.proofs.Limits.{buffer_not_nil}
use Rattle.ipc_lines.proofs.ListTexts.{listed_found, listed_only}
use Rattle.ipc_lines.proofs.Options.{IfSome-weaker}
use Rattle.std.proofs.lemmas.Result.{IfOk-weaker}
use Rattle.ipc_lines.proofs.items.read_buffer.Goals as goal

pub returns-in-Some-clause-found : goal.returns-in-Some-clause-found
returns-in-Some-clause-found c =
    let parts = rw c.in-Some.is at c.in_ok-texts.ensures in
    let texts : map (λ text. text.now) c.deref.result.now ≡ parts_at 43 c.args.text.now = ap (map (λ text. text.now)) c.deref.ensures.value ∙ parts.0 in
    IfOk-weaker c.substrings_of.result _ _ (λ o. IfSome-weaker o _ _ (λ list e. listed_found ([]) 43 substring_text c.args.text.now list.items (sym texts ∙ e))) c.substrings_of.ensures.found

pub returns-in-Some-clause-only : goal.returns-in-Some-clause-only
returns-in-Some-clause-only c list parts_are some fit e =
    let parts = rw c.in-Some.is at c.in_ok-texts.ensures in
    let texts : map (λ text. text.now) c.deref.result.now ≡ parts_at 43 c.args.text.now = ap (map (λ text. text.now)) c.deref.ensures.value ∙ parts.0 in
    let only = listed_only ([]) 43 substring_text IsSubstring (λ part s. lacks 43 48 (substring_text part) (omega arith) (substring_high part)) c.args.text.now list parts_are (λ z. buffer_not_nil list some (sym e ∙ z)) e in
    c.substrings_of.ensures.only list parts_are (texts ∙ only)

pub returns-in-None-clause-only : goal.returns-in-None-clause-only
returns-in-None-clause-only c list parts_are some fit e =
    let past = rw c.in-None.is at c.in_ok-texts.ensures in
    let only = listed_only ([]) 43 substring_text IsSubstring (λ part s. lacks 43 48 (substring_text part) (omega arith) (substring_high part)) c.args.text.now list parts_are (λ z. buffer_not_nil list some (sym e ∙ z)) e in
    absurd (omega (arith, past, ap length only, length-map list substring_text, fit))
