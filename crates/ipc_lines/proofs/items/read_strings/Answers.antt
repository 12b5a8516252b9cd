use Rattle.std.proofs.Common.{◌≡◌, codes, length, map, sym, ap, ◌∙◌, arith}
use Rattle.std.proofs.lemmas.List.{length-map}
use Rattle.hex.specs.Hex.{IsBytes}
use Rattle.ipc_lines.specs.Texts.{bytes_text}
use Rattle.ipc_lines.specs.Reading.{parts_at}
use Rattle.ipc_lines.proofs.High.{lacks, bytes_high}
use Rattle.ipc_lines.proofs.ListTexts.{listed_found, listed_only}
use Rattle.ipc_lines.proofs.Options.{IfSome-weaker, false_not}
use Rattle.std.proofs.lemmas.Result.{IfOk-weaker}
use Rattle.ipc_lines.proofs.items.read_strings.Goals as goal

pub returns-in-Some-clause-found : goal.returns-in-Some-clause-found
returns-in-Some-clause-found c =
    let parts = rw c.in-Some.is at c.in_ok-texts.ensures in
    let texts : map (λ text. text.now) c.deref.result.now ≡ parts_at 44 c.args.bytes.now = ap (map (λ text. text.now)) c.deref.ensures.value ∙ parts.0 in
    IfOk-weaker c.strings_of.result _ _ (λ o. IfSome-weaker o _ _ (λ list e. listed_found (codes "-") 44 bytes_text c.args.bytes.now list (sym texts ∙ e))) c.strings_of.ensures.found

pub returns-in-Some-clause-only : goal.returns-in-Some-clause-only
returns-in-Some-clause-only c list is e =
    let parts = rw c.in-Some.is at c.in_ok-texts.ensures in
    let texts : map (λ text. text.now) c.deref.result.now ≡ parts_at 44 c.args.bytes.now = ap (map (λ text. text.now)) c.deref.ensures.value ∙ parts.0 in
    let only = listed_only (codes "-") 44 bytes_text IsBytes (λ xs b. lacks 44 48 (bytes_text xs) (omega arith) (bytes_high xs b)) c.args.bytes.now list is.1 (false_not c.is_text.result c.if-is_text.false c.is_text.ensures.1) e in
    c.strings_of.ensures.only list is (texts ∙ only)

pub returns-in-None-clause-only : goal.returns-in-None-clause-only
returns-in-None-clause-only c list is e =
    let past = rw c.in-None.is at c.in_ok-texts.ensures in
    let only = listed_only (codes "-") 44 bytes_text IsBytes (λ xs b. lacks 44 48 (bytes_text xs) (omega arith) (bytes_high xs b)) c.args.bytes.now list is.1 (false_not c.is_text.result c.if-is_text.false c.is_text.ensures.1) e in
    absurd (omega (arith, past, ap length only, length-map list bytes_text, is.0.0))
