use Rattle.std.proofs.Common.{◌≡◌, codes, length, map, sym, ap, ◌∙◌, arith}
use Rattle.std.proofs.lemmas.List.{length-map}
use Rattle.ipc_lines.specs.Texts.{hex_text}
use Rattle.ipc_lines.specs.Reading.{parts_at, IsWord}
use Rattle.ipc_lines.proofs.High.{lacks, hex_high}
use Rattle.ipc_lines.proofs.ListTexts.{listed_found, listed_only}
use Rattle.ipc_lines.proofs.Options.{IfSome-weaker, false_not}
use Rattle.std.proofs.lemmas.Result.{IfOk-weaker}
use Rattle.ipc_lines.proofs.items.read_words.Goals as goal

pub returns-in-Some-clause-found : goal.returns-in-Some-clause-found
returns-in-Some-clause-found c =
    let parts = rw c.in-Some.is at c.in_ok-texts.ensures in
    let texts : map (λ text. text.now) c.deref.result.now ≡ parts_at 44 c.args.bytes.now = ap (map (λ text. text.now)) c.deref.ensures.value ∙ parts.0 in
    IfOk-weaker c.words_of.result _ _ (λ o. IfSome-weaker o _ _ (λ list e. listed_found (codes "-") 44 hex_text c.args.bytes.now list.items (sym texts ∙ e))) c.words_of.ensures.found

pub returns-in-Some-clause-only : goal.returns-in-Some-clause-only
returns-in-Some-clause-only c list words fit e =
    let parts = rw c.in-Some.is at c.in_ok-texts.ensures in
    let texts : map (λ text. text.now) c.deref.result.now ≡ parts_at 44 c.args.bytes.now = ap (map (λ text. text.now)) c.deref.ensures.value ∙ parts.0 in
    let only = listed_only (codes "-") 44 hex_text IsWord (λ n w. lacks 44 48 (hex_text n) (omega arith) (hex_high n)) c.args.bytes.now list words (false_not c.is_text.result c.if-is_text.false c.is_text.ensures.1) e in
    c.words_of.ensures.only list words (texts ∙ only)

pub returns-in-None-clause-only : goal.returns-in-None-clause-only
returns-in-None-clause-only c list words fit e =
    let past = rw c.in-None.is at c.in_ok-texts.ensures in
    let only = listed_only (codes "-") 44 hex_text IsWord (λ n w. lacks 44 48 (hex_text n) (omega arith) (hex_high n)) c.args.bytes.now list words (false_not c.is_text.result c.if-is_text.false c.is_text.ensures.1) e in
    absurd (omega (arith, past, ap length only, length-map list hex_text, fit))
