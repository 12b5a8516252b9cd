use Rattle.std.proofs.Common.{◌≡◌, ◌+◌, ap, ◌∙◌, arith}
use Rattle.std.proofs.lemmas.Grind.{common_steps}
use Rattle.std.proofs.lemmas.Option.{same_Some}
use Rattle.ipc_lines.proofs.Spacing.{decimal_lacks}
use Rattle.hex.specs.Hex.{decode_of}
use Rattle.ipc_shell.proofs.WireLemmas.{spelled_feed}
use Rattle.ipc_shell.proofs.wire.commands.feed.Goals as goal

pub returns-in_default-clause-only : goal.returns-in_default-clause-only
returns-in_default-clause-only c event spelled =
    spelled_feed event c.args.rest.now (λ place bytes is s e.
    c.in_default.ensures.only _ s.digits (decimal_lacks 32 (omega arith) (place + 1)) e) spelled

pub returns-in_default-place_of-clause-only : goal.returns-in_default-place_of-clause-only
returns-in_default-place_of-clause-only c event spelled =
    spelled_feed event c.args.rest.now (λ place bytes is s e.
    let parts = c.in-Some.ensures.only _ s.digits (decimal_lacks 32 (omega arith) (place + 1)) e in
    let some = c.in_default-place_of.ensures.only place s.fits parts.0 in
    absurd (cc (some))) spelled

pub returns-then-is_empty-clause-only : goal.returns-then-is_empty-clause-only
returns-then-is_empty-clause-only c event spelled =
    spelled_feed event c.args.rest.now (λ place bytes is s e.
    let parts = c.in-Some.ensures.only _ s.digits (decimal_lacks 32 (omega arith) (place + 1)) e in
    let some = s.some in
    let same = parts.1 in
    grind (arith, common_steps)) spelled

pub returns-in-Some-2-clause-only : goal.returns-in-Some-2-clause-only
returns-in-Some-2-clause-only c event spelled =
    spelled_feed event c.args.rest.now (λ place bytes is s e.
    let parts = c.in-Some.ensures.only _ s.digits (decimal_lacks 32 (omega arith) (place + 1)) e in
    let at : c.in-Some-place_of.place ≡ place = same_Some _ _ (c.in-Some-place_of.ensures.only place s.fits parts.0) in
    let got : c.in-Some-2.bytes.items ≡ bytes = rw c.in-Some-2.is at (c.in_ok-bytes.ensures.only bytes (ap decode_of parts.1 ∙ s.bytes_are)) in
    cc (at, got, is)) spelled

pub returns-in-None-clause-only : goal.returns-in-None-clause-only
returns-in-None-clause-only c event spelled =
    spelled_feed event c.args.rest.now (λ place bytes is s e.
    let parts = c.in-Some.ensures.only _ s.digits (decimal_lacks 32 (omega arith) (place + 1)) e in
    rw c.in-None.is at (c.in_ok-bytes.ensures.only bytes (ap decode_of parts.1 ∙ s.bytes_are))) spelled
