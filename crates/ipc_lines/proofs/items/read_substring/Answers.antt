use Rattle.std.proofs.Common.{◌≡◌, ◌≢◌, ◌<◌, ℕ, ◌∷◌, [], append_assoc, Some, ◌∙◌, arith, None, refl}
use Rattle.std.specs.Fmt.{decimal}
use Rattle.std.specs.List.{All}
use Rattle.ipc_lines.specs.Texts.{hex_text}
use Rattle.std.proofs.lemmas.List.Elements.{All-weaker}
use Rattle.ipc_lines.proofs.Numerals.{decimal_low}
use Rattle.ipc_lines.proofs.Options.{none_not_some, some_same}
use Rattle.ipc_lines.proofs.items.read_substring.Goals as goal

no_at : (n : ℕ) → All (λ b. b ≢ 64) (decimal n)
no_at n = All-weaker (λ b. b < 58) (λ b. b ≢ 64) (λ b h e. omega arith) (decimal n) (decimal_low n)

pub returns-in_err-length-clause-only : goal.returns-in_err-length-clause-only
returns-in_err-length-clause-only c part is e =
    absurd (c.in_err-length.ensures.only (decimal part.length) (hex_text part.pointer) (no_at part.length) (e ∙ append_assoc (decimal part.length) (64 ∷ []) (hex_text part.pointer)))

pub returns-in_err-length-2-clause-only : goal.returns-in_err-length-2-clause-only
returns-in_err-length-2-clause-only c part is e =
    let parts = c.in_ok-length.ensures.only (decimal part.length) (hex_text part.pointer) (no_at part.length) (e ∙ append_assoc (decimal part.length) (64 ∷ []) (hex_text part.pointer)) in
    let other = c.in_err-length-2.ensures.only part.length is.0 parts.0 in
    absurd (none_not_some None _ refl other)

pub returns-in_err-pointer-clause-only : goal.returns-in_err-pointer-clause-only
returns-in_err-pointer-clause-only c part is e =
    let parts = c.in_ok-length.ensures.only (decimal part.length) (hex_text part.pointer) (no_at part.length) (e ∙ append_assoc (decimal part.length) (64 ∷ []) (hex_text part.pointer)) in
    let other = c.in_err-pointer.ensures.only part.pointer is.1 parts.1 in
    absurd (none_not_some None _ refl other)

pub returns-clause-only : goal.returns-clause-only
returns-clause-only c part is e =
    let parts = c.in_ok-length.ensures.only (decimal part.length) (hex_text part.pointer) (no_at part.length) (e ∙ append_assoc (decimal part.length) (64 ∷ []) (hex_text part.pointer)) in
    let length = c.in_ok-length-2.ensures.only part.length is.0 parts.0 in
    let pointer = c.in_ok-pointer.ensures.only part.pointer is.1 parts.1 in
    let length_is : c.in_ok-length-2.length ≡ part.length = some_same _ _ length in
    let pointer_is : c.in_ok-pointer.pointer ≡ part.pointer = some_same _ _ pointer in
    λ i. Some (record { length = length_is i; pointer = pointer_is i })
