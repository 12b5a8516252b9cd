use Rattle.std.proofs.Common.{ap, sym, ◌∙◌, ◌≡◌, ◌∷◌, true, ⊎_elim}
use Rattle.std.specs.Char.{is_ascii_uppercase}
use Rattle.std.specs.List.{list_any}
use Rattle.hex.specs.Hex.{encode_lower, decode_of}
use Rattle.ipc_lines.proofs.HexNumerals.{decode_lower, encode_no_upper}
use Rattle.hex.proofs.HexLemmas.{decode_of-encode_lower, decode_of-same}
use Rattle.ipc_lines.proofs.Options.{ok_not_err}
use Rattle.ipc_lines.proofs.items.read_bytes.Goals as goal

pub returns-in-Ok-clause-found : goal.returns-in-Ok-clause-found
returns-in-Ok-clause-found c =
    let text = c.in-Some.ensures.found in
    let digits = decode_lower c.in-Some.digits.now c.in-Ok.bytes.items c.in-Ok.ensures.ok (sym c.if-has_uppercase.ensures) in
    text ∙ ap (λ xs. 120 ∷ xs) digits

pub returns-then-has_uppercase-clause-only : goal.returns-then-has_uppercase-clause-only
returns-then-has_uppercase-clause-only c list bytes e =
    let digits = c.in-Some.ensures.only (encode_lower list) e in
    let test : list_any (λ c. is_ascii_uppercase c) c.in-Some.digits.now ≡ true = sym c.has_uppercase.ensures ∙ c.if-has_uppercase.true in
    let none = ap (list_any (λ c. is_ascii_uppercase c)) digits ∙ encode_no_upper list bytes in
    absurd (cc (test, none))

pub returns-in-Ok-clause-only : goal.returns-in-Ok-clause-only
returns-in-Ok-clause-only c list bytes e =
    let digits = c.in-Some.ensures.only (encode_lower list) e in
    decode_of-same c.in-Some.digits.now c.in-Ok.bytes.items list c.in-Ok.ensures.ok (rw digits (decode_of-encode_lower list bytes))

pub returns-in_default-error-clause-only : goal.returns-in_default-error-clause-only
returns-in_default-error-clause-only c list bytes e =
    let digits = c.in-Some.ensures.only (encode_lower list) e in
    let read = ap decode_of digits ∙ decode_of-encode_lower list bytes in
    ⊎_elim c.in_default-error.not-OutOfMemory (λ d. ok_not_err (decode_of c.in-Some.digits.now) list c.in-Err.error read d) c.in-Err.ensures.err
