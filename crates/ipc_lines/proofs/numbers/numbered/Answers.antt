use Rattle.std.proofs.Common.{◌≡◌, ◌≢◌, ℕ, ◌+◌, ◌*◌, ◌%◌, ◌≤◌, [], ◌∷◌, append_assoc, Some, ap, sym, ◌∙◌, arith, None, refl}
use Rattle.std.specs.Fmt.{decimal}
use Rattle.std.specs.List.{All}
use Rattle.std.proofs.lemmas.List.Elements.{All-weaker}
use Rattle.ipc_words.specs.ThreadId.{number_of, version_of}
use Rattle.ipc_lines.proofs.Numerals.{digits_high}
use Rattle.ipc_lines.proofs.Options.{none_not_some, some_same}
use Rattle.ipc_lines.proofs.numbers.numbered.Goals as goal
use Rattle.ipc_lines.proofs.numbers.numbered.Goals.{else-id-ne0-via-then-id-ne0+else-id, else-id-ne0-via-else-id-ne0}

no_point : (n : ℕ) → All (λ b. b ≢ 46) (decimal n)
no_point n = All-weaker (λ b. 48 ≤ b) (λ b. b ≢ 46) (λ b h e. omega arith) (decimal n) (digits_high 10 (omega arith) n)

pub returns-in_err-number-clause-only : goal.returns-in_err-number-clause-only
returns-in_err-number-clause-only c id small is e =
    absurd (c.in_err-number.ensures.only (decimal (number_of id)) (decimal (version_of id)) (no_point (number_of id)) (e ∙ append_assoc (decimal (number_of id)) (46 ∷ []) (decimal (version_of id))))

pub returns-in_err-number-2-clause-only : goal.returns-in_err-number-2-clause-only
returns-in_err-number-2-clause-only c id small is e =
    let parts = c.in_ok-number.ensures.only (decimal (number_of id)) (decimal (version_of id)) (no_point (number_of id)) (e ∙ append_assoc (decimal (number_of id)) (46 ∷ []) (decimal (version_of id))) in
    let no = c.in_err-number-2.ensures.only (number_of id) (omega arith) parts.0 in
    absurd (none_not_some None _ refl no)

pub returns-in_err-version-clause-only : goal.returns-in_err-version-clause-only
returns-in_err-version-clause-only c id small is e =
    let parts = c.in_ok-number.ensures.only (decimal (number_of id)) (decimal (version_of id)) (no_point (number_of id)) (e ∙ append_assoc (decimal (number_of id)) (46 ∷ []) (decimal (version_of id))) in
    let no = c.in_err-version.ensures.only (version_of id) (omega arith) parts.1 in
    absurd (none_not_some None _ refl no)

pub returns-then-id-clause-only : goal.returns-then-id-clause-only
returns-then-id-clause-only c id small is e =
    let parts = c.in_ok-number.ensures.only (decimal (number_of id)) (decimal (version_of id)) (no_point (number_of id)) (e ∙ append_assoc (decimal (number_of id)) (46 ∷ []) (decimal (version_of id))) in
    let number = c.in_ok-number-2.ensures.only (number_of id) (omega arith) parts.0 in
    let version = c.in_ok-version.ensures.only (version_of id) (omega arith) parts.1 in
    let n : c.in_ok-number-2.number ≡ number_of id = some_same _ _ number in
    let v : c.in_ok-version.version ≡ version_of id = some_same _ _ version in
    ap Some (omega (arith, n, v))

pub returns-else-id-ne0-clause-only : goal.returns-else-id-ne0-clause-only
returns-else-id-ne0-clause-only c id small is e =
    let parts = c.in_ok-number.ensures.only (decimal (number_of id)) (decimal (version_of id)) (no_point (number_of id)) (e ∙ append_assoc (decimal (number_of id)) (46 ∷ []) (decimal (version_of id))) in
    let number = c.in_ok-number-2.ensures.only (number_of id) (omega arith) parts.0 in
    let version = c.in_ok-version.ensures.only (version_of id) (omega arith) parts.1 in
    let n : c.in_ok-number-2.number ≡ number_of id = some_same _ _ number in
    let v : c.in_ok-version.version ≡ version_of id = some_same _ _ version in
    let same : c.from.result * 4294967296 + c.from-2.result ≡ id = omega (arith, n, v) in
    elim c.else-id-ne0.branch [
      | else-id-ne0-via-then-id-ne0+else-id w ↦ absurd (is.1 (sym same ∙ w.if-id.false))
      | else-id-ne0-via-else-id-ne0 w ↦ absurd (is.0 (ap (λ m. m % 64) (sym same) ∙ w.if-id-ne0.false))
    ]
