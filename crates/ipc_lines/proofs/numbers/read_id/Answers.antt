use Rattle.std.proofs.Common.{◌≡◌, ap, sym, ◌∙◌, ◌%◌, None, refl}
use Rattle.ipc_words.specs.ThreadId.{number_of}
use Rattle.ipc_lines.proofs.Ids.{is_nil, is_any, is_local, is_plain, is_numbered, id_form, hex_not_numbered}
use Rattle.ipc_lines.proofs.Options.{none_not_some}
use Rattle.ipc_lines.proofs.numbers.read_id.Goals as goal
use Rattle.ipc_lines.proofs.numbers.read_id.Goals.{else-id-eq0-via-then-id-eq0+else-not-has_name, else-id-eq0-via-else-id-eq0}
use Rattle.ipc_lines.specs.Reading.{is_named}

pub returns-then-not-has_name-clause-only : goal.returns-then-not-has_name-clause-only
returns-then-not-has_name-clause-only c id small e = elim (id_form id) [
  | is_nil p q ↦ let no = c.in_default.ensures.nil.1 (e ∙ q) in absurd (none_not_some None _ refl no)
  | is_any p q ↦ let no = c.in_default.ensures.any.1 (e ∙ q) in absurd (none_not_some None _ refl no)
  | is_local p q ↦ let no = c.in_default.ensures.local.1 (e ∙ q) in absurd (none_not_some None _ refl no)
  | is_plain p q r ↦ let is = c.in-Some-read_hex.ensures.only id small (e ∙ r) in cc is
  | is_numbered p q ↦ absurd (hex_not_numbered c.in-Some-read_hex.id (number_of id) _ (sym c.in-Some-read_hex.ensures.found ∙ e ∙ q))
]

pub returns-else-id-eq0-clause-only : goal.returns-else-id-eq0-clause-only
returns-else-id-eq0-clause-only c id small e = elim (id_form id) [
  | is_nil p q ↦ let no = c.in_default.ensures.nil.1 (e ∙ q) in absurd (none_not_some None _ refl no)
  | is_any p q ↦ let no = c.in_default.ensures.any.1 (e ∙ q) in absurd (none_not_some None _ refl no)
  | is_local p q ↦ let no = c.in_default.ensures.local.1 (e ∙ q) in absurd (none_not_some None _ refl no)
  | is_plain p q r ↦
      let is = c.in-Some-read_hex.ensures.only id small (e ∙ r) in
      let same : c.in-Some-read_hex.id ≡ id = cc is in
      elim c.else-id-eq0.branch [
        | else-id-eq0-via-then-id-eq0+else-not-has_name w ↦
            let named : is_named id ≡ is_named c.in-Some-read_hex.id = ap is_named (sym same) in
            let answer = w.has_name.ensures in
            let test = w.if-not-has_name.false in
            absurd (cc (p, answer, test))
        | else-id-eq0-via-else-id-eq0 w ↦ absurd (w.if-id-eq0.false (ap (λ m. m % 64) same ∙ q))
      ]
  | is_numbered p q ↦ absurd (hex_not_numbered c.in-Some-read_hex.id (number_of id) _ (sym c.in-Some-read_hex.ensures.found ∙ e ∙ q))
]
