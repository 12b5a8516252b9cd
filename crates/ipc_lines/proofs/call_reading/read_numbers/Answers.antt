use Rattle.std.proofs.Common.{◌≡◌, [], ◌∷◌, Some, ap, sym, ◌∙◌, None, refl}
use Rattle.ipc_lines.specs.Texts.{hex_text}
use Rattle.ipc_lines.proofs.ListTexts.{field_at, six_of}
use Rattle.ipc_lines.proofs.Options.{none_not_some, some_same}
use Rattle.ipc_lines.proofs.call_reading.read_numbers.Goals as goal

pub returns-clause-only : goal.returns-clause-only
returns-clause-only c thread call is e =
    let a = c.in_ok-read_id.ensures.only thread is.thread_word (field_at c.args.fields.now _ 0 e) in
    let b = c.in_ok-read_id-2.ensures.only call.to is.to (field_at c.args.fields.now _ 1 e) in
    let d = c.in_ok-read_id-3.ensures.only call.from is.from (field_at c.args.fields.now _ 2 e) in
    let t = c.in_ok-send_period.ensures.only call.send_period call.receive_period is.send_period is.receive_period (field_at c.args.fields.now _ 3 e) in
    let h = c.in_ok-read_hex.ensures.only call.tag is.tag (field_at c.args.fields.now _ 4 e) in
    let o = c.in_ok-read_id-4.ensures.only call.originator is.originator (field_at c.args.fields.now _ 5 e) in
    let a' : c.in_ok-read_id.field-0 ≡ thread = some_same _ _ a in
    let b' : c.in_ok-read_id-2.field-0 ≡ call.to = some_same _ _ b in
    let d' : c.in_ok-read_id-3.field-0 ≡ call.from = some_same _ _ d in
    let s' : c.in_ok-send_period.send_period ≡ call.send_period = ap (λ p. p.0) (some_same _ _ t) in
    let r' : c.in_ok-send_period.receive_period ≡ call.receive_period = ap (λ p. p.1) (some_same _ _ t) in
    let h' : c.from_word.result ≡ call.tag = c.from_word.ensures ∙ some_same _ _ h in
    let o' : c.in_ok-read_id-4.field-0 ≡ call.originator = some_same _ _ o in
    λ i. Some (record { thread = a' i; to = b' i; from = d' i; send_period = s' i; receive_period = r' i; tag = h' i; originator = o' i })

pub returns-clause-found : goal.returns-clause-found
returns-clause-found c =
    let tag = c.in_ok-read_hex.ensures.found ∙ ap hex_text (sym c.from_word.ensures) in
    six_of c.args.fields.now c.in-len6.len_at_least c.in-len6.len_below
    ∙ (λ i. c.in_ok-read_id.ensures.found i ∷ c.in_ok-read_id-2.ensures.found i ∷ c.in_ok-read_id-3.ensures.found i
    ∷ c.in_ok-send_period.ensures.found i ∷ tag i ∷ c.in_ok-read_id-4.ensures.found i ∷ [])

pub returns-in_err-read_id-clause-only : goal.returns-in_err-read_id-clause-only
returns-in_err-read_id-clause-only c thread call is e =
    let none = c.in_err-read_id.ensures.only thread is.thread_word (field_at c.args.fields.now _ 0 e) in
    absurd (none_not_some None _ refl none)

pub returns-in_err-read_id-2-clause-only : goal.returns-in_err-read_id-2-clause-only
returns-in_err-read_id-2-clause-only c thread call is e =
    let none = c.in_err-read_id-2.ensures.only call.to is.to (field_at c.args.fields.now _ 1 e) in
    absurd (none_not_some None _ refl none)

pub returns-in_err-read_id-3-clause-only : goal.returns-in_err-read_id-3-clause-only
returns-in_err-read_id-3-clause-only c thread call is e =
    let none = c.in_err-read_id-3.ensures.only call.from is.from (field_at c.args.fields.now _ 2 e) in
    absurd (none_not_some None _ refl none)

pub returns-in_err-read_hex-clause-only : goal.returns-in_err-read_hex-clause-only
returns-in_err-read_hex-clause-only c thread call is e =
    let none = c.in_err-read_hex.ensures.only call.tag is.tag (field_at c.args.fields.now _ 4 e) in
    absurd (none_not_some None _ refl none)

pub returns-in_err-read_id-4-clause-only : goal.returns-in_err-read_id-4-clause-only
returns-in_err-read_id-4-clause-only c thread call is e =
    let none = c.in_err-read_id-4.ensures.only call.originator is.originator (field_at c.args.fields.now _ 5 e) in
    absurd (none_not_some None _ refl none)

pub returns-in_err-send_period-clause-only : goal.returns-in_err-send_period-clause-only
returns-in_err-send_period-clause-only c thread call is e =
    let none = c.in_err-send_period.ensures.only call.send_period call.receive_period is.send_period is.receive_period (field_at c.args.fields.now _ 3 e) in
    absurd (none_not_some None _ refl none)
