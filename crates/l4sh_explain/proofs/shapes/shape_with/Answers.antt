use Rattle.std.proofs.Common.{◌≡◌, Some, ap, ◌∙◌}
use Rattle.ipc_lines.proofs.Options.{some_same}
use Rattle.l4sh_explain.proofs.shapes.shape_with.Goals as goal

pub returns : goal.returns
returns c thread call is to from timeouts tag originator lists =
    let t = c.in_ok-send_period.ensures.only call.send_period call.receive_period is.send_period is.receive_period timeouts in
    let to' : c.in_ok-read_id.field-0 ≡ call.to = some_same _ _ (c.in_ok-read_id.ensures.only call.to is.to to) in
    let from' : c.in_ok-read_id-2.field-0 ≡ call.from = some_same _ _ (c.in_ok-read_id-2.ensures.only call.from is.from from) in
    let send' : c.in_ok-send_period.send_period ≡ call.send_period = ap (λ p. p.0) (some_same _ _ t) in
    let receive' : c.in_ok-send_period.receive_period ≡ call.receive_period = ap (λ p. p.1) (some_same _ _ t) in
    let tag' : c.from_word.result ≡ call.tag = c.from_word.ensures ∙ some_same _ _ (c.in_ok-read_hex.ensures.only call.tag is.tag tag) in
    let originator' : c.in_ok-read_id-3.field-0 ≡ call.originator = some_same _ _ (c.in_ok-read_id-3.ensures.only call.originator is.originator originator) in
    λ i. Some (record { to = to' i; from = from' i; send_period = send' i; receive_period = receive' i; tag = tag' i; originator = originator' i; lists = lists i })
