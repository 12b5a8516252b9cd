use Rattle.std.proofs.Common.{◌≡◌, length, ap, ◌∙◌, arith}
use Rattle.std.proofs.lemmas.List.{with_items_is}
use Rattle.ipc_frame.proofs.WindowLemmas.{given_whole}
use Rattle.ipc_frame.proofs.encoding.left_of.Goals as goal

pub returns : goal.returns
returns c =
    let text = c.args.encoder.now in
    let same = ap length c.deref_mut.ensures.value in
    let l : length c.next.new.out ≡ length text = omega (arith, c.next.auto.out, same, c.in_ok-bytes.ensures.len, c.left.ensures) in
    let count : c.next.result ≡ length text = omega (arith, c.next.ensures.count, l, c.next.auto.out) in
    with_items_is c.in_ok-bytes.bytes c.next.new.out (omega (arith, l, c.left.ensures, c.in_ok-bytes.ensures.len))
    ∙ given_whole text c.next.new.out c.next.result l count c.next.ensures.bytes
