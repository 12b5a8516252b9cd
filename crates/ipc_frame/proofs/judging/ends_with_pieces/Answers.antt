use Rattle.std.proofs.Common.{◌≡◌, ◌-◌, ◌*◌, ◌+◌, take, drop, slice_index, length, is_some, sum, ap, refl, ◌∙◌, arith}
use Rattle.std.proofs.lemmas.List.{take_rest}
use Rattle.ipc_frame.specs.Frames.{widths}
use Rattle.ipc_frame.specs.Numbers.{fields_in}
use Rattle.ipc_frame.specs.Reading.{pieces_in}
use Rattle.ipc_frame.proofs.JudgeLemmas.{pieces_behind}
use Rattle.ipc_frame.proofs.judging.ends_with_pieces.Goals as goal

pub returns : goal.returns
returns c =
    let kind = c.args.kind in
    let tail = take (c.args.size - (1 + sum (widths kind))) (drop (sum (widths kind)) c.args.rest.now) in
    let cut = take (c.args.size - 1 - c.head.result) (drop c.head.result c.args.rest.now) in
    let same : cut ≡ tail = ap (λ h. take (c.args.size - 1 - h) (drop h c.args.rest.now)) c.head.ensures ∙ ap (λ n. take n (drop (sum (widths kind)) c.args.rest.now)) (let e : c.args.size - 1 - sum (widths kind) ≡ c.args.size - (1 + sum (widths kind)) = omega arith in e) in
    let words = c.ipcr_words.result in
    pieces_behind kind words (fields_in (widths kind) c.args.rest.now) tail (drop (8 * words) tail) c.pieces_fit.result c.requires.pieced c.ipcr_words.ensures refl
    (c.pieces_fit.ensures ∙ (ap (λ xs. is_some (pieces_in (slice_index (take (length xs - 8 * words) (drop (8 * words) xs)) 0) (take (length (take (length xs - 8 * words) (drop (8 * words) xs)) - 1) (drop 1 (take (length xs - 8 * words) (drop (8 * words) xs)))))) same
    ∙ (ap (λ xs. is_some (pieces_in (slice_index xs 0) (take (length xs - 1) (drop 1 xs)))) (take_rest tail (8 * words))
    ∙ ap (λ xs. is_some (pieces_in (slice_index (drop (8 * words) tail) 0) xs)) (take_rest (drop (8 * words) tail) 1))))
