use Rattle.std.proofs.Common.{◌*◌, drop, sym, ap, ap₂, subst, ◌∙◌, arith}
use Rattle.ipc_frame.specs.declared.kind.FrameKind.TheVariants.{Ipc}
use Rattle.ipc_frame.specs.Numbers.{fields_in, number_in, words_in}
use Rattle.ipc_frame.specs.Parts.{IsIpc}
use Rattle.ipc_frame.specs.Frames.{widths}
use Rattle.ipc_frame.specs.Reading.{ipc_parts}
use Rattle.ipc_frame.proofs.DecodeLemmas.{ipc_room, same_ipc, reads_call}
use Rattle.ipc_frame.proofs.decoding.read_ipc.Goals as goal

pub read_registers-requires : goal.read_registers-requires
read_registers-requires g c =
    let fields = fields_in (widths Ipc) c.args.head.now in
    let room = ipc_room fields c.args.tail.now c.requires.size in
    let call = reads_call c.args.head.now _ _ _ _ _ _ _ _ _ _ c.split_u64-to.ensures.behind c.split_u64-from.ensures.behind c.split_u32-timeouts.ensures.behind c.split_u64-originator.ensures.behind c.split_u64-tag.ensures.behind c.split_u64-acceptor.ensures.behind c.split_u64-tag.ensures.number c.from_word-tag.ensures c.untyped.ensures c.typed.ensures in
    omega (arith, room, call.count, call.few_is)

pub of-requires : goal.of-requires
of-requires g c =
    let h = c.args.head.now in
    let tail = c.args.tail.now in
    let call = reads_call h _ _ _ _ _ _ _ _ _ _ c.split_u64-to.ensures.behind c.split_u64-from.ensures.behind c.split_u32-timeouts.ensures.behind c.split_u64-originator.ensures.behind c.split_u64-tag.ensures.behind c.split_u64-acceptor.ensures.behind c.split_u64-tag.ensures.number c.from_word-tag.ensures c.untyped.ensures c.typed.ensures in
    let behind_to = c.split_u64-to.ensures.behind in
    let behind_from = c.split_u64-from.ensures.behind ∙ ap (drop 8) behind_to in
    let behind_timeouts = c.split_u32-timeouts.ensures.behind ∙ ap (drop 4) behind_from in
    let behind_originator = c.split_u64-originator.ensures.behind ∙ ap (drop 8) behind_timeouts in
    let behind_tag = c.split_u64-tag.ensures.behind ∙ ap (drop 8) behind_originator in
    let to = c.from_word.ensures ∙ c.split_u64-to.ensures.number in
    let from = c.from_word-2.ensures ∙ (c.split_u64-from.ensures.number ∙ ap (number_in 8) behind_to) in
    let timeouts = c.from_word-3.ensures ∙ (c.split_u32-timeouts.ensures.number ∙ ap (number_in 4) behind_from) in
    let originator = c.from_word-4.ensures ∙ (c.split_u64-originator.ensures.number ∙ ap (number_in 8) behind_timeouts) in
    let acceptor = c.split_u64-acceptor.ensures.number ∙ ap (number_in 8) behind_tag in
    let words = c.in_ok-words.ensures.words ∙ ap (λ k. words_in k tail) call.count in
    let buffer_words = c.in_ok-words.ensures.buffer_words ∙ ap₂ (λ k n. words_in n (drop (8 * k) tail)) call.count call.few_is in
    let payload = c.in_ok-words.ensures.payload ∙ ap₂ (λ k n. drop (8 * n) (drop (8 * k) tail)) call.count call.few_is in
    let parts = ipc_parts (fields_in (widths Ipc) h) tail in
    let same = same_ipc parts _ _ _ _ _ _ _ _ _ to from timeouts originator call.tag_is acceptor words buffer_words payload in
    subst IsIpc (sym same) c.requires.is

pub returns-clause-ipc : goal.returns-clause-ipc
returns-clause-ipc g c =
    let h = c.args.head.now in
    let tail = c.args.tail.now in
    let call = reads_call h _ _ _ _ _ _ _ _ _ _ c.split_u64-to.ensures.behind c.split_u64-from.ensures.behind c.split_u32-timeouts.ensures.behind c.split_u64-originator.ensures.behind c.split_u64-tag.ensures.behind c.split_u64-acceptor.ensures.behind c.split_u64-tag.ensures.number c.from_word-tag.ensures c.untyped.ensures c.typed.ensures in
    let behind_to = c.split_u64-to.ensures.behind in
    let behind_from = c.split_u64-from.ensures.behind ∙ ap (drop 8) behind_to in
    let behind_timeouts = c.split_u32-timeouts.ensures.behind ∙ ap (drop 4) behind_from in
    let behind_originator = c.split_u64-originator.ensures.behind ∙ ap (drop 8) behind_timeouts in
    let behind_tag = c.split_u64-tag.ensures.behind ∙ ap (drop 8) behind_originator in
    let to = c.from_word.ensures ∙ c.split_u64-to.ensures.number in
    let from = c.from_word-2.ensures ∙ (c.split_u64-from.ensures.number ∙ ap (number_in 8) behind_to) in
    let timeouts = c.from_word-3.ensures ∙ (c.split_u32-timeouts.ensures.number ∙ ap (number_in 4) behind_from) in
    let originator = c.from_word-4.ensures ∙ (c.split_u64-originator.ensures.number ∙ ap (number_in 8) behind_timeouts) in
    let acceptor = c.split_u64-acceptor.ensures.number ∙ ap (number_in 8) behind_tag in
    let words = c.in_ok-words.ensures.words ∙ ap (λ k. words_in k tail) call.count in
    let buffer_words = c.in_ok-words.ensures.buffer_words ∙ ap₂ (λ k n. words_in n (drop (8 * k) tail)) call.count call.few_is in
    let payload = c.in_ok-words.ensures.payload ∙ ap₂ (λ k n. drop (8 * n) (drop (8 * k) tail)) call.count call.few_is in
    let parts = ipc_parts (fields_in (widths Ipc) h) tail in
    let same = same_ipc parts _ _ _ _ _ _ _ _ _ to from timeouts originator call.tag_is acceptor words buffer_words payload in
    c.of.ensures ∙ same
