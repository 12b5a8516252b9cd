use Rattle.std.proofs.Common.{◌≡◌, ◌+◌, ◌-◌, Some, is_some, slice_index, length, take, drop, refl, sym, ap, ap₂, subst, ◌∙◌}
use Rattle.std.specs.List.{AllByRecursion}
use Rattle.ipc_frame.specs.declared.frame.Frame.TheVariants as frame
use Rattle.ipc_frame.specs.Numbers.{number_in, fields_in, words_in}
use Rattle.ipc_frame.specs.Parts.{IsIpcr, IsPiece, words_of}
use Rattle.ipc_frame.specs.Frames.{outcome_widths}
use Rattle.ipc_frame.specs.Reading.{ipcr_parts, pieces_in}
use Rattle.ipc_frame.proofs.DecodeLemmas.{ipcr_made, same_ipcr, pieces_there, one_value}
use Rattle.ipc_frame.proofs.decoding.read_ipcr.Goals as goal

pub read_pieces-requires : goal.read_pieces-requires
read_pieces-requires g c =
    let h = c.args.head.now in
    let tail = c.args.tail.now in
    let made = ipcr_made c.args.end (fields_in outcome_widths h) tail c.requires.made.0 c.requires.made.1 in
    let tag : c.from_word-tag.result ≡ number_in 8 h = c.from_word-tag.ensures ∙ c.split_u64-tag.ensures.number in
    let count : c.untyped.result + c.typed.result ≡ words_of (number_in 8 h) = ap₂ (λ a b. a + b) c.untyped.ensures c.typed.ensures ∙ ap words_of tag in
    let behind = c.split_at.result.1.now in
    let found : pieces_in (slice_index behind 0) (take (length behind - 1) (drop 1 behind)) ≡ Some made.pieces = pieces_there behind tail _ _ made.pieces c.split_at.ensures.back count made.found in
    ap is_some found

pub of-requires-clause-is : goal.of-requires-clause-is
of-requires-clause-is g c =
    let h = c.args.head.now in
    let tail = c.args.tail.now in
    let made = ipcr_made c.args.end (fields_in outcome_widths h) tail c.requires.made.0 c.requires.made.1 in
    let tag : c.from_word-tag.result ≡ number_in 8 h = c.from_word-tag.ensures ∙ c.split_u64-tag.ensures.number in
    let count : c.untyped.result + c.typed.result ≡ words_of (number_in 8 h) = ap₂ (λ a b. a + b) c.untyped.ensures c.typed.ensures ∙ ap words_of tag in
    let behind = c.split_at.result.1.now in
    let found : pieces_in (slice_index behind 0) (take (length behind - 1) (drop 1 behind)) ≡ Some made.pieces = pieces_there behind tail _ _ made.pieces c.split_at.ensures.back count made.found in
    let pieces : c.in_ok-read_pieces.field-0.items ≡ made.pieces = one_value _ _ _ c.in_ok-read_pieces.ensures.pieces found in
    let behind_tag = c.split_u64-tag.ensures.behind in
    let behind_sender = c.split_u64-sender.ensures.behind ∙ ap (drop 8) behind_tag in
    let behind_actual = c.split_u64-actual.ensures.behind ∙ ap (drop 8) behind_sender in
    let sender = c.from_word.ensures ∙ (c.split_u64-sender.ensures.number ∙ ap (number_in 8) behind_tag) in
    let actual = c.from_word-2.ensures ∙ (c.split_u64-actual.ensures.number ∙ ap (number_in 8) behind_sender) in
    let error = c.from_word-3.ensures ∙ (c.split_u64-error.ensures.number ∙ ap (number_in 8) behind_actual) in
    let words = c.in_ok-read_words.ensures.words ∙ ap (λ k. words_in k tail) count in
    let parts = ipcr_parts c.args.end (fields_in outcome_widths h) tail made.pieces in
    let same = same_ipcr parts _ _ _ _ _ _ _ refl tag sender actual error words pieces in
    subst IsIpcr (sym same) made.fits.0

pub of-requires-clause-pieces : goal.of-requires-clause-pieces
of-requires-clause-pieces g c =
    let h = c.args.head.now in
    let tail = c.args.tail.now in
    let made = ipcr_made c.args.end (fields_in outcome_widths h) tail c.requires.made.0 c.requires.made.1 in
    let tag : c.from_word-tag.result ≡ number_in 8 h = c.from_word-tag.ensures ∙ c.split_u64-tag.ensures.number in
    let count : c.untyped.result + c.typed.result ≡ words_of (number_in 8 h) = ap₂ (λ a b. a + b) c.untyped.ensures c.typed.ensures ∙ ap words_of tag in
    let behind = c.split_at.result.1.now in
    let found : pieces_in (slice_index behind 0) (take (length behind - 1) (drop 1 behind)) ≡ Some made.pieces = pieces_there behind tail _ _ made.pieces c.split_at.ensures.back count made.found in
    let pieces : c.in_ok-read_pieces.field-0.items ≡ made.pieces = one_value _ _ _ c.in_ok-read_pieces.ensures.pieces found in
    subst (AllByRecursion IsPiece) (sym pieces) made.fits.2

pub returns-clause-ipcr : goal.returns-clause-ipcr
returns-clause-ipcr g c =
    let h = c.args.head.now in
    let tail = c.args.tail.now in
    let made = ipcr_made c.args.end (fields_in outcome_widths h) tail c.requires.made.0 c.requires.made.1 in
    let tag : c.from_word-tag.result ≡ number_in 8 h = c.from_word-tag.ensures ∙ c.split_u64-tag.ensures.number in
    let count : c.untyped.result + c.typed.result ≡ words_of (number_in 8 h) = ap₂ (λ a b. a + b) c.untyped.ensures c.typed.ensures ∙ ap words_of tag in
    let behind = c.split_at.result.1.now in
    let found : pieces_in (slice_index behind 0) (take (length behind - 1) (drop 1 behind)) ≡ Some made.pieces = pieces_there behind tail _ _ made.pieces c.split_at.ensures.back count made.found in
    let pieces : c.in_ok-read_pieces.field-0.items ≡ made.pieces = one_value _ _ _ c.in_ok-read_pieces.ensures.pieces found in
    let behind_tag = c.split_u64-tag.ensures.behind in
    let behind_sender = c.split_u64-sender.ensures.behind ∙ ap (drop 8) behind_tag in
    let behind_actual = c.split_u64-actual.ensures.behind ∙ ap (drop 8) behind_sender in
    let sender = c.from_word.ensures ∙ (c.split_u64-sender.ensures.number ∙ ap (number_in 8) behind_tag) in
    let actual = c.from_word-2.ensures ∙ (c.split_u64-actual.ensures.number ∙ ap (number_in 8) behind_sender) in
    let error = c.from_word-3.ensures ∙ (c.split_u64-error.ensures.number ∙ ap (number_in 8) behind_actual) in
    let words = c.in_ok-read_words.ensures.words ∙ ap (λ k. words_in k tail) count in
    let parts = ipcr_parts c.args.end (fields_in outcome_widths h) tail made.pieces in
    let same = same_ipcr parts _ _ _ _ _ _ _ refl tag sender actual error words pieces in
    rw made.found (ap (λ q. Some (frame.Ipcr q)) (sym (c.of.ensures ∙ same)))
