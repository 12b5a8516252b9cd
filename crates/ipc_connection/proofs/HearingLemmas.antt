-- What is heard in pieces.
use Rattle.std.proofs.Common.{◌≡◌, ℕ, zero, suc, List, [], ◌∷◌, ◌++◌, refl, sym, ap, subst, ◌∙◌, map, length, drop}
use Rattle.std.proofs.lemmas.List.{append-nil, append_assoc, map-append}
use Rattle.std.proofs.Math.Seq.{drop-length}
use Rattle.ipc_frame.specs.Stream.{Rest, Stream, put_front, frames_within, stream_of, more_by}
use Rattle.ipc_frame.specs.Frames.{spelling, kind_of, side_of, IsFrame}
use Rattle.ipc_frame.specs.Reading.{Whole, reading}
use Rattle.ipc_frame.specs.declared.kind.Side.TheVariants.{Server}
use Rattle.ipc_frame.specs.declared.frame.Frame.{Frame}
use Rattle.ipc_frame.proofs.StreamLemmas.{more_is_stream, spelled_is_read}
use Rattle.ipc_connection.specs.Hearing.{heard_in, heard_of, heard_behind}
use Rattle.ipc_connection.specs.Laws.{FramesAddUp, FrameIsHeard}

-- the stream of a piece behind bytes that end inside a frame
pub joined : (bytes rest piece : List ℕ) → (stream_of Server bytes).end ≡ Rest rest → stream_of Server (bytes ++ piece) ≡ put_front (stream_of Server bytes).frames (stream_of Server (rest ++ piece))
joined bytes rest piece e =
    sym (more_is_stream Server bytes piece) ∙ ap (λ end. more_by Server (stream_of Server bytes).frames end piece) e

pub frames_add_up : FramesAddUp
frames_add_up bytes rest piece e =
    let whole = joined bytes rest piece e in
    let front = (stream_of Server bytes).frames in
    let back = stream_of Server (rest ++ piece) in
    let behind : heard_in (stream_of Server bytes) ≡ map heard_of front = ap (λ end. map heard_of front ++ heard_behind end) e ∙ append-nil (map heard_of front) in (
      ap heard_in whole ∙ (ap (λ l. l ++ heard_behind back.end) (map-append heard_of front back.frames) ∙ (append_assoc (map heard_of front) (map heard_of back.frames) (heard_behind back.end) ∙ sym (ap (λ l. l ++ heard_in back) behind))),
      ap (λ (s : Stream). s.end) whole,
    )

-- no bytes hold no frame
nothing : (n : ℕ) → frames_within n Server [] ≡ record { frames = []; end = Rest [] }
unfolding frames_within reading
nothing zero = refl
nothing (suc n) = refl

alone : (f : Frame) → IsFrame f → side_of (kind_of f) ≡ Server → stream_of Server (spelling f) ≡ record { frames = f ∷ []; end = Rest [] }
unfolding frames_within stream_of
alone f h side =
    let read : reading Server (spelling f) ≡ Whole f (length (spelling f)) = ap (reading Server) (sym (append-nil (spelling f))) ∙ subst (λ s. reading s (spelling f ++ []) ≡ Whole f (length (spelling f))) side (spelled_is_read f [] h) in
    let gone : drop (length (spelling f)) (spelling f) ≡ [] = drop-length (spelling f) in
    rw (read, gone) (ap (put_front (f ∷ [])) (nothing (length (spelling f))))

pub frame_is_heard : FrameIsHeard
frame_is_heard f h side = ap heard_in (alone f h side)
