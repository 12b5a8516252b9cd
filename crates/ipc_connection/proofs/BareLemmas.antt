-- A whole frame without a payload at the front of a piece, where nothing is held.
use Rattle.std.proofs.Common.{◌≡◌, Result, Option, Bool, ◌==◌, ℕ, ◌+◌, ◌-◌, ◌≤◌, true, false, List, [], ◌++◌, length, take, drop, Some, Ok, Err, refl, sym, ap, subst, ◌∙◌, arith, length-append}
use Rattle.std.proofs.lemmas.List.{append-nil, length-take-le, nil_from_length, take-append-drop, take-take}
use Rattle.std.proofs.lemmas.Bool.{eqb-true}
use Rattle.ipc_frame.specs.declared.fault.FrameFault.{FrameFault}
use Rattle.ipc_frame.specs.declared.frame.Frame.{Frame}
use Rattle.ipc_frame.specs.declared.kind.Side.TheVariants.{Server}
use Rattle.ipc_frame.specs.Numbers.{IsBytes, number_in}
use Rattle.ipc_frame.specs.Reading.{Reading, Whole, reading}
use Rattle.ipc_frame.proofs.FoundLemmas.{whole_ends}
use Rattle.ipc_frame.proofs.NumberLemmas.{bytes_take, number_more}
use Rattle.ipc_frame.proofs.StreamLemmas.{kept, whole_told}
use Rattle.ipc_connection.proofs.AtLemmas.{Stands, frame_at}
use Rattle.ipc_connection.proofs.TakeLemmas.{fault_answer, heard_answer}
use Rattle.ipc_connection.specs.Holding.{FrameAt, HearsOf, IsWhole, Kept, start_size}
use Rattle.ipc_connection.specs.Taking.{Decoding, Ends, Holds, IsUnfinished, Takes, TakesBy}
use Rattle.ipc_connection.specs.declared.heard.Heard.{Heard}

-- where the bytes that its length counts are a whole frame
pub record Bare (frame : List ℕ) : Type 0 where
  pub is : Frame
  pub whole : IsWhole frame is
  pub at : FrameAt frame [] is

pub bare_at : (piece : List ℕ) (size : ℕ) (f : Frame) (n : ℕ) → IsBytes piece → 50 ≤ length piece → size ≡ 4 + number_in 4 piece → size ≤ length piece → size ≤ start_size (take 50 piece) → reading Server (take size piece ++ []) ≡ Whole f n → Bare (take size piece)
bare_at piece size f n bytes long size_is within few e =
    let frame = take size piece in
    let all : frame ++ [] ≡ frame = append-nil frame in
    let read : reading Server frame ≡ Whole f n = ap (reading Server) (sym all) ∙ e in
    let frame_size : length frame ≡ size = length-take-le size piece within in
    let ends = whole_ends Server frame f n read in
    let front : take 4 frame ≡ take 4 piece = take-take 4 size piece (omega (arith, size_is)) in
    let length_there : number_in 4 piece ≡ number_in 4 (take 4 piece) = ap (number_in 4) (sym (take-append-drop 4 piece)) ∙ number_more 4 (take 4 piece) (drop 4 piece) (omega (arith, length-take-le 4 piece (omega (arith, long)))) in
    let same : n ≡ length frame = omega (arith, ends, ap (number_in 4) front, length_there, size_is, frame_size) in
    let whole : IsWhole frame f = read ∙ ap (Whole f) same in
    let stands : Stands frame [] = record {
      below = λ there. let head : take 50 frame ≡ take 50 piece = take-take 50 size piece (omega (arith, there, frame_size)) in rw head (omega (arith, frame_size, few));
      above = λ none. absurd (omega (arith, none));
    } in
    record {
      is = f;
      whole = whole;
      at = frame_at frame [] f (subst IsBytes (sym all) (bytes_take size piece bytes)) stands (subst (λ xs. IsWhole xs f) (sym all) whole);
    }

-- what is answered
pub bare_heard : (f : Frame) (used : ℕ) (heard : Heard) (new : Decoding) → HearsOf f (Ok heard) → Holds new [] → Ends f used new (Ok (used, Some heard))
bare_heard f used heard new hears none = record { answer = heard_answer f used used heard refl hears; after = none }

pub bare_fault : (f : Frame) (used : ℕ) (fault : FrameFault) (new : Decoding) → HearsOf f (Err fault) → new.spent ≡ true → Ends f used new (Err fault)
bare_fault f used fault new hears spent = record { answer = fault_answer f used fault hears; after = spent }

-- nothing is held
pub holds_none : (held : Kept) (spent : Bool) (decoder : Decoding) → record { kept = held.bytes; lost = held.lost; spent = spent } ≡ decoder → spent ≡ false → (length held.bytes + held.lost == 0) ≡ true → Holds decoder []
holds_none held spent decoder view unspent empty =
    let zero = eqb-true (length held.bytes + held.lost) 0 empty in
    let bytes : held.bytes ≡ [] = nil_from_length held.bytes (omega (arith, zero)) in
    let lost : held.lost ≡ 0 = omega (arith, zero) in
    subst (λ (d : Decoding). Holds d []) view (record { unspent = unspent; gone = []; counted = sym lost; are_bytes = λ i. omega arith; bytes_are = sym (append-nil held.bytes ∙ bytes) })

holds_only : (decoder : Decoding) (bytes : List ℕ) → Holds decoder [] → Holds decoder bytes → bytes ≡ []
holds_only decoder bytes none holds =
    let parts = length-append decoder.kept none.gone in
    let zero = ap length none.bytes_are in
    nil_from_length bytes (ap length holds.bytes_are ∙ (length-append decoder.kept holds.gone ∙ omega (arith, zero, parts, holds.counted, none.counted)))

unfinished_none : IsUnfinished []
unfolding reading
unfinished_none = (4, refl)

bare_by : (r : Reading) (piece : List ℕ) (f : Frame) (n : ℕ) (new : Decoding) (result : Result (ℕ × Option Heard) FrameFault) → r ≡ Whole f n → Ends f n new result → TakesBy r [] piece new result
bare_by r piece f n new result e ends =
    let same : n ≡ n - 0 = omega arith in
    rw e (omega arith, subst (λ k. Ends f k new result) same ends)

takes_nothing_held : (piece : List ℕ) (f : Frame) (n : ℕ) (new : Decoding) (result : Result (ℕ × Option Heard) FrameFault) → reading Server piece ≡ Whole f n → Ends f n new result → Takes [] piece new result
unfolding Takes
takes_nothing_held piece f n new result e ends = bare_by (reading Server piece) piece f n new result e ends

pub takes_bare : (piece : List ℕ) (size : ℕ) (f : Frame) (old new : Decoding) (result : Result (ℕ × Option Heard) FrameFault) → IsWhole (take size piece) f → Holds old [] → Ends f (length (take size piece)) new result → (bytes : List ℕ) → Holds old bytes → IsUnfinished bytes × Takes bytes piece new result
takes_bare piece size f old new result whole none ends bytes holds =
    let frame = take size piece in
    let read = ap (reading Server) (sym (take-append-drop size piece)) ∙ kept Server frame (drop size piece) (Whole f (length frame)) whole (whole_told f (length frame)) in
    let empty = sym (holds_only old bytes none holds) in (
      subst IsUnfinished empty unfinished_none,
      subst (λ bs. Takes bs piece new result) empty (takes_nothing_held piece f (length frame) new result read ends),
    )
