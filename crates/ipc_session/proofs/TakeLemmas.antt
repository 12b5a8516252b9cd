-- What one call of a decoder hears of a piece.
use Rattle.std.proofs.Common.{◌≡◌, ◌⊎◌, inl, inr, ℕ, ◌-◌, ◌<◌, ◌≤◌, List, [], ◌∷◌, ◌++◌, Option, Some, None, Result, Ok, Err, refl, sym, ap, subst, ◌∙◌, length, drop, arith, length-append}
use Rattle.ipc_frame.specs.Stream.{Rest, Stopped, Stream, put_front, stream_of}
use Rattle.ipc_frame.specs.Reading.{Reading, Short, Bad, Whole, reading}
use Rattle.ipc_frame.specs.declared.kind.Side.TheVariants.{Server}
use Rattle.ipc_frame.specs.declared.frame.Frame.{Frame}
use Rattle.ipc_frame.specs.declared.fault.FrameFault.{FrameFault}
use Rattle.ipc_frame.proofs.FoundLemmas.{whole_within}
use Rattle.ipc_connection.proofs.PieceLemmas.{stream_short, stream_bad, stream_whole, drop_past, given, heard_part, none_not, some_is, err_is}
use Rattle.ipc_connection.specs.Hearing.{heard_of}
use Rattle.ipc_connection.specs.Holding.{HearsOf}
use Rattle.ipc_connection.specs.Taking.{Decoding, Holds, Takes, TakesBy}
use Rattle.ipc_connection.specs.declared.heard.Heard.{Heard}

-- no frame ends in the piece
abbrev pub TookNone : List ℕ → List ℕ → Decoding → Type 0
TookNone bytes piece new = (stream_of Server (bytes ++ piece) ≡ record { frames = []; end = Rest (bytes ++ piece) }) × Holds new (bytes ++ piece)

none_by : (bytes piece : List ℕ) (new : Decoding) (used : ℕ) (r : Reading) → reading Server (bytes ++ piece) ≡ r → TakesBy r bytes piece new (given used None) → TookNone bytes piece new
none_by bytes piece new used (Short wanted) e h = (stream_short (bytes ++ piece) wanted e, h.1)
none_by bytes piece new used (Bad fault) e h = let no = h.0 in absurd (cc)
none_by bytes piece new used (Whole f n) e h = elim h.1.answer [
  | inl is ↦ absurd (none_not (heard_of f) used (n - length bytes) is)
  | inr is ↦ let no = is.0 in absurd (cc)
]

pub took_none : (bytes piece : List ℕ) (new : Decoding) (used : ℕ) (answer : Option Heard) → answer ≡ None → Takes bytes piece new (given used answer) → TookNone bytes piece new
unfolding Takes
took_none bytes piece new used answer is takes =
    none_by bytes piece new used (reading Server (bytes ++ piece)) refl (subst (λ (a : Option Heard). Takes bytes piece new (given used a)) is takes)

-- a frame ends in the piece
pub record TookOne (bytes piece : List ℕ) (new : Decoding) (used : ℕ) (heard : Heard) : Type 0 where
  pub frame : Frame
  pub stream_is : stream_of Server (bytes ++ piece) ≡ put_front (frame ∷ []) (stream_of Server (drop used piece))
  pub says : heard_of frame ≡ Ok heard
  pub holds : Holds new []
  pub within : used ≤ length piece
  pub moves : bytes ≡ [] → 0 < used

one_by : (bytes piece : List ℕ) (new : Decoding) (used : ℕ) (heard : Heard) (r : Reading) → reading Server (bytes ++ piece) ≡ r → TakesBy r bytes piece new (given used (Some heard)) → TookOne bytes piece new used heard
one_by bytes piece new used heard (Short wanted) e h = let no : Some heard ≡ None = ap heard_part h.0 in absurd (cc)
one_by bytes piece new used heard (Bad fault) e h = let no = h.0 in absurd (cc)
one_by bytes piece new used heard (Whole f n) e h = elim h.1.answer [
  | inl is ↦
      let parts = some_is (heard_of f) used (n - length bytes) heard is in
      let size = whole_within Server (bytes ++ piece) f n e in
      let sum = length-append bytes piece in
      let used_is = parts.0 in
      record {
        frame = f;
        stream_is = stream_whole (bytes ++ piece) f n e ∙ ap (λ (xs : List ℕ). put_front (f ∷ []) (stream_of Server xs)) (drop_past n bytes piece h.0 ∙ ap (λ (k : ℕ). drop k piece) (sym parts.0));
        says = parts.1;
        holds = h.1.after;
        within = omega (arith, size, sum, used_is, h.0);
        moves = λ none. let short : length bytes ≡ 0 = ap (λ (l : List ℕ). length l) none in omega (arith, size, used_is, short);
      }
  | inr is ↦ let no = is.0 in absurd (cc)
]

pub took_one : (bytes piece : List ℕ) (new : Decoding) (used : ℕ) (answer : Option Heard) (heard : Heard) → answer ≡ Some heard → Takes bytes piece new (given used answer) → TookOne bytes piece new used heard
unfolding Takes
took_one bytes piece new used answer heard is takes =
    one_by bytes piece new used heard (reading Server (bytes ++ piece)) refl (subst (λ (a : Option Heard). Takes bytes piece new (given used a)) is takes)

-- a fault of the stream, or in place of what its first frame says
abbrev pub TookFault : Stream → FrameFault → Type 0
TookFault stream fault =
    (stream ≡ record { frames = []; end = Stopped fault })
    ⊎ ((frame : Frame) × (behind : Stream) × (stream ≡ put_front (frame ∷ []) behind) × HearsOf frame (Err fault))

abbrev failing : FrameFault → Result (ℕ × Option Heard) FrameFault
failing fault = Err fault

fault_by : (bytes piece : List ℕ) (new : Decoding) (fault : FrameFault) (r : Reading) → reading Server (bytes ++ piece) ≡ r → TakesBy r bytes piece new (failing fault) → TookFault (stream_of Server (bytes ++ piece)) fault
fault_by bytes piece new fault (Short wanted) e h = let no = h.0 in absurd (cc)
fault_by bytes piece new fault (Bad other) e h =
    let is = h.0 in
    let same : fault ≡ other = cc in
    inl (stream_bad (bytes ++ piece) other e ∙ ap (λ (f : FrameFault). record { frames = []; end = Stopped f }) (sym same))
fault_by bytes piece new fault (Whole f n) e h = elim h.1.answer [
  | inl is ↦ inr (f, _, stream_whole (bytes ++ piece) f n e, inl (sym (err_is (heard_of f) (n - length bytes) fault is)))
  | inr is ↦ let lack = is.0 in inr (f, _, stream_whole (bytes ++ piece) f n e, inr (cc, is.1))
]

pub took_fault : (bytes piece : List ℕ) (new : Decoding) (fault : FrameFault) → Takes bytes piece new (failing fault) → TookFault (stream_of Server (bytes ++ piece)) fault
unfolding Takes
took_fault bytes piece new fault takes = fault_by bytes piece new fault (reading Server (bytes ++ piece)) refl takes
