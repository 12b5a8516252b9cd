-- A piece is heard call by call.
use Rattle.std.proofs.Common.{◌≡◌, ◌⊎◌, inl, inr, ℕ, zero, suc, ◌+◌, ◌-◌, ◌<◌, ◌≤◌, List, [], ◌∷◌, ◌++◌, map, Option, Some, None, Result, Ok, Err, refl, sym, ap, subst, ◌∙◌, length, drop, arith, length-append, length-drop}
use Rattle.std.proofs.lemmas.List.{drop-drop, drop_at}
use Rattle.ipc_frame.specs.Stream.{Rest, Stopped, Stream, put_front, frames_within, stream_of}
use Rattle.ipc_frame.specs.Reading.{Reading, Short, Bad, Whole, reading}
use Rattle.ipc_frame.specs.declared.kind.Side.TheVariants.{Server}
use Rattle.ipc_frame.specs.declared.frame.Frame.{Frame}
use Rattle.ipc_frame.specs.declared.fault.FrameFault.{FrameFault}
use Rattle.ipc_frame.specs.declared.fault.FrameFault.TheVariants.{NoMemory}
use Rattle.ipc_frame.proofs.FoundLemmas.{whole_within}
use Rattle.ipc_connection.specs.Hearing.{IsCut, heard_in, heard_of}
use Rattle.ipc_connection.specs.Taking.{Decoding, Holds, MayLack, Takes, TakesBy, TakesUp, uses_up, hears, fails, answer_of}
use Rattle.ipc_connection.specs.Laws.{IsHeardOf, StandsAt, PieceIsHeard}
use Rattle.ipc_connection.specs.declared.heard.Heard.{Heard}

enough : (n m : ℕ) (bytes : List ℕ) (r : Reading) → reading Server bytes ≡ r → length bytes < n → length bytes < m → frames_within n Server bytes ≡ frames_within m Server bytes
unfolding frames_within
enough zero m bytes r e h k = absurd (omega arith)
enough (suc n) zero bytes r e h k = absurd (omega arith)
enough (suc n) (suc m) bytes (Short wanted) e h k = rw e refl
enough (suc n) (suc m) bytes (Bad fault) e h k = rw e refl
enough (suc n) (suc m) bytes (Whole f size) e h k =
    let within = whole_within Server bytes f size e in
    let left = length-drop size bytes in
    rw e (ap (put_front (f ∷ [])) (enough n m (drop size bytes) _ refl (omega arith) (omega arith)))

pub stream_short : (bytes : List ℕ) (wanted : ℕ) → reading Server bytes ≡ Short wanted → stream_of Server bytes ≡ record { frames = []; end = Rest bytes }
unfolding stream_of frames_within
stream_short bytes wanted e = rw e refl

pub stream_bad : (bytes : List ℕ) (fault : FrameFault) → reading Server bytes ≡ Bad fault → stream_of Server bytes ≡ record { frames = []; end = Stopped fault }
unfolding stream_of frames_within
stream_bad bytes fault e = rw e refl

pub stream_whole : (bytes : List ℕ) (f : Frame) (n : ℕ) → reading Server bytes ≡ Whole f n → stream_of Server bytes ≡ put_front (f ∷ []) (stream_of Server (drop n bytes))
unfolding stream_of frames_within
stream_whole bytes f n e =
    let within = whole_within Server bytes f n e in
    let left = length-drop n bytes in
    rw e (ap (put_front (f ∷ [])) (enough (length bytes) (suc (length (drop n bytes))) (drop n bytes) _ refl (omega arith) (omega arith)))

pub drop_past : (n : ℕ) (xs ys : List ℕ) → length xs ≤ n → drop n (xs ++ ys) ≡ drop (n - length xs) ys
drop_past n xs ys h =
    let sum : n ≡ length xs + (n - length xs) = omega arith in
    ap (λ k. drop k (xs ++ ys)) sum ∙ (sym (drop-drop (n - length xs) (length xs) (xs ++ ys)) ∙ ap (drop (n - length xs)) (drop_at xs ys (length xs) refl))

-- the parts of an answer
abbrev pub given : ℕ → Option Heard → Result (ℕ × Option Heard) FrameFault
given used heard = Ok (used, heard)

abbrev pub heard_part : Result (ℕ × Option Heard) FrameFault → Option Heard
heard_part (Ok p) = p.1
heard_part (Err fault) = None

abbrev pub used_part : Result (ℕ × Option Heard) FrameFault → ℕ
used_part (Ok p) = p.0
used_part (Err fault) = 0

pub none_not : (r : Result Heard FrameFault) (a u : ℕ) → given a None ≡ answer_of u r → ⊥
none_not (Ok heard) a u e = let no : None ≡ Some heard = ap heard_part e in cc
none_not (Err fault) a u e = cc

pub some_is : (r : Result Heard FrameFault) (a u : ℕ) (heard : Heard) → given a (Some heard) ≡ answer_of u r → (a ≡ u) × (r ≡ Ok heard)
some_is (Ok other) a u heard e = let no : Some heard ≡ Some other = ap heard_part e in (ap used_part e, cc)
some_is (Err fault) a u heard e = absurd (cc)

abbrev pub failed : FrameFault → Result (ℕ × Option Heard) FrameFault
failed fault = Err fault

pub err_is : (r : Result Heard FrameFault) (u : ℕ) (fault : FrameFault) → failed fault ≡ answer_of u r → r ≡ Err fault
err_is (Ok heard) u fault e = absurd (cc)
err_is (Err other) u fault e = let same : fault ≡ other = cc in ap Err (sym same)

-- what a first frame says is heard in front of the rest
pub cut_cons : (May : Frame → Type 0) (f : Frame) (heard : Heard) (stream : Stream) (rest : List (Result Heard FrameFault))
    → heard_of f ≡ Ok heard → IsCut May stream rest → IsCut May (put_front (f ∷ []) stream) (Ok heard ∷ rest)
cut_cons May f heard stream rest says cut = record {
  front = f ∷ cut.front;
  frame = cut.frame;
  behind = cut.behind;
  frames_are = ap (λ l. f ∷ l) cut.frames_are;
  may = cut.may;
  heard_is = ap (λ l. Ok heard ∷ l) cut.heard_is ∙ ap (λ h. h ∷ (map heard_of cut.front ++ Err NoMemory ∷ [])) (sym says);
}

heard_cons : (f : Frame) (heard : Heard) (stream : Stream) (rest : List (Result Heard FrameFault))
    → heard_of f ≡ Ok heard → IsHeardOf stream rest → IsHeardOf (put_front (f ∷ []) stream) (Ok heard ∷ rest)
heard_cons f heard stream rest says (inl e) = inl (rw says (ap (λ l. Ok heard ∷ l) e))
heard_cons f heard stream rest says (inr cut) = inr (cut_cons MayLack f heard stream rest says cut)

-- there is no memory for what the first frame says
pub cut_first : (May : Frame → Type 0) (f : Frame) (stream behind : Stream) → stream ≡ put_front (f ∷ []) behind → May f → IsCut May stream (Err NoMemory ∷ [])
cut_first May f stream behind is may = record {
  front = [];
  frame = f;
  behind = behind.frames;
  frames_are = ap (λ (s : Stream). s.frames) is;
  may = may;
  heard_is = refl;
}

abbrev HeardAll : List ℕ → List (Result Heard FrameFault) → Decoding → Type 0
HeardAll bytes heard new = IsHeardOf (stream_of Server bytes) heard × StandsAt heard (stream_of Server bytes).end new

step_none : (new : Decoding) (bytes piece : List ℕ) (r : Reading) → reading Server (bytes ++ piece) ≡ r → TakesBy r bytes piece new (Ok (length piece, None)) → HeardAll (bytes ++ piece) [] new
step_none new bytes piece (Short wanted) e h = let s = stream_short (bytes ++ piece) wanted e in rw s (inl refl, h.1)
step_none new bytes piece (Bad fault) e h = let no = h.0 in absurd (cc)
step_none new bytes piece (Whole f n) e h = elim h.1.answer [
  | inl is ↦ absurd (none_not (heard_of f) (length piece) (n - length bytes) is)
  | inr is ↦ let no = is.0 in absurd (cc)
]

step_fails : (new : Decoding) (bytes piece : List ℕ) (fault : FrameFault) (r : Reading) → reading Server (bytes ++ piece) ≡ r → TakesBy r bytes piece new (Err fault) → HeardAll (bytes ++ piece) (Err fault ∷ []) new
step_fails new bytes piece fault (Short wanted) e h = let no = h.0 in absurd (cc)
step_fails new bytes piece fault (Bad other) e h =
    let is = h.0 in
    let same : fault ≡ other = cc in
    let s = stream_bad (bytes ++ piece) other e in
    rw s (inl (ap (λ f. Err f ∷ []) same), h.1)
step_fails new bytes piece fault (Whole f n) e h =
    let s = stream_whole (bytes ++ piece) f n e in
    elim h.1.answer [
      | inl is ↦ let heard = err_is (heard_of f) (n - length bytes) fault is in rw (s, heard) (inl refl, h.1.after)
      | inr is ↦
          let lack = is.0 in
          let same : fault ≡ NoMemory = cc in
          (inr (subst (λ g. IsCut MayLack (stream_of Server (bytes ++ piece)) (Err g ∷ [])) (sym same) (cut_first MayLack f _ (stream_of Server (drop n (bytes ++ piece))) s is.1)), h.1.after)
    ]

step_hears : (between new : Decoding) (bytes piece : List ℕ) (used : ℕ) (heard : Heard) (rest : List (Result Heard FrameFault)) (r : Reading) → reading Server (bytes ++ piece) ≡ r → TakesBy r bytes piece between (Ok (used, Some heard)) → HeardAll (drop used piece) rest new → HeardAll (bytes ++ piece) (Ok heard ∷ rest) new
step_hears between new bytes piece used heard rest (Short wanted) e h later = let no : Some heard ≡ None = ap heard_part h.0 in absurd (cc)
step_hears between new bytes piece used heard rest (Bad fault) e h later = let no = h.0 in absurd (cc)
step_hears between new bytes piece used heard rest (Whole f n) e h later = elim h.1.answer [
  | inl is ↦
      let parts = some_is (heard_of f) used (n - length bytes) heard is in
      let left : drop n (bytes ++ piece) ≡ drop used piece = drop_past n bytes piece h.0 ∙ ap (λ k. drop k piece) (sym parts.0) in
      let s = stream_whole (bytes ++ piece) f n e ∙ ap (λ xs. put_front (f ∷ []) (stream_of Server xs)) left in
      rw s (heard_cons f heard (stream_of Server (drop used piece)) rest parts.1 later.0, later.1)
  | inr is ↦ let no = is.0 in absurd (cc)
]

pub piece_is_heard : PieceIsHeard
unfolding Takes
piece_is_heard new bytes piece heard up = go up
  where
    go : {bytes piece : List ℕ} {heard : List (Result Heard FrameFault)} {new : Decoding} → TakesUp bytes piece heard new → HeardAll (bytes ++ piece) heard new
    go (uses_up new bytes piece takes) = step_none new bytes piece (reading Server (bytes ++ piece)) refl takes
    go (hears between new bytes piece used heard rest takes later) = step_hears between new bytes piece used heard rest (reading Server (bytes ++ piece)) refl takes (go later)
    go (fails new bytes piece fault takes) = step_fails new bytes piece fault (reading Server (bytes ++ piece)) refl takes

-- a whole frame that a piece ends: what is heard of the bytes held and the piece is what it says,
-- and then what the rest says
pub record IsHeardFirst (bytes piece : List ℕ) (used : ℕ) (heard : Heard) (new : Decoding) : Type 0 where
  pub frame : Frame
  pub stream : stream_of Server (bytes ++ piece) ≡ put_front (frame ∷ []) (stream_of Server (drop used piece))
  pub says : heard_of frame ≡ Ok heard
  pub holds : Holds new []
  pub within : used ≤ length piece
  pub some : 0 < used + length bytes

pub take_hears : (new : Decoding) (bytes piece : List ℕ) (used : ℕ) (heard : Heard) → Takes bytes piece new (Ok (used, Some heard)) → IsHeardFirst bytes piece used heard new
unfolding Takes
take_hears new bytes piece used heard takes = go (reading Server (bytes ++ piece)) refl takes
  where
    go : (r : Reading) → reading Server (bytes ++ piece) ≡ r → TakesBy r bytes piece new (Ok (used, Some heard)) → IsHeardFirst bytes piece used heard new
    go (Short wanted) e h = let no : Some heard ≡ None = ap heard_part h.0 in absurd (cc)
    go (Bad fault) e h = let no = h.0 in absurd (cc)
    go (Whole f n) e h = elim h.1.answer [
      | inl is ↦
          let parts = some_is (heard_of f) used (n - length bytes) heard is in
          let left : drop n (bytes ++ piece) ≡ drop used piece = drop_past n bytes piece h.0 ∙ ap (λ k. drop k piece) (sym parts.0) in
          let s = stream_whole (bytes ++ piece) f n e ∙ ap (λ xs. put_front (f ∷ []) (stream_of Server xs)) left in
          let size = whole_within Server (bytes ++ piece) f n e in
          record {
            frame = f;
            stream = s;
            says = parts.1;
            holds = h.1.after;
            within = omega (arith, size, length-append bytes piece, parts.0);
            some = omega (arith, size, h.0, parts.0);
          }
      | inr is ↦ let no = is.0 in absurd (cc)
    ]

-- without a whole frame nothing is heard, and all is held
pub record IsHeldBack (bytes piece : List ℕ) (new : Decoding) : Type 0 where
  pub said : heard_in (stream_of Server (bytes ++ piece)) ≡ []
  pub end : (stream_of Server (bytes ++ piece)).end ≡ Rest (bytes ++ piece)
  pub holds : Holds new (bytes ++ piece)

pub take_rests : (new : Decoding) (bytes piece : List ℕ) (used : ℕ) → Takes bytes piece new (Ok (used, None)) → IsHeldBack bytes piece new
unfolding Takes
take_rests new bytes piece used takes = go (reading Server (bytes ++ piece)) refl takes
  where
    go : (r : Reading) → reading Server (bytes ++ piece) ≡ r → TakesBy r bytes piece new (Ok (used, None)) → IsHeldBack bytes piece new
    go (Short wanted) e h = let s = stream_short (bytes ++ piece) wanted e in record { said = rw s refl; end = rw s refl; holds = h.1 }
    go (Bad fault) e h = let no = h.0 in absurd (cc)
    go (Whole f n) e h = elim h.1.answer [
      | inl is ↦ absurd (none_not (heard_of f) used (n - length bytes) is)
      | inr is ↦ let no = is.0 in absurd (cc)
    ]

-- a fault is what is heard next, or there is no memory for what the first frame says
abbrev pub FailsFirst : List ℕ → FrameFault → Type 0
FailsFirst bytes fault =
    ((rest : List (Result Heard FrameFault)) × (heard_in (stream_of Server bytes) ≡ Err fault ∷ rest))
    ⊎ ((fault ≡ NoMemory) × IsCut MayLack (stream_of Server bytes) (Err NoMemory ∷ []))

pub take_fails : (new : Decoding) (bytes piece : List ℕ) (fault : FrameFault) → Takes bytes piece new (Err fault) → FailsFirst (bytes ++ piece) fault
unfolding Takes
take_fails new bytes piece fault takes = go (reading Server (bytes ++ piece)) refl takes
  where
    go : (r : Reading) → reading Server (bytes ++ piece) ≡ r → TakesBy r bytes piece new (Err fault) → FailsFirst (bytes ++ piece) fault
    go (Short wanted) e h = let no = h.0 in absurd (cc)
    go (Bad other) e h =
        let is = h.0 in
        let same : fault ≡ other = cc in
        let s = stream_bad (bytes ++ piece) other e in
        inl ([], rw s (ap (λ f. Err f ∷ []) (sym same)))
    go (Whole f n) e h =
        let s = stream_whole (bytes ++ piece) f n e in
        elim h.1.answer [
          | inl is ↦ let heard = err_is (heard_of f) (n - length bytes) fault is in inl (heard_in (stream_of Server (drop n (bytes ++ piece))), rw (s, heard) refl)
          | inr is ↦
              let lack = is.0 in
              let same : fault ≡ NoMemory = cc in
              inr (same, cut_first MayLack f _ (stream_of Server (drop n (bytes ++ piece))) s is.1)
        ]
