-- What a decoder makes of what it was filled with.
use Rattle.std.proofs.Common.{◌≡◌, ◌⊎◌, inl, inr, Result, Option, Bool, not, ◌==◌, ℕ, ◌+◌, ◌-◌, ◌≤◌, true, false, List, [], ◌∷◌, ◌++◌, length, take, Some, None, Ok, Err, refl, sym, ap, subst, ◌∙◌, arith, length-append}
use Rattle.std.proofs.lemmas.List.{length-take-le, nil_from_length}
use Rattle.std.specs.Bool.{⊤}
use Rattle.std.proofs.lemmas.Bool.{eqb-false}
use Rattle.ipc_frame.specs.declared.fault.FrameFault.{FrameFault}
use Rattle.ipc_frame.specs.declared.fault.FrameFault.TheVariants.{NoMemory, Unfinished}
use Rattle.ipc_frame.specs.declared.frame.Frame.{Frame}
use Rattle.ipc_frame.specs.declared.kind.Side.TheVariants.{Server}
use Rattle.ipc_frame.specs.Reading.{Reading, Short, Bad, Whole, reading}
use Rattle.ipc_frame.proofs.FoundLemmas.{whole_within}
use Rattle.ipc_connection.proofs.FillLemmas.{used_of, not_both}
use Rattle.ipc_connection.specs.Holding.{Kept, AreGone, HoldsIn, Fills, FillsUp, IsWhole, HearsOf}
use Rattle.ipc_connection.specs.Taking.{Decoding, Holds, IsUnfinished, Takes, Finishes, MayLack, answer_of}
use Rattle.ipc_connection.specs.Hearing.{heard_of}
use Rattle.ipc_connection.specs.declared.heard.Heard.{Heard}

pub new_unfinished : (held : Kept) → held ≡ record { bytes = []; lost = 0 } → (gone : List ℕ) → AreGone held gone → IsUnfinished (held.bytes ++ gone)
unfolding reading
new_unfinished held e gone are =
    let none : gone ≡ [] = nil_from_length gone (are.counted ∙ ap (λ (k : Kept). k.lost) e) in
    rw (ap (λ (k : Kept). k.bytes) e, none) (4, refl)

-- by the answer of filling
pub record Filled (old piece : List ℕ) (new : Kept) (used : ℕ) : Type 0 where
  pub frame : Frame
  pub size : ℕ
  pub read : reading Server (old ++ piece) ≡ Whole frame size
  pub used_is : used ≡ size - length old
  pub within : length old ≤ size
  pub gone : List ℕ
  pub are_gone : AreGone new gone
  pub whole : IsWhole (new.bytes ++ gone) frame

pub filled : (old piece : List ℕ) (new : Kept) (used : ℕ) → FillsUp old piece new (Ok (used, true)) → Filled old piece new used
filled old piece new used h = go (reading Server (old ++ piece)) refl h
  where
    go : (r : Reading) → reading Server (old ++ piece) ≡ r → Fills r old piece new (Ok (used, true)) → Filled old piece new used
    go (Short wanted) e h = absurd (not_both used (length piece) h.0)
    go (Bad fault) e h = absurd (cc)
    go (Whole f n) e h =
        let same : used ≡ h.0 = ap used_of h.1 in
        let within = whole_within Server (old ++ piece) f n e in
        let size : length (take n (old ++ piece)) ≡ n = length-take-le n (old ++ piece) within.1 in
        let held = h.3 in
        let count : length (new.bytes ++ held.gone) ≡ n = ap length (sym held.bytes_are) ∙ size in
        record {
          frame = f;
          size = n;
          read = e;
          used_is = omega (arith, same, h.2);
          within = omega (arith, h.2);
          gone = held.gone;
          are_gone = held.are_gone;
          whole = ap (reading Server) (sym held.bytes_are) ∙ (h.4 ∙ ap (Whole f) (sym count));
        }

pub record Unfilled (old piece : List ℕ) (new : Kept) (used : ℕ) : Type 0 where
  pub wanted : ℕ
  pub read : reading Server (old ++ piece) ≡ Short wanted
  pub used_is : used ≡ length piece
  pub holds : HoldsIn new (old ++ piece)

pub unfilled : (old piece : List ℕ) (new : Kept) (used : ℕ) → FillsUp old piece new (Ok (used, false)) → Unfilled old piece new used
unfilled old piece new used h = go (reading Server (old ++ piece)) refl h
  where
    go : (r : Reading) → reading Server (old ++ piece) ≡ r → Fills r old piece new (Ok (used, false)) → Unfilled old piece new used
    go (Short wanted) e h = let same : used ≡ length piece = ap used_of h.0 in record { wanted = wanted; read = e; used_is = same; holds = h.1 }
    go (Bad fault) e h = absurd (cc)
    go (Whole f n) e h = absurd (not_both h.0 used (sym h.1))

pub spoilt : (old piece : List ℕ) (new : Kept) (fault : FrameFault) → FillsUp old piece new (Err fault) → reading Server (old ++ piece) ≡ Bad fault
spoilt old piece new fault h = go (reading Server (old ++ piece)) refl h
  where
    go : (r : Reading) → reading Server (old ++ piece) ≡ r → Fills r old piece new (Err fault) → reading Server (old ++ piece) ≡ Bad fault
    go (Short wanted) e h = let no = h.0 in absurd (cc)
    go (Bad other) e h = let same : other ≡ fault = cc in e ∙ ap Bad same
    go (Whole f n) e h = let no = h.1 in absurd (cc)

-- what is answered
abbrev wrapped : ℕ → Heard → Result (ℕ × Option Heard) FrameFault
wrapped used heard = Ok (used, Some heard)

abbrev failed : FrameFault → Result (ℕ × Option Heard) FrameFault
failed fault = Err fault

pub takes_none : (old piece : List ℕ) (kept : Kept) (new : Decoding) (used : ℕ) → new ≡ record { kept = kept.bytes; lost = kept.lost; spent = false } → FillsUp old piece kept (Ok (used, false)) → Takes old piece new (Ok (used, None))
unfolding Takes
takes_none old piece kept new used is h =
    let u = unfilled old piece kept used h in
    rw (u.read, u.used_is, is) (refl, record { unspent = refl; gone = u.holds.gone; counted = u.holds.are_gone.counted; are_bytes = u.holds.are_gone.are_bytes; bytes_are = u.holds.bytes_are })

pub takes_bad : (old piece : List ℕ) (kept : Kept) (new : Decoding) (fault : FrameFault) → new.spent ≡ true → FillsUp old piece kept (Err fault) → Takes old piece new (Err fault)
unfolding Takes
takes_bad old piece kept new fault spent h = let e = spoilt old piece kept fault h in rw e (refl, spent)

no_bytes : (new : Decoding) → new ≡ record { kept = []; lost = 0; spent = false } → Holds new []
no_bytes new e = rw e (record { unspent = refl; gone = []; counted = refl; are_bytes = λ i. omega arith; bytes_are = refl })

pub heard_answer : (f : Frame) (used n : ℕ) (heard : Heard) → used ≡ n → HearsOf f (Ok heard) → (wrapped used heard ≡ answer_of n (heard_of f)) ⊎ ((wrapped used heard ≡ Err NoMemory) × MayLack f)
heard_answer f used n heard e (inl h) = inl (rw (e, sym h) refl)
heard_answer f used n heard e (inr h) = let no = h.0 in absurd (cc)

pub fault_answer : (f : Frame) (n : ℕ) (fault : FrameFault) → HearsOf f (Err fault) → (failed fault ≡ answer_of n (heard_of f)) ⊎ ((failed fault ≡ Err NoMemory) × MayLack f)
fault_answer f n fault (inl h) = inl (rw (sym h) refl)
fault_answer f n fault (inr h) = let e = h.0 in let same : fault ≡ NoMemory = cc in inr (ap failed same, h.1)

pub takes_heard : (old piece : List ℕ) (kept : Kept) (new : Decoding) (used : ℕ) (heard : Heard) → new ≡ record { kept = []; lost = 0; spent = false } → FillsUp old piece kept (Ok (used, true)) → ((gone : List ℕ) (f : Frame) → AreGone kept gone → IsWhole (kept.bytes ++ gone) f → HearsOf f (Ok heard)) → Takes old piece new (Ok (used, Some heard))
unfolding Takes
takes_heard old piece kept new used heard is h hears =
    let f = filled old piece kept used h in
    let e = f.read in
    rw e (f.within, record { answer = heard_answer f.frame used (f.size - length old) heard f.used_is (hears f.gone f.frame f.are_gone f.whole); after = no_bytes new is })

pub takes_fault : (old piece : List ℕ) (kept : Kept) (new : Decoding) (used : ℕ) (fault : FrameFault) → new.spent ≡ true → FillsUp old piece kept (Ok (used, true)) → ((gone : List ℕ) (f : Frame) → AreGone kept gone → IsWhole (kept.bytes ++ gone) f → HearsOf f (Err fault)) → Takes old piece new (Err fault)
unfolding Takes
takes_fault old piece kept new used fault spent h hears =
    let f = filled old piece kept used h in
    let e = f.read in
    rw e (f.within, record { answer = fault_answer f.frame (f.size - length old) fault (hears f.gone f.frame f.are_gone f.whole); after = spent })

abbrev pub ended : FrameFault → Result ⊤ FrameFault
ended fault = Err fault

-- what a decoder holds, by its fields
pub old_held : (held : Kept) (spent : Bool) (decoder : Decoding) (bytes : List ℕ) → record { kept = held.bytes; lost = held.lost; spent = spent } ≡ decoder → Holds decoder bytes → HoldsIn held bytes
old_held held spent decoder bytes view h = record {
  gone = h.gone;
  are_gone = record { counted = h.counted ∙ sym (ap (λ (d : Decoding). d.lost) view); are_bytes = h.are_bytes };
  bytes_are = h.bytes_are ∙ ap (λ (d : Decoding). d.kept ++ h.gone) (sym view);
}

finishes_in : (bytes : List ℕ) (old new : Decoding) → (length bytes ≡ 0 → ⊥) → new.spent ≡ true → Finishes bytes old new (ended Unfinished)
finishes_in [] old new some spent = absurd (some refl)
finishes_in (byte ∷ bytes) old new some spent = (refl, spent)

pub finishes_unfinished : (held : Kept) (spent : Bool) (old new : Decoding) → record { kept = held.bytes; lost = held.lost; spent = spent } ≡ old → (length held.bytes + held.lost == 0) ≡ false → new.spent ≡ true → (bytes : List ℕ) → Holds old bytes → Finishes bytes old new (ended Unfinished)
finishes_unfinished held spent old new view some is bytes h =
    let o = old_held held spent old bytes view h in
    let big = eqb-false (length held.bytes + held.lost) 0 some in
    finishes_in bytes old new (λ none. omega (arith, none, ap length o.bytes_are, length-append held.bytes o.gone, o.are_gone.counted, big)) is

-- the flag of an answer, as a test found it
pub is_true : (flag : Bool) → not flag ≡ false → flag ≡ true
is_true true h = refl
is_true false h = absurd (cc)

pub is_false : (flag : Bool) → not flag ≡ true → flag ≡ false
is_false true h = absurd (cc)
is_false false h = refl

pub fills_flag : (old piece : List ℕ) (new : Kept) (used : ℕ) (flag whole : Bool) → flag ≡ whole → FillsUp old piece new (Ok (used, flag)) → FillsUp old piece new (Ok (used, whole))
fills_flag old piece new used flag whole e h = subst (λ (b : Bool). FillsUp old piece new (Ok (used, b))) e h

-- what is taken, behind all that a decoder may hold
pub taken_behind : (held : Kept) (spent : Bool) (old new : Decoding) (piece : List ℕ) (result : Result (ℕ × Option Heard) FrameFault) → record { kept = held.bytes; lost = held.lost; spent = spent } ≡ old → ((gone : List ℕ) → AreGone held gone → IsUnfinished (held.bytes ++ gone)) → ((gone : List ℕ) → AreGone held gone → Takes (held.bytes ++ gone) piece new result) → (bytes : List ℕ) → Holds old bytes → IsUnfinished bytes × Takes bytes piece new result
taken_behind held spent old new piece result view waits takes bytes h =
    let o = old_held held spent old bytes view h in (
      subst IsUnfinished (sym o.bytes_are) (waits o.gone o.are_gone),
      subst (λ b. Takes b piece new result) (sym o.bytes_are) (takes o.gone o.are_gone),
    )
