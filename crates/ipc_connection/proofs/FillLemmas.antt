-- Filling up what is held of a frame, with bytes that are kept or counted off.
use Rattle.std.proofs.Common.{◌≡◌, inl, inr, ℕ, zero, suc, ◌+◌, ◌≤◌, true, false, Bool, Result, List, [], ◌++◌, length, take, drop, replicate, Ok, Err, refl, sym, ap, ◌∙◌, arith, length-append, length-drop}
use Rattle.std.proofs.lemmas.List.{append-nil, append_assoc, take_at, take-append-drop, drop-drop, drop_all, nil_from_length, length-take-le, length-replicate}
use Rattle.ipc_frame.specs.declared.fault.FrameFault.{FrameFault}
use Rattle.ipc_frame.specs.declared.kind.Side.TheVariants.{Server}
use Rattle.ipc_frame.specs.declared.frame.Frame.{Frame}
use Rattle.ipc_frame.specs.Numbers.{IsBytes}
use Rattle.ipc_frame.specs.Reading.{Short, Bad, Whole, reading}
use Rattle.ipc_frame.proofs.NumberLemmas.{bytes_take, bytes_drop, bytes_append}
use Rattle.ipc_frame.proofs.StreamLemmas.{kept, bad_told, whole_told}
use Rattle.ipc_connection.specs.Holding.{Kept, AreGone, Keeps, FillsUp}

-- the parts of an answer
abbrev pub used_of : Result (ℕ × Bool) FrameFault → ℕ
used_of (Ok p) = p.0
used_of (Err fault) = 0

abbrev flag_of : Result (ℕ × Bool) FrameFault → Bool
flag_of (Ok p) = p.1
flag_of (Err fault) = false

abbrev answered : ℕ → Bool → Result (ℕ × Bool) FrameFault
answered used whole = Ok (used, whole)

pub not_both : (a b : ℕ) → answered a true ≡ answered b false → ⊥
not_both a b e = let no : true ≡ false = ap flag_of e in cc

-- a step that takes some of the bytes that are wanted
pub step_joined : (held piece : List ℕ) (used count : ℕ) (whole : List ℕ) → held ++ drop used piece ≡ whole → (held ++ take count (drop used piece)) ++ drop (used + count) piece ≡ whole
step_joined held piece used count whole e =
    append_assoc held (take count (drop used piece)) (drop (used + count) piece)
    ∙ (ap (λ xs. held ++ (take count (drop used piece) ++ xs)) (sym (drop-drop count used piece)) ∙ (ap (λ xs. held ++ xs) (take-append-drop count (drop used piece)) ∙ e))

-- bytes that may have been counted off

zeros : (n : ℕ) → IsBytes (replicate n 0)
zeros zero i = omega arith
zeros (suc n) zero = omega arith
zeros (suc n) (suc i) = zeros n i

pub some_gone : (held : Kept) → AreGone held (replicate held.lost 0)
some_gone held = record { counted = length-replicate held.lost 0; are_bytes = zeros held.lost }

pub none_gone : (held : Kept) (gone : List ℕ) → held.lost ≡ 0 → AreGone held gone → gone ≡ []
none_gone held gone e are = nil_from_length gone (are.counted ∙ e)

no_bytes : IsBytes []
no_bytes i = omega arith

pub record Moved (old new : Kept) (back more : List ℕ) : Type 0 where
  pub gone : List ℕ
  pub are_gone : AreGone new gone
  pub bytes_are : new.bytes ++ gone ≡ (old.bytes ++ back) ++ more

pub keeps_moved : (old new : Kept) (back more : List ℕ) → AreGone old back → IsBytes more → Keeps old more new → Moved old new back more
keeps_moved old new back more are bytes (inl k) =
    let none = none_gone old back k.0 are in
    record {
      gone = [];
      are_gone = record { counted = sym k.1; are_bytes = no_bytes };
      bytes_are = append-nil new.bytes ∙ (k.2 ∙ ap (λ xs. xs ++ more) (sym (ap (λ xs. old.bytes ++ xs) none ∙ append-nil old.bytes)));
    }
keeps_moved old new back more are bytes (inr k) =
    record {
      gone = back ++ more;
      are_gone = record { counted = length-append back more ∙ (ap (λ n. n + length more) are.counted ∙ sym k.1); are_bytes = bytes_append back more are.are_bytes bytes };
      bytes_are = ap (λ xs. xs ++ (back ++ more)) k.0 ∙ sym (append_assoc old.bytes back more);
    }

pub record Before (old new : Kept) (gone : List ℕ) (count : ℕ) : Type 0 where
  pub back : List ℕ
  pub more : List ℕ
  pub are_gone : AreGone old back
  pub are_bytes : IsBytes more
  pub count_is : length more ≡ count
  pub bytes_are : new.bytes ++ gone ≡ (old.bytes ++ back) ++ more

pub keeps_before : (old new : Kept) (gone more : List ℕ) → AreGone new gone → IsBytes more → Keeps old more new → Before old new gone (length more)
keeps_before old new gone more are bytes (inl k) =
    let none = none_gone new gone k.1 are in
    record {
      back = [];
      more = more;
      are_gone = record { counted = sym k.0; are_bytes = no_bytes };
      are_bytes = bytes;
      count_is = refl;
      bytes_are = ap (λ xs. new.bytes ++ xs) none ∙ (append-nil new.bytes ∙ (k.2 ∙ ap (λ xs. xs ++ more) (sym (append-nil old.bytes))));
    }
keeps_before old new gone more are bytes (inr k) =
    let total : length gone ≡ old.lost + length more = are.counted ∙ k.1 in
    record {
      back = take old.lost gone;
      more = drop old.lost gone;
      are_gone = record { counted = length-take-le old.lost gone (omega (arith, total)); are_bytes = bytes_take old.lost gone are.are_bytes };
      are_bytes = bytes_drop old.lost gone are.are_bytes;
      count_is = omega (arith, total, length-drop old.lost gone);
      bytes_are = ap (λ xs. xs ++ gone) k.0 ∙ (ap (λ xs. old.bytes ++ xs) (sym (take-append-drop old.lost gone)) ∙ sym (append_assoc old.bytes (take old.lost gone) (drop old.lost gone)));
    }

-- what is filled in, where the bytes held show enough
module _ (old piece : List ℕ) (new : Kept) (gone : List ℕ) (are : AreGone new gone) (used : ℕ) (joined : (new.bytes ++ gone) ++ drop used piece ≡ old ++ piece) (within : used ≤ length piece) where
  abbrev held : List ℕ
  held = new.bytes ++ gone

  pub fills_bad : (fault : FrameFault) → reading Server held ≡ Bad fault → FillsUp old piece new (Err fault)
  fills_bad fault e =
      let all : reading Server (old ++ piece) ≡ Bad fault = ap (reading Server) (sym joined) ∙ kept Server held (drop used piece) (Bad fault) e (bad_told fault) in
      rw all refl

  pub fills_whole : (f : Frame) (n : ℕ) → reading Server held ≡ Whole f n → n ≡ length held → FillsUp old piece new (Ok (used, true))
  fills_whole f n e exact =
      let all : reading Server (old ++ piece) ≡ Whole f n = ap (reading Server) (sym joined) ∙ kept Server held (drop used piece) (Whole f n) e (whole_told f n) in
      let l1 = length-append held (drop used piece) in
      let l2 = length-append old piece in
      let l3 = length-drop used piece in
      let same = ap length joined in
      let front : take n (old ++ piece) ≡ held = ap (take n) (sym joined) ∙ take_at held (drop used piece) n (sym exact) in
      rw all (used, refl, omega arith, record { gone = gone; are_gone = are; bytes_are = front }, ap (reading Server) front ∙ e)

  pub fills_short : (wanted : ℕ) → reading Server held ≡ Short wanted → length piece ≤ used → FillsUp old piece new (Ok (used, false))
  fills_short wanted e done =
      let none = drop_all used piece done in
      let same : held ≡ old ++ piece = sym (append-nil held) ∙ (ap (λ xs. held ++ xs) (sym none) ∙ joined) in
      let all : reading Server (old ++ piece) ≡ Short wanted = ap (reading Server) (sym same) ∙ e in
      let count : used ≡ length piece = omega arith in
      rw all (ap (λ k. Ok (k, false)) count, record { gone = gone; are_gone = are; bytes_are = sym same })
