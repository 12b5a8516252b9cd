-- The bytes of a call: never more than it has, and in a quiet history some are left while it is
-- transferring.
use Rattle.std.proofs.lemmas.Bool.{cases_order}
use Rattle.std.proofs.lemmas.Option.{none-some}
use Rattle.std.proofs.lemmas.List.Sums.{sum_by_push}
use Rattle.std.proofs.Common.{◌≡◌, refl, sym, ap, ◌∙◌, ℕ, ◌+◌, ◌-◌, ◌<◌, ◌≤◌, zero-le, Bool, true, false, ◌==◌, eq-eqb, eqb-true, List, [], ◌∷◌, ◌++◌, Option, Some, None, option_and_then, inl, inr, arith}
use Rattle.std.specs.Option.{option_or}
use Rattle.ipc_words.specs.ThreadId.{nilthread}
use Rattle.ipc_history.specs.CallParts.{CallParts}
use Rattle.ipc_history.specs.Words.{first_some, last}
use Rattle.ipc_history.specs.Entries.{count_in, number_in}
use Rattle.ipc_history.specs.Blocks.{block_of}
use Rattle.ipc_history.specs.Calls.{numbers, call_at, is_called, to_of, strings_of, message_size}
use Rattle.ipc_history.specs.Phases.{receiver_of, is_transferring, moved_bytes}
use Rattle.ipc_history.specs.NextOutput.{next_output, stop_after, turn_after, end_of, partner_gone_of, meeting_of, timeout_of}
use Rattle.ipc_history.specs.Legal.{Legal, Follows, Quiet, is_admissible, may_move}
use Rattle.ipc_history.specs.declared.entry.Entry.{Entry}
use Rattle.ipc_history.specs.declared.entry.Entry.TheVariants.{Given, Written}
use Rattle.ipc_history.specs.declared.entry.Input.TheVariants.{At, Opened, Called, Exreg, Broke, Moved}
use Rattle.ipc_history.specs.declared.entry.Output.TheVariants.{Ended}
use Rattle.ipc_laws.proofs.Growth.{open_is_called, size_kept, to_of_kept}
use Rattle.ipc_laws.proofs.Histories.{began_place, called_place, legal_induction}
use Rattle.ipc_laws.proofs.OneOpen.{number_place}
use Rattle.ipc_laws.proofs.Pairing.{meets_at}
use Rattle.ipc_laws.proofs.PhaseParts.{Passes}
use Rattle.ipc_laws.proofs.Places.{first_none}
use Rattle.ipc_laws.proofs.Steps.{call_at_push}
use Rattle.ipc_laws.proofs.Tests.{not_both, right}

-- What it says that a history is quiet: of no call has a transfer to end, or a failure or a meeting
-- to come

pub record Rests (P : List Entry) (n : ℕ) : Type 0 where
  pub ends : end_of P n ≡ None
  pub fails : partner_gone_of P n ≡ None
  pub meets : meeting_of P n ≡ None
  pub expires : timeout_of P n ≡ None

none_left : {X : Type 0} (a b : Option X) → option_or a b ≡ None → a ≡ None
none_left None b h = refl
none_left (Some x) b h = h

pub none_right : {X : Type 0} (a b : Option X) → option_or a b ≡ None → b ≡ None
none_right None b h = h
none_right (Some x) b h = absurd (none-some x (sym h))

pub quiet_rests : (P : List Entry) → Quiet P → (n : ℕ) → is_called P n ≡ true → Rests P n
unfolding next_output
quiet_rests P q n c =
    let made = called_place P n c in
    let at = number_place P n made.thread made.call made.at in
    let ends = first_some (end_of P) (numbers P) in
    let gone = first_some (partner_gone_of P) (numbers P) in
    let meetings = first_some (meeting_of P) (numbers P) in
    let expiries = first_some (timeout_of P) (numbers P) in
    let after : option_or ends (option_or gone (option_or meetings expiries)) ≡ None = none_right (option_and_then (turn_after P) (last P)) _ (none_right (option_and_then (stop_after P) (last P)) _ q) in
    let rest = none_right ends (option_or gone (option_or meetings expiries)) after in
    let late = none_right gone (option_or meetings expiries) rest in
    record {
      ends = first_none (end_of P) (numbers P) n at (none_left ends _ after);
      fails = first_none (partner_gone_of P) (numbers P) n at (none_left gone _ rest);
      meets = first_none (meeting_of P) (numbers P) n at (none_left meetings expiries late);
      expires = first_none (timeout_of P) (numbers P) n at (none_right meetings expiries late);
    }

-- Bytes

pub moved_push : (P : List Entry) (e : Entry) (n : ℕ) → moved_bytes (P ++ e ∷ []) n ≡ moved_bytes P n + count_in n e
unfolding moved_bytes
moved_push P e n = sum_by_push (count_in n) P e

pub size_same : (P Q : List Entry) (n : ℕ) → call_at Q n ≡ call_at P n → message_size Q n ≡ message_size P n
unfolding message_size strings_of
size_same P Q n same = rw same refl

size_of_none : (P : List Entry) (n : ℕ) → is_called P n ≡ false → message_size P n ≡ 0
unfolding message_size strings_of is_called
size_of_none P n h = go (call_at P n) refl
  where
    go : (o : Option (ℕ × CallParts)) → call_at P n ≡ o → message_size P n ≡ 0
    go None e = rw e refl
    go (Some c) e = not_both (rw e refl) h

abbrev Within : List Entry → Type 0
Within P = (n : ℕ) → moved_bytes P n ≤ message_size P n

pub counted : (P : List Entry) (n count : ℕ) → is_admissible P (Moved n count) ≡ true → count ≡ block_of P n
unfolding is_admissible may_move
counted P n count h = eqb-true _ _ (right _ _ h)

-- an entry that enters no call and copies nothing for n
still_within : (P : List Entry) (e : Entry) → number_in e ≡ None → Within P → (n : ℕ) → count_in n e ≡ 0 → moved_bytes (P ++ e ∷ []) n ≤ message_size (P ++ e ∷ []) n
still_within P e none h n c = rw (moved_push P e n, size_same P (P ++ e ∷ []) n (call_at_push P e none n)) (omega (arith, h n))

step : (P : List Entry) (e : Entry) → Legal P → Within P → Follows P e → Within (P ++ e ∷ [])
unfolding Follows
step P (Given (Moved k count)) l h f n = go (k == n) refl
  where
    go : (b : Bool) → (k == n) ≡ b → moved_bytes (P ++ Given (Moved k count) ∷ []) n ≤ message_size (P ++ Given (Moved k count) ∷ []) n
    go false e = still_within P (Given (Moved k count)) refl h n (rw e refl)
    go true e =
        let same : k ≡ n = eqb-true k n e in
        let more : count_in n (Given (Moved k count)) ≡ count = rw e refl in
        let much : count ≡ block_of P n = rw same at (counted P k count f.1) in
        rw (moved_push P (Given (Moved k count)) n, size_same P (P ++ Given (Moved k count) ∷ []) n (call_at_push P (Given (Moved k count)) refl n)) (omega (arith, more, much, h n))
step P (Given (Called k thread call)) l h f n = go (is_called P n) refl
  where
    go : (b : Bool) → is_called P n ≡ b → moved_bytes (P ++ Given (Called k thread call) ∷ []) n ≤ message_size (P ++ Given (Called k thread call) ∷ []) n
    go true c = rw (moved_push P (Given (Called k thread call)) n, size_kept P (Given (Called k thread call) ∷ []) n c) (omega (arith, h n))
    go false c = rw (moved_push P (Given (Called k thread call)) n) (omega (arith, h n, size_of_none P n c))
step P (Given (At moment)) l h f n = still_within P (Given (At moment)) refl h n refl
step P (Given (Opened thread space)) l h f n = still_within P (Given (Opened thread space)) refl h n refl
step P (Given (Exreg thread target control)) l h f n = still_within P (Given (Exreg thread target control)) refl h n refl
step P (Given (Broke thread)) l h f n = still_within P (Given (Broke thread)) refl h n refl
step P (Written output) l h f n = still_within P (Written output) refl h n refl

nothing : (n : ℕ) → moved_bytes [] n ≤ message_size [] n
unfolding moved_bytes
nothing n = zero-le

pub moved_within : (P : List Entry) → Legal P → (n : ℕ) → moved_bytes P n ≤ message_size P n
moved_within P h = legal_induction Within nothing step P h

-- While n is transferring in a quiet history, some of its bytes are left

pub transferring_whole : (P : List Entry) (n m : ℕ) → Passes P n m → is_transferring P n m ≡ true
unfolding is_transferring
transferring_whole P n m p = rw (p.pair, eq-eqb m m refl, p.running, p.opened, p.opened_too) refl

pub some_left : (P : List Entry) → Legal P → Quiet P → (n m : ℕ) → Passes P n m → moved_bytes P n < message_size P n
unfolding end_of
some_left P h q n m p = elim (cases_order (moved_bytes P n) (message_size P n)) [
  | inl e ↦ (let gives : end_of P n ≡ Some (Ended n m) = rw (p.pair, transferring_whole P n m p, eq-eqb (moved_bytes P n) (message_size P n) e) refl in absurd (none-some (Ended n m) (sym (quiet_rests P q n (open_is_called P n p.opened)).ends ∙ gives)))
  | inr (inl l) ↦ l
  | inr (inr l) ↦ absurd (omega (arith, moved_within P h n))
]

-- the sending call of a transfer has a receiver
pub paired_to : (P : List Entry) → Legal P → (n m : ℕ) → receiver_of P n ≡ Some m → (to_of P n == nilthread) ≡ false
paired_to P h n m pair =
    let at = began_place P n m pair in
    let s = (meets_at P h n m at).sends in
    let same : to_of P n ≡ to_of at.front n = ap (λ l. to_of l n) at.whole ∙ to_of_kept at.front _ n (open_is_called at.front n s.opened) in
    ap (λ t. t == nilthread) same ∙ s.named

pub transferring_to : (P : List Entry) → Legal P → (n m : ℕ) → Passes P n m → (to_of P n == nilthread) ≡ false
transferring_to P h n m p = paired_to P h n m p.pair
