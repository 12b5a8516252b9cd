-- The open call of a thread, by a walk over the entries; and what is kept of it.
use Rattle.std.proofs.lemmas.Bool.{false≢true}
use Rattle.std.proofs.lemmas.Option.{none-some, same_Some}
use Rattle.std.proofs.Common.{◌≡◌, refl, sym, ap, ◌∙◌, ℕ, Bool, true, false, ◌==◌, eq-eqb, List, [], ◌∷◌, Option, Some, None, filter_map, find, is_some, option_and_then, if◌then◌else◌}
use Rattle.std.specs.Option.{option_or}
use Rattle.ipc_items.specs.Strings.{size_of}
use Rattle.ipc_history.specs.CallParts.{CallParts}
use Rattle.ipc_history.specs.Calls.{call_at, caller_of, from_of, message_size, numbers, receive_period_of, send_period_of, strings_of, to_of}
use Rattle.ipc_history.specs.Entries.{call_in, number_in}
use Rattle.ipc_history.specs.Matching.{from_specifier, shown_sender}
use Rattle.ipc_history.specs.Phases.{moved_bytes}
use Rattle.ipc_history.specs.Words.{first_some}
use Rattle.ipc_history.specs.declared.entry.Entry.{Entry}
use Rattle.ipc_history.specs.declared.entry.Entry.TheVariants.{Given, Written}
use Rattle.ipc_history.specs.declared.entry.Input.TheVariants.{At, Opened, Called, Exreg, Broke, Moved}
use Rattle.ipc_threads.specs.Standings.{phase_of, since_of, standing_of}
use Rattle.ipc_compact.specs.Making.{is_open_from, open_in}
use Rattle.ipc_compact.specs.SlotsKept.{open_from}

pub standing_is : (K : List Entry) (n caller : ℕ) (call : CallParts) → call_at K n ≡ Some (caller, call) → standing_of K n ≡ record {
  number = n;
  caller = caller;
  to = call.to;
  from = call.from;
  awaited = from_specifier K n;
  shown = shown_sender K n;
  since = since_of K n;
  send_period = call.send_period;
  receive_period = call.receive_period;
  size = size_of call.strings;
  moved = moved_bytes K n;
  phase = phase_of K n;
}
unfolding standing_of caller_of to_of from_of send_period_of receive_period_of message_size strings_of
standing_is K n caller call h = rw h refl

abbrev if_passes : (ℕ → Bool) → Entry → Option ℕ
if_passes test e = option_and_then (λ n. if test n then Some n else None) (number_in e)

found_so : (test : ℕ → Bool) (H : List Entry) → first_some (if_passes test) H ≡ find test (filter_map number_in H)
found_so test [] = refl
found_so test (Given (Called n thread call) ∷ H) = go (test n) (found_so test H)
  where
    go : (b : Bool) → first_some (if_passes test) H ≡ find test (filter_map number_in H) → option_or (if b then Some n else None) (first_some (if_passes test) H) ≡ (if b then Some n else find test (filter_map number_in H))
    go true later = refl
    go false later = later
found_so test (Given (At moment) ∷ H) = found_so test H
found_so test (Given (Opened thread space) ∷ H) = found_so test H
found_so test (Given (Exreg thread target control) ∷ H) = found_so test H
found_so test (Given (Broke thread) ∷ H) = found_so test H
found_so test (Given (Moved n count) ∷ H) = found_so test H
found_so test (Written output ∷ H) = found_so test H

pub open_found : (K : List Entry) (over : List ℕ) (t : ℕ) → first_some (open_in K over t) K ≡ open_from K over t
unfolding numbers
open_found K over t = found_so (is_open_from K over t) K

-- a call that is found was entered
entered : (test : ℕ → Bool) (H : List Entry) (n : ℕ) → first_some (if_passes test) H ≡ Some n → is_some (first_some (call_in n) H) ≡ true
entered test [] n h = absurd (none-some n h)
entered test (Given (Called k thread call) ∷ H) n h = go (entered test H n) (test k) refl (k == n) refl
  where
    go : (first_some (if_passes test) H ≡ Some n → is_some (first_some (call_in n) H) ≡ true) → (b : Bool) → test k ≡ b → (c : Bool) → (k == n) ≡ c → is_some (option_or (if k == n then Some (thread, call) else None) (first_some (call_in n) H)) ≡ true
    go later b is true same = rw same refl
    go later true is false other = absurd (false≢true (sym other ∙ eq-eqb k n (same_Some k n (sym (rw is refl) ∙ h))))
    go later false is false other = rw other (later (rw is at h))
entered test (Given (At moment) ∷ H) n h = entered test H n h
entered test (Given (Opened thread space) ∷ H) n h = entered test H n h
entered test (Given (Exreg thread target control) ∷ H) n h = entered test H n h
entered test (Given (Broke thread) ∷ H) n h = entered test H n h
entered test (Given (Moved k count) ∷ H) n h = entered test H n h
entered test (Written output ∷ H) n h = entered test H n h

pub open_is_there : (K : List Entry) (over : List ℕ) (t n : ℕ) → open_from K over t ≡ Some n → call_at K n ≡ None → ⊥
unfolding call_at
open_is_there K over t n found none = false≢true (ap is_some (sym none) ∙ entered (is_open_from K over t) K n (open_found K over t ∙ found))
