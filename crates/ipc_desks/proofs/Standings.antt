-- What the slots say of an open call.
use Rattle.std.proofs.Common.{◌≡◌, refl, ap, ◌∙◌, ℕ, false, List, Some}
use Rattle.ipc_words.specs.ThreadId.{number_of}
use Rattle.ipc_history.specs.Calls.{caller_of, from_of}
use Rattle.ipc_history.specs.Matching.{shown_sender}
use Rattle.ipc_history.specs.Phases.{is_over}
use Rattle.ipc_history.specs.Legal.{Legal}
use Rattle.ipc_history.specs.declared.entry.Entry.{Entry}
use Rattle.ipc_threads.specs.Slots.{Stands, slot_at}
use Rattle.ipc_threads.specs.Standings.{standing_of}
use Rattle.ipc_threads.specs.Steps.{standing_in}
use Rattle.ipc_threads.specs.declared.kept.KeptSlots.{KeptSlots}
use Rattle.ipc_threads.proofs.Holders.{slot_of_call}

pub standing_there : (P : List Entry) → Legal P → (slots : KeptSlots) → Stands P slots → (n : ℕ) → is_over P n ≡ false → (place : ℕ) → place ≡ number_of (caller_of P n) → standing_in (slot_at slots.table place) ≡ Some (standing_of P n)
standing_there P legal slots stands n o place is = rw is (ap standing_in (stands.table (number_of (caller_of P n))) ∙ slot_of_call P legal n o)

pub standing_caller : (P : List Entry) (n : ℕ) → (standing_of P n).caller ≡ caller_of P n
unfolding standing_of
standing_caller P n = refl

pub standing_from : (P : List Entry) (n : ℕ) → (standing_of P n).from ≡ from_of P n
unfolding standing_of
standing_from P n = refl

pub standing_shown : (P : List Entry) (n : ℕ) → (standing_of P n).shown ≡ shown_sender P n
unfolding standing_of
standing_shown P n = refl
