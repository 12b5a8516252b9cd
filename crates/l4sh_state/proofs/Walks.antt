-- A walk over the entries of a history that stops at the first fault.
use Rattle.std.proofs.lemmas.List.{take_all}
use Rattle.std.proofs.Common.{◌≡◌, ◌∙◌, ℕ, ◌<◌, ◌≤◌, List, length, take, get_or}
use Rattle.ipc_history.specs.Legal.{Legal, Follows}
use Rattle.ipc_history.specs.declared.entry.Entry.{Entry}
use Rattle.ipc_laws.proofs.Histories.{follows_last}
use Rattle.ipc_threads.specs.PastSlots.{PastSlots}
use Rattle.ipc_threads.proofs.Walks.{IsWalked, one_more}
use Rattle.l4sh_state.specs.States.{IsFaultAt}

pub fault_at : (H before : List Entry) (i : ℕ) (e : Entry) → i < length H → e ≡ get_or H i e → before ≡ take i H
    → Legal (take i H) → (Follows before e → ⊥) → IsFaultAt H i
fault_at H before i e within at same legal refused = record {
  within = within;
  before = legal;
  fault = λ l. refused (follows_last before e (rw (one_more H before i e within at same) at l));
}

pub walked_whole : (H past : List Entry) (i : ℕ) (slots : PastSlots) → length H ≤ i → IsWalked H i past slots → slots.past ≡ H
walked_whole H past i slots all walked = walked.told ∙ take_all i H all
