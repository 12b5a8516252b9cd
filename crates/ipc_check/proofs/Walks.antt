-- A walk over the entries of a history that stops at the first fault.
use Rattle.std.proofs.lemmas.List.{take-append-drop, take_all}
use Rattle.std.proofs.Common.{◌≡◌, ap, ◌∙◌, ℕ, ◌+◌, ◌<◌, ◌≤◌, List, length, take, drop, get_or, Option}
use Rattle.ipc_history.specs.NextOutput.{next_output}
use Rattle.ipc_history.specs.Legal.{Legal, Follows}
use Rattle.ipc_history.specs.declared.entry.Entry.{Entry}
use Rattle.ipc_history.specs.declared.entry.Output.{Output}
use Rattle.ipc_laws.proofs.Histories.{follows_last, legal_front}
use Rattle.ipc_threads.specs.PastSlots.{PastSlots}
use Rattle.ipc_threads.proofs.Walks.{IsWalked, one_more}
use Rattle.ipc_check.specs.Faults.{IsFirstFault}
use Rattle.ipc_check.specs.declared.checker.Verdict.TheVariants.{Yes, No}

pub fault_at : (H before : List Entry) (i : ℕ) (e : Entry) → i < length H → e ≡ get_or H i e → before ≡ take i H
    → (expected : Option Output) → Legal (take i H) → (Follows before e → ⊥) → expected ≡ next_output before
    → IsFirstFault H i expected
fault_at H before i e within at same expected legal refused told = record {
  within = within;
  before = legal;
  fault = λ l. refused (follows_last before e (rw (one_more H before i e within at same) at l));
  told = told ∙ ap next_output same;
}

-- so the whole is not legal either
pub fault_whole : (H : List Entry) (i : ℕ) (expected : Option Output) → IsFirstFault H i expected → Legal H → ⊥
fault_whole H i expected fault legal = fault.fault (legal_front (take (i + 1) H) (drop (i + 1) H) (rw (take-append-drop (i + 1) H) legal))

pub no_is_not_yes : (i : ℕ) (expected : Option Output) → No i expected ≡ Yes → ⊥
no_is_not_yes i expected e = absurd (cc)

pub walked_whole : (H past : List Entry) (i : ℕ) (slots : PastSlots) → length H ≤ i → IsWalked H i past slots → Legal H
walked_whole H past i slots all walked = rw (take_all i H all) at walked.legal
