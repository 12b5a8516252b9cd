-- A walk over the entries of a history that builds its slots.
use Rattle.std.proofs.lemmas.List.{take_more}
use Rattle.std.proofs.Common.{◌≡◌, sym, ap, ◌∙◌, ℕ, ◌+◌, ◌<◌, List, [], ◌∷◌, ◌++◌, length, take, get_or}
use Rattle.ipc_history.specs.Legal.{Legal, Follows}
use Rattle.ipc_history.specs.declared.entry.Entry.{Entry}
use Rattle.ipc_laws.proofs.Settling.{legal_push}
use Rattle.ipc_threads.specs.PastSlots.{PastSlots}
use Rattle.ipc_threads.proofs.Starting.{nothing_legal}

-- the entries before a place are the past, that of the slots too, and they are legal
pub record IsWalked (H : List Entry) (i : ℕ) (past : List Entry) (slots : PastSlots) : Type 0 where
  pub walked : past ≡ take i H
  pub legal : Legal (take i H)
  pub told : slots.past ≡ take i H

pub walk_start : (H past : List Entry) (slots : PastSlots) → past ≡ [] → slots.past ≡ [] → IsWalked H 0 past slots
walk_start H past slots none told = record { walked = none; legal = nothing_legal; told = told }

module _ (H before : List Entry) (i : ℕ) (e : Entry) (within : i < length H) (at : e ≡ get_or H i e) (same : before ≡ take i H) where
  pub one_more : take (i + 1) H ≡ before ++ e ∷ []
  one_more = take_more H i e within ∙ (ap (λ x. take i H ++ x ∷ []) (sym at) ∙ ap (λ l. l ++ e ∷ []) (sym same))

  pub walk_on : (past : List Entry) (slots : PastSlots) → Legal (take i H) → past ≡ before ++ e ∷ [] → Follows before e
      → slots.past ≡ before ++ e ∷ [] → IsWalked H (i + 1) past slots
  walk_on past slots legal added follows told = record {
    walked = added ∙ sym one_more;
    legal = rw one_more (legal_push before e (rw same legal) follows);
    told = told ∙ sym one_more;
  }
