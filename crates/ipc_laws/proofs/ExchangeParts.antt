-- What a call of words that reaches a receiver tells those who take note of it.
use Rattle.std.proofs.Common.{◌≡◌, ℕ, List, [], ◌∷◌, ◌∙◌, true, false}
use Rattle.ipc_history.specs.CallParts.{CallParts}
use Rattle.ipc_history.specs.Calls.{is_called, caller_of}
use Rattle.ipc_history.specs.Phases.{is_over}
use Rattle.ipc_history.specs.Legal.{Legal, Follows}
use Rattle.ipc_history.specs.declared.entry.Entry.{Entry}
use Rattle.ipc_history.specs.declared.entry.Entry.TheVariants.{Given, Written}
use Rattle.ipc_history.specs.declared.entry.Input.TheVariants.{Called}
use Rattle.ipc_history.specs.declared.entry.Output.TheVariants.{Began, Ended}
use Rattle.ipc_laws.specs.Exchange.{Reaches, begun, called, exchanged}
use Rattle.ipc_laws.proofs.Calling.{caller_here, opened_here}
use Rattle.ipc_laws.proofs.Exchanging.{exchanges}
use Rattle.ipc_laws.proofs.Growth.{caller_of_kept, is_called_kept, open_is_called}
use Rattle.ipc_laws.proofs.PhaseParts.{receives_parts}
use Rattle.ipc_laws.proofs.Settling.{legal_push, written_follows}

module _ (P : List Entry) (n t r : ℕ) (call : CallParts) (legal : Legal P) (follows : Follows P (Given (Called n t call))) (reaches : Reaches P t call r) where
  pub exchange_begins : Follows (called P n t call) (Written (Began n r))
  exchange_begins = written_follows (called P n t call) (Began n r) (exchanges P n t call legal follows r reaches).begins

  pub exchange_ends : Follows (begun P n t call r) (Written (Ended n r))
  exchange_ends = written_follows (begun P n t call r) (Ended n r) (exchanges P n t call legal follows r reaches).ends

  pub receiver_open : is_over P r ≡ false
  receiver_open = (receives_parts P r r reaches.receives).opened

  entered : is_called (called P n t call) n ≡ true
  entered = open_is_called (called P n t call) n (opened_here P n t call legal follows r reaches)

  pub exchange_caller : caller_of (exchanged P n t call r) n ≡ t
  exchange_caller =
      caller_of_kept (begun P n t call r) (Written (Ended n r) ∷ []) n (is_called_kept (called P n t call) (Written (Began n r) ∷ []) n entered)
      ∙ (caller_of_kept (called P n t call) (Written (Began n r) ∷ []) n entered ∙ caller_here P n t call legal follows)

  pub exchange_legal : Legal (exchanged P n t call r)
  exchange_legal = legal_push (begun P n t call r) (Written (Ended n r)) (legal_push (called P n t call) (Written (Began n r)) (legal_push P (Given (Called n t call)) legal follows) exchange_begins) exchange_ends
