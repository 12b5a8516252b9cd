-- After a quiet history an At brings only what is due.
use Rattle.std.proofs.lemmas.Option.{cond_some}
use Rattle.std.proofs.Common.{◌≡◌, refl, sym, ap, ◌∙◌, ℕ, ◌+◌, ◌≤◌, length, append_assoc, arith, true, false, if◌then◌else◌, List, [], ◌∷◌, ◌++◌, Some}
use Rattle.ipc_history.specs.Words.{first_some}
use Rattle.ipc_history.specs.Entries.{moment_in}
use Rattle.ipc_history.specs.Calls.{numbers, is_called}
use Rattle.ipc_history.specs.Threads.{now}
use Rattle.ipc_history.specs.Phases.{is_sending}
use Rattle.ipc_history.specs.Timing.{is_due, is_due_at}
use Rattle.ipc_laws.specs.Laws.{timeout_at}
use Rattle.ipc_laws.proofs.Changing.{others_unchanged}
use Rattle.ipc_laws.proofs.Histories.{follows_last, legal_front}
use Rattle.ipc_laws.proofs.IdleChanges.{idle_at, same_sending}
use Rattle.ipc_laws.proofs.IdleOutputs.{first_some_agrees, first_some_none, idle_brings}
use Rattle.ipc_laws.proofs.InputRoom.{input_room}
use Rattle.ipc_laws.proofs.Numbering.{number_was_called}
use Rattle.ipc_laws.proofs.Places.{first_place}
use Rattle.ipc_laws.proofs.RoomFalls.{failed_room}
use Rattle.ipc_laws.proofs.WordLemmas.{last_some_push}
use Rattle.ipc_history.specs.NextOutput.{timeout_of, stop_after, next_output}
use Rattle.ipc_history.specs.Legal.{Legal, Quiet, Follows}
use Rattle.ipc_laws.specs.Counting.{room_owed}
use Rattle.ipc_history.specs.declared.entry.Entry.{Entry}
use Rattle.ipc_history.specs.declared.entry.Entry.TheVariants.{Given, Written}
use Rattle.ipc_history.specs.declared.entry.Input.TheVariants.{At}
use Rattle.ipc_history.specs.declared.entry.Output.{Output}
use Rattle.ipc_history.specs.declared.entry.Output.TheVariants.{Failed}

module _ (P : List Entry) (m : ℕ) where
  abbrev Q : List Entry
  Q = P ++ Given (At m) ∷ []

  -- after a quiet history an At brings only the least call that is due
  pub at_next_output : Quiet P → next_output Q ≡ first_some (timeout_of Q) (numbers P)
  unfolding stop_after
  at_next_output q = idle_brings P (At m) (idle_at m) q

  moment_is : now Q ≡ m
  unfolding now
  moment_is = rw (last_some_push moment_in P (Given (At m))) refl

  -- a call is due after the At where it is due at its moment
  pub at_due : (n : ℕ) → is_called P n ≡ true → is_due Q n ≡ is_due_at P m n
  unfolding is_due
  at_due n c = rw moment_is ((others_unchanged P (Given (At m)) n c refl refl).due m)

  same_timeout : (n : ℕ) → is_called P n ≡ true → timeout_of Q n ≡ timeout_at P m n
  unfolding timeout_of timeout_at
  same_timeout n c = rw (at_due n c, same_sending P (At m) (idle_at m) n) refl

  -- so the least call that is due at the moment fails
  pub at_brings : Quiet P → next_output Q ≡ first_some (timeout_at P m) (numbers P)
  at_brings q = at_next_output q ∙ first_some_agrees (timeout_of Q) (timeout_at P m) (numbers P) (λ n at. same_timeout n (number_was_called P n at))

  -- with nothing due it stays quiet
  pub at_stays_quiet : Quiet P → ((n : ℕ) → is_called P n ≡ true → is_due_at P m n ≡ false) → Quiet Q
  unfolding timeout_at
  at_stays_quiet q none = at_brings q ∙ first_some_none (timeout_at P m) (numbers P) (λ n at. rw (none n (number_was_called P n at)) refl)

  -- and else a call fails
  pub at_fails : Quiet P → (o : Output) → next_output Q ≡ Some o → (n : ℕ) × (code : ℕ) × (o ≡ Failed n code)
  unfolding timeout_of
  at_fails q o e =
      let f = first_place (timeout_of Q) (numbers P) o (sym (at_next_output q) ∙ e) in
      let n = f.0 in
      let code = (if is_sending Q n then 0x2 else 0x3) in
      (n, code, sym (cond_some (is_due Q n) (Failed n code) o f.2).1)

-- an At that brings a next_output, and the failure that it brings, need no room that wasn't owed
pub at_room : (P : List Entry) (m : ℕ) (o : Output) → Legal (P ++ Given (At m) ∷ Written o ∷ []) → length (P ++ Given (At m) ∷ Written o ∷ []) + room_owed (P ++ Given (At m) ∷ Written o ∷ []) ≤ length P + room_owed P
unfolding Follows
at_room P m o h =
    let split = append_assoc P (Given (At m) ∷ []) (Written o ∷ []) in
    let all : Legal ((P ++ Given (At m) ∷ []) ++ Written o ∷ []) = rw split h in
    let before : Legal (P ++ Given (At m) ∷ []) = legal_front (P ++ Given (At m) ∷ []) (Written o ∷ []) all in
    let quiet : Quiet P = (follows_last P (Given (At m)) before).0 in
    let d : next_output (P ++ Given (At m) ∷ []) ≡ Some o = follows_last (P ++ Given (At m) ∷ []) (Written o) all in
    let f = at_fails P m quiet o d in
    let same : o ≡ Failed f.0 f.1 = f.2 in
    let fails = failed_room (P ++ Given (At m) ∷ []) before f.0 f.1 (d ∙ ap (λ o. Some o) same) in
    let at = input_room P (At m) before in
    rw (← split, same) (omega (arith, fails, at))
