-- Two histories that agree go on with the same entries.
use Rattle.std.proofs.lemmas.Option.{none-some}
use Rattle.std.proofs.Common.{◌≡◌, refl, sym, ◌∙◌, subst, ℕ, ◌==◌, Bool, true, false, not, ◌&&◌, ◌||◌, List, [], ◌∷◌, ◌++◌, append-nil, eq-eqb, Option, Some, None, option_and_then, if◌then◌else◌, arith}
use Rattle.std.proofs.lemmas.List.{append_assoc}
use Rattle.std.specs.Option.{option_or}
use Rattle.ipc_history.specs.Words.{last}
use Rattle.ipc_history.specs.Calls.{numbers, caller_of, to_of}
use Rattle.ipc_history.specs.Threads.{is_live, space_of}
use Rattle.ipc_history.specs.Phases.{is_over, open_call, is_receiving, is_transferring, moved_bytes}
use Rattle.ipc_history.specs.Matching.{from_specifier, shown_sender}
use Rattle.ipc_history.specs.NextOutput.{next_output, stop, stop_send, stop_receive, abort_receive, stop_after, turn_after}
use Rattle.ipc_history.specs.Legal.{Legal, Quiet, Follows, is_admissible}
use Rattle.ipc_history.specs.declared.entry.Entry.{Entry}
use Rattle.ipc_history.specs.declared.entry.Entry.TheVariants.{Given, Written}
use Rattle.ipc_history.specs.declared.entry.Input.TheVariants.{At, Opened, Called, Exreg, Broke, Moved}
use Rattle.ipc_history.specs.declared.entry.Output.{Output}
use Rattle.ipc_history.specs.declared.entry.Output.TheVariants.{Began, Turned, Ended, Overflowed, Aborted, Failed}
use Rattle.ipc_laws.proofs.Befores.{shown_kept}
use Rattle.ipc_laws.proofs.Growth.{caller_of_kept, to_of_kept, open_is_called}
use Rattle.ipc_laws.proofs.Histories.{follows_at, named_open}
use Rattle.ipc_laws.proofs.OneOpen.{free_parts}
use Rattle.ipc_laws.proofs.Settling.{legal_push}
use Rattle.ipc_laws.proofs.ThreadChanges.{is_live_push}
use Rattle.ipc_laws.proofs.WordLemmas.{last_some_push}
use Rattle.ipc_laws.proofs.Finds.{find_passes}
use Rattle.ipc_threads.proofs.Overs.{over_not_transferring}
use Rattle.ipc_compact.specs.Agree.{Agree, SameEnd, SameCompact}
use Rattle.ipc_compact.proofs.SameCalls as same
use Rattle.ipc_compact.proofs.SameRules.{by_over, output_same}
use Rattle.ipc_compact.proofs.SameInputs.{open_call_same, inputs_same}
use Rattle.ipc_compact.proofs.SameCompact.{compact_agrees}
use Rattle.ipc_compact.proofs.Stepping.{stepped, called_other}

second_not : (a b : Bool) → (a && not b) ≡ true → b ≡ false
second_not a b h = grind arith

found_open : (P : List Entry) (t c : ℕ) → open_call P t ≡ Some c → is_over P c ≡ false
unfolding open_call
found_open P t c h = second_not _ _ (find_passes (λ n. (caller_of P n == t) && not (is_over P n)) c (numbers P) h)

module _ (P Q : List Entry) (legal : Legal P) (legal' : Legal Q) (agree : Agree P Q) where
  transferring_same : (k c : ℕ) → is_transferring P k c ≡ is_transferring Q k c
  transferring_same k c = by_over P Q legal legal' agree Bool (λ P k. is_transferring P k c) false (λ P k o. over_not_transferring P k c o) k (λ o. same.transferring P Q agree k o c)

  received_same : (c : ℕ) → is_over P c ≡ false → abort_receive P c ≡ abort_receive Q c
  unfolding abort_receive
  received_same c o = same.taken_by P Q agree c o Output (λ P k. if is_transferring P k c then Some (Aborted k c (moved_bytes P k)) else None)
      (λ k e. rw (transferring_same k c, (agree.senders c k o e).bytes) refl)

  stop_same : (control c : ℕ) → is_over P c ≡ false → stop P control c ≡ stop Q control c
  unfolding stop stop_send stop_receive
  stop_same control c o = rw (same.sending P Q agree c o, same.receiving P Q agree c o, same.aborts_same P Q agree c o, received_same c o) refl

  of_call : (f : List Entry → ℕ → Option Output) (t : ℕ) → ((c : ℕ) → is_over P c ≡ false → f P c ≡ f Q c) → option_and_then (f P) (open_call P t) ≡ option_and_then (f Q) (open_call Q t)
  of_call f t h = rw (← open_call_same P Q legal legal' agree t) (go (open_call P t) refl)
    where
      go : (r : Option ℕ) → open_call P t ≡ r → option_and_then (f P) r ≡ option_and_then (f Q) r
      go None e = refl
      go (Some c) e = h c (found_open P t c e)

  stopped : (t d control : ℕ) → is_live P t ≡ true → stop_after P (Given (Exreg t d control)) ≡ stop_after Q (Given (Exreg t d control))
  unfolding stop_after
  stopped t d control alive = go (is_live P d) refl
    where
      x : option_and_then (stop P control) (open_call P d) ≡ option_and_then (stop Q control) (open_call Q d)
      x = of_call (λ P c. stop P control c) d (stop_same control)

      go : (b : Bool) → is_live P d ≡ b → (if is_live P d && (space_of P d == space_of P t) then option_and_then (stop P control) (open_call P d) else None) ≡ (if is_live Q d && (space_of Q d == space_of Q t) then option_and_then (stop Q control) (open_call Q d) else None)
      go true l = rw (agree.space d l, agree.space t alive, agree.live d, x) refl
      go false l = rw (l, sym (agree.live d) ∙ l) refl

  turned : (n m : ℕ) → shown_sender P n ≡ shown_sender Q n → caller_of P n ≡ caller_of Q n → to_of P n ≡ to_of Q n → turn_after P (Written (Began n m)) ≡ turn_after Q (Written (Began n m))
  unfolding turn_after
  turned n m s c to = rw (s, c, to) (rw (x (shown_sender Q n) (caller_of Q n) (to_of Q n)) refl)
    where
      x : (t by target : ℕ) → option_and_then (λ r. if is_receiving P r && (from_specifier P r == by) then Some (Turned r target) else None) (open_call P t) ≡ option_and_then (λ r. if is_receiving Q r && (from_specifier Q r == by) then Some (Turned r target) else None) (open_call Q t)
      x t by target = of_call (λ P r. if is_receiving P r && (from_specifier P r == by) then Some (Turned r target) else None) t (λ r o. rw (same.receiving P Q agree r o, (agree.calls r o).wanted) refl)

-- What comes of the last entry

last_is : (P : List Entry) (e : Entry) → last (P ++ e ∷ []) ≡ Some e
last_is P e = last_some_push Some P e

alive_of : (P : List Entry) (t d control : ℕ) → Follows P (Given (Exreg t d control)) → is_live P t ≡ true
unfolding Follows is_admissible
alive_of P t d control follows = (free_parts P t (first _ _ follows.1)).0
  where
    first : (a b : Bool) → (a && b) ≡ true → a ≡ true
    first a b h = grind arith

module _ (P Q : List Entry) (e : Entry) (legal : Legal P) (legal' : Legal Q) (follows : Follows P e) (follows' : Follows Q e) (agree : Agree P Q) where
  agree2 : Agree (P ++ e ∷ []) (Q ++ e ∷ [])
  agree2 = stepped P Q e legal legal' follows follows' agree

  stops : (x : Entry) → e ≡ x → stop_after (P ++ e ∷ []) x ≡ stop_after (Q ++ e ∷ []) x
  unfolding stop_after
  stops (Given (Exreg t d control)) is = stopped (P ++ e ∷ []) (Q ++ e ∷ []) (legal_push P e legal follows) (legal_push Q e legal' follows') agree2 t d control
      (subst (λ x. is_live (P ++ x ∷ []) t ≡ true) (sym is) (is_live_push P (Given (Exreg t d control)) t refl refl ∙ alive_of P t d control (subst (Follows P) is follows)))
  stops (Given (At moment)) is = refl
  stops (Given (Opened thread space)) is = refl
  stops (Given (Called n thread call)) is = refl
  stops (Given (Broke thread)) is = refl
  stops (Given (Moved n count)) is = refl
  stops (Written output) is = refl

  turns : (x : Entry) → e ≡ x → turn_after (P ++ e ∷ []) x ≡ turn_after (Q ++ e ∷ []) x
  unfolding turn_after
  turns (Written (Began n m)) is =
      let o = named_open P (Written (Began n m)) (subst (Follows P) is follows) n (first (n == n) (m == n) (eq-eqb n n refl)) refl in
      let c = open_is_called P n o in
      let c' = called_other P Q e legal legal' follows follows' agree n c in
      let it = agree.calls n o in
      turned (P ++ e ∷ []) (Q ++ e ∷ []) (legal_push P e legal follows) (legal_push Q e legal' follows') agree2 n m
      (shown_kept P (e ∷ []) n c ∙ (it.shown ∙ sym (shown_kept Q (e ∷ []) n c')))
      (caller_of_kept P (e ∷ []) n c ∙ (same.caller P Q n it.call ∙ sym (caller_of_kept Q (e ∷ []) n c')))
      (to_of_kept P (e ∷ []) n c ∙ (same.to P Q n it.call ∙ sym (to_of_kept Q (e ∷ []) n c')))
    where
      first : (a b : Bool) → a ≡ true → (a || b) ≡ true
      first a b h = grind arith
  turns (Written (Turned n thread)) is = refl
  turns (Written (Ended n m)) is = refl
  turns (Written (Overflowed n m offset)) is = refl
  turns (Written (Aborted n m count)) is = refl
  turns (Written (Failed n code)) is = refl
  turns (Given input) is = refl

  pub end2 : SameEnd (P ++ e ∷ []) (Q ++ e ∷ [])
  end2 = record {
    stops = rw (last_is P e, last_is Q e) (stops e refl);
    turns = rw (last_is P e, last_is Q e) (turns e refl);
  }

-- An entry that follows one follows the other
pub follow_same : (P Q : List Entry) (e : Entry) → Legal P → Legal Q → Agree P Q → SameEnd P Q → Follows P e → Follows Q e
unfolding Follows
follow_same P Q (Written output) legal legal' agree ends follows = sym (output_same P Q legal legal' agree ends) ∙ follows
follow_same P Q (Given input) legal legal' agree ends follows = (sym (output_same P Q legal legal' agree ends) ∙ follows.0, sym (inputs_same P Q legal legal' agree input) ∙ follows.1)

pub front_follows : (P : List Entry) (e : Entry) (X : List Entry) → Legal (P ++ e ∷ X) → Follows P e
front_follows P e X h = follows_at (P ++ e ∷ X) h e (record { front = P; rest = X; whole = refl })

-- so does a list of them
pub go_on : (X P Q : List Entry) → Legal P → Legal Q → Agree P Q → SameEnd P Q → Legal (P ++ X) → Legal (Q ++ X)
go_on [] P Q legal legal' agree ends h = subst Legal (sym (append-nil Q)) legal'
go_on (e ∷ X) P Q legal legal' agree ends h =
    let f = front_follows P e X h in
    let f' = follow_same P Q e legal legal' agree ends f in
    let one : Legal ((P ++ e ∷ []) ++ X) = subst Legal (sym (append_assoc P (e ∷ []) X)) h in
    subst Legal (append_assoc Q (e ∷ []) X)
    (go_on X (P ++ e ∷ []) (Q ++ e ∷ []) (legal_push P e legal f) (legal_push Q e legal' f') (stepped P Q e legal legal' f f' agree) (end2 P Q e legal legal' f f' agree) one)

-- Of quiet ones nothing comes
or_none : {Y : Type 0} (a b : Option Y) → option_or a b ≡ None → (a ≡ None) × (b ≡ None)
or_none None b h = (refl, h)
or_none (Some x) b h = absurd (none-some x (sym h))

pub quiet_end : (P Q : List Entry) → Quiet P → Quiet Q → SameEnd P Q
unfolding next_output
quiet_end P Q quiet quiet' =
    let p = or_none _ _ quiet in
    let q = or_none _ _ quiet' in
    record { stops = p.0 ∙ sym q.0; turns = (or_none _ _ p.1).0 ∙ sym (or_none _ _ q.1).0 }

pub follow_compact : (P Q : List Entry) (one other : List ℕ) → Legal P → Legal Q → Quiet P → Quiet Q → SameCompact P Q one other → (X : List Entry) → Legal (P ++ X) → Legal (Q ++ X)
follow_compact P Q one other legal legal' quiet quiet' same X h = go_on X P Q legal legal' (compact_agrees P Q one other legal legal' same) (quiet_end P Q quiet quiet') h
