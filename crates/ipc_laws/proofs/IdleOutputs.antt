-- After a quiet history, an At or an ExchangeRegisters brings only what it stops, and what is due.
use Rattle.std.proofs.Common.{◌≡◌, refl, ap, ap₂, ◌∙◌, ℕ, Bool, true, cond, List, [], ◌∷◌, Option, Some, None, option_map, option_and_then, find}
use Rattle.std.specs.Option.{option_or}
use Rattle.ipc_history.specs.Words.{first_some}
use Rattle.ipc_history.specs.Calls.{numbers, is_called, caller_of}
use Rattle.ipc_history.specs.Phases.{open_call}
use Rattle.ipc_history.specs.Matching.{matches, match_of}
use Rattle.ipc_history.specs.NextOutput.{abort_send, abort_receive, stop, stop_send, stop_receive, end_of, is_send_partner_gone, is_receive_partner_gone, is_left, left_sender_code, left_receiver_code, partner_gone_code, partner_gone_of, meeting, meeting_of, timeout_of, stop_after, next_output}
use Rattle.ipc_history.specs.Legal.{Quiet}
use Rattle.ipc_history.specs.declared.entry.Entry.{Entry}
use Rattle.ipc_history.specs.declared.entry.Entry.TheVariants.{Given}
use Rattle.ipc_history.specs.declared.entry.Input.{Input}
use Rattle.ipc_history.specs.declared.entry.Input.TheVariants.{Exreg}
use Rattle.ipc_laws.proofs.Comes.{after_input}
use Rattle.ipc_laws.proofs.IdleChanges.{IsIdle, idle_exreg, same_broken, same_buffers, same_caller, same_from_specifier, same_live, same_matches, same_moved, same_over, same_receiving, same_sending, same_size, same_space, same_strings, same_to, same_transferring}
use Rattle.ipc_laws.proofs.InputLeaves.{Q, same_ends, same_receiver, same_sender}
use Rattle.ipc_laws.proofs.Moving.{quiet_rests}
use Rattle.ipc_laws.proofs.Numbering.{number_was_called, numbers_push}
use Rattle.ipc_laws.proofs.Places.{Place}

-- `find` and `first_some` by tests that agree

pub find_agrees : {X : Type 0} (p q : X → Bool) (xs : List X) → ((x : X) → p x ≡ q x) → find p xs ≡ find q xs
find_agrees p q [] h = refl
find_agrees p q (x ∷ xs) h = ap₂ (λ b o. cond b (Some x) o) (h x) (find_agrees p q xs h)

map_agrees : {X Y : Type 0} (f g : X → Y) (o : Option X) → ((x : X) → f x ≡ g x) → option_map f o ≡ option_map g o
map_agrees f g None h = refl
map_agrees f g (Some x) h = ap (λ y. Some y) (h x)

and_then_agrees : {X Y : Type 0} (f g : X → Option Y) (o : Option X) → ((x : X) → f x ≡ g x) → option_and_then f o ≡ option_and_then g o
and_then_agrees f g None h = refl
and_then_agrees f g (Some x) h = h x

pub first_some_none : {X Y : Type 0} (f : X → Option Y) (xs : List X) → ((x : X) → Place xs x → f x ≡ None) → first_some f xs ≡ None
first_some_none f [] h = refl
first_some_none f (x ∷ xs) h = rw (h x (record { front = []; rest = xs; whole = refl })) (first_some_none f xs (λ y at. h y (record { front = x ∷ at.front; rest = at.rest; whole = ap (λ l. x ∷ l) at.whole })))

-- `first_some` by functions that agree on the list
pub first_some_agrees : {X Y : Type 0} (f g : X → Option Y) (xs : List X) → ((x : X) → Place xs x → f x ≡ g x) → first_some f xs ≡ first_some g xs
first_some_agrees f g [] h = refl
first_some_agrees f g (x ∷ xs) h = ap₂ (λ a b. option_or a b) (h x (record { front = []; rest = xs; whole = refl })) (first_some_agrees f g xs (λ y at. h y (record { front = x ∷ at.front; rest = at.rest; whole = ap (λ l. x ∷ l) at.whole })))

module _ (P : List Entry) (input : Input) (idle : IsIdle input) where
  same_end : (n : ℕ) → end_of (Q P input) n ≡ end_of P n
  unfolding end_of
  same_end n = simp (same_receiver P input n, same_transferring P input idle, same_moved P input idle n, same_size P input idle n)

  same_left : (n a b c : ℕ) → is_left (Q P input) n a b c ≡ is_left P n a b c
  unfolding is_left
  same_left n a b c = rw (same_over P input idle n, same_ends P input a b, same_caller P input idle c, same_broken P input idle (caller_of P c)) refl

  same_partner_gone : (n : ℕ) → partner_gone_of (Q P input) n ≡ partner_gone_of P n
  unfolding partner_gone_of partner_gone_code is_send_partner_gone is_receive_partner_gone left_sender_code left_receiver_code
  same_partner_gone n = simp (same_sending P input idle, same_to P input idle, same_live P input idle, same_caller P input idle, same_receiving P input idle, same_from_specifier P input idle, same_receiver P input, same_sender P input, same_left, same_moved P input idle)

  same_meets : (n k : ℕ) → meeting (Q P input) n k ≡ meeting P n k
  unfolding meeting
  same_meets n k = rw (same_strings P input idle n, same_buffers P input idle k) refl

  same_meeting : (n : ℕ) → is_called P n ≡ true → meeting_of (Q P input) n ≡ meeting_of P n
  unfolding meeting_of match_of
  same_meeting n c = rw (find_agrees (matches (Q P input) n) (matches P n) (numbers (Q P input)) (same_matches P input idle n c), numbers_push P (Given input) idle.enters_none) (map_agrees (meeting (Q P input) n) (meeting P n) (find (matches P n) (numbers P)) (same_meets n))

  pub idle_brings : Quiet P → next_output (Q P input) ≡ option_or (stop_after (Q P input) (Given input)) (first_some (timeout_of (Q P input)) (numbers P))
  idle_brings q =
      let called = number_was_called P in
      let ends = first_some_none (end_of (Q P input)) (numbers P) (λ n at. same_end n ∙ (quiet_rests P q n (called n at)).ends) in
      let gone = first_some_none (partner_gone_of (Q P input)) (numbers P) (λ n at. same_partner_gone n ∙ (quiet_rests P q n (called n at)).fails) in
      let meetings = first_some_none (meeting_of (Q P input)) (numbers P) (λ n at. same_meeting n (called n at) ∙ (quiet_rests P q n (called n at)).meets) in
      after_input P input ∙ rw (numbers_push P (Given input) idle.enters_none, ends, gone, meetings) refl

  -- what S and R stop is the same
  same_open_call : (t : ℕ) → open_call (Q P input) t ≡ open_call P t
  unfolding open_call
  same_open_call t = rw (numbers_push P (Given input) idle.enters_none) (find_agrees _ _ (numbers P) (λ n. rw (same_caller P input idle n, same_over P input idle n) refl))

  same_stop : (control c : ℕ) → stop (Q P input) control c ≡ stop P control c
  unfolding stop stop_send stop_receive abort_send abort_receive
  same_stop control c = simp (same_sending P input idle, same_receiving P input idle, same_receiver P input, same_sender P input, same_transferring P input idle, same_moved P input idle)

pub same_stop_after : (P : List Entry) (thread target control : ℕ) → stop_after (Q P (Exreg thread target control)) (Given (Exreg thread target control)) ≡ stop_after P (Given (Exreg thread target control))
unfolding stop_after
same_stop_after P thread target control =
    let input = Exreg thread target control in
    let idle = idle_exreg thread target control in
    rw (same_live P input idle target, same_space P input idle target, same_space P input idle thread, same_open_call P input idle target, and_then_agrees (stop (Q P input) control) (stop P control) (open_call P target) (same_stop P input idle control)) refl
