-- An input needs no more room than it asks for.
use Rattle.std.proofs.lemmas.Bool.{false_from_ne_true}
use Rattle.std.proofs.lemmas.List.Sums.{sum_by_push}
use Rattle.std.proofs.Common.{◌≡◌, refl, ℕ, ◌+◌, ◌-◌, ◌*◌, ◌≤◌, Bool, true, false, not, ◌==◌, eq-eqb, eqb-true, cond, if◌then◌else◌, List, [], ◌∷◌, ◌++◌, length, length-append, Some, None, sum_by, arith}
use Rattle.ipc_words.specs.ThreadId.{nilthread}
use Rattle.ipc_items.specs.Strings.{size_of}
use Rattle.ipc_history.specs.CallParts.{CallParts}
use Rattle.ipc_history.specs.Entries.{count_in, number_in, call_in}
use Rattle.ipc_history.specs.Blocks.{blocks, block_of}
use Rattle.ipc_history.specs.Calls.{numbers, call_at, is_called, to_of, strings_of, message_size}
use Rattle.ipc_history.specs.Threads.{is_live}
use Rattle.ipc_history.specs.Phases.{is_over, moved_bytes}
use Rattle.ipc_history.specs.Legal.{Legal, Follows, Quiet, is_admissible}
use Rattle.ipc_laws.specs.Counting.{blocks_left, blocks_of, room_of, live_threads, room_owed, room_for, room_back}
use Rattle.ipc_history.specs.declared.entry.Entry.{Entry}
use Rattle.ipc_history.specs.declared.entry.Entry.TheVariants.{Given}
use Rattle.ipc_history.specs.declared.entry.Input.{Input}
use Rattle.ipc_history.specs.declared.entry.Input.TheVariants.{At, Opened, Called, Exreg, Broke, Moved}
use Rattle.ipc_laws.proofs.Growth.{call_at_kept}
use Rattle.ipc_laws.proofs.Histories.{follows_last, legal_front, moving_passes}
use Rattle.ipc_laws.proofs.Moving.{counted, moved_push, size_same, some_left, transferring_to}
use Rattle.ipc_laws.proofs.Numbering.{called_below, entered, number_was_called, numbers_push, numbers_push_called}
use Rattle.ipc_laws.proofs.OpenCalls.{at_most_four, turn_left_given}
use Rattle.ipc_laws.proofs.PhaseParts.{Passes}
use Rattle.ipc_laws.proofs.Places.{Place, first_at}
use Rattle.ipc_laws.proofs.RoomFalls.{blocks_fall, room_of_falls}
use Rattle.ipc_laws.proofs.Steps.{call_at_push, number_of_open, steps_fall, to_of_same}
use Rattle.ipc_laws.proofs.Sums.{falls_at, fewer, fewer_in, one_at, one_in, sum_both}
use Rattle.ipc_laws.proofs.Tests.{none_of, not_both}
use Rattle.ipc_laws.proofs.ThreadChanges.{broke_live, live_threads_push, opened_live}

-- Inputs that enter no call

module _ (P : List Entry) (i : Input) (plain : number_in (Given i) ≡ None) where
  calls_room : sum_by (room_of (P ++ Given i ∷ [])) (numbers P) ≤ sum_by (room_of P) (numbers P)
  calls_room =
      let each : (x : ℕ) → room_of (P ++ Given i ∷ []) x + 0 ≤ room_of P x = λ x. (let same = call_at_push P (Given i) plain x in let r = room_of_falls P (Given i) x 0 0 same (λ over. refl) (omega (arith, steps_fall P (Given i) x same)) (omega (arith, blocks_fall P (Given i) x same)) in omega (arith, r)) in
      let less = fewer (room_of (P ++ Given i ∷ [])) (room_of P) (λ x. 0) (numbers P) each in
      omega (arith, less)

  plain_room : (back more : ℕ) → 1 + 2 * live_threads (P ++ Given i ∷ []) + back ≤ 2 * live_threads P + more → length (P ++ Given i ∷ []) + room_owed (P ++ Given i ∷ []) + back ≤ length P + room_owed P + more
  unfolding room_owed
  plain_room back more live = rw (numbers_push P (Given i) plain, length-append P (Given i ∷ [])) (omega (arith, live, calls_room, turn_left_given P i))

-- a Moved leaves a block less to copy

module _ (P : List Entry) (h : Legal P) (q : Quiet P) (n m count : ℕ) (p : Passes P n m) (c : count ≡ block_of P n) where
  block_less : blocks_left (P ++ Given (Moved n count) ∷ []) n + 1 ≤ blocks_left P n
  unfolding blocks_left
  block_less =
      let same = call_at_push P (Given (Moved n count)) refl n in
      let more : count_in n (Given (Moved n count)) ≡ count = rw (eq-eqb n n refl) refl in
      rw (to_of_same P (Given (Moved n count)) n same, size_same P (P ++ Given (Moved n count) ∷ []) n same, moved_push P (Given (Moved n count)) n, more, transferring_to P h n m p) (omega (arith, c, some_left P h q n m p))

  none_over : (x : ℕ) → is_over P x ≡ true → one_at n x ≡ 0
  none_over x o = go (x == n) refl
    where
      go : (b : Bool) → (x == n) ≡ b → one_at n x ≡ 0
      go false e = rw e refl
      go true e = let same : x ≡ n = eqb-true x n e in not_both o (rw same p.opened)

  moved_room : sum_by (room_of (P ++ Given (Moved n count) ∷ [])) (numbers P) + 2 ≤ sum_by (room_of P) (numbers P)
  moved_room =
      let e = Given (Moved n count) in
      let each : (x : ℕ) → room_of (P ++ e ∷ []) x + (one_at n x + one_at n x) ≤ room_of P x = λ x. (
      let same = call_at_push P e refl x in
      let blocks = falls_at (blocks_left (P ++ e ∷ [])) (blocks_left P) n x (blocks_fall P e x same) block_less in
      let r = room_of_falls P e x 0 (one_at n x) same (none_over x) (omega (arith, steps_fall P e x same)) blocks in
      omega (arith, r)) in
      let less = fewer (room_of (P ++ e ∷ [])) (room_of P) (λ x. one_at n x + one_at n x) (numbers P) each in
      let n_in = one_in n (numbers P) (number_of_open P n p.opened) in
      omega (arith, less, n_in, sum_both (one_at n) (one_at n) (numbers P))

-- A Called adds the room of its call, and leaves that of the others

no_more_blocks : (b : Bool) (s m : ℕ) → (if b then 0 else blocks (s - m)) ≤ (if b then 0 else blocks s)
no_more_blocks b s m = grind arith

module _ (P : List Entry) (n thread : ℕ) (call : CallParts) (absent : is_called P n ≡ false) where
  entered_at : call_at (P ++ Given (Called n thread call) ∷ []) n ≡ Some (thread, call)
  unfolding is_called call_at
  entered_at = first_at (call_in n) (P ++ Given (Called n thread call) ∷ []) (Given (Called n thread call)) (thread, call) (record { front = P; rest = []; whole = refl }) (none_of _ (rw absent refl)) (rw (eq-eqb n n refl) refl)

  its_blocks : blocks_left (P ++ Given (Called n thread call) ∷ []) n ≤ blocks_of call
  unfolding blocks_left to_of message_size strings_of
  its_blocks = rw entered_at (no_more_blocks (call.to == nilthread) (size_of call.strings) (moved_bytes (P ++ Given (Called n thread call) ∷ []) n))

  its_room : room_of (P ++ Given (Called n thread call) ∷ []) n ≤ 5 + 2 * blocks_of call
  unfolding room_of
  its_room = most (is_over (P ++ Given (Called n thread call) ∷ []) n) _ _ _ its_blocks (at_most_four (P ++ Given (Called n thread call) ∷ []) n)
    where
      most : (b : Bool) (k l s : ℕ) → k ≤ l → s ≤ 4 * cond (not b) 1 0 → (if b then 0 else 1 + 2 * k) + s ≤ 5 + 2 * l
      most true k l s h g = omega arith
      most false k l s h g = omega arith

  others_room : sum_by (room_of (P ++ Given (Called n thread call) ∷ [])) (numbers P) ≤ sum_by (room_of P) (numbers P)
  others_room =
      let e = Given (Called n thread call) in
      let each : (x : ℕ) → Place (numbers P) x → room_of (P ++ e ∷ []) x + 0 ≤ room_of P x = λ x at. (
      let same = call_at_kept P (e ∷ []) x (number_was_called P x at) in
      let r = room_of_falls P e x 0 0 same (λ over. refl) (omega (arith, steps_fall P e x same)) (omega (arith, blocks_fall P e x same)) in
      omega (arith, r)) in
      let less = fewer_in (room_of (P ++ e ∷ [])) (room_of P) (λ x. 0) (numbers P) each in
      omega (arith, less)

  called_room : length (P ++ Given (Called n thread call) ∷ []) + room_owed (P ++ Given (Called n thread call) ∷ []) ≤ length P + room_owed P + (6 + 2 * blocks_of call)
  unfolding room_owed
  called_room =
      let e = Given (Called n thread call) in
      let push = sum_by_push (room_of (P ++ e ∷ [])) (numbers P) n in
      rw (numbers_push_called P n thread call, live_threads_push P e refl (λ t. refl) (λ t. refl), length-append P (e ∷ [])) (omega (arith, push, others_room, its_room, turn_left_given P (Called n thread call)))

moved_fits : (P : List Entry) (n count : ℕ) → sum_by (room_of (P ++ Given (Moved n count) ∷ [])) (numbers P) + 2 ≤ sum_by (room_of P) (numbers P) → length (P ++ Given (Moved n count) ∷ []) + room_owed (P ++ Given (Moved n count) ∷ []) + 1 ≤ length P + room_owed P
unfolding room_owed
moved_fits P n count less =
    let e = Given (Moved n count) in
    rw (numbers_push P e refl, live_threads_push P e refl (λ t. refl) (λ t. refl), length-append P (e ∷ [])) (omega (arith, less, turn_left_given P (Moved n count)))

-- every input

broke_admitted : (P : List Entry) (t : ℕ) → is_admissible P (Broke t) ≡ true → is_live P t ≡ true
unfolding is_admissible
broke_admitted P t h = h

module _ (P : List Entry) (h : Legal P) where
  input_follows : (i : Input) → Quiet P → is_admissible P i ≡ true → length (P ++ Given i ∷ []) + room_owed (P ++ Given i ∷ []) + room_back i ≤ length P + room_owed P + room_for i
  input_follows (At moment) q a = plain_room P (At moment) refl 0 1 (omega (arith, live_threads_push P (Given (At moment)) refl (λ t. refl) (λ t. refl)))
  input_follows (Opened thread space) q a = plain_room P (Opened thread space) refl 0 3 (omega (arith, opened_live P thread space))
  input_follows (Called n thread call) q a =
      let absent : is_called P n ≡ false = false_from_ne_true _ (λ c. (let below = called_below P h n c in omega (arith, (entered P n thread call a).1))) in
      omega (arith, called_room P n thread call absent)
  input_follows (Exreg thread target control) q a = plain_room P (Exreg thread target control) refl 0 1 (omega (arith, live_threads_push P (Given (Exreg thread target control)) refl (λ t. refl) (λ t. refl)))
  input_follows (Broke thread) q a = plain_room P (Broke thread) refl 1 0 (omega (arith, broke_live P thread (broke_admitted P thread a)))
  input_follows (Moved n count) q a =
      let p = moving_passes P n count a in
      omega (arith, moved_fits P n count (moved_room P h q n p.0 count p.1 (counted P n count a)))

pub input_room : (P : List Entry) (i : Input) → Legal (P ++ Given i ∷ []) → length (P ++ Given i ∷ []) + room_owed (P ++ Given i ∷ []) + room_back i ≤ length P + room_owed P + room_for i
unfolding Follows
input_room P i h = let f = follows_last P (Given i) h in input_follows P (legal_front P _ h) i f.0 f.1
