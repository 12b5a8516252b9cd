-- What is pledged covers the room that is owed, so what a command appends fits.
use Rattle.std.proofs.lemmas.Option.{none-some, same_Some}
use Rattle.std.proofs.lemmas.List.Folds.{list_any-append}
use Rattle.std.proofs.lemmas.List.Sums.{sum_by-cons, sum_by-le-sum_by}
use Rattle.std.proofs.Common.{◌≡◌, refl, sym, ap, ap₂, ◌∙◌, ℕ, ◌+◌, ◌-◌, ◌*◌, ◌≤◌, zero-le, Bool, true, false, not, ◌||◌, ◌==◌, cond, if◌then◌else◌, List, [], ◌∷◌, ◌++◌, append-nil, append_assoc, length, Option, Some, None, is_none, sum_by, ◌⊎◌, inl, inr, arith}
use Rattle.std.specs.List.{list_any}
use Rattle.std.specs.Option.{option_or, option_map_or}
use Rattle.ipc_words.specs.ThreadId.{nilthread}
use Rattle.ipc_history.specs.Words.{last}
use Rattle.ipc_history.specs.Entries.{breaks, closes, ends_send}
use Rattle.ipc_history.specs.Blocks.{blocks}
use Rattle.ipc_history.specs.Calls.{numbers, caller_of, to_of, from_of, message_size}
use Rattle.ipc_history.specs.Threads.{has_broken}
use Rattle.ipc_history.specs.Phases.{is_over, is_sent, moved_bytes, receiver_of, sender_of}
use Rattle.ipc_history.specs.Legal.{Legal, Follows}
use Rattle.ipc_laws.specs.Counting.{phase_steps, send_steps, receive_steps, steps_left, is_began, turn_left, blocks_left, room_of, room_owed, room_need, pledge_of, pledged}
use Rattle.ipc_history.specs.declared.entry.Entry.{Entry}
use Rattle.ipc_history.specs.declared.entry.Entry.TheVariants.{Given, Written}
use Rattle.ipc_history.specs.declared.entry.Output.TheVariants.{Began}
use Rattle.ipc_laws.proofs.Histories.{follows_last, legal_front}
use Rattle.ipc_laws.proofs.InputRoom.{input_room}
use Rattle.ipc_laws.proofs.OpenCalls.{at_most_four}
use Rattle.ipc_laws.proofs.Pairing.{began_pair, meets_at}
use Rattle.ipc_laws.proofs.Places.{Place}
use Rattle.ipc_laws.proofs.RoomFalls.{room_holds}
use Rattle.ipc_laws.proofs.Steps.{call_at_written, number_of_open}
use Rattle.ipc_laws.proofs.Sums.{falls_at, fewer, one_at, one_in}
use Rattle.ipc_laws.proofs.ThreadChanges.{or_false}

phase_most : (done waiting : Bool) → phase_steps done waiting ≤ 2
phase_most done waiting = grind arith

pledge_more : (a b : Bool) (s m t : ℕ) → t ≤ 4 * cond (not a) 1 0 → (if a then 0 else 1 + 2 * (if b then 0 else blocks (s - m))) + t ≤ (if a then 0 else 5 + 2 * (if b then 0 else blocks s))
pledge_more a b s m t h = grind arith

pledge_covers_call : (P : List Entry) (x : ℕ) → room_of P x ≤ pledge_of P x
unfolding room_of pledge_of blocks_left
pledge_covers_call P x = pledge_more (is_over P x) (to_of P x == nilthread) (message_size P x) (moved_bytes P x) (steps_left P x) (at_most_four P x)

-- a call whose send has begun has a step less than it had
begun_steps : (P : List Entry) (n m : ℕ) → receiver_of P n ≡ Some m → is_over P n ≡ false → steps_left P n ≤ 3
unfolding steps_left send_steps receive_steps
begun_steps P n m e o = rw e (omega (arith, one (is_over P n || (to_of P n == nilthread) || is_sent P n), phase_most (is_over P n || (from_of P n == nilthread)) (is_none (sender_of P n))))
  where
    one : (done : Bool) → phase_steps done false ≤ 1
    one true = zero-le
    one false = omega arith

-- what stands last, at the end
some_last : {X : Type 0} (o : Option X) (x : X) → option_or o (Some x) ≡ None → ⊥
some_last None x k = none-some x (sym k)
some_last (Some w) x k = none-some w (sym k)

none_last : {X : Type 0} (zs : List X) → last zs ≡ None → zs ≡ []
none_last [] n = refl
none_last (z ∷ zs) n = absurd (some_last (last zs) z n)

pub last_at : {X : Type 0} (xs : List X) (x : X) → last xs ≡ Some x → (front : List X) × (xs ≡ front ++ x ∷ [])
last_at [] x h = absurd (none-some x h)
last_at (y ∷ ys) x h = go (last ys) refl h (last_at ys x)
  where
    go : (o : Option _) → last ys ≡ o → option_or o (Some y) ≡ Some x → (last ys ≡ Some x → (front : List _) × (ys ≡ front ++ x ∷ [])) → (front : List _) × (y ∷ ys ≡ front ++ x ∷ [])
    go None e g later = ([], ap₂ (λ a l. a ∷ l) (same_Some y x g) (none_last ys e))
    go (Some z) e g later = let t = later (e ∙ g) in (y ∷ t.0, ap (λ l. y ∷ l) t.1)

any_push : (p : Entry → Bool) (P : List Entry) (e : Entry) → p e ≡ false → list_any p (P ++ e ∷ []) ≡ list_any p P
any_push p P e none = list_any-append p P (e ∷ []) ∙ (ap (λ b. list_any p P || (b || false)) none ∙ or_false _)

began_leaves : (P : List Entry) (n m x : ℕ) → is_over (P ++ Written (Began n m) ∷ []) x ≡ is_over P x
unfolding is_over is_sent has_broken caller_of from_of to_of
began_leaves P n m x =
    let e = Written (Began n m) in
    rw (call_at_written P (Began n m) x, any_push (closes x) P e refl, any_push (ends_send x) P e refl) (simp (any_push (breaks (caller_of P x)) P e refl))

pledge_sum : (P : List Entry) → sum_by (room_of P) (numbers P) ≤ sum_by (pledge_of P) (numbers P)
pledge_sum P = sum_by-le-sum_by (room_of P) (pledge_of P) (numbers P) (pledge_covers_call P)

turn_or_began : (P : List Entry) → (turn_left P ≡ 0) ⊎ ((n : ℕ) × (m : ℕ) × (last P ≡ Some (Written (Began n m))))
unfolding turn_left
turn_or_began P = go (last P) refl
  where
    go : (o : Option Entry) → last P ≡ o → (turn_left P ≡ 0) ⊎ ((n : ℕ) × (m : ℕ) × (last P ≡ Some (Written (Began n m))))
    go (Some (Written (Began n m))) e = inr (n, m, e)
    go None e = inl (rw e refl)
    go (Some _) e = inl (rw e refl)

turn_most : (P : List Entry) → turn_left P ≤ 1
unfolding turn_left
turn_most P = most (option_map_or is_began (last P) false)
  where
    most : (b : Bool) → (if b then 1 else 0) ≤ 1
    most true = omega arith
    most false = zero-le

-- after a Began its sending call has used one of its steps, and still is open
begun_room : (P : List Entry) (n m : ℕ) → receiver_of P n ≡ Some m → is_over P n ≡ false → room_of P n + 1 ≤ pledge_of P n
unfolding room_of pledge_of blocks_left
begun_room P n m r o = rw o (more (to_of P n == nilthread) (message_size P n) (moved_bytes P n) (steps_left P n) (begun_steps P n m r o))
  where
    more : (b : Bool) (s m t : ℕ) → t ≤ 3 → (1 + 2 * (if b then 0 else blocks (s - m))) + t + 1 ≤ 5 + 2 * (if b then 0 else blocks s)
    more true s m t h = omega arith
    more false s m t h = omega arith

pub pledge_covers : (P : List Entry) → Legal P → room_owed P ≤ pledged P
unfolding room_owed pledged
pledge_covers P h = elim (turn_or_began P) [
  | inl none ↦ omega (arith, none, pledge_sum P)
  | inr b ↦ (
      let n = b.0 in
      let m = b.1 in
      let end = last_at P (Written (Began n m)) b.2 in
      let at : Place P (Written (Began n m)) = record { front = end.0; rest = []; whole = end.1 } in
      let p = meets_at P h n m at in
      let open_n : is_over P n ≡ false = ap (λ l. is_over l n) end.1 ∙ (began_leaves end.0 n m n ∙ p.sends.opened) in
      let pair : receiver_of P n ≡ Some m = began_pair P n m at p.sends.unpaired in
      let less = fewer (room_of P) (pledge_of P) (one_at n) (numbers P) (λ x. falls_at (room_of P) (pledge_of P) n x (pledge_covers_call P x) (begun_room P n m pair open_n)) in
      omega (arith, less, turn_most P, one_in n (numbers P) (number_of_open P n open_n)))
]

-- A whole command

entry_room : (P : List Entry) (e : Entry) → Legal (P ++ e ∷ []) → length (P ++ e ∷ []) + room_owed (P ++ e ∷ []) ≤ length P + room_owed P + room_need e
unfolding Follows
entry_room P (Given i) h = omega (arith, input_room P i h)
entry_room P (Written o) h = omega (arith, room_holds P (legal_front P _ h) o (follows_last P (Written o) h))

entries_room : (P Q : List Entry) → Legal (P ++ Q) → length (P ++ Q) + room_owed (P ++ Q) ≤ length P + room_owed P + sum_by room_need Q
entries_room P [] h = rw append-nil (omega arith)
entries_room P (e ∷ Q) h =
    let split = append_assoc P (e ∷ []) Q in
    let all : Legal ((P ++ e ∷ []) ++ Q) = rw split h in
    let one = entry_room P e (legal_front (P ++ e ∷ []) Q all) in
    let rest = entries_room (P ++ e ∷ []) Q all in
    rw (← split) (omega (arith, one, rest, sum_by-cons room_need e Q))

pub command_fits : (P Q : List Entry) (limit : ℕ) → Legal (P ++ Q) → length P + pledged P + sum_by room_need Q ≤ limit → length (P ++ Q) ≤ limit
command_fits P Q limit h fits = omega (arith, fits, entries_room P Q h, pledge_covers P (legal_front P Q h))
