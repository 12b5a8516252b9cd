-- The room that is owed falls: no output needs more than was owed, and a failure gives some back.
use Rattle.std.proofs.Common.{◌≡◌, refl, ℕ, ◌+◌, ◌-◌, ◌*◌, ◌≤◌, Bool, true, false, ◌==◌, eq-eqb, eqb-true, if◌then◌else◌, List, [], ◌∷◌, ◌++◌, length, length-append, Some, arith}
use Rattle.ipc_words.specs.ThreadId.{nilthread}
use Rattle.ipc_history.specs.Entries.{count_in, closes}
use Rattle.ipc_history.specs.Blocks.{blocks}
use Rattle.ipc_history.specs.Calls.{numbers, call_at, to_of, message_size}
use Rattle.ipc_history.specs.Phases.{is_over, moved_bytes}
use Rattle.ipc_history.specs.NextOutput.{next_output}
use Rattle.ipc_history.specs.Legal.{Legal}
use Rattle.ipc_laws.specs.Counting.{steps_left, blocks_left, room_of, room_owed}
use Rattle.ipc_history.specs.declared.entry.Entry.{Entry}
use Rattle.ipc_history.specs.declared.entry.Entry.TheVariants.{Written}
use Rattle.ipc_history.specs.declared.entry.Output.{Output}
use Rattle.ipc_history.specs.declared.entry.Output.TheVariants.{Failed}
use Rattle.ipc_laws.proofs.Moving.{moved_push, size_same}
use Rattle.ipc_laws.proofs.Numbering.{numbers_push}
use Rattle.ipc_laws.proofs.Order.{closed_over}
use Rattle.ipc_laws.proofs.OutputLemmas.{next_output_means}
use Rattle.ipc_laws.proofs.PhaseParts.{failing, failing_open}
use Rattle.ipc_laws.proofs.Places.{any_at}
use Rattle.ipc_laws.proofs.Steps.{call_at_push, call_at_written, is_over_same, number_of_open, open_steps, over_steps, steps_fall, takes, to_of_same, turn_left_written}
use Rattle.ipc_laws.proofs.Sums.{fewer, one_at, one_in, sum_both}
use Rattle.ipc_laws.proofs.ThreadChanges.{live_threads_push}

-- Calls

-- the room of a call falls with its steps and blocks
room_falls : (a b : Bool) (s t k l taken less : ℕ) → (a ≡ true → b ≡ true) → (a ≡ true → less ≡ 0) → s + taken ≤ t → k + less ≤ l → ((if b then 0 else 1 + 2 * k) + s) + (taken + 2 * less) ≤ (if a then 0 else 1 + 2 * l) + t
room_falls a b s t k l taken less over none h g = grind arith

pub room_of_falls : (P : List Entry) (e : Entry) (x taken less : ℕ) → call_at (P ++ e ∷ []) x ≡ call_at P x → (is_over P x ≡ true → less ≡ 0) → steps_left (P ++ e ∷ []) x + taken ≤ steps_left P x → blocks_left (P ++ e ∷ []) x + less ≤ blocks_left P x → room_of (P ++ e ∷ []) x + (taken + 2 * less) ≤ room_of P x
unfolding room_of
room_of_falls P e x taken less same none h g = room_falls (is_over P x) (is_over (P ++ e ∷ []) x) _ _ _ _ taken less (is_over_same P e x same) none h g

fewer_blocks : (b : Bool) (s m c : ℕ) → (if b then 0 else blocks (s - (m + c))) ≤ (if b then 0 else blocks (s - m))
fewer_blocks b s m c = grind arith

pub blocks_fall : (P : List Entry) (e : Entry) (x : ℕ) → call_at (P ++ e ∷ []) x ≡ call_at P x → blocks_left (P ++ e ∷ []) x ≤ blocks_left P x
unfolding blocks_left
blocks_fall P e x same = rw (to_of_same P e x same, size_same P (P ++ e ∷ []) x same, moved_push P e x) (fewer_blocks (to_of P x == nilthread) (message_size P x) (moved_bytes P x) (count_in x e))

-- Outputs

pub room_holds : (P : List Entry) → Legal P → (o : Output) → next_output P ≡ Some o → length (P ++ Written o ∷ []) + room_owed (P ++ Written o ∷ []) ≤ length P + room_owed P
unfolding room_owed
room_holds P h o e =
    let t = takes P h o (next_output_means P o e) in
    let each : (x : ℕ) → room_of (P ++ Written o ∷ []) x + t.taken x ≤ room_of P x = λ x. (let same = call_at_written P o x in let r = room_of_falls P (Written o) x (t.taken x) 0 same (λ over. refl) (t.each x) (omega (arith, blocks_fall P (Written o) x same)) in omega (arith, r)) in
    let less = fewer (room_of (P ++ Written o ∷ [])) (room_of P) t.taken (numbers P) each in
    rw (numbers_push P (Written o) refl, live_threads_push P (Written o) refl (λ t. refl) (λ t. refl), length-append P (Written o ∷ [])) (omega (arith, less, t.enough))

-- A failure gives back more: the At that came before it

fails_falls : (P : List Entry) (n code : ℕ) → is_over P n ≡ false → (x : ℕ) → room_of (P ++ Written (Failed n code) ∷ []) x + (one_at n x + one_at n x) ≤ room_of P x
unfolding room_of
fails_falls P n code h x = go (x == n) refl
  where
    e : Entry
    e = Written (Failed n code)

    over : is_over (P ++ e ∷ []) n ≡ true
    over = closed_over (P ++ e ∷ []) n (any_at (closes n) (P ++ e ∷ []) e (record { front = P; rest = []; whole = refl }) (eq-eqb n n refl))

    go : (b : Bool) → (x == n) ≡ b → (if is_over (P ++ e ∷ []) x then 0 else 1 + 2 * blocks_left (P ++ e ∷ []) x) + steps_left (P ++ e ∷ []) x + ((if x == n then 1 else 0) + (if x == n then 1 else 0)) ≤ (if is_over P x then 0 else 1 + 2 * blocks_left P x) + steps_left P x
    go false f =
        let same = call_at_push P e refl x in
        let r = room_falls (is_over P x) (is_over (P ++ e ∷ []) x) (steps_left (P ++ e ∷ []) x) (steps_left P x) (blocks_left (P ++ e ∷ []) x) (blocks_left P x) 0 0 (is_over_same P e x same) (λ over. refl) (omega (arith, steps_fall P e x same)) (omega (arith, blocks_fall P e x same)) in
        rw f (omega (arith, r))
    go true f =
        let same : x ≡ n = eqb-true x n f in
        rw (f, same, over, h) (omega (arith, over_steps (P ++ e ∷ []) n over, open_steps P n h))

pub failed_room : (P : List Entry) → Legal P → (n code : ℕ) → next_output P ≡ Some (Failed n code) → length (P ++ Written (Failed n code) ∷ []) + room_owed (P ++ Written (Failed n code) ∷ []) + 1 ≤ length P + room_owed P
unfolding room_owed
failed_room P h n code d =
    let e = Written (Failed n code) in
    let open_n = failing_open P n (failing P n code (next_output_means P (Failed n code) d)) in
    let less = fewer (room_of (P ++ e ∷ [])) (room_of P) (λ x. one_at n x + one_at n x) (numbers P) (fails_falls P n code open_n) in
    let n_in = one_in n (numbers P) (number_of_open P n open_n) in
    rw (numbers_push P e refl, live_threads_push P e refl (λ t. refl) (λ t. refl), length-append P (e ∷ [])) (omega (arith, less, n_in, sum_both (one_at n) (one_at n) (numbers P), turn_left_written P (Failed n code)))
