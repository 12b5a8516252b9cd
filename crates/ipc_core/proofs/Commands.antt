-- What a command may append, and how much room it takes.
use Rattle.std.proofs.lemmas.Bool.{lt-ltb, ltb-true, ltb-false, false_from_ne_true}
use Rattle.std.proofs.lemmas.Option.{none-some}
use Rattle.std.proofs.lemmas.List.{map-append}
use Rattle.std.proofs.Common.{◌≡◌, refl, sym, ap, ◌∙◌, ℕ, ◌+◌, ◌^◌, ◌<◌, ◌≤◌, List, [], ◌∷◌, ◌++◌, append_assoc, append-nil, Bool, true, false, if◌then◌else◌, length, map, unwrap_or, IsTrue, Option, Some, None, arith}
use Rattle.std.specs.Prelude.{nat_lt}
use Rattle.std.specs.List.{list_any}
use Rattle.ipc_history.specs.Words.{first_some}
use Rattle.ipc_history.specs.Entries.{moment_in}
use Rattle.ipc_history.specs.Calls.{numbers, is_called}
use Rattle.ipc_history.specs.Threads.{now}
use Rattle.ipc_history.specs.Phases.{is_sending}
use Rattle.ipc_history.specs.Timing.{is_due, is_due_at}
use Rattle.ipc_history.specs.NextOutput.{next_output, timeout_of}
use Rattle.ipc_history.specs.Legal.{Legal, Quiet, Follows, is_admissible}
use Rattle.ipc_history.specs.Settled.{Continued, Settled}
use Rattle.ipc_history.specs.declared.entry.Entry.{Entry}
use Rattle.ipc_history.specs.declared.entry.Entry.TheVariants.{Given, Written}
use Rattle.ipc_history.specs.declared.entry.Input.{Input}
use Rattle.ipc_history.specs.declared.entry.Input.TheVariants.{At, Opened, Called, Exreg, Broke, Moved}
use Rattle.ipc_history.specs.declared.entry.Output.{Output}
use Rattle.ipc_history.specs.declared.entry.Output.TheVariants.{Failed}
use Rattle.ipc_laws.specs.Laws.{timeout_at}
use Rattle.ipc_laws.specs.Counting.{room_owed, all_steps_left, threads, live_threads, turn_left}
use Rattle.ipc_laws.proofs.Changing.{changes}
use Rattle.ipc_laws.proofs.Clock.{at_brings, at_room, at_stays_quiet}
use Rattle.ipc_laws.proofs.Histories.{called_place, legal_front}
use Rattle.ipc_laws.proofs.InputRoom.{input_room}
use Rattle.ipc_laws.proofs.Moving.{quiet_rests}
use Rattle.ipc_laws.proofs.Numbering.{number_was_called}
use Rattle.ipc_laws.proofs.OneOpen.{number_place}
use Rattle.ipc_laws.proofs.Places.{any_at, any_place, first_none}
use Rattle.ipc_laws.proofs.RoomFalls.{room_holds}
use Rattle.ipc_laws.proofs.Settling.{continued_push, continued_start, legal_push}
use Rattle.ipc_laws.proofs.Steps.{all_steps_fall}
use Rattle.ipc_laws.proofs.Tests.{both, not_both}
use Rattle.ipc_core.specs.Steps.{with_input}
use Rattle.ipc_core.specs.CommandRoom.{command_need, is_clock}
use Rattle.ipc_core.proofs.AfterAt.{after_at, same_admissible}
pub use Rattle.ipc_threads.proofs.Starting.{nothing_legal}

input_follows : (H : List Entry) (input : Input) → Quiet H → IsTrue (is_admissible H input) → Follows H (Given input)
unfolding Follows
input_follows H input quiet admissible = (quiet, admissible)

output_follows : (H : List Entry) (output : Output) → next_output H ≡ Some output → Follows H (Written output)
unfolding Follows
output_follows H output next = next

later_admissible : (H : List Entry) (moment : ℕ) → now H < moment → moment < 2 ^ 63 → IsTrue (is_admissible H (At moment))
unfolding is_admissible
later_admissible H moment later below = both _ _ (lt-ltb (now H) moment later) (lt-ltb moment (2 ^ 63) below)

-- the At of a later moment at which no phase is due
pub clock_legal : (H : List Entry) (moment : ℕ) → Legal H → Quiet H → now H < moment → moment < 2 ^ 63 → Legal (H ++ Given (At moment) ∷ [])
clock_legal H moment legal quiet later below = legal_push H (Given (At moment)) legal (input_follows H (At moment) quiet (later_admissible H moment later below))

-- a later moment, and one that is not
with_later : (H : List Entry) (moment : ℕ) (input : Input) → nat_lt (now H) moment ≡ true → with_input H moment input ≡ after_at H moment ++ Given input ∷ []
with_later H moment input later = rw later refl

with_same : (H : List Entry) (moment : ℕ) (input : Input) → nat_lt (now H) moment ≡ false → with_input H moment input ≡ H ++ Given input ∷ []
with_same H moment input same = rw same (ap (λ l. l ++ Given input ∷ []) (append-nil H))

-- with no phase due, of no call
pub none_due : (H : List Entry) (moment : ℕ) → list_any (is_due_at H moment) (numbers H) ≡ false → (n : ℕ) → is_called H n ≡ true → is_due_at H moment n ≡ false
none_due H moment undue n called = false_from_ne_true _ (λ due.
    let made = called_place H n called in
    not_both (any_at (is_due_at H moment) (numbers H) n (number_place H n made.thread made.call made.at) due) undue)

-- a command's entries may follow
pub command_legal : (H : List Entry) (moment : ℕ) (input : Input) → Legal H → Quiet H → moment < 2 ^ 63 → list_any (is_due_at H moment) (numbers H) ≡ false → IsTrue (is_admissible H input) → is_clock input ≡ false → Legal (with_input H moment input)
command_legal H moment input legal quiet below undue admissible no_clock = go (nat_lt (now H) moment) refl
  where
    go : (b : Bool) → nat_lt (now H) moment ≡ b → Legal (with_input H moment input)
    go false same = rw (with_same H moment input same) (legal_push H (Given input) legal (input_follows H input quiet admissible))
    go true later =
        let still = at_stays_quiet H moment quiet (none_due H moment undue) in
        let after = clock_legal H moment legal quiet (ltb-true (now H) moment later) below in
        rw (with_later H moment input later) (legal_push (after_at H moment) (Given input) after (input_follows (after_at H moment) input still (same_admissible H moment input no_clock ∙ admissible)))

-- an input alone, and an At and an input, within the room of a command
alone_room : (H : List Entry) (input : Input) → Legal (H ++ Given input ∷ []) → is_clock input ≡ false → length (H ++ Given input ∷ []) + room_owed (H ++ Given input ∷ []) + 1 ≤ length H + room_owed H + command_need input
alone_room H (At later) after no_clock = not_both refl no_clock
alone_room H (Opened thread space) after no_clock = omega (arith, input_room H (Opened thread space) after)
alone_room H (Called n thread call) after no_clock = omega (arith, input_room H (Called n thread call) after)
alone_room H (Exreg thread target control) after no_clock = omega (arith, input_room H (Exreg thread target control) after)
alone_room H (Broke thread) after no_clock = omega (arith, input_room H (Broke thread) after)
alone_room H (Moved n count) after no_clock = omega (arith, input_room H (Moved n count) after)

-- and take no more room than is owed and the command needs
pub command_room : (H : List Entry) (moment : ℕ) (input : Input) → Legal H → Legal (with_input H moment input) → is_clock input ≡ false → length (with_input H moment input) + room_owed (with_input H moment input) ≤ length H + room_owed H + command_need input
command_room H moment input legal after no_clock = go (nat_lt (now H) moment) refl
  where
    go : (b : Bool) → nat_lt (now H) moment ≡ b → length (with_input H moment input) + room_owed (with_input H moment input) ≤ length H + room_owed H + command_need input
    go false same =
        let whole = with_same H moment input same in
        let one = alone_room H input (rw whole at after) no_clock in
        rw whole (omega (arith, one))
    go true later =
        let whole = with_later H moment input later in
        let split : Legal (after_at H moment ++ Given input ∷ []) = rw whole at after in
        let one = alone_room (after_at H moment) input split no_clock in
        let at = input_room H (At moment) (legal_front (after_at H moment) (Given input ∷ []) split) in
        rw whole (omega (arith, one, at))

-- where a call is due, something comes
timeout_is : (H : List Entry) (moment n : ℕ) → is_due_at H moment n ≡ true → (output : Output) × (timeout_at H moment n ≡ Some output)
unfolding timeout_at
timeout_is H moment n due = (Failed n (if is_sending H n then 0x2 else 0x3), rw due refl)

-- where a phase is due at a moment, its At brings an output
pub clock_brings : (H : List Entry) (moment : ℕ) → Legal H → Quiet H → list_any (is_due_at H moment) (numbers H) ≡ true → (output : Output) × (next_output (H ++ Given (At moment) ∷ []) ≡ Some output)
clock_brings H moment legal quiet due = go (first_some (timeout_at H moment) (numbers H)) refl
  where
    go : (o : Option Output) → first_some (timeout_at H moment) (numbers H) ≡ o → (output : Output) × (next_output (H ++ Given (At moment) ∷ []) ≡ Some output)
    go (Some output) e = (output, at_brings H moment quiet ∙ e)
    go None e =
        let p = any_place (is_due_at H moment) (numbers H) due in
        let fails = timeout_is H moment p.0 p.2 in
        absurd (none-some fails.0 (sym (first_none (timeout_at H moment) (numbers H) p.0 p.1 e) ∙ fails.1))

-- which takes, with the At, no room that was not owed
pub clock_room : (H : List Entry) (moment : ℕ) (output : Output) → Legal (H ++ Given (At moment) ∷ []) → next_output (H ++ Given (At moment) ∷ []) ≡ Some output → length ((H ++ Given (At moment) ∷ []) ++ Written output ∷ []) + room_owed ((H ++ Given (At moment) ∷ []) ++ Written output ∷ []) ≤ length H + room_owed H
clock_room H moment output legal brings =
    let split = append_assoc H (Given (At moment) ∷ []) (Written output ∷ []) in
    let after = legal_push (after_at H moment) (Written output) legal (output_follows (after_at H moment) output brings) in
    rw split (at_room H moment output (rw split at after))

-- a call that is due has an output
expires : (H : List Entry) (n : ℕ) → is_due H n ≡ true → timeout_of H n ≡ None → ⊥
unfolding timeout_of
expires H n due none = none-some (Failed n (if is_sending H n then 0x2 else 0x3)) (sym none ∙ rw due refl)

due_now : (H : List Entry) (n : ℕ) → is_due_at H (now H) n ≡ is_due H n
unfolding is_due
due_now H n = refl

-- in a quiet history no phase is due at its moment
pub undue_now : (H : List Entry) → Quiet H → list_any (is_due_at H (now H)) (numbers H) ≡ false
undue_now H quiet = false_from_ne_true _ (λ due.
    let p = any_place (is_due_at H (now H)) (numbers H) due in
    expires H p.0 (sym (due_now H p.0) ∙ p.2) (quiet_rests H quiet p.0 (number_was_called H p.0 p.1)).expires)

-- the moment after an entry that is not of the clock
no_moment : (input : Input) → is_clock input ≡ false → moment_in (Given input) ≡ None
no_moment (At later) no_clock = not_both refl no_clock
no_moment _ no_clock = refl

now_input : (H : List Entry) (input : Input) → is_clock input ≡ false → now (H ++ Given input ∷ []) ≡ now H
now_input H input no_clock = (changes H (Given input)).moment ∙ ap (λ o. unwrap_or o (now H)) (no_moment input no_clock)

-- the moment after a command, and after outputs
pub now_with_input : (H : List Entry) (moment : ℕ) (input : Input) → is_clock input ≡ false → now H ≤ moment → now (with_input H moment input) ≡ moment
now_with_input H moment input no_clock past = go (nat_lt (now H) moment) refl
  where
    go : (b : Bool) → nat_lt (now H) moment ≡ b → now (with_input H moment input) ≡ moment
    go true later = ap now (with_later H moment input later) ∙ (now_input (after_at H moment) input no_clock ∙ (changes H (Given (At moment))).moment)
    go false same =
        let not_later = ltb-false (now H) moment same in
        ap now (with_same H moment input same) ∙ (now_input H input no_clock ∙ omega (arith, not_later))

now_written : (P : List Entry) (outputs : List Output) → now (P ++ map Written outputs) ≡ now P
now_written P [] = ap now (append-nil P)
now_written P (output ∷ outputs) = ap now (sym (append_assoc P (Written output ∷ []) (map Written outputs))) ∙ (now_written (P ++ Written output ∷ []) outputs ∙ (changes P (Written output)).moment)

pub now_settled : (P Q : List Entry) → Settled P Q → now Q ≡ now P
now_settled P Q settled = ap now settled.appended ∙ now_written P settled.outputs

-- an output of a legal history keeps it legal, needs no room that was not owed, and lowers the
-- steps that are left
pub output_legal : (H : List Entry) (output : Output) → Legal H → next_output H ≡ Some output → Legal (H ++ Written output ∷ [])
output_legal H output legal next = legal_push H (Written output) legal (output_follows H output next)

pub output_room : (H : List Entry) (output : Output) → Legal H → next_output H ≡ Some output → length (H ++ Written output ∷ []) + room_owed (H ++ Written output ∷ []) ≤ length H + room_owed H
output_room H output legal next = room_holds H legal output next

pub output_falls : (H : List Entry) (output : Output) → Legal H → next_output H ≡ Some output → all_steps_left (H ++ Written output ∷ []) < all_steps_left H
output_falls H output legal next = all_steps_fall H legal output next

-- going on, step by step
pub continued_none : (P : List Entry) → Continued P P
continued_none P = continued_start P

pub continued_more : (P Q : List Entry) (output : Output) → Continued P Q → Legal Q → next_output Q ≡ Some output → Continued P (Q ++ Written output ∷ [])
continued_more P Q output continued legal next = continued_push P Q output continued next

pub settled_at : (P Q : List Entry) → Continued P Q → Quiet Q → Settled P Q
settled_at P Q continued quiet = record { outputs = continued.outputs; appended = continued.appended; legal = continued.legal; quiet = quiet }

pub continued_settled : (P Q R : List Entry) → Continued P Q → Settled Q R → Settled P R
continued_settled P Q R continued settled = record {
  outputs = continued.outputs ++ settled.outputs;
  appended = settled.appended ∙ (ap (λ l. l ++ map Written settled.outputs) continued.appended ∙ (append_assoc P (map Written continued.outputs) (map Written settled.outputs) ∙ ap (λ l. P ++ l) (sym (map-append Written continued.outputs settled.outputs))));
  legal = λ legal. settled.legal (continued.legal legal);
  quiet = settled.quiet;
}

pub nothing_quiet : Quiet []
unfolding next_output numbers
nothing_quiet = refl

pub nothing_owed : room_owed [] ≡ 0
unfolding room_owed live_threads threads numbers turn_left
nothing_owed = refl
