-- What the slots answer.
use Rattle.std.proofs.lemmas.Bool.{false≢true}
use Rattle.std.proofs.Common.{◌≡◌, refl, ap, ◌∙◌, cond, ℕ, if◌then◌else◌, Bool, true, false, List, [], ◌∷◌, Option, Some, None, find, option_map, option_and_then}
use Rattle.std.specs.Option.{option_map_or, option_or}
use Rattle.ipc_history.specs.Words.{first_some}
use Rattle.ipc_history.specs.Calls.{numbers, message_size}
use Rattle.ipc_history.specs.Threads.{now, is_live}
use Rattle.ipc_history.specs.Phases.{is_over, is_transferring, moved_bytes, open_call, receiver_of}
use Rattle.ipc_history.specs.Timing.{is_due}
use Rattle.ipc_history.specs.NextOutput.{abort_send, timeout_of}
use Rattle.ipc_history.specs.Legal.{Legal, next_moving}
use Rattle.ipc_history.specs.declared.entry.Entry.{Entry}
use Rattle.ipc_history.specs.declared.entry.Output.{Output}
use Rattle.ipc_history.specs.declared.entry.Output.TheVariants.{Aborted}
use Rattle.ipc_laws.proofs.PhaseParts.{passes_parts}
use Rattle.ipc_history.specs.ExchangeRegisters.{in_receive_phase, in_send_phase}
use Rattle.ipc_laws.specs.Laws.{timeout_at}
use Rattle.ipc_waits.specs.Rules.{first_number, in_receive_by, in_send_by, rule_of}
use Rattle.ipc_threads.specs.Standings.{IsStanding, partner_by, standing_of}
use Rattle.ipc_waits.specs.declared.rules.Rule.TheVariants.{Expires, Copies}
use Rattle.ipc_threads.specs.declared.slot.Standing.{Standing}
use Rattle.ipc_laws.proofs.Finds.{find_passes}
use Rattle.ipc_waits.proofs.Stops.{in_receive_is, in_send_is}

-- Timeouts

pub due_now : (P : List Entry) (n : ℕ) → timeout_at P (now P) n ≡ timeout_of P n
unfolding timeout_at timeout_of is_due
due_now P n = refl

timeouts : (P : List Entry) (xs : List ℕ) → first_some (rule_of (Expires (now P)) P) xs ≡ first_some (timeout_of P) xs
timeouts P [] = refl
timeouts P (x ∷ xs) = rw (due_now P x, timeouts P xs) refl

pub first_due : (P : List Entry) (moment : ℕ) → moment ≡ now P → first_some (rule_of (Expires moment) P) (numbers P) ≡ first_some (timeout_of P) (numbers P)
first_due P moment e = rw e (timeouts P (numbers P))

-- The least call in transfer

abbrev is_moving : List Entry → ℕ → Bool
is_moving P n = option_map_or (is_transferring P n) (receiver_of P n) false

moving_one : (P : List Entry) (n : ℕ) (rest : Option Output) → option_map first_number (option_or (abort_send P n) rest) ≡ (if option_map_or (is_transferring P n) (receiver_of P n) false then Some n else option_map first_number rest)
unfolding abort_send
moving_one P n rest = go (receiver_of P n)
  where
    go : (o : Option ℕ) → option_map first_number (option_or (option_and_then (λ m. if is_transferring P n m then Some (Aborted n m (moved_bytes P n)) else None) o) rest) ≡ (if option_map_or (is_transferring P n) o false then Some n else option_map first_number rest)
    go None = refl
    go (Some m) = of (is_transferring P n m)
      where
        of : (b : Bool) → option_map first_number (option_or (if b then Some (Aborted n m (moved_bytes P n)) else None) rest) ≡ (if b then Some n else option_map first_number rest)
        of true = refl
        of false = refl

moving_first : (P : List Entry) (xs : List ℕ) → option_map first_number (first_some (rule_of Copies P) xs) ≡ find (λ n. option_map_or (is_transferring P n) (receiver_of P n) false) xs
moving_first P [] = refl
moving_first P (x ∷ xs) = moving_one P x (first_some (rule_of Copies P) xs) ∙ rw (moving_first P xs) (plain _ (option_map_or (is_transferring P x) (receiver_of P x) false))
  where
    plain : (r : Option ℕ) (b : Bool) → (if b then Some x else r) ≡ cond b (Some x) r
    plain r true = refl
    plain r false = refl

pub moving_told : (P : List Entry) (o : Option Output) → o ≡ first_some (rule_of Copies P) (numbers P) → option_map first_number o ≡ next_moving P
unfolding next_moving
moving_told P o e = ap (option_map first_number) e ∙ moving_first P (numbers P)

pub moving_open : (P : List Entry) (n : ℕ) → next_moving P ≡ Some n → is_over P n ≡ false
unfolding next_moving
moving_open P n e = go (receiver_of P n) (find_passes (λ n. option_map_or (is_transferring P n) (receiver_of P n) false) n (numbers P) e)
  where
    go : (o : Option ℕ) → option_map_or (is_transferring P n) o false ≡ true → is_over P n ≡ false
    go None h = absurd (false≢true h)
    go (Some m) h = (passes_parts P n m h).opened

standing_bytes : (P : List Entry) (n : ℕ) → ((standing_of P n).size ≡ message_size P n) × ((standing_of P n).moved ≡ moved_bytes P n)
unfolding standing_of
standing_bytes P n = (refl, refl)

pub bytes_of : (P : List Entry) (s : Standing) (n : ℕ) → IsStanding P s → s.number ≡ n → (s.size ≡ message_size P n) × (s.moved ≡ moved_bytes P n)
bytes_of P s n call e = let b = standing_bytes P s.number in (ap (λ s. s.size) call.is ∙ (b.0 ∙ ap (message_size P) e), ap (λ s. s.moved) call.is ∙ (b.1 ∙ ap (moved_bytes P) e))

-- The phases of a thread

pub send_told : (P : List Entry) → Legal P → (t : ℕ) (o : Option Standing) → o ≡ option_map (standing_of P) (open_call P t) → option_map_or (λ s. in_send_by (is_live P (partner_by s)) s) o false ≡ in_send_phase P t
send_told P legal t o e = ap (λ o. option_map_or (λ s. in_send_by (is_live P (partner_by s)) s) o false) e ∙ in_send_is P legal t

pub receive_told : (P : List Entry) → Legal P → (t : ℕ) (o : Option Standing) → o ≡ option_map (standing_of P) (open_call P t) → option_map_or (λ s. in_receive_by (is_live P (partner_by s)) s) o false ≡ in_receive_phase P t
receive_told P legal t o e = ap (λ o. option_map_or (λ s. in_receive_by (is_live P (partner_by s)) s) o false) e ∙ in_receive_is P legal t
