-- Which calls met the last call of each live thread.
use Rattle.std.specs.Prelude.{◌≡◌, ◌≢◌, ℕ, List, Bool, false, ◌&&◌, ◌==◌, Option, Some, None, option_map, length, slice_index_or, if◌then◌else◌, IsTrue}
use Rattle.ipc_words.specs.Limits.{table_slots}
use Rattle.ipc_words.specs.ThreadId.{nilthread, number_of}
use Rattle.ipc_history.specs.Words.{last_some}
use Rattle.ipc_history.specs.Calls.{caller_of, last_call}
use Rattle.ipc_history.specs.Matching.{shown_sender}
use Rattle.ipc_history.specs.Threads.{is_live}
use Rattle.ipc_history.specs.declared.entry.Entry.{Entry}
use Rattle.ipc_history.specs.declared.entry.Entry.TheVariants.{Written}
use Rattle.ipc_history.specs.declared.entry.Output.TheVariants.{Began, Ended, Overflowed, Aborted}
use Rattle.ipc_compact.specs.declared.partners.Joined.{Joined}
use Rattle.ipc_compact.specs.declared.partners.Partner.{Partner}

-- the receiving call that the sending call n meets, and the sending call that the receiving call m
-- meets: a transfer begins, or the message does not fit
abbrev pub met_receiver : ℕ → Entry → Option ℕ
met_receiver n (Written (Began k m)) = (if k == n then Some m else None)
met_receiver n (Written (Overflowed k m offset)) = (if k == n then Some m else None)
met_receiver n _ = None

abbrev pub met_sender : ℕ → Entry → Option ℕ
met_sender m (Written (Began n k)) = (if k == m then Some n else None)
met_sender m (Written (Overflowed n k offset)) = (if k == m then Some n else None)
met_sender m _ = None

-- an entry of the transfer from n to m
abbrev pub joins : ℕ → ℕ → Entry → Bool
joins n m (Written (Began k j)) = (k == n) && (j == m)
joins n m (Written (Ended k j)) = (k == n) && (j == m)
joins n m (Written (Overflowed k j offset)) = (k == n) && (j == m)
joins n m (Written (Aborted k j count)) = (k == n) && (j == m)
joins n m _ = false

unfoldable pub receiver_met : List Entry → ℕ → Option ℕ
receiver_met H n = last_some (met_receiver n) H

unfoldable pub sender_met : List Entry → ℕ → Option ℕ
sender_met H m = last_some (met_sender m) H

-- what is known of a call that another one met, and of a call
unfoldable pub partner_of : List Entry → ℕ → Partner
partner_of H k = record { number = k; caller = caller_of H k; shown = shown_sender H k }

unfoldable pub joined_of : List Entry → ℕ → Joined
joined_of H n = record {
  number = n;
  shown = shown_sender H n;
  receiver = option_map (partner_of H) (receiver_met H n);
  sender = option_map (partner_of H) (sender_met H n);
}

-- what stands at a place
abbrev pub nothing_joined : Joined
nothing_joined = record { number = 0; shown = nilthread; receiver = None; sender = None }

abbrev pub joined_at : List Joined → ℕ → Joined
joined_at table k = slice_index_or table k nothing_joined

-- the table has, at the place of its number, the last call of each live thread
pub record Knows (H : List Entry) (table : List Joined) : Type 0 where
  pub size : length table ≡ table_slots
  pub known : (t n : ℕ) → IsTrue (is_live H t) → last_call H t ≡ Some n → joined_at table (number_of t) ≡ joined_of H n

-- a call that met a receiving one, or a sending one
abbrev pub meets_receiver : Partner → Joined → Joined
meets_receiver partner joined = record joined { receiver = Some partner }

abbrev pub meets_sender : Partner → Joined → Joined
meets_sender partner joined = record joined { sender = Some partner }

-- a sending and a receiving call met, and nothing else changed
pub record Joins (H : List Entry) (n m : ℕ) (old new : List Joined) : Type 0 where
  pub size : length new ≡ length old
  pub sender : joined_at new (number_of (caller_of H n)) ≡ meets_receiver (partner_of H m) (joined_at old (number_of (caller_of H n)))
  pub receiver : joined_at new (number_of (caller_of H m)) ≡ meets_sender (partner_of H n) (joined_at old (number_of (caller_of H m)))
  pub beside : (k : ℕ) → k ≢ number_of (caller_of H n) → k ≢ number_of (caller_of H m) → joined_at new k ≡ joined_at old k
