-- What is kept says of an open call what a program keeps of it.
use Rattle.std.proofs.Common.{◌≡◌, refl, ℕ, Bool, true, false, List, Option, Some, None, inl, if◌then◌else◌}
use Rattle.std.specs.List.{list_any}
use Rattle.std.specs.Option.{option_map_or}
use Rattle.ipc_history.specs.Entries.{calls}
use Rattle.ipc_history.specs.Calls.{call_at, caller_of}
use Rattle.ipc_history.specs.Threads.{has_broken, now}
use Rattle.ipc_history.specs.Phases.{is_over, is_sent, moved_bytes, sender_of}
use Rattle.ipc_history.specs.Matching.{before_call, shown_sender}
use Rattle.ipc_history.specs.Timing.{before_sent}
use Rattle.ipc_history.specs.Legal.{Legal}
use Rattle.ipc_history.specs.declared.entry.Entry.{Entry}
use Rattle.ipc_laws.proofs.Growth.{open_is_called}
use Rattle.ipc_threads.specs.Standings.{phase_of, since_of, standing_of}
use Rattle.ipc_threads.specs.declared.slot.Phase.TheVariants.{Receiving, Taking}
use Rattle.ipc_compact.specs.Compact.{is_among, kept_calls, kept_of}
use Rattle.ipc_compact.specs.Standings.{OverKept, StandingsKept}
use Rattle.ipc_compact.proofs.CallReading as there
use Rattle.ipc_compact.proofs.Reading as reading
use Rattle.ipc_compact.proofs.SameCalls as same
use Rattle.ipc_compact.proofs.SameCompact as compacts
use Rattle.ipc_compact.proofs.ShownReading as shown
use Rattle.ipc_compact.proofs.ThreadReading as threads

module _ (H : List Entry) (taken : List ℕ) (n : ℕ) (k : is_among n (kept_calls H taken) ≡ true) where
  broken_same : has_broken (kept_of H taken) (caller_of H n) ≡ has_broken H (caller_of H n)
  broken_same = threads.broken_read H taken (caller_of H n) (there.caller_stays H taken n (inl k))

  pub over_same : is_over (kept_of H taken) n ≡ is_over H n
  unfolding is_over
  over_same = rw (
    reading.closed_read H taken n k,
    reading.caller_read H taken n k,
    broken_same,
    reading.from_read H taken n k,
    reading.sent_read H taken n k,
    reading.to_read H taken n k,
  ) refl

module _ (H : List Entry) (taken : List ℕ) (legal : Legal H) (n : ℕ) (o : is_over H n ≡ false) where
  k : is_among n (kept_calls H taken) ≡ true
  k = compacts.kept_open H taken legal n o

  call : call_at (kept_of H taken) n ≡ call_at H n
  call = reading.call_read H taken n k

  entered : list_any (calls n) H ≡ true
  entered = compacts.called_any H n (open_is_called H n o)

  shown_same : shown_sender (kept_of H taken) n ≡ shown_sender H n
  shown_same = shown.shown_same H taken n (there.called_kept H taken n (inl k)) (there.shown_stays H taken n (inl k)) (there.caller_stays H taken n (inl k))

  since_same : since_of (kept_of H taken) n ≡ since_of H n
  unfolding since_of
  since_same = rw (reading.sent_read H taken n k) (go (is_sent H n))
    where
      go : (b : Bool) → now (if b then before_sent (kept_of H taken) n else before_call (kept_of H taken) n) ≡ now (if b then before_sent H n else before_call H n)
      go true = reading.sent_moment H taken n k
      go false = reading.begun_read H taken n k entered

  -- the other call of its transfer
  taking : (j : ℕ) → sender_of H n ≡ Some j → Taking j (caller_of (kept_of H taken) j) (moved_bytes (kept_of H taken) j) ≡ Taking j (caller_of H j) (moved_bytes H j)
  taking j e =
      let is = compacts.sender_there H taken legal n j o e in
      rw (shown.caller_same H taken j (there.called_kept H taken j is), there.bytes_same H taken j is) refl

  sender_same : option_map_or (λ j. Taking j (caller_of (kept_of H taken) j) (moved_bytes (kept_of H taken) j)) (sender_of H n) Receiving ≡ option_map_or (λ j. Taking j (caller_of H j) (moved_bytes H j)) (sender_of H n) Receiving
  sender_same = go (sender_of H n) refl
    where
      go : (s : Option ℕ) → sender_of H n ≡ s → option_map_or (λ j. Taking j (caller_of (kept_of H taken) j) (moved_bytes (kept_of H taken) j)) s Receiving ≡ option_map_or (λ j. Taking j (caller_of H j) (moved_bytes H j)) s Receiving
      go None e = refl
      go (Some j) e = taking j e

  phase_same : phase_of (kept_of H taken) n ≡ phase_of H n
  unfolding phase_of
  phase_same = rw (
    reading.to_read H taken n k,
    reading.sent_read H taken n k,
    reading.receiver_read H taken n k,
    reading.sender_read H taken n k,
    sender_same,
  ) refl

  pub standing_same : standing_of (kept_of H taken) n ≡ standing_of H n
  unfolding standing_of
  standing_same = rw (
    same.caller (kept_of H taken) H n call,
    same.to (kept_of H taken) H n call,
    same.from (kept_of H taken) H n call,
    reading.wanted_read H taken n k,
    shown_same,
    since_same,
    same.send_period (kept_of H taken) H n call,
    same.receive_period (kept_of H taken) H n call,
    same.size (kept_of H taken) H n call,
    reading.bytes_read H taken n k,
    phase_same,
  ) refl

pub over_kept : OverKept
over_kept H taken n k = over_same H taken n k

pub standings_kept : StandingsKept
standings_kept H taken legal n o = standing_same H taken legal n o
