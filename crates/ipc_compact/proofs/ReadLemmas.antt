-- All that the kept entries say of a kept call.
use Rattle.std.proofs.Common.{◌≡◌, refl, ℕ, eq-eqb, true, List}
use Rattle.std.specs.List.{list_any}
use Rattle.ipc_history.specs.Entries.{calls}
use Rattle.ipc_history.specs.Calls.{is_called}
use Rattle.ipc_history.specs.declared.entry.Entry.{Entry}
use Rattle.ipc_laws.proofs.Histories.{called_place}
use Rattle.ipc_laws.proofs.Places.{any_at}
use Rattle.ipc_compact.specs.Compact.{is_among, kept_calls, kept_of}
use Rattle.ipc_compact.specs.Reads.{ReadsAs, KeptReads, ThreadsRead}
use Rattle.ipc_compact.proofs.Reading as reading
use Rattle.ipc_compact.proofs.ThreadReading as threads

called_any : (P : List Entry) (n : ℕ) → is_called P n ≡ true → list_any (calls n) P ≡ true
called_any P n c = let made = called_place P n c in any_at (calls n) P _ made.at (eq-eqb n n refl)

reads_as : (H : List Entry) (taken : List ℕ) (n : ℕ) → is_among n (kept_calls H taken) ≡ true → list_any (calls n) H ≡ true → ReadsAs (kept_of H taken) H n
reads_as H taken n k c = record {
  call = reading.call_read H taken n k;
  receiver = reading.receiver_read H taken n k;
  sender = reading.sender_read H taken n k;
  sent = reading.sent_read H taken n k;
  closed = reading.closed_read H taken n k;
  ended = reading.ended_read H taken n k;
  got = reading.got_read H taken n k;
  bytes = reading.bytes_read H taken n k;
  wanted = reading.wanted_read H taken n k;
  begun = reading.begun_read H taken n k c;
  started = reading.started_read H taken n k c;
}

pub kept_reads : KeptReads
kept_reads H taken = (reading.now_read H taken, λ n k c. reads_as H taken n k (called_any H n c))

pub threads_read : ThreadsRead
threads_read H taken t = (threads.live_read H taken t, λ live. threads.space_read H taken t (threads.lives_stays H taken t live))
