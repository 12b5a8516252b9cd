-- Which lines may stand where.
use Rattle.std.proofs.Common.{ℕ, IsTrue}
use Rattle.ipc_history.specs.declared.entry.Entry.{Entry}
use Rattle.ipc_trace.specs.Lines.{may_stand}
use Rattle.ipc_trace.specs.declared.line.PartLine.{PartLine}
use Rattle.ipc_trace.specs.declared.line.PartLine.TheVariants as line
use Rattle.ipc_trace.specs.declared.line.Stage.TheVariants as stage

module _ (P : PartLine → Type 0) where
  pub at_version : P line.Version → (read : PartLine) → IsTrue (may_stand stage.Version read) → P read
  at_version here line.Version stands = here
  at_version here _ stands = cc

  pub at_moment : ((n : ℕ) → P (line.Moment n)) → (read : PartLine) → IsTrue (may_stand stage.Moment read) → P read
  at_moment here (line.Moment n) stands = here n
  at_moment here _ stands = cc

  pub at_calls : ((n : ℕ) → P (line.Calls n)) → (read : PartLine) → IsTrue (may_stand stage.Calls read) → P read
  at_calls here (line.Calls n) stands = here n
  at_calls here _ stands = cc

  pub at_takes : ((n : ℕ) → P (line.Takes n)) → (read : PartLine) → IsTrue (may_stand stage.Takes read) → P read
  at_takes here (line.Takes n) stands = here n
  at_takes here _ stands = cc

  pub at_numbers : ((k v d : ℕ) → P (line.Number k v d)) → ((read : PartLine) → IsTrue (may_stand stage.Overs read) → P read)
      → (read : PartLine) → IsTrue (may_stand stage.Numbers read) → P read
  at_numbers number behind (line.Number k v d) stands = number k v d
  at_numbers number behind (line.Over n) stands = behind (line.Over n) stands
  at_numbers number behind line.Kept stands = behind line.Kept stands
  at_numbers number behind _ stands = cc

  pub at_overs : ((n : ℕ) → P (line.Over n)) → P line.Kept → (read : PartLine) → IsTrue (may_stand stage.Overs read) → P read
  at_overs over kept (line.Over n) stands = over n
  at_overs over kept line.Kept stands = kept
  at_overs over kept _ stands = cc

  pub at_kept : ((e : Entry) → P (line.Entry e)) → P line.Since → (read : PartLine) → IsTrue (may_stand stage.Kept read) → P read
  at_kept entry since (line.Entry e) stands = entry e
  at_kept entry since line.Since stands = since
  at_kept entry since _ stands = cc

  pub at_since : ((e : Entry) → P (line.Entry e)) → (read : PartLine) → IsTrue (may_stand stage.Since read) → P read
  at_since entry (line.Entry e) stands = entry e
  at_since entry _ stands = cc
