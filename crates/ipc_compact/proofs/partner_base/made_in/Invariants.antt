use Rattle.std.proofs.Common.{◌≡◌, ◌≤◌, take, count_by}
use Rattle.ipc_desks.specs.CallsOf.{calls_by}
use Rattle.ipc_compact.proofs.partner_base.made_in.Given as goal

abbrev pub invariant-loop-place : goal.invariant-loop-place
invariant-loop-place l = record {
  counted : l.made ≡ count_by (calls_by l.thread) (take l.place l.kept);
  few : l.made ≤ l.place;
}
