-- What the live threads wait for, by their words.
use Rattle.std.specs.Prelude.{ℕ, Option, unwrap_or}
use Rattle.std.specs.Ordering.{nat_cmp}
use Rattle.std.specs.BTreeMap.{BTreeMap, get}
use Rattle.l4sh_chart.specs.declared.calls.Wait.{Wait}

-- a thread that is not among them does not live
abbrev pub wait_in : BTreeMap ℕ Wait → ℕ → Option Wait
wait_in waits thread = get nat_cmp waits thread

-- what it waits for where this has changed since
abbrev pub wait_behind : BTreeMap ℕ Wait → BTreeMap ℕ (Option Wait) → ℕ → Option Wait
wait_behind waits changed thread = unwrap_or (get nat_cmp changed thread) (wait_in waits thread)
