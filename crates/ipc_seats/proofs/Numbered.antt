-- Of the calls of a thread whose outcome is to take all but the last were taken.
use Rattle.std.proofs.Common.{◌≡◌, ℕ, ◌+◌, List, Bool, true, false, not, ◌&&◌, Option, Some, None, refl, subst, sym}
use Rattle.std.specs.Prelude.{if◌then◌else◌, option_and_then}
use Rattle.std.specs.Option.{option_map_or}
use Rattle.ipc_history.specs.Threads.{is_live}
use Rattle.ipc_history.specs.Outcomes.{OutcomeParts, outcome_of}
use Rattle.ipc_history.specs.declared.entry.Entry.{Entry}
use Rattle.ipc_laws.specs.Laws.{one_if}
use Rattle.ipc_desks.specs.CallsOf as calls
use Rattle.ipc_desks.specs.CallsOf.{is_among, last_call}
use Rattle.ipc_core.specs.KernelParts.{KernelParts}
use Rattle.ipc_core.specs.Outcomes.{has_untaken, made_by, outcome_to_take, taken_by}

waits_of : (H : List Entry) (taken : List ℕ) (thread : ℕ) (o : OutcomeParts)
    → calls.outcome_to_take H taken thread ≡ Some o → calls.is_busy H taken thread ≡ true
unfolding calls.outcome_to_take calls.is_busy
waits_of H taken thread o is = go (last_call H thread) is
  where
    at : (n : ℕ) (among : Bool) → (if among then None else outcome_of H n) ≡ Some o → not among ≡ true
    at n true some = absurd cc
    at n false some = refl

    go : (last : Option ℕ) → option_and_then (calls.untaken_outcome H taken) last ≡ Some o
        → option_map_or (λ n. not (is_among n taken)) last false ≡ true
    go None some = absurd cc
    go (Some n) some = at n (is_among n taken) some

to_take_waits : (kernel : KernelParts) (thread : ℕ) (o : OutcomeParts)
    → outcome_to_take kernel thread ≡ Some o → has_untaken kernel thread ≡ true
unfolding outcome_to_take has_untaken
to_take_waits kernel thread o is = go (is_live kernel.history thread) is
  where
    go : (live : Bool) → (if live then calls.outcome_to_take kernel.history kernel.taken thread else None) ≡ Some o
        → live && calls.is_busy kernel.history kernel.taken thread ≡ true
    go true some = waits_of kernel.history kernel.taken thread o some
    go false some = absurd cc

-- so the outcome that is taken is that of the call whose number is one more than were taken
pub is_next : (kernel : KernelParts) (thread : ℕ) (o : OutcomeParts)
    → taken_by kernel thread + one_if (has_untaken kernel thread) ≡ made_by kernel.history thread
    → outcome_to_take kernel thread ≡ Some o → made_by kernel.history thread ≡ taken_by kernel thread + 1
is_next kernel thread o counted is =
    sym (subst (λ b. taken_by kernel thread + one_if b ≡ made_by kernel.history thread)
    (to_take_waits kernel thread o is) counted)
