-- What keeps a kernel.
use Rattle.std.proofs.Common.{◌≡◌, refl, sym, ◌∙◌, subst, ℕ, ◌+◌, ◌≤◌, [], false, length, IsTrue, arith}
use Rattle.std.specs.List.{list_any}
use Rattle.ipc_words.specs.Limits.{max_entries, max_calls}
use Rattle.ipc_core.specs.CourseParts.{CourseParts}
use Rattle.ipc_history.specs.Calls.{numbers}
use Rattle.ipc_history.specs.Threads.{now}
use Rattle.ipc_history.specs.Timing.{is_due_at}
use Rattle.ipc_history.specs.Legal.{is_admissible}
use Rattle.ipc_history.specs.Settled.{Settled}
use Rattle.ipc_history.specs.declared.entry.Input.{Input}
use Rattle.ipc_laws.specs.Counting.{room_owed}
use Rattle.ipc_core.specs.CommandRoom.{command_need, is_clock}
use Rattle.ipc_core.specs.Invariants.{IsKernel, Stands}
use Rattle.ipc_core.specs.Steps.{with_input}
use Rattle.ipc_core.proofs.Commands.{command_legal, now_settled, now_with_input, nothing_legal, nothing_quiet, nothing_owed, undue_now}

-- the empty kernel
pub kernel_none : (entries_limit calls_limit : ℕ) (course : CourseParts) → course.entries ≡ [] → entries_limit ≤ max_entries → calls_limit ≤ max_calls → IsKernel entries_limit calls_limit 0 course
unfolding now numbers
kernel_none entries_limit calls_limit course empty few_entries few_calls = record {
  stands = subst (λ H. Stands H entries_limit 0) (sym empty) (record {
    legal = nothing_legal;
    quiet = nothing_quiet;
    within = rw nothing_owed (omega arith);
    past = omega arith;
    in_range = omega arith;
    undue = refl;
  });
  room = subst (λ H. length H + room_owed H ≤ course.room) (sym empty) (rw nothing_owed (omega arith));
  few_entries = omega (arith, few_entries);
  few_calls = few_calls;
}

-- after an input and its outputs
module _ (entries_limit calls_limit moment : ℕ) (old new : CourseParts) (input : Input) where
  pub kernel_after : IsKernel entries_limit calls_limit moment old → IsTrue (is_admissible old.entries input) → is_clock input ≡ false → length old.entries + room_owed old.entries + command_need input ≤ entries_limit → length old.entries + room_owed old.entries + command_need input ≤ new.room → Settled (with_input old.entries moment input) new.entries → length new.entries + room_owed new.entries ≤ length old.entries + room_owed old.entries + command_need input → IsKernel entries_limit calls_limit moment new
  kernel_after kernel admissible no_clock within fits settled spent =
      let stands = kernel.stands in
      let later = now_settled _ _ settled ∙ now_with_input old.entries moment input no_clock stands.past in
      record {
        stands = record {
          legal = settled.legal (command_legal old.entries moment input stands.legal stands.quiet stands.in_range stands.undue admissible no_clock);
          quiet = settled.quiet;
          within = omega arith;
          past = omega arith;
          in_range = stands.in_range;
          undue = subst (λ m. list_any (is_due_at new.entries m) (numbers new.entries) ≡ false) later (undue_now new.entries settled.quiet);
        };
        room = omega arith;
        few_entries = kernel.few_entries;
        few_calls = kernel.few_calls;
      }
