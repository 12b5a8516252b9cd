-- The first moment at which a waiting phase is due.
use Rattle.std.proofs.Common.{◌≡◌, sym, ◌∙◌, ℕ, ◌+◌, ◌<◌, nat_le, List, Option, IfSome, arith}
use Rattle.std.specs.List.{list_any}
use Rattle.ipc_words.specs.Limits.{last_moment}
use Rattle.ipc_history.specs.Legal.{Legal}
use Rattle.ipc_history.specs.declared.entry.Entry.{Entry}
use Rattle.ipc_threads.specs.Slots.{Stands}
use Rattle.ipc_threads.specs.declared.kept.KeptSlots.{KeptSlots}
use Rattle.ipc_waits.specs.FirstDue.{IsLeastDue}
use Rattle.ipc_waits.specs.Keys.{Mirrors, due_under}
use Rattle.ipc_waits.specs.Queues.{is_until}
use Rattle.ipc_waits.specs.declared.queue.Wait.{Wait}
use Rattle.ipc_waits.proofs.WaitFacts.{any_is_due}

-- the least key of the deadlines, where the clock reaches it
pub least_due : (P : List Entry) (slots : KeptSlots) → Legal P → Stands P slots → (ws : List Wait) → Mirrors due_under slots.table ws → (key least : Option ℕ) → IfSome least (λ moment. moment < last_moment + 1) → ((moment : ℕ) → moment < last_moment + 1 → is_until least moment ≡ is_until key moment) → ((moment : ℕ) → list_any (λ w. nat_le w.key moment) ws ≡ is_until key moment) → IsLeastDue P least
least_due P slots legal stands ws mirrors key least within same is = record {
  within = within;
  due = λ moment early. sym (any_is_due P slots legal stands ws mirrors moment (omega (arith, early))) ∙ (is moment ∙ sym (same moment early));
}
