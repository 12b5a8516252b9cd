-- The least moment at which a phase is due is after a moment at which none is.
use Rattle.std.proofs.Common.{◌≡◌, sym, ◌∙◌, ℕ, ◌+◌, ◌<◌, nat_le, false, List, Option, Some, None, IfSome, arith}
use Rattle.std.specs.List.{list_any}
use Rattle.std.proofs.lemmas.Bool.Decides.{nat_tests}
use Rattle.ipc_words.specs.Limits.{last_moment}
use Rattle.ipc_history.specs.Calls.{numbers}
use Rattle.ipc_history.specs.Timing.{is_due_at}
use Rattle.ipc_history.specs.declared.entry.Entry.{Entry}
use Rattle.ipc_waits.specs.FirstDue.{IsLeastDue}

pub least_later : (H : List Entry) (now : ℕ) (least : Option ℕ) → IsLeastDue H least → now < last_moment + 1 → list_any (is_due_at H now) (numbers H) ≡ false → IfSome least (λ moment. now < moment)
least_later H now None is early undue = tt
least_later H now (Some moment) is early undue = above moment now (sym (is.due now early) ∙ undue)
  where
    above : (a b : ℕ) → nat_le a b ≡ false → b < a
    above a b e = grind (arith, nat_tests)
