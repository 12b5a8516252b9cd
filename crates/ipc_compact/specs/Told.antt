-- What the callers are told, where two histories have one compact.
use Rattle.std.specs.Prelude.{◌≡◌, ℕ, List, ◌++◌, ◌||◌, IsTrue}
use Rattle.ipc_history.specs.Calls.{numbers}
use Rattle.ipc_history.specs.Legal.{Legal, Quiet}
use Rattle.ipc_history.specs.Outcomes.{outcome_of}
use Rattle.ipc_history.specs.declared.entry.Entry.{Entry}
use Rattle.ipc_compact.specs.Compact.{compact, is_among, kept_calls}

-- of each kept call of the one, and of each call of what follows, the outcome is the same after
-- both
abbrev pub OutcomesAgree : Type 0
OutcomesAgree =
    (P Q : List Entry) (one other : List ℕ) → Legal P → Legal Q → Quiet P → Quiet Q
    → compact P one ≡ compact Q other → (X : List Entry) → Legal (P ++ X)
    → (n : ℕ) → IsTrue (is_among n (kept_calls P one) || is_among n (numbers X))
    → outcome_of (P ++ X) n ≡ outcome_of (Q ++ X) n
