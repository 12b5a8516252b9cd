-- A number that was never taken is new to the log.
use Rattle.std.proofs.Common.{◌≡◌, ◌==◌, ◌||◌, ℕ, zero, suc, List, [], ◌∷◌, ◌++◌, Bool, true, false, true≢false, arith, eq-eqb, refl, sym, ap, ◌∙◌, subst}
use Rattle.std.specs.Prelude.{Contains}
use Rattle.ipc_base.specs.LogRules.{numbers_of}
use Rattle.ipc_seats.specs.Numbering.{is_taken}
use Rattle.ipc_seats.specs.Owning.{numbers_by}
use Rattle.ipc_seats.specs.declared.events.Event.{Event}
use Rattle.ipc_lock.specs.InsideParts.{InsideParts}
use Rattle.ipc_lock.specs.Logs.{numbers_in}
use Rattle.ipc_lock.specs.Turns.{Runs}
use Rattle.ipc_lock.proofs.NewNumbers.{logs_number_once}

-- the numbers that a log gave are those of the connections
same_numbers : (log : List Event) → numbers_of numbers_by log ≡ numbers_in log
same_numbers [] = refl
same_numbers (next ∷ log) = ap (λ (l : List ℕ). numbers_by next ++ l) (same_numbers log)

first_or : (a b : Bool) → a ≡ true → a || b ≡ true
first_or true b is = refl
first_or false b is = absurd (true≢false (sym is))

second_or : (a b : Bool) → a || b ≡ false → b ≡ false
second_or true b is = absurd (true≢false is)
second_or false b is = is

pub not_among : (number : ℕ) (taken : List ℕ) → is_taken number taken ≡ false → Contains taken number → ⊥
not_among number [] is there = absurd (omega (arith, there.1))
not_among number (other ∷ taken) is (zero, lt, same) =
    true≢false (sym (first_or (other == number) (is_taken number taken) (eq-eqb other number same)) ∙ is)
not_among number (other ∷ taken) is (suc k, lt, same) =
    not_among number taken (second_or (other == number) (is_taken number taken) is) (k, omega (arith, lt), same)

-- a number that was never taken is given by no event of the log
pub is_fresh : (C P : Type 0) (log : List Event) (inside : InsideParts) (number : ℕ) → Runs C P log inside → is_taken number inside.numbers ≡ false
    → Contains (numbers_of numbers_by log) number → ⊥
is_fresh C P log inside number runs new there =
    not_among number inside.numbers new
    (subst (λ (l : List ℕ). Contains l number) (same_numbers log ∙ sym (logs_number_once C P log inside runs).numbers) there)
