-- The better of two calls, and what it is of the least.
use Rattle.std.proofs.lemmas.Bool.{cases_order, ltb-false, ltb-true}
use Rattle.std.proofs.lemmas.Option.{none-some, same_Some}
use Rattle.std.proofs.Common.{◌≡◌, refl, sym, ap, ◌∙◌, ℕ, ◌+◌, ◌≤◌, Bool, true, false, nat_lt, if◌then◌else◌, List, Option, Some, None, inl, inr, arith}
use Rattle.std.specs.Option.{option_map_or}
use Rattle.ipc_history.specs.declared.entry.Output.{Output}
use Rattle.ipc_waits.specs.Least.{IsFound, IsLeast, better_of, earlier}
use Rattle.ipc_threads.specs.Slots.{slot_at}
use Rattle.ipc_threads.specs.Steps.{standing_in}
use Rattle.ipc_threads.specs.Slot.{Slot}
use Rattle.ipc_threads.specs.declared.slot.Standing.{Standing}

-- the earlier one is no later than the one that came
pub earlier_found : (best : Option (ℕ × Output)) (n : ℕ) (y : Output) → IsFound (earlier best n y) n
earlier_found None n y = ((n, y), refl, omega arith)
earlier_found (Some b) n y = go (nat_lt b.0 n) refl
  where
    go : (less : Bool) → nat_lt b.0 n ≡ less → IsFound (if less then Some b else Some (n, y)) n
    go true e = let less = ltb-true b.0 n e in (b, refl, omega arith)
    go false e = ((n, y), refl, omega arith)

-- and no later than the best before
pub earlier_keeps : (best : Option (ℕ × Output)) (n : ℕ) (y : Output) (m : ℕ) → IsFound best m → IsFound (earlier best n y) m
earlier_keeps None n y m found = absurd (none-some found.0 found.1)
earlier_keeps (Some b) n y m found = go (nat_lt b.0 n) refl
  where
    within : b.0 ≤ m
    within = let same : found.0 ≡ b = same_Some found.0 b (sym found.1) in rw (← same) found.2

    go : (less : Bool) → nat_lt b.0 n ≡ less → IsFound (if less then Some b else Some (n, y)) m
    go true e = (b, refl, within)
    go false e = let more = ltb-false b.0 n e in ((n, y), refl, omega (arith, within))

-- it gives what f gives for it
pub earlier_gives : (f : ℕ → Option Output) (best : Option (ℕ × Output)) (n : ℕ) (y : Output) → ((b : ℕ × Output) → best ≡ Some b → f b.0 ≡ Some b.1) → f n ≡ Some y → (b : ℕ × Output) → earlier best n y ≡ Some b → f b.0 ≡ Some b.1
earlier_gives f None n y gives new b e = let same : (n, y) ≡ b = same_Some (n, y) b e in rw (← same) new
earlier_gives f (Some c) n y gives new b e = go (nat_lt c.0 n) e
  where
    go : (less : Bool) → (if less then Some c else Some (n, y)) ≡ Some b → f b.0 ≡ Some b.1
    go true e = gives b e
    go false e = let same : (n, y) ≡ b = same_Some (n, y) b e in rw (← same) new

-- The same of the better one
module _ (f : ℕ → Option Output) where
  pub better_found : (s : Standing) (y : Output) (best : Option (ℕ × Output)) → f s.number ≡ Some y → IsFound (better_of f (Some s) best) s.number
  better_found s y best e = rw e (earlier_found best s.number y)

  pub better_keeps : (held : Option Standing) (best : Option (ℕ × Output)) (m : ℕ) → IsFound best m → IsFound (better_of f held best) m
  better_keeps None best m found = found
  better_keeps (Some s) best m found = go (f s.number)
    where
      go : (o : Option Output) → IsFound (option_map_or (earlier best s.number) o best) m
      go None = found
      go (Some y) = earlier_keeps best s.number y m found

  pub better_gives : (held : Option Standing) (best : Option (ℕ × Output)) → ((b : ℕ × Output) → best ≡ Some b → f b.0 ≡ Some b.1) → (b : ℕ × Output) → better_of f held best ≡ Some b → f b.0 ≡ Some b.1
  better_gives None best gives b e = gives b e
  better_gives (Some s) best gives b e = go (f s.number) refl e
    where
      go : (o : Option Output) → f s.number ≡ o → option_map_or (earlier best s.number) o best ≡ Some b → f b.0 ≡ Some b.1
      go None g e = gives b e
      go (Some y) g e = earlier_gives f best s.number y gives g b e

  -- a slot more
  pub least_better : (table : List Slot) (i : ℕ) (best : Option (ℕ × Output)) → IsLeast f table i best → IsLeast f table (i + 1) (better_of f (standing_in (slot_at table i)) best)
  least_better table i best least = record {
    seen = λ k within s e y g. elim (cases_order k i) [
      | inl same ↦ (
          let here : standing_in (slot_at table i) ≡ Some s = ap (λ k. standing_in (slot_at table k)) (sym same) ∙ e in
          rw here (better_found s y best g))
      | inr (inl less) ↦ better_keeps (standing_in (slot_at table i)) best s.number (least.seen k less s e y g)
      | inr (inr more) ↦ absurd (omega arith)
    ];
    is = better_gives (standing_in (slot_at table i)) best least.is;
  }

  -- a call for which f gives nothing changes nothing
  pub better_passes : (held : Option Standing) (best : Option (ℕ × Output)) (s : Standing) → held ≡ Some s → f s.number ≡ None → best ≡ better_of f held best
  better_passes held best s e none = rw (e, none) refl
