-- How many slots have a live thread.
use Rattle.std.proofs.lemmas.List.Sums.{sum_by-cons}
use Rattle.std.proofs.Common.{◌≡◌, refl, ap, cond, ℕ, zero, suc, ◌+◌, ◌-◌, ◌<◌, true, List, [], ◌∷◌, length, Option, Some, None, is_some, option_map, arith}
use Rattle.std.specs.Prelude.{replicate, slice_set}
use Rattle.ipc_threads.specs.Slot.{Slot}
use Rattle.ipc_threads.specs.Steps.{calling, called_live, live_with, with_call}
use Rattle.ipc_threads.specs.Table.{blank, live_slots, slot_at}
use Rattle.ipc_threads.specs.declared.slot.Live.{Live}
use Rattle.ipc_threads.specs.declared.slot.Standing.{Standing}

abbrev one : Slot → ℕ
one slot = cond (is_some slot.live) 1 0

more : (slot : Slot) (slots : List Slot) → live_slots (slot ∷ slots) ≡ one slot + live_slots slots
more slot slots = sum_by-cons one slot slots

pub live_blank : (n : ℕ) → live_slots (replicate n blank) ≡ 0
live_blank zero = refl
live_blank (suc n) = let rest = live_blank n in omega (arith, more blank (replicate n blank), rest)

-- it is told by the slots one by one
pub live_alike : (xs ys : List Slot) → length xs ≡ length ys → ((k : ℕ) → is_some (slot_at xs k).live ≡ is_some (slot_at ys k).live) → live_slots xs ≡ live_slots ys
live_alike [] [] size same = refl
live_alike [] (y ∷ ys) size same = absurd (omega (arith, size))
live_alike (x ∷ xs) [] size same = absurd (omega (arith, size))
live_alike (x ∷ xs) (y ∷ ys) size same =
    let first : one x ≡ one y = ap (λ b. cond b 1 0) (same 0) in
    let rest = live_alike xs ys (omega (arith, size)) (λ k. same (suc k)) in
    omega (arith, first, rest, more x xs, more y ys)

-- a slot that is set
live_set : (xs : List Slot) (i : ℕ) (slot : Slot) → i < length xs → live_slots (slice_set xs i slot) + one (slot_at xs i) ≡ live_slots xs + one slot
live_set [] i slot within = absurd (omega arith)
live_set (x ∷ xs) zero slot within = omega (arith, more slot xs, more x xs)
live_set (x ∷ xs) (suc i) slot within = omega (arith, more x (slice_set xs i slot), more x xs, live_set xs i slot (omega arith))

pub live_slots_opened : (xs : List Slot) (i : ℕ) (slot : Slot) → i < length xs → (slot_at xs i).live ≡ None → is_some slot.live ≡ true → live_slots (slice_set xs i slot) ≡ live_slots xs + 1
live_slots_opened xs i slot within free live =
    let before : one (slot_at xs i) ≡ 0 = ap (λ l. cond (is_some l) 1 0) free in
    let after : one slot ≡ 1 = ap (λ b. cond b 1 0) live in
    omega (arith, before, after, live_set xs i slot within)

pub live_slots_closed : (xs : List Slot) (i : ℕ) (slot : Slot) → i < length xs → is_some (slot_at xs i).live ≡ true → slot.live ≡ None → live_slots (slice_set xs i slot) ≡ live_slots xs - 1
live_slots_closed xs i slot within live free =
    let before : one (slot_at xs i) ≡ 1 = ap (λ b. cond b 1 0) live in
    let after : one slot ≡ 0 = ap (λ l. cond (is_some l) 1 0) free in
    omega (arith, before, after, live_set xs i slot within)

-- a call that changes, ends or begins leaves its thread
pub with_call_lives : (change : Standing → Option Standing) (slot : Slot) → is_some (with_call change slot).live ≡ is_some slot.live
with_call_lives change slot = go slot.live
  where
    go : (o : Option Live) → is_some (option_map (live_with change) o) ≡ is_some o
    go None = refl
    go (Some l) = refl

calling_lives : (call : Option Standing) (slot : Slot) → is_some (calling call slot).live ≡ is_some slot.live
calling_lives call slot = go slot.live
  where
    go : (o : Option Live) → is_some (option_map (called_live call) o) ≡ is_some o
    go None = refl
    go (Some l) = refl

pub live_calling : (xs : List Slot) (i : ℕ) (call : Option Standing) → live_slots (slice_set xs i (calling call (slot_at xs i))) ≡ live_slots xs
live_calling [] i call = refl
live_calling (x ∷ xs) zero call =
    let same : one (calling call x) ≡ one x = ap (λ b. cond b 1 0) (calling_lives call x) in
    omega (arith, same, more (calling call x) xs, more x xs)
live_calling (x ∷ xs) (suc i) call = omega (arith, more x (slice_set xs i (calling call (slot_at xs i))), more x xs, live_calling xs i call)
