-- What a table says of a thread.
use Rattle.std.proofs.lemmas.Bool.{ne_eqb}
use Rattle.std.proofs.lemmas.Option.{none-some, same_Some}
use Rattle.std.proofs.Common.{◌≡◌, refl, sym, ap, ◌∙◌, ℕ, ◌==◌, eq-eqb, if◌then◌else◌, Bool, true, false, List, Option, Some, None, is_some, option_map, option_and_then}
use Rattle.ipc_words.specs.ThreadId.{number_of}
use Rattle.ipc_history.specs.Threads.{is_live, space_of}
use Rattle.ipc_history.specs.Phases.{is_over, open_call}
use Rattle.ipc_history.specs.Legal.{Legal}
use Rattle.ipc_history.specs.declared.entry.Entry.{Entry}
use Rattle.ipc_laws.proofs.Tests.{not_both}
use Rattle.ipc_threads.specs.Slots.{Stands, slot_of, live_of, live_at, live_in, if_thread, space_in}
use Rattle.ipc_threads.specs.Standings.{IsStanding, standing_of}
use Rattle.ipc_threads.specs.declared.slot.Standing.{Standing}
use Rattle.ipc_threads.specs.declared.slot.Live.{Live}
use Rattle.ipc_threads.specs.declared.kept.KeptSlots.{KeptSlots}
use Rattle.ipc_threads.proofs.Holders.{live_of_at, live_of_is, standing_number}
use Rattle.ipc_threads.proofs.StandingSteps.{own}
use Rattle.ipc_threads.proofs.ThreadSteps.{no_call}

live_thread : (P : List Entry) (t : ℕ) → (live_at P t).thread ≡ t
unfolding live_at
live_thread P t = refl

live_space : (P : List Entry) (t : ℕ) → (live_at P t).space ≡ space_of P t
unfolding live_at
live_space P t = refl

pub live_is : (P : List Entry) (slots : KeptSlots) → Legal P → Stands P slots → (t : ℕ) → live_in slots.table t ≡ (if is_live P t then Some (live_at P t) else None)
unfolding slot_of
live_is P slots legal stands t = ap (λ s. option_and_then (if_thread t) s.live) (stands.table (number_of t)) ∙ go (is_live P t) refl
  where
    other : (u : ℕ) → live_of P (number_of t) ≡ Some u → is_live P t ≡ false → (u == t) ≡ false
    other u e dead = ne_eqb u t (λ same. not_both (rw same at (live_of_is P (number_of t) u e).live) dead)

    none : (o : Option ℕ) → live_of P (number_of t) ≡ o → is_live P t ≡ false → option_and_then (if_thread t) (option_map (live_at P) o) ≡ None
    none None e dead = refl
    none (Some u) e dead = rw (live_thread P u, other u e dead) refl

    go : (b : Bool) → is_live P t ≡ b → option_and_then (if_thread t) (option_map (live_at P) (live_of P (number_of t))) ≡ (if b then Some (live_at P t) else None)
    go true live = rw (live_of_at P legal t live) (rw (live_thread P t, eq-eqb t t refl) refl)
    go false dead = none (live_of P (number_of t)) refl dead

pub is_some_live : (P : List Entry) (slots : KeptSlots) → Legal P → Stands P slots → (t : ℕ) → is_some (live_in slots.table t) ≡ is_live P t
is_some_live P slots legal stands t = ap is_some (live_is P slots legal stands t) ∙ go (is_live P t)
  where
    go : (b : Bool) → is_some (if b then Some (live_at P t) else None) ≡ b
    go true = refl
    go false = refl

-- a live thread that was found is the live thread
pub found_is : (P : List Entry) (slots : KeptSlots) → Legal P → Stands P slots → (t : ℕ) (l : Live) → live_in slots.table t ≡ Some l → (is_live P t ≡ true) × (l ≡ live_at P t)
found_is P slots legal stands t l e = go (is_live P t) refl (sym (live_is P slots legal stands t) ∙ e)
  where
    go : (b : Bool) → is_live P t ≡ b → (if is_live P t then Some (live_at P t) else None) ≡ Some l → (is_live P t ≡ true) × (l ≡ live_at P t)
    go true h g = (h, sym (same_Some (live_at P t) l (rw h at g)))
    go false h g = absurd (none-some l (rw h at g))

pub space_some : (P : List Entry) (slots : KeptSlots) → Legal P → Stands P slots → (t : ℕ) (l : Live) → live_in slots.table t ≡ Some l → l.space ≡ space_of P t
space_some P slots legal stands t l e = ap (λ l. l.space) (found_is P slots legal stands t l e).1 ∙ live_space P t

pub not_none : (P : List Entry) (slots : KeptSlots) → Legal P → Stands P slots → (t : ℕ) → is_live P t ≡ true → live_in slots.table t ≡ None → ⊥
not_none P slots legal stands t live e = none-some (live_at P t) (sym e ∙ (live_is P slots legal stands t ∙ rw live refl))

-- The open call of a thread, in a table

in_live : (P : List Entry) (t : ℕ) → (live_at P t).call ≡ option_map (standing_of P) (open_call P t)
unfolding live_at
in_live P t = refl

pub call_found : (P : List Entry) (slots : KeptSlots) → Legal P → Stands P slots → (t : ℕ) (o : Option Live) → o ≡ live_in slots.table t → option_and_then (λ l. l.call) o ≡ option_map (standing_of P) (open_call P t)
call_found P slots legal stands t o e = ap (option_and_then (λ l. l.call)) (e ∙ live_is P slots legal stands t) ∙ go (is_live P t) refl
  where
    go : (b : Bool) → is_live P t ≡ b → option_and_then (λ l. l.call) (if b then Some (live_at P t) else None) ≡ option_map (standing_of P) (open_call P t)
    go true live = in_live P t
    go false dead = rw (no_call P legal t dead) refl

pub space_found : (P : List Entry) (slots : KeptSlots) → Legal P → Stands P slots → (t : ℕ) → is_live P t ≡ true → space_in slots.table t ≡ space_of P t
space_found P slots legal stands t live = rw (live_is P slots legal stands t, live) (live_space P t)

-- what is kept of a call that was looked up
pub looked_up : (P : List Entry) (o : Option ℕ) → ((m : ℕ) → o ≡ Some m → is_over P m ≡ false) → (r : Standing) → Some r ≡ option_map (standing_of P) o → (o ≡ Some r.number) × IsStanding P r
looked_up P None opened r e = absurd (none-some r (sym e))
looked_up P (Some m) opened r e =
    let same : standing_of P m ≡ r = same_Some (standing_of P m) r (sym e) in
    let number : m ≡ r.number = sym (standing_number P m) ∙ ap (λ s. s.number) same in
    (ap (λ m. Some m) number, record { opened = rw (← number) (opened m refl); is = sym same ∙ ap (standing_of P) number })

pub none_up : (P : List Entry) (o : Option ℕ) → None ≡ option_map (standing_of P) o → o ≡ None
none_up P None e = refl
none_up P (Some m) e = absurd (none-some (standing_of P m) e)

-- and of the open call of a thread
pub call_up : (P : List Entry) (t : ℕ) (r : Standing) → Some r ≡ option_map (standing_of P) (open_call P t) → (open_call P t ≡ Some r.number) × IsStanding P r
call_up P t r e = looked_up P (open_call P t) (λ m g. (own P t m g).0) r e
