-- Which slot holds an open call.
use Rattle.std.proofs.lemmas.Bool.{false≢true}
use Rattle.std.proofs.lemmas.Option.{none-some, same_Some}
use Rattle.std.proofs.Common.{◌≡◌, refl, sym, ap, ◌∙◌, ℕ, ◌==◌, Bool, true, false, List, Option, Some, None, option_map, option_and_then, if◌then◌else◌}
use Rattle.std.specs.Option.{option_or, option_map_or}
use Rattle.ipc_words.specs.ThreadId.{number_of}
use Rattle.ipc_history.specs.Words.{last_some}
use Rattle.ipc_history.specs.Entries.{thread_in}
use Rattle.ipc_history.specs.Calls.{caller_of}
use Rattle.ipc_history.specs.Threads.{is_live}
use Rattle.ipc_history.specs.Phases.{is_over, open_call, moved_bytes}
use Rattle.ipc_history.specs.Legal.{Legal}
use Rattle.ipc_history.specs.declared.entry.Entry.{Entry}
use Rattle.ipc_history.specs.declared.entry.Entry.TheVariants.{Given}
use Rattle.ipc_history.specs.declared.entry.Input.TheVariants.{Opened}
use Rattle.std.proofs.lemmas.Option.{cond_some}
use Rattle.std.proofs.Common.{eqb-true, eq-eqb, [], ◌∷◌, ◌<◌, ◌≤◌, inl, inr, arith}
use Rattle.std.proofs.lemmas.Bool.{cases_order}
use Rattle.ipc_laws.proofs.Tests.{not_both}
use Rattle.ipc_laws.proofs.CallOrder.{is_open_call}
use Rattle.ipc_laws.proofs.OneLive.{live_is_last}
use Rattle.ipc_threads.specs.Standings.{IsStanding, standing_of}
use Rattle.ipc_threads.specs.Slots.{Stands, slot_of, live_of, live_at, slot_at}
use Rattle.ipc_threads.specs.Steps.{standing_in, holds, held_sender, no_sender}
use Rattle.ipc_threads.specs.declared.slot.Standing.{Standing}
use Rattle.ipc_threads.specs.declared.slot.Sender.{Sender}
use Rattle.ipc_threads.specs.Slot.{Slot}
use Rattle.ipc_threads.specs.declared.kept.KeptSlots.{KeptSlots}
use Rattle.ipc_threads.proofs.StandingSteps.{own}
use Rattle.ipc_threads.proofs.Tables.{held}

-- the threads of a number have it
pub last_number : (k : ℕ) (P : List Entry) (t : ℕ) → last_some (thread_in k) P ≡ Some t → number_of t ≡ k
last_number k [] t h = absurd (none-some t h)
last_number k (e ∷ P) t h = go (last_number k P t) (last_some (thread_in k) P) refl h
  where
    one : (e : Entry) → thread_in k e ≡ Some t → number_of t ≡ k
    one (Given (Opened u space)) g =
        let c = cond_some (number_of u == k) u t g in
        let same : u ≡ t = c.1 in
        rw (← same) (eqb-true (number_of u) k c.0)
    one _ g = absurd (none-some t g)

    go : (last_some (thread_in k) P ≡ Some t → number_of t ≡ k) → (o : Option ℕ) → last_some (thread_in k) P ≡ o → option_or o (thread_in k e) ≡ Some t → number_of t ≡ k
    go again None g h = one e h
    go again (Some u) g h = again (g ∙ h)

-- the live thread of a number
pub record IsLiveOf (P : List Entry) (k t : ℕ) : Type 0 where
  pub last : last_some (thread_in k) P ≡ Some t
  pub live : is_live P t ≡ true
  pub number : number_of t ≡ k

pub live_of_is : (P : List Entry) (k t : ℕ) → live_of P k ≡ Some t → IsLiveOf P k t
unfolding live_of
live_of_is P k t h = go (last_some (thread_in k) P) refl h
  where
    at : (u : ℕ) → last_some (thread_in k) P ≡ Some u → (b : Bool) → is_live P u ≡ b → (if b then Some u else None) ≡ Some t → IsLiveOf P k t
    at u e true l g = let same : u ≡ t = same_Some u t g in rw (← same) (record { last = e; live = l; number = last_number k P u e })
    at u e false l g = absurd (none-some t g)

    go : (o : Option ℕ) → last_some (thread_in k) P ≡ o → option_and_then (λ t. if is_live P t then Some t else None) o ≡ Some t → IsLiveOf P k t
    go None e g = absurd (none-some t g)
    go (Some u) e g = at u e (is_live P u) refl g

pub live_of_at : (P : List Entry) → Legal P → (t : ℕ) → is_live P t ≡ true → live_of P (number_of t) ≡ Some t
unfolding live_of
live_of_at P legal t l = rw (live_is_last P legal t l, l) refl

-- the call that the slot of a number holds
pub record IsCallOf (P : List Entry) (k : ℕ) (s : Standing) : Type 0 where
  pub thread : ℕ
  pub live : live_of P k ≡ Some thread
  pub number : number_of thread ≡ k
  pub opened : is_over P s.number ≡ false
  pub caller : caller_of P s.number ≡ thread
  pub is : s ≡ standing_of P s.number

pub standing_number : (P : List Entry) (n : ℕ) → (standing_of P n).number ≡ n
unfolding standing_of
standing_number P n = refl

pub call_of_slot : (P : List Entry) (k : ℕ) (s : Standing) → standing_in (slot_of P k) ≡ Some s → IsCallOf P k s
unfolding slot_of live_at
call_of_slot P k s h = go (live_of P k) refl h
  where
    at : (t n : ℕ) → live_of P k ≡ Some t → open_call P t ≡ Some n → standing_of P n ≡ s → IsCallOf P k s
    at t n e o same =
        let mine = own P t n o in
        let number : n ≡ s.number = sym (standing_number P n) ∙ ap (λ s. s.number) same in
        record { thread = t; live = e; number = (live_of_is P k t e).number; opened = rw (← number) mine.0; caller = rw (← number) mine.1; is = sym same ∙ ap (standing_of P) number }

    call : (t : ℕ) → live_of P k ≡ Some t → (o : Option ℕ) → open_call P t ≡ o → option_map (standing_of P) o ≡ Some s → IsCallOf P k s
    call t e None o g = absurd (none-some s g)
    call t e (Some n) o g = at t n e o (same_Some (standing_of P n) s g)

    go : (o : Option ℕ) → live_of P k ≡ o → option_and_then (λ l. l.call) (option_map (live_at P) o) ≡ Some s → IsCallOf P k s
    go None e g = absurd (none-some s g)
    go (Some t) e g = call t e (open_call P t) refl g

-- an open call is held by the slot of its caller's number
pub slot_of_call : (P : List Entry) → Legal P → (n : ℕ) → is_over P n ≡ false → standing_in (slot_of P (number_of (caller_of P n))) ≡ Some (standing_of P n)
unfolding slot_of live_at
slot_of_call P legal n o =
    let is = is_open_call P legal n o in
    rw (live_of_at P legal (caller_of P n) is.live, is.found) refl

-- the caller of the call that a slot holds
abbrev pub sender_at : List Entry → ℕ → Sender
sender_at P n = record { caller = caller_of P n; moved = moved_bytes P n }

abbrev sender_of : ℕ → Standing → Sender
sender_of t s = record { caller = t; moved = s.moved }

pub sender_is : (P : List Entry) (k n : ℕ) → holds (slot_of P k) n ≡ true → held_sender (slot_of P k) ≡ sender_at P n
unfolding slot_of live_at standing_of
sender_is P k n h = go (live_of P k) refl h
  where
    at : (t m : ℕ) → open_call P t ≡ Some m → (m == n) ≡ true → sender_of t (standing_of P m) ≡ sender_at P n
    at t m o e = let same : m ≡ n = eqb-true m n e in rw (← (own P t m o).1, same) refl

    call : (t : ℕ) → (o : Option ℕ) → open_call P t ≡ o → option_map_or (λ s. s.number == n) (option_map (standing_of P) o) false ≡ true → option_map_or (sender_of t) (option_map (standing_of P) o) no_sender ≡ sender_at P n
    call t None e g = absurd (false≢true g)
    call t (Some m) e g = at t m e g

    go : (o : Option ℕ) → live_of P k ≡ o → option_map_or (λ s. s.number == n) (option_and_then (λ l. l.call) (option_map (live_at P) o)) false ≡ true → option_map_or (λ l. option_map_or (sender_of l.thread) l.call no_sender) (option_map (live_at P) o) no_sender ≡ sender_at P n
    go None e g = absurd (false≢true g)
    go (Some t) e g = call t (open_call P t) refl g

-- so some slot holds an open call
pub held_somewhere : (P : List Entry) → Legal P → (table : List Slot) → ((k : ℕ) → slot_at table k ≡ slot_of P k) → (n : ℕ) → is_over P n ≡ false → holds (slot_at table (number_of (caller_of P n))) n ≡ true
held_somewhere P legal table is n o = rw (is (number_of (caller_of P n)), slot_of_call P legal n o) (rw (standing_number P n) (eq-eqb n n refl))

-- what a slot holds is an open call
pub slot_standing : (P : List Entry) (slots : KeptSlots) → Stands P slots → (k : ℕ) (s : Standing) → standing_in (slot_at slots.table k) ≡ Some s → IsStanding P s
slot_standing P slots stands k s e = let is = call_of_slot P k s (ap standing_in (sym (stands.table k)) ∙ e) in record { opened = is.opened; is = is.is }

-- a call is held below the top
pub held_below : (P : List Entry) (slots : KeptSlots) → Stands P slots → (k : ℕ) (s : Standing) → standing_in (slot_at slots.table k) ≡ Some s → k < slots.top
held_below P slots stands k s e = elim (cases_order k slots.top) [ inl same ↦ absurd (past (omega arith)) | inr (inl less) ↦ less | inr (inr more) ↦ absurd (past (omega arith)) ]
  where
    past : slots.top ≤ k → ⊥
    past far = let call = call_of_slot P k s (ap standing_in (sym (stands.table k)) ∙ e) in none-some call.thread (sym (stands.above k far) ∙ (live_of_is P k call.thread call.live).last)

pub none_held : (P : List Entry) (slots : KeptSlots) → Stands P slots → (n i : ℕ) → slots.top ≤ i → ((k : ℕ) → k < i → holds (slot_at slots.table k) n ≡ false) → (k : ℕ) → holds (slot_at slots.table k) n ≡ true → ⊥
none_held P slots stands n i all below k h =
    let s = held (slot_at slots.table k) n h in
    let less = held_below P slots stands k s.0 s.1 in
    not_both h (below k (omega arith))

-- the call in the slot that was found
pub slot_call : (P : List Entry) (slots : KeptSlots) → Stands P slots → (k n : ℕ) → holds (slot_at slots.table k) n ≡ true → (s : Standing) → standing_in (slot_at slots.table k) ≡ Some s → IsStanding P s × (s.number ≡ n)
slot_call P slots stands k n h s e =
    let x = held (slot_at slots.table k) n h in
    (slot_standing P slots stands k s e, ap (λ s. s.number) (same_Some s x.0 (sym e ∙ x.1)) ∙ x.2)

pub slot_full : (P : List Entry) (slots : KeptSlots) (k n : ℕ) → holds (slot_at slots.table k) n ≡ true → standing_in (slot_at slots.table k) ≡ None → ⊥
slot_full P slots k n h e = let x = held (slot_at slots.table k) n h in none-some x.0 (sym e ∙ x.1)
