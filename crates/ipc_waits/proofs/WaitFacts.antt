-- What the queues say of a history.
use Rattle.std.proofs.lemmas.Bool.{false≢true, false_from_ne_true}
use Rattle.std.proofs.lemmas.Option.{cond_some}
use Rattle.std.proofs.Common.{◌≡◌, refl, sym, ap, ◌∙◌, subst, ℕ, ◌-◌, ◌^◌, ◌<◌, ◌≤◌, ◌==◌, ◌&&◌, eq-eqb, eqb-true, nat_le, Bool, true, false, List, Option, Some, None, map, arith}
use Rattle.std.specs.List.{list_any}
use Rattle.std.specs.Option.{option_map_or}
use Rattle.ipc_words.specs.Limits.{table_slots}
use Rattle.ipc_words.specs.ThreadId.{anythread, anylocalthread, number_of}
use Rattle.ipc_history.specs.Calls.{numbers, caller_of, to_of}
use Rattle.ipc_history.specs.Threads.{is_live}
use Rattle.ipc_history.specs.Phases.{is_over, is_sending}
use Rattle.ipc_history.specs.Timing.{is_due_at}
use Rattle.ipc_history.specs.Legal.{Legal}
use Rattle.ipc_history.specs.declared.entry.Entry.{Entry}
use Rattle.ipc_laws.proofs.Places.{any_at, any_place}
use Rattle.ipc_laws.proofs.PhaseParts.{sends_parts}
use Rattle.ipc_laws.proofs.Steps.{number_of_open}
use Rattle.ipc_laws.proofs.Tests.{both, left, right}
use Rattle.ipc_waits.specs.Finding.{is_among, senders, sends_to, watches}
use Rattle.ipc_waits.proofs.Among.{open_among}
use Rattle.ipc_waits.proofs.Kept.{due_at_open}
use Rattle.ipc_waits.proofs.Lists.{among_filtered}
use Rattle.ipc_threads.specs.Slots.{Stands, slot_at}
use Rattle.ipc_threads.specs.Standings.{standing_of}
use Rattle.ipc_threads.specs.Steps.{standing_in}
use Rattle.ipc_threads.specs.declared.slot.Standing.{Standing}
use Rattle.ipc_threads.specs.declared.kept.KeptSlots.{KeptSlots}
use Rattle.ipc_threads.proofs.Holders.{call_of_slot, slot_of_call}
use Rattle.ipc_threads.proofs.ThreadSteps.{live_within}
use Rattle.ipc_waits.specs.Keys.{Mirrors, due_under, is_of, sends_under, watches_under}
use Rattle.ipc_waits.specs.Queues.{is_in, under, until}
use Rattle.ipc_waits.specs.declared.queue.Wait.{Wait}
use Rattle.ipc_waits.proofs.WaitKeys.{due_key, due_reaches, sends_key, watches_key, watches_open}
use Rattle.ipc_waits.proofs.WaitLists.{any_in, in_any, in_filter, in_map, of_map}

-- the open call that a wait is of
pub record IsWaitOf (P : List Entry) (key_of : Standing → Option ℕ) (w : Wait) : Type 0 where
  pub opened : is_over P w.number ≡ false
  pub place : number_of (caller_of P w.number) ≡ w.place
  pub key : key_of (standing_of P w.number) ≡ Some w.key

same_tests : (a b : Bool) → (a ≡ true → b ≡ true) → (b ≡ true → a ≡ true) → a ≡ b
same_tests true b f g = sym (f refl)
same_tests false true f g = g refl
same_tests false false f g = refl

its_number : (P : List Entry) (n : ℕ) → ((standing_of P n).number == n) ≡ true
unfolding standing_of
its_number P n = eq-eqb n n refl

-- the wait that an open call has under a key
abbrev pub wait_for : List Entry → ℕ → ℕ → Wait
wait_for P n key = record { key = key; number = n; place = number_of (caller_of P n) }

module _ (P : List Entry) (slots : KeptSlots) (legal : Legal P) (stands : Stands P slots) (key_of : Standing → Option ℕ) (ws : List Wait) (mirrors : Mirrors key_of slots.table ws) where
  pub wait_of : (w : Wait) → is_in ws w ≡ true → IsWaitOf P key_of w
  wait_of w there = go (standing_in (slot_at slots.table w.place)) refl (sym (mirrors w) ∙ there)
    where
      keyed : (o : Option ℕ) → option_map_or (λ key. key == w.key) o false ≡ true → o ≡ Some w.key
      keyed None h = absurd (false≢true h)
      keyed (Some key) h = ap (λ k. Some k) (eqb-true key w.key h)

      of : (s : Standing) → standing_in (slot_at slots.table w.place) ≡ Some s → s.number ≡ w.number → key_of s ≡ Some w.key → IsWaitOf P key_of w
      of s e number key =
          let call = call_of_slot P w.place s (ap standing_in (sym (stands.table w.place)) ∙ e) in
          record {
            opened = subst (λ n. is_over P n ≡ false) number call.opened;
            place = ap (λ n. number_of (caller_of P n)) (sym number) ∙ (ap number_of call.caller ∙ call.number);
            key = ap (λ n. key_of (standing_of P n)) (sym number) ∙ (ap key_of (sym call.is) ∙ key);
          }

      go : (o : Option Standing) → standing_in (slot_at slots.table w.place) ≡ o → is_of key_of o w ≡ true → IsWaitOf P key_of w
      go None e h = absurd (false≢true h)
      go (Some s) e h =
          let keys = option_map_or (λ key. key == w.key) (key_of s) false in
          of s e (eqb-true s.number w.number (left (s.number == w.number) keys h)) (keyed (key_of s) (right (s.number == w.number) keys h))

  pub has_wait : (n key : ℕ) → is_over P n ≡ false → key_of (standing_of P n) ≡ Some key → is_in ws (wait_for P n key) ≡ true
  has_wait n key o e =
      let place = number_of (caller_of P n) in
      let held : standing_in (slot_at slots.table place) ≡ Some (standing_of P n) = ap standing_in (stands.table place) ∙ slot_of_call P legal n o in
      mirrors (wait_for P n key) ∙ (ap (λ c. is_of key_of c (wait_for P n key)) held ∙ both _ _ (its_number P n) (its_key (key_of (standing_of P n)) e))
    where
      its_key : (o : Option ℕ) → o ≡ Some key → option_map_or (λ k. k == key) o false ≡ true
      its_key o e = rw e (eq-eqb key key refl)

  -- the waits under a key
  pub under_is : (t : ℕ) (w : Wait) → is_in (under t ws) w ≡ true → (w.key ≡ t) × (is_in ws w ≡ true)
  under_is t w there =
      let parts : ((w.key == t) && is_in ws w) ≡ true = sym (in_filter (λ w. w.key == t) ws w) ∙ there in
      (eqb-true w.key t (left (w.key == t) (is_in ws w) parts), right (w.key == t) (is_in ws w) parts)

  pub has_under : (n t : ℕ) → is_over P n ≡ false → key_of (standing_of P n) ≡ Some t → is_in (under t ws) (wait_for P n t) ≡ true
  has_under n t o e = in_filter (λ w. w.key == t) ws (wait_for P n t) ∙ both _ _ (eq-eqb t t refl) (has_wait n t o e)

-- The waiting sends

module _ (P : List Entry) (slots : KeptSlots) (legal : Legal P) (stands : Stands P slots) (ws : List Wait) (mirrors : Mirrors sends_under slots.table ws) where
  -- those to a thread are its senders
  pub sender_is : (t : ℕ) (w : Wait) → is_in (under t ws) w ≡ true → sends_to P w.number t ≡ true
  sender_is t w there =
      let at = under_is P slots legal stands sends_under ws mirrors t w there in
      let wait = wait_of P slots legal stands sends_under ws mirrors w at.1 in
      let sends = cond_some (is_sending P w.number) (to_of P w.number) w.key (sym (sends_key P legal w.number wait.opened) ∙ wait.key) in
      both _ _ sends.0 (eq-eqb _ _ (sends.1 ∙ at.0))

  pub sender_waits : (n t : ℕ) → sends_to P n t ≡ true → is_in (under t ws) (wait_for P n t) ≡ true
  sender_waits n t h =
      let sends : is_sending P n ≡ true = left _ _ h in
      let to : to_of P n ≡ t = eqb-true _ _ (right (is_sending P n) _ h) in
      let o = (sends_parts P n n sends).opened in
      has_under P slots legal stands sends_under ws mirrors n t o (sends_key P legal n o ∙ rw (sends, to) refl)

  pub senders_are : (n t : ℕ) → is_among (map (λ w. w.number) (under t ws)) n ≡ is_among (senders P t) n
  senders_are n t = same_tests _ _ to from
    where
      passing : is_among (senders P t) n ≡ (sends_to P n t && is_among (numbers P) n)
      passing = among_filtered (λ n. sends_to P n t) (numbers P) n

      to : is_among (map (λ w. w.number) (under t ws)) n ≡ true → is_among (senders P t) n ≡ true
      to among =
          let w = of_map (λ w. w.number) (under t ws) n among in
          let sends : sends_to P n t ≡ true = subst (λ n. sends_to P n t ≡ true) w.2 (sender_is t w.0 w.1) in
          passing ∙ both _ _ sends (open_among P n (sends_parts P n n (left _ _ sends)).opened)

      from : is_among (senders P t) n ≡ true → is_among (map (λ w. w.number) (under t ws)) n ≡ true
      from among =
          let sends : sends_to P n t ≡ true = left _ (is_among (numbers P) n) (sym passing ∙ among) in
          in_map (λ w. w.number) (under t ws) (wait_for P n t) (sender_waits n t sends)

-- The watchers

-- a live thread is a thread
live_is_neither : (P : List Entry) (slots : KeptSlots) → Legal P → Stands P slots → (t : ℕ) → is_live P t ≡ true → ((t == anythread) ≡ false) × ((t == anylocalthread) ≡ false)
live_is_neither P slots legal stands t live =
    let within = live_within P slots legal stands t live in
    (other anythread (omega arith) within, other anylocalthread (omega arith) within)
  where
    other : (id : ℕ) → table_slots ≤ number_of id → number_of t < table_slots → (t == id) ≡ false
    other id far near = false_from_ne_true (t == id) (λ same. (let e : number_of t ≡ number_of id = ap number_of (eqb-true t id same) in absurd (omega arith)))

module _ (P : List Entry) (slots : KeptSlots) (legal : Legal P) (stands : Stands P slots) (ws : List Wait) (mirrors : Mirrors watches_under slots.table ws) where
  pub watcher_waits : (t n : ℕ) → is_live P t ≡ true → watches P t n ≡ true → is_in (under t ws) (wait_for P n t) ≡ true
  watcher_waits t n live h =
      let thread = live_is_neither P slots legal stands t live in
      let o = watches_open P t n h in
      has_under P slots legal stands watches_under ws mirrors n t o (watches_key P legal n o t thread.0 thread.1 h)

  pub watchers_wait : (t n : ℕ) → is_live P t ≡ true → watches P t n ≡ true → is_among (map (λ w. w.place) (under t ws)) (number_of (caller_of P n)) ≡ true
  watchers_wait t n live h = in_map (λ w. w.place) (under t ws) (wait_for P n t) (watcher_waits t n live h)

-- The deadlines

module _ (P : List Entry) (slots : KeptSlots) (legal : Legal P) (stands : Stands P slots) (ws : List Wait) (mirrors : Mirrors due_under slots.table ws) where
  pub due_waits : (moment n : ℕ) → is_due_at P moment n ≡ true → (key : ℕ) × (is_in ws (wait_for P n key) ≡ true) × (nat_le key moment ≡ true)
  due_waits moment n due = go (due_under (standing_of P n)) refl (due_reaches P legal n o moment due)
    where
      o : is_over P n ≡ false
      o = due_at_open P moment n due

      go : (k : Option ℕ) → due_under (standing_of P n) ≡ k → option_map_or (λ key. nat_le key moment) k false ≡ true → (key : ℕ) × (is_in ws (wait_for P n key) ≡ true) × (nat_le key moment ≡ true)
      go None e late = absurd (false≢true late)
      go (Some key) e late = (key, has_wait P slots legal stands due_under ws mirrors n key o e, late)

  -- each call that is due at a moment waits until then
  pub due_is_in : (moment n : ℕ) → is_due_at P moment n ≡ true → (w : Wait) × (is_in (until moment ws) w ≡ true) × (w.number ≡ n) × (w.place ≡ number_of (caller_of P n))
  due_is_in moment n due = let wait = due_waits moment n due in (wait_for P n wait.0, in_filter (λ w. nat_le w.key moment) ws (wait_for P n wait.0) ∙ both _ _ wait.2 wait.1, refl, refl)

  pub due_wait_until : (moment n : ℕ) → is_due_at P moment n ≡ true → is_among (map (λ w. w.place) (until moment ws)) (number_of (caller_of P n)) ≡ true
  due_wait_until moment n due = let wait = due_is_in moment n due in subst (λ k. is_among (map (λ w. w.place) (until moment ws)) k ≡ true) wait.3 (in_map (λ w. w.place) (until moment ws) wait.0 wait.1)

  -- and no other. A key is cut at the greatest number of 64 bits, so that moment alone is left out
  pub wait_is_due : (moment : ℕ) → moment < 2 ^ 64 - 1 → (w : Wait) → is_in ws w ≡ true → is_due_at P moment w.number ≡ nat_le w.key moment
  wait_is_due moment early w there =
      let wait = wait_of P slots legal stands due_under ws mirrors w there in
      due_key P legal w.number wait.opened moment early ∙ ap (λ o. option_map_or (λ key. nat_le key moment) o false) wait.key

  pub any_is_due : (moment : ℕ) → moment < 2 ^ 64 - 1 → list_any (λ w. nat_le w.key moment) ws ≡ list_any (is_due_at P moment) (numbers P)
  any_is_due moment early = same_tests _ _ to from
    where
      to : list_any (λ w. nat_le w.key moment) ws ≡ true → list_any (is_due_at P moment) (numbers P) ≡ true
      to h =
          let w = any_in (λ w. nat_le w.key moment) ws h in
          let due : is_due_at P moment w.0.number ≡ true = wait_is_due moment early w.0 w.1 ∙ w.2 in
          any_at (is_due_at P moment) (numbers P) w.0.number (number_of_open P w.0.number (due_at_open P moment w.0.number due)) due

      from : list_any (is_due_at P moment) (numbers P) ≡ true → list_any (λ w. nat_le w.key moment) ws ≡ true
      from h =
          let n = any_place (is_due_at P moment) (numbers P) h in
          let wait = due_waits moment n.0 n.2 in
          in_any (λ w. nat_le w.key moment) ws (wait_for P n.0 wait.0) wait.1 wait.2
