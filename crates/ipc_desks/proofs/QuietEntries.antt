-- What entries that end no call make of the desks: nothing, but that a break empties one.
use Rattle.std.proofs.lemmas.Bool.{false≢true, false_from_ne_true, ne_eqb, cases_eq}
use Rattle.std.proofs.lemmas.List.Sums.{sum_by-cons, sum_by-append}
use Rattle.std.proofs.lemmas.Option.{none-some, same_Some}
use Rattle.std.proofs.Common.{◌≡◌, ◌≢◌, refl, sym, ap, ◌∙◌, ℕ, ◌≤◌, cond, Bool, true, false, ◌&&◌, ◌==◌, not, eqb-true, eq-eqb, List, [], ◌∷◌, ◌++◌, count_by, Option, Some, None, inl, inr, ◌⊎◌, arith}
use Rattle.std.specs.List.{list_any}
use Rattle.std.specs.Option.{option_map_or}
use Rattle.ipc_words.specs.ThreadId.{nilthread, number_of}
use Rattle.ipc_history.specs.Words.{last_some}
use Rattle.ipc_history.specs.Entries.{breaks, closes, ends_send, number_in, opens, thread_in}
use Rattle.ipc_history.specs.Calls.{is_called, caller_of}
use Rattle.ipc_history.specs.Threads.{is_live, was_opened}
use Rattle.ipc_history.specs.Legal.{Legal, Follows, is_admissible}
use Rattle.ipc_history.specs.declared.entry.Entry.{Entry}
use Rattle.ipc_history.specs.declared.entry.Entry.TheVariants.{Given, Written}
use Rattle.ipc_history.specs.declared.entry.Input.TheVariants.{At, Opened, Called, Exreg, Broke, Moved}
use Rattle.ipc_history.specs.declared.entry.Output.{Output}
use Rattle.ipc_history.specs.declared.entry.Output.TheVariants.{Began, Turned}
use Rattle.ipc_laws.proofs.Endings.{broken_at, live_opened}
use Rattle.ipc_laws.proofs.LiveThreads.{opened_free, taken as taken_number}
use Rattle.ipc_history.specs.CallParts.{CallParts}
use Rattle.ipc_history.specs.Entries.{calls}
use Rattle.ipc_history.specs.declared.entry.Input.{Input}
use Rattle.ipc_laws.proofs.Histories.{admitted_at}
use Rattle.ipc_laws.proofs.Numbering.{entered}
use Rattle.ipc_laws.proofs.OneOpen.{free_parts}
use Rattle.ipc_laws.proofs.WordLemmas.{last_some_push}
use Rattle.ipc_laws.proofs.Once.{count_none}
use Rattle.ipc_laws.proofs.OneLive.{live_is_last, opened_once}
use Rattle.ipc_laws.proofs.OpenCalls.{caller_opened}
use Rattle.ipc_laws.proofs.Places.{Place, any_at, any_place, any_front}
use Rattle.ipc_laws.proofs.Settling.{legal_push}
use Rattle.ipc_laws.proofs.Tests.{not_both}
use Rattle.ipc_laws.proofs.ThreadChanges.{is_live_push}
use Rattle.ipc_threads.specs.Slots.{live_of}
use Rattle.ipc_threads.proofs.Holders.{last_number, live_of_is}
use Rattle.ipc_threads.proofs.SlotSteps.{last_kept as last_opened_kept, live_kept}
use Rattle.ipc_desks.specs.CallsOf.{calls_by, is_among, last_call, made_by, taken_by}
use Rattle.ipc_desks.specs.Desks.{Keeps, blank_desk, desk_of, thread_desk}
use Rattle.ipc_desks.specs.Steps.{Changed, left}
use Rattle.ipc_desks.specs.Finishes.{finishes}
use Rattle.ipc_desks.specs.declared.desk.Desk.{Desk}
use Rattle.ipc_desks.proofs.LastCalls.{last_is, last_kept, made_kept}
use Rattle.ipc_desks.proofs.DeskSteps.{desk_same, keeps_step, taken_kept}
use Rattle.ipc_desks.proofs.Finishing.{finished_ended, none_finished}
use Rattle.ipc_laws.proofs.Changing.{changes}
use Rattle.ipc_laws.proofs.Growth.{open_is_called}
use Rattle.ipc_history.specs.Calls.{from_of}

-- an entry that enters, closes and ends no call, and opens and breaks no thread
pub record IsIdle (e : Entry) : Type 0 where
  pub enters : number_in e ≡ None
  pub closes : (n : ℕ) → closes n e ≡ false
  pub ends : (n : ℕ) → ends_send n e ≡ false
  pub threads : (k : ℕ) → thread_in k e ≡ None
  pub opens : (t : ℕ) → opens t e ≡ false
  pub breaks : (t : ℕ) → breaks t e ≡ false

pub idle_keeps : (P : List Entry) (e : Entry) → Legal P → Follows P e → IsIdle e → (taken : List ℕ) (desks : List Desk) → Keeps P taken desks → Keeps (P ++ e ∷ []) taken desks
idle_keeps P e legal follows idle taken desks keeps = keeps_step P e legal follows taken idle.enters desks desks keeps keeps.size (λ k. keeps.table k ∙ sym (desk_same P e legal follows taken idle.enters k (live_kept P e k (idle.threads k) (λ u h. is_live_push P e u (idle.opens u) (idle.breaks u))) (λ t h. (idle.breaks t, λ n l. (idle.closes n, idle.ends n)))))

-- An open

abbrev one : Bool → ℕ
one b = cond b 1 0

counts_one : (p : Entry → Bool) (P : List Entry) → list_any p P ≡ true → 1 ≤ count_by p P
counts_one p P some =
    let q = any_place p P some in
    rw q.1.whole (omega (arith, sum_by-append (λ e. cond (p e) 1 0) q.1.front (q.0 ∷ q.1.rest), sum_by-cons (λ e. cond (p e) 1 0) q.0 q.1.rest, here q.2))
  where
    here : {e : Entry} → p e ≡ true → one (p e) ≡ 1
    here passes = rw passes refl

differs : (t u k : ℕ) → number_of t ≢ k → number_of u ≡ k → (t == u) ≡ false
differs t u k apart is = ne_eqb t u (λ e. apart (ap number_of e ∙ is))

live_caller : (H : List Entry) → Legal H → (n t : ℕ) (call : CallParts) (at : Place H (Given (Called n t call))) → is_live at.front t ≡ true
live_caller H legal n t call at = (free_parts at.front t (entered at.front n t call (admitted_at H legal (Called n t call) at)).0).0

-- who made a call was opened
made_opened : (P : List Entry) → Legal P → (t : ℕ) → list_any (calls_by t) P ≡ true → was_opened P t ≡ true
unfolding was_opened
made_opened P legal t some = let p = any_place (calls_by t) P some in go p.0 p.1 p.2
  where
    go : (e : Entry) → Place P e → calls_by t e ≡ true → list_any (opens t) P ≡ true
    go (Given (Called n caller call)) at h =
        let same : caller ≡ t = eqb-true caller t h in
        rw (← same) (any_front (opens caller) P (Given (Called n caller call)) at (live_opened at.front caller (live_caller P legal n caller call at)))
    go _ at h = absurd (false≢true h)

module _ (P : List Entry) (t space : ℕ) (legal : Legal P) (follows : Follows P (Given (Opened t space))) where
  abbrev O : List Entry
  O = P ++ Given (Opened t space) ∷ []

  unopened : was_opened P t ≡ false
  unfolding was_opened
  unopened = false_from_ne_true _ (λ opened.
      let once = opened_once (P ++ Given (Opened t space) ∷ []) (legal_push P (Given (Opened t space)) legal follows) t in
      let first = counts_one (opens t) P opened in
      let second : one (opens t (Given (Opened t space))) ≡ 1 = rw (eq-eqb t t refl) refl in
      omega (arith, once, first, second, sum_by-append (λ e. cond (opens t e) 1 0) P (Given (Opened t space) ∷ []), sum_by-cons (λ e. cond (opens t e) 1 0) (Given (Opened t space)) []))

  pub no_last : last_call P t ≡ None
  no_last = go (last_call P t) refl
    where
      go : (o : Option ℕ) → last_call P t ≡ o → last_call P t ≡ None
      go None h = h
      go (Some n) h = let is = last_is P legal t n h in not_both (rw is.0 at (caller_opened P legal n is.1)) unopened

  none_made : made_by P t ≡ 0
  unfolding made_by
  none_made = count_none (calls_by t) P (false_from_ne_true _ (λ some. not_both (made_opened P legal t some) unopened))

  none_taken : (taken : List ℕ) → ((n : ℕ) → is_among n taken ≡ true → is_called P n ≡ true) → taken_by P taken t ≡ 0
  unfolding taken_by
  none_taken taken called = count_none (λ n. caller_of P n == t) taken (false_from_ne_true _ (λ some.
      let p = any_place (λ n. caller_of P n == t) taken some in
      let caller : caller_of P p.0 ≡ t = eqb-true _ _ p.2 in
      not_both (rw caller at (caller_opened P legal p.0 (called p.0 (any_at (λ k. k == p.0) taken p.0 p.1 (eq-eqb p.0 p.0 refl))))) unopened))

  free_before : live_of P (number_of t) ≡ None
  unfolding Follows
  free_before = go (live_of P (number_of t)) refl
    where
      go : (o : Option ℕ) → live_of P (number_of t) ≡ o → live_of P (number_of t) ≡ None
      go None h = h
      go (Some u) h =
          let is = live_of_is P (number_of t) u h in
          not_both (rw is.number at (taken_number P u (live_opened P u is.live) is.live)) (opened_free P t space follows.1)

  live_now : (taken : List ℕ) → ((n : ℕ) → is_among n taken ≡ true → is_called P n ≡ true) → (o : Option ℕ) → live_of O (number_of t) ≡ o → ((u : ℕ) → o ≡ Some u → u ≡ t) → option_map_or (thread_desk O taken) o blank_desk ≡ blank_desk
  unfolding thread_desk
  live_now taken called None h is = refl
  live_now taken called (Some u) h is = rw (is u refl, last_kept P (Given (Opened t space)) t refl, no_last, made_kept P (Given (Opened t space)) t refl, none_made, taken_kept P (Given (Opened t space)) legal follows taken refl t, none_taken taken called) refl

  itself : (u : ℕ) → live_of O (number_of t) ≡ Some u → u ≡ t
  itself u h = sym (same_Some t u (sym (last_here) ∙ (live_of_is O (number_of t) u h).last))
    where
      last_here : last_some (thread_in (number_of t)) O ≡ Some t
      last_here = last_some_push (thread_in (number_of t)) P (Given (Opened t space)) ∙ rw (eq-eqb (number_of t) (number_of t) refl) refl

  desk_opened : (taken : List ℕ) → ((n : ℕ) → is_among n taken ≡ true → is_called P n ≡ true) → desk_of O taken (number_of t) ≡ desk_of P taken (number_of t)
  unfolding desk_of
  desk_opened taken called = live_now taken called (live_of O (number_of t)) refl itself ∙ rw free_before refl

  desk_beside : (taken : List ℕ) (k : ℕ) → number_of t ≢ k → desk_of O taken k ≡ desk_of P taken k
  desk_beside taken k apart = desk_same P (Given (Opened t space)) legal follows taken refl k (live_kept P (Given (Opened t space)) k (rw (ne_eqb (number_of t) k apart) refl) (λ u h. is_live_push P (Given (Opened t space)) u (differs t u k apart (last_number k P u h)) refl)) (λ u h. (refl, λ n l. (refl, refl)))

  pub opened_keeps : (taken : List ℕ) (desks : List Desk) → Keeps P taken desks → Keeps O taken desks
  opened_keeps taken desks keeps = keeps_step P (Given (Opened t space)) legal follows taken refl desks desks keeps keeps.size (λ k. keeps.table k ∙ sym (elim (cases_eq k (number_of t)) [ inl is ↦ rw is (desk_opened taken keeps.called) | inr p ↦ desk_beside taken k (λ g. p (sym g)) ]))

-- A break

module _ (P : List Entry) (t : ℕ) (legal : Legal P) (follows : Follows P (Given (Broke t))) where
  abbrev B : List Entry
  B = P ++ Given (Broke t) ∷ []

  alive : is_live P t ≡ true
  unfolding Follows is_admissible
  alive = follows.1

  dead_now : is_live B t ≡ false
  unfolding is_live
  dead_now = rw (broken_at P [] t) (no_more (was_opened B t))
    where
      no_more : (b : Bool) → (b && not true) ≡ false
      no_more true = refl
      no_more false = refl

  desk_left : (taken : List ℕ) → desk_of B taken (number_of t) ≡ blank_desk
  unfolding desk_of live_of
  desk_left taken = rw (last_opened_kept P (Given (Broke t)) (number_of t) refl, live_is_last P legal t alive, dead_now) refl

  desk_besides : (taken : List ℕ) (k : ℕ) → number_of t ≢ k → desk_of B taken k ≡ desk_of P taken k
  desk_besides taken k apart = desk_same P (Given (Broke t)) legal follows taken refl k (live_kept P (Given (Broke t)) k refl (λ u h. is_live_push P (Given (Broke t)) u refl (differs t u k apart (last_number k P u h)))) (λ u h. (differs t u k apart (live_of_is P k u h).number, λ n l. (refl, refl)))

  pub broke_keeps : (taken : List ℕ) (old new : List Desk) → Keeps P taken old → Changed (number_of t) left old new → Keeps B taken new
  broke_keeps taken old new keeps changed = keeps_step P (Given (Broke t)) legal follows taken refl old new keeps (changed.size ∙ keeps.size) (λ k. elim (cases_eq k (number_of t)) [ inl is ↦ rw is (changed.here ∙ sym (desk_left taken)) | inr p ↦ changed.beside k p ∙ (keeps.table k ∙ sym (desk_besides taken k (λ g. p (sym g)))) ])

  pub broke_finishes : (u : ℕ) → finishes P (Given (Broke t)) u ≡ false
  broke_finishes u = false_from_ne_true _ (λ h.
      let x = finished_ended P (Given (Broke t)) legal follows refl (λ n. refl) u h in
      elim (cases_eq t u) [
        | inl is ↦ not_both (rw (← is) at x.live) dead_now
        | inr p ↦ not_both x.over ((changes P (Given (Broke t))).over x.number (open_is_called P x.number x.opened) ∙ rw (x.opened, x.caller, ne_eqb t u p) (none (from_of P x.number == nilthread)))
      ])
    where
      none : (f : Bool) → (f && false) ≡ false
      none true = refl
      none false = refl

-- the other entries
pub idle_at : (moment : ℕ) → IsIdle (Given (At moment))
idle_at moment = record { enters = refl; closes = λ n. refl; ends = λ n. refl; threads = λ k. refl; opens = λ t. refl; breaks = λ t. refl }

pub idle_exreg : (thread target control : ℕ) → IsIdle (Given (Exreg thread target control))
idle_exreg thread target control = record { enters = refl; closes = λ n. refl; ends = λ n. refl; threads = λ k. refl; opens = λ t. refl; breaks = λ t. refl }

pub idle_moved : (n count : ℕ) → IsIdle (Given (Moved n count))
idle_moved n count = record { enters = refl; closes = λ n. refl; ends = λ n. refl; threads = λ k. refl; opens = λ t. refl; breaks = λ t. refl }

pub idle_began : (n m : ℕ) → IsIdle (Written (Began n m))
idle_began n m = record { enters = refl; closes = λ n. refl; ends = λ n. refl; threads = λ k. refl; opens = λ t. refl; breaks = λ t. refl }

pub idle_turned : (n t : ℕ) → IsIdle (Written (Turned n t))
idle_turned n t = record { enters = refl; closes = λ n. refl; ends = λ n. refl; threads = λ k. refl; opens = λ t. refl; breaks = λ t. refl }

-- an entry of these, or an open, is noted by doing nothing
pub record Unnoted (P : List Entry) (e : Entry) (taken : List ℕ) (desks : List Desk) : Type 0 where
  pub keeps : Keeps (P ++ e ∷ []) taken desks
  pub finishes : (t : ℕ) → finishes P e t ≡ false

idle_unnoted : (P : List Entry) (e : Entry) → Legal P → Follows P e → IsIdle e → ((n : ℕ) → calls n e ≡ false) → (taken : List ℕ) (desks : List Desk) → Keeps P taken desks → Unnoted P e taken desks
idle_unnoted P e legal follows idle uncalled taken desks keeps = record { keeps = idle_keeps P e legal follows idle taken desks keeps; finishes = none_finished P e legal follows idle.enters uncalled idle.closes idle.ends idle.breaks }

-- an input that is not a break and enters no call
pub given_unnoted : (P : List Entry) (input : Input) → Legal P → Follows P (Given input) → number_in (Given input) ≡ None → ((t : ℕ) → input ≡ Broke t → ⊥) → (taken : List ℕ) (desks : List Desk) → Keeps P taken desks → Unnoted P (Given input) taken desks
given_unnoted P (At moment) legal follows plain other taken desks keeps = idle_unnoted P (Given (At moment)) legal follows (idle_at moment) (λ n. refl) taken desks keeps
given_unnoted P (Opened t space) legal follows plain other taken desks keeps = record { keeps = opened_keeps P t space legal follows taken desks keeps; finishes = none_finished P (Given (Opened t space)) legal follows refl (λ n. refl) (λ n. refl) (λ n. refl) (λ u. refl) }
given_unnoted P (Called n t call) legal follows plain other taken desks keeps = absurd (none-some n (sym plain))
given_unnoted P (Exreg thread target control) legal follows plain other taken desks keeps = idle_unnoted P (Given (Exreg thread target control)) legal follows (idle_exreg thread target control) (λ n. refl) taken desks keeps
given_unnoted P (Broke t) legal follows plain other taken desks keeps = absurd (other t refl)
given_unnoted P (Moved n count) legal follows plain other taken desks keeps = idle_unnoted P (Given (Moved n count)) legal follows (idle_moved n count) (λ n. refl) taken desks keeps

pub quiet_unnoted : (P : List Entry) (output : Output) → Legal P → Follows P (Written output) → (taken : List ℕ) (desks : List Desk) → Keeps P taken desks → ((n : ℕ) × (m : ℕ) × (output ≡ Began n m)) ⊎ ((n : ℕ) × (t : ℕ) × (output ≡ Turned n t)) → Unnoted P (Written output) taken desks
quiet_unnoted P output legal follows taken desks keeps (inl b) = idle_unnoted P (Written output) legal follows (rw b.2 (idle_began b.0 b.1)) (λ n. refl) taken desks keeps
quiet_unnoted P output legal follows taken desks keeps (inr b) = idle_unnoted P (Written output) legal follows (rw b.2 (idle_turned b.0 b.1)) (λ n. refl) taken desks keeps
