-- What an At, an ExchangeRegisters, an open and a break make of the slots.
use Rattle.std.proofs.lemmas.Bool.{false≢true, false_from_ne_true, cases_eq}
use Rattle.std.proofs.lemmas.List.{get_or-set_same, get_or-set_other, length-set}
use Rattle.std.proofs.lemmas.List.Sums.{sum_by-cons, sum_by-append}
use Rattle.std.proofs.lemmas.Option.{none-some}
use Rattle.std.proofs.Common.{◌≡◌, ◌≢◌, refl, sym, ap, ◌∙◌, ℕ, ◌<◌, ◌≤◌, ◌==◌, ◌&&◌, not, eqb-true, eq-eqb, cond, Bool, true, false, List, [], ◌∷◌, ◌++◌, count_by, Option, Some, None, is_some, option_map, option_and_then, slice_set, ◌⊎◌, inl, inr, arith, ◌+◌, ◌-◌}
use Rattle.std.specs.List.{list_any}
use Rattle.std.proofs.lemmas.Bool.{ne_eqb, cases_order}
use Rattle.std.proofs.lemmas.Bool.Decides.{nat_tests}
use Rattle.std.proofs.lemmas.Grind.{common_steps}
use Rattle.ipc_words.specs.ThreadId.{nilthread, number_of}
use Rattle.ipc_history.specs.Words.{first_some, last_some}
use Rattle.ipc_history.specs.Entries.{opens, breaks, thread_in, space_in, number_in, sender_in}
use Rattle.ipc_history.specs.Threads.{now, is_live, is_taken, was_opened, has_broken, space_of, next_version}
use Rattle.ipc_history.specs.Phases.{open_call}
use Rattle.ipc_history.specs.Legal.{Legal, Follows, is_admissible, may_open}
use Rattle.ipc_history.specs.declared.entry.Entry.{Entry}
use Rattle.ipc_history.specs.declared.entry.Entry.TheVariants.{Given}
use Rattle.ipc_history.specs.declared.entry.Input.TheVariants.{At, Opened, Exreg, Broke}
use Rattle.ipc_laws.specs.Laws.{one_if}
use Rattle.ipc_laws.proofs.Changing.{changes}
use Rattle.ipc_laws.proofs.Endings.{live_opened, broken_at}
use Rattle.ipc_laws.proofs.Histories.{admitted_at}
use Rattle.ipc_laws.proofs.OneLive.{live_is_last, opened_once}
use Rattle.ipc_laws.proofs.OpenCalls.{caller_lives}
use Rattle.ipc_laws.proofs.Places.{Place, any_front, any_place}
use Rattle.ipc_laws.proofs.Settling.{legal_push}
use Rattle.ipc_laws.proofs.Tests.{not_both, neither_left, neither_right, left, right}
use Rattle.ipc_laws.proofs.ThreadChanges.{live_threads_push, has_broken_push, is_live_push}
use Rattle.ipc_laws.proofs.WordLemmas.{first_some_push, last_some_push}
use Rattle.ipc_threads.proofs.LiveSlots.{live_slots_closed, live_slots_opened}
use Rattle.ipc_threads.proofs.LiveCounts.{one_less_live, one_more_live}
use Rattle.ipc_threads.specs.Slots.{Stands, ended, fresh, slot_at, slot_of, live_of, live_at, blank, raised}
use Rattle.ipc_threads.specs.Standings.{standing_of}
use Rattle.ipc_threads.specs.Steps.{call_after}
use Rattle.ipc_threads.specs.declared.slot.Standing.{Standing}
use Rattle.ipc_threads.specs.declared.kept.KeptSlots.{KeptSlots}
use Rattle.ipc_threads.proofs.Holders.{last_number, live_of_at, live_of_is}
use Rattle.ipc_threads.proofs.OutputSteps.{calls_made_kept, no_end, same}
use Rattle.ipc_threads.proofs.SlotSteps.{live_kept, plain_at, plain_exreg, slot_step, space_kept, version_kept, last_kept}
use Rattle.ipc_threads.specs.declared.last.Last.TheVariants.{Nothing, ExchangeRegisters}
use Rattle.ipc_threads.proofs.LastEntries.{ends_with}
use Rattle.ipc_threads.proofs.StandingSteps.{call_step, open_call_step, own}
use Rattle.ipc_threads.proofs.Tables.{change_none, slot_at-past}
use Rattle.ipc_threads.proofs.Answering.{taken_is, version_is}
use Rattle.ipc_threads.specs.Ids.{IsPlace}
use Rattle.ipc_threads.specs.Table.{MayOpen}
use Rattle.ipc_threads.specs.declared.slot.Live.{Live}
use Rattle.std.specs.Option.{option_map_or}
use Rattle.ipc_words.specs.Limits.{table_slots}

-- An At changes the moment, and an ExchangeRegisters nothing

pub noted_at : (P : List Entry) (moment : ℕ) (slots : KeptSlots) → Legal P → Follows P (Given (At moment)) → Stands P slots → Stands (P ++ Given (At moment) ∷ []) (record slots { moment = moment; last = Nothing })
noted_at P moment slots legal follows stands = record {
  size = stands.size;
  moment = sym ((changes P (Given (At moment))).moment);
  calls_made = stands.calls_made ∙ sym (calls_made_kept P (Given (At moment)) refl);
  live = stands.live ∙ sym (live_threads_push P (Given (At moment)) refl (λ t. refl) (λ t. refl));
  top = stands.top;
  above = λ k h. last_kept P (Given (At moment)) k refl ∙ stands.above k h;
  table = λ k. stands.table k ∙ sym (slot_step P (Given (At moment)) legal follows (plain_at moment) 0 0 (λ n k e. absurd (none-some k e)) k ∙ change_none _ (slot_of P k) (λ s e. no_end (s.from == nilthread) None (Some _) ∙ ap (λ s. Some s) (same s 0 0)));
  last = ends_with P (Given (At moment));
}

pub noted_exreg : (P : List Entry) (thread target control : ℕ) (slots : KeptSlots) → Legal P → Follows P (Given (Exreg thread target control)) → Stands P slots → Stands (P ++ Given (Exreg thread target control) ∷ []) (record slots { last = ExchangeRegisters thread target control })
noted_exreg P thread target control slots legal follows stands = record {
  size = stands.size;
  moment = stands.moment ∙ sym ((changes P (Given (Exreg thread target control))).moment);
  calls_made = stands.calls_made ∙ sym (calls_made_kept P (Given (Exreg thread target control)) refl);
  live = stands.live ∙ sym (live_threads_push P (Given (Exreg thread target control)) refl (λ t. refl) (λ t. refl));
  top = stands.top;
  above = λ k h. last_kept P (Given (Exreg thread target control)) k refl ∙ stands.above k h;
  table = λ k. stands.table k ∙ sym (slot_step P (Given (Exreg thread target control)) legal follows (plain_exreg thread target control) 0 0 (λ n k e. absurd (none-some k e)) k ∙ change_none _ (slot_of P k) (λ s e. no_end (s.from == nilthread) None (Some _) ∙ ap (λ s. Some s) (same s 0 0)));
  last = ends_with P (Given (Exreg thread target control));
}

-- A thread that opens was not opened before

pub counts_one : (p : Entry → Bool) (P : List Entry) → list_any p P ≡ true → 1 ≤ count_by p P
counts_one p P some =
    let q = any_place p P some in
    rw q.1.whole (omega (arith, sum_by-append (λ e. cond (p e) 1 0) q.1.front (q.0 ∷ q.1.rest), sum_by-cons (λ e. cond (p e) 1 0) q.0 q.1.rest, here q.2))
  where
    here : {e : Entry} → p e ≡ true → one_if (p e) ≡ 1
    here passes = rw passes refl

pub unopened : (P : List Entry) (t space : ℕ) → Legal P → Follows P (Given (Opened t space)) → was_opened P t ≡ false
unfolding was_opened
unopened P t space legal follows = false_from_ne_true _ (λ opened.
    let once = opened_once (P ++ Given (Opened t space) ∷ []) (legal_push P (Given (Opened t space)) legal follows) t in
    let first = counts_one (opens t) P opened in
    let second : one_if (opens t (Given (Opened t space))) ≡ 1 = rw (eq-eqb t t refl) refl in
    omega (arith, once, first, second, sum_by-append (λ e. cond (opens t e) 1 0) P (Given (Opened t space) ∷ []), sum_by-cons (λ e. cond (opens t e) 1 0) (Given (Opened t space)) []))

-- and so has not ended, has no space, and no open call
pub broken_opened : (P : List Entry) → Legal P → (t : ℕ) → has_broken P t ≡ true → was_opened P t ≡ true
unfolding has_broken was_opened is_admissible
broken_opened P legal t broken = let p = any_place (breaks t) P broken in go p.0 p.1 p.2
  where
    go : (e : Entry) → Place P e → breaks t e ≡ true → list_any (opens t) P ≡ true
    go (Given (Broke u)) at ends =
        let same : u ≡ t = eqb-true u t ends in
        let live = live_opened at.front u (admitted_at P legal (Broke u) at) in
        any_front (opens t) P (Given (Broke u)) at (rw same at live)
    go _ at ends = absurd (false≢true ends)

pub no_space : (P : List Entry) (t : ℕ) → list_any (opens t) P ≡ false → first_some (space_in t) P ≡ None
no_space [] t h = refl
no_space (e ∷ P) t h = rw (one e (neither_left (opens t e) (list_any (opens t) P) h), no_space P t (neither_right (opens t e) (list_any (opens t) P) h)) refl
  where
    one : (e : Entry) → opens t e ≡ false → space_in t e ≡ None
    one (Given (Opened u space)) g = rw g refl
    one _ g = refl

not_live : (P : List Entry) (t : ℕ) → was_opened P t ≡ false → is_live P t ≡ false
unfolding is_live
not_live P t h = rw h refl

pub no_call : (P : List Entry) → Legal P → (t : ℕ) → is_live P t ≡ false → open_call P t ≡ None
no_call P legal t dead = go (open_call P t) refl
  where
    go : (o : Option ℕ) → open_call P t ≡ o → open_call P t ≡ None
    go None e = e
    go (Some n) e = let mine = own P t n e in not_both (rw mine.1 at (caller_lives P legal n mine.0)) dead

-- a thread that may be opened may open in the table
none_at : (o : Option Live) → is_some o ≡ false → o ≡ None
none_at None h = refl
none_at (Some l) h = absurd (false≢true (sym h))

some_at : (o : Option ℕ) (v : ℕ) → option_map_or (λ version. version == v) o false ≡ true → o ≡ Some v
some_at None v h = absurd (false≢true h)
some_at (Some w) v h = ap (λ w. Some w) (eqb-true w v h)

opens_place : (P : List Entry) (t space : ℕ) → Follows P (Given (Opened t space)) → IsPlace (number_of t) space
unfolding Follows is_admissible may_open
opens_place P t space follows = grind (arith, nat_tests, follows.1)

pub opens_in : (P : List Entry) (t space : ℕ) (slots : KeptSlots) → Legal P → Follows P (Given (Opened t space)) → Stands P slots → MayOpen slots.table t space
unfolding Follows is_admissible may_open
opens_in P t space slots legal follows stands =
    let h = follows.1 in
    let free : not (is_taken P (number_of t)) ≡ true = right _ _ (left _ _ (left _ _ (left _ _ h))) in
    record {
      place = opens_place P t space follows;
      free = none_at _ (ap (λ slot. is_some slot.live) (stands.table (number_of t)) ∙ taken_is P legal (number_of t) ∙ untaken _ free);
      version = ap (λ slot. slot.version) (stands.table (number_of t)) ∙ version_is P (number_of t) ∙ some_at _ _ (right _ _ (left _ _ (left _ _ h)));
    }
  where
    untaken : (b : Bool) → not b ≡ true → b ≡ false
    untaken true e = absurd (false≢true e)
    untaken false e = refl

pub opens_in_free : (P : List Entry) (t space : ℕ) → Legal P → Follows P (Given (Opened t space)) → is_some (slot_of P (number_of t)).live ≡ false
unfolding Follows is_admissible may_open
opens_in_free P t space legal follows =
    taken_is P legal (number_of t) ∙ untaken _ (right _ _ (left _ _ (left _ _ (left _ _ follows.1))))
  where
    untaken : (b : Bool) → not b ≡ true → b ≡ false
    untaken true e = absurd (false≢true e)
    untaken false e = refl

-- The slots of other numbers

module _ (P : List Entry) (e : Entry) (legal : Legal P) (follows : Follows P e) (enters : number_in e ≡ None) (alone : (n k : ℕ) → sender_in n e ≡ Some k → ⊥) (leaves : (s : Standing) → call_after e (now P) 0 0 s ≡ Some s) where
  call_kept : (o : Option Standing) → option_and_then (call_after e (now P) 0 0) o ≡ o
  call_kept None = refl
  call_kept (Some s) = leaves s

  pub slot_kept : (k : ℕ) → thread_in k e ≡ None → ((u : ℕ) → number_of u ≡ k → (opens u e ≡ false) × (breaks u e ≡ false) × (space_in u e ≡ None)) → slot_of (P ++ e ∷ []) k ≡ slot_of P k
  unfolding slot_of live_at
  slot_kept k none apart = rw (version_kept P e k none, live_kept P e k none (λ u h. let a = apart u (last_number k P u h) in is_live_push P e u a.0 a.1)) (ap (λ l. record { version = next_version P k; live = l }) (go (live_of P k) refl))
    where
      go : (o : Option ℕ) → live_of P k ≡ o → option_map (live_at (P ++ e ∷ [])) o ≡ option_map (live_at P) o
      go None h = refl
      go (Some u) h =
          let a = apart u (live_of_is P k u h).number in
          rw (space_kept P e u a.2, call_step P e legal follows enters 0 0 (λ n k s. absurd (alone n k s)) u a.1, call_kept (option_map (standing_of P) (open_call P u))) refl

-- An open

raised_within : (k top : ℕ) → k < table_slots → top ≤ table_slots → raised k top ≤ table_slots
raised_within k top h within = grind (arith, nat_tests, common_steps)

raised_past : (k top i : ℕ) → raised k top ≤ i → (k ≢ i) × (top ≤ i)
raised_past k top i h = ((λ same. absurd (past same)), low)
  where
    past : k ≡ i → ⊥
    past same = grind (arith, nat_tests, common_steps, h, same)

    low : top ≤ i
    low = grind (arith, nat_tests, common_steps, h)

differs : (t u k : ℕ) → number_of t ≢ k → number_of u ≡ k → (t == u) ≡ false
differs t u k apart is = ne_eqb t u (λ e. apart (ap number_of e ∙ is))

module _ (P : List Entry) (t space : ℕ) (legal : Legal P) (follows : Follows P (Given (Opened t space))) where
  abbrev Q : List Entry
  Q = P ++ Given (Opened t space) ∷ []

  new : was_opened P t ≡ false
  new = unopened P t space legal follows

  last_here : last_some (thread_in (number_of t)) Q ≡ Some t
  last_here = last_some_push (thread_in (number_of t)) P (Given (Opened t space)) ∙ rw (eq-eqb (number_of t) (number_of t) refl) refl

  pub live_now : is_live Q t ≡ true
  unfolding is_live
  live_now = rw ((changes P (Given (Opened t space))).opened t, new, eq-eqb t t refl, has_broken_push P (Given (Opened t space)) t refl, false_from_ne_true (has_broken P t) (λ b. not_both (broken_opened P legal t b) new)) refl

  space_here : space_of Q t ≡ space
  unfolding space_of was_opened
  space_here = rw (first_some_push (space_in t) P (Given (Opened t space)), no_space P t new, eq-eqb t t refl) refl

  call_here : open_call Q t ≡ None
  call_here = open_call_step P (Given (Opened t space)) legal follows refl t ∙ rw (no_call P legal t (not_live P t new)) refl

  pub slot_opened : slot_of Q (number_of t) ≡ fresh t space
  unfolding slot_of live_of live_at next_version
  slot_opened = rw (last_here, live_now) (rw (space_here, call_here) refl)

  pub slot_other : (k : ℕ) → number_of t ≢ k → slot_of Q k ≡ slot_of P k
  slot_other k apart = slot_kept P (Given (Opened t space)) legal follows refl (λ n j s. none-some j s) (λ s. no_end (s.from == nilthread) None (Some _) ∙ ap (λ s. Some s) (same s 0 0)) k (rw (ne_eqb (number_of t) k apart) refl) (λ u is. (differs t u k apart is, refl, rw (differs t u k apart is) refl))

  pub noted_opened : (slots : KeptSlots) → Stands P slots → number_of t < table_slots → Stands Q (record slots { table = slice_set slots.table (number_of t) (fresh t space); top = raised (number_of t) slots.top; last = Nothing })
  noted_opened slots stands within = record {
    size = length-set slots.table (number_of t) (fresh t space) ∙ stands.size;
    moment = stands.moment ∙ sym ((changes P (Given (Opened t space))).moment);
    calls_made = stands.calls_made ∙ sym (calls_made_kept P (Given (Opened t space)) refl);
    live = live_slots_opened slots.table (number_of t) (fresh t space) (rw stands.size within) (opens_in P t space slots legal follows stands).free refl ∙ ap (λ n. n + 1) stands.live ∙ sym (one_more_live P t space live_now);
    top = raised_within (number_of t) slots.top within stands.top;
    above = λ k h. let far = raised_past (number_of t) slots.top k h in last_kept P (Given (Opened t space)) k (rw (ne_eqb (number_of t) k far.0) refl) ∙ stands.above k far.1;
    table = λ k. elim (cases_eq k (number_of t)) [ inl e ↦ rw e (get_or-set_same slots.table (number_of t) (fresh t space) blank (rw stands.size within) ∙ sym slot_opened) | inr p ↦ get_or-set_other slots.table (number_of t) k (fresh t space) blank p ∙ (stands.table k ∙ sym (slot_other k (λ g. p (sym g)))) ];
    last = ends_with P (Given (Opened t space));
  }

-- A break

module _ (P : List Entry) (t : ℕ) (legal : Legal P) (follows : Follows P (Given (Broke t))) where
  abbrev B : List Entry
  B = P ++ Given (Broke t) ∷ []

  pub alive : is_live P t ≡ true
  unfolding Follows is_admissible
  alive = follows.1

  dead_now : is_live B t ≡ false
  unfolding is_live
  dead_now = rw (broken_at P [] t) (no_more (was_opened B t))
    where
      no_more : (b : Bool) → (b && not true) ≡ false
      no_more true = refl
      no_more false = refl

  pub held_here : is_some (slot_of P (number_of t)).live ≡ true
  unfolding slot_of
  held_here = rw (live_of_at P legal t alive) refl

  pub slot_broken : slot_of B (number_of t) ≡ ended (slot_of P (number_of t))
  unfolding slot_of live_of
  slot_broken = rw (version_kept P (Given (Broke t)) (number_of t) refl, last_kept P (Given (Broke t)) (number_of t) refl, live_is_last P legal t alive, dead_now) refl

  pub slot_beside : (k : ℕ) → number_of t ≢ k → slot_of B k ≡ slot_of P k
  slot_beside k apart = slot_kept P (Given (Broke t)) legal follows refl (λ n j s. none-some j s) (λ s. no_end (s.from == nilthread) None (Some _) ∙ ap (λ s. Some s) (same s 0 0)) k refl (λ u is. (refl, differs t u k apart is, refl))

  pub noted_broke : (slots : KeptSlots) → Stands P slots → number_of t < table_slots → Stands B (record slots { table = slice_set slots.table (number_of t) (ended (slot_at slots.table (number_of t))); last = Nothing })
  noted_broke slots stands within = record {
    size = length-set slots.table (number_of t) _ ∙ stands.size;
    moment = stands.moment ∙ sym ((changes P (Given (Broke t))).moment);
    calls_made = stands.calls_made ∙ sym (calls_made_kept P (Given (Broke t)) refl);
    live = live_slots_closed slots.table (number_of t) (ended (slot_at slots.table (number_of t))) (rw stands.size within) (ap (λ slot. is_some slot.live) (stands.table (number_of t)) ∙ held_here) refl ∙ ap (λ n. n - 1) stands.live ∙ sym (one_less_live P legal t alive);
    top = stands.top;
    above = λ k h. last_kept P (Given (Broke t)) k refl ∙ stands.above k h;
    table = λ k. elim (cases_eq k (number_of t)) [ inl e ↦ rw e (get_or-set_same slots.table (number_of t) (ended (slot_at slots.table (number_of t))) blank (rw stands.size within) ∙ (ap ended (stands.table (number_of t)) ∙ sym slot_broken)) | inr p ↦ get_or-set_other slots.table (number_of t) k (ended (slot_at slots.table (number_of t))) blank p ∙ (stands.table k ∙ sym (slot_beside k (λ g. p (sym g)))) ];
    last = ends_with P (Given (Broke t));
  }

-- The numbers of threads

pub opened_within : (P : List Entry) (t space : ℕ) → Follows P (Given (Opened t space)) → number_of t < table_slots
unfolding Follows is_admissible may_open
opened_within P t space follows = grind (arith, nat_tests, follows.1)

pub live_within : (P : List Entry) (slots : KeptSlots) → Legal P → Stands P slots → (t : ℕ) → is_live P t ≡ true → number_of t < table_slots
unfolding slot_of
live_within P slots legal stands t live = go (cases_order (number_of t) table_slots)
  where
    there : slot_at slots.table (number_of t) ≡ record { version = next_version P (number_of t); live = Some (live_at P t) }
    there = stands.table (number_of t) ∙ rw (live_of_at P legal t live) refl

    past : table_slots ≤ number_of t → ⊥
    past far = none-some (live_at P t) (ap (λ s. s.live) (sym (slot_at-past slots.table (number_of t) (rw stands.size far)) ∙ there))

    go : (number_of t ≡ table_slots) ⊎ ((number_of t < table_slots) ⊎ (table_slots < number_of t)) → number_of t < table_slots
    go (inl e) = absurd (past (omega arith))
    go (inr (inl less)) = less
    go (inr (inr more)) = absurd (past (omega arith))

pub broke_within : (P : List Entry) (slots : KeptSlots) → Legal P → Stands P slots → (t : ℕ) → Follows P (Given (Broke t)) → number_of t < table_slots
unfolding Follows is_admissible
broke_within P slots legal stands t follows = live_within P slots legal stands t follows.1

pub broke_live : (P : List Entry) (t : ℕ) → Follows P (Given (Broke t)) → is_live P t ≡ true
unfolding Follows is_admissible
broke_live P t follows = follows.1
