-- The least call that is due.
use Rattle.std.proofs.lemmas.Bool.{false≢true, false_from_ne_true}
use Rattle.std.proofs.lemmas.Bool.Decides.{nat_tests}
use Rattle.std.proofs.Common.{◌≡◌, refl, sym, ap, subst, ◌∙◌, ℕ, ◌+◌, ◌-◌, ◌^◌, ◌<◌, ◌==◌, eqb-true, nat_le, nat_lt, Bool, true, false, List, [], ◌∷◌, ◌++◌, Option, Some, None, append_assoc, arith}
use Rattle.std.specs.Option.{option_or}
use Rattle.ipc_words.specs.Limits.{last_moment}
use Rattle.ipc_history.specs.Words.{first_some}
use Rattle.ipc_history.specs.Calls.{numbers}
use Rattle.ipc_history.specs.Threads.{now}
use Rattle.ipc_history.specs.Timing.{is_due_at}
use Rattle.ipc_history.specs.NextOutput.{timeout_code}
use Rattle.ipc_history.specs.Legal.{Follows, Legal, is_admissible}
use Rattle.ipc_history.specs.declared.entry.Entry.{Entry}
use Rattle.ipc_history.specs.declared.entry.Entry.TheVariants.{Given, Written}
use Rattle.ipc_history.specs.declared.entry.Input.TheVariants.{At, Opened, Called, Exreg, Broke, Moved}
use Rattle.ipc_history.specs.declared.entry.Output.TheVariants.{Failed}
use Rattle.ipc_laws.specs.Laws.{timeout_at}
use Rattle.ipc_laws.proofs.Tests.{left, right}
use Rattle.ipc_laws.proofs.Changing.{changes}
use Rattle.ipc_waits.specs.Finding.{IsRising, is_among}
use Rattle.ipc_waits.proofs.Among.{numbers_rise, open_among}
use Rattle.ipc_waits.proofs.Kept.{due_at_open}
use Rattle.ipc_waits.specs.Rules.{rule_of}
use Rattle.ipc_waits.specs.declared.rules.Rule.TheVariants.{Expires}
use Rattle.ipc_threads.specs.Slots.{Stands}
use Rattle.ipc_threads.specs.declared.kept.KeptSlots.{KeptSlots}
use Rattle.ipc_waits.specs.Keys.{Mirrors, due_under}
use Rattle.ipc_waits.specs.Next.{IsOpenAt}
use Rattle.ipc_waits.specs.Queues.{IsLeastWait, is_in, until}
use Rattle.ipc_waits.specs.declared.queue.Wait.{Wait}
use Rattle.ipc_waits.proofs.WaitFacts.{due_is_in, wait_is_due, wait_of}
use Rattle.ipc_waits.proofs.WaitLists.{in_filter}

-- The moment of a legal history is in range

entry_in_range : (P : List Entry) (e : Entry) → Follows P e → now P < last_moment + 1 → now (P ++ e ∷ []) < last_moment + 1
unfolding Follows is_admissible
entry_in_range P (Given (At m)) f low = rw (changes P (Given (At m))).moment (below m (last_moment + 1) (right (nat_lt (now P) m) _ f.1))
  where
    below : (a b : ℕ) → nat_lt a b ≡ true → a < b
    below a b h = grind (arith, nat_tests)
entry_in_range P (Given (Opened thread space)) f low = rw (changes P (Given (Opened thread space))).moment low
entry_in_range P (Given (Called k thread call)) f low = rw (changes P (Given (Called k thread call))).moment low
entry_in_range P (Given (Exreg thread target control)) f low = rw (changes P (Given (Exreg thread target control))).moment low
entry_in_range P (Given (Broke thread)) f low = rw (changes P (Given (Broke thread))).moment low
entry_in_range P (Given (Moved k count)) f low = rw (changes P (Given (Moved k count))).moment low
entry_in_range P (Written output) f low = rw (changes P (Written output)).moment low

rest_in_range : (P rest : List Entry) → Legal (P ++ rest) → now P < last_moment + 1 → now (P ++ rest) < last_moment + 1
unfolding Legal
rest_in_range P [] legal low = subst (λ H. now H < last_moment + 1) (sym (append_nil P)) low
  where
    append_nil : (xs : List Entry) → xs ++ [] ≡ xs
    append_nil [] = refl
    append_nil (x ∷ xs) = ap (λ l. x ∷ l) (append_nil xs)
rest_in_range P (e ∷ rest) legal low =
    let same : (P ++ e ∷ []) ++ rest ≡ P ++ e ∷ rest = append_assoc P (e ∷ []) rest in
    subst (λ H. now H < last_moment + 1) same (rest_in_range (P ++ e ∷ []) rest (subst Legal (sym same) legal) (entry_in_range P e (legal P e rest refl) low))

pub now_in_range : (P : List Entry) → Legal P → now P < last_moment + 1
unfolding now
now_in_range P legal = rest_in_range [] P legal (omega arith)

-- The first that gives something

module _ {Y : Type 0} (f : ℕ → Option Y) where
  gives_none : (xs : List ℕ) → ((n : ℕ) → f n ≡ None) → first_some f xs ≡ None
  gives_none [] none = refl
  gives_none (x ∷ xs) none = rw (none x) (gives_none xs none)

  -- the least that gives something is the first of a rising list that has it
  gives_least : (xs : List ℕ) (n : ℕ) (y : Y) → IsRising xs → is_among xs n ≡ true → f n ≡ Some y → ((k : ℕ) → k < n → f k ≡ None) → first_some f xs ≡ Some y
  gives_least [] n y rising among gives none = absurd (false≢true among)
  gives_least (x ∷ xs) n y rising among gives none = go (x == n) refl (gives_least xs n y rising.1)
    where
      go : (b : Bool) → (x == n) ≡ b → (is_among xs n ≡ true → f n ≡ Some y → ((k : ℕ) → k < n → f k ≡ None) → first_some f xs ≡ Some y) → option_or (f x) (first_some f xs) ≡ Some y
      go true e later = rw (ap f (eqb-true x n e), gives) refl
      go false e later = let behind : is_among xs n ≡ true = rw e at among in rw (none x (rising.0 n behind)) (later behind gives none)

-- The least that is due

module _ (P : List Entry) (slots : KeptSlots) (legal : Legal P) (stands : Stands P slots) (ws : List Wait) (mirrors : Mirrors due_under slots.table ws) where
  pub due_is_open : (moment : ℕ) (w : Wait) → is_in (until moment ws) w ≡ true → IsOpenAt P w
  due_is_open moment w there =
      let wait = wait_of P slots legal stands due_under ws mirrors w (right (nat_le w.key moment) (is_in ws w) (sym (in_filter (λ w. nat_le w.key moment) ws w) ∙ there)) in
      record { opened = wait.opened; place = wait.place }

  module _ (moment : ℕ) (early : moment < 2 ^ 64 - 1) where
    -- what a call that is due gives, and one that is not
    gives : (n : ℕ) → is_due_at P moment n ≡ true → timeout_at P moment n ≡ Some (Failed n (timeout_code P n))
    unfolding timeout_at
    gives n due = rw due refl

    gives_not : (n : ℕ) → (is_due_at P moment n ≡ true → ⊥) → timeout_at P moment n ≡ None
    unfolding timeout_at
    gives_not n undue = rw (false_from_ne_true (is_due_at P moment n) undue) refl

    -- nothing comes where nothing waits until then
    pub none_is_due : until moment ws ≡ [] → first_some (rule_of (Expires moment) P) (numbers P) ≡ None
    none_is_due none = gives_none (rule_of (Expires moment) P) (numbers P) (λ n. gives_not n (λ due. false≢true (subst (λ l. is_in l (due_is_in P slots legal stands ws mirrors moment n due).0 ≡ true) none (due_is_in P slots legal stands ws mirrors moment n due).1)))

    -- else the first timeout is that of the wait that has the least number
    pub least_is_due : (w : Wait) → IsLeastWait (until moment ws) (Some w) → first_some (rule_of (Expires moment) P) (numbers P) ≡ timeout_at P moment w.number
    least_is_due w least =
        let parts = sym (in_filter (λ w. nat_le w.key moment) ws w) ∙ least.0 in
        let due : is_due_at P moment w.number ≡ true = wait_is_due P slots legal stands ws mirrors moment early w (right (nat_le w.key moment) (is_in ws w) parts) ∙ left (nat_le w.key moment) (is_in ws w) parts in
        gives_least (rule_of (Expires moment) P) (numbers P) w.number _ (numbers_rise P legal) (open_among P w.number (due_at_open P moment w.number due)) (gives w.number due) (λ k less. gives_not k (λ due. (let v = due_is_in P slots legal stands ws mirrors moment k due in let far = least.1 v.0 v.1 in let number = v.2 in absurd (omega arith)))) ∙ sym (gives w.number due)
