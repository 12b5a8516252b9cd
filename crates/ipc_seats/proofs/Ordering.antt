-- The outcomes of a thread are taken in the order of its calls.
use Rattle.std.proofs.Common.{◌≡◌, ℕ, ◌<◌, ◌≤◌, List, [], ◌∷◌, ◌++◌, append-nil, Bool, true, false, Option, Some, None, is_some, cond, filter, ◌==◌, ◌||◌, ◌&&◌, eq-eqb, eqb-true, if◌then◌else◌, option_and_then, inl, inr, refl, sym, ap, ap₂, ◌∙◌, subst, arith}
use Rattle.std.proofs.lemmas.Bool.{cases_order, false≢true}
use Rattle.std.proofs.lemmas.List.Elements.{All-head, All-tail, filter-append}
use Rattle.std.proofs.lemmas.Option.{none-some, same_Some}
use Rattle.std.specs.Prelude.{All}
use Rattle.std.specs.Option.{option_or}
use Rattle.ipc_core.specs.KernelParts.{KernelParts}
use Rattle.ipc_core.specs.Laws.{IsSound}
use Rattle.ipc_core.specs.Outcomes.{IsTaken, outcome_to_take}
use Rattle.ipc_desks.proofs.TakenDesks.{outcome_call}
use Rattle.ipc_desks.specs.CallsOf.{is_among, last_call, outcome_to_take as waiting, untaken_outcome}
use Rattle.ipc_desks.proofs.LastCalls.{absent, last_is, last_kept, last_push, new_call_at}
use Rattle.ipc_history.specs.Calls.{call_at, caller_of, is_called}
use Rattle.ipc_history.specs.Entries.{call_in, number_in}
use Rattle.ipc_history.specs.Legal.{Follows, Legal, is_admissible}
use Rattle.ipc_history.specs.Outcomes.{OutcomeParts, outcome_of}
use Rattle.ipc_history.specs.Threads.{is_live}
use Rattle.ipc_history.specs.Words.{first_some}
use Rattle.ipc_history.specs.CallParts.{CallParts}
use Rattle.ipc_history.specs.declared.entry.Entry.{Entry}
use Rattle.ipc_history.specs.declared.entry.Entry.TheVariants.{Given, Written}
use Rattle.ipc_history.specs.declared.entry.Input.TheVariants.{At, Opened, Called, Exreg, Broke, Moved}
use Rattle.ipc_laws.proofs.Growth.{caller_of_kept}
use Rattle.ipc_laws.proofs.Histories.{legal_induction}
use Rattle.ipc_laws.proofs.Numbering.{called_below, entered}
use Rattle.ipc_laws.proofs.OneOpen.{caller_at}
use Rattle.ipc_laws.proofs.Steps.{call_at_push}
use Rattle.ipc_laws.proofs.Tests.{left, right}
use Rattle.ipc_laws.proofs.WordLemmas.{first_some_push, option_or_none}
use Rattle.ipc_waits.specs.Finding.{IsRising, is_among as is_in}
use Rattle.ipc_waits.proofs.Lists.{among_filtered, rising_push}

-- A thread's last call is the greatest of its calls

abbrev IsGreatest : List Entry → Type 0
IsGreatest P = (m n : ℕ) → is_called P m ≡ true → last_call P (caller_of P m) ≡ Some n → m ≤ n

plain_greatest : (P : List Entry) (e : Entry) → number_in e ≡ None → IsGreatest P → IsGreatest (P ++ e ∷ [])
unfolding is_called
plain_greatest P e plain h m n called last =
    let before : is_called P m ≡ true = ap is_some (sym (call_at_push P e plain m)) ∙ called in
    let same : caller_of (P ++ e ∷ []) m ≡ caller_of P m = caller_of_kept P (e ∷ []) m before in
    h m n before (sym (last_kept P e (caller_of P m) plain) ∙ (ap (λ (t : ℕ). last_call (P ++ e ∷ []) t) (sym same) ∙ last))

-- a call that is there after a Called of another one was there before
called_before : (P : List Entry) (k t m : ℕ) (call : CallParts) → (k == m) ≡ false → is_called (P ++ Given (Called k t call) ∷ []) m ≡ true → is_called P m ≡ true
unfolding is_called call_at
called_before P k t m call other called =
    ap is_some (sym (first_some_push (call_in m) P (Given (Called k t call)) ∙ (ap (option_or (first_some (call_in m) P)) (rw other refl) ∙ option_or_none _))) ∙ called

called_greatest : (P : List Entry) (k t : ℕ) (call : CallParts) → Legal P → is_admissible P (Called k t call) ≡ true → IsGreatest P → IsGreatest (P ++ Given (Called k t call) ∷ [])
called_greatest P k t call legal admissible h m n called last = go (k == m) refl
  where
    next : Entry
    next = Given (Called k t call)

    newest : k ≡ m → m ≤ n
    newest same =
        let caller : caller_of (P ++ next ∷ []) k ≡ t = caller_at (P ++ next ∷ []) k t call (new_call_at P k t call (absent P k t call legal admissible)) in
        let is_last : last_call (P ++ next ∷ []) t ≡ Some k = last_push P next t ∙ rw (eq-eqb t t refl) refl in
        let there : last_call (P ++ next ∷ []) (caller_of (P ++ next ∷ []) k) ≡ Some n = ap (λ (j : ℕ). last_call (P ++ next ∷ []) (caller_of (P ++ next ∷ []) j)) same ∙ last in
        let is_n : k ≡ n = same_Some k n (sym is_last ∙ (ap (λ (u : ℕ). last_call (P ++ next ∷ []) u) (sym caller) ∙ there)) in
        omega (arith, same, is_n)

    by_caller : is_called P m ≡ true → (b : Bool) → option_or (if b then Some k else None) (last_call P (caller_of P m)) ≡ Some n → m ≤ n
    by_caller before true is = omega (arith, called_below P legal m before, (entered P k t call admissible).1, same_Some k n is)
    by_caller before false is = h m n before is

    go : (b : Bool) → (k == m) ≡ b → m ≤ n
    go true same = newest (eqb-true k m same)
    go false other =
        let before = called_before P k t m call other called in
        let same : caller_of (P ++ next ∷ []) m ≡ caller_of P m = caller_of_kept P (next ∷ []) m before in
        by_caller before (t == caller_of P m) (sym (last_push P next (caller_of P m)) ∙ (ap (λ (u : ℕ). last_call (P ++ next ∷ []) u) (sym same) ∙ last))

greatest_step : (P : List Entry) (e : Entry) → Legal P → IsGreatest P → Follows P e → IsGreatest (P ++ e ∷ [])
unfolding Follows
greatest_step P (Given (Called k t call)) legal h follows = called_greatest P k t call legal follows.1 h
greatest_step P (Given (At moment)) legal h follows = plain_greatest P (Given (At moment)) refl h
greatest_step P (Given (Opened t space)) legal h follows = plain_greatest P (Given (Opened t space)) refl h
greatest_step P (Given (Exreg t target control)) legal h follows = plain_greatest P (Given (Exreg t target control)) refl h
greatest_step P (Given (Broke t)) legal h follows = plain_greatest P (Given (Broke t)) refl h
greatest_step P (Given (Moved n count)) legal h follows = plain_greatest P (Given (Moved n count)) refl h
greatest_step P (Written output) legal h follows = plain_greatest P (Written output) refl h

greatest_start : IsGreatest []
unfolding is_called call_at
greatest_start m n called last = absurd (false≢true called)

last_greatest : (H : List Entry) → Legal H → IsGreatest H
last_greatest H legal = legal_induction IsGreatest greatest_start greatest_step H legal

-- What is to be taken

-- it is the outcome of the thread's last call, and was not taken
pub last_of_taken : (kernel : KernelParts) (thread : ℕ) (outcome : OutcomeParts) → outcome_to_take kernel thread ≡ Some outcome
    → (last_call kernel.history thread ≡ Some outcome.call) × (outcome_of kernel.history outcome.call ≡ Some outcome) × (is_among outcome.call kernel.taken ≡ false)
unfolding outcome_to_take waiting
last_of_taken kernel thread outcome told = live (is_live kernel.history thread) told
  where
    among : (n : ℕ) (b : Bool) → is_among n kernel.taken ≡ b → (if b then None else outcome_of kernel.history n) ≡ Some outcome
        → (outcome_of kernel.history n ≡ Some outcome) × (is_among n kernel.taken ≡ false)
    among n true is h = absurd (none-some outcome h)
    among n false is h = (h, is)

    call : (last : Option ℕ) → option_and_then (untaken_outcome kernel.history kernel.taken) last ≡ Some outcome
        → (last ≡ Some outcome.call) × (outcome_of kernel.history outcome.call ≡ Some outcome) × (is_among outcome.call kernel.taken ≡ false)
    call None h = absurd (none-some outcome h)
    call (Some n) h =
        let was = among n (is_among n kernel.taken) refl h in
        let same : n ≡ outcome.call = sym (outcome_call kernel.history n outcome was.0) in (
          ap (λ k. Some k) same,
          subst (λ (k : ℕ). outcome_of kernel.history k ≡ Some outcome) same was.0,
          subst (λ (k : ℕ). is_among k kernel.taken ≡ false) same was.1,
        )

    live : (b : Bool) → (if b then waiting kernel.history kernel.taken thread else None) ≡ Some outcome
        → (last_call kernel.history thread ≡ Some outcome.call) × (outcome_of kernel.history outcome.call ≡ Some outcome) × (is_among outcome.call kernel.taken ≡ false)
    live false h = absurd (none-some outcome h)
    live true h = call (last_call kernel.history thread) h

-- The order

-- of each thread the calls whose outcome was taken rise
abbrev pub AreInOrder : KernelParts → Type 0
AreInOrder kernel = (thread : ℕ) → IsRising (filter (λ n. caller_of kernel.history n == thread) kernel.taken)

filter_same : (p q : ℕ → Bool) (xs : List ℕ) → All (λ (n : ℕ). p n ≡ q n) xs → filter p xs ≡ filter q xs
filter_same p q [] all = refl
filter_same p q (x ∷ xs) all =
    ap₂ (λ (b : Bool) (l : List ℕ). cond b (x ∷ l) l) (All-head (λ (n : ℕ). p n ≡ q n) x xs all) (filter_same p q xs (All-tail (λ (n : ℕ). p n ≡ q n) x xs all))

-- it stays as the history goes on
pub order_grown : (old new : KernelParts) (more : List Entry) → IsSound old → new.history ≡ old.history ++ more → new.taken ≡ old.taken → AreInOrder old → AreInOrder new
order_grown old new more sound grows same order thread =
    subst (λ (taken : List ℕ). IsRising (filter (λ n. caller_of new.history n == thread) taken)) (sym same)
    (subst (λ (H : List Entry). IsRising (filter (λ n. caller_of H n == thread) old.taken)) (sym grows)
    (subst IsRising (sym (filter_same (λ n. caller_of (old.history ++ more) n == thread) (λ n. caller_of old.history n == thread) old.taken
    (λ i d within. ap (λ (t : ℕ). t == thread) (caller_of_kept old.history more _ (sound.taken i d within).called)))) (order thread)))

taken_among : (H : List Entry) (taken : List ℕ) (n : ℕ) → All (IsTaken H) taken → is_in taken n ≡ true → IsTaken H n
taken_among H [] n all among = absurd (false≢true among)
taken_among H (k ∷ taken) n all among = go (k == n) refl (taken_among H taken n (All-tail (IsTaken H) k taken all)) among
  where
    go : (b : Bool) → (k == n) ≡ b → (is_in taken n ≡ true → IsTaken H n) → (b || is_in taken n) ≡ true → IsTaken H n
    go true e later h = subst (IsTaken H) (eqb-true k n e) (All-head (IsTaken H) k taken all)
    go false e later h = later h

-- and as an outcome is taken
pub order_gives : (old : KernelParts) (taker : ℕ) (outcome : OutcomeParts) → IsSound old → outcome_to_take old taker ≡ Some outcome → AreInOrder old
    → (thread : ℕ) → IsRising (filter (λ n. caller_of old.history n == thread) (old.taken ++ outcome.call ∷ []))
order_gives old taker outcome sound gives order thread =
    subst IsRising (sym (filter-append its old.taken (outcome.call ∷ []))) (go (its outcome.call) refl)
  where
    its : ℕ → Bool
    its n = caller_of old.history n == thread

    below : its outcome.call ≡ true → (k : ℕ) → is_in (filter its old.taken) k ≡ true → k < outcome.call
    below is k among =
        let both : its k && is_in old.taken k ≡ true = sym (among_filtered its old.taken k) ∙ among in
        let told = last_of_taken old taker outcome gives in
        let taken : is_in old.taken k ≡ true = right (its k) (is_in old.taken k) both in
        let called : is_called old.history k ≡ true = (taken_among old.history old.taken k sound.taken taken).called in
        let caller : caller_of old.history k ≡ thread = eqb-true (caller_of old.history k) thread (left (its k) (is_in old.taken k) both) in
        let last : (caller_of old.history outcome.call ≡ taker) × (is_called old.history outcome.call ≡ true) = last_is old.history sound.legal taker outcome.call told.0 in
        let same : taker ≡ caller_of old.history k = sym last.0 ∙ (eqb-true (caller_of old.history outcome.call) thread is ∙ sym caller) in
        let most : k ≤ outcome.call = last_greatest old.history sound.legal k outcome.call called (ap (λ (t : ℕ). last_call old.history t) (sym same) ∙ told.0) in
        elim (cases_order k outcome.call) [
          | inl e ↦ absurd (false≢true (sym told.2 ∙ (ap (λ (n : ℕ). is_in old.taken n) (sym e) ∙ taken)))
          | inr (inl less) ↦ less
          | inr (inr more) ↦ omega (arith, most, more)
        ]

    go : (b : Bool) → its outcome.call ≡ b → IsRising (filter its old.taken ++ cond b (outcome.call ∷ []) [])
    go true is = rising_push (filter its old.taken) outcome.call (order thread) (below is)
    go false is = subst IsRising (sym (append-nil (filter its old.taken))) (order thread)
