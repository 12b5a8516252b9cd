-- Each caller has at most one open call.
use Rattle.std.proofs.lemmas.Bool.{false≢true, true≢false, cases_order, true_from_ne_false}
use Rattle.std.proofs.lemmas.List.Elements.{filter_map-append}
use Rattle.std.proofs.Common.{◌≡◌, refl, sym, ap, ◌∙◌, ℕ, ◌<◌, Bool, true, false, not, ◌&&◌, ◌==◌, eq-eqb, List, ◌∷◌, ◌++◌, Some, None, inl, inr, filter_map, arith}
use Rattle.ipc_history.specs.CallParts.{CallParts}
use Rattle.ipc_history.specs.Entries.{number_in}
use Rattle.ipc_history.specs.Calls.{numbers, call_at, is_called, caller_of}
use Rattle.ipc_history.specs.Threads.{is_live}
use Rattle.ipc_history.specs.Phases.{is_over, open_call}
use Rattle.ipc_history.specs.Matching.{matches}
use Rattle.ipc_history.specs.Legal.{Legal, is_free}
use Rattle.ipc_history.specs.declared.entry.Entry.{Entry}
use Rattle.ipc_history.specs.declared.entry.Entry.TheVariants.{Given}
use Rattle.ipc_history.specs.declared.entry.Input.TheVariants.{Called}
use Rattle.ipc_laws.proofs.Growth.{caller_of_kept, open_is_called, over_kept}
use Rattle.ipc_laws.proofs.Histories.{admitted_at, called_place}
use Rattle.ipc_laws.proofs.Numbering.{called_later, entered}
use Rattle.ipc_laws.proofs.PhaseParts.{meets_parts}
use Rattle.ipc_laws.proofs.Places.{Place, find_none}
use Rattle.ipc_laws.proofs.Tests.{left, none_of, not_both, right}

pub free_parts : (P : List Entry) (thread : ℕ) → is_free P thread ≡ true → (is_live P thread ≡ true) × (open_call P thread ≡ None)
unfolding is_free
free_parts P thread h = (left _ _ h, none_of _ (right _ _ h))

pub number_place : (P : List Entry) (n thread : ℕ) (call : CallParts) → Place P (Given (Called n thread call)) → Place (numbers P) n
unfolding numbers
number_place P n thread call at = record { front = filter_map number_in at.front; rest = filter_map number_in at.rest; whole = ap (filter_map number_in) at.whole ∙ filter_map-append number_in at.front _ }

-- a free thread's calls are over
pub none_open : (P : List Entry) (n : ℕ) → is_called P n ≡ true → open_call P (caller_of P n) ≡ None → is_over P n ≡ true
unfolding open_call
none_open P n c none =
    let made = called_place P n c in
    let fails = find_none (λ k. (caller_of P k == caller_of P n) && not (is_over P k)) (numbers P) n none (number_place P n made.thread made.call made.at) in
    over_from (caller_of P n == caller_of P n) (is_over P n) (eq-eqb _ _ refl) fails
  where
    over_from : (a b : Bool) → a ≡ true → (a && not b) ≡ false → b ≡ true
    over_from true true p q = refl
    over_from true false p q = absurd (true≢false q)
    over_from false b p q = absurd (false≢true p)

pub caller_at : (H : List Entry) (n thread : ℕ) (call : CallParts) → call_at H n ≡ Some (thread, call) → caller_of H n ≡ thread
unfolding caller_of
caller_at H n thread call e = rw e refl

-- of two calls of one caller the first is over
pub earlier_is_over : (H : List Entry) → Legal H → (n k : ℕ) → is_called H n ≡ true → is_called H k ≡ true → caller_of H n ≡ caller_of H k → n < k → is_over H n ≡ true
earlier_is_over H h n k cn ck same less =
    let made = called_place H k ck in
    let F = made.at.front in
    let R = Given (Called k made.thread made.call) ∷ made.at.rest in
    let e = entered F k made.thread made.call (admitted_at H h (Called k made.thread made.call) made.at) in
    let whole : H ≡ F ++ R = made.at.whole in
    let called : is_called F n ≡ true = true_from_ne_false (is_called F n) (λ absent. let later = called_later F R (rw whole at h) n absent (rw whole at cn) in omega (arith, e.1)) in
    let mine : caller_of F n ≡ made.thread = sym (caller_of_kept F R n called) ∙ (ap (λ l. caller_of l n) (sym whole) ∙ (same ∙ caller_at H k made.thread made.call made.is)) in
    let none : open_call F (caller_of F n) ≡ None = rw mine (free_parts F made.thread e.0).1 in
    rw whole (over_kept F R n called (none_open F n called none))

-- two open calls of one caller are one
pub one_open : (H : List Entry) → Legal H → (n k : ℕ) → is_over H n ≡ false → is_over H k ≡ false → caller_of H n ≡ caller_of H k → n ≡ k
one_open H h n k p q same = elim (cases_order n k) [ inl e ↦ e | inr (inl less) ↦ not_both (earlier_is_over H h n k (open_is_called H n p) (open_is_called H k q) same less) p | inr (inr more) ↦ not_both (earlier_is_over H h k n (open_is_called H k q) (open_is_called H n p) (sym same) more) q ]

-- a send meets at most one receive: its receiver has one open call
pub meets_one : (H : List Entry) → Legal H → (n m k : ℕ) → matches H n m ≡ true → matches H n k ≡ true → m ≡ k
meets_one H h n m k p q =
    let a = meets_parts H n m p in
    let b = meets_parts H n k q in
    one_open H h m k a.receives.opened b.receives.opened (sym a.same ∙ b.same)
