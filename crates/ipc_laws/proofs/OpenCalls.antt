-- Each open call is of a live thread of its own.
use Rattle.std.proofs.lemmas.Bool.{false≢true}
use Rattle.std.proofs.lemmas.List.Elements.{filter_map-append}
use Rattle.std.proofs.lemmas.List.Sums.{sum_by-cons, sum_by-append, sum_by-le-sum_by}
use Rattle.std.proofs.Common.{◌≡◌, refl, sym, ap, subst, ◌∙◌, ℕ, ◌+◌, ◌*◌, ◌<◌, ◌≤◌, zero, suc, zero-le, le_trans, Bool, true, false, not, ◌||◌, ◌&&◌, ◌==◌, eq-eqb, eqb-true, cond, List, [], ◌∷◌, ◌++◌, append_assoc, length, map, Some, is_none, filter_map, sum_by, arith}
use Rattle.std.specs.List.{list_any}
use Rattle.ipc_words.specs.ThreadId.{nilthread}
use Rattle.ipc_history.specs.Entries.{opened_in, opens}
use Rattle.ipc_history.specs.Calls.{numbers, is_called, caller_of, to_of, from_of, calls_made}
use Rattle.ipc_history.specs.Threads.{was_opened, is_live}
use Rattle.ipc_history.specs.Phases.{is_over, is_sent, receiver_of, sender_of}
use Rattle.ipc_history.specs.Legal.{Legal}
use Rattle.ipc_laws.specs.Laws.{one_if, up_to}
use Rattle.ipc_laws.specs.Counting.{phase_steps, send_steps, receive_steps, steps_left, turn_left, all_steps_left, threads, live_threads, open_calls}
use Rattle.ipc_history.specs.declared.entry.Entry.{Entry}
use Rattle.ipc_history.specs.declared.entry.Entry.TheVariants.{Given, Written}
use Rattle.ipc_history.specs.declared.entry.Input.{Input}
use Rattle.ipc_history.specs.declared.entry.Input.TheVariants.{Opened, Called}
use Rattle.ipc_history.specs.declared.entry.Output.{Output}
use Rattle.ipc_laws.proofs.Growth.{open_is_called, open_lives}
use Rattle.ipc_laws.proofs.Histories.{admitted_at, called_place, legal_front}
use Rattle.ipc_laws.proofs.Numbering.{entered, numbered}
use Rattle.ipc_laws.proofs.Once.{count_none}
use Rattle.ipc_laws.proofs.OneOpen.{caller_at, free_parts, one_open}
use Rattle.ipc_laws.proofs.Places.{Place, any_front, any_place}
use Rattle.ipc_laws.proofs.Steps.{steps_bound}
use Rattle.ipc_laws.proofs.Sums.{four, one_at, sum_swap, term_in}
use Rattle.ipc_laws.proofs.Tests.{left, refuted, right}
use Rattle.ipc_laws.proofs.WordLemmas.{last_some_push}

-- a test that counts
-- A number stands once among the numbers of the calls

up_to_once : (n k : ℕ) → (k < n → sum_by (one_at n) (up_to k) ≡ 0) × (sum_by (one_at n) (up_to k) ≤ 1)
up_to_once n zero = (λ h. refl, zero-le)
up_to_once n (suc k) = go (suc k == n) refl (up_to_once n k)
  where
    go : (b : Bool) → (suc k == n) ≡ b → (k < n → sum_by (one_at n) (up_to k) ≡ 0) × (sum_by (one_at n) (up_to k) ≤ 1) → (suc k < n → sum_by (one_at n) (up_to (suc k)) ≡ 0) × (sum_by (one_at n) (up_to (suc k)) ≤ 1)
    go false e h =
        let here : one_at n (suc k) ≡ 0 = rw e refl in
        let all = sum_by-append (one_at n) (up_to k) (suc k ∷ []) in
        let last = sum_by-cons (one_at n) (suc k) [] in
        (λ l. (let none = h.0 (omega arith) in omega (arith, here, all, last, none)), omega (arith, here, all, last, h.1))
    go true e h =
        let same = eqb-true (suc k) n e in
        let here : one_at n (suc k) ≡ 1 = rw e refl in
        let all = sum_by-append (one_at n) (up_to k) (suc k ∷ []) in
        let last = sum_by-cons (one_at n) (suc k) [] in
        let none = h.0 (omega arith) in
        (λ l. absurd (omega arith), omega (arith, here, all, last, none))

once_in : (n k : ℕ) (xs : List ℕ) → xs ≡ up_to k → sum_by (one_at n) xs ≤ 1
once_in n k xs e = rw e (up_to_once n k).1

-- The caller of an open call lives

pub caller_opened : (P : List Entry) → Legal P → (n : ℕ) → is_called P n ≡ true → was_opened P (caller_of P n) ≡ true
unfolding was_opened is_live
caller_opened P h n c =
    let made = called_place P n c in
    let free = (entered made.at.front n made.thread made.call (admitted_at P h (Called n made.thread made.call) made.at)).0 in
    let opened = left _ _ (free_parts made.at.front made.thread free).0 in
    subst (λ t. list_any (opens t) P ≡ true) (sym (caller_at P n made.thread made.call made.is)) (any_front (opens made.thread) P _ made.at opened)

pub caller_lives : (P : List Entry) → Legal P → (n : ℕ) → is_over P n ≡ false → is_live P (caller_of P n) ≡ true
unfolding is_live
caller_lives P h n o = rw (caller_opened P h n (open_is_called P n o), open_lives P n o) refl

pub thread_place : (P : List Entry) (t : ℕ) → was_opened P t ≡ true → Place (threads P) t
unfolding threads was_opened
thread_place P t h = let p = any_place (opens t) P h in go p.0 p.1 p.2
  where
    go : (e : Entry) → Place P e → opens t e ≡ true → Place (filter_map opened_in P) t
    go (Given (Opened thread space)) at g =
        let same : thread ≡ t = eqb-true thread t g in
        let there : Place (filter_map opened_in P) thread = record { front = filter_map opened_in at.front; rest = filter_map opened_in at.rest; whole = ap (filter_map opened_in) at.whole ∙ filter_map-append opened_in at.front _ } in
        rw same at there
    go _ at g = absurd (false≢true g)

-- x is an open call of the live thread y
abbrev has : List Entry → ℕ → ℕ → Bool
has P x y = not (is_over P x) && (caller_of P x == y) && is_live P y

abbrev has_one : List Entry → ℕ → ℕ → ℕ
has_one P x y = cond (has P x y) 1 0

module _ (P : List Entry) (h : Legal P) where
  a_thread : (x : ℕ) → cond (not (is_over P x)) 1 0 ≤ sum_by (has_one P x) (threads P)
  a_thread x = go (is_over P x) refl
    where
      go : (b : Bool) → is_over P x ≡ b → cond (not (is_over P x)) 1 0 ≤ sum_by (has_one P x) (threads P)
      go true e = rw e zero-le
      go false e =
          let one : has_one P x (caller_of P x) ≡ 1 = rw (e, eq-eqb (caller_of P x) (caller_of P x) refl, caller_lives P h x e) refl in
          let counted : one_if (not (is_over P x)) ≡ 1 = rw e refl in
          let there = term_in (has_one P x) (threads P) (caller_of P x) (thread_place P (caller_of P x) (caller_opened P h x (open_is_called P x e))) in
          omega (arith, counted, one, there)

  same_call : (x k y : ℕ) → has P x y ≡ true → has P k y ≡ true → x ≡ k
  same_call x k y e g =
      let a : caller_of P x ≡ y = eqb-true _ _ (right _ _ (left _ _ e)) in
      let b : caller_of P k ≡ y = eqb-true _ _ (right _ _ (left _ _ g)) in
      one_open P h x k (refuted _ (left _ _ (left _ _ e))) (refuted _ (left _ _ (left _ _ g))) (a ∙ sym b)

  has_live : (x y : ℕ) → has P x y ≡ true → is_live P y ≡ true
  has_live x y e = right _ _ e

  only : (x k y : ℕ) (b : Bool) → has P x y ≡ b → has P k y ≡ true → has_one P x y ≤ one_at k x
  only x k y false e g = rw e zero-le
  only x k y true e g =
      let one : has_one P x y ≡ 1 = rw e refl in
      let here : one_at k x ≡ 1 = rw (same_call x k y e g, eq-eqb k k refl) refl in
      omega (arith, one, here)

  one_call : (y : ℕ) → sum_by (λ x. has_one P x y) (numbers P) ≤ cond (is_live P y) 1 0
  one_call y = go (list_any (λ x. has P x y) (numbers P)) refl
    where
      go : (b : Bool) → list_any (λ x. has P x y) (numbers P) ≡ b → sum_by (λ x. has_one P x y) (numbers P) ≤ cond (is_live P y) 1 0
      go false e = rw (count_none (λ x. has P x y) (numbers P) e) zero-le
      go true e =
          let found = any_place (λ x. has P x y) (numbers P) e in
          let k = found.0 in
          let live : one_if (is_live P y) ≡ 1 = ap one_if (has_live k y found.2) in
          let most = sum_by-le-sum_by (λ x. has_one P x y) (one_at k) (numbers P) (λ x. only x k y (has P x y) refl found.2) in
          let once = once_in k (calls_made P) (numbers P) (numbered P h) in
          omega (arith, live, most, once)

  pub open_bound : open_calls P ≤ live_threads P
  unfolding open_calls live_threads
  open_bound =
      let each = sum_by-le-sum_by (λ x. cond (not (is_over P x)) 1 0) (λ x. sum_by (has_one P x) (threads P)) (numbers P) a_thread in
      let swap = sum_swap (has_one P) (numbers P) (threads P) in
      let most = sum_by-le-sum_by (λ y. sum_by (λ x. has_one P x y) (numbers P)) (λ y. cond (is_live P y) 1 0) (threads P) one_call in
      le_trans each (le_trans swap most)

-- Outputs after an input

two : (done waiting : Bool) → phase_steps done waiting ≤ 2
two done waiting = grind arith

pub at_most_four : (P : List Entry) (n : ℕ) → steps_left P n ≤ 4 * cond (not (is_over P n)) 1 0
unfolding steps_left send_steps receive_steps
at_most_four P n = go (is_over P n) refl
  where
    go : (b : Bool) → is_over P n ≡ b → send_steps P n + receive_steps P n ≤ 4 * cond (not (is_over P n)) 1 0
    go true e = rw e zero-le
    go false e =
        let counted : one_if (not (is_over P n)) ≡ 1 = rw e refl in
        omega (arith, counted, two (is_over P n || (to_of P n == nilthread) || is_sent P n) (is_none (receiver_of P n)), two (is_over P n || (from_of P n == nilthread)) (is_none (sender_of P n)))

pub turn_left_given : (P : List Entry) (i : Input) → turn_left (P ++ Given i ∷ []) ≡ 0
unfolding turn_left
turn_left_given P i = rw (last_some_push {Y = Entry} (λ e. Some e) P (Given i)) refl

all_steps_given : (P : List Entry) (i : Input) → all_steps_left (P ++ Given i ∷ []) ≤ 4 * open_calls (P ++ Given i ∷ [])
unfolding all_steps_left open_calls
all_steps_given P i = omega (arith, turn_left_given P i, four (steps_left (P ++ Given i ∷ [])) (λ n. cond (not (is_over (P ++ Given i ∷ []) n)) 1 0) (numbers (P ++ Given i ∷ [])) (at_most_four (P ++ Given i ∷ [])))

pub outputs_bound : (P : List Entry) (i : Input) (os : List Output) → Legal (P ++ Given i ∷ map Written os) → length os ≤ 4 * live_threads (P ++ Given i ∷ [])
outputs_bound P i os h =
    let Q = P ++ Given i ∷ [] in
    let h' : Legal (Q ++ map Written os) = rw (append_assoc P (Given i ∷ []) (map Written os)) h in
    omega (arith, steps_bound Q os h', all_steps_given P i, open_bound Q (legal_front Q _ h'))
