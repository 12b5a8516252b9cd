-- Each number has at most one live thread, and the numbers are from 1 to the greatest.
use Rattle.std.proofs.lemmas.Bool.{false≢true, false_from_ne_true, leb-true, eqb-false}
use Rattle.std.proofs.lemmas.List.Folds.{list_any-append}
use Rattle.std.proofs.lemmas.List.Elements.{filter_map-append}
use Rattle.std.proofs.lemmas.List.Sums.{sum_by_push, sum_by-le-sum_by}
use Rattle.std.proofs.Common.{◌≡◌, refl, sym, ap, ◌∙◌, ℕ, ◌+◌, ◌≤◌, zero, suc, zero-le, le_trans, Bool, true, false, not, ◌||◌, ◌&&◌, ◌==◌, eq-eqb, eqb-true, cond, List, [], ◌∷◌, ◌++◌, append_assoc, map, length, Option, Some, None, filter_map, sum_by, count_by, arith}
use Rattle.std.specs.List.{list_any, cons_option}
use Rattle.ipc_words.specs.Limits.{max_outputs, max_thread_number}
use Rattle.ipc_words.specs.ThreadId.{number_of}
use Rattle.ipc_history.specs.Entries.{opened_in, opens, breaks, thread_in}
use Rattle.ipc_history.specs.Threads.{has_broken, was_opened, is_live, is_taken}
use Rattle.ipc_history.specs.Legal.{Legal, Follows, is_admissible, may_open}
use Rattle.ipc_laws.specs.Laws.{up_to}
use Rattle.ipc_laws.specs.Counting.{threads, live_threads}
use Rattle.ipc_history.specs.declared.entry.Entry.{Entry}
use Rattle.ipc_history.specs.declared.entry.Entry.TheVariants.{Given, Written}
use Rattle.ipc_history.specs.declared.entry.Input.{Input}
use Rattle.ipc_history.specs.declared.entry.Output.{Output}
use Rattle.ipc_history.specs.declared.entry.Input.TheVariants.{At, Opened, Called, Exreg, Broke, Moved}
use Rattle.ipc_laws.proofs.Histories.{admitted_at, legal_front, legal_induction}
use Rattle.ipc_laws.proofs.Once.{count_none}
use Rattle.ipc_laws.proofs.OpenCalls.{outputs_bound}
use Rattle.ipc_laws.proofs.Places.{Place, any_at, any_place}
use Rattle.ipc_laws.proofs.Sums.{count_agrees, fewer_in, sum_swap, term_in}
use Rattle.ipc_laws.proofs.Tests.{left, not_both, refuted, right}
use Rattle.ipc_laws.proofs.ThreadChanges.{is_live_push, live_before, thread_was_opened, threads_opened, threads_push, was_opened_push}

-- x is live, and of this number
abbrev is_of : List Entry → ℕ → ℕ → Bool
is_of P number x = is_live P x && (number_of x == number)

abbrev AtMostOne : List Entry → Type 0
AtMostOne P = (number : ℕ) → count_by (is_of P number) (threads P) ≤ 1

-- what a filter gives for an element stands among what it gives
filter_place : {X Y : Type 0} (f : X → Option Y) (xs : List X) (x : X) (y : Y) → Place xs x → f x ≡ Some y → Place (filter_map f xs) y
filter_place f xs x y at h = record {
  front = filter_map f at.front;
  rest = filter_map f at.rest;
  whole = ap (filter_map f) at.whole ∙ (filter_map-append f at.front (x ∷ at.rest) ∙ ap (λ o. filter_map f at.front ++ cons_option o (filter_map f at.rest)) h);
}

-- a thread that was opened, at its place
opened_at : (P : List Entry) (x : ℕ) → was_opened P x ≡ true → (space : ℕ) × Place P (Given (Opened x space))
unfolding was_opened
opened_at P x h = let p = any_place (opens x) P h in go p.0 p.1 p.2
  where
    go : (e : Entry) → Place P e → opens x e ≡ true → (space : ℕ) × Place P (Given (Opened x space))
    go (Given (Opened t space)) at g = let same : t ≡ x = eqb-true t x g in (space, rw same at at)
    go _ at g = absurd (false≢true g)

pub taken : (P : List Entry) (x : ℕ) → was_opened P x ≡ true → is_live P x ≡ true → is_taken P (number_of x) ≡ true
unfolding is_taken
taken P x o l =
    let p = opened_at P x o in
    any_at (is_live P) (filter_map (thread_in (number_of x)) P) x (filter_place (thread_in (number_of x)) P _ x p.1 (rw (eq-eqb (number_of x) (number_of x) refl) refl)) l

none_live : (P : List Entry) (number : ℕ) → is_taken P number ≡ false → list_any (is_of P number) (threads P) ≡ false
none_live P number free = false_from_ne_true _ (λ some.
    let p = any_place (is_of P number) (threads P) some in
    let same : number_of p.0 ≡ number = eqb-true (number_of p.0) number (right (is_live P p.0) _ p.2) in
    not_both (rw same at (taken P p.0 (thread_was_opened P p.0 p.1) (left (is_live P p.0) _ p.2))) free)

-- What an Opened asks

pub opened_free : (P : List Entry) (t space : ℕ) → is_admissible P (Opened t space) ≡ true → is_taken P (number_of t) ≡ false
unfolding is_admissible may_open
opened_free P t space h = refuted _ (right _ _ (left _ _ (left _ _ (left _ _ h))))

opened_within : (P : List Entry) (t space : ℕ) → is_admissible P (Opened t space) ≡ true → (1 ≤ number_of t) × (number_of t ≤ max_thread_number)
unfolding is_admissible may_open
opened_within P t space h = let both = left _ _ (left _ _ (left _ _ (left _ _ h))) in (leb-true 1 (number_of t) (left _ _ both), leb-true (number_of t) max_thread_number (right _ _ both))

-- Each entry keeps it

same_live : (P : List Entry) (e : Entry) → opened_in e ≡ None → ((t : ℕ) → opens t e ≡ false) → ((t : ℕ) → breaks t e ≡ false) → AtMostOne P → AtMostOne (P ++ e ∷ [])
same_live P e none o b h number = rw (threads_push P e none, count_agrees (is_of (P ++ e ∷ []) number) (is_of P number) (threads P) (λ x at. ap (λ l. l && (number_of x == number)) (is_live_push P e x (o x) (b x)))) (h number)

broken_falls : (P : List Entry) (t number x : ℕ) → cond (is_of (P ++ Given (Broke t) ∷ []) number x) 1 0 ≤ cond (is_of P number x) 1 0
unfolding is_live has_broken
broken_falls P t number x = rw (was_opened_push P (Given (Broke t)) x refl, list_any-append (breaks x) P (Given (Broke t) ∷ [])) (less (was_opened P x) (list_any (breaks x) P) _ (number_of x == number))
  where
    less : (o b c n : Bool) → cond (o && not (b || c) && n) 1 0 ≤ cond (o && not b && n) 1 0
    less o b c n = grind arith

step : (P : List Entry) (e : Entry) → Legal P → AtMostOne P → Follows P e → AtMostOne (P ++ e ∷ [])
unfolding Follows
step P (Given (Opened t space)) l h f number =
    let Q = P ++ Given (Opened t space) ∷ [] in
    let push = sum_by_push (λ x. cond (is_of Q number x) 1 0) (threads P) t in
    let same = count_agrees (is_of Q number) (is_of P number) (threads P) (λ x at. ap (λ l. l && (number_of x == number)) (live_before P t space x (thread_was_opened P x at))) in
    rw (threads_opened P t space) (go (number_of t == number) refl push same)
  where
    Q : List Entry
    Q = P ++ Given (Opened t space) ∷ []

    one : (a b : Bool) → cond (a && b) 1 0 ≤ 1
    one a b = grind arith

    zero_if : (a b : Bool) → b ≡ false → cond (a && b) 1 0 ≤ 0
    zero_if a b n = grind arith

    go : (b : Bool) → (number_of t == number) ≡ b → sum_by (λ x. cond (is_of Q number x) 1 0) (threads P ++ t ∷ []) ≡ sum_by (λ x. cond (is_of Q number x) 1 0) (threads P) + cond (is_of Q number t) 1 0 → count_by (is_of Q number) (threads P) ≡ count_by (is_of P number) (threads P) → sum_by (λ x. cond (is_of Q number x) 1 0) (threads P ++ t ∷ []) ≤ 1
    go true e push same =
        let number_is : number_of t ≡ number = eqb-true (number_of t) number e in
        let none = count_none (is_of P number) (threads P) (none_live P number (rw number_is at (opened_free P t space f.1))) in
        omega (arith, push, same, none, one (is_live Q t) (number_of t == number))
    go false e push same = omega (arith, push, same, h number, zero_if (is_live Q t) (number_of t == number) e)
step P (Given (Broke t)) l h f number = rw (threads_push P (Given (Broke t)) refl) (le_trans (sum_by-le-sum_by (λ x. cond (is_of (P ++ Given (Broke t) ∷ []) number x) 1 0) (λ x. cond (is_of P number x) 1 0) (threads P) (broken_falls P t number)) (h number))
step P (Given (At moment)) l h f number = same_live P (Given (At moment)) refl (λ t. refl) (λ t. refl) h number
step P (Given (Called n thread call)) l h f number = same_live P (Given (Called n thread call)) refl (λ t. refl) (λ t. refl) h number
step P (Given (Exreg thread target control)) l h f number = same_live P (Given (Exreg thread target control)) refl (λ t. refl) (λ t. refl) h number
step P (Given (Moved n count)) l h f number = same_live P (Given (Moved n count)) refl (λ t. refl) (λ t. refl) h number
step P (Written output) l h f number = same_live P (Written output) refl (λ t. refl) (λ t. refl) h number

start : AtMostOne []
unfolding threads
start number = zero-le

at_most_one : (P : List Entry) → Legal P → AtMostOne P
at_most_one P h = legal_induction AtMostOne start step P h

-- The count

up_to_place : (n k : ℕ) → 1 ≤ n → n ≤ k → Place (up_to k) n
up_to_place n zero a b = absurd (omega arith)
up_to_place n (suc k) a b = go (n == suc k) refl (up_to_place n k a)
  where
    go : (t : Bool) → (n == suc k) ≡ t → (n ≤ k → Place (up_to k) n) → Place (up_to k ++ suc k ∷ []) n
    go true e later = let same : n ≡ suc k = eqb-true n (suc k) e in record { front = up_to k; rest = []; whole = ap (λ x. up_to k ++ x ∷ []) (sym same) }
    go false e later =
        let ne = eqb-false n (suc k) e in
        let at = later (omega arith) in
        record { front = at.front; rest = at.rest ++ suc k ∷ []; whole = ap (λ l. l ++ suc k ∷ []) at.whole ∙ append_assoc at.front (n ∷ at.rest) (suc k ∷ []) }

ones : (f : ℕ → ℕ) (k : ℕ) → ((y : ℕ) → f y ≤ 1) → sum_by f (up_to k) ≤ k
ones f zero h = zero-le
ones f (suc k) h = omega (arith, sum_by_push f (up_to k) (suc k), h (suc k), ones f k h)

module _ (P : List Entry) (h : Legal P) where
  within : (x : ℕ) → Place (threads P) x → (1 ≤ number_of x) × (number_of x ≤ max_thread_number)
  within x at =
      let p = opened_at P x (thread_was_opened P x at) in
      opened_within p.1.front x p.0 (admitted_at P h (Opened x p.0) p.1)

  counted : (k : ℕ) → ((x : ℕ) → Place (threads P) x → (1 ≤ number_of x) × (number_of x ≤ k)) → live_threads P ≤ k
  unfolding live_threads
  counted k numbers =
      let each : (x : ℕ) → Place (threads P) x → cond (is_live P x) 1 0 + 0 ≤ sum_by (λ y. cond (is_of P y x) 1 0) (up_to k) = λ x at. (let n = numbers x at in omega (arith, itself (is_live P x) (number_of x), term_in (λ y. cond (is_of P y x) 1 0) (up_to k) (number_of x) (up_to_place (number_of x) k n.0 n.1))) in
      let less = fewer_in (λ x. cond (is_live P x) 1 0) (λ x. sum_by (λ y. cond (is_of P y x) 1 0) (up_to k)) (λ x. 0) (threads P) each in
      let swap = sum_swap (λ x y. cond (is_of P y x) 1 0) (threads P) (up_to k) in
      let most = ones (λ y. sum_by (λ x. cond (is_of P y x) 1 0) (threads P)) k (at_most_one P h) in
      omega (arith, less, swap, most)
    where
      itself : (b : Bool) (n : ℕ) → cond b 1 0 ≤ cond (b && (n == n)) 1 0
      itself b n = rw (eq-eqb n n refl) (same b)
        where
          same : (b : Bool) → cond b 1 0 ≤ cond (b && true) 1 0
          same b = grind arith

  pub live_bound : live_threads P ≤ max_thread_number
  live_bound = counted max_thread_number within

pub outputs_most : (P : List Entry) (i : Input) (os : List Output) → Legal (P ++ Given i ∷ map Written os) → length os ≤ max_outputs
outputs_most P i os h =
    let legal : Legal (P ++ Given i ∷ []) = legal_front (P ++ Given i ∷ []) (map Written os) (rw (append_assoc P (Given i ∷ []) (map Written os)) h) in
    omega (arith, outputs_bound P i os h, live_bound (P ++ Given i ∷ []) legal)
