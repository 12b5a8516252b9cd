-- How many threads are live after an open and after a break.
use Rattle.std.proofs.lemmas.Bool.{false_from_ne_true}
use Rattle.std.proofs.lemmas.List.Sums.{sum_by-cons, sum_by_push, sum_by-le-sum_by}
use Rattle.std.proofs.Common.{◌≡◌, refl, sym, ℕ, ◌+◌, ◌-◌, ◌≤◌, Bool, true, false, ◌==◌, eq-eqb, eqb-true, cond, List, [], ◌∷◌, ◌++◌, filter_map, sum_by, count_by, arith}
use Rattle.std.specs.List.{cons_option}
use Rattle.ipc_history.specs.Entries.{opened_in, opens}
use Rattle.ipc_history.specs.Threads.{is_live}
use Rattle.ipc_history.specs.Legal.{Legal}
use Rattle.ipc_history.specs.declared.entry.Entry.{Entry}
use Rattle.ipc_history.specs.declared.entry.Entry.TheVariants.{Given, Written}
use Rattle.ipc_history.specs.declared.entry.Input.TheVariants.{At, Opened, Called, Exreg, Broke, Moved}
use Rattle.ipc_laws.specs.Laws.{one_if}
use Rattle.ipc_laws.specs.Counting.{live_threads, threads}
use Rattle.ipc_laws.proofs.OneLive.{opened_once}
use Rattle.ipc_laws.proofs.Sums.{count_agrees, one_at, sum_both}
use Rattle.ipc_laws.proofs.Tests.{not_both}
use Rattle.ipc_laws.proofs.ThreadChanges.{broke_live, is_live_push, live_before, thread_was_opened, threads_opened, threads_push}

pub live_none : live_threads [] ≡ 0
unfolding live_threads threads
live_none = refl

-- An Opened makes its thread live

pub one_more_live : (P : List Entry) (t space : ℕ) → is_live (P ++ Given (Opened t space) ∷ []) t ≡ true → live_threads (P ++ Given (Opened t space) ∷ []) ≡ live_threads P + 1
unfolding live_threads
one_more_live P t space here =
    let live = is_live (P ++ Given (Opened t space) ∷ []) in
    let same = count_agrees live (is_live P) (threads P) (λ x at. live_before P t space x (thread_was_opened P x at)) in
    let push = sum_by_push (λ x. cond (live x) 1 0) (threads P) t in
    let one : one_if (live t) ≡ 1 = rw here refl in
    rw (threads_opened P t space) (omega (arith, same, push, one))

-- A Broke ends one live thread and no other

opened_count : (H : List Entry) (thread : ℕ) → sum_by (one_at thread) (filter_map opened_in H) ≡ count_by (opens thread) H
opened_count [] thread = refl
opened_count (e ∷ H) thread = one e (opened_count H thread)
  where
    one : (e : Entry) → sum_by (one_at thread) (filter_map opened_in H) ≡ count_by (opens thread) H → sum_by (one_at thread) (cons_option (opened_in e) (filter_map opened_in H)) ≡ count_by (opens thread) (e ∷ H)
    one (Given (Opened opened space)) later = omega (arith, later, sum_by-cons (one_at thread) opened (filter_map opened_in H), sum_by-cons (λ e. cond (opens thread e) 1 0) (Given (Opened opened space)) H)
    one (Given (At moment)) later = omega (arith, later, sum_by-cons (λ e. cond (opens thread e) 1 0) (Given (At moment)) H)
    one (Given (Called n caller call)) later = omega (arith, later, sum_by-cons (λ e. cond (opens thread e) 1 0) (Given (Called n caller call)) H)
    one (Given (Exreg caller target control)) later = omega (arith, later, sum_by-cons (λ e. cond (opens thread e) 1 0) (Given (Exreg caller target control)) H)
    one (Given (Broke broken)) later = omega (arith, later, sum_by-cons (λ e. cond (opens thread e) 1 0) (Given (Broke broken)) H)
    one (Given (Moved n count)) later = omega (arith, later, sum_by-cons (λ e. cond (opens thread e) 1 0) (Given (Moved n count)) H)
    one (Written output) later = omega (arith, later, sum_by-cons (λ e. cond (opens thread e) 1 0) (Written output) H)

stands_once : (H : List Entry) → Legal H → (thread : ℕ) → sum_by (one_at thread) (threads H) ≤ 1
unfolding threads
stands_once H legal thread = omega (arith, opened_count H thread, opened_once H legal thread)

module _ (H : List Entry) (thread : ℕ) where
  -- what was live is live, or is the thread
  live_or_thread : (x : ℕ) → cond (is_live H x) 1 0 ≤ cond (is_live (H ++ Given (Broke thread) ∷ []) x) 1 0 + one_at thread x
  live_or_thread x = go (x == thread) refl
    where
      more : (k l : ℕ) → k ≤ k + l
      more k l = omega arith

      at_most_one : (b : Bool) (k : ℕ) → cond b 1 0 ≤ k + 1
      at_most_one b k = grind arith

      go : (b : Bool) → (x == thread) ≡ b → cond (is_live H x) 1 0 ≤ cond (is_live (H ++ Given (Broke thread) ∷ []) x) 1 0 + cond (x == thread) 1 0
      go true same = rw same (at_most_one (is_live H x) _)
      go false other =
          let others : (thread == x) ≡ false = false_from_ne_true _ (λ e. let same : thread ≡ x = eqb-true thread x e in not_both (eq-eqb x thread (sym same)) other) in
          rw (is_live_push H (Given (Broke thread)) x refl others) (more (cond (is_live H x) 1 0) _)

  one_less_at_most : Legal H → live_threads H ≤ live_threads (H ++ Given (Broke thread) ∷ []) + 1
  unfolding live_threads
  one_less_at_most legal =
      let f : ℕ → ℕ = λ x. cond (is_live (H ++ Given (Broke thread) ∷ []) x) 1 0 in
      let most = sum_by-le-sum_by (λ x. cond (is_live H x) 1 0) (λ x. f x + one_at thread x) (threads H) live_or_thread in
      rw (threads_push H (Given (Broke thread)) refl) (omega (arith, most, sum_both f (one_at thread) (threads H), stands_once H legal thread))

pub one_less_live : (P : List Entry) → Legal P → (t : ℕ) → is_live P t ≡ true → live_threads (P ++ Given (Broke t) ∷ []) ≡ live_threads P - 1
one_less_live P legal t live = omega (arith, broke_live P t live, one_less_at_most P t legal)
