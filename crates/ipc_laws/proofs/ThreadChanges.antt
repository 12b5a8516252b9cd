-- What one more entry does to the threads and to how many of them live.
use Rattle.std.proofs.lemmas.List.Folds.{list_any-append}
use Rattle.std.proofs.lemmas.List.Elements.{filter_map-append}
use Rattle.std.proofs.lemmas.List.Sums.{sum_by_push}
use Rattle.std.proofs.Common.{◌≡◌, refl, sym, ap, ◌∙◌, ℕ, ◌+◌, ◌≤◌, zero-le, Bool, true, false, not, ◌||◌, ◌&&◌, ◌==◌, eq-eqb, cond, List, [], ◌∷◌, ◌++◌, append-nil, None, filter_map, arith}
use Rattle.std.specs.List.{list_any, cons_option}
use Rattle.ipc_history.specs.Entries.{opened_in, opens, breaks}
use Rattle.ipc_history.specs.Threads.{has_broken, was_opened, is_live}
use Rattle.ipc_laws.specs.Counting.{threads, live_threads}
use Rattle.ipc_history.specs.declared.entry.Entry.{Entry}
use Rattle.ipc_history.specs.declared.entry.Entry.TheVariants.{Given}
use Rattle.ipc_history.specs.declared.entry.Input.TheVariants.{Opened, Broke}
use Rattle.ipc_laws.proofs.Endings.{broken_at, live_opened}
use Rattle.ipc_laws.proofs.Growth.{any_kept}
use Rattle.ipc_laws.proofs.OpenCalls.{thread_place}
use Rattle.ipc_laws.proofs.Places.{Place, any_at}
use Rattle.ipc_laws.proofs.Sums.{count_agrees, falls_at, fewer, one_at, one_in}

pub or_false : (a : Bool) → (a || false) ≡ a
or_false true = refl
or_false false = refl

-- Threads

pub threads_push : (P : List Entry) (e : Entry) → opened_in e ≡ None → threads (P ++ e ∷ []) ≡ threads P
unfolding threads
threads_push P e none = filter_map-append opened_in P (e ∷ []) ∙ (ap (λ l. filter_map opened_in P ++ l) (rw none refl) ∙ append-nil _)

pub has_broken_push : (P : List Entry) (e : Entry) (t : ℕ) → breaks t e ≡ false → has_broken (P ++ e ∷ []) t ≡ has_broken P t
unfolding has_broken
has_broken_push P e t b = list_any-append (breaks t) P (e ∷ []) ∙ (ap (λ x. list_any (breaks t) P || (x || false)) b ∙ or_false _)

pub was_opened_push : (P : List Entry) (e : Entry) (t : ℕ) → opens t e ≡ false → was_opened (P ++ e ∷ []) t ≡ was_opened P t
unfolding was_opened
was_opened_push P e t b = list_any-append (opens t) P (e ∷ []) ∙ (ap (λ x. list_any (opens t) P || (x || false)) b ∙ or_false _)

pub is_live_push : (P : List Entry) (e : Entry) (t : ℕ) → opens t e ≡ false → breaks t e ≡ false → is_live (P ++ e ∷ []) t ≡ is_live P t
unfolding is_live
is_live_push P e t o b = rw (was_opened_push P e t o, has_broken_push P e t b) refl

pub live_threads_push : (P : List Entry) (e : Entry) → opened_in e ≡ None → ((t : ℕ) → opens t e ≡ false) → ((t : ℕ) → breaks t e ≡ false) → live_threads (P ++ e ∷ []) ≡ live_threads P
unfolding live_threads
live_threads_push P e none o b = rw (threads_push P e none) (count_agrees (is_live (P ++ e ∷ [])) (is_live P) (threads P) (λ t at. is_live_push P e t (o t) (b t)))

-- an Opened makes at most one thread live, since one that was opened before stays what it was

any_opened : (P : List Entry) (x : ℕ) → list_any (λ y. y == x) (filter_map opened_in P) ≡ list_any (opens x) P
any_opened [] x = refl
any_opened (e ∷ P) x = one e (filter_map opened_in P) ∙ ap (λ b. opens x e || b) (any_opened P x)
  where
    one : (e : Entry) (l : List ℕ) → list_any (λ y. y == x) (cons_option (opened_in e) l) ≡ (opens x e || list_any (λ y. y == x) l)
    one (Given (Opened thread space)) l = refl
    one _ l = refl

pub thread_was_opened : (P : List Entry) (x : ℕ) → Place (threads P) x → was_opened P x ≡ true
unfolding threads was_opened
thread_was_opened P x at = sym (any_opened P x) ∙ any_at (λ y. y == x) (filter_map opened_in P) x at (eq-eqb x x refl)

module _ (P : List Entry) (t space : ℕ) where
  pub threads_opened : threads (P ++ Given (Opened t space) ∷ []) ≡ threads P ++ t ∷ []
  unfolding threads
  threads_opened = filter_map-append opened_in P (Given (Opened t space) ∷ [])

  pub live_before : (x : ℕ) → was_opened P x ≡ true → is_live (P ++ Given (Opened t space) ∷ []) x ≡ is_live P x
  unfolding is_live was_opened
  live_before x o = rw (has_broken_push P (Given (Opened t space)) x refl, any_kept (opens x) P (Given (Opened t space) ∷ []) o, o) refl

  pub opened_live : live_threads (P ++ Given (Opened t space) ∷ []) ≤ live_threads P + 1
  unfolding live_threads
  opened_live =
      let live = is_live (P ++ Given (Opened t space) ∷ []) in
      let same = count_agrees live (is_live P) (threads P) (λ x at. live_before x (thread_was_opened P x at)) in
      let push = sum_by_push (λ x. cond (live x) 1 0) (threads P) t in
      rw threads_opened (omega (arith, same, push, at_most_one (live t)))
    where
      at_most_one : (b : Bool) → cond b 1 0 ≤ 1
      at_most_one true = omega arith
      at_most_one false = zero-le

-- a Broke ends a live one

module _ (P : List Entry) (t : ℕ) (alive : is_live P t ≡ true) where
  less_live : (o b c : Bool) → cond (o && not (b || c)) 1 0 ≤ cond (o && not b) 1 0
  less_live false b c = zero-le
  less_live true true c = zero-le
  less_live true false true = zero-le
  less_live true false false = omega arith

  broke_falls : (x : ℕ) → cond (is_live (P ++ Given (Broke t) ∷ []) x) 1 0 ≤ cond (is_live P x) 1 0
  unfolding is_live has_broken
  broke_falls x = rw (was_opened_push P (Given (Broke t)) x refl, list_any-append (breaks x) P (Given (Broke t) ∷ [])) (less_live (was_opened P x) (list_any (breaks x) P) _)

  dead : is_live (P ++ Given (Broke t) ∷ []) t ≡ false
  unfolding is_live
  dead = rw (broken_at P [] t) (never (was_opened (P ++ Given (Broke t) ∷ []) t))
    where
      never : (o : Bool) → (o && not true) ≡ false
      never true = refl
      never false = refl

  pub broke_live : live_threads (P ++ Given (Broke t) ∷ []) + 1 ≤ live_threads P
  unfolding live_threads
  broke_live =
      let f : ℕ → ℕ = λ x. cond (is_live (P ++ Given (Broke t) ∷ []) x) 1 0 in
      let g : ℕ → ℕ = λ x. cond (is_live P x) 1 0 in
      let there : f t + 1 ≤ g t = rw (dead, alive) (omega arith) in
      let less = fewer f g (one_at t) (threads P) (λ x. falls_at f g t x (broke_falls x) there) in
      rw (threads_push P (Given (Broke t)) refl) (omega (arith, less, one_in t (threads P) (thread_place P t (live_opened P t alive))))
