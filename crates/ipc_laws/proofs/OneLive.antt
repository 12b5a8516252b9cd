-- Each number has at most one live thread, the last one that was opened of it, and no thread is
-- opened twice.
use Rattle.std.proofs.lemmas.Bool.{false≢true, false_from_ne_true, or_cases}
use Rattle.std.proofs.lemmas.Option.{none-some, same_Some}
use Rattle.std.proofs.Common.{◌≡◌, refl, sym, ap, ◌∙◌, ℕ, ◌+◌, ◌%◌, ◌<◌, ◌≤◌, le_refl, Bool, true, false, not, ◌||◌, ◌&&◌, ◌==◌, eq-eqb, eqb-true, if◌then◌else◌, List, [], ◌∷◌, ◌++◌, Some, None, ◌⊎◌, inl, inr, count_by, arith}
use Rattle.std.specs.List.{list_any}
use Rattle.std.specs.Option.{option_or}
use Rattle.ipc_words.specs.ThreadId.{number_of, version_of}
use Rattle.ipc_words.specs.Version.{next_version_of}
use Rattle.ipc_history.specs.Words.{last_some}
use Rattle.ipc_history.specs.Entries.{opens, breaks, thread_in}
use Rattle.ipc_history.specs.Threads.{has_broken, is_live, next_version, was_opened}
use Rattle.ipc_history.specs.Legal.{Legal, Follows, is_admissible, may_open}
use Rattle.ipc_history.specs.declared.entry.Entry.{Entry}
use Rattle.ipc_history.specs.declared.entry.Entry.TheVariants.{Given, Written}
use Rattle.ipc_history.specs.declared.entry.Input.TheVariants.{At, Opened, Called, Exreg, Broke, Moved}
use Rattle.ipc_laws.proofs.Changing.{changes}
use Rattle.ipc_laws.proofs.Endings.{live_opened}
use Rattle.ipc_laws.proofs.Histories.{admitted_at, legal_induction}
use Rattle.ipc_laws.proofs.LiveThreads.{opened_free, taken}
use Rattle.ipc_laws.proofs.Once.{Once, count_once}
use Rattle.ipc_laws.proofs.Pairing.{legal_before}
use Rattle.ipc_laws.proofs.Tests.{held, left, not_both, right}
use Rattle.ipc_laws.proofs.WordLemmas.{last_some_push}

-- The last one

-- what lives after an entry lived before, or is opened by it
lived : (P : List Entry) (e : Entry) (t : ℕ) → is_live (P ++ e ∷ []) t ≡ true → (is_live P t ≡ true) ⊎ (opens t e ≡ true)
unfolding is_live
lived P e t h = before (was_opened P t) (opens t e) (has_broken P t) (breaks t e) (rw ((changes P e).opened t, (changes P e).broken t) at h)
  where
    before : (o o' b b' : Bool) → ((o || o') && not (b || b')) ≡ true → ((o && not b) ≡ true) ⊎ (o' ≡ true)
    before o true b b' h = inr refl
    before true false false b' h = inl refl
    before true false true b' h = absurd (false≢true h)
    before false false b b' h = absurd (false≢true h)

abbrev IsLast : List Entry → Type 0
IsLast P = (t : ℕ) → is_live P t ≡ true → last_some (thread_in (number_of t)) P ≡ Some t

-- an entry that opens no thread leaves the last ones
last_kept : (P : List Entry) (e : Entry) → ((number : ℕ) → thread_in number e ≡ None) → ((t : ℕ) → opens t e ≡ false) → IsLast P → IsLast (P ++ e ∷ [])
last_kept P e none unopened h t l = last_some_push (thread_in (number_of t)) P e ∙ rw (none (number_of t)) (elim (lived P e t l) [ inl before ↦ h t before | inr now ↦ not_both now (unopened t) ])

step_last : (P : List Entry) (e : Entry) → Legal P → IsLast P → Follows P e → IsLast (P ++ e ∷ [])
unfolding Follows
step_last P (Given (Opened s space)) l h f t live = last_some_push (thread_in (number_of t)) P (Given (Opened s space)) ∙ elim (lived P (Given (Opened s space)) t live) [ inl before ↦ other before | inr now ↦ itself now ]
  where
    itself : (s == t) ≡ true → option_or (thread_in (number_of t) (Given (Opened s space))) (last_some (thread_in (number_of t)) P) ≡ Some t
    itself e = let same : s ≡ t = eqb-true s t e in rw (ap number_of same, eq-eqb (number_of t) (number_of t) refl) (ap (λ n. Some n) same)

    other : is_live P t ≡ true → option_or (thread_in (number_of t) (Given (Opened s space))) (last_some (thread_in (number_of t)) P) ≡ Some t
    other before = go (number_of s == number_of t) refl
      where
        go : (b : Bool) → (number_of s == number_of t) ≡ b → option_or (thread_in (number_of t) (Given (Opened s space))) (last_some (thread_in (number_of t)) P) ≡ Some t
        go true e =
            let same : number_of s ≡ number_of t = eqb-true _ _ e in
            not_both (taken P t (live_opened P t before) before) (rw same at (opened_free P s space f.1))
        go false e = rw e (h t before)
step_last P (Given (Broke thread)) l h f t live = last_kept P (Given (Broke thread)) (λ n. refl) (λ t. refl) h t live
step_last P (Given (At moment)) l h f t live = last_kept P (Given (At moment)) (λ n. refl) (λ t. refl) h t live
step_last P (Given (Called n thread call)) l h f t live = last_kept P (Given (Called n thread call)) (λ n. refl) (λ t. refl) h t live
step_last P (Given (Exreg thread target control)) l h f t live = last_kept P (Given (Exreg thread target control)) (λ n. refl) (λ t. refl) h t live
step_last P (Given (Moved n count)) l h f t live = last_kept P (Given (Moved n count)) (λ n. refl) (λ t. refl) h t live
step_last P (Written output) l h f t live = last_kept P (Written output) (λ n. refl) (λ t. refl) h t live

start_last : IsLast []
unfolding is_live was_opened
start_last t h = absurd (false≢true h)

-- a live thread is the last one that was opened of its number
pub live_is_last : (H : List Entry) → Legal H → (thread : ℕ) → is_live H thread ≡ true → last_some (thread_in (number_of thread)) H ≡ Some thread
live_is_last H h = legal_induction IsLast start_last step_last H h

-- so two live threads of one number are one
pub one_live : (H : List Entry) → Legal H → (thread other : ℕ) → is_live H thread ≡ true → is_live H other ≡ true → number_of thread ≡ number_of other → thread ≡ other
one_live H h thread other a b same = same_Some thread other (sym (live_is_last H h thread a) ∙ (ap (λ number. last_some (thread_in number) H) same ∙ live_is_last H h other b))

-- Versions grow

-- the next version is greater
next_above : (v w : ℕ) → next_version_of v ≡ Some w → v < w
next_above v w h = go (v == 0xffff_ffff) ((v + 1) % 64 == 0) h
  where
    go : (a b : Bool) → (if a then None else (if b then Some (v + 2) else Some (v + 1))) ≡ Some w → v < w
    go true b g = absurd (none-some w g)
    go false true g = let e = same_Some (v + 2) w g in omega (arith, e)
    go false false g = let e = same_Some (v + 1) w g in omega (arith, e)

opened_version : (P : List Entry) (t space : ℕ) → is_admissible P (Opened t space) ≡ true → next_version P (number_of t) ≡ Some (version_of t)
unfolding is_admissible may_open
opened_version P t space h = held _ (version_of t) (right _ _ (left _ _ (left _ _ h)))

-- a thread that may be opened has a greater version than the last one of its number
opened_above : (P : List Entry) (t space u : ℕ) → is_admissible P (Opened t space) ≡ true → last_some (thread_in (number_of t)) P ≡ Some u → version_of u < version_of t
unfolding next_version
opened_above P t space u h e = next_above (version_of u) (version_of t) (rw e at (opened_version P t space h))

-- a thread that was opened has a version up to that of the last one of its number
record IsUpTo (P : List Entry) (t : ℕ) : Type 0 where
  pub top : ℕ
  pub is_top : last_some (thread_in (number_of t)) P ≡ Some top
  pub most : version_of t ≤ version_of top

abbrev AreUpTo : List Entry → Type 0
AreUpTo P = (t : ℕ) → was_opened P t ≡ true → IsUpTo P t

up_to_kept : (P : List Entry) (e : Entry) → ((number : ℕ) → thread_in number e ≡ None) → ((t : ℕ) → opens t e ≡ false) → AreUpTo P → AreUpTo (P ++ e ∷ [])
up_to_kept P e none unopened h t o =
    let old = h t (elim (or_cases _ _ (sym ((changes P e).opened t) ∙ o)) [ inl before ↦ before | inr now ↦ not_both now (unopened t) ]) in
    record { top = old.top; is_top = last_some_push (thread_in (number_of t)) P e ∙ rw (none (number_of t)) old.is_top; most = old.most }

step_up_to : (P : List Entry) (e : Entry) → Legal P → AreUpTo P → Follows P e → AreUpTo (P ++ e ∷ [])
unfolding Follows
step_up_to P (Given (Opened s space)) l h f t o = elim (or_cases _ _ (sym ((changes P (Given (Opened s space))).opened t) ∙ o)) [ inl before ↦ other (h t before) | inr now ↦ itself now ]
  where
    e : Entry
    e = Given (Opened s space)

    itself : (s == t) ≡ true → IsUpTo (P ++ e ∷ []) t
    itself now =
        let same : s ≡ t = eqb-true s t now in
        record { top = s; is_top = last_some_push (thread_in (number_of t)) P e ∙ rw (ap number_of same, eq-eqb (number_of t) (number_of t) refl) refl; most = rw same (le_refl (version_of t)) }

    other : IsUpTo P t → IsUpTo (P ++ e ∷ []) t
    other old = go (number_of s == number_of t) refl
      where
        go : (b : Bool) → (number_of s == number_of t) ≡ b → IsUpTo (P ++ e ∷ []) t
        go true q =
            let same : number_of s ≡ number_of t = eqb-true _ _ q in
            let above = opened_above P s space old.top f.1 (ap (λ number. last_some (thread_in number) P) same ∙ old.is_top) in
            record { top = s; is_top = last_some_push (thread_in (number_of t)) P e ∙ rw q refl; most = omega (arith, above, old.most) }
        go false q = record { top = old.top; is_top = last_some_push (thread_in (number_of t)) P e ∙ rw q old.is_top; most = old.most }
step_up_to P (Given (Broke thread)) l h f t o = up_to_kept P (Given (Broke thread)) (λ n. refl) (λ t. refl) h t o
step_up_to P (Given (At moment)) l h f t o = up_to_kept P (Given (At moment)) (λ n. refl) (λ t. refl) h t o
step_up_to P (Given (Called n thread call)) l h f t o = up_to_kept P (Given (Called n thread call)) (λ n. refl) (λ t. refl) h t o
step_up_to P (Given (Exreg thread target control)) l h f t o = up_to_kept P (Given (Exreg thread target control)) (λ n. refl) (λ t. refl) h t o
step_up_to P (Given (Moved n count)) l h f t o = up_to_kept P (Given (Moved n count)) (λ n. refl) (λ t. refl) h t o
step_up_to P (Written output) l h f t o = up_to_kept P (Written output) (λ n. refl) (λ t. refl) h t o

start_up_to : AreUpTo []
unfolding was_opened
start_up_to t h = absurd (false≢true h)

-- so no thread is opened twice
opens_once : (H : List Entry) → Legal H → (t : ℕ) → Once (opens t) H
unfolding was_opened
opens_once H h t (Given (Opened s space)) at g =
    let same : s ≡ t = eqb-true s t g in
    let before = legal_before H h _ at in
    false_from_ne_true (list_any (opens t) at.front) (λ o.
    let old = legal_induction AreUpTo start_up_to step_up_to at.front before t o in
    let above = opened_above at.front s space old.top (admitted_at H h (Opened s space) at) (ap (λ u. last_some (thread_in (number_of u)) at.front) same ∙ old.is_top) in
    let versions : version_of s ≡ version_of t = ap version_of same in
    omega (arith, above, old.most, versions))
opens_once H h t _ at g = absurd (false≢true g)

pub opened_once : (H : List Entry) → Legal H → (thread : ℕ) → count_by (opens thread) H ≤ 1
opened_once H h thread = count_once (opens thread) H (opens_once H h thread)
