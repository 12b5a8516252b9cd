-- Where the same threads live, the same numbers are taken.
use Rattle.std.proofs.lemmas.Bool.{false≢true}
use Rattle.std.proofs.Common.{◌≡◌, refl, sym, ◌∙◌, subst, ℕ, ◌==◌, ◌||◌, eqb-true, if◌then◌else◌, Bool, true, false, List, [], ◌∷◌, Some, None, filter_map}
use Rattle.std.specs.List.{list_any, cons_option}
use Rattle.ipc_words.specs.ThreadId.{number_of}
use Rattle.ipc_history.specs.Entries.{thread_in}
use Rattle.ipc_history.specs.Threads.{is_live, is_taken}
use Rattle.ipc_history.specs.declared.entry.Entry.{Entry}
use Rattle.ipc_history.specs.declared.entry.Entry.TheVariants.{Given}
use Rattle.ipc_history.specs.declared.entry.Input.TheVariants.{Opened}
use Rattle.ipc_laws.proofs.Endings.{live_opened}
use Rattle.ipc_laws.proofs.LiveThreads.{taken}

abbrev HasOf : ℕ → (ℕ → Bool) → Type 0
HasOf k p = (t : ℕ) × (number_of t ≡ k) × (p t ≡ true)

of_number : (k : ℕ) (p : ℕ → Bool) (P : List Entry) → list_any p (filter_map (thread_in k) P) ≡ true → HasOf k p
of_number k p [] h = absurd (false≢true h)
of_number k p (e ∷ P) h = one e (of_number k p P) h
  where
    one : (e : Entry) → (list_any p (filter_map (thread_in k) P) ≡ true → HasOf k p) → list_any p (cons_option (thread_in k e) (filter_map (thread_in k) P)) ≡ true → HasOf k p
    one (Given (Opened t space)) again g = of (number_of t == k) refl g
      where
        this : number_of t ≡ k → (b : Bool) → p t ≡ b → (b || list_any p (filter_map (thread_in k) P)) ≡ true → HasOf k p
        this same true e h = (t, same, e)
        this same false e h = again h

        of : (b : Bool) → (number_of t == k) ≡ b → list_any p (cons_option (if b then Some t else None) (filter_map (thread_in k) P)) ≡ true → HasOf k p
        of true e h = this (eqb-true (number_of t) k e) (p t) refl h
        of false e h = again h
    one _ again g = again g

live_in : (P : List Entry) (k : ℕ) → is_taken P k ≡ true → HasOf k (is_live P)
unfolding is_taken
live_in P k h = of_number k (is_live P) P h

taken_there : (P Q : List Entry) → ((t : ℕ) → is_live P t ≡ is_live Q t) → (k : ℕ) → is_taken P k ≡ true → is_taken Q k ≡ true
taken_there P Q lives k h =
    let t = live_in P k h in
    let l : is_live Q t.0 ≡ true = sym (lives t.0) ∙ t.2 in
    subst (λ k. is_taken Q k ≡ true) t.1 (taken Q t.0 (live_opened Q t.0 l) l)

pub taken_same : (P Q : List Entry) → ((t : ℕ) → is_live P t ≡ is_live Q t) → (k : ℕ) → is_taken P k ≡ is_taken Q k
taken_same P Q lives k = go (is_taken P k) refl (is_taken Q k) refl
  where
    go : (a : Bool) → is_taken P k ≡ a → (b : Bool) → is_taken Q k ≡ b → is_taken P k ≡ is_taken Q k
    go true p b q = p ∙ sym (taken_there P Q lives k p)
    go false p false q = p ∙ sym q
    go false p true q = taken_there Q P (λ t. sym (lives t)) k q ∙ sym q
