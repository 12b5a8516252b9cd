-- What the slots answer of the number of a thread.
use Rattle.std.proofs.lemmas.Bool.{false≢true, false_from_ne_true}
use Rattle.std.proofs.lemmas.Option.{none-some}
use Rattle.std.proofs.Common.{◌≡◌, refl, sym, ap, ◌∙◌, ℕ, ◌==◌, ◌||◌, eqb-true, if◌then◌else◌, Bool, true, false}
use Rattle.std.proofs.Common.{List, [], ◌∷◌, Option, Some, None, filter_map, is_some, option_map}
use Rattle.std.specs.List.{list_any, cons_option}
use Rattle.ipc_words.specs.ThreadId.{number_of}
use Rattle.ipc_history.specs.Entries.{thread_in}
use Rattle.ipc_history.specs.Threads.{is_live, is_taken, next_version}
use Rattle.ipc_history.specs.Legal.{Legal}
use Rattle.ipc_history.specs.declared.entry.Entry.{Entry}
use Rattle.ipc_history.specs.declared.entry.Entry.TheVariants.{Given}
use Rattle.ipc_history.specs.declared.entry.Input.TheVariants.{Opened}
use Rattle.ipc_laws.proofs.Endings.{live_opened}
use Rattle.ipc_laws.proofs.LiveThreads.{taken}
use Rattle.ipc_threads.specs.Slots.{live_at, live_of, slot_of}
use Rattle.ipc_threads.proofs.Holders.{live_of_at, live_of_is}

pub version_is : (P : List Entry) (k : ℕ) → (slot_of P k).version ≡ next_version P k
unfolding slot_of
version_is P k = refl

of_number : (k : ℕ) (p : ℕ → Bool) (P : List Entry) → list_any p (filter_map (thread_in k) P) ≡ true → (t : ℕ) × (number_of t ≡ k) × (p t ≡ true)
of_number k p [] h = absurd (false≢true h)
of_number k p (e ∷ P) h = one e (of_number k p P) h
  where
    one : (e : Entry) → (list_any p (filter_map (thread_in k) P) ≡ true → (t : ℕ) × (number_of t ≡ k) × (p t ≡ true)) → list_any p (cons_option (thread_in k e) (filter_map (thread_in k) P)) ≡ true → (t : ℕ) × (number_of t ≡ k) × (p t ≡ true)
    one (Given (Opened t space)) again g = of (number_of t == k) refl g
      where
        this : number_of t ≡ k → (b : Bool) → p t ≡ b → (b || list_any p (filter_map (thread_in k) P)) ≡ true → (t : ℕ) × (number_of t ≡ k) × (p t ≡ true)
        this same true e h = (t, same, e)
        this same false e h = again h

        of : (b : Bool) → (number_of t == k) ≡ b → list_any p (cons_option (if b then Some t else None) (filter_map (thread_in k) P)) ≡ true → (t : ℕ) × (number_of t ≡ k) × (p t ≡ true)
        of true e h = this (eqb-true (number_of t) k e) (p t) refl h
        of false e h = again h
    one _ again g = again g

live_some : (P : List Entry) (k : ℕ) → is_some (slot_of P k).live ≡ is_some (live_of P k)
unfolding slot_of
live_some P k = go (live_of P k)
  where
    go : (o : Option ℕ) → is_some (option_map (live_at P) o) ≡ is_some o
    go None = refl
    go (Some t) = refl

some_live : (P : List Entry) (k : ℕ) → is_taken P k ≡ true → (t : ℕ) × (number_of t ≡ k) × (is_live P t ≡ true)
unfolding is_taken
some_live P k h = of_number k (is_live P) P h

pub taken_is : (P : List Entry) → Legal P → (k : ℕ) → is_some (slot_of P k).live ≡ is_taken P k
taken_is P legal k = live_some P k ∙ go (live_of P k) refl
  where
    no_live : live_of P k ≡ None → is_taken P k ≡ false
    no_live e = false_from_ne_true (is_taken P k) (λ h. let t = some_live P k h in none-some t.0 (sym e ∙ (ap (live_of P) (sym t.1) ∙ live_of_at P legal t.0 t.2)))

    go : (o : Option ℕ) → live_of P k ≡ o → is_some o ≡ is_taken P k
    go None e = sym (no_live e)
    go (Some t) e = let is = live_of_is P k t e in sym (ap (is_taken P) (sym is.number) ∙ taken P t (live_opened P t is.live) is.live)
