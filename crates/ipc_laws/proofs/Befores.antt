-- What stood before a call, and before the end of its send phase, stays: so does the sender that it
-- shows, and when its receive phase began.
use Rattle.std.proofs.lemmas.Bool.{false≢true}
use Rattle.std.proofs.Common.{◌≡◌, refl, ap, ℕ, Bool, true, false, ◌||◌, ◌==◌, eq-eqb, if◌then◌else◌, List, [], ◌∷◌, ◌++◌}
use Rattle.std.specs.List.{list_any}
use Rattle.ipc_words.specs.ThreadId.{nilthread}
use Rattle.ipc_history.specs.Words.{before}
use Rattle.ipc_history.specs.Entries.{calls, ends_send}
use Rattle.ipc_history.specs.Calls.{is_called, to_of}
use Rattle.ipc_history.specs.Threads.{now}
use Rattle.ipc_history.specs.Phases.{is_sent}
use Rattle.ipc_history.specs.Matching.{before_call, is_propagated, shown_sender}
use Rattle.ipc_history.specs.Timing.{before_sent, receive_start}
use Rattle.ipc_history.specs.declared.entry.Entry.{Entry}
use Rattle.ipc_laws.proofs.Growth.{caller_of_kept, originator_of_kept, tag_of_kept, to_of_kept}
use Rattle.ipc_laws.proofs.Histories.{called_place}
use Rattle.ipc_laws.proofs.Places.{any_at}

-- once an element passes, what stands before the first such element stays
pub before_kept : {X : Type 0} (test : X → Bool) (xs ys : List X) → list_any test xs ≡ true → before test (xs ++ ys) ≡ before test xs
before_kept test [] ys h = absurd (false≢true h)
before_kept test (x ∷ xs) ys h = go (test x) h (before_kept test xs ys)
  where
    go : (b : Bool) → (b || list_any test xs) ≡ true → (list_any test xs ≡ true → before test (xs ++ ys) ≡ before test xs) → (if b then [] else x ∷ before test (xs ++ ys)) ≡ (if b then [] else x ∷ before test xs)
    go true g later = refl
    go false g later = ap (λ l. x ∷ l) (later g)

-- a call that is there was entered
pub called_any : (P : List Entry) (n : ℕ) → is_called P n ≡ true → list_any (calls n) P ≡ true
called_any P n c = let made = called_place P n c in any_at (calls n) P _ made.at (eq-eqb n n refl)

-- of a function of one of two lists, where the first is the same, and the second one is where it is
-- taken
chosen : (t s : Bool) (f : List Entry → ℕ) (a b c d : List Entry) → b ≡ a → (s ≡ true → d ≡ c) → (t || s) ≡ true → f (if t then b else d) ≡ f (if t then a else c)
chosen true s f a b c d p q h = ap f p
chosen false s f a b c d p q h = ap f (q h)

module _ (P Q : List Entry) (n : ℕ) (c : is_called P n ≡ true) where
  -- what stood before the call
  pub before_call_kept : before_call (P ++ Q) n ≡ before_call P n
  unfolding before_call
  before_call_kept = before_kept (calls n) P Q (called_any P n c)

  -- whether it may show another sender
  pub propagated_kept : is_propagated (P ++ Q) n ≡ is_propagated P n
  unfolding is_propagated
  propagated_kept = rw (before_call_kept, tag_of_kept P Q n c, originator_of_kept P Q n c, caller_of_kept P Q n c) refl

  -- the sender that it shows
  pub shown_kept : shown_sender (P ++ Q) n ≡ shown_sender P n
  unfolding shown_sender
  shown_kept = rw (propagated_kept, originator_of_kept P Q n c, caller_of_kept P Q n c) refl

  -- when its receive phase began, where it has begun
  pub receive_start_kept : ((to_of P n == nilthread) || is_sent P n) ≡ true → receive_start (P ++ Q) n ≡ receive_start P n
  unfolding receive_start before_sent is_sent
  receive_start_kept h = rw (to_of_kept P Q n c) (chosen (to_of P n == nilthread) (is_sent P n) now _ _ _ _ before_call_kept (λ s. before_kept (ends_send n) P Q s) h)
