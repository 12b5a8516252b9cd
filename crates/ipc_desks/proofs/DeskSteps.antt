-- What one more entry makes of the desks.
use Rattle.std.proofs.Common.{◌≡◌, refl, ℕ, true, false, ◌==◌, eq-eqb, List, [], ◌∷◌, ◌++◌, length, Option, Some, None, option_and_then}
use Rattle.std.specs.Option.{option_map_or}
use Rattle.ipc_words.specs.Limits.{table_slots}
use Rattle.ipc_words.specs.ThreadId.{number_of}
use Rattle.ipc_history.specs.Entries.{breaks, closes, ends_send, number_in}
use Rattle.ipc_history.specs.Calls.{caller_of}
use Rattle.ipc_history.specs.Threads.{has_broken, is_live}
use Rattle.ipc_history.specs.Phases.{is_over}
use Rattle.ipc_history.specs.Legal.{Legal, Follows}
use Rattle.ipc_history.specs.declared.entry.Entry.{Entry}
use Rattle.ipc_laws.proofs.Endings.{live_unbroken}
use Rattle.ipc_laws.proofs.Growth.{is_called_kept, over_kept}
use Rattle.ipc_laws.proofs.OpenCalls.{caller_lives}
use Rattle.ipc_laws.proofs.Places.{any_at}
use Rattle.ipc_laws.proofs.Steps.{call_at_push}
use Rattle.ipc_laws.proofs.Sums.{count_agrees}
use Rattle.ipc_threads.specs.Slots.{live_of}
use Rattle.ipc_threads.proofs.Holders.{live_of_at, live_of_is}
use Rattle.ipc_desks.specs.CallsOf.{is_among, is_busy, last_call, made_by, taken_by}
use Rattle.ipc_desks.specs.Desks.{Keeps, blank_desk, desk_at, desk_of, message_at, thread_desk, told_at}
use Rattle.ipc_desks.specs.declared.desk.Desk.{Desk}
use Rattle.ipc_desks.specs.declared.desk.Told.TheVariants.{Nothing}
use Rattle.ipc_desks.proofs.LastCalls.{last_is, last_kept, made_kept, open_is_last}
use Rattle.ipc_desks.proofs.CallDesks.{message_at_same, told_at_same}

-- a desk for a last call
abbrev pub desk_by : List Entry → List ℕ → Option ℕ → ℕ → ℕ → Desk
desk_by H taken last made taken_by = record {
  message = option_and_then (message_at H) last;
  told = option_map_or (told_at H taken) last Nothing;
  made = made;
  taken = taken_by;
}

-- the calls whose outcome was taken keep their callers
pub taken_by_same : (P Q : List Entry) (taken : List ℕ) (t : ℕ) → ((n : ℕ) → is_among n taken ≡ true → caller_of Q n ≡ caller_of P n) → taken_by Q taken t ≡ taken_by P taken t
unfolding taken_by
taken_by_same P Q taken t same = count_agrees (λ n. caller_of Q n == t) (λ n. caller_of P n == t) taken (λ n at. rw (same n (any_at (λ k. k == n) taken n at (eq-eqb n n refl))) refl)

module _ (P : List Entry) (e : Entry) (legal : Legal P) (follows : Follows P e) (taken : List ℕ) where
  abbrev Q : List Entry
  Q = P ++ e ∷ []

  -- the desk of a live thread whose last call the entry doesn't end
  abbrev pub Leaves : ℕ → Type 0
  Leaves t = (n : ℕ) → last_call P t ≡ Some n → (closes n e ≡ false) × (ends_send n e ≡ false)

  pub thread_desk_same : (t : ℕ) → is_live P t ≡ true → breaks t e ≡ false → last_call Q t ≡ last_call P t → made_by Q t ≡ made_by P t → taken_by Q taken t ≡ taken_by P taken t → Leaves t → thread_desk Q taken t ≡ thread_desk P taken t
  unfolding thread_desk
  thread_desk_same t live lives last made took leaves = rw (last, made, took) (go (last_call P t) refl)
    where
      go : (o : Option ℕ) → last_call P t ≡ o → desk_by Q taken o (made_by P t) (taken_by P taken t) ≡ desk_by P taken o (made_by P t) (taken_by P taken t)
      go None h = refl
      go (Some n) h =
          let is = last_is P legal t n h in
          let l = leaves n h in
          let unbroken : breaks (caller_of P n) e ≡ false = rw is.0 lives in
          let alive : has_broken P (caller_of P n) ≡ false = rw is.0 (live_unbroken P t live) in
          rw (message_at_same P e legal follows n is.1 unbroken l.0 l.1, told_at_same P e legal follows n is.1 unbroken l.0 l.1 alive taken) refl

  module _ (enters : number_in e ≡ None) where
    pub same_caller : (n : ℕ) → caller_of Q n ≡ caller_of P n
    unfolding caller_of
    same_caller n = rw (call_at_push P e enters n) refl

    pub taken_kept : (t : ℕ) → taken_by Q taken t ≡ taken_by P taken t
    taken_kept t = taken_by_same P Q taken t (λ n among. same_caller n)

    -- the desk of a number whose thread stays and whose call it doesn't end
    pub desk_same : (k : ℕ) → live_of Q k ≡ live_of P k → ((t : ℕ) → live_of P k ≡ Some t → (breaks t e ≡ false) × Leaves t) → desk_of Q taken k ≡ desk_of P taken k
    unfolding desk_of
    desk_same k lives stays = rw lives (go (live_of P k) refl)
      where
        go : (o : Option ℕ) → live_of P k ≡ o → option_map_or (thread_desk Q taken) o blank_desk ≡ option_map_or (thread_desk P taken) o blank_desk
        go None h = refl
        go (Some t) h = let s = stays t h in thread_desk_same t (live_of_is P k t h).live s.0 (last_kept P e t enters) (made_kept P e t enters) (taken_kept t) s.1

    -- the desk of the caller of an open call
    pub desk_here : (n : ℕ) → is_over P n ≡ false → live_of Q (number_of (caller_of P n)) ≡ live_of P (number_of (caller_of P n)) → desk_of Q taken (number_of (caller_of P n)) ≡ record (desk_of P taken (number_of (caller_of P n))) { message = message_at Q n; told = told_at Q taken n }
    unfolding desk_of thread_desk
    desk_here n o lives =
        let t = caller_of P n in
        let live = live_of_at P legal t (caller_lives P legal n o) in
        rw (lives, live, last_kept P e t enters, made_kept P e t enters, taken_kept t, open_is_last P legal n o) refl

    -- and so the desks of the longer history are kept
    pub keeps_step : (old new : List Desk) → Keeps P taken old → length new ≡ table_slots → ((k : ℕ) → desk_at new k ≡ desk_of Q taken k) → Keeps Q taken new
    unfolding is_busy
    keeps_step old new keeps size table = record {
      size = size;
      table = table;
      called = λ n among. is_called_kept P (e ∷ []) n (keeps.called n among);
      over = λ n among. over_kept P (e ∷ []) n (keeps.called n among) (keeps.over n among);
      counted = λ t. rw (taken_kept t, made_kept P e t enters, last_kept P e t enters) (keeps.counted t);
    }

-- what an open call's desk has
pub desk_open : (P : List Entry) → Legal P → (taken : List ℕ) (n : ℕ) → is_over P n ≡ false → desk_of P taken (number_of (caller_of P n)) ≡ desk_by P taken (Some n) (made_by P (caller_of P n)) (taken_by P taken (caller_of P n))
unfolding desk_of thread_desk
desk_open P legal taken n o = rw (live_of_at P legal (caller_of P n) (caller_lives P legal n o), open_is_last P legal n o) refl
