-- What the kept entries say of a kept call is what the history says.
use Rattle.std.proofs.lemmas.Bool.{false≢true, true≢false}
use Rattle.std.proofs.Common.{◌≡◌, refl, sym, ap, ◌∙◌, subst, ℕ, ◌==◌, eqb-true, Bool, true, false, ◌&&◌, ◌||◌, List, [], ◌∷◌, Option, None, unwrap_or, if◌then◌else◌, ◌⊎◌, inl, inr, arith}
use Rattle.std.specs.List.{list_any}
use Rattle.ipc_words.specs.ThreadId.{nilthread}
use Rattle.ipc_history.specs.Words.{last_some, before}
use Rattle.ipc_history.specs.Entries.{moment_in, call_in, calls, names, closes, ends_send, ends, receiver_in, sender_in, turned_in, count_in}
use Rattle.ipc_history.specs.Calls.{call_at, caller_of, to_of, from_of}
use Rattle.ipc_history.specs.Threads.{now}
use Rattle.ipc_history.specs.Phases.{is_sent, receiver_of, sender_of, moved_bytes}
use Rattle.ipc_history.specs.Matching.{before_call, from_specifier}
use Rattle.ipc_history.specs.Timing.{before_sent, receive_start}
use Rattle.ipc_history.specs.declared.entry.Entry.{Entry}
use Rattle.ipc_history.specs.declared.entry.Entry.TheVariants.{Given, Written}
use Rattle.ipc_history.specs.declared.entry.Input.TheVariants.{At, Opened, Called, Exreg, Broke, Moved}
use Rattle.ipc_history.specs.declared.entry.Output.TheVariants.{Began, Turned, Ended, Overflowed, Aborted, Failed}
use Rattle.ipc_compact.specs.Compact.{is_among, names_one, kept_calls, is_at, has_moment, is_kept, kept_list, kept_of}
use Rattle.ipc_compact.proofs.KeepLemmas.{IsKept, IsMarked, first_kept, last_kept, any_kept, sum_kept, moment_kept, before_kept}

-- An entry that does not name a call says nothing of it

pub record Silent (n : ℕ) (e : Entry) : Type 0 where
  pub call : call_in n e ≡ None
  pub closes : closes n e ≡ false
  pub sends : ends_send n e ≡ false
  pub receiver : receiver_in n e ≡ None
  pub sender : sender_in n e ≡ None
  pub turned : turned_in n e ≡ None
  pub bytes : count_in n e ≡ 0

neither_left : (a b : Bool) → (a || b) ≡ false → a ≡ false
neither_left a b h = grind arith

neither_right : (a b : Bool) → (a || b) ≡ false → b ≡ false
neither_right a b h = grind arith

pub silent : (n : ℕ) (e : Entry) → names n e ≡ false → Silent n e
silent n (Given (Called k thread call)) h = record { call = rw h refl; closes = refl; sends = refl; receiver = refl; sender = refl; turned = refl; bytes = refl }
silent n (Given (Moved k count)) h = record { call = refl; closes = refl; sends = refl; receiver = refl; sender = refl; turned = refl; bytes = rw h refl }
silent n (Written (Began k m)) h = record { call = refl; closes = refl; sends = refl; receiver = rw (neither_left (k == n) (m == n) h) refl; sender = rw (neither_right (k == n) (m == n) h) refl; turned = refl; bytes = refl }
silent n (Written (Turned m thread)) h = record { call = refl; closes = refl; sends = refl; receiver = refl; sender = refl; turned = rw h refl; bytes = refl }
silent n (Written (Ended k m)) h = record { call = refl; closes = neither_right _ _ h; sends = neither_left _ _ h; receiver = refl; sender = refl; turned = refl; bytes = refl }
silent n (Written (Overflowed k m offset)) h = record { call = refl; closes = h; sends = refl; receiver = refl; sender = refl; turned = refl; bytes = refl }
silent n (Written (Aborted k m count)) h = record { call = refl; closes = h; sends = refl; receiver = refl; sender = refl; turned = refl; bytes = refl }
silent n (Written (Failed k code)) h = record { call = refl; closes = h; sends = refl; receiver = refl; sender = refl; turned = refl; bytes = refl }
silent n _ h = record { call = refl; closes = refl; sends = refl; receiver = refl; sender = refl; turned = refl; bytes = refl }

pub silent_call : (n : ℕ) (e : Entry) → calls n e ≡ false → call_in n e ≡ None
silent_call n (Given (Called k thread call)) h = rw h refl
silent_call n (Given (At moment)) h = refl
silent_call n (Given (Opened thread space)) h = refl
silent_call n (Given (Exreg thread target control)) h = refl
silent_call n (Given (Broke thread)) h = refl
silent_call n (Given (Moved k count)) h = refl
silent_call n (Written output) h = refl

pub no_at : (n : ℕ) (e : Entry) → names n e ≡ true → is_at e ≡ false
no_at n (Given (At moment)) h = absurd (false≢true h)
no_at n _ h = refl

ends_names : (n m : ℕ) (e : Entry) → names n e ≡ false → ends n m e ≡ false
ends_names n m (Written (Ended k j)) h = rw (neither_left (k == n) (j == n) h) refl
ends_names n m _ h = refl

got_names : (k n : ℕ) (e : Entry) → names n e ≡ false → ends k n e ≡ false
got_names k n (Written (Ended i j)) h = second_false _ _ (neither_right (i == n) (j == n) h)
  where
    second_false : (a b : Bool) → b ≡ false → (a && b) ≡ false
    second_false a b h = grind arith
got_names k n _ h = refl

pub marked_call : (n : ℕ) (e : Entry) → calls n e ≡ true → (names n e ≡ true) × (has_moment e ≡ true)
marked_call n (Given (Called k thread call)) h = (h, refl)
marked_call n _ h = absurd (false≢true h)

marked_end : (n : ℕ) (e : Entry) → ends_send n e ≡ true → (names n e ≡ true) × (has_moment e ≡ true)
marked_end n (Written (Ended k m)) h = (left_true _ _ h, refl)
  where
    left_true : (a b : Bool) → a ≡ true → (a || b) ≡ true
    left_true a b h = grind arith
marked_end n _ h = absurd (false≢true h)

pub among_named : (n : ℕ) (ns : List ℕ) (e : Entry) → is_among n ns ≡ true → names n e ≡ true → names_one ns e ≡ true
among_named n [] e h named = absurd (false≢true h)
among_named n (k ∷ ns) e h named = go (among_named n ns e) (k == n) refl
  where
    right_true : (a b : Bool) → b ≡ true → (a || b) ≡ true
    right_true a b h = grind arith

    left_true : (a b : Bool) → a ≡ true → (a || b) ≡ true
    left_true a b h = grind arith

    go : (is_among n ns ≡ true → names n e ≡ true → names_one ns e ≡ true) → (b : Bool) → (k == n) ≡ b → (names k e || names_one ns e) ≡ true
    go again true is = left_true _ _ (subst (λ m. names m e ≡ true) (sym (eqb-true k n is)) named)
    go again false is = right_true _ _ (again (rw is at h) named)

first_of_three : (a b c : Bool) → a ≡ true → (a || b || c) ≡ true
first_of_three a b c h = grind arith

pub before_all : {X : Type 0} (p : X → Bool) (xs : List X) → list_any p xs ≡ false → before p xs ≡ xs
before_all p [] h = refl
before_all p (x ∷ xs) h = go (before_all p xs) (p x) refl
  where
    go : (list_any p xs ≡ false → before p xs ≡ xs) → (b : Bool) → p x ≡ b → (if b then [] else x ∷ before p xs) ≡ x ∷ xs
    go again true is = absurd (true≢false (sym (rw is refl) ∙ h))
    go again false is = ap (λ l. x ∷ l) (again (rw is at h))

module _ (H : List Entry) (taken : List ℕ) (n : ℕ) (k : is_among n (kept_calls H taken) ≡ true) where
  pub named : (e : Entry) → names n e ≡ true → is_kept H taken e ≡ true
  unfolding is_kept
  named e h = first_of_three _ _ _ (among_named n (kept_calls H taken) e k h)

  reads : {Y : Type 0} (f : Entry → Option Y) → ((e : Entry) → names n e ≡ false → f e ≡ None) → (e : Entry) → IsKept (is_kept H taken) e ⊎ (f e ≡ None)
  reads {Y} f quiet e = go (names n e) refl
    where
      go : (b : Bool) → names n e ≡ b → IsKept (is_kept H taken) e ⊎ (f e ≡ None)
      go true h = inl (no_at n e h, named e h)
      go false h = inr (quiet e h)

  tests : (p : Entry → Bool) → ((e : Entry) → names n e ≡ false → p e ≡ false) → (e : Entry) → IsKept (is_kept H taken) e ⊎ (p e ≡ false)
  tests p quiet e = go (names n e) refl
    where
      go : (b : Bool) → names n e ≡ b → IsKept (is_kept H taken) e ⊎ (p e ≡ false)
      go true h = inl (no_at n e h, named e h)
      go false h = inr (quiet e h)

  sums : (f : Entry → ℕ) → ((e : Entry) → names n e ≡ false → f e ≡ 0) → (e : Entry) → IsKept (is_kept H taken) e ⊎ (f e ≡ 0)
  sums f quiet e = go (names n e) refl
    where
      go : (b : Bool) → names n e ≡ b → IsKept (is_kept H taken) e ⊎ (f e ≡ 0)
      go true h = inl (no_at n e h, named e h)
      go false h = inr (quiet e h)

  pub call_read : call_at (kept_of H taken) n ≡ call_at H n
  unfolding call_at kept_of
  call_read = first_kept (is_kept H taken) (call_in n) (reads (call_in n) (λ e h. (silent n e h).call)) H

  pub receiver_read : receiver_of (kept_of H taken) n ≡ receiver_of H n
  unfolding receiver_of kept_of
  receiver_read = first_kept (is_kept H taken) (receiver_in n) (reads (receiver_in n) (λ e h. (silent n e h).receiver)) H

  pub sender_read : sender_of (kept_of H taken) n ≡ sender_of H n
  unfolding sender_of kept_of
  sender_read = first_kept (is_kept H taken) (sender_in n) (reads (sender_in n) (λ e h. (silent n e h).sender)) H

  pub sent_read : is_sent (kept_of H taken) n ≡ is_sent H n
  unfolding is_sent kept_of
  sent_read = any_kept (is_kept H taken) (ends_send n) (tests (ends_send n) (λ e h. (silent n e h).sends)) H

  pub closed_read : list_any (closes n) (kept_of H taken) ≡ list_any (closes n) H
  unfolding kept_of
  closed_read = any_kept (is_kept H taken) (closes n) (tests (closes n) (λ e h. (silent n e h).closes)) H

  pub ended_read : (m : ℕ) → list_any (ends n m) (kept_of H taken) ≡ list_any (ends n m) H
  unfolding kept_of
  ended_read m = any_kept (is_kept H taken) (ends n m) (tests (ends n m) (λ e h. ends_names n m e h)) H

  pub got_read : (m : ℕ) → list_any (ends m n) (kept_of H taken) ≡ list_any (ends m n) H
  unfolding kept_of
  got_read m = any_kept (is_kept H taken) (ends m n) (tests (ends m n) (λ e h. got_names m n e h)) H

  pub bytes_read : moved_bytes (kept_of H taken) n ≡ moved_bytes H n
  unfolding moved_bytes kept_of
  bytes_read = sum_kept (is_kept H taken) (count_in n) (sums (count_in n) (λ e h. (silent n e h).bytes)) H

  pub to_read : to_of (kept_of H taken) n ≡ to_of H n
  unfolding to_of
  to_read = rw call_read refl

  pub from_read : from_of (kept_of H taken) n ≡ from_of H n
  unfolding from_of
  from_read = rw call_read refl

  pub caller_read : caller_of (kept_of H taken) n ≡ caller_of H n
  unfolding caller_of
  caller_read = rw call_read refl

  turned_read : last_some (turned_in n) (kept_of H taken) ≡ last_some (turned_in n) H
  unfolding kept_of
  turned_read = last_kept (is_kept H taken) (turned_in n) (reads (turned_in n) (λ e h. (silent n e h).turned)) H

  pub wanted_read : from_specifier (kept_of H taken) n ≡ from_specifier H n
  unfolding from_specifier
  wanted_read = rw (turned_read, from_read) refl

  marks_call : IsMarked (is_kept H taken) (calls n)
  marks_call e h = let m = marked_call n e h in ((no_at n e m.0, named e m.0), m.1)

  marks_end : IsMarked (is_kept H taken) (ends_send n)
  marks_end e h = let m = marked_end n e h in ((no_at n e m.0, named e m.0), m.1)

  pub begun_read : list_any (calls n) H ≡ true → now (before_call (kept_of H taken) n) ≡ now (before_call H n)
  unfolding now before_call kept_of
  begun_read c = ap (λ o. unwrap_or o 0) (before_kept (is_kept H taken) (calls n) marks_call H c)

  pub sent_moment : now (before_sent (kept_of H taken) n) ≡ now (before_sent H n)
  unfolding now before_sent kept_of
  sent_moment = go (list_any (ends_send n) H) refl
    where
      same : list_any (ends_send n) (kept_list (is_kept H taken) H) ≡ list_any (ends_send n) H
      same = any_kept (is_kept H taken) (ends_send n) (tests (ends_send n) (λ e h. (silent n e h).sends)) H

      go : (b : Bool) → list_any (ends_send n) H ≡ b → unwrap_or (last_some moment_in (before (ends_send n) (kept_list (is_kept H taken) H))) 0 ≡ unwrap_or (last_some moment_in (before (ends_send n) H)) 0
      go true is = ap (λ o. unwrap_or o 0) (before_kept (is_kept H taken) (ends_send n) marks_end H is)
      go false is = rw (before_all (ends_send n) H is, before_all (ends_send n) (kept_list (is_kept H taken) H) (same ∙ is)) (ap (λ o. unwrap_or o 0) (moment_kept (is_kept H taken) H))

  pub started_read : list_any (calls n) H ≡ true → receive_start (kept_of H taken) n ≡ receive_start H n
  unfolding receive_start
  started_read c = rw to_read (go (to_of H n == nilthread))
    where
      go : (b : Bool) → now (if b then before_call (kept_of H taken) n else before_sent (kept_of H taken) n) ≡ now (if b then before_call H n else before_sent H n)
      go true = begun_read c
      go false = sent_moment

-- and the moment of all
pub now_read : (H : List Entry) (taken : List ℕ) → now (kept_of H taken) ≡ now H
unfolding now kept_of
now_read H taken = ap (λ o. unwrap_or o 0) (moment_kept (is_kept H taken) H)
