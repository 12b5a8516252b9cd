-- An entry, or a list of them, that doesn't name a call says nothing of it.
use Rattle.std.proofs.Common.{◌≡◌, refl, Bool, ◌&&◌, arith, zero-add, ℕ, ◌==◌, false, List, [], ◌∷◌, ◌++◌, None, sum_by, ◌∙◌}
use Rattle.std.specs.List.{list_any}
use Rattle.std.proofs.lemmas.List.Sums.{sum_by-cons}
use Rattle.ipc_history.specs.Words.{first_some, last_some, before}
use Rattle.ipc_history.specs.Entries.{names, calls, call_in, ends_send, ends, receiver_in, sender_in, turned_in, count_in}
use Rattle.ipc_history.specs.declared.entry.Entry.{Entry}
use Rattle.ipc_history.specs.declared.entry.Entry.TheVariants.{Given, Written}
use Rattle.ipc_history.specs.declared.entry.Input.TheVariants.{Called, Moved}
use Rattle.ipc_history.specs.declared.entry.Output.TheVariants.{Began, Turned, Ended}
use Rattle.ipc_laws.proofs.Tests.{neither_left, neither_right}
use Rattle.ipc_laws.proofs.WordLemmas.{option_or_none}

and_left : (a b : Bool) → a ≡ false → (a && b) ≡ false
and_left a b h = grind arith

and_right : (a b : Bool) → b ≡ false → (a && b) ≡ false
and_right a b h = grind arith

pub record Silent (x : ℕ) (e : Entry) : Type 0 where
  pub calls : calls x e ≡ false
  pub call : call_in x e ≡ None
  pub sends : ends_send x e ≡ false
  pub receiver : receiver_in x e ≡ None
  pub sender : sender_in x e ≡ None
  pub turned : turned_in x e ≡ None
  pub bytes : count_in x e ≡ 0
  pub pair : (m : ℕ) → ends x m e ≡ false
  pub pair_to : (k : ℕ) → ends k x e ≡ false

silent : (x : ℕ) (e : Entry) → names x e ≡ false → Silent x e
silent x (Given (Called k thread call)) h = record { calls = h; call = rw h refl; sends = refl; receiver = refl; sender = refl; turned = refl; bytes = refl; pair = λ m. refl; pair_to = λ k. refl }
silent x (Given (Moved k count)) h = record { calls = refl; call = refl; sends = refl; receiver = refl; sender = refl; turned = refl; bytes = rw h refl; pair = λ m. refl; pair_to = λ k. refl }
silent x (Written (Began k m)) h = record { calls = refl; call = refl; sends = refl; receiver = rw (neither_left (k == x) (m == x) h) refl; sender = rw (neither_right (k == x) (m == x) h) refl; turned = refl; bytes = refl; pair = λ m. refl; pair_to = λ k. refl }
silent x (Written (Turned m thread)) h = record { calls = refl; call = refl; sends = refl; receiver = refl; sender = refl; turned = rw h refl; bytes = refl; pair = λ m. refl; pair_to = λ k. refl }
silent x (Written (Ended k m)) h = record { calls = refl; call = refl; sends = neither_left _ _ h; receiver = refl; sender = refl; turned = refl; bytes = refl; pair = λ j. and_left (k == x) (m == j) (neither_left (k == x) (m == x) h); pair_to = λ j. and_right (k == j) (m == x) (neither_right (k == x) (m == x) h) }
silent x _ h = record { calls = refl; call = refl; sends = refl; receiver = refl; sender = refl; turned = refl; bytes = refl; pair = λ m. refl; pair_to = λ k. refl }

-- a list in front, none of whose entries names x
pub record Before (x : ℕ) (Q R : List Entry) : Type 0 where
  pub calls : before (calls x) (Q ++ R) ≡ Q ++ before (calls x) R
  pub sent : before (ends_send x) (Q ++ R) ≡ Q ++ before (ends_send x) R
  pub call : first_some (call_in x) (Q ++ R) ≡ first_some (call_in x) R
  pub sends : list_any (ends_send x) (Q ++ R) ≡ list_any (ends_send x) R
  pub receiver : first_some (receiver_in x) (Q ++ R) ≡ first_some (receiver_in x) R
  pub sender : first_some (sender_in x) (Q ++ R) ≡ first_some (sender_in x) R
  pub turned : last_some (turned_in x) (Q ++ R) ≡ last_some (turned_in x) R
  pub bytes : sum_by (count_in x) (Q ++ R) ≡ sum_by (count_in x) R
  pub pair : (m : ℕ) → list_any (ends x m) (Q ++ R) ≡ list_any (ends x m) R
  pub pair_to : (k : ℕ) → list_any (ends k x) (Q ++ R) ≡ list_any (ends k x) R

pub unnamed_front : (x : ℕ) (Q R : List Entry) → list_any (names x) Q ≡ false → Before x Q R
unnamed_front x [] R h = record { calls = refl; sent = refl; call = refl; sends = refl; receiver = refl; sender = refl; turned = refl; bytes = refl; pair = λ m. refl; pair_to = λ k. refl }
unnamed_front x (e ∷ Q) R h =
    let s = silent x e (neither_left _ _ h) in
    let r = unnamed_front x Q R (neither_right _ _ h) in
    record {
      calls = rw (s.calls, r.calls) refl;
      sent = rw (s.sends, r.sent) refl;
      call = rw (s.call, r.call) refl;
      sends = rw (s.sends, r.sends) refl;
      receiver = rw (s.receiver, r.receiver) refl;
      sender = rw (s.sender, r.sender) refl;
      turned = rw (s.turned, r.turned, option_or_none (last_some (turned_in x) R)) refl;
      pair = λ m. rw (s.pair m, r.pair m) refl;
      pair_to = λ k. rw (s.pair_to k, r.pair_to k) refl;
      bytes = sum_by-cons (count_in x) e (Q ++ R) ∙ rw (s.bytes, zero-add) r.bytes;
    }
