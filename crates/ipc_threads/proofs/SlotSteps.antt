-- What one more entry makes of the slot of a number, where it opens and breaks no thread and enters
-- no call.
use Rattle.std.proofs.Common.{◌≡◌, refl, ap, ◌∙◌, ℕ, false, List, [], ◌∷◌, ◌++◌, Option, Some, None, option_map, option_and_then, if◌then◌else◌}
use Rattle.ipc_history.specs.Words.{first_some, last_some}
use Rattle.ipc_history.specs.Entries.{number_in, thread_in, opens, breaks, space_in}
use Rattle.ipc_history.specs.Threads.{now, is_live, space_of, next_version}
use Rattle.ipc_history.specs.Legal.{Legal, Follows}
use Rattle.ipc_history.specs.declared.entry.Entry.{Entry}
use Rattle.ipc_history.specs.declared.entry.Entry.TheVariants.{Given, Written}
use Rattle.ipc_history.specs.declared.entry.Input.TheVariants.{At, Exreg, Moved}
use Rattle.ipc_history.specs.declared.entry.Output.{Output}
use Rattle.ipc_laws.proofs.ThreadChanges.{is_live_push}
use Rattle.ipc_laws.proofs.WordLemmas.{first_some_push, last_some_push, option_or_none}
use Rattle.ipc_threads.specs.Slots.{slot_of, live_of, live_at}
use Rattle.ipc_threads.specs.Steps.{call_after, with_call, live_with}
use Rattle.ipc_threads.proofs.StandingSteps.{IsSender, call_step}

pub record IsPlain (e : Entry) : Type 0 where
  pub enters : number_in e ≡ None
  pub threads : (k : ℕ) → thread_in k e ≡ None
  pub opens : (t : ℕ) → opens t e ≡ false
  pub breaks : (t : ℕ) → breaks t e ≡ false
  pub spaces : (t : ℕ) → space_in t e ≡ None

pub plain_written : (output : Output) → IsPlain (Written output)
plain_written output = record { enters = refl; threads = λ k. refl; opens = λ t. refl; breaks = λ t. refl; spaces = λ t. refl }

pub plain_at : (moment : ℕ) → IsPlain (Given (At moment))
plain_at moment = record { enters = refl; threads = λ k. refl; opens = λ t. refl; breaks = λ t. refl; spaces = λ t. refl }

pub plain_exreg : (thread target control : ℕ) → IsPlain (Given (Exreg thread target control))
plain_exreg thread target control = record { enters = refl; threads = λ k. refl; opens = λ t. refl; breaks = λ t. refl; spaces = λ t. refl }

pub plain_moved : (n count : ℕ) → IsPlain (Given (Moved n count))
plain_moved n count = record { enters = refl; threads = λ k. refl; opens = λ t. refl; breaks = λ t. refl; spaces = λ t. refl }

-- the threads
module _ (P : List Entry) (e : Entry) where
  pub last_kept : (k : ℕ) → thread_in k e ≡ None → last_some (thread_in k) (P ++ e ∷ []) ≡ last_some (thread_in k) P
  last_kept k none = last_some_push (thread_in k) P e ∙ rw none refl

  pub version_kept : (k : ℕ) → thread_in k e ≡ None → next_version (P ++ e ∷ []) k ≡ next_version P k
  unfolding next_version
  version_kept k none = rw (last_kept k none) refl

  pub space_kept : (t : ℕ) → space_in t e ≡ None → space_of (P ++ e ∷ []) t ≡ space_of P t
  unfolding space_of
  space_kept t none = rw (first_some_push (space_in t) P e, none, option_or_none (first_some (space_in t) P)) refl

  pub live_kept : (k : ℕ) → thread_in k e ≡ None → ((t : ℕ) → last_some (thread_in k) P ≡ Some t → is_live (P ++ e ∷ []) t ≡ is_live P t) → live_of (P ++ e ∷ []) k ≡ live_of P k
  unfolding live_of
  live_kept k none same = rw (last_kept k none) (go (last_some (thread_in k) P) refl)
    where
      go : (o : Option ℕ) → last_some (thread_in k) P ≡ o → option_and_then (λ t. if is_live (P ++ e ∷ []) t then Some t else None) o ≡ option_and_then (λ t. if is_live P t then Some t else None) o
      go None h = refl
      go (Some t) h = rw (same t h) refl

module _ (P : List Entry) (e : Entry) (legal : Legal P) (follows : Follows P e) (plain : IsPlain e) (caller moved : ℕ) (from : IsSender P e legal follows caller moved) where
  live_step : (t : ℕ) → live_at (P ++ e ∷ []) t ≡ live_with (call_after e (now P) caller moved) (live_at P t)
  unfolding live_at
  live_step t = rw (space_kept P e t (plain.spaces t), call_step P e legal follows plain.enters caller moved from t (plain.breaks t)) refl

  pub slot_step : (k : ℕ) → slot_of (P ++ e ∷ []) k ≡ with_call (call_after e (now P) caller moved) (slot_of P k)
  unfolding slot_of
  slot_step k = rw (version_kept P e k (plain.threads k), live_kept P e k (plain.threads k) (λ t h. is_live_push P e t (plain.opens t) (plain.breaks t))) (ap (λ l. record { version = next_version P k; live = l }) (go (live_of P k)))
    where
      go : (o : Option ℕ) → option_map (live_at (P ++ e ∷ [])) o ≡ option_map (live_with (call_after e (now P) caller moved)) (option_map (live_at P) o)
      go None = refl
      go (Some t) = ap (λ l. Some l) (live_step t)
