-- After the At of a later moment the same inputs are admissible, but for those of the clock.
use Rattle.std.proofs.lemmas.List.Folds.{list_any-append}
use Rattle.std.proofs.lemmas.List.Elements.{filter_map-append}
use Rattle.std.proofs.Common.{◌≡◌, refl, ap, ap₂, ◌∙◌, ℕ, Bool, false, not, ◌||◌, ◌&&◌, ◌==◌, List, [], ◌∷◌, ◌++◌, append-nil, add-zero, length, filter_map, Option, Some, None, find}
use Rattle.std.specs.List.{list_any}
use Rattle.std.specs.Option.{option_map_or}
use Rattle.ipc_words.specs.ThreadId.{number_of}
use Rattle.ipc_history.specs.Entries.{thread_in, opens, breaks, receiver_in, ends, ends_send, closes}
use Rattle.ipc_history.specs.Calls.{numbers, calls_made, call_at, caller_of, to_of, from_of, strings_of, message_size}
use Rattle.ipc_history.specs.Threads.{has_broken, was_opened, is_live, is_taken, next_version}
use Rattle.ipc_history.specs.Phases.{is_over, is_sent, open_call, is_transferring, moved_bytes, receiver_of}
use Rattle.ipc_history.specs.Legal.{is_free, next_moving, may_open, may_move, is_admissible}
use Rattle.ipc_history.specs.declared.entry.Entry.{Entry}
use Rattle.ipc_history.specs.declared.entry.Entry.TheVariants.{Given}
use Rattle.ipc_history.specs.declared.entry.Input.{Input}
use Rattle.ipc_history.specs.declared.entry.Input.TheVariants.{At, Opened, Called, Exreg, Broke, Moved}
use Rattle.ipc_laws.proofs.Changing.{changes}
use Rattle.ipc_laws.proofs.Numbering.{numbers_push}
use Rattle.ipc_laws.proofs.Steps.{call_at_push}
use Rattle.ipc_laws.proofs.Tests.{not_both}
use Rattle.ipc_laws.proofs.WordLemmas.{first_some_push, last_some_push, option_or_none}
use Rattle.ipc_core.specs.CommandRoom.{is_clock}
use Rattle.ipc_laws.proofs.IdleOutputs.{find_agrees}
use Rattle.ipc_core.proofs.NewCalls.{no_more}

any_agrees : {X : Type 0} (p q : X → Bool) (xs : List X) → ((x : X) → p x ≡ q x) → list_any p xs ≡ list_any q xs
any_agrees p q [] h = refl
any_agrees p q (x ∷ xs) h = ap₂ (λ a b. a || b) (h x) (any_agrees p q xs h)

map_or_agrees : {X : Type 0} (f g : X → Bool) (o : Option X) → ((x : X) → f x ≡ g x) → option_map_or f o false ≡ option_map_or g o false
map_or_agrees f g None h = refl
map_or_agrees f g (Some x) h = h x

module _ (H : List Entry) (moment : ℕ) where
  -- the history and the At
  abbrev pub after_at : List Entry
  after_at = H ++ Given (At moment) ∷ []

  same_call : (n : ℕ) → call_at after_at n ≡ call_at H n
  same_call n = call_at_push H (Given (At moment)) refl n

  same_caller : (n : ℕ) → caller_of after_at n ≡ caller_of H n
  unfolding caller_of
  same_caller n = rw (same_call n) refl

  same_to : (n : ℕ) → to_of after_at n ≡ to_of H n
  unfolding to_of
  same_to n = rw (same_call n) refl

  same_from : (n : ℕ) → from_of after_at n ≡ from_of H n
  unfolding from_of
  same_from n = rw (same_call n) refl

  same_size : (n : ℕ) → message_size after_at n ≡ message_size H n
  unfolding message_size strings_of
  same_size n = rw (same_call n) refl

  same_any : (p : Entry → Bool) → p (Given (At moment)) ≡ false → list_any p after_at ≡ list_any p H
  same_any p none = list_any-append p H (Given (At moment) ∷ []) ∙ (ap (λ b. list_any p H || (b || false)) none ∙ no_more (list_any p H))

  same_broken : (t : ℕ) → has_broken after_at t ≡ has_broken H t
  unfolding has_broken
  same_broken t = same_any (breaks t) refl

  pub same_live : (t : ℕ) → is_live after_at t ≡ is_live H t
  unfolding is_live was_opened
  same_live t = rw (same_any (opens t) refl, same_broken t) refl

  same_sent : (n : ℕ) → is_sent after_at n ≡ is_sent H n
  unfolding is_sent
  same_sent n = same_any (ends_send n) refl

  same_receiver : (n : ℕ) → receiver_of after_at n ≡ receiver_of H n
  unfolding receiver_of
  same_receiver n = first_some_push (receiver_in n) H (Given (At moment)) ∙ option_or_none _

  same_moved : (n : ℕ) → moved_bytes after_at n ≡ moved_bytes H n
  same_moved n = (changes H (Given (At moment))).bytes n ∙ add-zero (moved_bytes H n)

  pub same_over : (n : ℕ) → is_over after_at n ≡ is_over H n
  unfolding is_over
  same_over n = rw (same_any (closes n) refl, same_caller n, same_broken (caller_of H n), same_from n, same_sent n, same_to n) refl

  same_transferring : (n m : ℕ) → is_transferring after_at n m ≡ is_transferring H n m
  unfolding is_transferring
  same_transferring n m = rw (same_receiver n, same_any (ends n m) refl, same_over n, same_over m) refl

  pub same_numbers : numbers after_at ≡ numbers H
  same_numbers = numbers_push H (Given (At moment)) refl

  same_calls_made : calls_made after_at ≡ calls_made H
  unfolding calls_made
  same_calls_made = ap length same_numbers

  same_open_call : (thread : ℕ) → open_call after_at thread ≡ open_call H thread
  unfolding open_call
  same_open_call thread = ap (find (λ n. (caller_of after_at n == thread) && not (is_over after_at n))) same_numbers ∙ find_agrees _ _ (numbers H) (λ n. ap₂ (λ c o. (c == thread) && not o) (same_caller n) (same_over n))

  same_free : (thread : ℕ) → is_free after_at thread ≡ is_free H thread
  unfolding is_free
  same_free thread = rw (same_live thread, same_open_call thread) refl

  same_of_number : (number : ℕ) → filter_map (thread_in number) after_at ≡ filter_map (thread_in number) H
  same_of_number number = filter_map-append (thread_in number) H (Given (At moment) ∷ []) ∙ append-nil (filter_map (thread_in number) H)

  same_taken : (number : ℕ) → is_taken after_at number ≡ is_taken H number
  unfolding is_taken
  same_taken number = ap (list_any (is_live after_at)) (same_of_number number) ∙ any_agrees (is_live after_at) (is_live H) (filter_map (thread_in number) H) (same_live)

  same_next_version : (number : ℕ) → next_version after_at number ≡ next_version H number
  unfolding next_version
  same_next_version number = rw (last_some_push (thread_in number) H (Given (At moment))) refl

  same_next_moving : next_moving after_at ≡ next_moving H
  unfolding next_moving
  same_next_moving = ap (find (λ n. option_map_or (is_transferring after_at n) (receiver_of after_at n) false)) same_numbers ∙ find_agrees _ _ (numbers H) (λ n. ap (λ o. option_map_or (is_transferring after_at n) o false) (same_receiver n) ∙ map_or_agrees (is_transferring after_at n) (is_transferring H n) (receiver_of H n) (same_transferring n))

  pub same_admissible : (input : Input) → is_clock input ≡ false → is_admissible after_at input ≡ is_admissible H input
  unfolding is_admissible may_open may_move
  same_admissible (At later) no_clock = not_both refl no_clock
  same_admissible (Opened thread space) no_clock = rw (same_taken (number_of thread), same_next_version (number_of thread)) refl
  same_admissible (Called n thread call) no_clock = rw (same_free thread, same_calls_made) refl
  same_admissible (Exreg thread target control) no_clock = rw (same_free thread) refl
  same_admissible (Broke thread) no_clock = same_live thread
  same_admissible (Moved n count) no_clock = rw (same_next_moving, same_size n, same_moved n) refl
