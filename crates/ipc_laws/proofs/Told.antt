-- What the entries of a history tell of a call, and what a received tag says.
use Rattle.std.proofs.lemmas.Option.{none-some, cond_some}
use Rattle.std.proofs.Common.{◌≡◌, refl, ℕ, ◌*◌, ◌≤◌, Bool, true, false, ◌||◌, ◌==◌, if◌then◌else◌, List, Option, Some, None, arith}
use Rattle.std.specs.List.{list_any}
use Rattle.ipc_history.specs.Words.{first_some}
use Rattle.ipc_history.specs.Entries.{closes}
use Rattle.ipc_history.specs.Calls.{caller_of}
use Rattle.ipc_history.specs.Threads.{has_broken}
use Rattle.ipc_history.specs.Phases.{is_over}
use Rattle.ipc_words.specs.MsgTag.{label_of, untyped_of}
use Rattle.ipc_words.specs.TagFields.{received_tag}
use Rattle.ipc_history.specs.Outcomes.{OutcomeParts, end_moment, outcome_in, received, failure, outcome_of, timed}
use Rattle.ipc_history.specs.declared.entry.Entry.{Entry}
use Rattle.ipc_history.specs.declared.entry.Entry.TheVariants.{Written}
use Rattle.ipc_history.specs.declared.entry.Output.TheVariants.{Ended, Overflowed, Aborted, Failed}
use Rattle.ipc_laws.proofs.Places.{any_at, first_place}
use Rattle.ipc_laws.proofs.Tests.{not_both}

told_or : (H : List Entry) (a b : Bool) (s t u : OutcomeParts) → (if a then Some s else (if b then Some t else None)) ≡ Some u → (a || b) ≡ true
told_or H a b s t u h = grind arith

told_closes : (H : List Entry) (m : ℕ) (t : OutcomeParts) (e : Entry) → outcome_in H m e ≡ Some t → closes m e ≡ true
told_closes H m t (Written (Failed k code)) g = (cond_some (k == m) (failure m code) t g).0
told_closes H m t (Written (Overflowed k j offset)) g = told_or H (k == m) (j == m) _ _ t g
told_closes H m t (Written (Aborted k j count)) g = told_or H (k == m) (j == m) _ _ t g
told_closes H m t (Written (Ended k j)) g = (cond_some (j == m) (received H k m) t g).0
told_closes H m t _ g = absurd (none-some t g)

pub told_none : (H : List Entry) (m : ℕ) (xs : List Entry) → list_any (closes m) xs ≡ false → first_some (outcome_in H m) xs ≡ None
told_none H m xs h = go (first_some (outcome_in H m) xs) refl
  where
    go : (o : Option OutcomeParts) → first_some (outcome_in H m) xs ≡ o → first_some (outcome_in H m) xs ≡ None
    go None e = e
    go (Some t) e = let p = first_place (outcome_in H m) xs t e in not_both (any_at (closes m) xs p.0 p.1 (told_closes H m t p.0 p.2)) h

pub outcome_is : (H : List Entry) (m : ℕ) (t : OutcomeParts) → is_over H m ≡ true → has_broken H (caller_of H m) ≡ false → first_some (outcome_in H m) H ≡ Some t → outcome_of H m ≡ Some (timed (end_moment H m) t)
unfolding outcome_of
outcome_is H m t o b e = rw (o, b, e) refl

-- the label and u of a received tag, where the message has at most 31 strings
pub label_back : (p : Bool) (strings tag : ℕ) → strings ≤ 31 → label_of (received_tag tag (2 * strings) p) ≡ label_of tag
label_back true strings tag h = omega arith
label_back false strings tag h = omega arith

pub untyped_back : (p : Bool) (strings tag : ℕ) → strings ≤ 31 → untyped_of (received_tag tag (2 * strings) p) ≡ untyped_of tag
untyped_back true strings tag h = omega arith
untyped_back false strings tag h = omega arith
