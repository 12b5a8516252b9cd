-- A walk over entries that stand behind a past, of which some are held.
use Rattle.std.proofs.lemmas.Bool.{false≢true}
use Rattle.std.proofs.lemmas.List.{take-append-drop, take_all, take_more}
use lib.Seq.{take-length}
use Rattle.std.proofs.Common.{◌≡◌, refl, sym, ap, ◌∙◌, subst, append-nil, append_assoc, ℕ, ◌+◌, ◌<◌, ◌≤◌, true, false, List, [], ◌∷◌, ◌++◌, length, take, drop, get_or, Option}
use Rattle.ipc_history.specs.Entries.{calls}
use Rattle.ipc_history.specs.Holding.{Holds}
use Rattle.ipc_history.specs.NextOutput.{next_output}
use Rattle.ipc_history.specs.Legal.{Legal, Follows}
use Rattle.ipc_history.specs.Phases.{is_over}
use Rattle.ipc_history.specs.declared.entry.Entry.{Entry}
use Rattle.ipc_history.specs.declared.entry.Entry.TheVariants.{Given, Written}
use Rattle.ipc_history.specs.declared.entry.Input.TheVariants.{At, Opened, Called, Exreg, Broke, Moved}
use Rattle.ipc_history.specs.declared.entry.Output.{Output}
use Rattle.ipc_history.proofs.HoldingLemmas.{all_held, kept_holds, pushed_holds}
use Rattle.ipc_laws.proofs.Growth.{open_is_called}
use Rattle.ipc_laws.proofs.Histories.{follows_last, legal_front}
use Rattle.ipc_laws.proofs.OpenCalls.{caller_lives}
use Rattle.ipc_laws.proofs.Settling.{legal_push}
use Rattle.ipc_threads.specs.PastSlots.{PastSlots}
use Rattle.ipc_compact.specs.Compact.{Base, is_kept, kept_before, kept_of}
use Rattle.ipc_compact.specs.Making.{Before, IsCompactOf}
use Rattle.ipc_compact.proofs.CallReading as there
use Rattle.ipc_compact.proofs.PlaceLemmas.{to_the_end}
use Rattle.ipc_compact.proofs.Reading.{named}
use Rattle.ipc_compact.proofs.Rebuilding.{kept_is}
use Rattle.ipc_compact.proofs.SameCompact.{among_numbers}
use Rattle.ipc_check.specs.Faults.{IsFirstFaultAfter}

-- an entry that enters an open call is kept
open_kept : (H : List Entry) (taken : List ℕ) → Legal H → (n : ℕ) (e : Entry) → is_over H n ≡ false → calls n e ≡ true → is_kept H taken e ≡ true
open_kept H taken legal n (Given (Called k t call)) opened is =
    named H taken n (there.open_kept H taken n (among_numbers H n (open_is_called H n opened)) opened (caller_lives H legal n opened)) (Given (Called k t call)) is
open_kept H taken legal n (Given (At moment)) opened is = absurd (false≢true is)
open_kept H taken legal n (Given (Opened thread space)) opened is = absurd (false≢true is)
open_kept H taken legal n (Given (Exreg thread target control)) opened is = absurd (false≢true is)
open_kept H taken legal n (Given (Broke thread)) opened is = absurd (false≢true is)
open_kept H taken legal n (Given (Moved k count)) opened is = absurd (false≢true is)
open_kept H taken legal n (Written output) opened is = absurd (false≢true is)

drop_whole : {X : Type 0} (xs : List X) → drop (length xs) xs ≡ []
drop_whole [] = refl
drop_whole (x ∷ xs) = drop_whole xs

-- what a compaction keeps holds the open calls
compact_holds : (P : List Entry) (taken : List ℕ) → Legal P → Holds P (kept_of P taken)
unfolding kept_before
compact_holds P taken legal =
    kept_holds P P (kept_of P taken) (is_kept P taken) (length P) (length (kept_of P taken)) (all_held P)
    (λ n e o inside is. open_kept P taken legal n e o is)
    (take-length (kept_of P taken) ∙ sym (to_the_end P taken))
    (drop_whole (kept_of P taken) ∙ sym (drop_whole P))

-- the past and the entries before a place are legal, the slots are theirs, and what is held holds
-- their open calls
pub record IsWalkedAfter (P kept X : List Entry) (i : ℕ) (past : List Entry) (slots : PastSlots) : Type 0 where
  pub walked : past ≡ P ++ take i X
  pub legal : Legal (P ++ take i X)
  pub told : slots.past ≡ P ++ take i X
  pub held : Holds (P ++ take i X) (kept ++ take i X)

module _ (base : Base) (kept : List Entry) (before : Before) (is : IsCompactOf base kept before) where
  pub after_start : (X past : List Entry) (slots : PastSlots) → past ≡ before.past → slots.past ≡ before.past → IsWalkedAfter before.past kept X 0 past slots
  after_start X past slots same told = record {
    walked = same ∙ sym (append-nil before.past);
    legal = subst Legal (sym (append-nil before.past)) is.legal;
    told = told ∙ sym (append-nil before.past);
    held = rw (append-nil before.past, append-nil kept) (subst (Holds before.past) (kept_is base kept before is) (compact_holds before.past before.taken is.legal));
  }

module _ (P kept X so_far : List Entry) (i : ℕ) (e : Entry) (within : i < length X) (at : e ≡ get_or X i e) (same : so_far ≡ P ++ take i X) where
  one : take (i + 1) X ≡ take i X ++ e ∷ []
  one = take_more X i e within ∙ ap (λ x. take i X ++ x ∷ []) (sym at)

  more : P ++ take (i + 1) X ≡ so_far ++ e ∷ []
  more = ap (λ l. P ++ l) one ∙ (sym (append_assoc P (take i X) (e ∷ [])) ∙ ap (λ l. l ++ e ∷ []) (sym same))

  held_more : kept ++ take (i + 1) X ≡ (kept ++ take i X) ++ e ∷ []
  held_more = ap (λ l. kept ++ l) one ∙ sym (append_assoc kept (take i X) (e ∷ []))

  pub after_on : (past now : List Entry) (slots new : PastSlots) → IsWalkedAfter P kept X i past slots → now ≡ so_far ++ e ∷ [] → Follows so_far e
      → new.past ≡ so_far ++ e ∷ [] → IsWalkedAfter P kept X (i + 1) now new
  after_on past now slots new was added follows told = record {
    walked = added ∙ sym more;
    legal = rw more (legal_push so_far e (rw same was.legal) follows);
    told = told ∙ sym more;
    held = rw (more, held_more) (pushed_holds so_far (kept ++ take i X) e (subst (λ l. Holds l (kept ++ take i X)) (sym same) was.held));
  }

  pub fault_after : (expected : Option Output) → Legal (P ++ take i X) → (Follows so_far e → ⊥) → expected ≡ next_output so_far
      → IsFirstFaultAfter P X i expected
  fault_after expected legal refused told = record {
    within = within;
    before = legal;
    fault = λ l. refused (follows_last so_far e (rw more at l));
    told = told ∙ ap next_output same;
  }

pub fault_all : (P X : List Entry) (i : ℕ) (expected : Option Output) → IsFirstFaultAfter P X i expected → Legal (P ++ X) → ⊥
fault_all P X i expected fault legal =
    fault.fault (legal_front (P ++ take (i + 1) X) (drop (i + 1) X) (subst Legal (ap (λ l. P ++ l) (sym (take-append-drop (i + 1) X)) ∙ sym (append_assoc P (take (i + 1) X) (drop (i + 1) X))) legal))

pub after_whole : (P kept X past : List Entry) (i : ℕ) (slots : PastSlots) → length X ≤ i → IsWalkedAfter P kept X i past slots → Legal (P ++ X)
after_whole P kept X past i slots all walked = subst (λ l. Legal (P ++ l)) (take_all i X all) walked.legal
