-- No two connections of a log have one number.
use Rattle.std.proofs.Common.{◌≡◌, ℕ, List, [], ◌∷◌, ◌++◌, append_assoc, append-nil, Bool, false, ◌==◌, ◌||◌, inl, inr, refl, sym, ap, ◌∙◌, subst}
use Rattle.std.specs.Prelude.{⊤}
use Rattle.std.specs.List.{IsDistinct}
use Rattle.ipc_core.specs.Outcomes.{is_among}
use Rattle.ipc_core.proofs.BookLemmas.{taken_once}
use Rattle.ipc_seats.specs.Numbering.{is_taken}
use Rattle.ipc_seats.specs.Owning.{numbers_by}
use Rattle.ipc_seats.specs.declared.events.Event.{Event}
use Rattle.ipc_seats.specs.declared.events.Event.TheVariants as event
use Rattle.ipc_lock.specs.InsideParts.{InsideParts}
use Rattle.ipc_lock.specs.Logs.{LogsNumberOnce, numbers_in}
use Rattle.ipc_lock.specs.Turns.{Goes, Starts, Turn}

-- the numbers that an event gave, if any, are new
abbrev AreNew : List ℕ → List ℕ → Type 0
AreNew [] taken = ⊤
AreNew (number ∷ numbers) taken = is_taken number taken ≡ false

record Numbers (next : Event) (before after : InsideParts) : Type 0 where
  numbers : after.numbers ≡ before.numbers ++ numbers_by next
  new : AreNew (numbers_by next) before.numbers

same_numbers : (before after : InsideParts) → after.numbers ≡ before.numbers → after.numbers ≡ before.numbers ++ []
same_numbers before after same = same ∙ sym (append-nil before.numbers)

numbers_of : (C P : Type 0) (before after : InsideParts) (next : Event) → Turn C P before next after → Numbers next before after
numbers_of C P before after (event.Connected place number) h = record { numbers = h.numbers; new = h.is_new }
numbers_of C P before after (event.Declined number) h = record { numbers = h.numbers; new = h.is_new }
numbers_of C P before after (event.Acted now commands answers gave) h = record { numbers = same_numbers before after h.numbers; new = tt }
numbers_of C P before after (event.Asked now place owns requests space said gave) h = record { numbers = same_numbers before after h.numbers; new = tt }
numbers_of C P before after (event.Ended now place number is_by_reader gave) h = record { numbers = same_numbers before after h.numbers; new = tt }
numbers_of C P before after (event.Posted place number said) h = record { numbers = same_numbers before after h.numbers; new = tt }
numbers_of C P before after (event.Looked place gave) h = record { numbers = same_numbers before after h.numbers; new = tt }
numbers_of C P before after (event.Laid gave) h = record { numbers = same_numbers before after h.numbers; new = tt }
numbers_of C P before after (event.Worked place number gave) h = record { numbers = same_numbers before after h.numbers; new = tt }
numbers_of C P before after (event.Released place number) h = record { numbers = same_numbers before after h.numbers; new = tt }
numbers_of C P before after (event.Took thread taken outcomes) h = record { numbers = same_numbers before after h.numbers; new = tt }
numbers_of C P before after (event.Marked upto) h = record { numbers = same_numbers before after h.numbers; new = tt }
numbers_of C P before after event.Parted (inl h) = record { numbers = same_numbers before after h.numbers; new = tt }
numbers_of C P before after event.Parted (inr same) = record { numbers = same_numbers before after (ap (λ (inside : InsideParts). inside.numbers) same); new = tt }

among_taken : (number : ℕ) (taken : List ℕ) → is_among number taken ≡ is_taken number taken
among_taken number [] = refl
among_taken number (other ∷ taken) = ap (λ (b : Bool). (other == number) || b) (among_taken number taken)

with_none : (taken : List ℕ) → IsDistinct (λ (a b : ℕ). a == b) taken → IsDistinct (λ (a b : ℕ). a == b) (taken ++ [])
with_none taken once = subst (λ (l : List ℕ). IsDistinct (λ (a b : ℕ). a == b) l) (sym (append-nil taken)) once

still_once : (next : Event) (taken : List ℕ) → AreNew (numbers_by next) taken → IsDistinct (λ (a b : ℕ). a == b) taken → IsDistinct (λ (a b : ℕ). a == b) (taken ++ numbers_by next)
still_once (event.Connected place number) taken new once = taken_once taken number once (among_taken number taken ∙ new)
still_once (event.Declined number) taken new once = taken_once taken number once (among_taken number taken ∙ new)
still_once (event.Acted now commands answers gave) taken new once = with_none taken once
still_once (event.Asked now place owns requests space said gave) taken new once = with_none taken once
still_once (event.Ended now place number is_by_reader gave) taken new once = with_none taken once
still_once (event.Posted place number said) taken new once = with_none taken once
still_once (event.Looked place gave) taken new once = with_none taken once
still_once (event.Laid gave) taken new once = with_none taken once
still_once (event.Worked place number gave) taken new once = with_none taken once
still_once (event.Released place number) taken new once = with_none taken once
still_once (event.Took thread outcome outcomes) taken new once = with_none taken once
still_once (event.Marked upto) taken new once = with_none taken once
still_once event.Parted taken new once = with_none taken once

-- a log of one event more
numbers_more : (log : List Event) (next : Event) → numbers_in (log ++ next ∷ []) ≡ numbers_in log ++ numbers_by next
numbers_more [] next = append-nil (numbers_by next)
numbers_more (event ∷ log) next = ap (λ (l : List ℕ). numbers_by event ++ l) (numbers_more log next) ∙ sym (append_assoc (numbers_by event) (numbers_in log) (numbers_by next))

no_numbers : IsDistinct (λ (a b : ℕ). a == b) []
unfolding IsDistinct
no_numbers = tt

pub logs_number_once : (C P : Type 0) → LogsNumberOnce C P
logs_number_once C P _ _ (Starts entries calls few_entries few_calls) = record { numbers = refl; once = no_numbers }
logs_number_once C P _ _ (Goes log next before after runs turn) =
    let was = logs_number_once C P log before runs in
    let is = numbers_of C P before after next turn in
    record {
      numbers = is.numbers ∙ (ap (λ (l : List ℕ). l ++ numbers_by next) was.numbers ∙ sym (numbers_more log next));
      once = subst (λ (l : List ℕ). IsDistinct (λ (a b : ℕ). a == b) l) (sym (numbers_more log next))
          (still_once next (numbers_in log) (subst (λ (l : List ℕ). AreNew (numbers_by next) l) was.numbers is.new) was.once);
    }
