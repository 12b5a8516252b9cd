-- Both logs go on together.
use Rattle.std.proofs.Common.{◌≡◌, ℕ, List, [], ◌∷◌, ◌++◌, append_assoc, append-nil, sym, ap, ◌∙◌, subst}
use Rattle.std.specs.Prelude.{Contains, false, min}
use Rattle.ipc_base.specs.LogRules.{numbers_of}
use Rattle.ipc_base.proofs.LogRows.{numbers_more}
use Rattle.ipc_seats.specs.Giving.{GivesOn, gifts_in, pens_by}
use Rattle.ipc_seats.specs.Numbering.{is_taken}
use Rattle.ipc_seats.specs.declared.events.Event.{Event}
use Rattle.ipc_seats.specs.declared.events.Gave.{Gave}
use Rattle.ipc_seats.specs.declared.events.Gave.TheVariants as gave
use Rattle.ipc_seats.specs.declared.events.Gift.{Gift}
use Rattle.ipc_lock.specs.Handing.{TellsGifts, gifts_of}
use Rattle.ipc_lock.specs.InsideParts.{InsideParts}
use Rattle.ipc_lock.specs.Logs.{gifts_by}
use Rattle.ipc_lock.specs.Turns.{Turn, first_inside}
use Rattle.ipc_words.specs.Limits.{max_calls, max_entries}
use Rattle.ipc_seats.proofs.Giving.{gifts_more}
use Rattle.ipc_lock.proofs.Owned.{not_among}
use Rattle.ipc_lock.proofs.Turning.{runs_on, starts}

gifts_of_more : (log : List Event) (next : Event) → gifts_of (log ++ next ∷ []) ≡ gifts_of log ++ gifts_by next
gifts_of_more [] next = append-nil (gifts_by next)
gifts_of_more (first ∷ log) next =
    ap (λ (l : List Gift). gifts_by first ++ l) (gifts_of_more log next) ∙ sym (append_assoc (gifts_by first) (gifts_of log) (gifts_by next))

-- one event more gave this, which is logged
same_gifts : (next : Event) (log log_now : List Event) (said more said_now : List Gave) → gifts_in said ≡ gifts_of log → log_now ≡ log ++ next ∷ []
    → said_now ≡ said ++ more → gifts_in more ≡ gifts_by next → gifts_in said_now ≡ gifts_of log_now
same_gifts next log log_now said more said_now was grows gives are =
    ap gifts_in gives ∙ (gifts_more said more ∙ (ap (λ (l : List Gift). l ++ gifts_in more) was
    ∙ (ap (λ (l : List Gift). gifts_of log ++ l) are ∙ (sym (gifts_of_more log next) ∙ ap gifts_of (sym grows)))))

pub tells_on : {C P : Type 0} (next : Event) (log log_now : List Event) (said said_now : List Gave) (before after : InsideParts)
    → TellsGifts C P log said before → log_now ≡ log ++ next ∷ [] → GivesOn said said_now (gifts_by next) → after.numbers ≡ before.numbers
    → Turn C P before next after → TellsGifts C P log_now said_now after
tells_on next log log_now said said_now before after was more gives numbers turn = record {
  runs = runs_on next log log_now before after was.runs more turn;
  gifts_are = same_gifts next log log_now said gives.more said_now was.gifts_are more gives.log gives.are;
  pens = ap (numbers_of pens_by) gives.log ∙ (numbers_more pens_by said gives.more ∙ (ap (λ (l : List ℕ). numbers_of pens_by said ++ l) gives.none
      ∙ (append-nil (numbers_of pens_by said) ∙ (was.pens ∙ sym numbers))));
}

-- a connection got a number, and with it a pen
pub tells_began : {C P : Type 0} (next : Event) (log log_now : List Event) (said said_now : List Gave) (before after : InsideParts) (number : ℕ)
    → TellsGifts C P log said before → log_now ≡ log ++ next ∷ [] → gifts_by next ≡ [] → said_now ≡ said ++ gave.Began number ∷ []
    → after.numbers ≡ before.numbers ++ number ∷ [] → Turn C P before next after → TellsGifts C P log_now said_now after
tells_began next log log_now said said_now before after number was more none began numbers turn = record {
  runs = runs_on next log log_now before after was.runs more turn;
  gifts_are = same_gifts next log log_now said (gave.Began number ∷ []) said_now was.gifts_are more began (sym none);
  pens = ap (numbers_of pens_by) began ∙ (numbers_more pens_by said (gave.Began number ∷ []) ∙ (ap (λ (l : List ℕ). l ++ number ∷ []) was.pens ∙ sym numbers));
}

-- nothing was done, and nothing was given
pub tells_first : (C P : Type 0) (log : List Event) (said : List Gave) (inside : InsideParts) (entries calls : ℕ) → log ≡ [] → said ≡ []
    → inside ≡ first_inside (min entries max_entries) (min calls max_calls) → TellsGifts C P log said inside
tells_first C P log said inside entries calls none nothing first = record {
  runs = starts C P log inside entries calls none first;
  gifts_are = ap gifts_in nothing ∙ ap gifts_of (sym none);
  pens = ap (numbers_of pens_by) nothing ∙ sym (ap (λ (i : InsideParts). i.numbers) first);
}

-- no pen has a number that was never taken
pub pen_is_new : (C P : Type 0) (log : List Event) (said : List Gave) (inside : InsideParts) (number : ℕ) → TellsGifts C P log said inside
    → is_taken number inside.numbers ≡ false → Contains (numbers_of pens_by said) number → ⊥
pen_is_new C P log said inside number tells new there =
    not_among number inside.numbers new (subst (λ (l : List ℕ). Contains l number) tells.pens there)
