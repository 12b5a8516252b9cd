-- What the pens on errands are given stands in the log of gifts, as in that of events.
use Rattle.std.proofs.Common.{◌≡◌, ℕ, List, [], ◌∷◌, ◌++◌, append_assoc, append-nil, true, false, Option, Some, None, refl, sym, ap, ◌∙◌, subst}
use Rattle.std.proofs.lemmas.Bool.{false≢true}
use Rattle.std.specs.Prelude.{IfNone, IfSome, is_some, slice_get}
use Rattle.ipc_connection.specs.Pens.{Page}
use Rattle.ipc_connection.specs.declared.given.Given.{Given}
use Rattle.ipc_seats.proofs.Giving.{gives_none, gives_as, gives_both, given_more}
use Rattle.ipc_seats.specs.Gifts.{gift_in, gift_of, gifts, no_errands}
use Rattle.ipc_seats.specs.Giving.{GivesOn, Wrote, gifts_in, given_in}
use Rattle.ipc_seats.specs.Places.{added, pen_in}
use Rattle.ipc_seats.specs.declared.errands.Errands.{Errands}
use Rattle.ipc_seats.specs.declared.events.Event.{Event}
use Rattle.ipc_seats.specs.declared.events.Gave.{Gave}
use Rattle.ipc_seats.specs.declared.events.Gift.{Gift}
use Rattle.ipc_lock.specs.Handing.{AreFirst, Hands, InOrder, gifts_of}
use Rattle.ipc_lock.specs.InsideParts.{LoggedParts}
use Rattle.ipc_lock.specs.Logs.{gifts_by, given_to}

-- Pens that come out of boxes stand behind those that are out

abbrev errands_of : {C P : Type 0} → Option Page → Option Page → Option Page → Errands C P
errands_of first second third = record { first = first; second = second; third = third }

pub added_gifts : (C P : Type 0) (out first second third : Option Page) → AreFirst first second third → is_some third ≡ false
    → gifts (added out (errands_of {C = C} {P = P} first second third)) ≡ gifts (errands_of {C = C} {P = P} first second third) ++ gift_in out
added_gifts C P None first second third order room = sym (append-nil (gifts (errands_of {C = C} {P = P} first second third)))
added_gifts C P (Some pen) None None None order room = append-nil (gift_of pen ++ []) ∙ append-nil (gift_of pen)
added_gifts C P (Some pen) (Some one) None None order room =
    append-nil (gift_of one ++ gift_of pen) ∙ ap (λ (l : List Gift). l ++ gift_of pen) (sym (append-nil (gift_of one ++ []) ∙ append-nil (gift_of one)))
added_gifts C P (Some pen) (Some one) (Some two) None order room = ap (λ (l : List Gift). l ++ gift_of pen) (sym (append-nil (gift_of one ++ gift_of two)))
added_gifts C P (Some pen) (Some one) (Some two) (Some three) order room = absurd (false≢true (sym room))
added_gifts C P (Some pen) (Some one) None (Some three) order room = absurd (false≢true (sym room))
added_gifts C P (Some pen) None None (Some three) order room = absurd (false≢true (sym room))
added_gifts C P (Some pen) None (Some two) (Some three) order room = absurd (false≢true (sym room))
added_gifts C P (Some pen) None (Some two) None order room = absurd order

pub added_order : (C P : Type 0) (out first second third : Option Page) → AreFirst first second third → is_some third ≡ false
    → InOrder (added out (errands_of {C = C} {P = P} first second third))
added_order C P None first second third order room = order
added_order C P (Some pen) None None None order room = tt
added_order C P (Some pen) (Some one) None None order room = tt
added_order C P (Some pen) (Some one) (Some two) None order room = tt
added_order C P (Some pen) (Some one) (Some two) (Some three) order room = absurd (false≢true (sym room))
added_order C P (Some pen) (Some one) None (Some three) order room = absurd (false≢true (sym room))
added_order C P (Some pen) None None (Some three) order room = absurd (false≢true (sym room))
added_order C P (Some pen) None (Some two) (Some three) order room = absurd (false≢true (sym room))
added_order C P (Some pen) None (Some two) None order room = absurd order

-- none came out
pub hands_none : {C P : Type 0} (log : List Gave) (errands : Errands C P) → Hands log log errands errands
hands_none log errands = record { behind = λ order. record { gave = []; gifts_are = sym (append-nil (gifts errands)); order = order; gives = gives_none log } }

-- nothing was given, and none came out
pub hands_still : {C P : Type 0} (old new : List Gave) (errands : Errands C P) → GivesOn old new [] → Hands old new errands errands
hands_still old new errands gives = record { behind = λ order. record { gave = []; gifts_are = sym (append-nil (gifts errands)); order = order; gives = gives } }

-- one came out, or none did
pub hands_added : {C P : Type 0} (old new : List Gave) (errands errands_now : Errands C P) (out : Option Page) → is_some errands.third ≡ false
    → errands_now ≡ added out errands → GivesOn old new (gift_in out) → Hands old new errands errands_now
hands_added {C} {P} old new errands errands_now out room is gives = record {
  behind = λ order. record {
    gave = gift_in out;
    gifts_are = ap (λ (e : Errands C P). gifts e) is ∙ added_gifts C P out errands.first errands.second errands.third order room;
    order = subst (λ (e : Errands C P). InOrder e) (sym is) (added_order C P out errands.first errands.second errands.third order room);
    gives = gives;
  };
}

-- this one came out
pub hands_pen : {C P : Type 0} (old new : List Gave) (errands errands_now : Errands C P) (pen : Page) → is_some errands.third ≡ false
    → errands_now ≡ added (Some pen) errands → GivesOn old new (gift_of pen) → Hands old new errands errands_now
hands_pen old new errands errands_now pen room is gives = hands_added old new errands errands_now (Some pen) room is gives

-- first these came out, and then those
pub hands_both : {C P : Type 0} (old between new : List Gave) (errands next errands_now : Errands C P) → Hands old between errands next
    → Hands between new next errands_now → Hands old new errands errands_now
hands_both old between new errands next errands_now h k = record {
  behind = λ order.
      let one = h.behind order in
      let other = k.behind one.order in
      record {
        gave = one.gave ++ other.gave;
        gifts_are = other.gifts_are ∙ (ap (λ (l : List Gift). l ++ other.gave) one.gifts_are ∙ append_assoc (gifts errands) one.gave other.gave);
        order = other.order;
        gives = gives_both old between new one.gave other.gave one.gives other.gives;
      };
}

-- what all were given, where none was out before
pub hands_all : {C P : Type 0} (old new : List Gave) (errands errands_now : Errands C P) (gave : List Gift) → errands ≡ no_errands → gave ≡ gifts errands_now
    → Hands old new errands errands_now → GivesOn old new gave
hands_all {C} {P} old new errands errands_now gave none is h =
    let more = (subst (λ (e : Errands C P). Hands old new e errands_now) none h).behind tt in
    gives_as old new more.gave gave (is ∙ more.gifts_are) more.gives

-- What a log says was given to one connection

-- what the events of a log gave it
given_of_log : (number : ℕ) (log : List Event) → given_in number (gifts_of log) ≡ given_to number log
given_of_log number [] = refl
given_of_log number (next ∷ log) =
    given_more number (gifts_by next) (gifts_of log) ∙ ap (λ (l : List Given). given_in number (gifts_by next) ++ l) (given_of_log number log)

-- and of what the log of events says
pub wrote_if : {Q : Type 0} (result : Option Q) (written : Q → Option (List ℕ)) (was before : LoggedParts) (said : List Gave) (number own : ℕ) → was ≡ before
    → number ≡ own → gifts_in said ≡ gifts_of was.log → IfSome result (λ port. Wrote (written port) (given_in number (gifts_in said)))
    → IfSome result (λ port. Wrote (written port) (given_to own before.log))
wrote_if None written was before said number own is its same wrote = tt
wrote_if (Some port) written was before said number own is its same wrote =
    subst (λ (l : List Given). Wrote (written port) l)
    (ap (λ (n : ℕ). given_in n (gifts_in said)) its ∙ (ap (given_in own) same ∙ (given_of_log own was.log ∙ ap (λ (l : LoggedParts). given_to own l.log) is))) wrote

-- where no port comes no pen was there
pub no_pen_there : {Q : Type 0} (result : Option Q) (pen : Option Page) (was before : LoggedParts) (place number own : ℕ) → was ≡ before → number ≡ own
    → pen ≡ pen_in number (slice_get was.inside.boxes place) → IfNone result (pen ≡ None) → IfNone result (pen_in own (slice_get before.inside.boxes place) ≡ None)
no_pen_there (Some port) pen was before place number own is its there none = tt
no_pen_there None pen was before place number own is its there none =
    sym (ap (λ (n : ℕ). pen_in n (slice_get was.inside.boxes place)) its ∙ ap (λ (l : LoggedParts). pen_in own (slice_get l.inside.boxes place)) is) ∙ (sym there ∙ none)
