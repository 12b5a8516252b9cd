-- What pens are given stands in the log of gifts, and no more stands there.
use Rattle.std.proofs.Common.{◌≡◌, ◌==◌, ℕ, List, [], ◌∷◌, ◌++◌, append_assoc, append-nil, Bool, true, false, Option, Some, None, if◌then◌else◌, cond, refl, sym, ap, ◌∙◌, subst, eqb-true, true≢false}
use Rattle.std.specs.Prelude.{◌&&◌, IfSome}
use Rattle.ipc_connection.specs.Pens.{Follows, Page, given_next, rest_of}
use Rattle.ipc_connection.specs.declared.given.Given.{Given}
use Rattle.ipc_base.specs.LogRules.{entries_of, numbers_of}
use Rattle.ipc_base.proofs.LogRows.{numbers_more}
use Rattle.ipc_seats.specs.Boxes.{BoxParts, is_idle, is_of, is_own}
use Rattle.ipc_seats.specs.Gifts.{gift_of, gift_to, gifts, gifts_of_work, last_of, work_gifts}
use Rattle.ipc_seats.specs.Giving.{GivesOn, Wrote, all_given, gifts_at, gifts_in, gifts_to, given_by, given_in, is_to, pens_by}
use Rattle.ipc_seats.specs.declared.events.Gave.{Gave}
use Rattle.ipc_seats.specs.declared.events.Gave.TheVariants as gave
use Rattle.ipc_seats.specs.declared.events.Gift.{Gift}
use Rattle.ipc_seats.specs.declared.post_box.Work.{Work}
use Rattle.ipc_seats.specs.declared.post_box.Work.TheVariants as work

-- What entries say

pub all_more : (mine : List Gave) (next : Gave) → all_given (mine ++ next ∷ []) ≡ all_given mine ++ given_by next
all_more [] next = append-nil (given_by next)
all_more (first ∷ mine) next =
    ap (λ (l : List Given). given_by first ++ l) (all_more mine next) ∙ sym (append_assoc (given_by first) (all_given mine) (given_by next))

pub gifts_more : (log more : List Gave) → gifts_in (log ++ more) ≡ gifts_in log ++ gifts_in more
gifts_more [] more = refl
gifts_more (next ∷ log) more = ap (λ (l : List Gift). gifts_at next ++ l) (gifts_more log more) ∙ sym (append_assoc (gifts_at next) (gifts_in log) (gifts_in more))

-- the last one of a list that it ends
last_is : (last : Option Given) (before : List Given) (given : Given) → last_of last (before ++ given ∷ []) ≡ Some given
last_is last [] given = refl
last_is last (next ∷ before) given = last_is (Some next) before given

-- nothing was given
pub gives_none : (log : List Gave) → GivesOn log log []
gives_none log = record { more = []; log = sym (append-nil log); are = refl; none = refl }

-- a pen was given this
pub gives_one : (old new : List Gave) (number : ℕ) (given : Given) (before pen : Page) → new ≡ old ++ gave.Told number (given ∷ []) ∷ []
    → pen ≡ given_next before given → number ≡ before.number → GivesOn old new (gift_of pen)
gives_one old new number given before pen log is its = record {
  more = gave.Told number (given ∷ []) ∷ [];
  log = log;
  are = ap (λ (n : ℕ). gift_to n (Some given)) its
      ∙ sym (ap gift_of is ∙ ap (λ (o : Option Given). gift_to before.number o) (last_is None before.given given));
  none = refl;
}

-- what the pen knows is all that it was given
pub knows_one : (mine mine_now : List Gave) (number : ℕ) (given : Given) (before pen : Page) → mine_now ≡ mine ++ gave.Told number (given ∷ []) ∷ []
    → pen ≡ given_next before given → all_given mine ≡ before.given → all_given mine_now ≡ pen.given
knows_one mine mine_now number given before pen more is knew =
    ap all_given more ∙ (all_more mine (gave.Told number (given ∷ [])) ∙ (ap (λ (l : List Given). l ++ given ∷ []) knew ∙ sym (ap (λ (p : Page). p.given) is)))

-- first this was given, and then that
pub gives_both : (old between new : List Gave) (one other : List Gift) → GivesOn old between one → GivesOn between new other → GivesOn old new (one ++ other)
gives_both old between new one other h k = record {
  more = h.more ++ k.more;
  log = k.log ∙ (ap (λ (l : List Gave). l ++ k.more) h.log ∙ append_assoc old h.more k.more);
  are = gifts_more h.more k.more ∙ (ap (λ (l : List Gift). l ++ gifts_in k.more) h.are ∙ ap (λ (l : List Gift). one ++ l) k.are);
  none = numbers_more pens_by h.more k.more ∙ (ap (λ (l : List ℕ). l ++ numbers_of pens_by k.more) h.none ∙ k.none);
}

pub gives_same : (old new : List Gave) → new ≡ old → GivesOn old new []
gives_same old new is = subst (λ (l : List Gave). GivesOn old l []) (sym is) (gives_none old)

pub gives_as : (old new : List Gave) (one other : List Gift) → other ≡ one → GivesOn old new one → GivesOn old new other
gives_as old new one other is h = subst (λ (l : List Gift). GivesOn old new l) (sym is) h

-- What a writer's pen is given

pub works_begun : {C P : Type 0} (old new : List Gave) (box : BoxParts) (next : Option (Work C P)) → is_idle box.pen ≡ true
    → GivesOn old new (gifts_of_work (true ∷ []) next) → GivesOn old new (work_gifts (Some box) next)
works_begun old new box None idle h = h
works_begun old new box (Some (work.Write pen)) idle h = gives_as old new (gift_of pen) (if is_idle box.pen then gift_of pen else []) (ap (λ (b : Bool). if b then gift_of pen else []) idle) h
works_begun old new box (Some work.Over) idle h = h

pub works_on : {C P : Type 0} (old : List Gave) (box : BoxParts) (next : Option (Work C P)) → is_idle box.pen ≡ false
    → GivesOn old old (work_gifts (Some box) next)
works_on old box None idle = gives_none old
works_on old box (Some (work.Write pen)) idle = gives_as old old [] (if is_idle box.pen then gift_of pen else []) (ap (λ (b : Bool). if b then gift_of pen else []) idle) (gives_none old)
works_on old box (Some work.Over) idle = gives_none old

pub works_over : {C P : Type 0} (old : List Gave) (box : Option BoxParts) (next : Option (Work C P)) → next ≡ Some work.Over
    → GivesOn old old (work_gifts box next)
works_over {C} {P} old box next is = subst (λ (n : Option (Work C P)). GivesOn old old (work_gifts box n)) (sym is) (go box)
  where
    go : (b : Option BoxParts) → GivesOn old old (work_gifts {C = C} {P = P} b (Some work.Over))
    go None = gives_none old
    go (Some box) = gives_none old

pub begins_over : {C P : Type 0} (old new : List Gave) (next : Option (Work C P)) → next ≡ Some work.Over → GivesOn old new []
    → GivesOn old new (gifts_of_work (true ∷ []) next)
begins_over {C} {P} old new next is h = subst (λ (n : Option (Work C P)). GivesOn old new (gifts_of_work (true ∷ []) n)) (sym is) h

pub works_there : {C P : Type 0} (old new : List Gave) (o : Option BoxParts) (box : BoxParts) (next : Option (Work C P)) → o ≡ Some box
    → GivesOn old new (work_gifts (Some box) next) → GivesOn old new (work_gifts o next)
works_there old new o box next is h = subst (λ (b : Option BoxParts). GivesOn old new (work_gifts b next)) (sym is) h

-- What a log says was given to one connection

pub given_more : (number : ℕ) (one other : List Gift) → given_in number (one ++ other) ≡ given_in number one ++ given_in number other
given_more number [] other = refl
given_more number (gift ∷ one) other = go (gift.number == number) (given_more number one other)
  where
    go : (b : Bool) → given_in number (one ++ other) ≡ given_in number one ++ given_in number other
        → (if b then gift.given ∷ given_in number (one ++ other) else given_in number (one ++ other))
        ≡ (if b then gift.given ∷ given_in number one else given_in number one) ++ given_in number other
    go true rest = ap (λ (l : List Given). gift.given ∷ l) rest
    go false rest = rest

-- what one entry of the log of gifts says that it was given
given_row : (number own : ℕ) (given : List Given) (b : Bool) → (own == number) ≡ b → given_in number (gifts_to own given) ≡ (if b then given else [])
given_row number own [] true is = refl
given_row number own [] false is = refl
given_row number own (next ∷ given) true is =
    ap (λ (b : Bool). if b then next ∷ given_in number (gifts_to own given) else given_in number (gifts_to own given)) is
    ∙ ap (λ (l : List Given). next ∷ l) (given_row number own given true is)
given_row number own (next ∷ given) false is =
    ap (λ (b : Bool). if b then next ∷ given_in number (gifts_to own given) else given_in number (gifts_to own given)) is
    ∙ given_row number own given false is

-- what its pen knows
given_of_pen : (number : ℕ) (log : List Gave) → all_given (entries_of is_to number log) ≡ given_in number (gifts_in log)
given_of_pen number [] = refl
given_of_pen number (gave.Began own ∷ log) = go (own == number) (given_of_pen number log)
  where
    go : (b : Bool) → all_given (entries_of is_to number log) ≡ given_in number (gifts_in log)
        → all_given (cond b (gave.Began own ∷ entries_of is_to number log) (entries_of is_to number log)) ≡ given_in number (gifts_in log)
    go true rest = rest
    go false rest = rest
given_of_pen number (gave.Told own given ∷ log) =
    go (own == number) refl (given_of_pen number log) ∙ sym (given_more number (gifts_to own given) (gifts_in log))
  where
    go : (b : Bool) → (own == number) ≡ b → all_given (entries_of is_to number log) ≡ given_in number (gifts_in log)
        → all_given (cond b (gave.Told own given ∷ entries_of is_to number log) (entries_of is_to number log)) ≡ given_in number (gifts_to own given) ++ given_in number (gifts_in log)
    go true is rest = ap (λ (l : List Given). given ++ l) rest ∙ ap (λ (l : List Given). l ++ given_in number (gifts_in log)) (sym (given_row number own given true is))
    go false is rest = rest ∙ ap (λ (l : List Given). l ++ given_in number (gifts_in log)) (sym (given_row number own given false is))

-- what went out over a pen begins the text of what the log of gifts says
pub wrote_one : (out : Option (List ℕ)) (pen page : Page) (own : ℕ) (mine said : List Gave) → pen ≡ page → own ≡ pen.number → all_given mine ≡ pen.given
    → mine ≡ entries_of is_to own said → Follows out (rest_of pen.rest) pen.given → Wrote out (given_in page.number (gifts_in said))
wrote_one out pen page own mine said is number knows all follows = record {
  rest = rest_of pen.rest;
  follows = subst (λ (l : List Given). Follows out (rest_of pen.rest) l)
      (sym knows ∙ (ap all_given all ∙ (given_of_pen own said
      ∙ (ap (λ (n : ℕ). given_in n (gifts_in said)) number ∙ ap (λ (p : Page). given_in p.number (gifts_in said)) is)))) follows;
}

-- a pen that lies in its box has the number of the box
right_of : (a b : Bool) → a && b ≡ true → b ≡ true
right_of true b is = is
right_of false b is = absurd (true≢false (sym is))

own_number : (pen : Option Page) (place number : ℕ) (own : Option ℕ) → is_own pen place own ≡ true → is_of number own ≡ true
    → IfSome pen (λ p. p.number ≡ number)
own_number None place number own is its = tt
own_number (Some pen) place number None is its = absurd (true≢false (sym its))
own_number (Some pen) place number (Some own) is its =
    sym (eqb-true own pen.number (right_of (pen.place == place) (own == pen.number) is)) ∙ eqb-true own number its

pub own_of_box : (box : BoxParts) (pen : Option Page) (number : ℕ) (its : Bool) → pen ≡ box.pen → is_own box.pen box.place box.number ≡ true
    → its ≡ is_of number box.number → its ≡ true → IfSome pen (λ p. p.number ≡ number)
own_of_box box pen number its is own same true_is =
    subst (λ (o : Option Page). IfSome o (λ p. p.number ≡ number)) (sym is) (own_number box.pen box.place number box.number own (sym same ∙ true_is))
