-- What every list of events leads to.
use Rattle.std.proofs.Common.{◌≡◌, ℕ, List, [], ◌∷◌, ◌++◌, append_assoc, append-nil, Bool, true, false, ◌==◌, ◌||◌, cond, filter, eqb-true, if◌then◌else◌, refl, sym, ap, ap₂, ◌∙◌, subst, arith}
use Rattle.std.proofs.lemmas.Bool.{or_right}
use Rattle.std.proofs.lemmas.List.Elements.{All-head, All-nil, All-tail, Contains-append_left}
use Rattle.std.specs.Prelude.{All}
use Rattle.std.specs.List.{AllByRecursion, IsDistinct}
use Rattle.ipc_connection.specs.declared.replying.Told.{Told}
use Rattle.ipc_core.specs.Books.{TookOthers}
use Rattle.ipc_core.specs.Laws.{IsSound}
use Rattle.ipc_core.specs.Obeying.{empty_kernel}
use Rattle.ipc_core.specs.Outcomes.{IsTaken}
use Rattle.ipc_core.proofs.BusyLaws.{still_among}
use Rattle.ipc_core.proofs.Commands.{nothing_legal, nothing_quiet}
use Rattle.ipc_core.proofs.OtherCalls.{others_none}
use Rattle.ipc_history.specs.Calls.{caller_of}
use Rattle.ipc_history.specs.declared.entry.Entry.{Entry}
use Rattle.ipc_laws.proofs.Promise.{paired}
use Rattle.ipc_waits.specs.Finding.{IsRising, is_among as is_in}
use Rattle.ipc_connection.specs.declared.given.Given.{Given}
use Rattle.ipc_connection.specs.declared.given.Given.TheVariants as given
use Rattle.ipc_seats.specs.Making.{Accepted, accepted_of, made_by, made_in}
use Rattle.ipc_seats.specs.declared.events.Event.{Event}
use Rattle.ipc_seats.specs.declared.events.Event.TheVariants as event
use Rattle.ipc_seats.specs.declared.events.Gift.{Gift}
use Rattle.ipc_seats.proofs.Ordering.{AreInOrder}
use Rattle.ipc_seats.proofs.Continuing.{accepted_append}
use Rattle.ipc_lock.specs.InsideParts.{InsideParts}
use Rattle.ipc_lock.specs.Logs.{AreOwn, Ends, IsOwn, IsPart, Keeps, LogsGiveOnce, LogsLeadWell, LogsMakeHistory, LogsTellOnce, LogsTellOwners, Skips, call_of, calls_by, calls_given, calls_of, calls_told, given_in, given_to, gifts_by, opened_by, opened_for, said_by, said_for}
use Rattle.ipc_lock.specs.Turns.{Goes, Runs, Starts, Turn}
use Rattle.ipc_lock.proofs.Looking.{AreKept, IsGiftFor, IsKept, Known, own_grown}
use Rattle.ipc_lock.proofs.Effects.{Effect, effect_of, known_now}

-- a log of one event more
told_more : (log : List Event) (next : Event) → calls_told (log ++ next ∷ []) ≡ calls_told log ++ calls_by next
told_more [] next = append-nil (calls_by next)
told_more (event ∷ log) next = ap (λ (l : List ℕ). calls_by event ++ l) (told_more log next) ∙ sym (append_assoc (calls_by event) (calls_told log) (calls_by next))

made_more : (log : List Event) (next : Event) → made_in (log ++ next ∷ []) ≡ made_in log ++ made_by next
made_more [] next = append-nil (made_by next)
made_more (event ∷ log) next = ap (λ (l : List Accepted). made_by event ++ l) (made_more log next) ∙ sym (append_assoc (made_by event) (made_in log) (made_by next))

opened_more : (number : ℕ) (log : List Event) (next : Event) → opened_for number (log ++ next ∷ []) ≡ opened_for number log ++ opened_by number next
opened_more number [] next = append-nil (opened_by number next)
opened_more number (event ∷ log) next =
    ap (λ (l : List ℕ). opened_by number event ++ l) (opened_more number log next) ∙ sym (append_assoc (opened_by number event) (opened_for number log) (opened_by number next))

given_more : (number : ℕ) (log : List Event) (next : Event) → given_to number (log ++ next ∷ []) ≡ given_to number log ++ given_in number (gifts_by next)
given_more number [] next = append-nil (given_in number (gifts_by next))
given_more number (event ∷ log) next =
    ap (λ (l : List Given). given_in number (gifts_by event) ++ l) (given_more number log next)
    ∙ sym (append_assoc (given_in number (gifts_by event)) (given_to number log) (given_in number (gifts_by next)))

said_more : (number : ℕ) (log : List Event) (next : Event) → said_for number (log ++ next ∷ []) ≡ said_for number log ++ said_by number next
said_more number [] next = append-nil (said_by number next)
said_more number (event ∷ log) next =
    ap (λ (l : List Told). said_by number event ++ l) (said_more number log next) ∙ sym (append_assoc (said_by number event) (said_for number log) (said_by number next))

-- what a log says of connections
abbrev known : List Event → ℕ → Known
known log number = record { opened = opened_for number log; said = said_for number log }

known_then : (log : List Event) (next : Event) → known (log ++ next ∷ []) ≡ known_now (known log) next
known_then log next = λ i number. record { opened = opened_more number log next i; said = said_more number log next i }

-- What connections were given

own_both : (H : List Entry) (threads : List ℕ) (said : List Told) (first second : List Given) → AreOwn H threads said first → AreOwn H threads said second
    → AreOwn H threads said (first ++ second)
own_both H threads said [] second h k = k
own_both H threads said (next ∷ first) second h k = (h.0, own_both H threads said first second h.1 k)

-- and of more threads, and of more that was told
own_among : (H : List Entry) (threads more : List ℕ) (said others : List Told) (next : Given) → IsOwn H threads said next → IsOwn H (threads ++ more) (said ++ others) next
own_among H threads more said others (given.Outcome version outcome) h = record {
  called = h.called;
  own = still_among (caller_of H outcome.call) threads more h.own;
  before = h.before;
  rest = h.rest;
  whole = h.whole;
  was = h.was;
}
own_among H threads more said others (given.Frame frame) h = record {
  version = h.version;
  told = h.told;
  there = Contains-append_left said others h.told h.there;
  frame_is = h.frame_is;
}

all_own_grown : (H K more : List Entry) (threads fresh : List ℕ) (said others : List Told) (gave : List Given) → K ≡ H ++ more → AreOwn H threads said gave
    → AreOwn K (threads ++ fresh) (said ++ others) gave
all_own_grown H K more threads fresh said others [] grows h = tt
all_own_grown H K more threads fresh said others (next ∷ gave) grows h =
    (own_among K threads fresh said others next (own_grown H K more threads said next grows h.0), all_own_grown H K more threads fresh said others gave grows h.1)

own_of : (H : List Entry) (now : ℕ → Known) (number : ℕ) (gave : List Gift) → All (IsGiftFor H now) gave → AreOwn H (now number).opened (now number).said (given_in number gave)
own_of H now number [] all = tt
own_of H now number (gift ∷ gave) all = go (own_of H now number gave (All-tail (IsGiftFor H now) gift gave all)) (gift.number == number) refl
  where
    go : AreOwn H (now number).opened (now number).said (given_in number gave) → (b : Bool) → (gift.number == number) ≡ b
        → AreOwn H (now number).opened (now number).said (if b then gift.given ∷ given_in number gave else given_in number gave)
    go rest true is = (
      subst (λ (n : ℕ). IsOwn H (now n).opened (now n).said gift.given) (eqb-true gift.number number is) (All-head (IsGiftFor H now) gift gave all),
      rest,
    )
    go rest false is = rest

-- what is true of what a log led to
record Stands (log : List Event) (inside : InsideParts) : Type 0 where
  sound : IsSound inside.kernel
  order : AreInOrder inside.kernel
  made : accepted_of inside.kernel.history ≡ made_in log
  taken : inside.kernel.taken ≡ calls_told log
  kept : AreKept (known log) inside.boxes
  owned : (number : ℕ) → AreOwn inside.kernel.history (opened_for number log) (said_for number log) (given_to number log)

empty_sound : (entries calls : ℕ) → IsSound (empty_kernel entries calls)
unfolding IsDistinct
empty_sound entries calls = record {
  legal = nothing_legal;
  quiet = nothing_quiet;
  taken = All-nil (IsTaken []);
  once = tt;
  others = others_none;
  since = omega arith;
}

stands_more : (C P : Type 0) (log : List Event) (next : Event) (before after : InsideParts) → Stands log before → Turn C P before next after → Stands (log ++ next ∷ []) after
stands_more C P log next before after was turn =
    let now : ℕ → Known = known_now (known log) next in
    let is : Effect (known log) now before after (calls_by next) (gifts_by next) (made_by next) = effect_of C P (known log) before after next turn in
    record {
      sound = is.continues.sound was.sound;
      order = is.continues.order was.sound was.order;
      made = ap (λ (H : List Entry). accepted_of H) is.continues.grows
          ∙ (accepted_append before.kernel.history is.continues.more
          ∙ (ap₂ (λ (a b : List Accepted). a ++ b) was.made is.continues.made_is ∙ sym (made_more log next)));
      taken = is.continues.taken ∙ (ap (λ (l : List ℕ). l ++ calls_by next) was.taken ∙ sym (told_more log next));
      kept = subst (λ (k : ℕ → Known). AreKept k after.boxes) (sym (known_then log next)) (is.kept was.kept);
      owned = λ number.
          subst (λ (k : ℕ → Known). AreOwn after.kernel.history (k number).opened (k number).said (given_to number (log ++ next ∷ []))) (sym (known_then log next))
          (subst (λ (gave : List Given). AreOwn after.kernel.history (now number).opened (now number).said gave) (sym (given_more number log next))
          (own_both after.kernel.history (now number).opened (now number).said (given_to number log) (given_in number (gifts_by next))
          (all_own_grown before.kernel.history after.kernel.history is.continues.more (opened_for number log) (opened_by number next) (said_for number log) (said_by number next)
          (given_to number log) is.continues.grows (was.owned number))
          (own_of after.kernel.history now number (gifts_by next) (is.owned was.sound was.kept))));
    }

stands : (C P : Type 0) (log : List Event) (inside : InsideParts) → Runs C P log inside → Stands log inside
stands C P _ _ (Starts entries calls few_entries few_calls) = record {
  sound = empty_sound entries calls;
  order = λ thread. tt;
  made = refl;
  taken = refl;
  kept = All-nil (IsKept (known []));
  owned = λ number. tt;
}
stands C P _ _ (Goes log next before after runs turn) = stands_more C P log next before after (stands C P log before runs) turn

pub logs_lead_well : (C P : Type 0) → LogsLeadWell C P
logs_lead_well C P log inside runs =
    let is = stands C P log inside runs in
    record { legal = is.sound.legal; quiet = is.sound.quiet; paired = paired inside.kernel.history is.sound.legal }

pub logs_make_history : (C P : Type 0) → LogsMakeHistory C P
logs_make_history C P log inside runs = (stands C P log inside runs).made

told_once : (C P : Type 0) (log : List Event) (inside : InsideParts) → Runs C P log inside → IsDistinct (λ (a b : ℕ). a == b) (calls_told log)
told_once C P log inside runs =
    let is = stands C P log inside runs in
    subst (λ (l : List ℕ). IsDistinct (λ (a b : ℕ). a == b) l) is.taken is.sound.once

pub logs_tell_once : (C P : Type 0) → LogsTellOnce C P
logs_tell_once C P log inside runs =
    let is = stands C P log inside runs in
    record {
      taken = is.taken;
      over = subst (λ (l : List ℕ). All (IsTaken inside.kernel.history) l) is.taken is.sound.taken;
      once = told_once C P log inside runs;
      others = subst (λ (l : List ℕ). TookOthers inside.kernel.history l) is.taken is.sound.others;
    }

pub logs_tell_owners : (C P : Type 0) → LogsTellOwners C P
logs_tell_owners C P log inside runs = (stands C P log inside runs).owned

-- What one connection was given is part of what was told

part_all : (P : ℕ → Type 0) (xs ys : List ℕ) → IsPart xs ys → AllByRecursion P ys → AllByRecursion P xs
part_all P _ _ Ends all = tt
part_all P _ _ (Skips x xs ys part) all = part_all P xs ys part all.1
part_all P _ _ (Keeps x xs ys part) all = (all.0, part_all P xs ys part all.1)

part_distinct : (xs ys : List ℕ) → IsPart xs ys → IsDistinct (λ (a b : ℕ). a == b) ys → IsDistinct (λ (a b : ℕ). a == b) xs
unfolding IsDistinct
part_distinct _ _ Ends once = tt
part_distinct _ _ (Skips x xs ys part) once = part_distinct xs ys part once.1
part_distinct _ _ (Keeps x xs ys part) once = (part_all (λ (y : ℕ). (x == y) ≡ false) xs ys part once.0, part_distinct xs ys part once.1)

part_both : (a b c d : List ℕ) → IsPart a b → IsPart c d → IsPart (a ++ c) (b ++ d)
part_both _ _ c d Ends other = other
part_both _ _ c d (Skips x xs ys part) other = Skips x (xs ++ c) (ys ++ d) (part_both xs ys c d part other)
part_both _ _ c d (Keeps x xs ys part) other = Keeps x (xs ++ c) (ys ++ d) (part_both xs ys c d part other)

part_same : (xs : List ℕ) → IsPart xs xs
part_same [] = Ends
part_same (x ∷ xs) = Keeps x xs xs (part_same xs)

part_none : (ys : List ℕ) → IsPart [] ys
part_none [] = Ends
part_none (y ∷ ys) = Skips y [] ys (part_none ys)

given_both : (first second : List Given) → calls_given (first ++ second) ≡ calls_given first ++ calls_given second
given_both [] second = refl
given_both (next ∷ first) second =
    ap (λ (l : List ℕ). call_of next ++ l) (given_both first second) ∙ sym (append_assoc (call_of next) (calls_given first) (calls_given second))

part_given : (number : ℕ) (gave : List Gift) → IsPart (calls_given (given_in number gave)) (calls_of gave)
part_given number [] = Ends
part_given number (gift ∷ gave) = go (gift.number == number) (part_given number gave)
  where
    go : (b : Bool) → IsPart (calls_given (given_in number gave)) (calls_of gave)
        → IsPart (calls_given (if b then gift.given ∷ given_in number gave else given_in number gave)) (call_of gift.given ++ calls_of gave)
    go true rest = part_both (call_of gift.given) (call_of gift.given) (calls_given (given_in number gave)) (calls_of gave) (part_same (call_of gift.given)) rest
    go false rest = part_both [] (call_of gift.given) (calls_given (given_in number gave)) (calls_of gave) (part_none (call_of gift.given)) rest

part_by : (number : ℕ) (next : Event) → IsPart (calls_given (given_in number (gifts_by next))) (calls_by next)
part_by number (event.Acted now commands answers gave) = part_given number gave
part_by number (event.Asked now place owns requests space said gave) = part_given number gave
part_by number (event.Ended now place own is_by_reader gave) = part_given number gave
part_by number (event.Looked place gave) = part_given number gave
part_by number (event.Laid gave) = part_given number gave
part_by number (event.Worked place own gave) = part_given number gave
part_by number (event.Connected place own) = Ends
part_by number (event.Declined own) = Ends
part_by number (event.Posted place own said) = Ends
part_by number (event.Released place own) = Ends
part_by number (event.Took thread taken outcomes) = part_none (calls_by (event.Took thread taken outcomes))
part_by number (event.Marked upto) = Ends
part_by number event.Parted = Ends

part_log : (number : ℕ) (log : List Event) → IsPart (calls_given (given_to number log)) (calls_told log)
part_log number [] = Ends
part_log number (next ∷ log) =
    subst (λ (l : List ℕ). IsPart l (calls_by next ++ calls_told log)) (sym (given_both (given_in number (gifts_by next)) (given_to number log)))
    (part_both (calls_given (given_in number (gifts_by next))) (calls_by next) (calls_given (given_to number log)) (calls_told log) (part_by number next) (part_log number log))

-- what passes a test, and what rises
part_filter : (test : ℕ → Bool) (xs ys : List ℕ) → IsPart xs ys → IsPart (filter test xs) (filter test ys)
part_filter test _ _ Ends = Ends
part_filter test _ _ (Skips x xs ys part) = go (test x) (part_filter test xs ys part)
  where
    go : (b : Bool) → IsPart (filter test xs) (filter test ys) → IsPart (filter test xs) (cond b (x ∷ filter test ys) (filter test ys))
    go true rest = Skips x (filter test xs) (filter test ys) rest
    go false rest = rest
part_filter test _ _ (Keeps x xs ys part) = go (test x) (part_filter test xs ys part)
  where
    go : (b : Bool) → IsPart (filter test xs) (filter test ys) → IsPart (cond b (x ∷ filter test xs) (filter test xs)) (cond b (x ∷ filter test ys) (filter test ys))
    go true rest = Keeps x (filter test xs) (filter test ys) rest
    go false rest = rest

part_among : (xs ys : List ℕ) → IsPart xs ys → (n : ℕ) → is_in xs n ≡ true → is_in ys n ≡ true
part_among _ _ Ends n among = among
part_among _ _ (Skips x xs ys part) n among = or_right (x == n) (is_in ys n) (part_among xs ys part n among)
part_among _ _ (Keeps x xs ys part) n among = go (x == n) (part_among xs ys part n) among
  where
    go : (b : Bool) → (is_in xs n ≡ true → is_in ys n ≡ true) → b || is_in xs n ≡ true → b || is_in ys n ≡ true
    go true rest h = refl
    go false rest h = rest h

part_rising : (xs ys : List ℕ) → IsPart xs ys → IsRising ys → IsRising xs
part_rising _ _ Ends rising = tt
part_rising _ _ (Skips x xs ys part) rising = part_rising xs ys part rising.1
part_rising _ _ (Keeps x xs ys part) rising = (λ n among. rising.0 n (part_among xs ys part n among), part_rising xs ys part rising.1)

pub logs_give_once : (C P : Type 0) → LogsGiveOnce C P
logs_give_once C P log inside runs number =
    let is = stands C P log inside runs in
    let part : IsPart (calls_given (given_to number log)) inside.kernel.taken =
    subst (λ (l : List ℕ). IsPart (calls_given (given_to number log)) l) (sym is.taken) (part_log number log) in
    record {
      part = part;
      once = part_distinct (calls_given (given_to number log)) inside.kernel.taken part is.sound.once;
      order = λ thread.
          part_rising (filter (λ n. caller_of inside.kernel.history n == thread) (calls_given (given_to number log))) (filter (λ n. caller_of inside.kernel.history n == thread) inside.kernel.taken)
          (part_filter (λ n. caller_of inside.kernel.history n == thread) (calls_given (given_to number log)) inside.kernel.taken part) (is.order thread);
    }
