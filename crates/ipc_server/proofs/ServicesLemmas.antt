-- All connections of a server, in one log.
use Rattle.std.proofs.Common.{◌≡◌, ◌==◌, ◌++◌, ◌∷◌, [], ℕ, Bool, List, Option, Some, None, append_assoc, append-nil, arith, eq-eqb, map, refl, sym, ap, ◌∙◌, subst}
use Rattle.std.specs.List.{AllByRecursion, IsDistinct, list_any}
use Rattle.std.specs.Prelude.{Contains, IfNone, IfSome, option_and_then}
use mathlib.Core.List.{IsPrefix}
use Rattle.ipc_seats.specs.Owning.{done_by, ended_by, is_by}
use Rattle.ipc_seats.specs.declared.events.Event.{Event}
use Rattle.ipc_seats.specs.declared.events.Event.TheVariants as event
use Rattle.ipc_lock.specs.Above.{EndsAll, FindsNone, HandsOut}
use Rattle.ipc_lock.specs.Logs.{is_box_of}
use Rattle.ipc_lock.specs.declared.ends.PostEnd.{PostEnd}
use Rattle.ipc_base.proofs.LogRows.{ends_last_at, entries_more, entries_one, numbers_one}
use Rattle.ipc_base.specs.LogRules.{EndsLast, EndsOnce, numbers_of}
use Rattle.ipc_server.specs.Doing.{DidAll}
use Rattle.ipc_server.specs.Services.{AreServed, IsServed, ServesAll, WasServed, came_before, number_of, read_by, with_sent}
use Rattle.ipc_server.specs.declared.served.Service.{Service}
use Rattle.ipc_server.proofs.DoingLemmas.{does_some}
use Rattle.ipc_server.proofs.HomeLemmas.{did_keep, is_found}
use Rattle.ipc_session.specs.Keeping.{call_of}
use Rattle.ipc_session.specs.Sessions.{MayAskFor}
use Rattle.ipc_session.specs.declared.deed.Deed.{Deed}

prefix_both : (one other log : List Event) → IsPrefix one other → IsPrefix other log → IsPrefix one log
prefix_both one other log p q = (p.0 ++ q.0, sym (append_assoc one p.0 q.0) ∙ (ap (λ (l : List Event). l ++ q.0) p.1 ∙ q.1))

all_on : {A : Type 0} (F G : A → Type 0) (xs : List A) → ((x : A) → F x → G x) → AllByRecursion F xs → AllByRecursion G xs
all_on F G [] on h = tt
all_on F G (x ∷ xs) on h = (on x h.0, all_on F G xs on h.1)

all_more : {A : Type 0} (F : A → Type 0) (xs : List A) (x : A) → AllByRecursion F xs → F x → AllByRecursion F (xs ++ x ∷ [])
all_more F [] x h it = (it, tt)
all_more F (y ∷ ys) x h it = (h.0, all_more F ys x h.1 it)

map_more : (xs : List Service) (x : Service) → map number_of (xs ++ x ∷ []) ≡ map number_of xs ++ x.number ∷ []
map_more [] x = refl
map_more (y ∷ ys) x = ap (λ (l : List ℕ). y.number ∷ l) (map_more ys x)

-- the log went on
was_on : (C P : Type 0) (log log_now : List Event) (service : Service) → IsPrefix log log_now → WasServed C P log service → WasServed C P log_now service
was_on C P log log_now service on h =
    record { asks = h.asks; does = h.does; number = h.number; in_log = prefix_both h.does.hands.releases.after.log log log_now h.in_log on }

pub none_served : (C P : Type 0) (log : List Event) (services : List Service) → log ≡ [] → services ≡ [] → AreServed C P log services
none_served C P log services none nobody = record {
  each = subst (λ (l : List Service). AllByRecursion (WasServed C P log) l) (sym nobody) tt;
  numbers = ap (map number_of) nobody ∙ sym (ap (numbers_of ended_by) none);
}

-- one more was served
one_more : (C P : Type 0) (roll roll_now : List Event) (all : List Service) (left : PostEnd C) (before came out : Option (List ℕ)) (deeds : List Deed)
    → AreServed C P roll all → MayAskFor before came (map call_of deeds) → DidAll P deeds left → HandsOut C P left.place left.own roll roll_now out
    → AreServed C P roll_now (all ++ with_sent out (read_by before left.space left.own.number came deeds) ∷ [])
one_more C P roll roll_now all left before came out deeds h asks did hands =
    let service : Service = with_sent out (read_by before left.space left.own.number came deeds) in
    let last : Event = event.Released left.place left.own.number in
    let log : List Event = hands.releases.before.log in
    let grows : roll_now ≡ log ++ last ∷ [] = hands.rolls.now ∙ hands.releases.turned.log in
    let on : IsPrefix roll roll_now = prefix_both roll log roll_now hands.rolls.began (last ∷ [], sym grows) in
    record {
      each = all_more (WasServed C P roll_now) all service (all_on (WasServed C P roll) (WasServed C P roll_now) all (λ s. was_on C P roll roll_now s on) h.each)
          (record {
            asks = asks;
            does = does_some P left deeds (Some out) out roll roll_now did refl hands;
            number = refl;
            in_log = ([], append-nil hands.releases.after.log ∙ sym hands.rolls.now);
          });
      numbers = map_more all service ∙ (ap (λ (l : List ℕ). l ++ left.own.number ∷ []) (h.numbers ∙ hands.rolls.ended)
          ∙ (sym (numbers_one ended_by log last left.own.number refl) ∙ sym (ap (numbers_of ended_by) grows)));
    }

pub checks_in : (C P : Type 0) {Q : Type 0} (roll roll_now : List Event) (all read all_now : List Service) (left : PostEnd C) (before came : Option (List ℕ)) (deeds : List Deed)
    (port : Option Q) (written : Q → Option (List ℕ))
    → AreServed C P roll all → MayAskFor before came (map call_of deeds) → DidAll P deeds left
    → IfSome port (λ p. HandsOut C P left.place left.own roll roll_now (written p)) → IfNone port (FindsNone C P left.place left.own)
    → read ≡ read_by before left.space left.own.number came deeds ∷ [] → all_now ≡ all ++ map (with_sent (option_and_then written port)) read
    → AreServed C P roll_now all_now
checks_in C P roll roll_now all read all_now left before came deeds None written h asks did hands none is are =
    absurd (is_found C P left.place left.own (did_keep P deeds left did) none)
checks_in C P roll roll_now all read all_now left before came deeds (Some port) written h asks did hands none is are =
    subst (λ (l : List Service). AreServed C P roll_now l) (sym (are ∙ ap (λ (l : List Service). all ++ map (with_sent (written port)) l) is))
    (one_more C P roll roll_now all left before came (written port) deeds h asks did hands)

-- where the last one had ended
is_served : (C P : Type 0) (log : List Event) (service : Service) → EndsOnce is_by ended_by log → WasServed C P log service → IsServed C P log service
is_served C P log service once was =
    let left = was.does.left in
    let number : ℕ = left.own.number in
    let last : Event = event.Released left.place number in
    let before : List Event = was.does.hands.releases.before.log in
    let rest : List Event = was.in_log.0 in
    let log_is : log ≡ before ++ last ∷ rest =
    sym was.in_log.1 ∙ (ap (λ (l : List Event). l ++ rest) was.does.hands.releases.turned.log ∙ append_assoc before (last ∷ []) rest) in
    let none : done_by number rest ≡ [] =
    ends_last_at is_by ended_by before last rest number (subst (λ (l : List Event). EndsLast is_by ended_by l) log_is once.over) (0, omega arith, refl) in
    let own : done_by number (last ∷ rest) ≡ last ∷ [] =
    entries_more is_by number (last ∷ []) rest
    ∙ (ap (λ (l : List Event). l ++ done_by number rest) (entries_one is_by number last (eq-eqb number number refl)) ∙ ap (λ (l : List Event). last ∷ l) none) in
    let all : done_by number log ≡ left.own.mine ++ last ∷ [] =
    ap (done_by number) log_is ∙ (entries_more is_by number before (last ∷ rest)
    ∙ (ap (λ (l : List Event). l ++ done_by number (last ∷ rest)) (sym was.does.hands.releases.knew.all) ∙ ap (λ (l : List Event). left.own.mine ++ l) own)) in
    record { was = was; all = subst (λ (n : ℕ). done_by n log ≡ left.own.mine ++ event.Released left.place n ∷ []) was.number all }

pub serve_all : (C P : Type 0) (roll roll_now : List Event) (all : List Service) → AreServed C P roll all → EndsAll C P roll roll_now → ServesAll C P roll_now all
serve_all C P roll roll_now all h ends =
    let numbers : map number_of all ≡ numbers_of ended_by roll_now = h.numbers ∙ ends.ended in
    record {
      inside = ends.inside;
      runs = ends.runs;
      each = all_on (WasServed C P roll) (IsServed C P roll_now) all (λ s was. is_served C P roll_now s ends.once (was_on C P roll roll_now s ends.began was)) h.each;
      once = subst (λ (l : List ℕ). IsDistinct (λ (a b : ℕ). a == b) l) (sym numbers) ends.once.once;
      all = λ number place got. subst (λ (l : List ℕ). Contains l number) (sym numbers) (ends.all number place got);
    }
