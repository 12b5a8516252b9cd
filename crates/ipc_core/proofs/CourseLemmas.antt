-- What keeps a course.
use Rattle.std.proofs.Common.{◌≡◌, refl, sym, ap, ap₂, ◌∙◌, subst, ℕ, zero, suc, ◌+◌, ◌<◌, ◌≤◌, ◌^◌, ◌==◌, eq-eqb, Bool, not, ◌||◌, if◌then◌else◌, unwrap_or, option_and_then, IfSome, List, [], ◌∷◌, ◌++◌, length, length-append, take, drop, true, false, IsTrue, nat_lt, Option, Some, None, arith}
use Rattle.std.specs.Option.{option_map_or}
use Rattle.std.specs.List.{list_any}
use Rattle.ipc_history.specs.Calls.{numbers}
use Rattle.ipc_history.specs.Threads.{has_broken, is_live, now}
use Rattle.ipc_history.specs.Timing.{is_due_at}
use Rattle.ipc_history.specs.Legal.{Legal, Quiet, Follows, is_admissible}
use Rattle.ipc_history.specs.declared.entry.Entry.{Entry}
use Rattle.ipc_history.specs.declared.entry.Entry.TheVariants.{Given, Written}
use Rattle.ipc_core.specs.CourseParts.{ComesIdle, CourseParts, SameBooks}
use Rattle.ipc_core.specs.Finished.{is_of, with_name}
use Rattle.ipc_history.specs.Calls.{caller_of}
use Rattle.ipc_history.specs.Outcomes.{OutcomeParts, end_moment, nothing, outcome_in, outcome_of, timed}
use Rattle.ipc_history.specs.Phases.{is_over}
use Rattle.ipc_history.specs.Words.{first_some}
use Rattle.ipc_desks.specs.CallsOf.{is_busy, last_call, outcome_to_take, untaken_outcome}
use Rattle.ipc_desks.proofs.LastCalls.{last_is}
use Rattle.std.proofs.lemmas.Option.{none-some}
use Rattle.ipc_core.specs.Outcomes.{IsTaken, finished_from, is_among}
use Rattle.ipc_core.proofs.BookLemmas.{none_twice}
use Rattle.ipc_core.proofs.BusyLaws.{clock_call, no_call}
use Rattle.ipc_core.proofs.FinishedLaws.{finished_clock, finished_live, finished_more, finished_none, named_more, named_once, names_few}
use Rattle.ipc_desks.specs.PastDesks.{PastDesks}
use Rattle.ipc_desks.specs.Finishes.{finishes}
use Rattle.ipc_words.specs.Limits.{table_slots}
use Rattle.std.proofs.lemmas.List.{take_all, take-append-drop, take-append-le}
use Rattle.std.specs.List.{IsDistinct}
use Rattle.ipc_history.specs.NextOutput.{next_output}
use Rattle.ipc_history.specs.Settled.{Continued, Settled}
use Rattle.ipc_history.specs.declared.entry.Output.{Output}
use Rattle.ipc_history.specs.declared.entry.Input.{Input}
use Rattle.ipc_history.specs.declared.entry.Input.TheVariants.{At, Opened, Called, Exreg, Broke, Moved}
use Rattle.ipc_laws.specs.Counting.{all_steps_left, room_owed}
use Rattle.std.proofs.lemmas.Bool.{lt-ltb, or_left, or_right}
use Rattle.ipc_laws.proofs.Tests.{both}
use Rattle.ipc_laws.proofs.Settling.{legal_push}
use Rattle.ipc_laws.proofs.Histories.{follows_last}
use Rattle.ipc_waits.specs.Waiting.{IsWaiting}
use Rattle.ipc_waits.specs.declared.waiting.Waiting.{Waiting}
use Rattle.ipc_core.specs.Steps.{at_if_later, with_input}
use Rattle.ipc_core.specs.CommandRoom.{command_need, is_clock}
use Rattle.ipc_core.specs.Invariants.{IsCourse}
use Rattle.ipc_core.proofs.Commands.{clock_brings, clock_legal, clock_room, command_legal, command_room, nothing_legal, continued_none, continued_more, settled_at, output_legal, output_room, output_falls}

-- the empty history
take_none : (H : List Entry) → H ≡ [] → (k : ℕ) → take k H ≡ []
take_none H empty zero = refl
take_none H empty (suc k) = rw empty refl

pub course_none : (H : List Entry) (waiting : Waiting) (desks : PastDesks) (since : ℕ) (finished : List ℕ) (width : ℕ) → H ≡ [] → waiting.slots.past ≡ [] → IsWaiting waiting → desks.past ≡ [] → since ≡ 0 → finished ≡ [] → table_slots ≤ width → IsCourse H waiting desks since finished width
course_none H waiting desks since finished width empty slots stands none start nobody wide = record {
  legal = subst Legal (sym empty) nothing_legal;
  waits_in = slots ∙ sym empty;
  waiting_is = stands;
  desks_of = none ∙ sym empty;
  names = λ t. ap (is_among t) nobody ∙ sym (ap₂ (λ p h. finished_from p h t) (take_none H empty since) empty ∙ finished_none [] nothing_legal t);
  once = subst (IsDistinct (λ a b. a == b)) (sym nobody) none_twice;
  begun = omega (arith, start);
  wide = wide;
}

-- where a command begins it has finished nothing
pub course_begins : (H : List Entry) (waiting : Waiting) (desks : PastDesks) (since start : ℕ) (finished names : List ℕ) (width wider : ℕ) → IsCourse H waiting desks since finished width → start ≡ length H → names ≡ [] → width ≤ wider → IsCourse H waiting desks start names wider
course_begins H waiting desks since start finished names width wider course begins nobody more = record {
  legal = course.legal;
  waits_in = course.waits_in;
  waiting_is = course.waiting_is;
  desks_of = course.desks_of;
  names = λ t. ap (is_among t) nobody ∙ sym (ap (λ p. finished_from p H t) (ap (λ k. take k H) begins ∙ take_all (length H) H (omega arith)) ∙ finished_none H course.legal t);
  once = subst (IsDistinct (λ a b. a == b)) (sym nobody) none_twice;
  begun = omega (arith, begins);
  wide = (let wide = course.wide in omega (arith, wide, more));
}

-- one more entry that follows
module _ (H K : List Entry) (e : Entry) (waiting : Waiting) (desks : PastDesks) (since : ℕ) (finished : List ℕ) (width : ℕ) (course : IsCourse H waiting desks since finished width) (follows : Follows H e) (longer : K ≡ H ++ e ∷ []) (fresh : (t : ℕ) → is_of t e ≡ true → finished_from (take since H) H t ≡ false) (first second : Option ℕ) (named : (t : ℕ) → (option_map_or (λ s. s == t) first false || option_map_or (λ s. s == t) second false) ≡ finishes desks.past e t) where
  same_front : take since K ≡ take since H
  same_front = ap (take since) longer ∙ take-append-le since H (e ∷ []) course.begun

  -- who is named then
  pub names_then : (t : ℕ) → is_among t (with_name (with_name finished first) second) ≡ finished_from (take since K) K t
  names_then t =
      let step = named_more (with_name finished first) second t ∙ ap (λ b. b || option_map_or (λ s. s == t) second false) (named_more finished first t) in
      let both : (is_among t finished || option_map_or (λ s. s == t) first false || option_map_or (λ s. s == t) second false) ≡ (is_among t finished || (option_map_or (λ s. s == t) first false || option_map_or (λ s. s == t) second false)) = or_assoc (is_among t finished) (option_map_or (λ s. s == t) first false) (option_map_or (λ s. s == t) second false) in
      let parts = ap₂ (λ a b. a || b) (course.names t) (named t ∙ ap (λ l. finishes l e t) course.desks_of) in
      let more = finished_more (take since H) (drop since H) H e course.legal (sym (take-append-drop since H)) follows t (fresh t) in
      step ∙ (both ∙ (parts ∙ (sym more ∙ ap₂ (λ p h. finished_from p h t) (sym same_front) (sym longer))))
    where
      or_assoc : (a b c : Bool) → ((a || b) || c) ≡ (a || (b || c))
      or_assoc true b c = refl
      or_assoc false b c = refl

  legal_then : Legal K
  legal_then = subst Legal (sym longer) (legal_push H e course.legal follows)

  names_live : (t : ℕ) → is_among t (with_name (with_name finished first) second) ≡ true → is_live K t ≡ true
  names_live t among = finished_live (take since K) K t (sym (names_then t) ∙ among)

  -- for whom there is a place
  pub first_place : (t : ℕ) → first ≡ Some t → is_among t finished ≡ false → length finished < width
  first_place t is absent =
      let few = names_few K legal_then finished t course.once (λ s among. names_live s (named_more (with_name finished first) second s ∙ or_left _ _ (named_more finished first s ∙ or_left _ _ among))) (names_live t (named_more (with_name finished first) second t ∙ or_left _ _ (named_more finished first t ∙ or_right _ _ (ap (λ o. option_map_or (λ s. s == t) o false) is ∙ eq-eqb t t refl)))) absent in
      let wide = course.wide in
      omega (arith, few, wide)

  pub second_place : (t wider : ℕ) → width ≤ wider → second ≡ Some t → is_among t (with_name finished first) ≡ false → length (with_name finished first) < wider
  second_place t wider more is absent =
      let few = names_few K legal_then (with_name finished first) t (named_once finished first course.once) (λ s among. names_live s (named_more (with_name finished first) second s ∙ or_left _ _ among)) (names_live t (named_more (with_name finished first) second t ∙ or_right _ _ (ap (λ o. option_map_or (λ s. s == t) o false) is ∙ eq-eqb t t refl))) absent in
      let wide = course.wide in
      omega (arith, few, wide, more)

  pub course_more : (after : Waiting) (kept : PastDesks) (names : List ℕ) (wider : ℕ) → after.slots.past ≡ waiting.slots.past ++ e ∷ [] → IsWaiting after → kept.past ≡ desks.past ++ e ∷ [] → names ≡ with_name (with_name finished first) second → width ≤ wider → IsCourse K after kept since names wider
  course_more after kept names wider told stands noted names_are more =
      let begun = course.begun in
      record {
        legal = legal_then;
        waits_in = told ∙ ap (λ l. l ++ e ∷ []) course.waits_in ∙ sym longer;
        waiting_is = stands;
        desks_of = noted ∙ ap (λ l. l ++ e ∷ []) course.desks_of ∙ sym longer;
        names = λ t. ap (is_among t) names_are ∙ names_then t;
        begun = omega (arith, begun, ap length longer, length-append H (e ∷ []));
        once = subst (IsDistinct (λ a b. a == b)) (sym names_are) (named_once (with_name finished first) second (named_once finished first course.once));
        wide = (let wide = course.wide in omega (arith, wide, more));
      }

-- what holds where there is one
pub each_some : {X : Type 0} (o : Option X) (P : X → Type 0) → ((x : X) → o ≡ Some x → P x) → IfSome o P
each_some None P h = tt
each_some (Some x) P h = h x refl

-- what is taken is over, and was not taken before
pub took : (H : List Entry) (taken : List ℕ) (t : ℕ) (o : OutcomeParts) → Legal H → outcome_to_take H taken t ≡ Some o → last_call H t ≡ Some o.call → IsTaken H o.call × (is_among o.call taken ≡ false)
unfolding outcome_to_take outcome_of
took H taken t o legal given last = go (is_among o.call taken) (is_over H o.call) (has_broken H (caller_of H o.call)) refl refl (sym (ap (option_and_then (untaken_outcome H taken)) last) ∙ given)
  where
    go : (a b c : Bool) → is_among o.call taken ≡ a → is_over H o.call ≡ b → (if a then None else (if not b || c then None else Some (timed (end_moment H o.call) (unwrap_or (first_some (outcome_in H o.call) H) (nothing o.call))))) ≡ Some o → IsTaken H o.call × (is_among o.call taken ≡ false)
    go true b c among over e = absurd (none-some o e)
    go false false c among over e = absurd (none-some o e)
    go false true c among over e = (record { called = (last_is H legal t o.call last).1; over = over }, among)

pub took_now : (P H : List Entry) (told taken : List ℕ) (t : ℕ) (o : OutcomeParts) → P ≡ H → told ≡ taken → Legal P → outcome_to_take P told t ≡ Some o → last_call P t ≡ Some o.call → IsTaken H o.call × (is_among o.call taken ≡ false)
took_now P H told taken t o seen same legal given last =
    subst (λ k. IsTaken H o.call × (is_among o.call k ≡ false)) same (subst (λ l. IsTaken l o.call × (is_among o.call told ≡ false)) seen (took P told t o legal given last))

-- a command's input ends nobody's outcome that it finished, since it has finished none
pub input_fresh : (H E : List Entry) (moment since : ℕ) (e : Entry) → Legal H → E ≡ H ++ at_if_later H moment → since ≡ length H → (t : ℕ) → is_of t e ≡ true → finished_from (take since E) E t ≡ false
input_fresh H E moment since e legal is begins t of = ap₂ (λ p h. finished_from p h t) (ap₂ (λ k l. take k l) begins is ∙ (take-append-le (length H) H (at_if_later H moment) (omega arith) ∙ take_all (length H) H (omega arith))) is ∙ finished_clock H moment legal t

-- there is room for each of the last two entries
pub room_for_last : (H at : List Entry) (e : Entry) (owed room : ℕ) → length ((H ++ at) ++ e ∷ []) + owed ≤ room → (length H < room) × (length (H ++ at) < room)
room_for_last H at e owed room fits =
    let whole = length-append (H ++ at) (e ∷ []) in
    let front = length-append H at in
    (omega arith, omega arith)

pub clock_follows : (H : List Entry) (moment : ℕ) → Quiet H → moment < 2 ^ 63 → IsTrue (nat_lt (now H) moment) → Follows H (Given (At moment))
unfolding Follows is_admissible
clock_follows H moment quiet below later = (quiet, both (nat_lt (now H) moment) (nat_lt moment (2 ^ 63)) later (lt-ltb moment (2 ^ 63) below))

-- what a command appends follows, and there is room for it
module _ (H : List Entry) (moment room : ℕ) (input : Input) (legal : Legal H) (quiet : Quiet H) (below : moment < 2 ^ 63) (undue : list_any (is_due_at H moment) (numbers H) ≡ false) (admissible : IsTrue (is_admissible H input)) (no_clock : is_clock input ≡ false) where
  pub command_spent : length (with_input H moment input) + room_owed (with_input H moment input) ≤ length H + room_owed H + command_need input
  command_spent = command_room H moment input legal (command_legal H moment input legal quiet below undue admissible no_clock) no_clock

  pub command_follows : Follows (H ++ at_if_later H moment) (Given input)
  command_follows = follows_last (H ++ at_if_later H moment) (Given input) (command_legal H moment input legal quiet below undue admissible no_clock)

  pub command_places : length H + room_owed H + command_need input ≤ room → (length H < room) × (length (H ++ at_if_later H moment) < room)
  command_places fits = room_for_last H (at_if_later H moment) (Given input) (room_owed (with_input H moment input)) room (let spent = command_spent in omega arith)

-- a course goes on by outputs, within its room
pub record Goes (old new : CourseParts) : Type 0 where
  pub continued : Continued old.entries new.entries
  pub legal : Legal new.entries
  pub room : new.room ≡ old.room
  pub spent : length new.entries + room_owed new.entries ≤ length old.entries + room_owed old.entries
  pub fits : length new.entries + room_owed new.entries ≤ new.room
  pub books : SameBooks old new

pub same_books : (course : CourseParts) → SameBooks course course
same_books course = record { taken = refl; since = refl; held = refl }

pub more_books : (a b c : CourseParts) → SameBooks a b → SameBooks b c → SameBooks a c
more_books a b c x y = record { taken = y.taken ∙ x.taken; since = y.since ∙ x.since; held = y.held ∙ x.held }

pub goes_none : (old : CourseParts) → Legal old.entries → length old.entries + room_owed old.entries ≤ old.room → Goes old old
goes_none old legal fits = record { continued = continued_none old.entries; legal = legal; room = refl; spent = omega arith; fits = fits; books = same_books old }

-- the next output follows, and there is a place for it
pub output_follows : (H : List Entry) (output : Output) → next_output H ≡ Some output → Follows H (Written output)
unfolding Follows
output_follows H output next = next

pub output_place : (old new : CourseParts) (output : Output) → Goes old new → next_output new.entries ≡ Some output → length new.entries < new.room
output_place old new output goes next =
    let within = output_room new.entries output goes.legal next in
    let longer = length-append new.entries (Written output ∷ []) in
    let fits = goes.fits in
    omega arith

pub goes_more : (old new after : CourseParts) (output : Output) → Goes old new → next_output new.entries ≡ Some output → after.entries ≡ new.entries ++ Written output ∷ [] → after.room ≡ new.room → SameBooks new after → Goes old after
goes_more old new after output goes next longer same books =
    let within = output_room new.entries output goes.legal next in
    let spent : length (new.entries ++ Written output ∷ []) + room_owed (new.entries ++ Written output ∷ []) ≤ length old.entries + room_owed old.entries = (let before = goes.spent in omega arith) in
    let fits : length (new.entries ++ Written output ∷ []) + room_owed (new.entries ++ Written output ∷ []) ≤ new.room = (let before = goes.fits in omega arith) in
    record {
      continued = subst (λ l. Continued old.entries l) (sym longer) (continued_more old.entries new.entries output goes.continued goes.legal next);
      legal = subst Legal (sym longer) (output_legal new.entries output goes.legal next);
      room = same ∙ goes.room;
      spent = subst (λ l. length l + room_owed l ≤ length old.entries + room_owed old.entries) (sym longer) spent;
      fits = subst (λ r. length after.entries + room_owed after.entries ≤ r) (sym same) (subst (λ l. length l + room_owed l ≤ new.room) (sym longer) fits);
      books = more_books old new after goes.books books;
    }

pub goes_falls : (new after : CourseParts) (output : Output) → Legal new.entries → next_output new.entries ≡ Some output → after.entries ≡ new.entries ++ Written output ∷ [] → all_steps_left after.entries < all_steps_left new.entries
goes_falls new after output legal next longer = subst (λ l. all_steps_left l < all_steps_left new.entries) (sym longer) (output_falls new.entries output legal next)

pub goes_settled : (old new : CourseParts) → Goes old new → Quiet new.entries → Settled old.entries new.entries
goes_settled old new goes quiet = settled_at old.entries new.entries goes.continued quiet

-- where a phase is due, its At and the failure that it brings have their places
module _ (H : List Entry) (moment room : ℕ) (legal : Legal H) (quiet : Quiet H) (later : now H < moment) (below : moment < 2 ^ 63) (due : list_any (is_due_at H moment) (numbers H) ≡ true) (fits : length H + room_owed H ≤ room) where
  pub tick_legal : Legal (H ++ Given (At moment) ∷ [])
  tick_legal = clock_legal H moment legal quiet later below

  pub tick_follows : Follows H (Given (At moment))
  tick_follows = follows_last H (Given (At moment)) tick_legal

  tick_spent : (output : Output) → next_output (H ++ Given (At moment) ∷ []) ≡ Some output → length ((H ++ Given (At moment) ∷ []) ++ Written output ∷ []) + room_owed ((H ++ Given (At moment) ∷ []) ++ Written output ∷ []) ≤ length H + room_owed H
  tick_spent output brings = clock_room H moment output tick_legal brings

  tick_room : (output : Output) → next_output (H ++ Given (At moment) ∷ []) ≡ Some output → (length H < room) × (length (H ++ Given (At moment) ∷ []) < room)
  tick_room output brings = room_for_last H (Given (At moment) ∷ []) (Written output) (room_owed ((H ++ Given (At moment) ∷ []) ++ Written output ∷ [])) room (let spent = tick_spent output brings in omega arith)

  pub tick_place : length H < room
  tick_place = let brings = clock_brings H moment legal quiet due in (tick_room brings.0 brings.1).0

  pub tick_next : (Q : List Entry) (places : ℕ) → Q ≡ H ++ Given (At moment) ∷ [] → places ≡ room → length Q < places
  tick_next Q places longer same = let brings = clock_brings H moment legal quiet due in rw (longer, same) (tick_room brings.0 brings.1).1

  -- it does bring one
  pub tick_brings : (Q : List Entry) → Q ≡ H ++ Given (At moment) ∷ [] → next_output Q ≡ None → ⊥
  tick_brings Q longer none = let brings = clock_brings H moment legal quiet due in let one : None ≡ Some brings.0 = sym none ∙ (ap next_output longer ∙ brings.1) in cc

  pub tick_continues : (Q R : List Entry) (output : Output) → Q ≡ H ++ Given (At moment) ∷ [] → next_output Q ≡ Some output → R ≡ Q ++ Written output ∷ [] → Continued (H ++ Given (At moment) ∷ []) R
  tick_continues Q R output longer next more = rw (more, longer) (continued_more _ _ output (continued_none (H ++ Given (At moment) ∷ [])) tick_legal (sym (ap next_output longer) ∙ next))

  pub tick_spends : (Q R : List Entry) (output : Output) → Q ≡ H ++ Given (At moment) ∷ [] → next_output Q ≡ Some output → R ≡ Q ++ Written output ∷ [] → length R + room_owed R ≤ length H + room_owed H
  tick_spends Q R output longer next more = rw (more, longer) (tick_spent output (sym (ap next_output longer) ∙ next))

-- who is not busy is not busy after an At
busy_clocked : (H : List Entry) (moment : ℕ) (taken : List ℕ) (thread : ℕ) → is_busy (H ++ at_if_later H moment) taken thread ≡ is_busy H taken thread
unfolding is_busy
busy_clocked H moment taken thread = ap (λ o. option_map_or (λ n. not (is_among n taken)) o false) (no_call H (at_if_later H moment) thread (clock_call H moment thread))

pub clocked_idle : (H : List Entry) (moment : ℕ) (taken : List ℕ) (input : Input) → ComesIdle H taken (Given input) → ComesIdle (H ++ at_if_later H moment) taken (Given input)
clocked_idle H moment taken (Called n thread call) idle = busy_clocked H moment taken thread ∙ idle
clocked_idle H moment taken (At reading) idle = idle
clocked_idle H moment taken (Opened thread space) idle = idle
clocked_idle H moment taken (Exreg thread target control) idle = idle
clocked_idle H moment taken (Broke thread) idle = idle
clocked_idle H moment taken (Moved k count) idle = idle
