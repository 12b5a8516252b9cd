-- What keeps a course where a transfer begins and ends at once.
use Rattle.std.proofs.lemmas.Bool.{false≢true, or_left, or_right}
use Rattle.std.proofs.lemmas.List.{take-append-drop, take-append-le}
use Rattle.std.proofs.Common.{◌≡◌, refl, sym, ap, ap₂, ◌∙◌, subst, ℕ, ◌+◌, ◌<◌, ◌≤◌, ◌==◌, ◌||◌, eq-eqb, eqb-true, Bool, true, false, List, [], ◌∷◌, ◌++◌, length, length-append, take, drop, Option, Some, inl, inr, arith}
use Rattle.std.specs.List.{IsDistinct}
use Rattle.std.specs.Option.{option_map_or}
use Rattle.ipc_history.specs.Legal.{Legal, Follows}
use Rattle.ipc_history.specs.NextOutput.{next_output}
use Rattle.ipc_history.specs.Threads.{is_live}
use Rattle.ipc_history.specs.declared.entry.Entry.{Entry}
use Rattle.ipc_history.specs.declared.entry.Entry.TheVariants.{Written}
use Rattle.ipc_history.specs.declared.entry.Output.{Output}
use Rattle.ipc_history.specs.declared.entry.Output.TheVariants.{Began, Ended}
use Rattle.ipc_laws.specs.Counting.{all_steps_left, room_owed}
use Rattle.ipc_laws.proofs.Passing.{ends_next}
use Rattle.ipc_laws.proofs.Settling.{legal_push}
use Rattle.ipc_laws.proofs.Tests.{left, right}
use Rattle.ipc_desks.specs.Finishes.{finishes}
use Rattle.ipc_desks.specs.PastDesks.{PastDesks}
use Rattle.ipc_waits.specs.Passing.{passes_at_once}
use Rattle.ipc_waits.specs.Waiting.{IsWaiting}
use Rattle.ipc_waits.specs.declared.waiting.Waiting.{Waiting}
use Rattle.ipc_core.specs.CourseParts.{CourseParts, SameBooks}
use Rattle.ipc_core.specs.Finished.{is_of, with_name}
use Rattle.ipc_core.specs.Invariants.{IsCourse}
use Rattle.ipc_core.specs.Outcomes.{finished_from, is_among}
use Rattle.ipc_core.specs.Passing.{HasPassed, IsWritten}
use Rattle.ipc_core.proofs.Commands.{output_legal, output_room}
use Rattle.ipc_core.proofs.CourseLemmas.{Goes, goes_falls, goes_more, output_follows}
use Rattle.ipc_core.proofs.FinishedLaws.{finished_live, finished_more, named_more, named_once, names_few}
use Rattle.ipc_waits.proofs.CandidateLemmas.{or_assoc}

or_false : (a b : Bool) → b ≡ false → (a || b) ≡ a
or_false a b h = grind arith

-- An output that opens and breaks no thread, and enters no call, ends nobody's outcome
written_fresh : (H : List Entry) (P : List Entry) (output : Output) (t : ℕ) → is_of t (Written output) ≡ true → finished_from P H t ≡ false
written_fresh H P output t h = absurd (false≢true h)

module _ (H K : List Entry) (n m : ℕ) (waiting : Waiting) (desks : PastDesks) (since : ℕ) (finished : List ℕ) (width : ℕ) (course : IsCourse H waiting desks since finished width) (begins : Follows H (Written (Began n m))) (ends : Follows (H ++ Written (Began n m) ∷ []) (Written (Ended n m))) (longer : K ≡ (H ++ Written (Began n m) ∷ []) ++ Written (Ended n m) ∷ []) (unfinished : (t : ℕ) → finishes desks.past (Written (Began n m)) t ≡ false) (first second : Option ℕ) (named : (t : ℕ) → (option_map_or (λ s. s == t) first false || option_map_or (λ s. s == t) second false) ≡ finishes (desks.past ++ Written (Began n m) ∷ []) (Written (Ended n m)) t) where
  abbrev B : Entry
  B = Written (Began n m)

  abbrev E : Entry
  E = Written (Ended n m)

  abbrev R : List Entry
  R = H ++ Written (Began n m) ∷ []

  legal_one : Legal R
  legal_one = legal_push H B course.legal begins

  legal_then : Legal K
  legal_then = subst Legal (sym longer) (legal_push R E legal_one ends)

  longer_one : length R ≡ length H + 1
  longer_one = length-append H (B ∷ [])

  front_one : take since R ≡ take since H
  front_one = take-append-le since H (B ∷ []) course.begun

  front_two : take since K ≡ take since R
  front_two = ap (take since) longer ∙ take-append-le since R (E ∷ []) (let begun = course.begun in let long = longer_one in omega (arith, begun, long))

  -- who was named, and is named then
  names_one : (t : ℕ) → is_among t finished ≡ finished_from (take since R) R t
  names_one t =
      let more = finished_more (take since H) (drop since H) H B course.legal (sym (take-append-drop since H)) begins t (written_fresh H (take since H) (Began n m) t) in
      let none = ap (λ l. finishes l B t) (sym course.desks_of) ∙ unfinished t in
      course.names t ∙ (sym (or_false (finished_from (take since H) H t) (finishes H B t) none) ∙ (sym more ∙ ap (λ p. finished_from p R t) (sym front_one)))

  names_then : (t : ℕ) → is_among t (with_name (with_name finished first) second) ≡ finished_from (take since K) K t
  names_then t =
      let step = named_more (with_name finished first) second t ∙ ap (λ b. b || option_map_or (λ s. s == t) second false) (named_more finished first t) in
      let parts = ap₂ (λ a b. a || b) (names_one t) (named t ∙ ap (λ l. finishes (l ++ B ∷ []) E t) course.desks_of) in
      let more = finished_more (take since R) (drop since R) R E legal_one (sym (take-append-drop since R)) ends t (written_fresh R (take since R) (Ended n m) t) in
      step ∙ (or_assoc (is_among t finished) (option_map_or (λ s. s == t) first false) (option_map_or (λ s. s == t) second false) ∙ (parts ∙ (sym more ∙ ap₂ (λ p h. finished_from p h t) (sym front_two) (sym longer))))

  names_live : (t : ℕ) → is_among t (with_name (with_name finished first) second) ≡ true → is_live K t ≡ true
  names_live t among = finished_live (take since K) K t (sym (names_then t) ∙ among)

  -- for whom there is a place
  pub pass_first_place : (t : ℕ) → first ≡ Some t → is_among t finished ≡ false → length finished < width
  pass_first_place t is absent =
      let few = names_few K legal_then finished t course.once (λ s among. names_live s (named_more (with_name finished first) second s ∙ or_left _ _ (named_more finished first s ∙ or_left _ _ among))) (names_live t (named_more (with_name finished first) second t ∙ or_left _ _ (named_more finished first t ∙ or_right _ _ (ap (λ o. option_map_or (λ s. s == t) o false) is ∙ eq-eqb t t refl)))) absent in
      let wide = course.wide in
      omega (arith, few, wide)

  pub pass_second_place : (t wider : ℕ) → width ≤ wider → second ≡ Some t → is_among t (with_name finished first) ≡ false → length (with_name finished first) < wider
  pass_second_place t wider more is absent =
      let few = names_few K legal_then (with_name finished first) t (named_once finished first course.once) (λ s among. names_live s (named_more (with_name finished first) second s ∙ or_left _ _ among)) (names_live t (named_more (with_name finished first) second t ∙ or_right _ _ (ap (λ o. option_map_or (λ s. s == t) o false) is ∙ eq-eqb t t refl))) absent in
      let wide = course.wide in
      omega (arith, few, wide, more)

  pub pass_course : (after : Waiting) (kept : PastDesks) (names : List ℕ) (wider : ℕ) → after.slots.past ≡ (waiting.slots.past ++ B ∷ []) ++ E ∷ [] → IsWaiting after → kept.past ≡ (desks.past ++ B ∷ []) ++ E ∷ [] → names ≡ with_name (with_name finished first) second → width ≤ wider → IsCourse K after kept since names wider
  pass_course after kept names wider told stands noted names_are more =
      let begun = course.begun in
      record {
        legal = legal_then;
        waits_in = told ∙ ap (λ l. (l ++ B ∷ []) ++ E ∷ []) course.waits_in ∙ sym longer;
        waiting_is = stands;
        desks_of = noted ∙ ap (λ l. (l ++ B ∷ []) ++ E ∷ []) course.desks_of ∙ sym longer;
        names = λ t. ap (is_among t) names_are ∙ names_then t;
        begun = omega (arith, begun, ap length longer, length-append R (E ∷ []), longer_one);
        once = subst (IsDistinct (λ a b. a == b)) (sym names_are) (named_once (with_name finished first) second (named_once finished first course.once));
        wide = (let wide = course.wide in omega (arith, wide, more));
      }

-- The end of a message that passes at once
pub pass_ends : (H : List Entry) (n m : ℕ) → Legal H → Follows H (Written (Began n m)) → passes_at_once H n ≡ true → Follows (H ++ Written (Began n m) ∷ []) (Written (Ended n m))
unfolding Follows
pass_ends H n m legal begins plain = ends_next H n m legal begins (eqb-true _ _ (left _ _ plain)) (eqb-true _ _ (right _ _ plain))

-- the next output, in a history that is this one
pub begins_at : (E H : List Entry) (output : Output) (n m : ℕ) → H ≡ E → next_output E ≡ Some output → output ≡ Began n m → Follows H (Written (Began n m))
begins_at E H output n m same next is = rw same (output_follows E (Began n m) (next ∙ ap (λ o. Some o) is))

pub both_follow : (E H L : List Entry) (output : Output) (n m : ℕ) (passes : Bool) → H ≡ E → next_output E ≡ Some output → output ≡ Began n m → Legal H → L ≡ H → passes ≡ passes_at_once L n → passes ≡ true → Follows H (Written (Began n m)) × Follows (H ++ Written (Began n m) ∷ []) (Written (Ended n m))
both_follow E H L output n m passes same next is legal past words plain =
    let begins = begins_at E H output n m same next is in
    (begins, pass_ends H n m legal begins (ap (λ l. passes_at_once l n) (sym past) ∙ (sym words ∙ plain)))

pub passed_is : (E H K : List Entry) (output : Output) (n m : ℕ) → H ≡ E → output ≡ Began n m → Follows (H ++ Written (Began n m) ∷ []) (Written (Ended n m)) → K ≡ (H ++ Written (Began n m) ∷ []) ++ Written (Ended n m) ∷ [] → HasPassed E output K
unfolding Follows
passed_is E H K output n m same is ends longer = rw (← same, is) (record { sending = n; receiving = m; begins = refl; ends = ends; appended = longer })

-- Settling goes on by both

-- there is room for both
pub pass_places : (E H : List Entry) (n m room : ℕ) → H ≡ E → Legal H → Follows H (Written (Began n m)) → Follows (H ++ Written (Began n m) ∷ []) (Written (Ended n m)) → length E + room_owed E ≤ room → (length H < room) × (length (H ++ Written (Began n m) ∷ []) < room)
unfolding Follows
pass_places E H n m room same legal next then fits =
    let R = H ++ Written (Began n m) ∷ [] in
    let first = output_room H (Began n m) legal next in
    let second = output_room R (Ended n m) (output_legal H (Began n m) legal next) then in
    let long = length-append H (Written (Began n m) ∷ []) in
    let longer = length-append R (Written (Ended n m) ∷ []) in
    let within : length H + room_owed H ≤ room = rw same fits in
    (omega (arith, first, second, long, longer, within), omega (arith, first, second, long, longer, within))

abbrev between : CourseParts → Output → CourseParts
between course output = record course { entries = course.entries ++ Written output ∷ [] }

pub goes_written : (old new after : CourseParts) (output : Output) → Goes old new → next_output new.entries ≡ Some output → IsWritten new.entries output after.entries → after.room ≡ new.room → SameBooks new after → Goes old after
goes_written old new after output goes next (inl one) same books = goes_more old new after output goes next one same books
goes_written old new after output goes next (inr passed) same books = goes_more old (between new output) after (Ended passed.sending passed.receiving) (goes_more old new (between new output) output goes next refl refl (record { taken = refl; since = refl; held = refl })) passed.ends passed.appended same (record { taken = books.taken; since = books.since; held = books.held })

pub written_falls : (new after : CourseParts) (output : Output) → Legal new.entries → next_output new.entries ≡ Some output → IsWritten new.entries output after.entries → all_steps_left after.entries < all_steps_left new.entries
written_falls new after output legal next (inl one) = goes_falls new after output legal next one
written_falls new after output legal next (inr passed) =
    let first = goes_falls new (between new output) output legal next refl in
    let second = goes_falls (between new output) after (Ended passed.sending passed.receiving) (output_legal new.entries output legal next) passed.ends passed.appended in
    omega (arith, first, second)

-- there is room for an output
pub write_room : (H : List Entry) (output : Output) (room : ℕ) → Legal H → next_output H ≡ Some output → length H + room_owed H ≤ room → length H < room
write_room H output room legal next fits =
    let within = output_room H output legal next in
    let longer = length-append H (Written output ∷ []) in
    omega (arith, within, longer, fits)
