-- What a call of words that reaches a receiver makes of a course: three entries at once.
use Rattle.std.proofs.Common.{◌≡◌, refl, sym, ap, ◌∙◌, subst, ℕ, ◌+◌, ◌<◌, ◌≤◌, ◌==◌, eq-eqb, Bool, ◌||◌, ◌&&◌, List, [], ◌∷◌, ◌++◌, length, length-append, take, drop, true, false, Option, Some, ◌⊎◌, arith}
use Rattle.std.specs.Option.{option_map_or}
use Rattle.std.specs.List.{IsDistinct}
use Rattle.std.proofs.lemmas.Bool.{false≢true, or_left, or_right}
use Rattle.std.proofs.lemmas.List.{take-append-drop, take-append-le}
use Rattle.ipc_words.specs.ThreadId.{nilthread}
use Rattle.ipc_history.specs.CallParts.{CallParts}
use Rattle.ipc_history.specs.Threads.{is_live}
use Rattle.ipc_history.specs.Legal.{Legal, Follows}
use Rattle.ipc_history.specs.Settled.{Continued, Settled}
use Rattle.ipc_history.specs.declared.entry.Entry.{Entry}
use Rattle.ipc_history.specs.declared.entry.Entry.TheVariants.{Given, Written}
use Rattle.ipc_history.specs.declared.entry.Input.TheVariants.{At, Opened, Called, Exreg, Broke, Moved}
use Rattle.ipc_history.specs.declared.entry.Output.TheVariants.{Began, Ended}
use Rattle.ipc_laws.specs.Counting.{room_owed}
use Rattle.ipc_laws.specs.Exchange.{Exchanges, Reaches, Rests, Waits, begun, called, exchanged}
use Rattle.ipc_laws.proofs.Exchanging.{exchanges}
use Rattle.ipc_laws.proofs.ExchangeParts.{exchange_begins, exchange_ends, exchange_legal}
use Rattle.ipc_laws.proofs.Settling.{legal_push}
use Rattle.ipc_laws.proofs.Unmet.{waits_on}
use Rattle.ipc_desks.specs.Finishes.{finishes}
use Rattle.ipc_desks.specs.PastDesks.{PastDesks}
use Rattle.ipc_desks.proofs.CalledDesks.{called_finishes}
use Rattle.ipc_desks.proofs.Finishing.{none_finished}
use Rattle.ipc_waits.specs.Waiting.{IsWaiting}
use Rattle.ipc_waits.specs.declared.waiting.Waiting.{Waiting}
use Rattle.ipc_core.specs.Exchanging.{IsReaching}
use Rattle.ipc_core.specs.Finished.{is_of, with_name}
use Rattle.ipc_core.specs.Invariants.{IsCourse}
use Rattle.ipc_core.specs.Outcomes.{finished_from, is_among}
use Rattle.ipc_core.proofs.Commands.{output_room}
use Rattle.ipc_core.proofs.FinishedLaws.{finished_live, finished_more, named_more, named_once, names_few}

-- who is named, of those whose calls a command finished that began with the entry since
abbrev Names : List Entry → ℕ → List ℕ → Type 0
Names H since names = (t : ℕ) → is_among t names ≡ finished_from (take since H) H t

-- one more entry
module _ (H : List Entry) (e : Entry) (legal : Legal H) (follows : Follows H e) (since : ℕ) (finished : List ℕ) (begun : since ≤ length H) (fresh : (t : ℕ) → is_of t e ≡ true → finished_from (take since H) H t ≡ false) (names : Names H since finished) where
  more : (t : ℕ) → finished_from (take since (H ++ e ∷ [])) (H ++ e ∷ []) t ≡ (is_among t finished || finishes H e t)
  more t =
      ap (λ p. finished_from p (H ++ e ∷ []) t) (take-append-le since H (e ∷ []) begun)
      ∙ (finished_more (take since H) (drop since H) H e legal (sym (take-append-drop since H)) follows t (fresh t)
      ∙ ap (λ b. b || finishes H e t) (sym (names t)))

  -- that finishes no call
  names_same : ((t : ℕ) → finishes H e t ≡ false) → Names (H ++ e ∷ []) since finished
  names_same none t = sym (more t ∙ (ap (λ b. is_among t finished || b) (none t) ∙ or_none (is_among t finished)))
    where
      or_none : (b : Bool) → (b || false) ≡ b
      or_none true = refl
      or_none false = refl

  -- and one that finishes those of two threads
  names_two : (first second : Option ℕ) → ((t : ℕ) → (option_map_or (λ s. s == t) first false || option_map_or (λ s. s == t) second false) ≡ finishes H e t) → Names (H ++ e ∷ []) since (with_name (with_name finished first) second)
  names_two first second named t =
      named_more (with_name finished first) second t
      ∙ (ap (λ b. b || option_map_or (λ s. s == t) second false) (named_more finished first t)
      ∙ (or_assoc (is_among t finished) (option_map_or (λ s. s == t) first false) (option_map_or (λ s. s == t) second false)
      ∙ (ap (λ b. is_among t finished || b) (named t) ∙ sym (more t))))
    where
      or_assoc : (a b c : Bool) → ((a || b) || c) ≡ (a || (b || c))
      or_assoc true b c = refl
      or_assoc false b c = refl

and_none : (a b c : Bool) → b ≡ false → ((a && b) && c) ≡ false
and_none a b c h = grind arith

module _ (H : List Entry) (n t r : ℕ) (call : CallParts) (waiting : Waiting) (desks : PastDesks) (since : ℕ) (finished : List ℕ) (width : ℕ) (course : IsCourse H waiting desks since finished width) (follows : Follows H (Given (Called n t call))) (reaches : Reaches H t call r) (fresh : (u : ℕ) → is_of u (Given (Called n t call)) ≡ true → finished_from (take since H) H u ≡ false) (first second : Option ℕ) (named : (u : ℕ) → (option_map_or (λ s. s == u) first false || option_map_or (λ s. s == u) second false) ≡ finishes (begun desks.past n t call r) (Written (Ended n r)) u) where
  abbrev Q : List Entry
  Q = called H n t call

  abbrev R : List Entry
  R = begun H n t call r

  abbrev S : List Entry
  S = exchanged H n t call r

  begins : Follows Q (Written (Began n r))
  begins = exchange_begins H n t r call course.legal follows reaches

  ends : Follows R (Written (Ended n r))
  ends = exchange_ends H n t r call course.legal follows reaches

  legal_one : Legal Q
  legal_one = legal_push H (Given (Called n t call)) course.legal follows

  legal_two : Legal R
  legal_two = legal_push Q (Written (Began n r)) legal_one begins

  longer_one : since ≤ length Q
  longer_one = let begun = course.begun in omega (arith, begun, length-append H (Given (Called n t call) ∷ []))

  longer_two : since ≤ length R
  longer_two = let begun = longer_one in omega (arith, begun, length-append Q (Written (Began n r) ∷ []))

  longer_three : since ≤ length S
  longer_three = let begun = longer_two in omega (arith, begun, length-append R (Written (Ended n r) ∷ []))

  names_one : Names Q since finished
  names_one = names_same H (Given (Called n t call)) course.legal follows since finished course.begun fresh course.names (λ u. sym (called_finishes H n t call course.legal follows u) ∙ and_none (call.from == nilthread) (call.to == nilthread) (t == u) reaches.sends)

  names_begun : Names R since finished
  names_begun = names_same Q (Written (Began n r)) legal_one begins since finished longer_one (λ u none. absurd (false≢true none)) names_one (none_finished Q (Written (Began n r)) legal_one begins refl (λ k. refl) (λ k. refl) (λ k. refl) (λ u. refl))

  names_ended : Names S since (with_name (with_name finished first) second)
  names_ended = names_two R (Written (Ended n r)) legal_two ends since finished longer_two (λ u none. absurd (false≢true none)) names_begun first second (λ u. named u ∙ ap (λ l. finishes (begun l n t call r) (Written (Ended n r)) u) course.desks_of)

  legal_three : Legal S
  legal_three = exchange_legal H n t r call course.legal follows reaches

  names_live : (u : ℕ) → is_among u (with_name (with_name finished first) second) ≡ true → is_live S u ≡ true
  names_live u among = finished_live (take since S) S u (sym (names_ended u) ∙ among)

  -- for whom there is a place
  pub first_place : (u : ℕ) → first ≡ Some u → is_among u finished ≡ false → length finished < width
  first_place u is absent =
      let few = names_few S legal_three finished u course.once (λ s among. names_live s (named_more (with_name finished first) second s ∙ or_left _ _ (named_more finished first s ∙ or_left _ _ among))) (names_live u (named_more (with_name finished first) second u ∙ or_left _ _ (named_more finished first u ∙ or_right _ _ (ap (λ o. option_map_or (λ s. s == u) o false) is ∙ eq-eqb u u refl)))) absent in
      let wide = course.wide in
      omega (arith, few, wide)

  pub second_place : (u wider : ℕ) → width ≤ wider → second ≡ Some u → is_among u (with_name finished first) ≡ false → length (with_name finished first) < wider
  second_place u wider more is absent =
      let few = names_few S legal_three (with_name finished first) u (named_once finished first course.once) (λ s among. names_live s (named_more (with_name finished first) second s ∙ or_left _ _ among)) (names_live u (named_more (with_name finished first) second u ∙ or_right _ _ (ap (λ o. option_map_or (λ s. s == u) o false) is ∙ eq-eqb u u refl))) absent in
      let wide = course.wide in
      omega (arith, few, wide, more)

  pub course_exchanged : (K : List Entry) (after : Waiting) (kept : PastDesks) (names : List ℕ) (wider : ℕ) → K ≡ S → after.slots.past ≡ exchanged waiting.slots.past n t call r → IsWaiting after → kept.past ≡ exchanged desks.past n t call r → names ≡ with_name (with_name finished first) second → width ≤ wider → IsCourse K after kept since names wider
  course_exchanged K after kept names wider longer told stands noted names_are more = record {
    legal = subst Legal (sym longer) legal_three;
    waits_in = told ∙ ap (λ l. exchanged l n t call r) course.waits_in ∙ sym longer;
    waiting_is = stands;
    desks_of = noted ∙ ap (λ l. exchanged l n t call r) course.desks_of ∙ sym longer;
    names = λ u. ap (is_among u) names_are ∙ (names_ended u ∙ ap (λ l. finished_from (take since l) l u) (sym longer));
    once = subst (IsDistinct (λ a b. a == b)) (sym names_are) (named_once (with_name finished first) second (named_once finished first course.once));
    begun = (let begun = longer_three in omega (arith, begun, ap length longer));
    wide = (let wide = course.wide in omega (arith, wide, more));
  }

-- only a call reaches a receiver
pub only_called : (P : List Entry) (e : Entry) (r : ℕ) → IsReaching P e r → ((n t : ℕ) (call : CallParts) → e ≡ Given (Called n t call) → ⊥) → ⊥
only_called P (Given (Called n t call)) r reaches none = none n t call refl
only_called P (Given (At moment)) r reaches none = reaches
only_called P (Given (Opened t space)) r reaches none = reaches
only_called P (Given (Exreg t target control)) r reaches none = reaches
only_called P (Given (Broke t)) r reaches none = reaches
only_called P (Given (Moved k count)) r reaches none = reaches
only_called P (Written output) r reaches none = reaches

-- there is a place for an entry that leaves room for what is owed behind it
pub place_called : (H : List Entry) (e : Entry) (owed room : ℕ) → length (H ++ e ∷ []) + owed ≤ room → length H < room
place_called H e owed room fits = let longer = length-append H (e ∷ []) in omega (arith, longer, fits)

-- the room that it takes was owed
module _ (H : List Entry) (n t r : ℕ) (call : CallParts) (legal : Legal H) (follows : Follows H (Given (Called n t call))) (reaches : Reaches H t call r) where
  comes : Exchanges H n t call r
  comes = exchanges H n t call legal follows r reaches

  legal_called : Legal (called H n t call)
  legal_called = legal_push H (Given (Called n t call)) legal follows

  legal_begun : Legal (begun H n t call r)
  legal_begun = legal_push (called H n t call) (Written (Began n r)) legal_called (exchange_begins H n t r call legal follows reaches)

  pub exchange_spent : length (exchanged H n t call r) + room_owed (exchanged H n t call r) ≤ length (called H n t call) + room_owed (called H n t call)
  exchange_spent =
      let one = output_room (called H n t call) (Began n r) legal_called comes.begins in
      let two = output_room (begun H n t call r) (Ended n r) legal_begun comes.ends in
      omega (arith, one, two)

  pub exchange_places : (room : ℕ) → length (called H n t call) + room_owed (called H n t call) ≤ room → length H + 3 ≤ room
  exchange_places room fits =
      let spent = exchange_spent in
      let one = length-append H (Given (Called n t call) ∷ []) in
      let two = length-append (called H n t call) (Written (Began n r) ∷ []) in
      let three = length-append (begun H n t call r) (Written (Ended n r) ∷ []) in
      omega (arith, spent, one, two, three, fits)

  pub exchange_continued : (K : List Entry) → K ≡ exchanged H n t call r → Continued (called H n t call) K
  exchange_continued K is = subst (Continued (called H n t call)) (sym is) comes.continued

  -- and where its receive phase rests nothing comes next
  pub exchange_settled : (K : List Entry) → K ≡ exchanged H n t call r → (call.from ≡ nilthread) ⊎ Rests H t call → Settled (called H n t call) K
  exchange_settled K is rests = subst (Settled (called H n t call)) (sym is) (comes.settled rests)

-- nor does anything of a call that waits
pub called_settled : (H : List Entry) (n t : ℕ) (call : CallParts) → Legal H → Follows H (Given (Called n t call)) → (K : List Entry) → K ≡ called H n t call → Waits H t call → Settled (called H n t call) K
called_settled H n t call legal follows K is waits = subst (Settled (called H n t call)) (sym is) (waits_on H n t call legal follows waits)
