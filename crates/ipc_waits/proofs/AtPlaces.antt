-- Candidates by places, and whom a receiving call meets.
use Rattle.std.proofs.lemmas.Bool.{false≢true, or_cases, or_left, or_right}
use Rattle.std.proofs.Common.{find, ◌≡◌, refl, sym, ap, ◌∙◌, subst, ℕ, ◌<◌, ◌==◌, ◌&&◌, ◌||◌, eq-eqb, eqb-true, Bool, true, false, not, List, [], ◌∷◌, ◌++◌, Option, Some, None, inl, inr, arith}
use Rattle.ipc_words.specs.ThreadId.{number_of}
use Rattle.ipc_history.specs.Entries.{breaks, moment_in, names}
use Rattle.ipc_history.specs.Calls.{numbers, is_called, caller_of, to_of}
use Rattle.ipc_history.specs.Phases.{is_over, is_sending, is_receiving}
use Rattle.ipc_history.specs.Matching.{accepts, matches, shown_sender}
use Rattle.ipc_history.specs.NextOutput.{end_of, partner_gone_of, meeting, meeting_of, timeout_of}
use Rattle.ipc_history.specs.Timing.{is_due_at}
use Rattle.ipc_history.specs.Legal.{Legal, Quiet, Follows}
use Rattle.ipc_history.specs.declared.entry.Entry.{Entry}
use Rattle.ipc_history.specs.declared.entry.Entry.TheVariants.{Given, Written}
use Rattle.ipc_history.specs.declared.entry.Input.TheVariants.{At, Called, Broke, Moved}
use Rattle.ipc_history.specs.declared.entry.Output.{Output}
use Rattle.ipc_history.specs.declared.entry.Output.TheVariants.{Began, Turned, Ended}
use Rattle.ipc_laws.specs.Locality.Possible.{Meets}
use Rattle.ipc_laws.proofs.Gives.{Gives, Gives-at}
use Rattle.ipc_laws.proofs.Growth.{caller_of_kept}
use Rattle.ipc_laws.proofs.Numbering.{number_was_called}
use Rattle.ipc_laws.proofs.Places.{any_place}
use Rattle.ipc_laws.proofs.Resting.{none_possible}
use Rattle.ipc_laws.proofs.Tests.{both, left, right}
use Rattle.ipc_waits.specs.Finding.{CoversAt, calls_at, is_among, senders, sends_to, source_of, touched, watches}
use Rattle.ipc_waits.specs.FindingLaws.{AsksOnly, FoundAt, IsAtPlaces}
use Rattle.ipc_waits.proofs.Among.{least_source, open_among, sends_itself}
use Rattle.ipc_waits.proofs.Kept.{entry_covers, found_open}
use Rattle.ipc_waits.proofs.Lists.{among_filtered, among_insert, find_filtered}
use Rattle.ipc_waits.proofs.Under.{IsUnder, end_under, meeting_found, meeting_under, partner_gone_under, timeout_under}

-- what is among the numbers is a call
pub among_called : (P : List Entry) (n : ℕ) → is_among (numbers P) n ≡ true → is_called P n ≡ true
among_called P n among = let found = any_place (λ k. k == n) (numbers P) among in subst (λ k. is_called P k ≡ true) (eqb-true found.0 n found.2) (number_was_called P found.0 found.1)

-- Calls at places

at_place : (P : List Entry) (places : List ℕ) (n : ℕ) → is_among (calls_at P places) n ≡ (is_among places (number_of (caller_of P n)) && is_among (numbers P) n)
at_place P places n = among_filtered (λ k. is_among places (number_of (caller_of P k))) (numbers P) n

placed_call : (P : List Entry) (places : List ℕ) (n : ℕ) → is_among places (number_of (caller_of P n)) ≡ true → is_over P n ≡ false → is_among (calls_at P places) n ≡ true
placed_call P places n placed o = at_place P places n ∙ both _ _ placed (open_among P n o)

pub quiet_covers_at : (P : List Entry) (places : List ℕ) → Quiet P → CoversAt P places
quiet_covers_at P places quiet output possible = absurd (none_possible P quiet output possible)

pub entry_covers_at : (P : List Entry) (e : Entry) (places more : List ℕ) → Legal P → Follows P e → CoversAt P places → ((n : ℕ) → is_over (P ++ e ∷ []) n ≡ false → is_among places (number_of (caller_of (P ++ e ∷ []) n)) ≡ true → is_among more (number_of (caller_of (P ++ e ∷ []) n)) ≡ true) → ((n : ℕ) → is_among (touched P e) n ≡ true → is_over (P ++ e ∷ []) n ≡ false → is_among more (number_of (caller_of (P ++ e ∷ []) n)) ≡ true) → CoversAt (P ++ e ∷ []) more
entry_covers_at P e places more l f covers into added = entry_covers P e (calls_at P places) (calls_at (P ++ e ∷ []) more) l f covers kept (λ n among o. placed_call (P ++ e ∷ []) more n (added n among o) o)
  where
    kept : (n : ℕ) → is_among (calls_at P places) n ≡ true → is_over (P ++ e ∷ []) n ≡ false → is_among (calls_at (P ++ e ∷ []) more) n ≡ true
    kept n among o =
        let placed = is_among places (number_of (caller_of P n)) in
        let was : (placed && is_among (numbers P) n) ≡ true = sym (at_place P places n) ∙ among in
        let caller = caller_of_kept P (e ∷ []) n (among_called P n (right placed (is_among (numbers P) n) was)) in
        placed_call (P ++ e ∷ []) more n (into n o (ap (λ t. is_among places (number_of t)) caller ∙ left placed (is_among (numbers P) n) was)) o

-- Why an entry touches a call: it names the call, breaks a thread that it watches, or is a moment
-- at which it is due
pub data IsTouched (P : List Entry) (e : Entry) (n : ℕ) : Type 0 where
  Named : names n e ≡ true → IsTouched P e n
  Watching : (thread : ℕ) → breaks thread e ≡ true → watches P thread n ≡ true → IsTouched P e n
  Due : (moment : ℕ) → moment_in e ≡ Some moment → is_due_at P moment n ≡ true → IsTouched P e n

only_one : (k n : ℕ) → ((k == n) || false) ≡ true → (k == n) ≡ true
only_one k n h = elim (or_cases (k == n) false h) [ inl same ↦ same | inr no_more ↦ absurd (false≢true no_more) ]

pub touched_is : (P : List Entry) (e : Entry) (n : ℕ) → is_among (touched P e) n ≡ true → IsTouched P e n
touched_is P (Given (Called k thread call)) n h = Named (only_one k n h)
touched_is P (Given (Moved k count)) n h = Named (only_one k n h)
touched_is P (Given (Broke t)) n h = Watching t (eq-eqb t t refl) (left (watches P t n) (is_among (numbers P) n) (sym (among_filtered (watches P t) (numbers P) n) ∙ h))
touched_is P (Given (At m)) n h = Due m refl (left (is_due_at P m n) (is_among (numbers P) n) (sym (among_filtered (is_due_at P m) (numbers P) n) ∙ h))
touched_is P (Written (Began k m)) n h = Named (elim (or_cases (k == n) ((m == n) || false) (sym (among_insert k (m ∷ []) n) ∙ h)) [ inl same ↦ or_left (k == n) (m == n) same | inr other ↦ or_right (k == n) (m == n) (only_one m n other) ])
touched_is P (Written (Turned k thread)) n h = Named (only_one k n h)
touched_is P (Written (Ended k m)) n h = Named (or_left (k == n) (m == n) (only_one k n h))
touched_is P _ n h = absurd (false≢true h)

-- What the rules give

module _ (P : List Entry) (places : List ℕ) (l : Legal P) (covers : CoversAt P places) where
  is_there : (n : ℕ) → is_over P n ≡ false → is_among (calls_at P places) n ≡ true → IsAtPlaces P places n
  is_there n o among = record { opened = o; placed = left _ _ (sym (at_place P places n) ∙ among) }

  of_rule : (rule : ℕ → Option Output) → ((n : ℕ) → Gives (IsUnder P n) (rule n)) → AsksOnly P places rule
  of_rule rule under n output gives =
      let is = Gives-at (rule n) output (under n) gives in
      let found = covers output is.possible in
      is_there n is.opened (subst (λ k. is_among (calls_at P places) k ≡ true) (sym (is.alone found.0 found.2)) found.1)

  of_meeting : (n : ℕ) (output : Output) → meeting_of P n ≡ Some output → ((k : ℕ) → k < n → meeting_of P k ≡ None) → (c : ℕ) × IsAtPlaces P places c × (source_of P c ≡ Some n)
  of_meeting n output gives none =
      let is = Gives-at (meeting_of P n) output (meeting_under P n) gives in
      let possible = Meets n is.receiver is.meets refl in
      let found = covers (meeting P n is.receiver) possible in (
        found.0,
        is_there found.0 (found_open P (meeting P n is.receiver) possible found.0 found.2) found.1,
        elim (or_cases (n == found.0) (is.receiver == found.0) (sym (meeting_found P n is.receiver found.0) ∙ found.2)) [
          | inl same ↦ ap (source_of P) (sym (eqb-true n found.0 same)) ∙ sends_itself P l n is.receiver is.meets
          | inr same ↦ ap (source_of P) (sym (eqb-true is.receiver found.0 same)) ∙ least_source P l n is.receiver is.meets none
        ],
      )

  pub found_at : FoundAt P places
  found_at = record {
    ends = of_rule (end_of P) (end_under P);
    fails = of_rule (partner_gone_of P) (partner_gone_under P);
    expires = of_rule (timeout_of P) (timeout_under P);
    meets = of_meeting;
  }

-- Whom a receiving call meets

pub source_is_sender : (P : List Entry) (m : ℕ) → is_receiving P m ≡ true → source_of P m ≡ find (λ k. not (to_of P k == caller_of P k) && accepts P m (shown_sender P k)) (senders P (caller_of P m))
unfolding source_of matches
source_is_sender P m receives = rw receives (find_filtered (λ k. is_sending P k && true && (to_of P k == caller_of P m) && not (to_of P k == caller_of P k) && accepts P m (shown_sender P k)) (λ k. sends_to P k (caller_of P m)) (λ k. not (to_of P k == caller_of P k) && accepts P m (shown_sender P k)) (numbers P) (λ k. grouped (is_sending P k) (to_of P k == caller_of P m) (not (to_of P k == caller_of P k)) (accepts P m (shown_sender P k))))
  where
    grouped : (a b c d : Bool) → (a && true && b && c && d) ≡ ((a && b) && (c && d))
    grouped a b c d = grind arith
