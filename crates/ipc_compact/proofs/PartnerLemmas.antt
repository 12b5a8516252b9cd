-- What one more entry makes of the partners.
use Rattle.std.proofs.lemmas.Bool.{false≢true, false_from_ne_true, cases_eq, ne_eqb}
use Rattle.std.proofs.lemmas.Option.{none-some, same_Some}
use Rattle.std.proofs.lemmas.List.{append-nil, get_or-set_same, get_or-set_other, length-set}
use Rattle.std.proofs.Common.{◌≡◌, ◌≢◌, refl, sym, ap, ◌∙◌, ℕ, ◌<◌, Bool, true, false, not, ◌&&◌, ◌||◌, ◌==◌, eqb-true, eq-eqb, if◌then◌else◌, List, [], ◌∷◌, ◌++◌, length, set, Option, Some, None, option_map, inl, inr, arith}
use Rattle.std.specs.List.{list_any}
use Rattle.std.specs.Option.{option_or}
use Rattle.ipc_words.specs.Limits.{table_slots}
use Rattle.ipc_words.specs.ThreadId.{number_of}
use Rattle.ipc_history.specs.CallParts.{CallParts}
use Rattle.ipc_history.specs.Words.{last_some}
use Rattle.ipc_history.specs.Entries.{calls, names, number_in, opens}
use Rattle.ipc_history.specs.Calls.{call_at, caller_of, is_called, last_call, originator_of, tag_of}
use Rattle.ipc_history.specs.Matching.{before_call, is_propagated, shown_sender}
use Rattle.ipc_history.specs.Threads.{is_live, was_opened}
use Rattle.ipc_history.specs.Phases.{is_over}
use Rattle.ipc_history.specs.Legal.{Legal, Follows}
use Rattle.ipc_history.specs.declared.entry.Entry.{Entry}
use Rattle.ipc_history.specs.declared.entry.Entry.TheVariants.{Given, Written}
use Rattle.ipc_history.specs.declared.entry.Input.{Input}
use Rattle.ipc_history.specs.declared.entry.Input.TheVariants.{At, Opened, Called, Exreg, Broke, Moved}
use Rattle.ipc_history.specs.declared.entry.Output.{Output}
use Rattle.ipc_history.specs.declared.entry.Output.TheVariants.{Began, Turned, Ended, Overflowed, Aborted, Failed}
use Rattle.ipc_laws.proofs.Befores.{shown_kept}
use Rattle.ipc_laws.proofs.Growth.{caller_of_kept, has_broken_append}
use Rattle.ipc_laws.proofs.Numbering.{calls_called}
use Rattle.ipc_laws.proofs.OneLive.{one_live}
use Rattle.ipc_laws.proofs.OpenCalls.{caller_lives}
use Rattle.ipc_laws.proofs.OutputLemmas.{next_output_means}
use Rattle.ipc_laws.proofs.PhaseParts.{meets_parts}
use Rattle.ipc_laws.proofs.Places.{any_place}
use Rattle.ipc_laws.proofs.Tests.{not_both, both}
use Rattle.ipc_laws.proofs.ThreadChanges.{was_opened_push}
use Rattle.ipc_laws.proofs.WordLemmas.{last_some_push}
use Rattle.ipc_threads.specs.Standings.{may_be_shown, standing_of}
use Rattle.ipc_threads.specs.declared.slot.Standing.{Standing}
use Rattle.ipc_compact.proofs.NotNeeded.{before_behind, named_called}
use Rattle.ipc_desks.proofs.CalledDesks.{alive as caller_alive}
use Rattle.ipc_desks.proofs.LastCalls.{absent, last_is, last_kept, last_push, live_below, new_call_at, open_is_last}
use Rattle.ipc_desks.proofs.OutputDesks.{matching_apart, places_apart}
use Rattle.ipc_desks.proofs.QuietEntries.{no_last}
use Rattle.ipc_compact.specs.Partners.{Joins, Knows, joined_at, joined_of, joins, meets_receiver, meets_sender, met_receiver, met_sender, nothing_joined, partner_of, receiver_met, sender_met}
use Rattle.ipc_compact.specs.declared.partners.Joined.{Joined}
use Rattle.ipc_compact.specs.declared.partners.Partner.{Partner}

-- What an entry says of a meeting

in_first : (a b c : Bool) → (a && b) ≡ true → (a || c) ≡ true
in_first a b c h = grind arith

in_second : (a b c : Bool) → (a && b) ≡ true → (c || b) ≡ true
in_second a b c h = grind arith

pub joins_names : (n m : ℕ) (e : Entry) → joins n m e ≡ true → (names n e ≡ true) × (names m e ≡ true)
joins_names n m (Written (Began k j)) h = (in_first (k == n) (j == m) (j == n) h, in_second (k == n) (j == m) (k == m) h)
joins_names n m (Written (Ended k j)) h = (in_first (k == n) (j == m) (j == n) h, in_second (k == n) (j == m) (k == m) h)
joins_names n m (Written (Overflowed k j offset)) h = (in_first (k == n) (j == m) (j == n) h, in_second (k == n) (j == m) (k == m) h)
joins_names n m (Written (Aborted k j count)) h = (in_first (k == n) (j == m) (j == n) h, in_second (k == n) (j == m) (k == m) h)
joins_names n m (Written (Turned k thread)) h = absurd (false≢true h)
joins_names n m (Written (Failed k code)) h = absurd (false≢true h)
joins_names n m (Given input) h = absurd (false≢true h)

-- the other call of an entry where calls meet
pub if_some : (b : Bool) (m k : ℕ) → (if b then Some m else None) ≡ Some k → (b ≡ true) × (m ≡ k)
if_some true m k h = (refl, same_Some m k h)
if_some false m k h = absurd (none-some k h)

pub receiver_joins : (n m : ℕ) (e : Entry) → met_receiver n e ≡ Some m → joins n m e ≡ true
receiver_joins n m (Written (Began k j)) h = let i = if_some (k == n) j m h in both _ _ i.0 (eq-eqb j m i.1)
receiver_joins n m (Written (Overflowed k j offset)) h = let i = if_some (k == n) j m h in both _ _ i.0 (eq-eqb j m i.1)
receiver_joins n m (Written (Ended k j)) h = absurd (none-some m h)
receiver_joins n m (Written (Aborted k j count)) h = absurd (none-some m h)
receiver_joins n m (Written (Turned k thread)) h = absurd (none-some m h)
receiver_joins n m (Written (Failed k code)) h = absurd (none-some m h)
receiver_joins n m (Given input) h = absurd (none-some m h)

pub sender_joins : (n m : ℕ) (e : Entry) → met_sender m e ≡ Some n → joins n m e ≡ true
sender_joins n m (Written (Began k j)) h = let i = if_some (j == m) k n h in both _ _ (eq-eqb k n i.1) i.0
sender_joins n m (Written (Overflowed k j offset)) h = let i = if_some (j == m) k n h in both _ _ (eq-eqb k n i.1) i.0
sender_joins n m (Written (Ended k j)) h = absurd (none-some n h)
sender_joins n m (Written (Aborted k j count)) h = absurd (none-some n h)
sender_joins n m (Written (Turned k thread)) h = absurd (none-some n h)
sender_joins n m (Written (Failed k code)) h = absurd (none-some n h)
sender_joins n m (Given input) h = absurd (none-some n h)

-- what is said last stands somewhere
pub last_somewhere : (f : Entry → Option ℕ) (p : ℕ → Entry → Bool) → ((k : ℕ) (e : Entry) → f e ≡ Some k → p k e ≡ true) → (H : List Entry) (k : ℕ) → last_some f H ≡ Some k → list_any (p k) H ≡ true
last_somewhere f p says [] k h = absurd (none-some k h)
last_somewhere f p says (e ∷ H) k h = go (last_somewhere f p says H k) (last_some f H) refl h
  where
    either : (a b : Bool) → b ≡ true → (a || b) ≡ true
    either a b h = grind arith

    here : (a b : Bool) → a ≡ true → (a || b) ≡ true
    here a b h = grind arith

    go : (last_some f H ≡ Some k → list_any (p k) H ≡ true) → (o : Option ℕ) → last_some f H ≡ o → option_or o (f e) ≡ Some k → (p k e || list_any (p k) H) ≡ true
    go again (Some j) is g = either (p k e) _ (again (is ∙ g))
    go again None is g = here (p k e) _ (says k e g)

pub receiver_somewhere : (H : List Entry) (n m : ℕ) → receiver_met H n ≡ Some m → list_any (joins n m) H ≡ true
unfolding receiver_met
receiver_somewhere H n m h = last_somewhere (met_receiver n) (λ k. joins n k) (λ k e. receiver_joins n k e) H m h

pub sender_somewhere : (H : List Entry) (n m : ℕ) → sender_met H m ≡ Some n → list_any (joins n m) H ≡ true
unfolding sender_met
sender_somewhere H n m h = last_somewhere (met_sender m) (λ k. joins k m) (λ k e. sender_joins k m e) H n h

pub joined_called : (H : List Entry) → Legal H → (n m : ℕ) → list_any (joins n m) H ≡ true → (is_called H n ≡ true) × (is_called H m ≡ true)
joined_called H legal n m h =
    let p = any_place (joins n m) H h in
    let named = joins_names n m p.0 p.2 in
    (named_called H legal p.0 p.1 n named.0, named_called H legal p.0 p.1 m named.1)

-- One more entry

pub receiver_push : (P : List Entry) (e : Entry) (n : ℕ) → receiver_met (P ++ e ∷ []) n ≡ option_or (met_receiver n e) (receiver_met P n)
unfolding receiver_met
receiver_push P e n = last_some_push (met_receiver n) P e

pub sender_push : (P : List Entry) (e : Entry) (n : ℕ) → sender_met (P ++ e ∷ []) n ≡ option_or (met_sender n e) (sender_met P n)
unfolding sender_met
sender_push P e n = last_some_push (met_sender n) P e

module _ (P : List Entry) (e : Entry) (legal : Legal P) where
  abbrev Q : List Entry
  Q = P ++ e ∷ []

  partner_same : (k : ℕ) → is_called P k ≡ true → partner_of Q k ≡ partner_of P k
  unfolding partner_of
  partner_same k c = rw (caller_of_kept P (e ∷ []) k c, shown_kept P (e ∷ []) k c) refl

  partners_same : (o : Option ℕ) → ((k : ℕ) → o ≡ Some k → is_called P k ≡ true) → option_map (partner_of Q) o ≡ option_map (partner_of P) o
  partners_same None called = refl
  partners_same (Some k) called = ap Some (partner_same k (called k refl))

  receiver_called : (n k : ℕ) → receiver_met P n ≡ Some k → is_called P k ≡ true
  receiver_called n k h = (joined_called P legal n k (receiver_somewhere P n k h)).1

  sender_called : (m k : ℕ) → sender_met P m ≡ Some k → is_called P k ≡ true
  sender_called m k h = (joined_called P legal k m (sender_somewhere P k m h)).0

  -- what is known of a call that the entry lets meet no other
  pub joined_same : (n : ℕ) → is_called P n ≡ true → met_receiver n e ≡ None → met_sender n e ≡ None → joined_of Q n ≡ joined_of P n
  unfolding joined_of
  joined_same n c r s = rw (shown_kept P (e ∷ []) n c, receiver_push P e n, sender_push P e n, r, s, partners_same (receiver_met P n) (receiver_called n), partners_same (sender_met P n) (sender_called n)) refl

  -- a thread that lives with it, and is not opened by it, lived before, with its last call
  live_was : (t : ℕ) → opens t e ≡ false → is_live Q t ≡ true → is_live P t ≡ true
  unfolding is_live
  live_was t o h = go _ _ _ (rw (was_opened_push P e t o, has_broken_append P (e ∷ []) t) at h)
    where
      go : (a b c : Bool) → (a && not (b || c)) ≡ true → (a && not b) ≡ true
      go a b c h = grind arith

  module _ (enters : number_in e ≡ None) (opened : (t : ℕ) → opens t e ≡ true → last_call P t ≡ None) where
    pub last_was : (t n : ℕ) → is_live Q t ≡ true → last_call Q t ≡ Some n → (is_live P t ≡ true) × (last_call P t ≡ Some n)
    last_was t n live last = go (opens t e) refl
      where
        was : last_call P t ≡ Some n
        was = sym (last_kept P e t enters) ∙ last

        go : (b : Bool) → opens t e ≡ b → (is_live P t ≡ true) × (last_call P t ≡ Some n)
        go true o = absurd (none-some n (sym (opened t o) ∙ was))
        go false o = (live_was t o live, was)

    -- nothing meets
    pub knows_same : (table : List Joined) → ((n : ℕ) → (met_receiver n e ≡ None) × (met_sender n e ≡ None)) → Knows P table → Knows Q table
    knows_same table quiet knows = record {
      size = knows.size;
      known = λ t n live last. (
          let was = last_was t n live last in
          let at = quiet n in
          knows.known t n was.0 was.1 ∙ sym (joined_same n (last_is P legal t n was.1).1 at.0 at.1));
    }

    -- two calls meet
    module _ (n m : ℕ) (on : is_over P n ≡ false) (om : is_over P m ≡ false) (apart : n ≢ m)
        (receiver : (x : ℕ) → met_receiver x e ≡ (if n == x then Some m else None))
        (sender : (x : ℕ) → met_sender x e ≡ (if m == x then Some n else None)) where
      abbrev i : ℕ
      i = number_of (caller_of P n)

      abbrev j : ℕ
      j = number_of (caller_of P m)

      far : i ≢ j
      far = places_apart P legal n m on om apart

      called : (x : ℕ) → is_over P x ≡ false → is_called P x ≡ true
      called x o = (last_is P legal (caller_of P x) x (open_is_last P legal x o)).1

      sends : joined_of Q n ≡ meets_receiver (partner_of P m) (joined_of P n)
      unfolding joined_of
      sends = rw (shown_kept P (e ∷ []) n (called n on), receiver_push P e n, sender_push P e n, receiver n, sender n, eq-eqb n n refl, ne_eqb m n (λ g. apart (sym g)), partners_same (sender_met P n) (sender_called n), partner_same m (called m om)) refl

      receives : joined_of Q m ≡ meets_sender (partner_of P n) (joined_of P m)
      unfolding joined_of
      receives = rw (shown_kept P (e ∷ []) m (called m om), receiver_push P e m, sender_push P e m, receiver m, sender m, eq-eqb m m refl, ne_eqb n m apart, partners_same (receiver_met P m) (receiver_called m), partner_same n (called n on)) refl

      -- the thread of an open call's place has that call last
      itself : (t x n : ℕ) → is_over P n ≡ false → is_live P t ≡ true → last_call P t ≡ Some x → number_of t ≡ number_of (caller_of P n) → x ≡ n
      itself t x n o live last same =
          let who : t ≡ caller_of P n = one_live P legal t (caller_of P n) live (caller_lives P legal n o) same in
          same_Some x n (sym last ∙ (ap (last_call P) who ∙ open_is_last P legal n o))

      pub knows_joined : (old new : List Joined) → Knows P old → Joins P n m old new → Knows Q new
      knows_joined old new knows met = record {
        size = met.size ∙ knows.size;
        known = λ t x live last. (let was = last_was t x live last in there t x was.0 was.1);
      }
        where
          there : (t x : ℕ) → is_live P t ≡ true → last_call P t ≡ Some x → joined_at new (number_of t) ≡ joined_of Q x
          there t x live last = elim (cases_eq (number_of t) i) [
            | inl at ↦ (
                let is : x ≡ n = itself t x n on live last at in
                rw (is, at) (met.sender ∙ (ap (meets_receiver (partner_of P m)) (ap (joined_at old) (sym at) ∙ (knows.known t x live last ∙ ap (joined_of P) is)) ∙ sym sends)))
            | inr other ↦ elim (cases_eq (number_of t) j) [
              | inl at ↦ (
                  let is : x ≡ m = itself t x m om live last at in
                  rw (is, at) (met.receiver ∙ (ap (meets_sender (partner_of P n)) (ap (joined_at old) (sym at) ∙ (knows.known t x live last ∙ ap (joined_of P) is)) ∙ sym receives)))
              | inr neither ↦ (
                  let not_n : n ≢ x = λ g. other (ap number_of (sym (last_is P legal t x last).0 ∙ ap (caller_of P) (sym g))) in
                  let not_m : m ≢ x = λ g. neither (ap number_of (sym (last_is P legal t x last).0 ∙ ap (caller_of P) (sym g))) in
                  met.beside (number_of t) other neither ∙ (knows.known t x live last ∙ sym (joined_same x (last_is P legal t x last).1 (receiver x ∙ rw (ne_eqb n x not_n) refl) (sender x ∙ rw (ne_eqb m x not_m) refl))))
            ]
          ]

-- what a slot says of an open call
pub partner_by : (P : List Entry) (n : ℕ) (s : Standing) → s ≡ standing_of P n → ◌≡◌ {A = Partner} (record { number = n; caller = s.caller; shown = s.shown }) (partner_of P n)
unfolding partner_of standing_of
partner_by P n s is = rw is refl

pub knows_none : (table : List Joined) → length table ≡ table_slots → Knows [] table
unfolding is_live was_opened
knows_none table size = record { size = size; known = λ t n live last. absurd (false≢true live) }

-- An output

module _ (P : List Entry) (legal : Legal P) (old : List Joined) (knows : Knows P old) where
  nothing_opens : (o : Output) (t : ℕ) → opens t (Written o) ≡ true → last_call P t ≡ None
  nothing_opens o t h = absurd (false≢true h)

  pub other_output : (o : Output) → ((n m : ℕ) → o ≡ Began n m → ⊥) → ((n m offset : ℕ) → o ≡ Overflowed n m offset → ⊥) → Knows (P ++ Written o ∷ []) old
  other_output (Began n m) began over = absurd (began n m refl)
  other_output (Overflowed n m offset) began over = absurd (over n m offset refl)
  other_output (Turned n t) began over = knows_same P (Written (Turned n t)) legal refl (nothing_opens (Turned n t)) old (λ x. (refl, refl)) knows
  other_output (Ended n m) began over = knows_same P (Written (Ended n m)) legal refl (nothing_opens (Ended n m)) old (λ x. (refl, refl)) knows
  other_output (Aborted n m count) began over = knows_same P (Written (Aborted n m count)) legal refl (nothing_opens (Aborted n m count)) old (λ x. (refl, refl)) knows
  other_output (Failed n code) began over = knows_same P (Written (Failed n code)) legal refl (nothing_opens (Failed n code)) old (λ x. (refl, refl)) knows

  pub other_input : (i : Input) → Follows P (Given i) → ((n t : ℕ) (call : CallParts) → i ≡ Called n t call → ⊥) → Knows (P ++ Given i ∷ []) old
  other_input (Called n t call) follows other = absurd (other n t call refl)
  other_input (At moment) follows other = knows_same P (Given (At moment)) legal refl (λ t h. absurd (false≢true h)) old (λ x. (refl, refl)) knows
  other_input (Opened t space) follows other = knows_same P (Given (Opened t space)) legal refl (λ u h. let same : t ≡ u = eqb-true t u h in ap (last_call P) (sym same) ∙ no_last P t space legal follows) old (λ x. (refl, refl)) knows
  other_input (Exreg t target control) follows other = knows_same P (Given (Exreg t target control)) legal refl (λ u h. absurd (false≢true h)) old (λ x. (refl, refl)) knows
  other_input (Broke t) follows other = knows_same P (Given (Broke t)) legal refl (λ u h. absurd (false≢true h)) old (λ x. (refl, refl)) knows
  other_input (Moved n count) follows other = knows_same P (Given (Moved n count)) legal refl (λ u h. absurd (false≢true h)) old (λ x. (refl, refl)) knows

  pub other_entry : (e : Entry) → Follows P e → ((o : Output) → e ≡ Written o → ⊥) → ((n t : ℕ) (call : CallParts) → e ≡ Given (Called n t call) → ⊥) → Knows (P ++ e ∷ []) old
  other_entry (Written o) follows written called = absurd (written o refl)
  other_entry (Given i) follows written called = other_input i follows (λ n t call same. called n t call (ap Given same))

  pub began_apart : (n m : ℕ) → Follows P (Written (Began n m)) → (is_over P n ≡ false) × (is_over P m ≡ false) × (n ≢ m)
  unfolding Follows
  began_apart n m follows =
      let means = next_output_means P (Began n m) follows in
      let meets = meets_parts P n m means.0 in
      (meets.sends.opened, meets.receives.opened, matching_apart P legal n m means.0)

  pub overflow_apart : (n m offset : ℕ) → Follows P (Written (Overflowed n m offset)) → (is_over P n ≡ false) × (is_over P m ≡ false) × (n ≢ m)
  unfolding Follows
  overflow_apart n m offset follows =
      let means = next_output_means P (Overflowed n m offset) follows in
      let meets = meets_parts P n m means.0 in
      (meets.sends.opened, meets.receives.opened, matching_apart P legal n m means.0)

  pub began_knows : (n m : ℕ) (new : List Joined) → Follows P (Written (Began n m)) → Joins P n m old new → Knows (P ++ Written (Began n m) ∷ []) new
  began_knows n m new follows joins =
      let is = began_apart n m follows in
      knows_joined P (Written (Began n m)) legal refl (nothing_opens (Began n m)) n m is.0 is.1 is.2 (λ x. refl) (λ x. refl) old new knows joins

  pub overflow_knows : (n m offset : ℕ) (new : List Joined) → Follows P (Written (Overflowed n m offset)) → Joins P n m old new → Knows (P ++ Written (Overflowed n m offset) ∷ []) new
  overflow_knows n m offset new follows joins =
      let is = overflow_apart n m offset follows in
      knows_joined P (Written (Overflowed n m offset)) legal refl (nothing_opens (Overflowed n m offset)) n m is.0 is.1 is.2 (λ x. refl) (λ x. refl) old new knows joins

  -- A call
  module _ (n t : ℕ) (call : CallParts) (follows : Follows P (Given (Called n t call))) where
    abbrev E : Entry
    E = Given (Called n t call)

    abbrev N : List Entry
    N = P ++ E ∷ []

    uncalled : is_called P n ≡ false
    unfolding Follows
    uncalled = absent P n t call legal follows.1

    pub alive : is_live P t ≡ true
    alive = caller_alive P n t call legal follows

    before_it : before_call N n ≡ P
    unfolding before_call
    before_it = before_behind (calls n) P (E ∷ []) (false_from_ne_true _ (λ some. not_both (calls_called P n some) uncalled)) ∙ rw (eq-eqb n n refl) (append-nil P)

    call_is : call_at N n ≡ Some (t, call)
    call_is = new_call_at P n t call uncalled

    shown_is : shown_sender N n ≡ (if may_be_shown P t call then call.originator else t)
    unfolding shown_sender is_propagated tag_of originator_of caller_of
    shown_is = rw (call_is, before_it) refl

    pub new_shown : shown_sender N n ≡ (if may_be_shown P t call then call.originator else t)
    new_shown = shown_is

    nobody : (x k : ℕ) → list_any (joins x k) P ≡ true → (is_called P x ≡ true) × (is_called P k ≡ true)
    nobody x k h = joined_called P legal x k h

    no_receiver : receiver_met N n ≡ None
    no_receiver = receiver_push P E n ∙ go (receiver_met P n) refl
      where
        go : (o : Option ℕ) → receiver_met P n ≡ o → receiver_met P n ≡ None
        go None h = h
        go (Some k) h = not_both (nobody n k (receiver_somewhere P n k h)).0 uncalled

    no_sender : sender_met N n ≡ None
    no_sender = sender_push P E n ∙ go (sender_met P n) refl
      where
        go : (o : Option ℕ) → sender_met P n ≡ o → sender_met P n ≡ None
        go None h = h
        go (Some k) h = not_both (nobody k n (sender_somewhere P k n h)).1 uncalled

    abbrev fresh : ℕ → Joined
    fresh shown = record { number = n; shown = shown; receiver = None; sender = None }

    new_joined : joined_of N n ≡ fresh (if may_be_shown P t call then call.originator else t)
    unfolding joined_of
    new_joined = rw (shown_is, no_receiver, no_sender) refl

    within : number_of t < length old
    within = let low = live_below P legal t alive in let size = knows.size in omega (arith, low, size)

    pub enter_knows : (place shown : ℕ) (new : List Joined) → place ≡ number_of t → shown ≡ (if may_be_shown P t call then call.originator else t) → new ≡ set old place (fresh shown) → Knows N new
    enter_knows place shown new at is written = rw written (record {
      size = length-set old place (fresh shown) ∙ knows.size;
      known = λ u x live last. elim (cases_eq t u) [
        | inl same ↦ (
            let x_is : n ≡ x = same_Some n x (sym (last_push P E u ∙ rw (eq-eqb t u same) refl) ∙ last) in
            rw (← same, ← x_is, at) (get_or-set_same old (number_of t) (fresh shown) nothing_joined within ∙ (ap fresh is ∙ sym new_joined)))
        | inr other ↦ (
            let was : last_call P u ≡ Some x = sym (last_push P E u ∙ rw (ne_eqb t u other) refl) ∙ last in
            let lived : is_live P u ≡ true = live_was P E legal u refl live in
            let far : number_of u ≢ place = λ g. other (one_live P legal t u alive lived (sym (g ∙ at))) in
            get_or-set_other old place (number_of u) (fresh shown) nothing_joined far ∙ (knows.known u x lived was ∙ sym (joined_same P E legal x (last_is P legal u x was).1 refl refl)))
      ];
    })
