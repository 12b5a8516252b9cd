-- A transfer that begins and ends: two entries that are followed at once.
use Rattle.std.proofs.lemmas.Bool.{false≢true, or_cases, or_left, or_right}
use Rattle.std.proofs.Common.{◌≡◌, refl, sym, ap, ◌∙◌, subst, ℕ, ◌&&◌, ◌==◌, eq-eqb, eqb-true, true, false, List, [], ◌∷◌, ◌++◌, Option, Some, None, IfSome, is_some, inl, inr}
use Rattle.std.specs.List.{list_any}
use Rattle.std.specs.Option.{option_map_or}
use Rattle.ipc_words.specs.ThreadId.{number_of}
use Rattle.ipc_history.specs.Calls.{caller_of}
use Rattle.ipc_history.specs.Entries.{names}
use Rattle.ipc_history.specs.Legal.{Follows, Legal}
use Rattle.ipc_history.specs.Matching.{matches}
use Rattle.ipc_history.specs.Phases.{is_over}
use Rattle.ipc_history.specs.declared.entry.Entry.{Entry}
use Rattle.ipc_history.specs.declared.entry.Entry.TheVariants.{Written}
use Rattle.ipc_history.specs.declared.entry.Output.TheVariants.{Began, Ended}
use Rattle.ipc_laws.proofs.Growth.{caller_of_kept, open_is_called}
use Rattle.ipc_laws.proofs.OutputLemmas.{next_output_means}
use Rattle.ipc_laws.proofs.PhaseParts.{meets_parts}
use Rattle.ipc_laws.proofs.Settling.{legal_push}
use Rattle.ipc_laws.proofs.Tests.{both, left}
use Rattle.ipc_threads.specs.Changes.{HasNamed, HaveChanged, IsChange, changes_at}
use Rattle.ipc_threads.specs.Slots.{Stands, slot_at}
use Rattle.ipc_threads.specs.Standings.{standing_of}
use Rattle.ipc_threads.specs.Steps.{holds, standing_in}
use Rattle.ipc_threads.specs.declared.changes.Change.{Change}
use Rattle.ipc_threads.specs.declared.changes.Changes.{Changes}
use Rattle.ipc_threads.specs.declared.kept.KeptSlots.{KeptSlots}
use Rattle.ipc_threads.specs.declared.slot.Standing.{Standing}
use Rattle.ipc_threads.specs.Slot.{Slot}
use Rattle.ipc_threads.proofs.Holders.{slot_of_call}
use Rattle.ipc_threads.proofs.OutputCalls.{both_open}
use Rattle.ipc_waits.specs.Finding.{CoversAt, is_among, sends_to, touched}
use Rattle.ipc_waits.specs.Following.{CanFollow, FollowsChange}
use Rattle.ipc_waits.specs.Keys.{AreWaits, HasAt, HaveAt, IsSameElsewhere, Mirrors, SameElsewhere, due_under, is_of, sends_under, watches_under}
use Rattle.ipc_waits.specs.Passing.{passes_at_once}
use Rattle.ipc_waits.specs.Queues.{is_in, under}
use Rattle.ipc_waits.specs.Waiting.{IsWaiting}
use Rattle.ipc_waits.specs.declared.queue.Wait.{Wait}
use Rattle.ipc_waits.specs.declared.waiting.Waiting.{Waiting}
use Rattle.ipc_waits.specs.declared.queues.Waits.{Waits}
use Rattle.ipc_waits.proofs.AtPlaces.{IsTouched, entry_covers_at, touched_is}
use Rattle.ipc_waits.proofs.AtPlaces.IsTouched.{Named, Watching, Due}
use Rattle.ipc_waits.proofs.Numbers.{eqb_sym}
use Rattle.ipc_waits.proofs.Following.{places_come, places_stay, waits_are}
use Rattle.ipc_waits.proofs.WaitFacts.{sender_waits, under_is, wait_for}
use Rattle.ipc_waits.proofs.WaitLists.{in_any}

-- The sender of a transfer that comes next

pub sends_there : (P : List Entry) (n m : ℕ) → Follows P (Written (Began n m)) → sends_to P n (caller_of P m) ≡ true
unfolding Follows matches
sends_there P n m follows =
    let h = (next_output_means P (Began n m) follows).0 in
    both _ _ (left _ _ (left _ _ (left _ _ (left _ _ h)))) (eq-eqb _ _ (meets_parts P n m h).same)

module _ (P : List Entry) (slots : KeptSlots) (legal : Legal P) (stands : Stands P slots) (ws : List Wait) (mirrors : Mirrors sends_under slots.table ws) where
  -- waits for its receiver
  pub sender_there : (n t : ℕ) → sends_to P n t ≡ true → list_any (λ w. w.number == n) (under t ws) ≡ true
  sender_there n t sends = in_any (λ w. w.number == n) (under t ws) (wait_for P n t) (sender_waits P slots legal stands ws mirrors n t sends) (eq-eqb n n refl)

  -- and is held at the place of its wait
  pub sender_held : (t : ℕ) (w : Wait) → is_in (under t ws) w ≡ true → holds (slot_at slots.table w.place) w.number ≡ true
  sender_held t w there = go (standing_in (slot_at slots.table w.place)) (sym (mirrors w) ∙ (under_is P slots legal stands sends_under ws mirrors t w there).1)
    where
      go : (o : Option Standing) → is_of sends_under o w ≡ true → option_map_or (λ s. s.number == w.number) o false ≡ true
      go None h = absurd (false≢true h)
      go (Some s) h = left _ _ h

-- whether its message passes at once
pub passes_by : (P : List Entry) (n : ℕ) (s : Standing) → s ≡ standing_of P n → ((s.size == 0) && (s.shown == s.caller)) ≡ passes_at_once P n
unfolding standing_of
passes_by P n s is = rw is refl

pub caller_by : (P : List Entry) (n : ℕ) (s : Standing) → s ≡ standing_of P n → s.caller ≡ caller_of P n
unfolding standing_of
caller_by P n s is = rw is refl

-- The second of two changes can be followed behind the first

has_before : (key_of : Standing → Option ℕ) (table : List Slot) (ws : List Wait) (place : ℕ) (before : Option Standing) → before ≡ standing_in (slot_at table place) → Mirrors key_of table ws → HasAt key_of ws place before
has_before key_of table ws place before is mirrors w at = mirrors w ∙ ap (λ c. is_of key_of c w) (ap (λ k. standing_in (slot_at table k)) at ∙ sym is)

have_before : (table : List Slot) (waits : Waits) (place : ℕ) (before : Option Standing) → before ≡ standing_in (slot_at table place) → AreWaits table waits → HaveAt waits place before
have_before table waits place before is are = record {
  senders = has_before sends_under table waits.senders place before is are.senders;
  watchers = has_before watches_under table waits.watchers place before is are.watchers;
  deadlines = has_before due_under table waits.deadlines place before is are.deadlines;
}

has_beside : (key_of : Standing → Option ℕ) (old new : List Wait) (a b : ℕ) (before : Option Standing) → (a == b) ≡ false → IsSameElsewhere old new a → HasAt key_of old b before → HasAt key_of new b before
has_beside key_of old new a b before apart same has w at = same w (rw at (eqb_sym b a ∙ apart)) ∙ has w at

have_beside : (old new : Waits) (a b : ℕ) (before : Option Standing) → (a == b) ≡ false → SameElsewhere old new a → HaveAt old b before → HaveAt new b before
have_beside old new a b before apart same have = record {
  senders = has_beside sends_under old.senders new.senders a b before apart same.senders have.senders;
  watchers = has_beside watches_under old.watchers new.watchers a b before apart same.watchers have.watchers;
  deadlines = has_beside due_under old.deadlines new.deadlines a b before apart same.deadlines have.deadlines;
}

pub second_follows : (table : List Slot) (old first : Waiting) (one two : Option Change) → AreWaits table old.waits → IfSome two (IsChange table) → ((a b : Change) → one ≡ Some a → two ≡ Some b → (a.place == b.place) ≡ false) → FollowsChange old first one → CanFollow first two
second_follows table old first one None are is apart follows = tt
second_follows table old first None (Some b) are is apart follows = (is.0, subst (λ w. HaveAt w.waits b.place b.before) (sym (follows.nothing refl)) (have_before table old.waits b.place b.before is.1 are))
second_follows table old first (Some a) (Some b) are is apart follows = (is.0, have_beside old.waits first.waits a.place b.place b.before (apart a b refl refl) follows.followed.elsewhere (have_before table old.waits b.place b.before is.1 are))

module _ (P : List Entry) (n m : ℕ) (legal : Legal P) (begins : Follows P (Written (Began n m))) (ends : Follows (P ++ Written (Began n m) ∷ []) (Written (Ended n m))) where
  abbrev R : List Entry
  R = P ++ Written (Began n m) ∷ []

  abbrev S : List Entry
  S = R ++ Written (Ended n m) ∷ []

  legal_then : Legal R
  legal_then = legal_push P (Written (Began n m)) legal begins

  legal_last : Legal S
  legal_last = legal_push R (Written (Ended n m)) legal_then ends

  open_then : (is_over R n ≡ false) × (is_over R m ≡ false)
  open_then = both_open R (Ended n m) ends n m (refl, refl)

  -- the places of the two, and others
  abbrev more : List ℕ → List ℕ
  more places = number_of (caller_of R n) ∷ number_of (caller_of R m) ∷ places

  begun_covers : (places : List ℕ) → CoversAt P places → CoversAt R (more places)
  begun_covers places covers = entry_covers_at P (Written (Began n m)) places (more places) legal begins covers (λ k opened among. or_right _ _ (or_right _ _ among)) (λ k among opened. there k (touched_is P (Written (Began n m)) k among))
    where
      there : (k : ℕ) → IsTouched P (Written (Began n m)) k → is_among (more places) (number_of (caller_of R k)) ≡ true
      there k (Named named) = elim (or_cases (n == k) (m == k) named) [
        | inl x ↦ or_left _ _ (eq-eqb _ _ (ap (λ k. number_of (caller_of R k)) (eqb-true n k x)))
        | inr y ↦ or_right _ _ (or_left _ _ (eq-eqb _ _ (ap (λ k. number_of (caller_of R k)) (eqb-true m k y))))
      ]
      there k (Watching thread broken watching) = absurd (cc)
      there k (Due moment is due) = absurd (cc)

  module _ (table : List Slot) (changes : Changes) (old first second : Waiting) (past : old.slots.past ≡ S) (stands : Stands S old.slots.kept) (changed : HaveChanged table old.slots.kept.table changes) (named : HasNamed P (Written (Began n m)) changes) (one : FollowsChange old first changes.first) (two : FollowsChange first second changes.second) where
    -- the slot of its caller holds an open call
    open_there : (k : ℕ) → is_over S k ≡ false → is_some (standing_in (slot_at old.slots.kept.table (number_of (caller_of S k)))) ≡ true
    open_there k opened = ap (λ slot. is_some (standing_in slot)) (stands.table (number_of (caller_of S k))) ∙ ap is_some (slot_of_call S legal_last k opened)

    at_change : (k x : ℕ) → is_over S k ≡ false → names x (Written (Began n m)) ≡ true → number_of (caller_of R x) ≡ number_of (caller_of S k) → is_among second.candidates (number_of (caller_of S k)) ≡ true
    at_change k x opened is same = places_come changes old first second one two (number_of (caller_of S k)) (open_there k opened) (subst (λ place. changes_at changes place ≡ true) same (named x is))

    names_first : names n (Written (Began n m)) ≡ true
    names_first = or_left (n == n) _ (eq-eqb n n refl)

    names_second : names m (Written (Began n m)) ≡ true
    names_second = or_right (n == m) _ (eq-eqb m m refl)

    kept : (k : ℕ) → is_over S k ≡ false → is_among (more old.candidates) (number_of (caller_of S k)) ≡ true → is_among second.candidates (number_of (caller_of S k)) ≡ true
    kept k opened among = elim (or_cases (number_of (caller_of R n) == number_of (caller_of S k)) _ among) [
      | inl x ↦ at_change k n opened names_first (eqb-true _ _ x)
      | inr others ↦ elim (or_cases (number_of (caller_of R m) == number_of (caller_of S k)) _ others) [
        | inl y ↦ at_change k m opened names_second (eqb-true _ _ y)
        | inr rest ↦ places_stay changes old first second one two (number_of (caller_of S k)) (open_there k opened) rest
      ]
    ]

    added : (k : ℕ) → is_among (touched R (Written (Ended n m))) k ≡ true → is_over S k ≡ false → is_among second.candidates (number_of (caller_of S k)) ≡ true
    added k among opened = elim (or_cases (n == k) false among) [
      | inl x ↦ (let same : n ≡ k = eqb-true n k x in at_change k n opened names_first (ap (λ k. number_of (caller_of R k)) same ∙ ap number_of (sym (caller_of_kept R (Written (Ended n m) ∷ []) k (open_is_called R k (subst (λ k. is_over R k ≡ false) same open_then.0))))))
      | inr y ↦ absurd (cc)
    ]

    pub passed : AreWaits table old.waits → CoversAt P old.candidates → IsWaiting second
    passed are covers = record {
      waits = waits_are table changes old first second changed one two are;
      covers = subst (λ H. CoversAt H second.candidates) (sym (ap (λ s. s.past) (two.slots ∙ one.slots) ∙ past)) (entry_covers_at R (Written (Ended n m)) (more old.candidates) second.candidates legal_then ends (begun_covers old.candidates covers) kept added);
    }
