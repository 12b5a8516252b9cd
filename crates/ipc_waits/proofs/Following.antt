-- Queues and candidates in step with the slots.
use Rattle.std.proofs.lemmas.Bool.{false≢true, or_cases}
use Rattle.std.proofs.Common.{◌≡◌, refl, sym, ap, ◌∙◌, subst, ℕ, ◌||◌, ◌==◌, eqb-true, Bool, true, false, List, [], ◌∷◌, ◌++◌, Option, Some, None, is_some, inl, inr, arith, if◌then◌else◌}
use Rattle.ipc_words.specs.ThreadId.{number_of}
use Rattle.ipc_history.specs.Calls.{caller_of}
use Rattle.ipc_history.specs.Entries.{names}
use Rattle.ipc_history.specs.Legal.{Follows, Legal}
use Rattle.ipc_history.specs.Phases.{is_over}
use Rattle.ipc_history.specs.declared.entry.Entry.{Entry}
use Rattle.ipc_laws.proofs.Growth.{caller_of_kept, open_is_called}
use Rattle.ipc_waits.specs.Finding.{CoversAt, is_among, touched as touched_by}
use Rattle.ipc_waits.proofs.AtPlaces.{entry_covers_at}
use Rattle.ipc_threads.specs.Changes.{HasNamed, HaveChanged, changes_at, names_place}
use Rattle.ipc_threads.specs.Slots.{Stands, slot_at}
use Rattle.ipc_threads.specs.Steps.{standing_in}
use Rattle.ipc_threads.specs.declared.changes.Change.{Change}
use Rattle.ipc_threads.specs.declared.changes.Changes.{Changes}
use Rattle.ipc_threads.specs.Slot.{Slot}
use Rattle.ipc_threads.specs.declared.slot.Standing.{Standing}
use Rattle.ipc_waits.specs.Following.{FollowsChange}
use Rattle.ipc_waits.specs.Keys.{AreWaits, HasAt, HaveAt, IsSameElsewhere, SameElsewhere, due_under, is_of, sends_under, watches_under}
use Rattle.ipc_waits.specs.Queues.{is_in}
use Rattle.ipc_waits.specs.Waiting.{IsTouched, IsWaiting}
use Rattle.ipc_waits.specs.declared.queue.Wait.{Wait}
use Rattle.ipc_waits.specs.declared.waiting.Waiting.{Waiting}
use Rattle.ipc_waits.specs.declared.queues.Waits.{Waits}
use Rattle.ipc_waits.specs.Candidates.{FollowsPlace}
use Rattle.ipc_laws.proofs.Settling.{legal_push}
use Rattle.ipc_threads.proofs.Holders.{slot_of_call}
use Rattle.ipc_waits.proofs.Numbers.{eqb_sym}

-- the open call of each place
abbrev calls_in : List Slot → ℕ → Option Standing
calls_in table k = standing_in (slot_at table k)

-- a queue has the waits of these calls, and no other
abbrev HasAll : (Standing → Option ℕ) → (ℕ → Option Standing) → List Wait → Type 0
HasAll key_of calls waits = (w : Wait) → is_in waits w ≡ is_of key_of (calls w.place) w

record HaveAll (calls : ℕ → Option Standing) (waits : Waits) : Type 0 where
  senders : HasAll sends_under calls waits.senders
  watchers : HasAll watches_under calls waits.watchers
  deadlines : HasAll due_under calls waits.deadlines

-- the calls where the one of a place is another
abbrev changed_at : ℕ → Option Standing → (ℕ → Option Standing) → ℕ → Option Standing
changed_at place call calls k = (if k == place then call else calls k)

has_changed : (key_of : Standing → Option ℕ) (calls : ℕ → Option Standing) (old new : List Wait) (place : ℕ) (call : Option Standing) → HasAll key_of calls old → HasAt key_of new place call → IsSameElsewhere old new place → HasAll key_of (changed_at place call calls) new
has_changed key_of calls old new place call has here same w = go (w.place == place) refl
  where
    go : (b : Bool) → (w.place == place) ≡ b → is_in new w ≡ is_of key_of (if b then call else calls w.place) w
    go true e = here w (eqb-true w.place place e)
    go false e = same w e ∙ has w

have_changed : (calls : ℕ → Option Standing) (old new : Waits) (place : ℕ) (call : Option Standing) → HaveAll calls old → HaveAt new place call → SameElsewhere old new place → HaveAll (changed_at place call calls) new
have_changed calls old new place call have here same = record {
  senders = has_changed _ calls old.senders new.senders place call have.senders here.senders same.senders;
  watchers = has_changed _ calls old.watchers new.watchers place call have.watchers here.watchers same.watchers;
  deadlines = has_changed _ calls old.deadlines new.deadlines place call have.deadlines here.deadlines same.deadlines;
}

-- and where that of a changed slot is what it holds now
abbrev followed_by : List Slot → Option Change → (ℕ → Option Standing) → ℕ → Option Standing
followed_by table None calls = calls
followed_by table (Some c) calls = changed_at c.place (calls_in table c.place) calls

have_followed : (calls : ℕ → Option Standing) (old new : Waiting) (change : Option Change) → HaveAll calls old.waits → FollowsChange old new change → HaveAll (followed_by old.slots.kept.table change calls) new.waits
have_followed calls old new None have follows = subst (λ w. HaveAll calls w.waits) (sym (follows.nothing refl)) have
have_followed calls old new (Some c) have follows = have_changed calls old.waits new.waits c.place (calls_in old.slots.kept.table c.place) have follows.followed.here follows.followed.elsewhere

followed_is : (table : List Slot) (change : Option Change) (calls : ℕ → Option Standing) (k : ℕ) → (names_place k change ≡ false → calls k ≡ calls_in table k) → followed_by table change calls k ≡ calls_in table k
followed_is table None calls k same = same refl
followed_is table (Some c) calls k same = go (k == c.place) refl
  where
    go : (b : Bool) → (k == c.place) ≡ b → (if b then calls_in table c.place else calls k) ≡ calls_in table k
    go true e = ap (calls_in table) (sym (eqb-true k c.place e))
    go false e = same (eqb_sym c.place k ∙ e)

-- so where both changes are followed the queues have the calls that the slots hold
module _ (table : List Slot) (changes : Changes) (old first second : Waiting) (changed : HaveChanged table old.slots.kept.table changes) (one : FollowsChange old first changes.first) (two : FollowsChange first second changes.second) where
  calls_are : (k : ℕ) → followed_by first.slots.kept.table changes.second (followed_by old.slots.kept.table changes.first (calls_in table)) k ≡ calls_in second.slots.kept.table k
  calls_are k = ap (λ s. followed_by s.kept.table changes.second (followed_by old.slots.kept.table changes.first (calls_in table)) k) one.slots ∙ (followed_is old.slots.kept.table changes.second _ k (λ no_second. followed_is old.slots.kept.table changes.first (calls_in table) k (λ no_first. ap standing_in (sym (changed.elsewhere k (neither _ _ no_first no_second))))) ∙ ap (λ s. calls_in s.kept.table k) (sym (two.slots ∙ one.slots)))
    where
      neither : (a b : Bool) → a ≡ false → b ≡ false → (a || b) ≡ false
      neither a b x y = grind arith

  has_again : (key_of : Standing → Option ℕ) (calls again : ℕ → Option Standing) (waits : List Wait) → ((k : ℕ) → calls k ≡ again k) → HasAll key_of calls waits → HasAll key_of again waits
  has_again key_of calls again waits same has w = has w ∙ ap (λ c. is_of key_of c w) (same w.place)

  pub waits_are : AreWaits table old.waits → AreWaits second.slots.kept.table second.waits
  waits_are are =
      let have = have_followed _ first second changes.second (have_followed (calls_in table) old first changes.first (record { senders = are.senders; watchers = are.watchers; deadlines = are.deadlines }) one) two in
      record {
        senders = has_again _ _ _ second.waits.senders calls_are have.senders;
        watchers = has_again _ _ _ second.waits.watchers calls_are have.watchers;
        deadlines = has_again _ _ _ second.waits.deadlines calls_are have.deadlines;
      }

-- The places among the candidates

-- the place stays while its slot holds a call
stays : (old new : List ℕ) (place k : ℕ) (is_open : Bool) → FollowsPlace old new place is_open → ((place == k) ≡ true → is_open ≡ true) → is_among old k ≡ true → is_among new k ≡ true
stays old new place k is_open follows held among = follows k ∙ go (place == k) refl
  where
    go : (b : Bool) → (place == k) ≡ b → (if b then is_open else is_among old k) ≡ true
    go true same = held same
    go false other = among

follows_keeps : (old new : Waiting) (change : Option Change) → FollowsChange old new change → (k : ℕ) → is_some (calls_in old.slots.kept.table k) ≡ true → is_among old.candidates k ≡ true → is_among new.candidates k ≡ true
follows_keeps old new None follows k held among = ap (λ w. is_among w.candidates k) (follows.nothing refl) ∙ among
follows_keeps old new (Some c) follows k held among = stays old.candidates new.candidates c.place k _ follows.followed.candidates (λ same. ap (λ j. is_some (calls_in old.slots.kept.table j)) (eqb-true c.place k same) ∙ held) among

follows_adds : (old new : Waiting) (change : Option Change) → FollowsChange old new change → (k : ℕ) → is_some (calls_in old.slots.kept.table k) ≡ true → names_place k change ≡ true → is_among new.candidates k ≡ true
follows_adds old new None follows k held named = absurd (false≢true named)
follows_adds old new (Some c) follows k held named = follows.followed.candidates k ∙ rw named (ap (λ j. is_some (calls_in old.slots.kept.table j)) (eqb-true c.place k named) ∙ held)

module _ (changes : Changes) (old first second : Waiting) (one : FollowsChange old first changes.first) (two : FollowsChange first second changes.second) where
  open_then : (k : ℕ) → is_some (calls_in old.slots.kept.table k) ≡ true → is_some (calls_in first.slots.kept.table k) ≡ true
  open_then k held = ap (λ s. is_some (calls_in s.kept.table k)) one.slots ∙ held

  pub places_stay : (k : ℕ) → is_some (calls_in old.slots.kept.table k) ≡ true → is_among old.candidates k ≡ true → is_among second.candidates k ≡ true
  places_stay k held among = follows_keeps first second changes.second two k (open_then k held) (follows_keeps old first changes.first one k held among)

  pub places_come : (k : ℕ) → is_some (calls_in old.slots.kept.table k) ≡ true → changes_at changes k ≡ true → is_among second.candidates k ≡ true
  places_come k held at = elim (or_cases (names_place k changes.first) (names_place k changes.second) at) [
    | inl a ↦ follows_keeps first second changes.second two k (open_then k held) (follows_adds old first changes.first one k held a)
    | inr b ↦ follows_adds first second changes.second two k (open_then k held) b
  ]

-- An entry is followed
module _ (P : List Entry) (e : Entry) (legal : Legal P) (follows : Follows P e) (table : List Slot) (changes : Changes) (old first second : Waiting) (past : old.slots.past ≡ P ++ e ∷ []) (stands : Stands (P ++ e ∷ []) old.slots.kept) (changed : HaveChanged table old.slots.kept.table changes) (named : HasNamed P e changes) (one : FollowsChange old first changes.first) (two : FollowsChange first second changes.second) where
  covers_again : IsTouched P e old.candidates → CoversAt (P ++ e ∷ []) second.candidates
  covers_again touched = entry_covers_at P e touched.base second.candidates legal follows touched.covers (λ n opened among. places_stay changes old first second one two (number_of (caller_of (P ++ e ∷ []) n)) (open_there n opened) (touched.kept _ among)) there
    where
      -- the slot of its caller holds an held call
      open_there : (n : ℕ) → is_over (P ++ e ∷ []) n ≡ false → is_some (calls_in old.slots.kept.table (number_of (caller_of (P ++ e ∷ []) n))) ≡ true
      open_there n opened = ap (λ slot. is_some (standing_in slot)) (stands.table (number_of (caller_of (P ++ e ∷ []) n))) ∙ ap is_some (slot_of_call (P ++ e ∷ []) (legal_push P e legal follows) n opened)

      there : (n : ℕ) → is_among (touched_by P e) n ≡ true → is_over (P ++ e ∷ []) n ≡ false → is_among second.candidates (number_of (caller_of (P ++ e ∷ []) n)) ≡ true
      there n among opened = go (names n e) refl
        where
          go : (b : Bool) → names n e ≡ b → is_among second.candidates (number_of (caller_of (P ++ e ∷ []) n)) ≡ true
          go true is = places_come changes old first second one two (number_of (caller_of (P ++ e ∷ []) n)) (open_there n opened) (named n is)
          go false is =
              let waits = touched.unnamed n among is in
              places_stay changes old first second one two (number_of (caller_of (P ++ e ∷ []) n)) (open_there n opened) (ap (λ t. is_among old.candidates (number_of t)) (caller_of_kept P (e ∷ []) n (open_is_called P n waits.0)) ∙ waits.1)

  pub noted : AreWaits table old.waits → IsTouched P e old.candidates → IsWaiting second
  noted are touched = record {
    waits = waits_are table changes old first second changed one two are;
    covers = subst (λ H. CoversAt H second.candidates) (sym (ap (λ s. s.past) (two.slots ∙ one.slots) ∙ past)) (covers_again touched);
  }
