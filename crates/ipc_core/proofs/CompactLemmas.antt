-- What is kept where a kernel is compacted, and how much.
use Rattle.std.proofs.lemmas.Bool.{false≢true}
use Rattle.std.proofs.Common.{◌≡◌, refl, sym, ap, ap₂, ◌∙◌, subst, ℕ, ◌+◌, ◌-◌, ◌^◌, ◌<◌, ◌≤◌, Bool, true, false, ◌==◌, List, [], ◌∷◌, ◌++◌, length, length-append, take, drop, if◌then◌else◌, nat_lt, arith}
use Rattle.std.proofs.lemmas.List.{append-nil, append_assoc, drop_all, length-drop, length-take-le}
use Rattle.std.proofs.lemmas.List.Folds.{list_any-append}
use Rattle.ipc_words.specs.Limits.{table_slots}
use Rattle.ipc_history.specs.Entries.{calls}
use Rattle.ipc_history.specs.Holding.{compacted, held_before, held_of, marked_to, reached}
use Rattle.ipc_history.specs.HistoryParts.{HeldParts, HistoryParts}
use Rattle.ipc_history.specs.Keeping.{keeps, kept_ahead}
use Rattle.ipc_history.specs.Legal.{Legal}
use Rattle.ipc_history.specs.Phases.{is_over}
use Rattle.ipc_history.specs.declared.entry.Entry.{Entry}
use Rattle.ipc_history.specs.declared.entry.Entry.TheVariants.{Given, Written}
use Rattle.ipc_history.specs.declared.entry.Input.TheVariants.{At, Opened, Called, Exreg, Broke, Moved}
use Rattle.ipc_history.proofs.HoldingLemmas.{held_fields, reached_least, reached_most}
use Rattle.ipc_laws.proofs.Growth.{open_is_called}
use Rattle.ipc_laws.proofs.OpenCalls.{caller_lives}
use Rattle.ipc_compact.specs.Compact.{is_among, is_kept, kept_before, kept_of, kept_places}
use Rattle.ipc_compact.specs.Places.{WasPlaced}
use Rattle.ipc_compact.proofs.CallReading as there
use Rattle.ipc_compact.proofs.PlaceLemmas.{at_places, places_kept, to_the_end}
use Rattle.ipc_compact.proofs.Reading.{named}
use Rattle.ipc_compact.proofs.SameCompact.{among_numbers}
use Rattle.ipc_desks.specs.Desks.{Keeps as DesksKeep}
use Rattle.ipc_desks.specs.declared.desk.Desk.{Desk}
use Rattle.ipc_compact.specs.Kept.{KeptParts, PassesAs, kept_upto, passes}
use Rattle.ipc_compact.proofs.KeptLaw.{kept_is}
use Rattle.ipc_core.specs.Books.{AreBooks, TookOthers}
use Rattle.ipc_core.specs.Compacting.{HoldsCompact, kept_to}
use Rattle.ipc_core.specs.CourseParts.{CourseParts, history_of}
use Rattle.ipc_core.specs.KernelParts as kernel
use Rattle.ipc_core.specs.Invariants.{IsWhole}
use Rattle.ipc_core.proofs.BookLemmas.{books_rest}
use Rattle.ipc_core.proofs.Resting.{kernel_same}

-- an entry that enters an open call is kept
pub open_kept : (H : List Entry) (taken : List ℕ) → Legal H → (n : ℕ) (e : Entry) → is_over H n ≡ false → calls n e ≡ true → is_kept H taken e ≡ true
open_kept H taken legal n (Given (Called k t call)) opened is =
    named H taken n (there.open_kept H taken n (among_numbers H n (open_is_called H n opened)) opened (caller_lives H legal n opened)) (Given (Called k t call)) is
open_kept H taken legal n (Given (At moment)) opened is = absurd (false≢true is)
open_kept H taken legal n (Given (Opened thread space)) opened is = absurd (false≢true is)
open_kept H taken legal n (Given (Exreg thread target control)) opened is = absurd (false≢true is)
open_kept H taken legal n (Given (Broke thread)) opened is = absurd (false≢true is)
open_kept H taken legal n (Given (Moved k count)) opened is = absurd (false≢true is)
open_kept H taken legal n (Written output) opened is = absurd (false≢true is)

-- what the last calls tell is what is kept
pub passes_is : (P H : List Entry) (taken : List ℕ) (desks : List Desk) → P ≡ H → Legal H → DesksKeep P taken desks → TookOthers H taken → (kept : KeptParts) → PassesAs kept (kept_upto P taken table_slots) → (e : Entry) → passes kept e ≡ is_kept H taken e
passes_is P H taken desks seen legal keeps others kept same e =
    same e ∙ (ap (λ l. passes (kept_upto l taken table_slots) e) seen ∙ kept_is H taken legal (subst (λ l. DesksKeep l taken desks) seen keeps).over others e)

-- what is kept of what is held, is kept of all
pub kept_of_all : (taken : List ℕ) (test : Entry → Bool) (upto : ℕ) (history : HistoryParts) → Legal history.entries → ((e : Entry) → test e ≡ is_kept history.entries taken e) → WasPlaced history.entries taken history.held.front history.held.places history.held.whole_from → history.held.whole_from ≤ length history.entries → compacted test upto history ≡ kept_to taken upto history
kept_of_all taken test upto history legal same was within =
    let least = reached_least history upto within in
    let most = reached_most history upto within in
    (λ i. compacted (λ e. same e i) upto history)
    ∙ held_fields _ _ _ _ (reached upto history) (reached upto history) history.held.mark
    (at_places history.entries taken history.held.front history.held.whole_from (reached upto history) legal was.was least most)
    (places_kept history.entries taken history.held.front history.held.places history.held.whole_from (reached upto history) legal was least most)
    refl

-- and so it was kept
pub kept_now : (H : List Entry) (taken : List ℕ) (front : List Entry) (places : List ℕ) (place : ℕ) → place ≤ length H → front ≡ kept_before H taken place → places ≡ kept_places H taken place → WasPlaced H taken front places place
kept_now H taken front places place within is are = record {
  was = record { past = H; since = []; whole = sym (append-nil H); within = within; took = taken; among = λ n h. h; kept = is };
  places_are = are;
}

-- it stays so with more entries, and with more outcomes taken
pub kept_more : (H K : List Entry) (taken : List ℕ) (front : List Entry) (places : List ℕ) (place : ℕ) (e : Entry) → K ≡ H ++ e ∷ [] → WasPlaced H taken front places place → WasPlaced K taken front places place
kept_more H K taken front places place e longer placed = record {
  was = record {
    past = placed.was.past;
    since = placed.was.since ++ e ∷ [];
    whole = longer ∙ (ap (λ l. l ++ e ∷ []) placed.was.whole ∙ append_assoc placed.was.past placed.was.since (e ∷ []));
    within = placed.was.within;
    took = placed.was.took;
    among = placed.was.among;
    kept = placed.was.kept;
  };
  places_are = placed.places_are;
}

pub kept_taken : (H : List Entry) (taken more : List ℕ) (front : List Entry) (places : List ℕ) (place : ℕ) → ((n : ℕ) → is_among n taken ≡ true → is_among n more ≡ true) → WasPlaced H taken front places place → WasPlaced H more front places place
kept_taken H taken more front places place grows placed = record {
  was = record {
    past = placed.was.past;
    since = placed.was.since;
    whole = placed.was.whole;
    within = placed.was.within;
    took = placed.was.took;
    among = λ n h. grows n (placed.was.among n h);
    kept = placed.was.kept;
  };
  places_are = placed.places_are;
}

pub among_more : (taken : List ℕ) (k n : ℕ) → is_among n taken ≡ true → is_among n (taken ++ k ∷ []) ≡ true
among_more taken k n h = list_any-append (λ m. m == n) taken (k ∷ []) ∙ rw h refl

pub kept_none : WasPlaced [] [] [] [] 0
unfolding kept_before kept_places is_kept
kept_none = record {
  was = record { past = []; since = []; whole = refl; within = omega arith; took = []; among = λ n h. h; kept = refl };
  places_are = refl;
}

-- where a history is compacted no more is held than before
ahead_few : (test : Entry → Bool) (front rest : List Entry) → length (kept_ahead test front rest) ≤ length front
ahead_few test [] rest = omega arith
ahead_few test (e ∷ front) rest = go (ahead_few test front rest) (keeps test e (front ++ rest))
  where
    go : length (kept_ahead test front rest) ≤ length front → (b : Bool) → length (if b then e ∷ kept_ahead test front rest else kept_ahead test front rest) ≤ length (e ∷ front)
    go few true = omega (arith, few)
    go few false = omega (arith, few)

pub held_few : (test : Entry → Bool) (upto : ℕ) (history : HistoryParts) (held : HeldParts) (room : ℕ) → held ≡ compacted test upto history → history.held.whole_from ≤ length history.entries → length (held_of (record { entries = history.entries; held = held; room = room })) ≤ length (held_of history)
held_few test upto history held room is front =
    let least = reached_least history upto front in
    let most = reached_most history upto front in
    let place = reached upto history in
    let from = history.held.whole_from in
    let few = ahead_few test (held_before upto history) (drop (reached upto history) history.entries) in
    let after = length-append (kept_ahead test (held_before upto history) (drop place history.entries)) (drop place history.entries) in
    let before = length-append history.held.front (drop from history.entries) in
    let between = length-append history.held.front (take (place - from) (drop from history.entries)) in
    let all = length-drop from history.entries in
    let taken = length-take-le (place - from) (drop from history.entries) (omega (arith, all, most)) in
    let rest = length-drop place history.entries in
    subst (λ h. length (held_of (record { entries = history.entries; held = h; room = room })) ≤ length (held_of history)) (sym is) (omega (arith, few, after, before, between, taken, rest, all, least, most))

-- a course where a command begins holds the same
pub begun_same : (old begun : CourseParts) → begun.entries ≡ old.entries → begun.held ≡ old.held → begun.room ≡ old.room → held_of (history_of begun) ≡ held_of (history_of old)
begun_same old begun entries held room = λ i. held_of (record { entries = entries i; held = held i; room = room i })

pub kept_begun : (old begun : CourseParts) → begun.entries ≡ old.entries → begun.held ≡ old.held → begun.taken ≡ old.taken → (upto : ℕ) → kept_to begun.taken upto (history_of begun) ≡ kept_to old.taken upto (history_of old)
kept_begun old begun entries held taken upto = λ i. kept_to (taken i) upto (record { entries = entries i; held = held i; room = old.room })

-- it is whole, and counts what was let go no longer
pub compacts_whole : (limit more calls_limit moment : ℕ) (old new : CourseParts) → IsWhole limit calls_limit moment old → new.entries ≡ old.entries → old.room ≤ new.room → new.taken ≡ old.taken → new.since ≡ length old.entries → limit ≤ more → more < 2 ^ 63 → more + length (held_of (history_of new)) ≤ limit + length (held_of (history_of old)) → IsWhole more calls_limit moment new
compacts_whole limit more calls_limit moment old new whole same room taken since raised few left =
    let kernel = kernel_same limit calls_limit moment old new whole.kernel same room in
    let within = kernel.stands.within in
    record {
      kernel = record {
        stands = record {
          legal = kernel.stands.legal;
          quiet = kernel.stands.quiet;
          within = omega (arith, within, raised);
          past = kernel.stands.past;
          in_range = kernel.stands.in_range;
          undue = kernel.stands.undue;
        };
        room = kernel.room;
        few_entries = few;
        few_calls = kernel.few_calls;
      };
      books = subst (λ H. AreBooks H new.taken new.since) (sym same) (subst (λ t. AreBooks old.entries t new.since) (sym taken) (books_rest old.entries old.taken new.since old.since since whole.books));
      fits = (let fits = whole.fits in omega (arith, fits, left, ap length same));
    }

-- it stays whole where more entries are marked
pub marked_whole : (limit calls_limit moment : ℕ) (old new : CourseParts) (upto : ℕ) → new ≡ record old { held = marked_to upto old.held } → IsWhole limit calls_limit moment old → IsWhole limit calls_limit moment new
marked_whole limit calls_limit moment old new upto is whole =
    let kernel = whole.kernel in
    subst (IsWhole limit calls_limit moment) (sym is) (record {
      kernel = record { stands = kernel.stands; room = kernel.room; few_entries = kernel.few_entries; few_calls = kernel.few_calls };
      books = whole.books;
      fits = whole.fits;
    })

-- a compaction up to the end ends there, and then the compact is held
reached_end : (upto : ℕ) (history : HistoryParts) → history.held.whole_from ≤ length history.entries → length history.entries ≤ upto → reached upto history ≡ length history.entries
reached_end upto history within far = go (nat_lt upto history.held.whole_from) refl (nat_lt upto (length history.entries)) refl
  where
    go : (a : Bool) → nat_lt upto history.held.whole_from ≡ a → (b : Bool) → nat_lt upto (length history.entries) ≡ b → reached upto history ≡ length history.entries
    go true i b j = rw i (grind (arith, within, far))
    go false i true j = absurd (past upto (length history.entries) far j)
      where
        past : (a b : ℕ) → b ≤ a → nat_lt a b ≡ true → ⊥
        past a b far h = grind arith
    go false i false j = rw (i, j) refl

pub holds_compact : HoldsCompact
holds_compact old new upto done compacts within far =
    let place = reached_end upto (kernel.history_of old) within far in
    let H = old.history in
    let front : new.held.front ≡ kept_of H old.taken = ap (λ h. h.front) compacts.held ∙ (ap (kept_before H old.taken) place ∙ to_the_end H old.taken) in
    let from : new.held.whole_from ≡ length H = ap (λ h. h.whole_from) compacts.held ∙ place in
    ap₂ (λ f k. f ++ drop k new.history) front from
    ∙ (ap (λ l. kept_of H old.taken ++ drop (length H) l) compacts.history
    ∙ (ap (λ l. kept_of H old.taken ++ l) (drop_all (length H) H (omega arith))
    ∙ (append-nil (kept_of H old.taken) ∙ ap₂ kept_of (sym compacts.history) (sym compacts.taken))))
