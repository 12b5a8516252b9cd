-- An entry that a compaction let go is not kept by a later one.
use Rattle.std.proofs.lemmas.Bool.{false≢true, true≢false, false_from_ne_true}
use Rattle.std.proofs.lemmas.List.Folds.{list_any-append}
use Rattle.std.proofs.Common.{◌≡◌, refl, sym, ap, ◌∙◌, subst, ℕ, ◌==◌, eqb-true, eq-eqb, Bool, true, false, not, ◌&&◌, ◌||◌, List, [], ◌∷◌, ◌++◌, filter, if◌then◌else◌, ◌⊎◌, inl, inr, arith}
use Rattle.std.specs.List.{list_any}
use Rattle.ipc_history.specs.Words.{before}
use Rattle.ipc_history.specs.Entries.{breaks, calls, names, opens}
use Rattle.ipc_history.specs.Calls.{is_called, caller_of, numbers, originator_of}
use Rattle.ipc_history.specs.Threads.{has_broken, is_live, was_opened}
use Rattle.ipc_history.specs.Phases.{is_over}
use Rattle.ipc_history.specs.Matching.{before_call, is_propagated, shown_sender}
use Rattle.ipc_history.specs.Legal.{Legal}
use Rattle.ipc_history.specs.declared.entry.Entry.{Entry}
use Rattle.ipc_history.specs.declared.entry.Entry.TheVariants.{Given, Written}
use Rattle.ipc_history.specs.declared.entry.Input.TheVariants.{At, Opened, Called, Exreg, Broke, Moved}
use Rattle.ipc_laws.proofs.Befores.{shown_kept}
use Rattle.ipc_laws.proofs.Endings.{caller_here, live_unbroken}
use Rattle.ipc_laws.proofs.Growth.{caller_of_kept, has_broken_append, is_called_kept, open_is_called, over_kept, was_open}
use Rattle.ipc_laws.proofs.Histories.{admitted_at, follows_at, legal_front, named_open}
use Rattle.ipc_laws.proofs.Numbering.{called_below, calls_called, entered, number_at}
use Rattle.ipc_laws.proofs.OneOpen.{free_parts}
use Rattle.ipc_laws.proofs.OpenCalls.{caller_lives, caller_opened}
use Rattle.ipc_laws.proofs.Pairing.{legal_before}
use Rattle.ipc_laws.proofs.Places.{Place, any_at, any_place, place_behind}
use Rattle.ipc_laws.proofs.Tests.{both, left, neither_left, not_both, refuted, right}
use Rattle.ipc_compact.specs.Compact.{further_calls, is_among, is_further, is_kept, is_kept_call, is_kept_thread, is_of_thread, is_told_of, kept_calls, kept_of, names_one}
use Rattle.ipc_compact.specs.Reads.{Narrower}
use Rattle.ipc_compact.specs.Later.{NotNeededAgain, KeptLater}
use Rattle.ipc_compact.proofs.Again.{kept_again}
use Rattle.ipc_compact.proofs.CallReading as there
use Rattle.ipc_compact.proofs.KeptTold.{filter_source, among_called, either_of}
use Rattle.ipc_compact.proofs.Reading as reading
use Rattle.ipc_compact.proofs.SameCompact.{among_numbers, called_any}
use Rattle.ipc_compact.proofs.ThreadReading as threads

first : (a b : Bool) → a ≡ true → (a || b) ≡ true
first a b h = grind arith

third : (a b c : Bool) → c ≡ true → (a || b || c) ≡ true
third a b c h = grind arith

-- an entry of a list names one of these calls
pub named_one : (ns : List ℕ) (e : Entry) → names_one ns e ≡ true → (n : ℕ) × (is_among n ns ≡ true) × (names n e ≡ true)
named_one ns e h =
    let p = any_place (λ n. names n e) ns h in
    (p.0, any_at (λ k. k == p.0) ns p.0 p.1 (eq-eqb p.0 p.0 refl), p.2)

-- a call that an entry names was made
pub named_called : (P : List Entry) → Legal P → (e : Entry) → Place P e → (n : ℕ) → names n e ≡ true → is_called P n ≡ true
named_called P legal e at n named = go (calls n e) refl
  where
    go : (b : Bool) → calls n e ≡ b → is_called P n ≡ true
    go true enters = calls_called P n (any_at (calls n) P e at enters)
    go false other =
        rw at.whole (is_called_kept at.front (e ∷ at.rest) n (open_is_called at.front n (named_open at.front e (follows_at P legal e at) n named other)))

-- the front of a list in which nothing passes
pub before_behind : (p : Entry → Bool) (P X : List Entry) → list_any p P ≡ false → before p (P ++ X) ≡ P ++ before p X
before_behind p [] X h = refl
before_behind p (e ∷ P) X h = go (before_behind p P X) (p e) h
  where
    go : (list_any p P ≡ false → before p (P ++ X) ≡ P ++ before p X) → (b : Bool) → (b || list_any p P) ≡ false → (if b then [] else e ∷ before p (P ++ X)) ≡ e ∷ (P ++ before p X)
    go again true g = absurd (true≢false g)
    go again false g = ap (λ l. e ∷ l) (again g)

-- what an entry is kept for
abbrev KeptFor : List Entry → List ℕ → Entry → Type 0
KeptFor H taken e =
    (names_one (kept_calls H taken) e ≡ true)
    ⊎ ((is_told_of e ≡ true) × (names_one (further_calls H taken) e ≡ true)
    ⊎ (is_of_thread (λ t. threads.stays H taken t) e ≡ true))

kept_for : (H : List Entry) (taken : List ℕ) (e : Entry) → is_kept H taken e ≡ true → KeptFor H taken e
unfolding is_kept
kept_for H taken e h = go (names_one (kept_calls H taken) e) refl (is_told_of e && names_one (further_calls H taken) e) refl h
  where
    go : (a : Bool) → names_one (kept_calls H taken) e ≡ a → (b : Bool) → (is_told_of e && names_one (further_calls H taken) e) ≡ b → (a || b || is_of_thread (λ t. threads.stays H taken t) e) ≡ true → KeptFor H taken e
    go true k b f h = inl k
    go false k true f h = inr (inl (left _ _ f, right (is_told_of e) _ f))
    go false k false f h = inr (inr h)

by_thread : (H : List Entry) (taken : List ℕ) (e : Entry) → is_of_thread (λ t. threads.stays H taken t) e ≡ true → is_kept H taken e ≡ true
unfolding is_kept
by_thread H taken e h = third (names_one (kept_calls H taken) e) (is_told_of e && names_one (further_calls H taken) e) _ h

module _ (P X : List Entry) (taken later : List ℕ) (legal2 : Legal (P ++ X)) (grown : (n : ℕ) → is_among n taken ≡ true → is_among n later ≡ true) where
  abbrev P2 : List Entry
  P2 = P ++ X

  legal : Legal P
  legal = legal_front P X legal2

  -- a thread that lives later, and was opened, lives
  unbroken_front : (F : List Entry) (t : ℕ) → is_live (P ++ F) t ≡ true → has_broken P t ≡ false
  unbroken_front F t l = neither_left (has_broken P t) (has_broken F t) (sym (has_broken_append P F t) ∙ live_unbroken (P ++ F) t l)

  live_front : (F : List Entry) (t : ℕ) → was_opened P t ≡ true → is_live (P ++ F) t ≡ true → is_live P t ≡ true
  unfolding is_live
  live_front F t opened l = rw (opened, unbroken_front F t l) refl

  -- a call that is kept later is kept
  pub kept_before : (n : ℕ) → is_called P n ≡ true → is_among n (kept_calls P2 later) ≡ true → is_among n (kept_calls P taken) ≡ true
  unfolding kept_calls is_kept_call
  kept_before n c k =
      let keeps = there.filter_among n (λ n. is_live P2 (caller_of P2 n) && not (is_over P2 n && is_among n later)) (numbers P2) k in
      let lives : is_live P2 (caller_of P n) ≡ true = ap (is_live P2) (sym (caller_of_kept P X n c)) ∙ left _ _ keeps in
      let here = live_front X (caller_of P n) (caller_opened P legal n c) lives in
      there.among_filter n (λ n. is_live P (caller_of P n) && not (is_over P n && is_among n taken)) (numbers P) (among_numbers P n c)
      (both _ _ here (untaken (is_over P n) refl (is_among n taken) refl (refuted _ (right _ _ keeps))))
    where
      untaken : (o : Bool) → is_over P n ≡ o → (t : Bool) → is_among n taken ≡ t → (is_over P2 n && is_among n later) ≡ false → not (is_over P n && is_among n taken) ≡ true
      untaken true o true t h = not_both (both _ _ (over_kept P X n c o) (grown n t)) h
      untaken true o false t h = rw (o, t) refl
      untaken false o t is h = rw o refl

  -- an entry that came since names a call beside a kept one: it was open
  beside_later : (n : ℕ) → is_called P n ≡ true → is_among n (kept_calls P2 later) ≡ false → (e : Entry) (at : Place X e) → names n e ≡ true → names_one (kept_calls P2 later) e ≡ true → is_over P n ≡ false
  beside_later n c other e at named beside = go (calls n e) refl
    where
      behind : Place P2 e
      behind = place_behind P X e at

      among : (e : Entry) → calls n e ≡ true → names_one (kept_calls P2 later) e ≡ true → is_among n (kept_calls P2 later) ≡ true
      among (Given (Called k thread parts)) is h =
          let one = named_one (kept_calls P2 later) (Given (Called k thread parts)) h in
          subst (λ n. is_among n (kept_calls P2 later) ≡ true) (sym (eqb-true k one.0 one.2) ∙ eqb-true k n is) one.1
      among _ is h = absurd (false≢true is)

      go : (b : Bool) → calls n e ≡ b → is_over P n ≡ false
      go true enters = not_both (among e enters beside) other
      go false not_its = was_open P at.front n c (named_open (P ++ at.front) e (follows_at P2 legal2 e behind) n named not_its)

  -- a call that is there later is there
  pub there_before : (n : ℕ) → is_called P n ≡ true → there.IsThere P2 later n → there.IsThere P taken n
  unfolding further_calls is_further
  there_before n c (inl kept) = inl (kept_before n c kept)
  there_before n c (inr further) = elim (either_of _ _ (sym (list_any-append test P X) ∙ right _ _ passes)) [
    | inl here ↦ in_front here
    | inr since ↦ behind since
  ]
    where
      test : Entry → Bool
      test e = names n e && names_one (kept_calls P2 later) e

      passes : (not (is_among n (kept_calls P2 later)) && list_any (λ e. names n e && names_one (kept_calls P2 later) e) P2) ≡ true
      passes = there.filter_among n (λ k. not (is_among k (kept_calls P2 later)) && list_any (λ e. names k e && names_one (kept_calls P2 later) e) P2) (numbers P2) further

      in_front : list_any test P ≡ true → there.IsThere P taken n
      in_front h =
          let p = any_place test P h in
          let one = named_one (kept_calls P2 later) p.0 (right (names n p.0) _ p.2) in
          there.beside_kept P taken n one.0 (kept_before one.0 (named_called P legal p.0 p.1 one.0 one.2) one.1) (among_numbers P n c)
          (any_at (λ e. names n e && names one.0 e) P p.0 p.1 (both _ _ (left (names n p.0) _ p.2) one.2))

      behind : list_any test X ≡ true → there.IsThere P taken n
      behind h =
          let p = any_place test X h in
          let o = beside_later n c (refuted _ (left _ _ passes)) p.0 p.1 (left (names n p.0) _ p.2) (right (names n p.0) _ p.2) in
          inl (there.open_kept P taken n (among_numbers P n c) o (caller_lives P legal n o))

  -- the caller and the shown sender of a call that came since lived when it was made
  module _ (n : ℕ) (new : is_called P n ≡ false) (c : is_called P2 n ≡ true) where
    uncalled : list_any (calls n) P ≡ false
    uncalled = false_from_ne_true _ (λ some. not_both (calls_called P n some) new)

    since : list_any (calls n) X ≡ true
    since = second _ _ (sym (list_any-append (calls n) P X) ∙ called_any P2 n c) uncalled
      where
        second : (a b : Bool) → (a || b) ≡ true → a ≡ false → b ≡ true
        second a b h k = grind arith

    caller_lived : (F : List Entry) × (is_live (P ++ F) (caller_of P2 n) ≡ true)
    caller_lived = let p = any_place (calls n) X since in go p.0 p.1 p.2
      where
        go : (e : Entry) → Place X e → calls n e ≡ true → (F : List Entry) × (is_live (P ++ F) (caller_of P2 n) ≡ true)
        go (Given (Called k t call)) at is =
            let same : k ≡ n = eqb-true k n is in
            let behind = place_behind P X (Given (Called k t call)) at in
            let place : Place P2 (Given (Called n t call)) = subst (λ n. Place P2 (Given (Called n t call))) same behind in
            let number = number_at P2 legal2 n t call place in
            let fresh : is_called place.front n ≡ false = false_from_ne_true _ (λ called. let low = called_below place.front (legal_before P2 legal2 _ place) n called in omega (arith, number, low)) in
            let lived = (free_parts (P ++ at.front) t (entered (P ++ at.front) k t call (admitted_at P2 legal2 (Called k t call) behind)).0).0 in
            (at.front, rw (caller_here P2 n t call place fresh) lived)
        go _ at is = absurd (false≢true is)

    originator_lived : is_propagated P2 n ≡ true → is_live (P ++ before (calls n) X) (originator_of P2 n) ≡ true
    unfolding is_propagated before_call
    originator_lived p = ap (λ F. is_live F (originator_of P2 n)) (sym (before_behind (calls n) P X uncalled)) ∙ middle _ _ _ p
      where
        middle : (a b c : Bool) → (a && b && c) ≡ true → b ≡ true
        middle a b c h = grind arith

    shown_lived : (F : List Entry) × (is_live (P ++ F) (shown_sender P2 n) ≡ true)
    unfolding shown_sender
    shown_lived = go (is_propagated P2 n) refl
      where
        go : (b : Bool) → is_propagated P2 n ≡ b → (F : List Entry) × (is_live (P ++ F) (if is_propagated P2 n then originator_of P2 n else caller_of P2 n) ≡ true)
        go true p = (before (calls n) X, rw p (originator_lived p))
        go false p = rw p caller_lived

  source_called : (n : ℕ) (p : ℕ → Bool) → is_among n (filter p (numbers P2)) ≡ true → is_called P2 n ≡ true
  source_called n p h = among_called P2 n (filter_source n p (numbers P2) h)

  kept_made : (n : ℕ) → is_among n (kept_calls P2 later) ≡ true → is_called P2 n ≡ true
  unfolding kept_calls
  kept_made n h = source_called n (is_kept_call P2 later) h

  further_made : (n : ℕ) → is_among n (further_calls P2 later) ≡ true → is_called P2 n ≡ true
  unfolding further_calls
  further_made n h = source_called n (is_further P2 (kept_calls P2 later)) h

  -- a thread that stays later stays, where it stays if it lives at any time from now on
  module _ (t : ℕ) (lasts : (F : List Entry) → is_live (P ++ F) t ≡ true → threads.stays P taken t ≡ true) where
    one_stays : (n : ℕ) → is_called P2 n ≡ true → there.IsThere P2 later n → ((caller_of P2 n == t) || (shown_sender P2 n == t)) ≡ true → threads.stays P taken t ≡ true
    one_stays n c2 is h = go (is_called P n) refl
      where
        go : (b : Bool) → is_called P n ≡ b → threads.stays P taken t ≡ true
        go true c = let here = there_before n c is in elim (either_of _ _ h) [
          | inl by ↦ subst (λ t. threads.stays P taken t ≡ true) (sym (caller_of_kept P X n c) ∙ eqb-true _ t by) (there.caller_stays P taken n here)
          | inr by ↦ subst (λ t. threads.stays P taken t ≡ true) (sym (shown_kept P X n c) ∙ eqb-true _ t by) (there.shown_stays P taken n here)
        ]
        go false new = elim (either_of _ _ h) [
          | inl by ↦ let lived = caller_lived n new c2 in lasts lived.0 (ap (is_live (P ++ lived.0)) (sym (eqb-true _ t by)) ∙ lived.1)
          | inr by ↦ let lived = shown_lived n new c2 in lasts lived.0 (ap (is_live (P ++ lived.0)) (sym (eqb-true _ t by)) ∙ lived.1)
        ]

    some_stays : (ns : List ℕ) → ((n : ℕ) → is_among n ns ≡ true → (is_called P2 n ≡ true) × there.IsThere P2 later n) → is_kept_thread P2 ns t ≡ true → threads.stays P taken t ≡ true
    unfolding is_kept_thread
    some_stays ns are h = elim (either_of _ _ h) [
      | inl lives ↦ lasts X lives
      | inr some ↦
          let p = any_place (λ n. (caller_of P2 n == t) || (shown_sender P2 n == t)) ns some in
          let it = are p.0 (any_at (λ k. k == p.0) ns p.0 p.1 (eq-eqb p.0 p.0 refl)) in
          one_stays p.0 it.0 it.1 p.2
    ]

    stays_before : threads.stays P2 later t ≡ true → threads.stays P taken t ≡ true
    stays_before h = elim (either_of _ _ h) [
      | inl kept ↦ some_stays (kept_calls P2 later) (λ n h. (kept_made n h, inl h)) kept
      | inr further ↦ some_stays (further_calls P2 later) (λ n h. (further_made n h, inr h)) further
    ]

  opened_here : (t space : ℕ) → Place P (Given (Opened t space)) → was_opened P t ≡ true
  unfolding was_opened
  opened_here t space at = any_at (opens t) P (Given (Opened t space)) at (eq-eqb t t refl)

  broken_here : (t : ℕ) → Place P (Given (Broke t)) → (F : List Entry) → has_broken (P ++ F) t ≡ true
  unfolding has_broken
  broken_here t at F = list_any-append (breaks t) P F ∙ first _ _ (any_at (breaks t) P (Given (Broke t)) at (eq-eqb t t refl))

  thread_before : (e : Entry) → Place P e → is_of_thread (λ t. threads.stays P2 later t) e ≡ true → is_of_thread (λ t. threads.stays P taken t) e ≡ true
  thread_before (Given (Opened t space)) at h = stays_before t (λ F l. threads.lives_stays P taken t (live_front F t (opened_here t space at) l)) h
  thread_before (Given (Broke t)) at h = stays_before t (λ F l. not_both (broken_here t at F) (live_unbroken (P ++ F) t l)) h
  thread_before (Given (At moment)) at h = absurd (false≢true h)
  thread_before (Given (Called n thread _)) at h = absurd (false≢true h)
  thread_before (Given (Exreg thread target control)) at h = absurd (false≢true h)
  thread_before (Given (Moved n count)) at h = absurd (false≢true h)
  thread_before (Written output) at h = absurd (false≢true h)

  -- so an entry that is kept later is kept
  entry_before : (e : Entry) → Place P e → is_kept P2 later e ≡ true → is_kept P taken e ≡ true
  entry_before e at h = elim (kept_for P2 later e h) [
    | inl kept ↦
        let one = named_one (kept_calls P2 later) e kept in
        reading.named P taken one.0 (kept_before one.0 (named_called P legal e at one.0 one.2) one.1) e one.2
    | inr (inl further) ↦
        let one = named_one (further_calls P2 later) e further.1 in
        there.told P taken one.0 (there_before one.0 (named_called P legal e at one.0 one.2) (inr one.1)) e one.2 further.0
    | inr (inr thread) ↦ by_thread P taken e (thread_before e at thread)
  ]

narrower_by : (t u : Entry → Bool) (H : List Entry) → ((e : Entry) → Place H e → u e ≡ true → t e ≡ true) → Narrower t u H
narrower_by t u [] each = _
narrower_by t u (e ∷ H) each = (
  each e (record { front = []; rest = H; whole = refl }),
  narrower_by t u H (λ x at. each x (record { front = e ∷ at.front; rest = at.rest; whole = ap (λ l. e ∷ l) at.whole })),
)

pub not_needed_again : NotNeededAgain
not_needed_again P X taken later legal grown = narrower_by (is_kept P taken) (is_kept (P ++ X) later) P (entry_before P X taken later legal grown)

pub kept_later : KeptLater
unfolding kept_of
kept_later P X taken later legal grown = sym (kept_again (is_kept P taken) (is_kept (P ++ X) later) X P (not_needed_again P X taken later legal grown))
