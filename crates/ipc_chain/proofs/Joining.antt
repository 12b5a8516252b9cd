-- Where a part begins behind a history: what it keeps tells which outcomes were taken.
use Rattle.std.proofs.lemmas.Bool.{false≢true, true≢false, false_from_ne_true, or_cases}
use Rattle.std.proofs.lemmas.List.Elements.{filter_map-append}
use Rattle.std.proofs.lemmas.List.{take_more}
use Rattle.std.proofs.lemmas.List.Folds.{list_any-append}
use Rattle.std.specs.Option.{option_to_list}
use Rattle.std.proofs.Common.{◌≡◌, refl, sym, ap, ap₂, ◌∙◌, subst, ℕ, ◌+◌, ◌<◌, get_or, length, take, Bool, true, false, not, ◌&&◌, ◌||◌, ◌==◌, eq-eqb, eqb-true, if◌then◌else◌, List, [], ◌∷◌, ◌++◌, Option, Some, None, filter, filter_map, map, is_some, inl, inr, arith}
use Rattle.std.specs.List.{cons_option, list_any}
use Rattle.std.proofs.lemmas.Option.{same_Some}
use Rattle.ipc_words.specs.Limits.{table_slots}
use Rattle.ipc_history.specs.CallParts.{CallParts}
use Rattle.ipc_history.specs.Calls.{caller_of, calls_made, is_called, last_call, numbers}
use Rattle.ipc_history.specs.Entries.{calls}
use Rattle.ipc_history.specs.Keeping.{kept_list}
use Rattle.ipc_history.specs.Legal.{Legal, Quiet}
use Rattle.ipc_history.specs.Phases.{is_over}
use Rattle.ipc_history.specs.Threads.{is_live, now}
use Rattle.ipc_history.specs.declared.entry.Entry.{Entry}
use Rattle.ipc_history.specs.declared.entry.Entry.TheVariants.{Given, Written}
use Rattle.ipc_history.specs.declared.entry.Input.TheVariants.{At, Opened, Called, Exreg, Broke, Moved}
use Rattle.ipc_laws.proofs.Endings.{caller_here}
use Rattle.ipc_laws.proofs.Histories.{called_place}
use Rattle.ipc_laws.proofs.Numbering.{called_below, number_at}
use Rattle.ipc_laws.proofs.OneOpen.{caller_at}
use Rattle.ipc_laws.proofs.Pairing.{legal_before}
use Rattle.ipc_laws.proofs.Places.{Place, any_at, any_place}
use Rattle.ipc_laws.proofs.Tests.{not_both}
use Rattle.ipc_compact.specs.Compact.{Base, base_of, dropped_of, from, further_calls, is_among, is_further, is_kept, is_kept_call, is_kept_thread, is_of_thread, is_told_of, kept_calls, kept_of, last_version, names_one}
use Rattle.ipc_compact.specs.Later.{AreAmong}
use Rattle.ipc_compact.proofs.CallReading.{among_filter, filter_among, there, not_further}
use Rattle.ipc_compact.proofs.KeepLemmas.{kept_was_there}
use Rattle.ipc_compact.proofs.KeptTold.{among_called, kept_called}
use Rattle.ipc_compact.proofs.Reading.{call_read}
use Rattle.ipc_compact.proofs.SameCompact.{among_numbers}
use Rattle.ipc_desks.proofs.Finishing.{same_tests}
use Rattle.ipc_desks.proofs.LastCalls.{live_below}
use Rattle.ipc_compact.specs.Kept.{TookOthers}
use Rattle.ipc_chain.specs.Chains.{BeginsAt, IsCount, MayBeTaken, caller_kept, callers_kept}
use Rattle.ipc_chain.specs.Judging.{AreBooks, ChainParts, Joins, SaysAs, TakesBelow}

-- Of what a list is mapped to

mapped_from : (f : Entry → Option ℕ) (t : ℕ) (K : List Entry) → is_among t (filter_map f K) ≡ true → (e : Entry) × Place K e × (f e ≡ Some t)
mapped_from f t [] h = absurd (false≢true h)
mapped_from f t (e ∷ K) h = go (mapped_from f t K) (f e) refl h
  where
    go : (is_among t (filter_map f K) ≡ true → (x : Entry) × Place K x × (f x ≡ Some t)) → (o : Option ℕ) → f e ≡ o → is_among t (cons_option o (filter_map f K)) ≡ true → (x : Entry) × Place (e ∷ K) x × (f x ≡ Some t)
    go again None is h = let p = again h in (p.0, record { front = e ∷ p.1.front; rest = p.1.rest; whole = ap (λ l. e ∷ l) p.1.whole }, p.2)
    go again (Some s) is h = elim (or_cases (s == t) (is_among t (filter_map f K)) h) [
      | inl same ↦ (e, record { front = []; rest = K; whole = refl }, is ∙ ap (λ k. Some k) (eqb-true s t same))
      | inr more ↦ (let p = again more in (p.0, record { front = e ∷ p.1.front; rest = p.1.rest; whole = ap (λ l. e ∷ l) p.1.whole }, p.2))
    ]

pub mapped_more : (f : Entry → Option ℕ) (K : List Entry) (i : ℕ) (e : Entry) → i < length K → e ≡ get_or K i e → filter_map f (take (i + 1) K) ≡ filter_map f (take i K) ++ option_to_list (f e)
mapped_more f K i e within at =
    ap (filter_map f) (take_more K i e within ∙ ap (λ x. take i K ++ x ∷ []) (sym at)) ∙ (filter_map-append f (take i K) (e ∷ []) ∙ ap (λ l. filter_map f (take i K) ++ l) (one (f e)))
  where
    one : (o : Option ℕ) → cons_option o [] ≡ option_to_list o
    one None = refl
    one (Some x) = refl

mapped_to : (f : Entry → Option ℕ) (t : ℕ) (K : List Entry) (e : Entry) → Place K e → f e ≡ Some t → is_among t (filter_map f K) ≡ true
mapped_to f t K e at is = rw (at.whole, filter_map-append f at.front (e ∷ at.rest), is, list_any-append (λ k. k == t) (filter_map f at.front) (t ∷ filter_map f at.rest)) (either (is_among t (filter_map f at.front)) (t == t) (is_among t (filter_map f at.rest)) (eq-eqb t t refl))
  where
    either : (a b c : Bool) → b ≡ true → (a || (b || c)) ≡ true
    either a b c h = grind arith

filter_same : (p q : ℕ → Bool) (xs : List ℕ) → ((n : ℕ) → is_among n xs ≡ true → p n ≡ q n) → filter p xs ≡ filter q xs
filter_same p q [] same = refl
filter_same p q (x ∷ xs) same = ap₂ (λ (b : Bool) (l : List ℕ). if b then x ∷ l else l) (same x (first (x == x) (is_among x xs) (eq-eqb x x refl))) (filter_same p q xs (λ n among. same n (second (x == n) (is_among n xs) among)))
  where
    first : (a b : Bool) → a ≡ true → (a || b) ≡ true
    first a b h = grind arith

    second : (a b : Bool) → b ≡ true → (a || b) ≡ true
    second a b h = grind arith

-- the thread of the entry that enters a call
by_here : (H : List Entry) → Legal H → (n t : ℕ) (call : CallParts) → Place H (Given (Called n t call)) → caller_of H n ≡ t
by_here H legal n t call at = caller_here H n t call at (false_from_ne_true (is_called at.front n) (λ called.
    let below = called_below at.front (legal_before H legal (Given (Called n t call)) at) n called in
    let first = number_at H legal n t call at in
    absurd (omega (arith, below, first))))

-- a Called of this number by this thread
enters : ℕ → ℕ → Entry → Bool
enters n t (Given (Called k thread call)) = (k == n) && (thread == t)
enters n t _ = false

module _ (H : List Entry) (legal : Legal H) (taken : List ℕ) (base : Base) (kept : List Entry) (says : SaysAs H taken base kept) where
  over_is : base.over ≡ further_calls H taken
  unfolding base_of
  over_is = sym (ap (λ b. b.over) says.base_is)

  -- what is kept was entered
  was_entered : (n thread : ℕ) (call : CallParts) → Place (kept_of H taken) (Given (Called n thread call)) → caller_of H n ≡ thread
  unfolding kept_of enters
  was_entered n thread call at = go (list_any (enters n thread) H) refl
    where
      both : (a b : Bool) → a ≡ true → b ≡ true → (a && b) ≡ true
      both a b h k = grind arith

      first : (a b : Bool) → (a && b) ≡ true → a ≡ true
      first a b h = grind arith

      second : (a b : Bool) → (a && b) ≡ true → b ≡ true
      second a b h = grind arith

      some : list_any (enters n thread) (kept_of H taken) ≡ true
      some = any_at (enters n thread) (kept_of H taken) (Given (Called n thread call)) at (both (n == n) (thread == thread) (eq-eqb n n refl) (eq-eqb thread thread refl))

      by : (e : Entry) → Place H e → enters n thread e ≡ true → caller_of H n ≡ thread
      by (Given (Called k t other)) at is =
          ap (caller_of H) (sym (eqb-true k n (first (k == n) (t == thread) is))) ∙ (by_here H legal k t other at ∙ eqb-true t thread (second (k == n) (t == thread) is))
      by _ at is = absurd (false≢true is)

      go : (b : Bool) → list_any (enters n thread) H ≡ b → caller_of H n ≡ thread
      go true is = let p = any_place (enters n thread) H is in by p.0 p.1 p.2
      go false is = absurd (true≢false (sym some ∙ kept_was_there (is_kept H taken) (enters n thread) H is))

  -- a thread of whose calls one is kept
  pub caller_there : (t : ℕ) → is_among t (callers_kept base kept) ≡ true → (n : ℕ) × (is_among n (kept_calls H taken) ≡ true) × (caller_of H n ≡ t)
  caller_there t h =
      let p = mapped_from (caller_kept base.over) t kept h in
      go p.0 (subst (λ K. Place K p.0) (sym says.kept_is) p.1) p.2
    where
      go : (e : Entry) → Place (kept_of H taken) e → caller_kept base.over e ≡ Some t → (n : ℕ) × (is_among n (kept_calls H taken) ≡ true) × (caller_of H n ≡ t)
      go (Given (Called n thread call)) at is = at_call (is_among n base.over) refl is
        where
          at_call : (b : Bool) → is_among n base.over ≡ b → (if b then None else Some thread) ≡ Some t → (n : ℕ) × (is_among n (kept_calls H taken) ≡ true) × (caller_of H n ≡ t)
          at_call true over is = absurd cc
          at_call false over is =
              let same : thread ≡ t = cc in (
                n,
                there H taken n (any_at (calls n) (kept_of H taken) (Given (Called n thread call)) at (eq-eqb n n refl)) (ap (is_among n) (sym over_is) ∙ over),
                was_entered n thread call at ∙ same,
              )
      go (Given (At moment)) at is = absurd cc
      go (Given (Opened thread space)) at is = absurd cc
      go (Given (Exreg thread target control)) at is = absurd cc
      go (Given (Broke thread)) at is = absurd cc
      go (Given (Moved k count)) at is = absurd cc
      go (Written output) at is = absurd cc

  pub there_caller : (n : ℕ) → is_among n (kept_calls H taken) ≡ true → is_among (caller_of H n) (callers_kept base kept) ≡ true
  unfolding is_called
  there_caller n k =
      let read = call_read H taken n k in
      let made = called_place (kept_of H taken) n (ap is_some read ∙ kept_called H taken n k) in
      let caller : caller_of H n ≡ made.thread = caller_at H n made.thread made.call (sym read ∙ made.is) in
      let none : is_among n base.over ≡ false = ap (is_among n) over_is ∙ not_further H taken n k in
      mapped_to (caller_kept base.over) (caller_of H n) kept (Given (Called n made.thread made.call)) (subst (λ K. Place K (Given (Called n made.thread made.call))) says.kept_is made.at)
      (rw none (ap (λ t. Some t) (sym caller)))

is_of_kept : (H : List Entry) (taken : List ℕ) (n : ℕ) → is_among n (kept_calls H taken) ≡ true → is_kept_call H taken n ≡ true
unfolding kept_calls
is_of_kept H taken n k = filter_among n (is_kept_call H taken) (numbers H) k

of_kept_is : (H : List Entry) (taken : List ℕ) (n : ℕ) → is_called H n ≡ true → is_kept_call H taken n ≡ true → is_among n (kept_calls H taken) ≡ true
unfolding kept_calls
of_kept_is H taken n called is = among_filter n (is_kept_call H taken) (numbers H) (among_numbers H n called) is

-- a call that is over is not kept where its outcome was taken, and is kept where it was not
not_kept : (H : List Entry) (taken : List ℕ) (n : ℕ) → is_over H n ≡ true → is_among n taken ≡ true → is_kept_call H taken n ≡ false
unfolding is_kept_call
not_kept H taken n over among = rw (over, among) (never (is_live H (caller_of H n)))
  where
    never : (a : Bool) → (a && not (true && true)) ≡ false
    never a = grind arith

still_kept : (H : List Entry) (taken : List ℕ) (n : ℕ) → is_live H (caller_of H n) ≡ true → is_among n taken ≡ false → is_kept_call H taken n ≡ true
unfolding is_kept_call
still_kept H taken n live none = rw (live, none) (always (is_over H n))
  where
    always : (b : Bool) → (true && not (b && false)) ≡ true
    always b = grind arith

-- what was surely taken before, what is taken now, and what was taken by what the part says
module _ (H : List Entry) (legal : Legal H) (before now_taken taken : List ℕ) (base : Base) (kept : List Entry) (takes : TakesBelow H (callers_kept base kept) table_slots before now_taken) (others : TookOthers H before) (called : (n : ℕ) → is_among n now_taken ≡ true → is_called H n ≡ true) (over : (n : ℕ) → is_among n now_taken ≡ true → is_over H n ≡ true) (may : MayBeTaken H before taken) (says : SaysAs H taken base kept) where
  -- what is taken now was taken
  pub now_among : AreAmong now_taken taken
  now_among n among = elim (takes.only n among) [
    | inl was ↦ may.more n was
    | inr apart ↦ go (is_among n taken) refl apart
  ]
    where
      go : (b : Bool) → is_among n taken ≡ b → (is_live H (caller_of H n) ≡ true) × (is_among (caller_of H n) (callers_kept base kept) ≡ false) → b ≡ true
      go true is apart = refl
      go false is apart = not_both (there_caller H legal taken base kept says n (of_kept_is H taken n (called n among) (still_kept H taken n apart.0 is))) apart.1

  -- what was taken of a live thread's calls is taken now
  was_now : (n : ℕ) → is_called H n ≡ true → is_live H (caller_of H n) ≡ true → is_over H n ≡ true → is_among n taken ≡ true → is_among n now_taken ≡ true
  was_now n made live ended among = elim (others n made) [
    | inr was ↦ takes.more n was
    | inl last ↦ takes.all (caller_of H n) n live (live_below H legal (caller_of H n) live) (apart last) last ended
  ]
    where
      apart : last_call H (caller_of H n) ≡ Some n → is_among (caller_of H n) (callers_kept base kept) ≡ false
      apart last = false_from_ne_true (is_among (caller_of H n) (callers_kept base kept)) (λ there.
          let one = caller_there H legal taken base kept says (caller_of H n) there in
          let m = one.0 in
          let is = is_of_kept H taken m one.1 in
          elim (may.others m (kept_called H taken m one.1)) [
            | inr took ↦ true≢false (sym is ∙ not_kept H taken m (may.over m took) took)
            | inl its ↦ (
                let same : m ≡ n = same_Some _ _ (sym its ∙ (ap (last_call H) one.2 ∙ last)) in
                true≢false (sym is ∙ (ap (is_kept_call H taken) same ∙ not_kept H taken n ended among)))
          ])

  call_same : (n : ℕ) → is_called H n ≡ true → is_kept_call H now_taken n ≡ is_kept_call H taken n
  unfolding is_kept_call
  call_same n made = go (is_live H (caller_of H n)) refl (is_over H n) refl
    where
      go : (l : Bool) → is_live H (caller_of H n) ≡ l → (o : Bool) → is_over H n ≡ o → (is_live H (caller_of H n) && not (is_over H n && is_among n now_taken)) ≡ (is_live H (caller_of H n) && not (is_over H n && is_among n taken))
      go false live o ended = rw live refl
      go true live false ended = rw (live, ended) refl
      go true live true ended = rw (live, ended) (ap (λ b. true && not (true && b)) (same_tests (is_among n now_taken) (is_among n taken) (now_among n) (was_now n made live ended)))

  calls_same : kept_calls H now_taken ≡ kept_calls H taken
  unfolding kept_calls
  calls_same = filter_same (is_kept_call H now_taken) (is_kept_call H taken) (numbers H) (λ n among. call_same n (among_called H n among))

  further_same : further_calls H now_taken ≡ further_calls H taken
  unfolding further_calls
  further_same = ap (λ k. filter (is_further H k) (numbers H)) calls_same

  entry_same : (e : Entry) → is_kept H now_taken e ≡ is_kept H taken e
  unfolding is_kept
  entry_same e = ap₂ (λ k f. names_one k e || (is_told_of e && names_one f e) || is_of_thread (λ t. is_kept_thread H k t || is_kept_thread H f t) e) calls_same further_same

  held_same : kept_of H now_taken ≡ kept_of H taken
  unfolding kept_of
  held_same = λ i. kept_list (λ e. entry_same e i) H

  base_same : record (base_of H now_taken) { takes = base.takes } ≡ record (base_of H taken) { takes = base.takes }
  unfolding base_of
  base_same = ap₂ (λ k o. record {
    versions = map (last_version H) (from 0 table_slots);
    dropped = map (dropped_of H k) (from 0 table_slots);
    moment = now H;
    calls = calls_made H;
    takes = base.takes;
    over = o;
  }) held_same further_same

  pub says_now : SaysAs H now_taken base kept
  says_now = record { kept_is = held_same ∙ says.kept_is; base_is = base_same ∙ says.base_is }

-- a part joins there, or does not
module _ (old mid : ChainParts) (base : Base) (kept : List Entry) (books : AreBooks old.past old.taken) (takes : TakesBelow old.past (callers_kept base kept) table_slots old.taken mid.taken) (past : mid.past ≡ old.past) (now_books : AreBooks mid.past mid.taken) where
  here : AreBooks old.past mid.taken
  here = subst (λ l. AreBooks l mid.taken) past now_books

  pub joins_now : (after : ChainParts) → Quiet old.past → SaysAs mid.past mid.taken base kept → IsCount old.past old.told (length (callers_kept base kept)) base.takes → after.past ≡ mid.past → after.taken ≡ mid.taken → after.told ≡ base.takes → Joins old after base kept
  joins_now after quiet says count same taken told =
      let says_here : SaysAs old.past mid.taken base kept = subst (λ l. SaysAs l mid.taken base kept) past says in
      subst (λ t. Joins old (record after { taken = t }) base kept) (sym taken) (record {
        begins = record {
          quiet = quiet;
          may = record { more = takes.more; called = here.called; over = here.over; others = here.others };
          kept_is = says_here.kept_is;
          base_is = says_here.base_is;
          count = count;
        };
        least = λ were begins. now_among old.past books.legal old.taken mid.taken were base kept takes books.others here.called here.over begins.may (record { kept_is = begins.kept_is; base_is = begins.base_is });
        past = same ∙ past;
        told = told;
      })

  pub never_joins : (SaysAs mid.past mid.taken base kept → ⊥) → (taken : List ℕ) → BeginsAt old.past old.taken old.told base kept taken → ⊥
  never_joins refused taken begins =
      refused (subst (λ l. SaysAs l mid.taken base kept) (sym past) (says_now old.past books.legal old.taken mid.taken taken base kept takes books.others here.called here.over begins.may (record { kept_is = begins.kept_is; base_is = begins.base_is })))
