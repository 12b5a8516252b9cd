-- Whose calls a command finished, entry by entry.
use Rattle.std.proofs.lemmas.Bool.{false≢true, false_from_ne_true, or_cases, or_left, or_right}
use Rattle.std.proofs.lemmas.List.{length-append}
use Rattle.std.proofs.lemmas.List.Folds.{list_any-append}
use Rattle.std.proofs.lemmas.List.Sums.{length-filter, sum_by-cons, sum_by_push}
use Rattle.std.proofs.lemmas.Option.{same_Some}
use Rattle.std.proofs.lemmas.Map.Keys.{IsDistinct-push}
use Rattle.std.proofs.lemmas.Map.Made.{length-le_from_is_member}
use Rattle.std.proofs.Common.{◌≡◌, refl, sym, ap, ap₂, ◌∙◌, subst, ℕ, zero, suc, ◌<◌, ◌≤◌, Bool, true, false, not, ◌||◌, ◌&&◌, ◌==◌, eq-eqb, eqb-true, cond, if◌then◌else◌, List, [], ◌∷◌, ◌++◌, append-nil, length, filter, filter_map, count_by, Option, Some, None, inl, inr, arith}
use Rattle.std.specs.Prelude.{nat_lt}
use Rattle.std.specs.List.{IsDistinct, cons_option, list_any}
use Rattle.std.specs.Option.{option_map_or}
use Rattle.ipc_words.specs.Limits.{max_thread_number}
use Rattle.ipc_history.specs.Entries.{breaks, calls, opened_in, opens}
use Rattle.ipc_history.specs.CallParts.{CallParts}
use Rattle.ipc_history.specs.Calls.{is_called}
use Rattle.ipc_history.specs.Threads.{has_broken, is_live, now, was_opened}
use Rattle.ipc_history.specs.Phases.{is_over}
use Rattle.ipc_history.specs.Legal.{Follows, Legal}
use Rattle.ipc_history.specs.declared.entry.Entry.{Entry}
use Rattle.ipc_history.specs.declared.entry.Entry.TheVariants.{Given, Written}
use Rattle.ipc_history.specs.declared.entry.Input.TheVariants.{At, Opened, Called, Exreg, Broke, Moved}
use Rattle.ipc_laws.specs.Counting.{live_threads, threads}
use Rattle.ipc_laws.proofs.Endings.{broken_at, caller_here, live_opened}
use Rattle.ipc_laws.proofs.Growth.{is_called_kept, over_kept}
use Rattle.ipc_laws.proofs.Histories.{admitted_at, called_place}
use Rattle.ipc_laws.proofs.LiveThreads.{live_bound}
use Rattle.ipc_laws.proofs.Numbering.{called_below, entered, number_at}
use Rattle.ipc_laws.proofs.OneLive.{opened_once}
use Rattle.ipc_laws.proofs.OneOpen.{free_parts}
use Rattle.ipc_laws.proofs.Pairing.{legal_before}
use Rattle.ipc_laws.proofs.Places.{any_front}
use Rattle.ipc_laws.proofs.Settling.{legal_push}
use Rattle.ipc_laws.proofs.Tests.{left, not_both, right}
use Rattle.ipc_laws.proofs.ThreadChanges.{is_live_push}
use Rattle.ipc_desks.specs.CallsOf.{calls_by, last_call, number_by}
use Rattle.ipc_desks.specs.Finishes.{ends_call, finishes}
use Rattle.ipc_desks.proofs.LastCalls.{last_is, last_push}
use Rattle.ipc_core.specs.Finished.{is_of, with_name}
use Rattle.ipc_core.specs.Outcomes.{finished_from, is_among}
use Rattle.ipc_core.specs.Steps.{at_if_later}
use Rattle.ipc_core.proofs.AfterAt.{same_over}
use Rattle.ipc_waits.proofs.Numbers.{eqb_equivalence}

-- who made a call was opened
caller_opened : (H : List Entry) → Legal H → (t n : ℕ) → last_call H t ≡ Some n → was_opened H t ≡ true
unfolding was_opened
caller_opened H legal t n last =
    let is = last_is H legal t n last in
    let made = called_place H n is.1 in
    let before = legal_before H legal (Given (Called n made.thread made.call)) made.at in
    let first = number_at H legal n made.thread made.call made.at in
    let absent : is_called made.at.front n ≡ false = false_from_ne_true _ (λ called. let below = called_below made.at.front before n called in omega (arith, below, first)) in
    let caller : made.thread ≡ t = sym (caller_here H n made.thread made.call made.at absent) ∙ is.0 in
    let lives = (free_parts made.at.front made.thread (entered made.at.front n made.thread made.call (admitted_at H legal (Called n made.thread made.call) made.at)).0).0 in
    any_front (opens t) H (Given (Called n made.thread made.call)) made.at (ap (was_opened made.at.front) (sym caller) ∙ live_opened made.at.front made.thread lives)

-- a call that is entered is new
called_new : (H P more : List Entry) → H ≡ P ++ more → Legal H → (n s : ℕ) (call : CallParts) → Follows H (Given (Called n s call)) → is_called P n ≡ true → ⊥
unfolding Follows
called_new H P more whole legal n s call follows called =
    let next = (entered H n s call follows.1).1 in
    let below = called_below H legal n (ap (λ l. is_called l n) whole ∙ is_called_kept P more n called) in
    omega (arith, next, below)

any_count : (p : Entry → Bool) (xs : List Entry) → list_any p xs ≡ true → 1 ≤ count_by p xs
any_count p [] h = absurd (false≢true h)
any_count p (x ∷ xs) h = go (p x) refl (any_count p xs)
  where
    go : (b : Bool) → p x ≡ b → (list_any p xs ≡ true → 1 ≤ count_by p xs) → 1 ≤ count_by p (x ∷ xs)
    go true e rest = let push = sum_by-cons (λ y. cond (p y) 1 0) x xs in let one : cond (p x) (suc zero) zero ≡ suc zero = rw e refl in omega (arith, push, one)
    go false e rest = let push = sum_by-cons (λ y. cond (p y) 1 0) x xs in let later = rest (rw e at h) in omega (arith, push, later)

-- equal numbers, either way
either_way : (t : ℕ) (xs : List ℕ) → is_among t xs ≡ list_any (λ k. t == k) xs
either_way t [] = refl
either_way t (x ∷ xs) = ap₂ (λ a b. a || b) (eqb_equivalence.symm x t) (either_way t xs)

-- a thread that was opened is among those that were
opened_among : (H : List Entry) (t : ℕ) → was_opened H t ≡ true → is_among t (filter_map opened_in H) ≡ true
unfolding was_opened
opened_among [] t h = h
opened_among (e ∷ H) t h = elim (or_cases (opens t e) (list_any (opens t) H) h) [
  | inl now ↦ first e now
  | inr later ↦ behind e (opened_among H t later)
]
  where
    first : (e : Entry) → opens t e ≡ true → is_among t (cons_option (opened_in e) (filter_map opened_in H)) ≡ true
    first (Given (Opened s space)) now = or_left _ _ now
    first (Written output) now = absurd (false≢true now)
    first (Given _) now = absurd (false≢true now)

    behind : (e : Entry) → is_among t (filter_map opened_in H) ≡ true → is_among t (cons_option (opened_in e) (filter_map opened_in H)) ≡ true
    behind e later = go (opened_in e)
      where
        go : (o : Option ℕ) → is_among t (cons_option o (filter_map opened_in H)) ≡ true
        go None = later
        go (Some s) = or_right _ _ later

-- what a filter that passes it leaves is found
any_left : {X : Type 0} (p q : X → Bool) (xs : List X) → ((x : X) → p x ≡ true → q x ≡ true) → list_any p xs ≡ true → list_any p (filter q xs) ≡ true
any_left p q [] passes h = h
any_left p q (x ∷ xs) passes h = go (q x) refl (any_left p q xs passes)
  where
    go : (b : Bool) → q x ≡ b → (list_any p xs ≡ true → list_any p (filter q xs) ≡ true) → list_any p (cond (q x) (x ∷ filter q xs) (filter q xs)) ≡ true
    go true e rest = rw e (elim (or_cases (p x) (list_any p xs) h) [ inl a ↦ or_left (p x) _ a | inr b ↦ or_right (p x) _ (rest b) ])
    go false e rest = rw e (elim (or_cases (p x) (list_any p xs) h) [ inl a ↦ not_both (passes x a) e | inr b ↦ rest b ])

-- an entry makes the finished ones more, where it is not by one of them that it opens, calls or
-- ends
module _ (P more H : List Entry) (e : Entry) (legal : Legal H) (whole : H ≡ P ++ more) (follows : Follows H e) (t : ℕ) (fresh : is_of t e ≡ true → finished_from P H t ≡ false) where
  abbrev K : List Entry
  K = H ++ e ∷ []

  -- what was done before is over
  done_over : (n : ℕ) → is_called P n ≡ true → is_over P n ≡ true → is_over H n ≡ true
  done_over n called over = ap (λ l. is_over l n) whole ∙ over_kept P more n called over

  -- a thread that does not open, call or end by the entry
  module _ (other : is_of t e ≡ false) where
    no_call : (a b c : Bool) → (a || b || c) ≡ false → (a ≡ false) × (b ≡ false) × (c ≡ false)
    no_call a b c h = (grind arith, grind arith, grind arith)

    parts : (opens t e ≡ false) × (calls_by t e ≡ false) × (breaks t e ≡ false)
    parts = no_call (opens t e) (calls_by t e) (breaks t e) other

    same_live_then : is_live K t ≡ is_live H t
    same_live_then = is_live_push H e t parts.0 parts.2

    no_number : (e : Entry) → calls_by t e ≡ false → number_by t e ≡ None
    no_number (Given (Called n caller call)) h = rw h refl
    no_number _ h = refl

    same_last : last_call K t ≡ last_call H t
    same_last = last_push H e t ∙ rw (no_number e parts.1) refl

    not_new : (n : ℕ) → is_called H n ≡ true → calls n e ≡ false
    unfolding Follows
    not_new n called = go e follows
      where
        go : (e : Entry) → Follows H e → calls n e ≡ false
        go (Given (Called k caller call)) f = false_from_ne_true (k == n) (λ same. (
            let is_n : k ≡ n = eqb-true k n same in
            let next = (entered H k caller call f.1).1 in
            let below = called_below H legal n called in
            omega (arith, is_n, next, below)))
        go _ f = refl

    other_more : finished_from P K t ≡ (finished_from P H t || finishes H e t)
    unfolding finished_from finishes ends_call
    other_more = rw (same_live_then, same_last) (go (last_call H t) refl)
      where
        go : (o : Option ℕ) → last_call H t ≡ o → (is_live H t && option_map_or (λ n. is_over K n && not (is_called P n && is_over P n)) o false) ≡ ((is_live H t && option_map_or (λ n. is_over H n && not (is_called P n && is_over P n)) o false) || (is_live H t && option_map_or (ends_call H e) o false))
        go None last = both_false (is_live H t)
          where
            both_false : (l : Bool) → (l && false) ≡ ((l && false) || (l && false))
            both_false true = refl
            both_false false = refl
        go (Some n) last =
            let called = (last_is H legal t n last).1 in
            rw (not_new n called) (cases (is_over H n) (is_over K n) (is_called P n && is_over P n) refl (λ over. over_kept H (e ∷ []) n called over) (λ done. was n done))
          where
            was : (n : ℕ) → (is_called P n && is_over P n) ≡ true → is_over H n ≡ true
            was n done = done_over n (left (is_called P n) (is_over P n) done) (right (is_called P n) (is_over P n) done)

            table : (l o o' d : Bool) → (o ≡ true → o' ≡ true) → (d ≡ true → o ≡ true) → (l && (o' && not d)) ≡ ((l && (o && not d)) || (l && (o' && (false || not o))))
            table l true o' d up down = rw (up refl) (grind arith)
            table l false o' true up down = absurd (false≢true (down refl))
            table true false true false up down = refl
            table true false false false up down = refl
            table false false o' false up down = refl

            cases : (o o' d : Bool) → is_over H n ≡ o → (o ≡ true → o' ≡ true) → (d ≡ true → o ≡ true) → (is_live H t && (o' && not d)) ≡ ((is_live H t && (o && not d)) || (is_live H t && (o' && (false || not o))))
            cases o o' d e up down = table (is_live H t) o o' d up down

  -- a thread that opens, calls or ends by it
  tests : (f g : ℕ → Bool) (l : Bool) (o : Option ℕ) → ((n : ℕ) → o ≡ Some n → f n ≡ g n) → (l && option_map_or f o false) ≡ (l && option_map_or g o false)
  tests f g l None h = refl
  tests f g l (Some n) h = ap (λ b. l && b) (h n refl)

  dead : (a b : Bool) → is_live K t ≡ false → (is_live K t && a) ≡ (is_live K t && b)
  dead a b gone = rw gone refl

  first_only : (b : Bool) → (b || false || false) ≡ true → b ≡ true
  first_only b h = grind arith

  second_only : (b : Bool) → (false || b || false) ≡ true → b ≡ true
  second_only b h = grind arith

  third_only : (b : Bool) → (false || false || b) ≡ true → b ≡ true
  third_only b h = grind arith

  opens_twice : (s space : ℕ) → e ≡ Given (Opened s space) → s ≡ t → was_opened H t ≡ true → ⊥
  unfolding was_opened
  opens_twice s space is same opened =
      let once = opened_once (H ++ e ∷ []) (legal_push H e legal follows) t in
      let before = any_count (opens t) H opened in
      let push = sum_by_push (λ x. cond (opens t x) 1 0) H e in
      let now : cond (opens t e) (suc zero) zero ≡ suc zero = ap (λ x. cond (opens t x) (suc zero) zero) is ∙ rw (eq-eqb s t same) refl in
      omega (arith, once, before, push, now)

  ended_now : (s : ℕ) → s ≡ t → e ≡ Given (Broke s) → is_live K t ≡ false
  unfolding is_live
  ended_now s same is = ap (λ b. was_opened K t && not b) (ap (λ x. has_broken (H ++ x ∷ []) t) is ∙ (ap (λ x. has_broken (H ++ Given (Broke s) ∷ []) x) (sym same) ∙ broken_at H [] s)) ∙ none (was_opened K t)
    where
      none : (b : Bool) → (b && not true) ≡ false
      none true = refl
      none false = refl

  mine : is_of t e ≡ true → finished_from P K t ≡ finishes H e t
  unfolding finished_from finishes ends_call
  mine of = go e refl of
    where
      go : (x : Entry) → e ≡ x → is_of t x ≡ true → (is_live K t && option_map_or (λ n. is_over K n && not (is_called P n && is_over P n)) (last_call K t) false) ≡ (is_live K t && option_map_or (ends_call H e) (last_call K t) false)
      go (Given (Opened s space)) is of = tests (λ x. is_over K x && not (is_called P x && is_over P x)) (ends_call H e) (is_live K t) (last_call K t) (λ n last. absurd (opens_twice s space is (eqb-true s t (first_only (s == t) of)) (caller_opened H legal t n (sym (last_push H e t ∙ rw is refl) ∙ last))))
      go (Given (Called n s call)) is of =
          let same : s ≡ t = eqb-true s t (second_only (s == t) of) in
          let follows_so : Follows H (Given (Called n s call)) = subst (Follows H) is follows in
          let last : last_call K t ≡ Some n = last_push H e t ∙ rw (is, eq-eqb s t same) refl in
          tests (λ x. is_over K x && not (is_called P x && is_over P x)) (ends_call H e) (is_live K t) (last_call K t) (λ k found. (
          let is_k : n ≡ k = same_Some n k (sym last ∙ found) in
          let absent : is_called P k ≡ false = false_from_ne_true _ (λ called. called_new H P more whole legal n s call follows_so (ap (is_called P) is_k ∙ called)) in
          let calls_it : calls k e ≡ true = ap (calls k) is ∙ eq-eqb n k is_k in
          ap (λ b. is_over K k && not (b && is_over P k)) absent ∙ ap (λ b. is_over K k && (b || not (is_over H k))) (sym calls_it)))
      go (Given (Broke s)) is of = dead _ _ (ended_now s (eqb-true s t (third_only (s == t) of)) is)
      go (Given (At moment)) is of = absurd (false≢true of)
      go (Given (Exreg s target control)) is of = absurd (false≢true of)
      go (Given (Moved n count)) is of = absurd (false≢true of)
      go (Written output) is of = absurd (false≢true of)

  pub finished_more : finished_from P K t ≡ (finished_from P H t || finishes H e t)
  finished_more = go (is_of t e) refl
    where
      go : (b : Bool) → is_of t e ≡ b → finished_from P K t ≡ (finished_from P H t || finishes H e t)
      go false other = other_more other
      go true of = mine of ∙ ap (λ b. b || finishes H e t) (sym (fresh of))

-- nothing is finished where the command begins, nor by the At of a later moment
all_done : (b : Bool) → (b && not (true && b)) ≡ false
all_done true = refl
all_done false = refl

none_of : (l : Bool) (f : ℕ → Bool) (o : Option ℕ) → ((n : ℕ) → o ≡ Some n → f n ≡ false) → (l && option_map_or f o false) ≡ false
none_of l f None h = go l
  where
    go : (l : Bool) → (l && false) ≡ false
    go true = refl
    go false = refl
none_of l f (Some n) h = rw (h n refl) (go l)
  where
    go : (l : Bool) → (l && false) ≡ false
    go true = refl
    go false = refl

pub finished_none : (H : List Entry) → Legal H → (t : ℕ) → finished_from H H t ≡ false
unfolding finished_from
finished_none H legal t = none_of (is_live H t) _ (last_call H t) (λ n last. ap (λ b. is_over H n && not (b && is_over H n)) (last_is H legal t n last).1 ∙ all_done (is_over H n))

finished_at : (H : List Entry) (moment : ℕ) → Legal H → (t : ℕ) → finished_from H (H ++ Given (At moment) ∷ []) t ≡ false
unfolding finished_from
finished_at H moment legal t = none_of (is_live (H ++ Given (At moment) ∷ []) t) _ (last_call (H ++ Given (At moment) ∷ []) t) (λ n last. (
    let was : last_call H t ≡ Some n = sym (last_push H (Given (At moment)) t) ∙ last in
    let over : is_over (H ++ Given (At moment) ∷ []) n ≡ is_over H n = same_over H moment n in
    ap (λ b. b && not (is_called H n && is_over H n)) over ∙ (ap (λ b. is_over H n && not (b && is_over H n)) (last_is H legal t n was).1 ∙ all_done (is_over H n))))

pub finished_clock : (H : List Entry) (moment : ℕ) → Legal H → (t : ℕ) → finished_from H (H ++ at_if_later H moment) t ≡ false
finished_clock H moment legal t = go (nat_lt (now H) moment)
  where
    go : (b : Bool) → finished_from H (H ++ (if b then Given (At moment) ∷ [] else [])) t ≡ false
    go true = finished_at H moment legal t
    go false = ap (λ l. finished_from H l t) (append-nil H) ∙ finished_none H legal t

-- Names

-- who was finished lives
pub finished_live : (P H : List Entry) (t : ℕ) → finished_from P H t ≡ true → is_live H t ≡ true
unfolding finished_from
finished_live P H t h = left (is_live H t) _ h

pub finishes_live : (H : List Entry) (e : Entry) (t : ℕ) → finishes H e t ≡ true → is_live (H ++ e ∷ []) t ≡ true
unfolding finishes
finishes_live H e t h = left (is_live (H ++ e ∷ []) t) _ h

-- different live threads are few
live_here : (H : List Entry) (t : ℕ) → is_live H t ≡ true → list_any (λ k. t == k) (filter (is_live H) (threads H)) ≡ true
unfolding threads
live_here H t live = sym (either_way t (filter (is_live H) (filter_map opened_in H))) ∙ any_left (λ k. k == t) (is_live H) (filter_map opened_in H) (λ k same. ap (is_live H) (eqb-true k t same) ∙ live) (opened_among H t (live_opened H t live))

pub names_few : (H : List Entry) → Legal H → (names : List ℕ) (t : ℕ) → IsDistinct (λ a b. a == b) names → ((s : ℕ) → is_among s names ≡ true → is_live H s ≡ true) → is_live H t ≡ true → is_among t names ≡ false → length names < max_thread_number
unfolding live_threads
names_few H legal names t once lives live fresh =
    let more = IsDistinct-push eqb_equivalence names t once (sym (either_way t names) ∙ fresh) in
    let fewer = length-le_from_is_member eqb_equivalence (names ++ t ∷ []) (filter (is_live H) (threads H)) more (λ q found. live_here H q (each q (sym (list_any-append (λ k. q == k) names (t ∷ [])) ∙ found))) in
    let counted = length-filter (is_live H) (threads H) in
    let bound = live_bound H legal in
    omega (arith, fewer, counted, bound, length-append names (t ∷ []))
  where
    each : (q : ℕ) → (list_any (λ k. q == k) names || list_any (λ k. q == k) (t ∷ [])) ≡ true → is_live H q ≡ true
    each q h = elim (or_cases _ _ h) [
      | inl old ↦ lives q (either_way q names ∙ old)
      | inr new ↦ elim (or_cases (q == t) false new) [ inl same ↦ ap (is_live H) (eqb-true q t same) ∙ live | inr none ↦ absurd (false≢true none) ]
    ]

-- one more name
pub named_more : (names : List ℕ) (found : Option ℕ) (t : ℕ) → is_among t (with_name names found) ≡ (is_among t names || option_map_or (λ s. s == t) found false)
named_more names None t = sym (or_none (is_among t names))
  where
    or_none : (b : Bool) → (b || false) ≡ b
    or_none true = refl
    or_none false = refl
named_more names (Some s) t = go (is_among s names) refl
  where
    or_none : (b : Bool) → (b || false) ≡ b
    or_none true = refl
    or_none false = refl

    either : (a b : Bool) → (b ≡ true → a ≡ true) → a ≡ (a || b)
    either true b h = refl
    either false true h = absurd (false≢true (h refl))
    either false false h = refl

    go : (b : Bool) → is_among s names ≡ b → is_among t (if b then names else names ++ s ∷ []) ≡ (is_among t names || (s == t))
    go true there = either (is_among t names) (s == t) (λ same. ap (λ x. is_among x names) (sym (eqb-true s t same)) ∙ there)
    go false absent = list_any-append (λ k. k == t) names (s ∷ []) ∙ ap (λ b. is_among t names || b) (or_none (s == t))

pub named_once : (names : List ℕ) (found : Option ℕ) → IsDistinct (λ a b. a == b) names → IsDistinct (λ a b. a == b) (with_name names found)
named_once names None once = once
named_once names (Some s) once = go (is_among s names) refl
  where
    go : (b : Bool) → is_among s names ≡ b → IsDistinct (λ a b. a == b) (if b then names else names ++ s ∷ [])
    go true there = once
    go false absent = IsDistinct-push eqb_equivalence names s once (sym (either_way s names) ∙ absent)

pub new_name : (names : List ℕ) (found : Option ℕ) (s : ℕ) → found ≡ Some s → is_among s names ≡ false → names ++ s ∷ [] ≡ with_name names found
new_name names found s is absent = rw (is, absent) refl
