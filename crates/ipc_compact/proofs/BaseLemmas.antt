-- Writing a base: by a walk over the threads, and one over what is kept.
use Rattle.std.proofs.lemmas.Bool.{false_from_ne_true}
use Rattle.std.proofs.lemmas.Cmp.{nat_eq_equiv}
use Rattle.std.proofs.lemmas.Option.{none-some, same_Some}
use Rattle.std.proofs.lemmas.List.{length-append, length-map, map-append, take_all, take_more, take-append-drop}
use Rattle.std.proofs.lemmas.List.Elements.{All-cons, All-contains_itself, All-head, All-tail, filter-append, filter_map-append}
use Rattle.std.proofs.lemmas.List.Folds.{list_any-append}
use Rattle.std.proofs.lemmas.Map.Keys.{IsDistinct-push}
use Rattle.std.proofs.lemmas.Map.Made.{length-le_from_is_member}
use Rattle.std.proofs.Common.{◌≡◌, refl, sym, ap, ◌∙◌, subst, ℕ, zero, suc, add-one, add-zero, ◌+◌, ◌-◌, ◌<◌, ◌≤◌, Bool, true, false, not, ◌==◌, eqb-true, eq-eqb, cond, if◌then◌else◌, List, [], ◌∷◌, ◌++◌, length, take, drop, get_or, map, sum_by, Option, Some, None, option_and_then, filter, filter_map, All, Contains, IfSome, arith}
use Rattle.std.specs.List.{IsDistinct, cons_option, list_any}
use Rattle.std.specs.Option.{option_map_or}
use Rattle.ipc_words.specs.Limits.{table_slots}
use Rattle.ipc_words.specs.ThreadId.{number_of}
use Rattle.ipc_history.specs.CallParts.{CallParts}
use Rattle.ipc_history.specs.Calls.{call_at, caller_of, calls_made, numbers}
use Rattle.ipc_history.specs.Entries.{call_in, calls, number_by, number_in}
use Rattle.ipc_history.specs.Legal.{Legal}
use Rattle.ipc_history.specs.Phases.{is_over}
use Rattle.ipc_history.specs.Threads.{is_live, next_version, now}
use Rattle.ipc_history.specs.declared.entry.Entry.{Entry}
use Rattle.ipc_history.specs.declared.entry.Entry.TheVariants.{Given, Written}
use Rattle.ipc_history.specs.declared.entry.Input.TheVariants.{At, Opened, Called, Exreg, Broke, Moved}
use Rattle.ipc_history.proofs.EnteredOnce.{entered_once}
use Rattle.ipc_laws.specs.Laws.{up_to}
use Rattle.ipc_laws.proofs.Numbering.{numbered}
use Rattle.ipc_laws.proofs.Tests.{not_both}
use Rattle.ipc_threads.specs.Slots.{live_of}
use Rattle.ipc_threads.proofs.Holders.{live_of_at, live_of_is}
use Rattle.ipc_compact.specs.BaseRoom.{BaseParts, most_over}
use Rattle.ipc_compact.specs.BaseTold.{dropped_by, version_before}
use Rattle.ipc_compact.specs.Compact.{Base, base_of, dropped_of, from, further_calls, is_among, is_further, is_kept, keeps, kept_calls, kept_list, kept_of, last_version, made_in}
use Rattle.ipc_compact.proofs.BaseLaws.{dropped_told, flipped, over_told, versions_told}
use Rattle.ipc_compact.proofs.Counting.{calls_counted}
use Rattle.ipc_desks.specs.CallsOf.{calls_by, is_busy, made_by}
use Rattle.ipc_desks.proofs.Finishing.{same_tests}
use Rattle.ipc_compact.specs.Bases.{over_in, written_to}
use Rattle.ipc_compact.specs.Kept.{TookOthers, kept_call, kept_upto}
use Rattle.ipc_compact.specs.Partners.{Knows, joined_at, joined_of}
use Rattle.ipc_compact.specs.declared.partners.Joined.{Joined}
use Rattle.ipc_compact.proofs.KeptLaw as law
use Rattle.ipc_compact.proofs.KeptLemmas.{busy_call, idle_call, within}

-- How many calls are not kept

pub made_same : (H : List Entry) (t : ℕ) → made_in H t ≡ made_by H t
unfolding made_by
made_same H t = λ i. sum_by (λ e. cond (same e i) 1 0) H
  where
    here : (n : ℕ) (b : Bool) → option_map_or (λ n. true) (if b then Some n else None) false ≡ b
    here n true = refl
    here n false = refl

    same : (e : Entry) → option_map_or (λ n. true) (number_by t e) false ≡ calls_by t e
    same (Given (Called n caller call)) = here n (caller == t)
    same (Given (At moment)) = refl
    same (Given (Opened thread space)) = refl
    same (Given (Exreg thread target control)) = refl
    same (Given (Broke thread)) = refl
    same (Given (Moved n count)) = refl
    same (Written output) = refl

module _ (H : List Entry) (taken : List ℕ) (legal : Legal H) (t : ℕ) (live : is_live H t ≡ true) (kept : List Entry) (is : kept ≡ kept_of H taken) where
  pub made_more : made_by kept t ≤ made_by H t
  made_more =
      let all = calls_counted H taken legal t live in
      let part : made_in (kept_of H taken) t ≡ made_by kept t = made_same (kept_of H taken) t ∙ ap (λ K. made_by K t) (sym is) in
      omega (arith, all, part, made_same H t)

  pub dropped_is : made_by H t - made_by kept t ≡ dropped_by H kept (Some t)
  dropped_is = rw (made_same H t, made_same kept t) refl

-- By thread numbers

from_push : (k count : ℕ) → from k (suc count) ≡ from k count ++ (k + count) ∷ []
from_push k zero = ap (λ n. n ∷ []) (sym (add-zero k))
from_push k (suc count) = ap (λ l. k ∷ l) (from_push (k + 1) count ∙ ap (λ n. from (k + 1) count ++ n ∷ []) (later k count))
  where
    later : (k count : ℕ) → (k + 1) + count ≡ k + suc count
    later k count = omega arith

from_length : (k count : ℕ) → length (from k count) ≡ count
from_length k zero = refl
from_length k (suc count) = ap suc (from_length (k + 1) count)

pub written_length : (f : ℕ → ℕ) (count : ℕ) → length (map f (from 0 count)) ≡ count
written_length f count = length-map (from 0 count) f ∙ from_length 0 count

written_push : (f : ℕ → ℕ) (count : ℕ) → map f (from 0 (count + 1)) ≡ map f (from 0 count) ++ f count ∷ []
written_push f count =
    ap (λ c. map f (from 0 c)) (add-one count)
    ∙ (ap (map f) (from_push 0 count)
    ∙ (map-append f (from 0 count) ((0 + count) ∷ [])
    ∙ ap (λ n. map f (from 0 count) ++ f n ∷ []) (none count)))
  where
    none : (n : ℕ) → 0 + n ≡ n
    none n = omega arith

parts_same : (a b : BaseParts) → a.versions ≡ b.versions → a.dropped ≡ b.dropped → a.over ≡ b.over → a ≡ b
parts_same a b p q r = λ i. record { versions = p i; dropped = q i; over = r i }

module _ (H kept : List Entry) (count : ℕ) (was : BaseParts) (is : was ≡ written_to H kept count) where
  pub written_few : count < table_slots → (length was.versions < table_slots) × (length was.dropped < table_slots)
  unfolding written_to
  written_few less = rw (is, written_length (last_version H) count, written_length (dropped_of H kept) count) (less, less)

  pub written_more : Legal H → (new : BaseParts) (next : Option ℕ) (dropped : ℕ) → next ≡ next_version H count
      → dropped ≡ dropped_by H kept (live_of H count) → new.versions ≡ was.versions ++ version_before next ∷ []
      → new.dropped ≡ was.dropped ++ dropped ∷ [] → new.over ≡ was.over → new ≡ written_to H kept (count + 1)
  unfolding written_to
  written_more legal new next dropped n d versions lost over = parts_same new _
      (versions ∙ (rw (is, n, sym (versions_told H legal count)) (sym (written_push (last_version H) count))))
      (lost ∙ (rw (is, d, sym (dropped_told H kept count)) (sym (written_push (dropped_of H kept) count))))
      (over ∙ ap (λ w. w.over) is)

pub live_some : (H : List Entry) (k : ℕ) (o : Option ℕ) → o ≡ live_of H k → IfSome o (λ t. is_live H t ≡ true)
live_some H k None is = tt
live_some H k (Some t) is = (live_of_is H k t (sym is)).live

-- A call is kept

module _ (H : List Entry) (taken : List ℕ) (legal : Legal H) (over : (n : ℕ) → is_among n taken ≡ true → is_over H n ≡ true) (others : TookOthers H taken) where
  module _ (n t : ℕ) (by : caller_of H n ≡ t) where
    pub gone_unkept : is_live H t ≡ false → is_among n (kept_calls H taken) ≡ false
    gone_unkept gone = false_from_ne_true _ (λ h.
        let last = law.kept_last H taken legal over others n h in
        not_both (subst (λ t. is_live H t ≡ true) (sym last.caller ∙ by) last.alive) gone)

    call_by : is_among n (kept_calls H taken) ≡ true → kept_call H taken t ≡ Some n
    call_by h = let last = law.kept_last H taken legal over others n h in subst (λ t. kept_call H taken t ≡ Some n) (sym last.caller ∙ by) last.call

    pub idle_unkept : is_busy H taken t ≡ false → is_among n (kept_calls H taken) ≡ false
    idle_unkept idle = false_from_ne_true _ (λ h. none-some n (sym (idle_call H taken t idle) ∙ call_by h))

    pub last_decides : is_live H t ≡ true → is_busy H taken t ≡ true → (table : List Joined) → Knows H table
        → ((joined_at table (number_of t)).number == n) ≡ is_among n (kept_calls H taken)
    unfolding joined_of
    last_decides live busy table knows =
        let last = busy_call H taken t busy in
        let number : (joined_at table (number_of t)).number ≡ last.0 = ap (λ j. j.number) (knows.known t last.0 live last.1) in
        same_tests _ _
        (λ same. law.last_kept H taken legal over others n
        (law.is_last H taken legal over others (number_of t) t n (live_of_at H legal t live) (last.2 ∙ ap Some (sym number ∙ eqb-true _ n same))))
        (λ h. eq-eqb _ n (number ∙ same_Some last.0 n (sym last.2 ∙ call_by h)))

  -- The calls that count as over are few

  abbrev further : List ℕ
  further = further_calls H taken

  low : (p : ℕ → Bool) (k y : ℕ) → k < y → list_any (λ x. y == x) (filter p (up_to k)) ≡ false
  low p zero y less = refl
  low p (suc k) y less =
      ap (list_any (λ x. y == x)) (filter-append p (up_to k) (suc k ∷ []))
      ∙ (list_any-append (λ x. y == x) (filter p (up_to k)) (filter p (suc k ∷ []))
      ∙ rw (low p k y (omega (arith, less))) (last (p (suc k))))
    where
      apart : (k y : ℕ) → suc k < y → (y == suc k) ≡ false
      apart k y less = grind (arith, less)

      last : (b : Bool) → list_any (λ x. y == x) (cond b (suc k ∷ []) []) ≡ false
      last true = rw (apart k y less) refl
      last false = refl

  distinct_part : (p : ℕ → Bool) (k : ℕ) → IsDistinct (λ a b. a == b) (filter p (up_to k))
  unfolding IsDistinct
  distinct_part p zero = tt
  distinct_part p (suc k) = subst (IsDistinct (λ a b. a == b)) (sym (filter-append p (up_to k) (suc k ∷ []))) (last (p (suc k)) (distinct_part p k))
    where
      none : (l : List ℕ) → l ≡ l ++ []
      none [] = refl
      none (x ∷ l) = ap (λ l. x ∷ l) (none l)

      last : (b : Bool) → IsDistinct (λ a b. a == b) (filter p (up_to k))
          → IsDistinct (λ a b. a == b) (filter p (up_to k) ++ cond b (suc k ∷ []) [])
      last true again = IsDistinct-push nat_eq_equiv (filter p (up_to k)) (suc k) again (low p k (suc k) (omega arith))
      last false again = subst (IsDistinct (λ a b. a == b)) (none (filter p (up_to k))) again

  further_distinct : IsDistinct (λ a b. a == b) further
  unfolding further_calls
  further_distinct = subst (λ l. IsDistinct (λ a b. a == b) (filter (is_further H (kept_calls H taken)) l)) (sym (numbered H legal)) (distinct_part (is_further H (kept_calls H taken)) (calls_made H))

  pub few_over : length further ≤ most_over
  few_over =
      let found = kept_upto H taken table_slots in
      let fewer = length-le_from_is_member nat_eq_equiv further found.partners further_distinct
      (λ q h. flipped q found.partners ∙ (let met = law.further_known H taken legal over others q (sym (flipped q further) ∙ h) in law.met_partners H taken legal over others met.0 q met.1 met.2)) in
      omega (arith, fewer, (within H taken table_slots found refl).1)

  -- The walk over what is kept

  abbrev other : ℕ → Bool
  other n = not (is_among n (kept_calls H taken))

  abbrev AreWalked : List Entry → Type 0
  AreWalked L = filter_map (over_in H taken) L ≡ filter other (numbers L)

  over_walk : (L : List Entry) → AreWalked L
  unfolding numbers
  over_walk [] = refl
  over_walk (e ∷ L) = go (over_walk L) (number_in e)
    where
      rest : List ℕ
      rest = filter_map (over_in H taken) L

      at : AreWalked L → (n : ℕ) (b : Bool)
          → cons_option (if b then None else Some n) rest ≡ cond (not b) (n ∷ filter other (numbers L)) (filter other (numbers L))
      at again n true = again
      at again n false = ap (λ l. n ∷ l) again

      go : AreWalked L → (o : Option ℕ)
          → cons_option (option_and_then (λ n. if is_among n (kept_calls H taken) then None else Some n) o) rest
          ≡ filter other (cons_option o (numbers L))
      go again None = again
      go again (Some n) = at again n (is_among n (kept_calls H taken))

  kept_part : (test : Entry → Bool) (P : List Entry) → All (Contains H) P → All (Contains H) (kept_list test P)
  kept_part test [] all = all
  kept_part test (x ∷ P) all = go (keeps test x P) (kept_part test P (All-tail (Contains H) x P all))
    where
      go : (b : Bool) → All (Contains H) (kept_list test P) → All (Contains H) (if b then x ∷ kept_list test P else kept_list test P)
      go true rest = All-cons (Contains H) x (kept_list test P) (All-head (Contains H) x P all) rest
      go false rest = rest

  all_kept : All (Contains H) (kept_of H taken)
  unfolding kept_of
  all_kept = kept_part (is_kept H taken) H (All-contains_itself H)

  module _ (kept : List Entry) (is : kept ≡ kept_of H taken) where
    over_all : filter_map (over_in H taken) kept ≡ further
    over_all = ap (filter_map (over_in H taken)) is ∙ (over_walk (kept_of H taken) ∙ over_told H taken)

    module _ (i : ℕ) (e : Entry) (less : i < length kept) (at : e ≡ get_or kept i e) where
      more : filter_map (over_in H taken) (take (i + 1) kept) ≡ filter_map (over_in H taken) (take i kept) ++ cons_option (over_in H taken e) []
      more = ap (filter_map (over_in H taken)) (take_more kept i e less ∙ ap (λ x. take i kept ++ x ∷ []) (sym at)) ∙ filter_map-append (over_in H taken) (take i kept) (e ∷ [])

      pub over_more : (n : ℕ) (found : Option ℕ) → found ≡ over_in H taken e → found ≡ Some n
          → filter_map (over_in H taken) (take i kept) ++ n ∷ [] ≡ filter_map (over_in H taken) (take (i + 1) kept)
      over_more n found given some = sym (more ∙ ap (λ o. filter_map (over_in H taken) (take i kept) ++ cons_option o []) (sym given ∙ some))

      pub over_same : (found : Option ℕ) → found ≡ over_in H taken e → found ≡ None
          → filter_map (over_in H taken) (take i kept) ≡ filter_map (over_in H taken) (take (i + 1) kept)
      over_same found given none = sym (more ∙ (ap (λ o. filter_map (over_in H taken) (take i kept) ++ cons_option o []) (sym given ∙ none) ∙ end (filter_map (over_in H taken) (take i kept))))
        where
          end : (l : List ℕ) → l ++ [] ≡ l
          end [] = refl
          end (x ∷ l) = ap (λ l. x ∷ l) (end l)

      pub over_fits : (n : ℕ) (found : Option ℕ) → found ≡ over_in H taken e → found ≡ Some n
          → length (filter_map (over_in H taken) (take i kept)) < most_over
      over_fits n found given some =
          let now = over_more n found given some in
          let longer = length-append (filter_map (over_in H taken) (take i kept)) (n ∷ []) in
          let parts : further ≡ filter_map (over_in H taken) (take (i + 1) kept) ++ filter_map (over_in H taken) (drop (i + 1) kept) =
          sym over_all ∙ (ap (filter_map (over_in H taken)) (sym (take-append-drop (i + 1) kept)) ∙ filter_map-append (over_in H taken) (take (i + 1) kept) (drop (i + 1) kept)) in
          let all = length-append (filter_map (over_in H taken) (take (i + 1) kept)) (filter_map (over_in H taken) (drop (i + 1) kept)) in
          omega (arith, ap length now, longer, ap length parts, all, few_over)

      -- it is one of the history
      pub kept_there : Contains H e
      kept_there = subst (Contains H) (sym at) ((subst (λ K. All (Contains H) K) (sym is) all_kept) i e less)

    pub over_end : (i : ℕ) → length kept ≤ i → filter_map (over_in H taken) (take i kept) ≡ further
    over_end i all = ap (filter_map (over_in H taken)) (take_all i kept all) ∙ over_all

-- the caller of a call, by its entry
pub caller_there : (H : List Entry) → Legal H → (n t : ℕ) (call : CallParts) → Contains H (Given (Called n t call)) → caller_of H n ≡ t
unfolding caller_of
caller_there H legal n t call at = rw (there) refl
  where
    e : Entry
    e = Given (Called n t call)

    there : call_at H n ≡ Some (t, call)
    there = entered_once H legal n at.0 at.1 e (ap (calls n) at.2 ∙ eq-eqb n n refl) ∙ (ap (call_in n) at.2 ∙ rw (eq-eqb n n refl) refl)

-- a base of these parts
pub base_fields : (a b : Base) → a.versions ≡ b.versions → a.dropped ≡ b.dropped → a.moment ≡ b.moment → a.calls ≡ b.calls
    → a.takes ≡ b.takes → a.over ≡ b.over → a ≡ b
base_fields a b p q m c t o = λ i. record { versions = p i; dropped = q i; moment = m i; calls = c i; takes = t i; over = o i }

pub base_written : (H : List Entry) (taken : List ℕ) (kept : List Entry) → kept ≡ kept_of H taken → (first second : BaseParts)
    → first ≡ written_to H kept table_slots → second ≡ record first { over = further_calls H taken } → (moment calls takes : ℕ)
    → moment ≡ now H → calls ≡ calls_made H → takes ≡ length taken → (b : Base)
    → b ≡ record { versions = second.versions; dropped = second.dropped; moment = moment; calls = calls; takes = takes; over = second.over }
    → b ≡ base_of H taken
unfolding base_of written_to
base_written H taken kept is first second numbers more moment calls takes m c t b made =
    made
    ∙ base_fields _ (base_of H taken)
    (ap (λ w. w.versions) more ∙ ap (λ w. w.versions) numbers)
    (ap (λ w. w.dropped) more ∙ (ap (λ w. w.dropped) numbers ∙ ap (λ K. map (dropped_of H K) (from 0 table_slots)) is))
    m c t
    (ap (λ w. w.over) more)
