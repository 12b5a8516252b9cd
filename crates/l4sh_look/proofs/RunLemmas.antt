-- Times that are held as runs.
use Rattle.std.proofs.Common.{◌≡◌, refl, sym, ap, ◌∙◌, subst, ℕ, zero, suc, ◌+◌, ◌-◌, ◌<◌, ◌≤◌, List, [], ◌∷◌, ◌++◌, length, take, drop, get_or, append_assoc, append-nil, drop-cons, add-one, arith, length-append}
use Rattle.std.specs.Prelude.{◌/◌, Some, false, replicate, slice_index, slice_set, ⊤}
use Rattle.std.specs.Ordering.{is_lt, nat_cmp}
use Rattle.std.specs.List.{swap}
use Rattle.std.specs.List.Sorted.{IsNonDecreasingBy, IsPermutation, IsSorted}
use Rattle.std.proofs.lemmas.List.{get_or_append_left, get_or-append_right, get_or-replicate, length-replicate, replicate-append-replicate, take_all, take_more}
use Rattle.std.proofs.lemmas.List.Sorted.{IsPermutation-append_comm, IsPermutation-append_left, IsPermutation-append_right, IsPermutation-keeps, IsPermutation-refl, IsPermutation-sym, IsPermutation-trans, length_permutation}
use Rattle.l4sh_look.specs.Rows.{AreWaitsOf}
use Rattle.l4sh_look.specs.Runs.{AreHeld, max_times, times_of}
use Rattle.l4sh_look.specs.declared.row.Waits.{Waits}
use Rattle.l4sh_look.specs.declared.times.Run.{Run}
use Rattle.l4sh_look.specs.declared.times.Times.{Times}

-- the times of a run
abbrev pub times_in : Run → List ℕ
times_in run = replicate run.count run.time

pub times_append : (xs ys : List Run) → times_of (xs ++ ys) ≡ times_of xs ++ times_of ys
unfolding times_of
times_append [] ys = refl
times_append (x ∷ xs) ys = ap (λ l. times_in x ++ l) (times_append xs ys) ∙ sym (append_assoc (times_in x) (times_of xs) (times_of ys))

first_of : (run : Run) (runs : List Run) → times_of (run ∷ runs) ≡ times_in run ++ times_of runs
unfolding times_of
first_of run runs = refl

pub times_one : (run : Run) → times_of (run ∷ []) ≡ times_in run
unfolding times_of
times_one run = append-nil (times_in run)

pub times_push : (xs : List Run) (run : Run) → times_of (xs ++ run ∷ []) ≡ times_of xs ++ times_in run
times_push xs run = times_append xs (run ∷ []) ∙ ap (λ l. times_of xs ++ l) (times_one run)

pub times_none : times_of [] ≡ []
unfolding times_of
times_none = refl

pub times_more : (runs : List Run) (i : ℕ) (run : Run) → i < length runs → run ≡ get_or runs i run → times_of (take (i + 1) runs) ≡ times_of (take i runs) ++ times_in run
times_more runs i run within at =
    ap times_of (take_more runs i run within) ∙ times_push (take i runs) (get_or runs i run) ∙ ap (λ r. times_of (take i runs) ++ times_in r) (sym at)

-- the first run of those from a place on
from : (runs : List Run) (i : ℕ) (run : Run) → i < length runs → run ≡ get_or runs i run → times_of (drop i runs) ≡ times_in run ++ times_of (drop (i + 1) runs)
from runs i run within at =
    ap times_of (drop-cons runs i run within) ∙ first_of (get_or runs i run) (drop (suc i) runs) ∙ ap (λ r. times_in r ++ times_of (drop (suc i) runs)) (sym at)
    ∙ ap (λ n. times_in run ++ times_of (drop n runs)) (sym (add-one i))

pub in_run : (runs : List Run) (i : ℕ) (run : Run) (left : ℕ) → i < length runs → run ≡ get_or runs i run → left < run.count
    → slice_index (times_of (drop i runs)) left ≡ run.time
in_run runs i run left within at few =
    let size : length (times_in run) ≡ run.count = length-replicate run.count run.time in
    ap (λ l. get_or l left 0) (from runs i run within at)
    ∙ get_or_append_left (times_in run) (times_of (drop (i + 1) runs)) 0 left (omega (arith, size, few))
    ∙ get_or-replicate run.count left run.time 0 few

pub past_run : (runs : List Run) (i : ℕ) (run : Run) (left : ℕ) → i < length runs → run ≡ get_or runs i run → run.count ≤ left
    → slice_index (times_of (drop i runs)) left ≡ slice_index (times_of (drop (i + 1) runs)) (left - run.count)
past_run runs i run left within at many =
    ap (λ l. get_or l left 0) (from runs i run within at)
    ∙ get_or-append_right (times_in run) (times_of (drop (i + 1) runs)) run.count left 0 (length-replicate run.count run.time) many

-- the first of three lists goes behind the second
aside : (a b c : List ℕ) → IsPermutation (a ++ (b ++ c)) (b ++ (a ++ c))
aside a b c = subst (λ l. IsPermutation l (b ++ (a ++ c))) (append_assoc a b c) (subst (λ l. IsPermutation ((a ++ b) ++ c) l) (append_assoc b a c) (IsPermutation-append_left c (a ++ b) (b ++ a) (IsPermutation-append_comm a b)))

-- one run in place of another
pub times_set : (runs : List Run) (i : ℕ) (run : Run) (d : Run) → i < length runs
    → IsPermutation (times_in (get_or runs i d) ++ times_of (slice_set runs i run)) (times_in run ++ times_of runs)
unfolding times_of
times_set [] i run d within = absurd (omega (arith, within))
times_set (x ∷ xs) zero run d within = aside (times_in x) (times_in run) (times_of xs)
times_set (x ∷ xs) (suc i) run d within =
    let old = times_in (get_or xs i d) in
    let rest = times_of (slice_set xs i run) in
    IsPermutation-trans (old ++ (times_in x ++ rest)) (times_in x ++ (old ++ rest)) (times_in run ++ (times_in x ++ times_of xs))
    (aside old (times_in x) rest)
    (IsPermutation-trans (times_in x ++ (old ++ rest)) (times_in x ++ (times_in run ++ times_of xs)) (times_in run ++ (times_in x ++ times_of xs))
    (IsPermutation-append_right (times_in x) (old ++ rest) (times_in run ++ times_of xs) (times_set xs i run d (omega (arith, within))))
    (aside (times_in x) (times_in run) (times_of xs)))

-- the runs of two places in one another's
abbrev exchanged : Run → List Run → ℕ → ℕ → List Run
exchanged d runs i j = slice_set (slice_set runs i (get_or runs j d)) j (get_or runs i d)

times_exchanged : (d : Run) (runs : List Run) (i j : ℕ) → i < length runs → j < length runs → IsPermutation (times_of runs) (times_of (exchanged d runs i j))
unfolding times_of
times_exchanged d [] i j inside within = absurd (omega (arith, inside))
times_exchanged d (x ∷ xs) zero zero inside within = IsPermutation-refl (times_of (x ∷ xs))
times_exchanged d (x ∷ xs) zero (suc j) inside within =
    IsPermutation-sym (times_in (get_or xs j d) ++ times_of (slice_set xs j x)) (times_in x ++ times_of xs) (times_set xs j x d (omega (arith, within)))
times_exchanged d (x ∷ xs) (suc i) zero inside within =
    IsPermutation-sym (times_in (get_or xs i d) ++ times_of (slice_set xs i x)) (times_in x ++ times_of xs) (times_set xs i x d (omega (arith, inside)))
times_exchanged d (x ∷ xs) (suc i) (suc j) inside within =
    IsPermutation-append_right (times_in x) (times_of xs) (times_of (exchanged d xs i j)) (times_exchanged d xs i j (omega (arith, inside)) (omega (arith, within)))

-- two runs change their places
pub times_swapped : (runs : List Run) (i j : ℕ) → i < length runs → j < length runs → IsPermutation (times_of runs) (times_of (swap runs i j))
times_swapped [] i j inside within = absurd (omega (arith, inside))
times_swapped (x ∷ xs) i j inside within = times_exchanged x (x ∷ xs) i j inside within

-- the same runs in another order
pub times_moved : (xs ys : List Run) → IsPermutation xs ys → IsPermutation (times_of xs) (times_of ys)
times_moved xs ys moved =
    IsPermutation-keeps xs (λ l. IsPermutation (times_of xs) (times_of l)) (IsPermutation-refl (times_of xs))
    (λ l i j inside within was. IsPermutation-trans (times_of xs) (times_of l) (times_of (swap l i j)) was (times_swapped l i j inside within))
    ys moved

-- two runs of one time are one
pub joined_runs : (xs : List ℕ) (time n m : ℕ) → (xs ++ replicate n time) ++ replicate m time ≡ xs ++ replicate (n + m) time
joined_runs xs time n m = append_assoc xs (replicate n time) (replicate m time) ∙ ap (λ l. xs ++ l) (replicate-append-replicate n m time)

-- times in their order, of which each is at least so much
abbrev Rise : ℕ → List ℕ → Type 0
Rise low [] = ⊤
Rise low (x ∷ xs) = (low ≤ x) × Rise x xs

lower : (low high : ℕ) (xs : List ℕ) → low ≤ high → Rise high xs → Rise low xs
lower low high [] below rise = tt
lower low high (x ∷ xs) below rise = (omega (arith, below, rise.0), rise.1)

rise_run : (low time : ℕ) (count : ℕ) (rest : List ℕ) → low ≤ time → Rise time rest → Rise low (replicate count time ++ rest)
rise_run low time zero rest below rise = lower low time rest below rise
rise_run low time (suc count) rest below rise = (below, rise_run time time count rest (omega arith) rise)

rise_from : (low : ℕ) (runs : List Run) → ((k : ℕ) → k < length runs → (d : Run) → low ≤ (get_or runs k d).time)
    → IsNonDecreasingBy (λ run. run.time) runs → Rise low (times_of runs)
unfolding times_of
rise_from low [] least sorted = tt
rise_from low (x ∷ xs) least sorted =
    rise_run low x.time x.count (times_of xs) (least 0 (omega arith) x)
    (rise_from x.time xs (λ k within d. sorted 0 (suc k) d (omega arith) (omega (arith, within)))
    (λ i j d before within. sorted (suc i) (suc j) d (omega (arith, before)) (omega (arith, within))))

shift : (k : ℕ) → suc (k + 1) ≡ suc k + 1
shift k = omega arith

rising : (low : ℕ) (xs : List ℕ) → Rise low xs → (k d : ℕ) → k + 1 < length xs → get_or xs k d ≤ get_or xs (k + 1) d
rising low [] rise k d within = absurd (omega (arith, within))
rising low (x ∷ []) rise k d within = absurd (omega (arith, within))
rising low (x ∷ y ∷ xs) rise zero d within = rise.1.0
rising low (x ∷ y ∷ xs) rise (suc k) d within =
    subst (λ n. get_or (y ∷ xs) k d ≤ get_or (x ∷ y ∷ xs) n d) (shift k) (rising x (y ∷ xs) rise.1 k d (omega (arith, within)))

not_less : (x y : ℕ) → x ≤ y → is_lt (nat_cmp y x) ≡ false
not_less x y below = grind (arith, below)

-- the times of runs in the order of their times
pub times_sorted : (runs : List Run) → IsNonDecreasingBy (λ run. run.time) runs → IsSorted nat_cmp (times_of runs)
times_sorted runs sorted = λ k d from within.
    not_less (get_or (times_of runs) k d) (get_or (times_of runs) (k + 1) d)
    (rising 0 (times_of runs) (rise_from 0 runs (λ k within d. omega arith) sorted) k d within)

-- what is held of times, put in order
pub held_waits : (times : List ℕ) (held : Times) (runs : List Run) (waits : Waits) → AreHeld times held → 0 < held.count → IsPermutation held.runs.items runs
    → IsNonDecreasingBy (λ run. run.time) runs
    → waits.median ≡ slice_index (times_of runs) (held.count - 1 - held.count / 2)
    → waits.most ≡ slice_index (times_of runs) (held.count - 1 - held.count / 100)
    → waits.longest ≡ slice_index (times_of runs) (held.count - 1)
    → AreWaitsOf times (Some waits)
held_waits times held runs waits are some moved sorted median most longest =
    let all = IsPermutation-trans times (times_of held.runs.items) (times_of runs) are.same (times_moved held.runs.items runs moved) in
    let size : held.count ≡ length (times_of runs) = are.counted ∙ sym (length_permutation times (times_of runs) all) in (
      times_of runs,
      all,
      times_sorted runs sorted,
      record {
        median = median ∙ ap (λ n. slice_index (times_of runs) (n - 1 - n / 2)) size;
        most = most ∙ ap (λ n. slice_index (times_of runs) (n - 1 - n / 100)) size;
        longest = longest ∙ ap (λ n. slice_index (times_of runs) (n - 1)) size;
      },
    )

pub held_more : (times : List ℕ) (held new : Times) (time : ℕ) → AreHeld times held → new.runs.items ≡ held.runs.items ++ record { time = time; count = 1 } ∷ []
    → new.count ≡ held.count + 1 → held.count < max_times → AreHeld (times ++ time ∷ []) new
held_more times held new time are pushed counted few = record {
  same = subst (λ l. IsPermutation (times ++ time ∷ []) l) (sym (ap times_of pushed ∙ times_push held.runs.items (record { time = time; count = 1 }))) (IsPermutation-append_left (time ∷ []) times (times_of held.runs.items) are.same);
  counted = counted ∙ ap (λ n. n + 1) are.counted ∙ sym (length-append times (time ∷ []));
  few = omega (arith, counted, few);
}

pub held_joined : (times : List ℕ) (held new : Times) (sorted : List Run) → AreHeld times held → IsPermutation held.runs.items sorted
    → times_of new.runs.items ≡ times_of sorted → new.count ≡ held.count → AreHeld times new
held_joined times held new sorted are moved same counted = record {
  same = subst (λ l. IsPermutation times l) (sym same) (IsPermutation-trans times (times_of held.runs.items) (times_of sorted) are.same (times_moved held.runs.items sorted moved));
  counted = counted ∙ are.counted;
  few = rw counted are.few;
}

pub same_run : (runs : List Run) (i : ℕ) (d : Run) → i < length runs → get_or runs i d ≡ get_or runs i (get_or runs i d)
same_run [] i d within = absurd (omega (arith, within))
same_run (x ∷ xs) zero d within = refl
same_run (x ∷ xs) (suc i) d within = same_run xs i d (omega (arith, within))

pub none_left : (runs : List Run) (i left : ℕ) → length runs ≤ i → slice_index (times_of (drop i runs)) left ≡ 0
unfolding times_of
none_left [] zero left past = refl
none_left [] (suc i) left past = refl
none_left (x ∷ xs) zero left past = absurd (omega (arith, past))
none_left (x ∷ xs) (suc i) left past = none_left xs i left (omega (arith, past))

pub times_whole : (runs : List Run) (i : ℕ) → length runs ≤ i → times_of (take i runs) ≡ times_of runs
times_whole runs i past = ap times_of (take_all i runs past)

module _ (runs : List Run) (i : ℕ) (run : Run) (joined : List Run) (last : Run) (within : i < length runs) (at : run ≡ get_or runs i run)
    (so_far : times_of joined ++ times_in last ≡ times_of (take i runs)) where
  -- a run of the time of the last one
  pub joined_same : (count : ℕ) → last.time ≡ run.time → count ≡ last.count + run.count
      → times_of joined ++ replicate count last.time ≡ times_of (take (i + 1) runs)
  joined_same count same sum =
      ap (λ n. times_of joined ++ replicate n last.time) sum
      ∙ sym (joined_runs (times_of joined) last.time last.count run.count)
      ∙ ap (λ t. (times_of joined ++ times_in last) ++ replicate run.count t) same
      ∙ ap (λ l. l ++ times_in run) so_far
      ∙ sym (times_more runs i run within at)

  -- and one of another time
  pub joined_next : times_of (joined ++ last ∷ []) ++ times_in run ≡ times_of (take (i + 1) runs)
  joined_next =
      ap (λ l. l ++ times_in run) (times_push joined last ∙ so_far)
      ∙ sym (times_more runs i run within at)
