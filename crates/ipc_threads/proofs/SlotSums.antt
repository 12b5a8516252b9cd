-- A sum over the slots is the sum over the calls.
use Rattle.std.proofs.lemmas.Bool.{cases_eq, ne_eqb}
use Rattle.std.proofs.lemmas.List.Sums.{sum_by_push}
use Rattle.std.proofs.Common.{◌≡◌, ◌≢◌, refl, sym, ap, subst, ◌∙◌, ℕ, zero, suc, ◌+◌, ◌<◌, ◌≤◌, ◌==◌, eq-eqb, nat_le, if◌then◌else◌, Bool, true, false, not, cond, List, Option, Some, None, sum_by, ◌⊎◌, inl, inr, arith}
use Rattle.std.specs.Option.{option_map_or}
use Rattle.std.proofs.lemmas.Bool.Decides.{nat_tests}
use Rattle.std.proofs.lemmas.Grind.{common_steps}
use Rattle.std.proofs.lemmas.Option.{same_Some}
use Rattle.ipc_words.specs.Limits.{table_slots}
use Rattle.ipc_words.specs.ThreadId.{number_of}
use Rattle.ipc_history.specs.Calls.{numbers, calls_made, caller_of}
use Rattle.ipc_history.specs.Phases.{is_over}
use Rattle.ipc_history.specs.Legal.{Legal}
use Rattle.ipc_history.specs.declared.entry.Entry.{Entry}
use Rattle.ipc_laws.specs.Counting.{open_calls, pledge_of}
use Rattle.ipc_laws.specs.Laws.{up_to}
use Rattle.ipc_laws.proofs.Growth.{open_is_called}
use Rattle.ipc_laws.proofs.Histories.{called_place}
use Rattle.ipc_laws.proofs.Numbering.{called_below, numbered, number_at}
use Rattle.ipc_laws.proofs.OpenCalls.{caller_lives}
use Rattle.ipc_laws.proofs.Tests.{not_both}
use Rattle.ipc_threads.specs.Pledges.{open_in, pledge_by, pledge_in}
use Rattle.ipc_threads.specs.Slots.{Stands, slot_at}
use Rattle.ipc_threads.specs.Standings.{standing_of}
use Rattle.ipc_threads.specs.Steps.{standing_in}
use Rattle.ipc_threads.specs.declared.slot.Standing.{Standing}
use Rattle.ipc_threads.specs.declared.kept.KeptSlots.{KeptSlots}
use Rattle.ipc_threads.proofs.Holders.{standing_number}
use Rattle.ipc_threads.proofs.Holders.{slot_of_call}
use Rattle.ipc_threads.proofs.Holders.{held_below, slot_standing}
use Rattle.ipc_threads.proofs.OutputSteps.{one_holder}
use Rattle.ipc_threads.proofs.Tables.{holds_it}
use Rattle.ipc_threads.proofs.ThreadSteps.{live_within}

abbrev pub sum_below : (ℕ → ℕ) → ℕ → ℕ
sum_below f zero = 0
sum_below f (suc k) = sum_below f k + f k

same_sum : (f g : ℕ → ℕ) → ((k : ℕ) → f k ≡ g k) → (n : ℕ) → sum_below f n ≡ sum_below g n
same_sum f g h zero = refl
same_sum f g h (suc n) = rw (same_sum f g h n, h n) refl

both_sums : (f g h : ℕ → ℕ) → ((k : ℕ) → f k ≡ g k + h k) → (n : ℕ) → sum_below f n ≡ sum_below g n + sum_below h n
both_sums f g h e zero = refl
both_sums f g h e (suc n) = omega (arith, both_sums f g h e n, e n)

no_sum : (f : ℕ → ℕ) → ((k : ℕ) → f k ≡ 0) → (n : ℕ) → sum_below f n ≡ 0
no_sum f h zero = refl
no_sum f h (suc n) = omega (arith, no_sum f h n, h n)

-- one place alone counts
sum_before : (f : ℕ → ℕ) (i : ℕ) → ((k : ℕ) → k ≢ i → f k ≡ 0) → (n : ℕ) → n ≤ i → sum_below f n ≡ 0
sum_before f i none zero h = refl
sum_before f i none (suc n) h = omega (arith, sum_before f i none n (omega arith), none n (λ e. omega (arith, e)))

sum_past : (f : ℕ → ℕ) (i v : ℕ) → f i ≡ v → ((k : ℕ) → k ≢ i → f k ≡ 0) → (n : ℕ) → i < n → sum_below f n ≡ v
sum_past f i v at none zero h = absurd (omega arith)
sum_past f i v at none (suc n) h = go (λ l. sum_past f i v at none n l) (cases_eq n i)
  where
    go : (i < n → sum_below f n ≡ v) → (n ≡ i) ⊎ (n ≢ i) → sum_below f n + f n ≡ v
    go again (inl e) = let here : f n ≡ v = ap f e ∙ at in omega (arith, here, sum_before f i none n (omega (arith, e)))
    go again (inr e) = let nothing = none n e in let less : i < n = omega (arith, e, h) in omega (arith, nothing, again less)

-- nothing counts from a place on
sum_tail : (f : ℕ → ℕ) (t : ℕ) → ((k : ℕ) → t ≤ k → f k ≡ 0) → (n : ℕ) → t ≤ n → sum_below f n ≡ sum_below f t
sum_tail f t none zero h = let same : zero ≡ t = omega arith in ap (sum_below f) same
sum_tail f t none (suc n) h = go (λ l. sum_tail f t none n l) (cases_eq (suc n) t)
  where
    go : (t ≤ n → sum_below f n ≡ sum_below f t) → (suc n ≡ t) ⊎ (suc n ≢ t) → sum_below f (suc n) ≡ sum_below f t
    go again (inl e) = ap (sum_below f) e
    go again (inr e) = let less : t ≤ n = omega (arith, e, h) in omega (arith, again less, none n less)

-- of the calls up to a number, and of one number
weight : (Standing → ℕ) → (ℕ → Bool) → Option Standing → ℕ
weight by p o = option_map_or (λ s. if p s.number then by s else 0) o 0

weight_none : (by : Standing → ℕ) (p : ℕ → Bool) (o : Option Standing) → ((s : Standing) → o ≡ Some s → p s.number ≡ false) → weight by p o ≡ 0
unfolding weight
weight_none by p None h = refl
weight_none by p (Some s) h = rw (h s refl) refl

weight_all : (by : Standing → ℕ) (p : ℕ → Bool) (o : Option Standing) → ((s : Standing) → o ≡ Some s → p s.number ≡ true) → weight by p o ≡ option_map_or by o 0
unfolding weight
weight_all by p None h = refl
weight_all by p (Some s) h = rw (h s refl) refl

-- a number is up to m + 1 where it is up to m or m + 1 itself
one_more : (by : Standing → ℕ) (m : ℕ) (o : Option Standing) → weight by (λ n. nat_le n (suc m)) o ≡ weight by (λ n. nat_le n m) o + weight by (λ n. n == suc m) o
unfolding weight
one_more by m None = refl
one_more by m (Some s) = at s.number (by s)
  where
    at : (n v : ℕ) → (if nat_le n (suc m) then v else 0) ≡ (if nat_le n m then v else 0) + (if n == suc m then v else 0)
    at n v = grind (arith, nat_tests, common_steps)

-- what each open call counts, by what is kept of it, and the same by its number
pub record Counts (P : List Entry) (by : Standing → ℕ) (of : ℕ → ℕ) : Type 0 where
  pub opened : (n : ℕ) → is_over P n ≡ false → by (standing_of P n) ≡ of n
  pub over : (n : ℕ) → is_over P n ≡ true → of n ≡ 0

module _ (P : List Entry) (slots : KeptSlots) (legal : Legal P) (stands : Stands P slots) (by : Standing → ℕ) (of : ℕ → ℕ) (counts : Counts P by of) (size : ℕ) (whole : size ≡ table_slots) where
  positive : (n : ℕ) → is_over P n ≡ false → 0 < n
  positive n o = let made = called_place P n (open_is_called P n o) in let at = number_at P legal n made.thread made.call made.at in omega arith

  -- what the slots hold of the number n counts for it
  one_number : (n : ℕ) → sum_below (λ k. weight by (λ x. x == n) (standing_in (slot_at slots.table k))) size ≡ of n
  one_number n = go (is_over P n) refl
    where
      over : is_over P n ≡ true → (k : ℕ) → weight by (λ x. x == n) (standing_in (slot_at slots.table k)) ≡ 0
      over o k = weight_none by (λ x. x == n) (standing_in (slot_at slots.table k)) (λ s e. ne_eqb s.number n (λ same. not_both o (ap (is_over P) (sym same) ∙ (slot_standing P slots stands k s e).opened)))

      there : is_over P n ≡ false → standing_in (slot_at slots.table (number_of (caller_of P n))) ≡ Some (standing_of P n)
      there o = ap standing_in (stands.table (number_of (caller_of P n))) ∙ slot_of_call P legal n o

      other : is_over P n ≡ false → (k : ℕ) → k ≢ number_of (caller_of P n) → weight by (λ x. x == n) (standing_in (slot_at slots.table k)) ≡ 0
      other o k apart = weight_none by (λ x. x == n) (standing_in (slot_at slots.table k)) (λ s e. ne_eqb s.number n (λ same. apart (one_holder P slots.table stands.table n k (number_of (caller_of P n)) (rw same at (holds_it (slot_at slots.table k) s e)) (rw (standing_number P n) at (holds_it (slot_at slots.table (number_of (caller_of P n))) (standing_of P n) (there o))))))

      here : is_over P n ≡ false → weight by (λ x. x == n) (standing_in (slot_at slots.table (number_of (caller_of P n)))) ≡ of n
      here o = ap (weight by (λ x. x == n)) (there o) ∙ (weight_all by (λ x. x == n) (Some (standing_of P n)) (λ s e. only s e) ∙ counts.opened n o)
        where
          only : (s : Standing) → Some (standing_of P n) ≡ Some s → (s.number == n) ≡ true
          only s e = eq-eqb s.number n (sym (ap (λ s. s.number) (same_Some (standing_of P n) s e)) ∙ standing_number P n)

      go : (b : Bool) → is_over P n ≡ b → sum_below (λ k. weight by (λ x. x == n) (standing_in (slot_at slots.table k))) size ≡ of n
      go true o = no_sum (λ k. weight by (λ x. x == n) (standing_in (slot_at slots.table k))) (over o) size ∙ sym (counts.over n o)
      go false o = sum_past (λ k. weight by (λ x. x == n) (standing_in (slot_at slots.table k))) (number_of (caller_of P n)) (of n) (here o) (other o) size (subst (λ k. number_of (caller_of P n) < k) (sym whole) (live_within P slots legal stands (caller_of P n) (caller_lives P legal n o)))

  up_to_sum : (m : ℕ) → sum_below (λ k. weight by (λ n. nat_le n m) (standing_in (slot_at slots.table k))) size ≡ sum_by of (up_to m)
  up_to_sum zero = no_sum (λ k. weight by (λ n. nat_le n 0) (standing_in (slot_at slots.table k))) (λ k. weight_none by (λ n. nat_le n 0) (standing_in (slot_at slots.table k)) (λ s e. low s.number (positive s.number (slot_standing P slots stands k s e).opened))) size
    where
      low : (n : ℕ) → 0 < n → nat_le n 0 ≡ false
      low n h = grind (arith, nat_tests)
  up_to_sum (suc m) =
      both_sums (λ k. weight by (λ n. nat_le n (suc m)) (standing_in (slot_at slots.table k))) (λ k. weight by (λ n. nat_le n m) (standing_in (slot_at slots.table k))) (λ k. weight by (λ n. n == suc m) (standing_in (slot_at slots.table k))) (λ k. one_more by m (standing_in (slot_at slots.table k))) size
      ∙ rw (up_to_sum m, one_number (suc m)) (sym (sum_by_push of (up_to m) (suc m)))

  pub sums_are : sum_below (λ k. option_map_or by (standing_in (slot_at slots.table k)) 0) size ≡ sum_by of (numbers P)
  sums_are = same_sum (λ k. option_map_or by (standing_in (slot_at slots.table k)) 0) (λ k. weight by (λ n. nat_le n (calls_made P)) (standing_in (slot_at slots.table k))) (λ k. sym (weight_all by (λ n. nat_le n (calls_made P)) (standing_in (slot_at slots.table k)) (λ s e. low s.number (called_below P legal s.number (open_is_called P s.number (slot_standing P slots stands k s e).opened))))) size ∙ (up_to_sum (calls_made P) ∙ ap (sum_by of) (sym (numbered P legal)))
    where
      low : (n : ℕ) → n ≤ calls_made P → nat_le n (calls_made P) ≡ true
      low n h = grind (arith, nat_tests)

  pub sum_told : (i total : ℕ) → slots.top ≤ i → i ≤ slots.top → total ≡ sum_below (λ k. option_map_or by (standing_in (slot_at slots.table k)) 0) i → total ≡ sum_by of (numbers P)
  sum_told i total past within e = let all : i ≡ slots.top = omega arith in e ∙ (ap (sum_below (λ k. option_map_or by (standing_in (slot_at slots.table k)) 0)) all ∙ (sym (sum_tail (λ k. option_map_or by (standing_in (slot_at slots.table k)) 0) slots.top above size (subst (λ k. slots.top ≤ k) (sym whole) stands.top)) ∙ sums_are))
    where
      above : (k : ℕ) → slots.top ≤ k → option_map_or by (standing_in (slot_at slots.table k)) 0 ≡ 0
      above k far = go (standing_in (slot_at slots.table k)) refl
        where
          go : (o : Option Standing) → standing_in (slot_at slots.table k) ≡ o → option_map_or by o 0 ≡ 0
          go None h = refl
          go (Some s) h = let less = held_below P slots stands k s h in absurd (omega arith)

-- so it is of the pledges, and of the calls that are open
pledges_count : (P : List Entry) → Counts P pledge_by (pledge_of P)
unfolding pledge_of standing_of
pledges_count P = record { opened = λ n o. rw o refl; over = λ n o. rw o refl }

pub pledges_told : (P : List Entry) (slots : KeptSlots) → Legal P → Stands P slots → (i total : ℕ) → slots.top ≤ i → i ≤ slots.top → total ≡ sum_below (λ k. pledge_in (slot_at slots.table k)) i → total ≡ sum_by (pledge_of P) (numbers P)
pledges_told P slots legal stands i total past within e = sum_told P slots legal stands pledge_by (pledge_of P) (pledges_count P) table_slots refl i total past within e

opens_count : (P : List Entry) → Counts P (λ s. 1) (λ n. cond (not (is_over P n)) 1 0)
opens_count P = record { opened = λ n o. rw o refl; over = λ n o. rw o refl }

pub opens_told : (P : List Entry) (slots : KeptSlots) → Legal P → Stands P slots → (i total : ℕ) → slots.top ≤ i → i ≤ slots.top → total ≡ sum_below (λ k. open_in (slot_at slots.table k)) i → total ≡ open_calls P
unfolding open_calls
opens_told P slots legal stands i total past within e = sum_told P slots legal stands (λ s. 1) (λ n. cond (not (is_over P n)) 1 0) (opens_count P) table_slots refl i total past within e
