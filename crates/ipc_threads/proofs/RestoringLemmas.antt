-- A table that is restored pair by pair.
use Rattle.std.proofs.Common.{◌≡◌, ◌≢◌, ◌<◌, ◌+◌, ◌==◌, ◌++◌, ◌∷◌, ◌∙◌, ℕ, zero, suc, Bool, true, false, List, [], Option, Some, None, length, set, take, not, is_some, refl, sym, ap, subst, arith, add-one, eq-eqb, below_more, ◌⊎◌, inl, inr}
use Rattle.std.specs.Option.{option_or}
use Rattle.std.specs.Prelude.{option_map, unwrap_or, find, replicate, slice_index_or, slice_set, if◌then◌else◌}
use Rattle.std.proofs.Math.Seq.{take-suc}
use Rattle.std.proofs.lemmas.List.{get_or-set_same, get_or-set_other, length-set}
use Rattle.std.proofs.lemmas.List.Folds.{find-append}
use Rattle.std.proofs.lemmas.Bool.{ne_eqb}
use Rattle.std.proofs.lemmas.Bool.Decides.{eqb_tells, nat_tests}
use Rattle.std.proofs.lemmas.Grind.{common_steps}
use Rattle.ipc_words.specs.Limits.{table_slots}
use Rattle.ipc_threads.specs.Restoring.{IsFirstFault, IsRestoredFrom, fault_at, fault_of, given, is_last_version}
use Rattle.ipc_threads.specs.Threads.{blank, last_version_of, live_count, slot_of}
use Rattle.ipc_threads.specs.declared.table.Slot.{Slot}
use Rattle.ipc_threads.specs.declared.refusal.ThreadRefusal.{ThreadRefusal}
use Rattle.ipc_threads.specs.declared.refusal.ThreadRefusal.TheVariants.{BadNumber, NumberTaken}

-- the first i pairs are restored, and have no fault
pub record IsRestoredUpTo (pairs : List (ℕ × ℕ)) (i : ℕ) (table : List Slot) : Type 0 where
  pub restored : IsRestoredFrom (take i pairs) table
  pub quiet : live_count table ≡ 0
  pub faultless : (k : ℕ) → k < i → fault_at pairs k ≡ None
  pub versions : (number : ℕ) → given (take i pairs) number ≢ Some 0

slot_of-replicate : (n number : ℕ) → slot_of (replicate n blank) number ≡ blank
slot_of-replicate zero number = refl
slot_of-replicate (suc n) zero = refl
slot_of-replicate (suc n) (suc number) = slot_of-replicate n number

live_count-replicate : (n : ℕ) → live_count (replicate n blank) ≡ 0
live_count-replicate zero = refl
live_count-replicate (suc n) = live_count-replicate n

length-blank : (n : ℕ) → length (replicate n blank) ≡ n
length-blank n = grind (arith, common_steps)

pub restored_none : (pairs : List (ℕ × ℕ)) → IsRestoredUpTo pairs 0 (replicate table_slots blank)
restored_none pairs = record {
  restored = record { size = length-blank table_slots; slots = slot_of-replicate table_slots };
  quiet = live_count-replicate table_slots;
  faultless = λ k h. absurd (omega arith);
  versions = λ number e. cc;
}

taken_at : (o : Option ℕ) → o ≢ Some 0 → is_some o ≡ not (unwrap_or o 0 == 0)
taken_at None h = refl
taken_at (Some zero) h = absurd (h refl)
taken_at (Some (suc v)) h = let no : (suc v == 0) ≡ false = ne_eqb (suc v) 0 (λ e. omega arith) in rw no refl

-- a number is named by an earlier pair where it has a version
taken_is : (pairs : List (ℕ × ℕ)) (i : ℕ) (table : List Slot) (number : ℕ) → IsRestoredUpTo pairs i table
    → is_some (given (take i pairs) number) ≡ not (last_version_of table number == 0)
taken_is pairs i table number h =
    taken_at (given (take i pairs) number) (h.versions number)
    ∙ ap (λ (slot : Slot). not (slot.last == 0)) (sym (h.restored.slots number))

pub fault_is : (pairs : List (ℕ × ℕ)) (i : ℕ) (table : List Slot) → IsRestoredUpTo pairs i table
    → fault_at pairs i ≡ fault_of (not (last_version_of table (slice_index_or pairs i (0, 0)).0 == 0)) (slice_index_or pairs i (0, 0))
fault_is pairs i table h =
    ap (λ (b : Bool). fault_of b (slice_index_or pairs i (0, 0))) (taken_is pairs i table (slice_index_or pairs i (0, 0)).0 h)

pub first_fault : (pairs : List (ℕ × ℕ)) (i : ℕ) (table : List Slot) (refusal : ThreadRefusal) → i < length pairs → IsRestoredUpTo pairs i table
    → fault_of (not (last_version_of table (slice_index_or pairs i (0, 0)).0 == 0)) (slice_index_or pairs i (0, 0)) ≡ Some refusal
    → IsFirstFault pairs refusal
first_fault pairs i table refusal within h fault = (i, within, fault_is pairs i table h ∙ fault, h.faultless)

-- a pair with no fault
choose : (good taken : Bool) → (if not good then Some BadNumber else (if taken then Some NumberTaken else None)) ≡ None
    → (good ≡ true) × (taken ≡ false)
choose true true h = cc
choose true false h = (refl, refl)
choose false taken h = cc

good_pair : (number version : ℕ) → is_last_version (number, version) ≡ true → (number < table_slots) × (version ≢ 0)
good_pair number version h = grind (arith, nat_tests)

faultless_pair : (taken : Bool) (pair : ℕ × ℕ) → fault_of taken pair ≡ None → (taken ≡ false) × (pair.0 < table_slots) × (pair.1 ≢ 0)
faultless_pair taken pair h =
    let both = choose (is_last_version pair) taken h in
    let good = good_pair pair.0 pair.1 both.0 in
    (both.1, good.0, good.1)

-- one more pair, of this number or of another
join_same : (o : Option (ℕ × ℕ)) (x : ℕ × ℕ) → option_map (λ (pair : ℕ × ℕ). pair.1) o ≡ None
    → option_map (λ (pair : ℕ × ℕ). pair.1) (option_or o (Some x)) ≡ Some x.1
join_same None x h = refl
join_same (Some y) x h = cc

join_other : (o : Option (ℕ × ℕ)) → option_map (λ (pair : ℕ × ℕ). pair.1) (option_or o None) ≡ option_map (λ (pair : ℕ × ℕ). pair.1) o
join_other None = refl
join_other (Some y) = refl

given_same : (xs : List (ℕ × ℕ)) (x : ℕ × ℕ) → given xs x.0 ≡ None → given (xs ++ x ∷ []) x.0 ≡ Some x.1
given_same xs x none =
    let yes : (x.0 == x.0) ≡ true = eq-eqb x.0 x.0 refl in
    let last : find (λ (pair : ℕ × ℕ). pair.0 == x.0) (x ∷ []) ≡ Some x = rw yes refl in
    rw (find-append (λ (pair : ℕ × ℕ). pair.0 == x.0) xs (x ∷ []), last) (join_same _ x none)

given_other : (xs : List (ℕ × ℕ)) (x : ℕ × ℕ) (number : ℕ) → number ≢ x.0 → given (xs ++ x ∷ []) number ≡ given xs number
given_other xs x number other =
    let no : (x.0 == number) ≡ false = ne_eqb x.0 number (λ e. other (sym e)) in
    let last : find (λ (pair : ℕ × ℕ). pair.0 == number) (x ∷ []) ≡ None = rw no refl in
    rw (find-append (λ (pair : ℕ × ℕ). pair.0 == number) xs (x ∷ []), last) (join_other _)

free_number : (o : Option ℕ) → is_some o ≡ false → o ≡ None
free_number None h = refl
free_number (Some v) h = cc

-- the slot of a number that the pairs give this version
abbrev restored_slot : Option ℕ → Slot
restored_slot version = record { last = unwrap_or version 0; space = None }

more_slots : (xs : List (ℕ × ℕ)) (x : ℕ × ℕ) (table : List Slot) → IsRestoredFrom xs table → given xs x.0 ≡ None → x.0 < table_slots
    → (number : ℕ) → slot_of (set table x.0 (restored_slot (Some x.1))) number ≡ restored_slot (given (xs ++ x ∷ []) number)
more_slots xs x table h none within number = go (eqb_tells number x.0)
  where
    at_number : slot_of (set table x.0 (restored_slot (Some x.1))) x.0 ≡ restored_slot (given (xs ++ x ∷ []) x.0)
    at_number =
        let inside : x.0 < length table = rw h.size within in
        get_or-set_same table x.0 (restored_slot (Some x.1)) blank inside ∙ ap restored_slot (sym (given_same xs x none))

    go : ((number == x.0) ≡ true) × (number ≡ x.0) ⊎ ((number == x.0) ≡ false) × (number ≢ x.0)
        → slot_of (set table x.0 (restored_slot (Some x.1))) number ≡ restored_slot (given (xs ++ x ∷ []) number)
    go (inl same) =
        subst (λ (n : ℕ). slot_of (set table x.0 (restored_slot (Some x.1))) n ≡ restored_slot (given (xs ++ x ∷ []) n)) (sym same.1) at_number
    go (inr other) =
        get_or-set_other table x.0 number (restored_slot (Some x.1)) blank other.1
        ∙ h.slots number ∙ ap restored_slot (sym (given_other xs x number other.1))

more_versions : (xs : List (ℕ × ℕ)) (x : ℕ × ℕ) → ((number : ℕ) → given xs number ≢ Some 0) → given xs x.0 ≡ None → x.1 ≢ 0
    → (number : ℕ) → given (xs ++ x ∷ []) number ≢ Some 0
more_versions xs x versions none version number = go (eqb_tells number x.0)
  where
    go : ((number == x.0) ≡ true) × (number ≡ x.0) ⊎ ((number == x.0) ≡ false) × (number ≢ x.0)
        → given (xs ++ x ∷ []) number ≢ Some 0
    go (inl same) = λ zero_given.
        let is : given (xs ++ x ∷ []) number ≡ Some x.1 = ap (given (xs ++ x ∷ [])) same.1 ∙ given_same xs x none in
        version (let e : Some x.1 ≡ Some 0 = sym is ∙ zero_given in cc)
    go (inr other) = λ zero_given. versions number (sym (given_other xs x number other.1) ∙ zero_given)

pub restored_more : (pairs : List (ℕ × ℕ)) (i : ℕ) (table new : List Slot) → i < length pairs → IsRestoredUpTo pairs i table
    → fault_of (not (last_version_of table (slice_index_or pairs i (0, 0)).0 == 0)) (slice_index_or pairs i (0, 0)) ≡ None
    → new ≡ slice_set table (slice_index_or pairs i (0, 0)).0 (record { last = (slice_index_or pairs i (0, 0)).1; space = None })
    → live_count new ≡ 0 → IsRestoredUpTo pairs (i + 1) new
restored_more pairs i table new within h sound written quiet =
    let good = faultless_pair (not (last_version_of table (slice_index_or pairs i (0, 0)).0 == 0)) (slice_index_or pairs i (0, 0)) sound in
    let free = free_number (given (take i pairs) (slice_index_or pairs i (0, 0)).0) (taken_is pairs i table (slice_index_or pairs i (0, 0)).0 h ∙ good.0) in
    let more : take (i + 1) pairs ≡ take i pairs ++ (slice_index_or pairs i (0, 0) ∷ []) = rw add-one (take-suc pairs i (0, 0) within) in
    let size : length new ≡ table_slots = ap length written ∙ length-set table _ _ ∙ h.restored.size in
    let slots : (number : ℕ) → slot_of new number ≡ restored_slot (given (take i pairs ++ (slice_index_or pairs i (0, 0) ∷ [])) number) =
    λ number. ap (λ (t : List Slot). slot_of t number) written ∙ more_slots (take i pairs) (slice_index_or pairs i (0, 0)) table h.restored free good.1 number in
    record {
      restored = subst (λ (ys : List (ℕ × ℕ)). IsRestoredFrom ys new) (sym more) (record { size = size; slots = slots });
      quiet = quiet;
      faultless = below_more _ _ h.faultless (fault_is pairs i table h ∙ sound);
      versions = subst (λ (ys : List (ℕ × ℕ)). (number : ℕ) → given ys number ≢ Some 0) (sym more)
          (more_versions (take i pairs) (slice_index_or pairs i (0, 0)) h.versions free good.2);
    }
