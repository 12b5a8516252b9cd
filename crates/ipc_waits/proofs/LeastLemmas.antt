-- Of the open calls in the slots the least for which a rule gives something.
use Rattle.std.proofs.lemmas.Bool.{cases_order}
use Rattle.std.proofs.lemmas.Option.{none-some, same_Some}
use Rattle.std.proofs.Common.{◌≡◌, refl, sym, ap, ◌∙◌, ℕ, zero, suc, ◌<◌, ◌≤◌, Bool, true, false, List, [], ◌∷◌, ◌++◌, Option, Some, None, option_map, ◌⊎◌, inl, inr, arith}
use Rattle.ipc_words.specs.ThreadId.{number_of}
use Rattle.ipc_history.specs.Words.{first_some}
use Rattle.ipc_history.specs.NextOutput.{meeting_of}
use Rattle.ipc_history.specs.Calls.{numbers, calls_made, caller_of}
use Rattle.ipc_history.specs.Phases.{is_over}
use Rattle.ipc_history.specs.Legal.{Legal}
use Rattle.ipc_history.specs.declared.entry.Entry.{Entry}
use Rattle.ipc_history.specs.declared.entry.Output.{Output}
use Rattle.ipc_laws.specs.Laws.{up_to}
use Rattle.ipc_laws.proofs.Growth.{open_is_called}
use Rattle.ipc_laws.proofs.Numbering.{called_below, numbered, number_at}
use Rattle.ipc_laws.proofs.Histories.{called_place}
use Rattle.ipc_laws.proofs.WordLemmas.{first_some_push}
use Rattle.ipc_threads.proofs.Overs.{over_no_end, over_no_partner, over_no_meeting, over_no_due, over_no_abort}
use Rattle.ipc_waits.specs.Least.{IsFound, IsLeast}
use Rattle.ipc_waits.specs.Rules.{rule_of}
use Rattle.ipc_threads.specs.Slots.{Stands, slot_at}
use Rattle.ipc_threads.specs.Standings.{standing_of}
use Rattle.ipc_threads.specs.Steps.{standing_in}
use Rattle.ipc_waits.specs.declared.rules.Rule.{Rule}
use Rattle.ipc_waits.specs.declared.rules.Rule.TheVariants.{Ends, Fails, Expires, Copies}
use Rattle.ipc_threads.specs.Slot.{Slot}
use Rattle.ipc_threads.specs.declared.kept.KeptSlots.{KeptSlots}
use Rattle.ipc_threads.proofs.Holders.{held_below, slot_of_call}

pub least_start : (f : ℕ → Option Output) (table : List Slot) → IsLeast f table 0 None
least_start f table = record { seen = λ k h s e y g. absurd (omega arith); is = λ b e. absurd (none-some b e) }

-- Among the numbers from 1

none_below : (f : ℕ → Option Output) (m : ℕ) → ((n : ℕ) → n ≤ m → f n ≡ None) → first_some f (up_to m) ≡ None
none_below f zero h = refl
none_below f (suc m) h = first_some_push f (up_to m) (suc m) ∙ rw (none_below f m (λ n l. h n (omega arith)), h (suc m) (omega arith)) refl

first_at : (f : ℕ → Option Output) (m n : ℕ) (y : Output) → 0 < n → n ≤ m → f n ≡ Some y → ((k : ℕ) → k < n → f k ≡ None) → first_some f (up_to m) ≡ Some y
first_at f zero n y positive within gives none = absurd (omega arith)
first_at f (suc m) n y positive within gives none = go (first_at f m n y positive) (cases_order n (suc m))
  where
    go : (n ≤ m → f n ≡ Some y → ((k : ℕ) → k < n → f k ≡ None) → first_some f (up_to m) ≡ Some y) → (n ≡ suc m) ⊎ ((n < suc m) ⊎ (suc m < n)) → first_some f (up_to m ++ suc m ∷ []) ≡ Some y
    go again (inl e) = first_some_push f (up_to m) (suc m) ∙ rw (none_below f m (λ k l. none k (omega arith)), ← e, gives) refl
    go again (inr (inl less)) = first_some_push f (up_to m) (suc m) ∙ rw (again (omega arith) gives none) refl
    go again (inr (inr more)) = absurd (omega arith)

-- the least number up to m for which f gives something
record IsFirst (f : ℕ → Option Output) (n : ℕ) (y : Output) : Type 0 where
  gives : f n ≡ Some y
  before : (k : ℕ) → k < n → f k ≡ None

none_or_first : (f : ℕ → Option Output) (m : ℕ) → ((n : ℕ) → n < m → f n ≡ None) ⊎ ((n : ℕ) × (y : Output) × (n < m) × IsFirst f n y)
none_or_first f zero = inl (λ n h. absurd (omega arith))
none_or_first f (suc m) = elim (none_or_first f m) [
  | inl none ↦ at none (f m) refl
  | inr found ↦ inr (found.0, found.1, (let within = found.2 in omega arith), found.3)
]
  where
    at : ((n : ℕ) → n < m → f n ≡ None) → (o : Option Output) → f m ≡ o → ((n : ℕ) → n < suc m → f n ≡ None) ⊎ ((n : ℕ) × (y : Output) × (n < suc m) × IsFirst f n y)
    at none None e = inl (λ n h. elim (cases_order n m) [ inl same ↦ ap f same ∙ e | inr (inl less) ↦ none n less | inr (inr more) ↦ absurd (omega arith) ])
    at none (Some y) e = inr (m, y, omega arith, record { gives = e; before = none })

-- Of the calls of a history: f gives nothing for those that are over
module _ (P : List Entry) (legal : Legal P) (f : ℕ → Option Output) (quiet : (n : ℕ) → is_over P n ≡ true → f n ≡ None) where
  giving_open : (n : ℕ) (y : Output) → f n ≡ Some y → is_over P n ≡ false
  giving_open n y g = go (is_over P n) refl
    where
      go : (b : Bool) → is_over P n ≡ b → is_over P n ≡ false
      go true o = absurd (none-some y (sym (quiet n o) ∙ g))
      go false o = o

  positive : (n : ℕ) → is_over P n ≡ false → 0 < n
  positive n o = let made = called_place P n (open_is_called P n o) in let at = number_at P legal n made.thread made.call made.at in omega arith

  -- where the least call for which f gives something is found, the best is the first in call order
  pub first_found : (best : Option (ℕ × Output)) → ((b : ℕ × Output) → best ≡ Some b → f b.0 ≡ Some b.1) → ((n : ℕ) (y : Output) → f n ≡ Some y → ((k : ℕ) → k < n → f k ≡ None) → IsFound best n) → first_some f (numbers P) ≡ option_map (λ b. b.1) best
  first_found best is found = ap (first_some f) (numbered P legal) ∙ elim (none_or_first f (suc (calls_made P))) [
    | inl none ↦ nothing none best refl
    | inr first ↦ something first.0 first.1 first.3
  ]
    where
      nothing : ((n : ℕ) → n < suc (calls_made P) → f n ≡ None) → (o : Option (ℕ × Output)) → best ≡ o → first_some f (up_to (calls_made P)) ≡ option_map (λ b. b.1) o
      nothing none None e = none_below f (calls_made P) (λ n l. none n (omega arith))
      nothing none (Some b) e =
          let gives = is b e in
          let few = called_below P legal b.0 (open_is_called P b.0 (giving_open b.0 b.1 gives)) in
          absurd (none-some b.1 (sym (none b.0 (omega arith)) ∙ gives))

      something : (n : ℕ) (y : Output) → IsFirst f n y → first_some f (up_to (calls_made P)) ≡ option_map (λ b. b.1) best
      something n y first =
          let o = giving_open n y first.gives in
          first_at f (calls_made P) n y (positive n o) (called_below P legal n (open_is_called P n o)) first.gives first.before ∙ (ap (λ y. Some y) same ∙ sym (ap (option_map (λ b. b.1)) it.1))
        where
          it : IsFound best n
          it = found n y first.gives first.before

          at : it.0.0 ≡ n
          at = elim (cases_order it.0.0 n) [
            | inl same ↦ same
            | inr (inl less) ↦ absurd (none-some it.0.1 (sym (first.before it.0.0 less) ∙ is it.0 it.1))
            | inr (inr more) ↦ (let within = it.2 in absurd (omega arith))
          ]

          same : y ≡ it.0.1
          same = same_Some y it.0.1 (sym first.gives ∙ (ap f (sym at) ∙ is it.0 it.1))

-- so the best of all slots is the first in call order
module _ (P : List Entry) (slots : KeptSlots) (legal : Legal P) (stands : Stands P slots) (f : ℕ → Option Output) (quiet : (n : ℕ) → is_over P n ≡ true → f n ≡ None) where
  standing_number : (n : ℕ) → (standing_of P n).number ≡ n
  unfolding standing_of
  standing_number n = refl

  nearer : (n b : ℕ) → b ≤ (standing_of P n).number → b ≤ n
  nearer n b h = omega (arith, standing_number n)

  low : (i : ℕ) → slots.top ≤ i → (best : Option (ℕ × Output)) → IsLeast f slots.table i best → (n : ℕ) (y : Output) → f n ≡ Some y → IsFound best n
  low i all best h n y g =
      let o = giving_open P legal f quiet n y g in
      let k = number_of (caller_of P n) in
      let at : standing_in (slot_at slots.table k) ≡ Some (standing_of P n) = ap standing_in (stands.table k) ∙ slot_of_call P legal n o in
      let near = held_below P slots stands k (standing_of P n) at in
      let found = h.seen k (omega arith) (standing_of P n) at y (rw (standing_number n) g) in
      (found.0, found.1, nearer n found.0.0 found.2)

  pub least_is : (i : ℕ) → slots.top ≤ i → (best : Option (ℕ × Output)) → IsLeast f slots.table i best → first_some f (numbers P) ≡ option_map (λ b. b.1) best
  least_is i all best h = first_found P legal f quiet best h.is (λ n y g before. low i all best h n y g)

-- the rules say nothing of a call that is over
pub rule_over : (rule : Rule) (P : List Entry) (n : ℕ) → is_over P n ≡ true → rule_of rule P n ≡ None
rule_over Ends P n o = over_no_end P n o
rule_over Fails P n o = over_no_partner P n o
rule_over (Expires moment) P n o = over_no_due P moment n o
rule_over Copies P n o = over_no_abort P n o

pub least_told : (P : List Entry) (slots : KeptSlots) (rule : Rule) (i : ℕ) (best o : Option (ℕ × Output)) → Legal P → Stands P slots → slots.top ≤ i → IsLeast (rule_of rule P) slots.table i best → best ≡ o → option_map (λ b. b.1) o ≡ first_some (rule_of rule P) (numbers P)
least_told P slots rule i best o legal stands all h e = ap (option_map (λ b. b.1)) (sym e) ∙ sym (least_is P slots legal stands (rule_of rule P) (rule_over rule P) i all best h)

pub least_meets : (P : List Entry) (slots : KeptSlots) (i : ℕ) (best o : Option (ℕ × Output)) → Legal P → Stands P slots → slots.top ≤ i → IsLeast (meeting_of P) slots.table i best → best ≡ o → option_map (λ b. b.1) o ≡ first_some (meeting_of P) (numbers P)
least_meets P slots i best o legal stands all h e = ap (option_map (λ b. b.1)) (sym e) ∙ sym (least_is P slots legal stands (meeting_of P) (over_no_meeting P) i all best h)
