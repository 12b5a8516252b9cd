-- Two calls meet once.
use Rattle.std.proofs.lemmas.Bool.{false≢true, ne_eqb}
use Rattle.std.proofs.lemmas.Option.{none-some}
use Rattle.std.proofs.Common.{◌≡◌, ◌≢◌, refl, sym, ap, ◌∙◌, subst, ℕ, Bool, true, false, ◌&&◌, ◌||◌, ◌==◌, eqb-true, if◌then◌else◌, List, [], ◌∷◌, ◌++◌, Option, Some, None, is_some, ◌⊎◌, inl, inr, arith}
use Rattle.std.specs.List.{list_any}
use Rattle.ipc_history.specs.Entries.{closes, names, receiver_in, sender_in}
use Rattle.ipc_history.specs.Phases.{is_over, receiver_of, sender_of}
use Rattle.ipc_history.specs.Legal.{Legal, Follows}
use Rattle.ipc_history.specs.declared.entry.Entry.{Entry}
use Rattle.ipc_history.specs.declared.entry.Entry.TheVariants.{Given, Written}
use Rattle.ipc_history.specs.declared.entry.Input.TheVariants.{At, Opened, Called, Exreg, Broke, Moved}
use Rattle.ipc_history.specs.declared.entry.Output.TheVariants.{Began, Turned, Ended, Overflowed, Aborted, Failed}
use Rattle.ipc_laws.proofs.Changing.{any_push}
use Rattle.ipc_laws.proofs.Growth.{open_is_not_closed}
use Rattle.ipc_laws.proofs.Histories.{began_place, legal_induction}
use Rattle.ipc_laws.proofs.OutputLemmas.{next_output_means}
use Rattle.ipc_laws.proofs.PhaseParts.{Meets, Passes, meets_parts, passes_parts}
use Rattle.ipc_laws.proofs.Places.{any_at, any_place, first_none}
use Rattle.ipc_laws.proofs.Tests.{left, not_both, right}
use Rattle.ipc_compact.specs.Partners.{joins, met_receiver, met_sender, receiver_met, sender_met}
use Rattle.ipc_compact.proofs.PartnerLemmas.{if_some, last_somewhere, receiver_push, sender_push}

-- an entry that names two calls is of the transfer between them
one_named : {X : Type 0} (k n m : ℕ) → (k == n) ≡ true → (k == m) ≡ true → n ≢ m → X
one_named k n m h g apart = absurd (apart (sym (eqb-true k n h) ∙ eqb-true k m g))

pair_named : (k j n m : ℕ) → ((k == n) || (j == n)) ≡ true → ((k == m) || (j == m)) ≡ true → n ≢ m → (((k == n) && (j == m)) ≡ true) ⊎ (((k == m) && (j == n)) ≡ true)
pair_named k j n m h g apart = go (k == n) refl (k == m) refl h g
  where
    go : (a : Bool) → (k == n) ≡ a → (b : Bool) → (k == m) ≡ b → (a || (j == n)) ≡ true → (b || (j == m)) ≡ true → ((a && (j == m)) ≡ true) ⊎ ((b && (j == n)) ≡ true)
    go true p true q h g = one_named k n m p q apart
    go true p false q h g = inl g
    go false p true q h g = inr h
    go false p false q h g = one_named j n m h g apart

pub two_named : (n m : ℕ) (e : Entry) → names n e ≡ true → names m e ≡ true → n ≢ m → (joins n m e ≡ true) ⊎ (joins m n e ≡ true)
two_named n m (Written (Began k j)) h g apart = pair_named k j n m h g apart
two_named n m (Written (Ended k j)) h g apart = pair_named k j n m h g apart
two_named n m (Written (Overflowed k j offset)) h g apart = pair_named k j n m h g apart
two_named n m (Written (Aborted k j count)) h g apart = pair_named k j n m h g apart
two_named n m (Written (Turned k thread)) h g apart = one_named k n m h g apart
two_named n m (Written (Failed k code)) h g apart = one_named k n m h g apart
two_named n m (Given (Called k thread call)) h g apart = one_named k n m h g apart
two_named n m (Given (Moved k count)) h g apart = one_named k n m h g apart
two_named n m (Given (At moment)) h g apart = absurd (false≢true h)
two_named n m (Given (Opened thread space)) h g apart = absurd (false≢true h)
two_named n m (Given (Exreg thread target control)) h g apart = absurd (false≢true h)
two_named n m (Given (Broke thread)) h g apart = absurd (false≢true h)

-- a call that met another one is paired with it or over
abbrev was_received : ℕ → ℕ → Entry → Bool
was_received n m e = is_some (receiver_in n e) || closes n e

abbrev was_sent_to : ℕ → ℕ → Entry → Bool
was_sent_to m n e = is_some (sender_in m e) || closes m e

some_if : (b : Bool) (x y : ℕ) → b ≡ true → is_some (if b then Some x else None) ≡ true
some_if b x y h = rw h refl

or_first : (a b : Bool) → a ≡ true → (a || b) ≡ true
or_first a b h = grind arith

or_second : (a b : Bool) → b ≡ true → (a || b) ≡ true
or_second a b h = grind arith

received_so : (n m : ℕ) (e : Entry) → met_receiver n e ≡ Some m → was_received n m e ≡ true
received_so n m (Written (Began k j)) h = let i = if_some (k == n) j m h in or_first _ _ (some_if (k == n) j j i.0)
received_so n m (Written (Overflowed k j offset)) h = let i = if_some (k == n) j m h in rw i.0 refl
received_so n m (Written (Ended k j)) h = absurd (none-some m h)
received_so n m (Written (Aborted k j count)) h = absurd (none-some m h)
received_so n m (Written (Turned k thread)) h = absurd (none-some m h)
received_so n m (Written (Failed k code)) h = absurd (none-some m h)
received_so n m (Given input) h = absurd (none-some m h)

sent_so : (m n : ℕ) (e : Entry) → met_sender m e ≡ Some n → was_sent_to m n e ≡ true
sent_so m n (Written (Began k j)) h = let i = if_some (j == m) k n h in or_first _ _ (some_if (j == m) k k i.0)
sent_so m n (Written (Overflowed k j offset)) h = let i = if_some (j == m) k n h in or_second (is_some (sender_in m (Written (Overflowed k j offset)))) ((k == m) || (j == m)) (or_second (k == m) (j == m) i.0)
sent_so m n (Written (Ended k j)) h = absurd (none-some n h)
sent_so m n (Written (Aborted k j count)) h = absurd (none-some n h)
sent_so m n (Written (Turned k thread)) h = absurd (none-some n h)
sent_so m n (Written (Failed k code)) h = absurd (none-some n h)
sent_so m n (Given input) h = absurd (none-some n h)

some_none : {X : Type 0} (o : Option X) → is_some o ≡ true → o ≡ None → ⊥
some_none o h g = false≢true (sym (ap is_some g) ∙ h)

either : (a b : Bool) → (a || b) ≡ true → (a ≡ true) ⊎ (b ≡ true)
either true b h = inl refl
either false b h = inr h

unmet_sender : {X : Type 0} (P : List Entry) (n m : ℕ) → receiver_met P n ≡ Some m → is_over P n ≡ false → receiver_of P n ≡ None → X
unfolding receiver_met receiver_of
unmet_sender P n m met opened unpaired =
    let p = any_place (was_received n m) P (last_somewhere (met_receiver n) (was_received n) (λ k e. received_so n k e) P m met) in
    elim (either _ _ p.2) [
      | inl pairs ↦ absurd (some_none (receiver_in n p.0) pairs (first_none (receiver_in n) P p.0 p.1 unpaired))
      | inr closed ↦ not_both (any_at (closes n) P p.0 p.1 closed) (open_is_not_closed P n opened)
    ]

unmet_receiver : {X : Type 0} (P : List Entry) (m n : ℕ) → sender_met P m ≡ Some n → is_over P m ≡ false → sender_of P m ≡ None → X
unfolding sender_met sender_of
unmet_receiver P m n met opened unpaired =
    let p = any_place (was_sent_to m n) P (last_somewhere (met_sender m) (was_sent_to m) (λ k e. sent_so m k e) P n met) in
    elim (either _ _ p.2) [
      | inl pairs ↦ absurd (some_none (sender_in m p.0) pairs (first_none (sender_in m) P p.0 p.1 unpaired))
      | inr closed ↦ not_both (any_at (closes m) P p.0 p.1 closed) (open_is_not_closed P m opened)
    ]

-- so of each call the other one is the one that it met last
abbrev MetOnce : List Entry → Type 0
MetOnce H = (n m : ℕ) → list_any (joins n m) H ≡ true → (receiver_met H n ≡ Some m) × (sender_met H m ≡ Some n)

module _ (P : List Entry) (e : Entry) (once : MetOnce P) where
  abbrev Q : List Entry
  Q = P ++ e ∷ []

  -- an entry at which nothing meets, and which is of a transfer that began
  quiet : ((x : ℕ) → (met_receiver x e ≡ None) × (met_sender x e ≡ None)) → ((n m : ℕ) → joins n m e ≡ true → list_any (joins n m) P ≡ true) → MetOnce Q
  quiet none began n m h =
      let was : list_any (joins n m) P ≡ true = elim (either _ _ (sym (any_push (joins n m) P e) ∙ h)) [ inl p ↦ p | inr p ↦ began n m p ] in
      let met = once n m was in
      (receiver_push P e n ∙ (rw (none n).0 met.0), sender_push P e m ∙ (rw (none m).1 met.1))

  -- an entry at which two calls meet
  module _ (k j : ℕ) (meets : Meets P k j)
      (receiver : (x : ℕ) → met_receiver x e ≡ (if k == x then Some j else None))
      (sender : (x : ℕ) → met_sender x e ≡ (if j == x then Some k else None))
      (joined : (n m : ℕ) → joins n m e ≡ ((k == n) && (j == m))) where
    old_pair : (n m : ℕ) → list_any (joins n m) P ≡ true → (receiver_met Q n ≡ Some m) × (sender_met Q m ≡ Some n)
    old_pair n m h =
        let met = once n m h in
        let not_k : k ≢ n = λ same. unmet_sender P k m (subst (λ x. receiver_met P x ≡ Some m) (sym same) met.0) meets.sends.opened meets.sends.unpaired in
        let not_j : j ≢ m = λ same. unmet_receiver P j n (subst (λ x. sender_met P x ≡ Some n) (sym same) met.1) meets.receives.opened meets.receives.unpaired in
        (receiver_push P e n ∙ rw (receiver n, ne_eqb k n not_k) met.0, sender_push P e m ∙ rw (sender m, ne_eqb j m not_j) met.1)

    new_pair : (n m : ℕ) → ((k == n) && (j == m)) ≡ true → (receiver_met Q n ≡ Some m) × (sender_met Q m ≡ Some n)
    new_pair n m h =
        let one : (k == n) ≡ true = left (k == n) (j == m) h in
        let two : (j == m) ≡ true = right (k == n) (j == m) h in
        (receiver_push P e n ∙ rw (receiver n, one) (ap Some (eqb-true j m two)), sender_push P e m ∙ rw (sender m, two) (ap Some (eqb-true k n one)))

    meeting : MetOnce Q
    meeting n m h = elim (either _ _ (sym (any_push (joins n m) P e) ∙ h)) [
      | inl p ↦ old_pair n m p
      | inr p ↦ new_pair n m (sym (joined n m) ∙ p)
    ]

passing : (P : List Entry) (k j : ℕ) → Passes P k j → (n m : ℕ) → ((k == n) && (j == m)) ≡ true → list_any (joins n m) P ≡ true
passing P k j passes n m h = any_at (joins n m) P (Written (Began k j)) (began_place P k j passes.pair) h

met_step : (P : List Entry) (e : Entry) → Legal P → MetOnce P → Follows P e → MetOnce (P ++ e ∷ [])
unfolding Follows
met_step P (Written (Began k j)) legal once follows = meeting P (Written (Began k j)) once k j (meets_parts P k j (next_output_means P (Began k j) follows).0) (λ x. refl) (λ x. refl) (λ n m. refl)
met_step P (Written (Overflowed k j offset)) legal once follows = meeting P (Written (Overflowed k j offset)) once k j (meets_parts P k j (next_output_means P (Overflowed k j offset) follows).0) (λ x. refl) (λ x. refl) (λ n m. refl)
met_step P (Written (Ended k j)) legal once follows = quiet P (Written (Ended k j)) once (λ x. (refl, refl)) (passing P k j (passes_parts P k j (next_output_means P (Ended k j) follows).0))
met_step P (Written (Aborted k j count)) legal once follows = quiet P (Written (Aborted k j count)) once (λ x. (refl, refl)) (passing P k j (passes_parts P k j (next_output_means P (Aborted k j count) follows).0))
met_step P (Written (Turned k thread)) legal once follows = quiet P (Written (Turned k thread)) once (λ x. (refl, refl)) (λ n m h. absurd (false≢true h))
met_step P (Written (Failed k code)) legal once follows = quiet P (Written (Failed k code)) once (λ x. (refl, refl)) (λ n m h. absurd (false≢true h))
met_step P (Given input) legal once follows = quiet P (Given input) once (λ x. (refl, refl)) (λ n m h. absurd (false≢true h))

pub met_once : (H : List Entry) → Legal H → MetOnce H
met_once H legal = legal_induction MetOnce (λ n m h. absurd (false≢true h)) met_step H legal
