-- Legal histories: their fronts, induction over them, and what the entry at a place says.
use Rattle.std.proofs.lemmas.Bool.{false≢true, or_cases}
use Rattle.std.proofs.lemmas.Option.{none-some, cond_some}
use Rattle.std.proofs.Common.{◌≡◌, refl, sym, ap, ◌∙◌, ℕ, true, false, ◌||◌, ◌==◌, eqb-true, List, [], ◌∷◌, ◌++◌, append_assoc, append-nil, Option, Some, None, is_some, inl, inr, IsTrue}
use Rattle.std.specs.List.{list_any}
use Rattle.std.specs.Option.{option_map_or}
use Rattle.ipc_history.specs.CallParts.{CallParts}
use Rattle.ipc_history.specs.Entries.{ends, ends_send, calls, call_in, receiver_in, sender_in, names}
use Rattle.ipc_history.specs.Calls.{call_at, is_called, numbers}
use Rattle.ipc_history.specs.Phases.{is_sent, receiver_of, sender_of, is_over, is_transferring}
use Rattle.ipc_history.specs.Legal.{Follows, Legal, is_admissible, may_move, next_moving}
use Rattle.ipc_laws.specs.Meaning.{Means}
use Rattle.ipc_history.specs.declared.entry.Entry.{Entry}
use Rattle.ipc_history.specs.declared.entry.Entry.TheVariants.{Given, Written}
use Rattle.ipc_history.specs.declared.entry.Input.{Input}
use Rattle.ipc_history.specs.declared.entry.Input.TheVariants.{Called, Moved}
use Rattle.ipc_history.specs.declared.entry.Output.{Output}
use Rattle.ipc_history.specs.declared.entry.Output.TheVariants.{Began, Turned, Ended, Overflowed, Aborted, Failed}
use Rattle.ipc_laws.proofs.Gives.{Gives-at, Gives-find}
use Rattle.ipc_laws.proofs.OutputLemmas.{next_output_means}
use Rattle.ipc_laws.proofs.PhaseParts.{Passes, failing, failing_open, meets_parts, passes_parts, receives_parts}
use Rattle.ipc_laws.proofs.Places.{Place, any_place, first_place}
use Rattle.ipc_laws.proofs.Tests.{held, left, not_both, right}

pub follows_at : (H : List Entry) → Legal H → (e : Entry) (at : Place H e) → Follows at.front e
unfolding Legal
follows_at H h e at = h at.front e at.rest at.whole

pub legal_front : (P Q : List Entry) → Legal (P ++ Q) → Legal P
unfolding Legal
legal_front P Q h F e rest whole = h F e (rest ++ Q) (ap (λ l. l ++ Q) whole ∙ append_assoc F (e ∷ rest) Q)

pub follows_last : (P : List Entry) (e : Entry) → Legal (P ++ e ∷ []) → Follows P e
unfolding Legal
follows_last P e h = h P e [] refl

-- what each entry keeps holds of a whole history
pub legal_induction : (I : List Entry → Type 0) → I [] → ((P : List Entry) (e : Entry) → Legal P → I P → Follows P e → I (P ++ e ∷ [])) → (H : List Entry) → Legal H → I H
legal_induction I start step H h = go [] H h start
  where
    go : (P Q : List Entry) → Legal (P ++ Q) → I P → I (P ++ Q)
    go P [] l i = rw append-nil i
    go P (e ∷ Q) l i =
        let l' = rw (← append_assoc P (e ∷ []) Q) at l in
        let f = legal_front (P ++ e ∷ []) Q l' in
        rw (← append_assoc P (e ∷ []) Q) (go (P ++ e ∷ []) Q l' (step P e (legal_front P (e ∷ []) f) i (follows_last P e f)))

-- what an output at a place means there
pub means_at : (H : List Entry) → Legal H → (output : Output) (at : Place H (Written output)) → Means at.front output
unfolding Follows
means_at H h output at = next_output_means at.front output (follows_at H h (Written output) at)

pub admitted_at : (H : List Entry) → Legal H → (input : Input) (at : Place H (Given input)) → IsTrue (is_admissible at.front input)
unfolding Follows
admitted_at H h input at = (follows_at H h (Given input) at).1

-- an Ended, a Began and a Called that stand in a history, at their places
pub ended_place : (H : List Entry) (n m : ℕ) → list_any (ends n m) H ≡ true → Place H (Written (Ended n m))
ended_place H n m h = let t = any_place (ends n m) H h in go t.0 t.1 t.2
  where
    go : (e : Entry) → Place H e → ends n m e ≡ true → Place H (Written (Ended n m))
    go (Written (Ended k j)) at g =
        let p : k ≡ n = eqb-true k n (left _ _ g) in
        let q : j ≡ m = eqb-true j m (right _ _ g) in
        rw (p, q) at at
    go _ at g = absurd (false≢true g)

pub sent_place : (H : List Entry) (n : ℕ) → is_sent H n ≡ true → (m : ℕ) × Place H (Written (Ended n m))
unfolding is_sent
sent_place H n h = let t = any_place (ends_send n) H h in go t.0 t.1 t.2
  where
    go : (e : Entry) → Place H e → ends_send n e ≡ true → (m : ℕ) × Place H (Written (Ended n m))
    go (Written (Ended k j)) at g = let p : k ≡ n = eqb-true k n g in (j, rw p at at)
    go _ at g = absurd (false≢true g)

pub began_place : (H : List Entry) (n m : ℕ) → receiver_of H n ≡ Some m → Place H (Written (Began n m))
unfolding receiver_of
began_place H n m h = let t = first_place (receiver_in n) H m h in go t.0 t.1 t.2
  where
    go : (e : Entry) → Place H e → receiver_in n e ≡ Some m → Place H (Written (Began n m))
    go (Written (Began k j)) at g =
        let e = cond_some (k == n) j m g in
        let p : k ≡ n = eqb-true k n e.0 in
        let q : j ≡ m = e.1 in
        rw (p, q) at at
    go _ at g = absurd (none-some m g)

pub began_place_of_sender : (H : List Entry) (n m : ℕ) → sender_of H m ≡ Some n → Place H (Written (Began n m))
unfolding sender_of
began_place_of_sender H n m h = let t = first_place (sender_in m) H n h in go t.0 t.1 t.2
  where
    go : (e : Entry) → Place H e → sender_in m e ≡ Some n → Place H (Written (Began n m))
    go (Written (Began k j)) at g =
        let e = cond_some (j == m) k n g in
        let p : j ≡ m = eqb-true j m e.0 in
        let q : k ≡ n = e.1 in
        rw (p, q) at at
    go _ at g = absurd (none-some n g)

-- a call that was made, at its place
pub record MadeAt (H : List Entry) (n : ℕ) : Type 0 where
  pub thread : ℕ
  pub call : CallParts
  pub at : Place H (Given (Called n thread call))
  pub is : call_at H n ≡ Some (thread, call)

pub called_place : (H : List Entry) (n : ℕ) → is_called H n ≡ true → MadeAt H n
unfolding is_called call_at
called_place H n h = which (call_at H n) refl
  where
    go : (c : ℕ × CallParts) → call_at H n ≡ Some c → (e : Entry) → Place H e → call_in n e ≡ Some c → MadeAt H n
    go c s (Given (Called k thread call)) at g =
        let e = cond_some (k == n) (thread, call) c g in
        let p : k ≡ n = eqb-true k n e.0 in
        record { thread = thread; call = call; at = rw p at at; is = s ∙ ap (λ c. Some c) (sym e.1) }
    go c s _ at g = absurd (none-some c g)

    which : (o : Option (ℕ × CallParts)) → call_at H n ≡ o → MadeAt H n
    which None e = absurd (false≢true (ap is_some (sym e) ∙ h))
    which (Some c) e = let t = first_place (call_in n) H c e in go c e t.0 t.1 t.2

-- every entry but a Called names only calls that aren't over
pub named_by : (P : List Entry) (n k m : ℕ) → is_over P k ≡ false → is_over P m ≡ false → ((k == n) || (m == n)) ≡ true → is_over P n ≡ false
named_by P n k m p q h = elim (or_cases (k == n) (m == n) h) [ inl a ↦ (let e : k ≡ n = eqb-true k n a in rw e at p) | inr b ↦ (let e : m ≡ n = eqb-true m n b in rw e at q) ]

pub named_alone : (P : List Entry) (n k : ℕ) → is_over P k ≡ false → (k == n) ≡ true → is_over P n ≡ false
named_alone P n k p h = let e : k ≡ n = eqb-true k n h in rw e at p

pub written_names : (P : List Entry) (n : ℕ) (output : Output) → Means P output → names n (Written output) ≡ true → is_over P n ≡ false
written_names P n (Began k m) w h = let p = meets_parts P k m w.0 in named_by P n k m p.sends.opened p.receives.opened h
written_names P n (Overflowed k m offset) w h = let p = meets_parts P k m w.0 in named_by P n k m p.sends.opened p.receives.opened h
written_names P n (Turned r thread) w h = named_alone P n r (receives_parts P r r w.0).opened h
written_names P n (Ended k m) w h = let p = passes_parts P k m w.0 in named_by P n k m p.opened p.opened_too h
written_names P n (Aborted k m count) w h = let p = passes_parts P k m w.0 in named_by P n k m p.opened p.opened_too h
written_names P n (Failed k code) w h = named_alone P n k (failing_open P k (failing P k code w)) h

-- the call whose bytes are copied is transferring
transferring_with : (P : List Entry) (n : ℕ) (o : Option ℕ) → receiver_of P n ≡ o → option_map_or (is_transferring P n) o false ≡ true → (m : ℕ) × Passes P n m
transferring_with P n None e h = absurd (false≢true h)
transferring_with P n (Some m) e h = (m, passes_parts P n m h)

pub moving_passes : (P : List Entry) (n count : ℕ) → is_admissible P (Moved n count) ≡ true → (m : ℕ) × Passes P n m
unfolding is_admissible may_move next_moving
moving_passes P n count h =
    let found = held (next_moving P) n (left _ _ h) in
    transferring_with P n (receiver_of P n) refl (Gives-at _ n (Gives-find (λ n. option_map_or (is_transferring P n) (receiver_of P n) false) (numbers P)) found)

pub named_open : (P : List Entry) (e : Entry) → Follows P e → (n : ℕ) → names n e ≡ true → calls n e ≡ false → is_over P n ≡ false
unfolding Follows
named_open P (Written output) f n h c = written_names P n output (next_output_means P output f) h
named_open P (Given (Moved k count)) f n h c = named_alone P n k (moving_passes P k count f.1).1.opened h
named_open P (Given (Called k thread call)) f n h c = not_both h c
named_open P _ f n h c = absurd (false≢true h)
