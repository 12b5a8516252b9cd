-- Transfers: what ended had begun, and each send and each receive begins and ends at most once.
use Rattle.std.proofs.lemmas.Bool.{false≢true, false_from_ne_true}
use Rattle.std.proofs.lemmas.Option.{none-some, same_Some}
use Rattle.std.proofs.Common.{◌≡◌, refl, sym, ◌∙◌, ℕ, ◌≤◌, true, false, eqb-true, eq-eqb, List, ◌∷◌, Some, None, count_by}
use Rattle.std.specs.List.{list_any}
use Rattle.ipc_history.specs.Words.{first_some}
use Rattle.ipc_history.specs.Entries.{ends, ends_send, ends_receive, begins_send, begins_receive, closes, receiver_in, sender_in}
use Rattle.ipc_history.specs.Calls.{is_called}
use Rattle.ipc_history.specs.Phases.{is_sent, receiver_of, sender_of}
use Rattle.ipc_history.specs.Legal.{Legal}
use Rattle.ipc_history.specs.declared.entry.Entry.{Entry}
use Rattle.ipc_history.specs.declared.entry.Entry.TheVariants.{Written}
use Rattle.ipc_history.specs.declared.entry.Output.TheVariants.{Began, Ended}
use Rattle.ipc_laws.proofs.Growth.{is_called_kept, open_is_called, open_is_not_closed, receiver_of_kept}
use Rattle.ipc_laws.proofs.Histories.{began_place, began_place_of_sender, ended_place, legal_front, means_at, sent_place}
use Rattle.ipc_laws.proofs.Once.{Once, count_once}
use Rattle.ipc_laws.proofs.PhaseParts.{Meets, Passes, meets_parts, passes_parts}
use Rattle.ipc_laws.proofs.Places.{Place, any_at, any_place, first_at, first_none}
use Rattle.ipc_laws.proofs.Tests.{not_both}

pub legal_before : (H : List Entry) → Legal H → (e : Entry) (at : Place H e) → Legal at.front
legal_before H h e at = legal_front at.front (e ∷ at.rest) (rw at.whole at h)

pub passes_at : (H : List Entry) → Legal H → (n m : ℕ) (at : Place H (Written (Ended n m))) → Passes at.front n m
passes_at H h n m at = passes_parts at.front n m (means_at H h (Ended n m) at).0

pub meets_at : (H : List Entry) → Legal H → (n m : ℕ) (at : Place H (Written (Began n m))) → Meets at.front n m
meets_at H h n m at = meets_parts at.front n m (means_at H h (Began n m) at).0

-- the two calls of a transfer were made
pub pair_called : (P : List Entry) → Legal P → (n m : ℕ) → receiver_of P n ≡ Some m → (is_called P n ≡ true) × (is_called P m ≡ true)
pair_called P h n m pair =
    let at = began_place P n m pair in
    let p = meets_at P h n m at in
    (rw at.whole (is_called_kept at.front _ n (open_is_called at.front n p.sends.opened)), rw at.whole (is_called_kept at.front _ m (open_is_called at.front m p.receives.opened)))

-- what ended had begun
pub ended_pair : (H : List Entry) → Legal H → (n m : ℕ) → list_any (ends n m) H ≡ true → receiver_of H n ≡ Some m
ended_pair H h n m e = let at = ended_place H n m e in rw at.whole (receiver_of_kept at.front _ n m (passes_at H h n m at).pair)

-- the receiver's sender is the sender whose receiver it is
pub sender_of_receiver : (H : List Entry) → Legal H → (n m : ℕ) → receiver_of H n ≡ Some m → sender_of H m ≡ Some n
unfolding sender_of
sender_of_receiver H h n m e = let at = began_place H n m e in first_at (sender_in m) H _ n at (meets_at H h n m at).receives.unpaired (rw (eq-eqb m m refl) refl)

pub began_pair : (H : List Entry) (n m : ℕ) (at : Place H (Written (Began n m))) → receiver_of at.front n ≡ None → receiver_of H n ≡ Some m
unfolding receiver_of
began_pair H n m at none = first_at (receiver_in n) H _ m at none (rw (eq-eqb n n refl) refl)

pub receiver_of_sender : (H : List Entry) → Legal H → (n m : ℕ) → sender_of H m ≡ Some n → receiver_of H n ≡ Some m
receiver_of_sender H h n m e = let at = began_place_of_sender H n m e in began_pair H n m at (meets_at H h n m at).sends.unpaired

-- while a transfer runs its send hasn't ended, and neither has a send that has no receiver
ends_itself : (n m : ℕ) → ends n m (Written (Ended n m)) ≡ true
ends_itself n m = rw (eq-eqb n n refl, eq-eqb m m refl) refl

pub ended_at : (H : List Entry) (n m : ℕ) → Place H (Written (Ended n m)) → list_any (ends n m) H ≡ true
ended_at H n m at = any_at (ends n m) H _ at (ends_itself n m)

pub sent_pair : (H : List Entry) → Legal H → (n : ℕ) → is_sent H n ≡ true → (m : ℕ) × (receiver_of H n ≡ Some m) × (list_any (ends n m) H ≡ true)
sent_pair H h n e =
    let at = sent_place H n e in
    let ended = ended_at H n at.0 at.1 in
    (at.0, ended_pair H h n at.0 ended, ended)

pub unsent_running : (H : List Entry) → Legal H → (n m : ℕ) → receiver_of H n ≡ Some m → list_any (ends n m) H ≡ false → is_sent H n ≡ false
unsent_running H h n m pair running = false_from_ne_true (is_sent H n) (λ e.
    let s = sent_pair H h n e in
    let same : s.0 ≡ m = same_Some s.0 m (sym s.1 ∙ pair) in
    not_both (rw same at s.2) running)

pub unsent_unpaired : (H : List Entry) → Legal H → (n : ℕ) → receiver_of H n ≡ None → is_sent H n ≡ false
unsent_unpaired H h n none = false_from_ne_true (is_sent H n) (λ e. let s = sent_pair H h n e in absurd (none-some s.0 (sym none ∙ s.1)))

pub ended_is_sent : (P : List Entry) (n m : ℕ) → list_any (ends n m) P ≡ true → is_sent P n ≡ true
unfolding is_sent
ended_is_sent P n m h = let at = ended_place P n m h in any_at (ends_send n) P _ at (eq-eqb n n refl)

pub unended : (P : List Entry) (n m : ℕ) → is_sent P n ≡ false → list_any (ends n m) P ≡ false
unended P n m unsent = false_from_ne_true _ (λ ended. not_both (ended_is_sent P n m ended) unsent)

-- Each at most once

ends_send_once : (H : List Entry) → Legal H → (n : ℕ) → Once (ends_send n) H
unfolding is_sent
ends_send_once H h n (Written (Ended k m)) at g =
    let same : k ≡ n = eqb-true k n g in
    let p = passes_at H h k m at in
    rw same at (unsent_running at.front (legal_before H h _ at) k m p.pair p.running)
ends_send_once H h n _ at g = absurd (false≢true g)

-- an entry that ends the receive of m closes m
receive_closed : (m : ℕ) (xs : List Entry) → list_any (closes m) xs ≡ false → list_any (ends_receive m) xs ≡ false
receive_closed m xs h = false_from_ne_true (list_any (ends_receive m) xs) (λ e. let t = any_place (ends_receive m) xs e in not_both (any_at (closes m) xs t.0 t.1 (closing t.0 t.2)) h)
  where
    closing : (e : Entry) → ends_receive m e ≡ true → closes m e ≡ true
    closing (Written (Ended n k)) g = g
    closing _ g = absurd (false≢true g)

ends_receive_once : (H : List Entry) → Legal H → (m : ℕ) → Once (ends_receive m) H
ends_receive_once H h m (Written (Ended n k)) at g =
    let same : k ≡ m = eqb-true k m g in
    let p = passes_at H h n k at in
    receive_closed m at.front (rw same at (open_is_not_closed at.front k p.opened_too))
ends_receive_once H h m _ at g = absurd (false≢true g)

pub sends_once : (H : List Entry) → Legal H → (n : ℕ) → count_by (ends_send n) H ≤ 1
sends_once H h n = count_once (ends_send n) H (ends_send_once H h n)

pub receives_once : (H : List Entry) → Legal H → (m : ℕ) → count_by (ends_receive m) H ≤ 1
receives_once H h m = count_once (ends_receive m) H (ends_receive_once H h m)

begins_send_once : (H : List Entry) → Legal H → (n : ℕ) → Once (begins_send n) H
unfolding receiver_of
begins_send_once H h n (Written (Began k m)) at g =
    let same : k ≡ n = eqb-true k n g in
    let none : first_some (receiver_in n) at.front ≡ None = rw same at (meets_at H h k m at).sends.unpaired in
    false_from_ne_true _ (λ b. let t = any_place (begins_send n) at.front b in gave t.0 t.2 (first_none (receiver_in n) at.front t.0 t.1 none))
  where
    gave : (e : Entry) → begins_send n e ≡ true → receiver_in n e ≡ None → ⊥
    gave (Written (Began a b)) p q = none-some b (sym q ∙ rw p refl)
    gave _ p q = false≢true p
begins_send_once H h n _ at g = absurd (false≢true g)

begins_receive_once : (H : List Entry) → Legal H → (m : ℕ) → Once (begins_receive m) H
unfolding sender_of
begins_receive_once H h m (Written (Began n k)) at g =
    let same : k ≡ m = eqb-true k m g in
    let none : first_some (sender_in m) at.front ≡ None = rw same at (meets_at H h n k at).receives.unpaired in
    false_from_ne_true _ (λ b. let t = any_place (begins_receive m) at.front b in gave t.0 t.2 (first_none (sender_in m) at.front t.0 t.1 none))
  where
    gave : (e : Entry) → begins_receive m e ≡ true → sender_in m e ≡ None → ⊥
    gave (Written (Began a b)) p q = none-some a (sym q ∙ rw p refl)
    gave _ p q = false≢true p
begins_receive_once H h m _ at g = absurd (false≢true g)

pub begins_once : (H : List Entry) → Legal H → (n : ℕ) → (count_by (begins_send n) H ≤ 1) × (count_by (begins_receive n) H ≤ 1)
begins_once H h n = (count_once (begins_send n) H (begins_send_once H h n), count_once (begins_receive n) H (begins_receive_once H h n))
