-- From one caller to one caller, sends end in their order.
use Rattle.std.proofs.lemmas.Bool.{cases_order, false_from_ne_true, true_from_ne_false, or_left, or_from}
use Rattle.std.proofs.Common.{◌≡◌, refl, sym, ◌∙◌, ℕ, ◌<◌, true, false, eq-eqb, List, ◌∷◌, ◌++◌, Option, Some, inl, inr, arith}
use Rattle.std.specs.List.{list_any}
use Rattle.ipc_history.specs.Entries.{ends, ends_send, closes}
use Rattle.ipc_history.specs.Calls.{is_called, caller_of}
use Rattle.ipc_history.specs.Phases.{is_sent, receiver_of, is_over}
use Rattle.ipc_history.specs.Legal.{Legal}
use Rattle.ipc_history.specs.declared.entry.Entry.{Entry}
use Rattle.ipc_history.specs.declared.entry.Entry.TheVariants.{Written}
use Rattle.ipc_history.specs.declared.entry.Output.TheVariants.{Ended}
use Rattle.ipc_laws.proofs.Growth.{caller_of_kept, is_called_kept, is_sent_append, open_is_called, over_kept, receiver_of_kept}
use Rattle.ipc_laws.proofs.Histories.{ended_place, legal_front, sent_place}
use Rattle.ipc_laws.proofs.Numbering.{called_below, called_later}
use Rattle.ipc_laws.proofs.OneOpen.{earlier_is_over}
use Rattle.ipc_laws.proofs.Pairing.{ended_pair, passes_at, sent_pair}
use Rattle.ipc_laws.proofs.Places.{Place, any_at, place_behind}
use Rattle.ipc_laws.proofs.Tests.{not_both}

-- after a call is over no Ended names it
over_ends_no_more : (G Q : List Entry) → Legal (G ++ Q) → (n : ℕ) → is_called G n ≡ true → is_over G n ≡ true → is_sent Q n ≡ false
over_ends_no_more G Q h n c o = false_from_ne_true (is_sent Q n) (λ e.
    let s = sent_place Q n e in
    let at = place_behind G Q _ s.1 in
    let p = passes_at (G ++ Q) h n s.0 at in
    not_both (over_kept G s.1.front n c o) p.opened)

-- an entry that ends n and m: they are calls, n is sent and m is over
pub ended_calls : (H : List Entry) → Legal H → (n m : ℕ) → list_any (ends n m) H ≡ true → (is_called H n ≡ true) × (is_called H m ≡ true)
ended_calls H h n m e =
    let at = ended_place H n m e in
    let p = passes_at H h n m at in
    (rw at.whole (is_called_kept at.front _ n (open_is_called at.front n p.opened)), rw at.whole (is_called_kept at.front _ m (open_is_called at.front m p.opened_too)))

pub ended_sent : (H : List Entry) (n m : ℕ) → list_any (ends n m) H ≡ true → is_sent H n ≡ true
unfolding is_sent
ended_sent H n m e = any_at (ends_send n) H _ (ended_place H n m e) (eq-eqb n n refl)

pub closed_over : (H : List Entry) (m : ℕ) → list_any (closes m) H ≡ true → is_over H m ≡ true
unfolding is_over
closed_over H m e = or_left _ _ (or_left _ _ e)

pub ended_over : (H : List Entry) (n m : ℕ) → list_any (ends n m) H ≡ true → is_over H m ≡ true
ended_over H n m e = closed_over H m (any_at (closes m) H _ (ended_place H n m e) (eq-eqb m m refl))

sent_first : (G Q : List Entry) (n : ℕ) → is_sent (G ++ Q) n ≡ true → is_sent Q n ≡ false → is_sent G n ≡ true
sent_first G Q n e f = true_from_ne_false (is_sent G n) (λ g. not_both e (is_sent_append G Q n ∙ or_from _ _ g f))

same_receiver : (o : Option ℕ) (a b : ℕ) → o ≡ Some a → o ≡ Some b → a ≡ b
same_receiver o a b p q = cc

-- where (n, m) and (k, j) end, from one caller to one caller, and n comes first
module _ (H : List Entry) (h : Legal H) (n m k j : ℕ) (less : n < k) (first : list_any (ends n m) H ≡ true) (at : Place H (Written (Ended k j))) (callers : caller_of H n ≡ caller_of H k) (receivers : caller_of H m ≡ caller_of H j) where
  pub in_order : (m < j) × (list_any (ends n m) at.front ≡ true)
  in_order =
      let G = at.front in
      let Q = Written (Ended k j) ∷ at.rest in
      let whole : H ≡ G ++ Q = at.whole in
      let all : Legal (G ++ Q) = rw whole at h in
      let legal : Legal G = legal_front G Q all in
      let p = passes_at H h k j at in
      let ck = open_is_called G k p.opened in
      let cj = open_is_called G j p.opened_too in
      let cn : is_called G n ≡ true = true_from_ne_false (is_called G n) (λ absent. let later = called_later G Q all n absent (rw whole at (ended_calls H h n m first).0) in omega (arith, called_below G legal k ck)) in
      let by_n : caller_of G n ≡ caller_of (G ++ Q) n = sym (caller_of_kept G Q n cn) in
      let from_k : caller_of G n ≡ caller_of G k = by_n ∙ (rw whole at callers ∙ caller_of_kept G Q k ck) in
      let over_n = earlier_is_over G legal n k cn ck from_k less in
      let sent = sent_first G Q n (rw whole at (ended_sent H n m first)) (over_ends_no_more G Q all n cn over_n) in
      let s = sent_pair G legal n sent in
      let pair : receiver_of (G ++ Q) n ≡ Some m = rw whole at (ended_pair H h n m first) in
      let its : receiver_of (G ++ Q) n ≡ Some s.0 = receiver_of_kept G Q n s.0 s.1 in
      let same : s.0 ≡ m = same_receiver (receiver_of (G ++ Q) n) s.0 m its pair in
      let ended : list_any (ends n m) G ≡ true = rw same at s.2 in
      let cm = (ended_calls G legal n m ended).1 in
      let swapped : caller_of (G ++ Q) j ≡ caller_of (G ++ Q) m = rw whole at (sym receivers) in
      let to_j : caller_of G j ≡ caller_of G m = sym (caller_of_kept G Q j cj) ∙ (swapped ∙ caller_of_kept G Q m cm) in
      let lower : m < j = elim (cases_order m j) [
        | inl e ↦ not_both (ended_over G n m ended) (rw (sym e) at p.opened_too)
        | inr (inl l) ↦ l
        | inr (inr l) ↦ not_both (earlier_is_over G legal j m cj cm to_j l) p.opened_too
      ] in
      (lower, ended)
