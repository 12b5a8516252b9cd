-- A call, the transfer that it begins, and its end, which are taken note of at once.
use Rattle.std.proofs.lemmas.List.{get_or-set_same, get_or-set_other, length-set}
use Rattle.std.proofs.Common.{◌≡◌, ◌≢◌, refl, sym, ap, ◌∙◌, ℕ, ◌<◌, ◌&&◌, false, Bool, if◌then◌else◌, List, [], ◌∷◌, ◌++◌, length, set, Some, None, arith}
use Rattle.ipc_words.specs.Limits.{table_slots}
use Rattle.ipc_words.specs.ThreadId.{number_of}
use Rattle.ipc_words.specs.MsgTag.{propagates}
use Rattle.ipc_history.specs.CallParts.{CallParts}
use Rattle.ipc_history.specs.Calls.{caller_of}
use Rattle.ipc_history.specs.Matching.{shown_sender}
use Rattle.ipc_history.specs.Phases.{is_over}
use Rattle.ipc_history.specs.Legal.{Legal, Follows}
use Rattle.ipc_history.specs.declared.entry.Entry.{Entry}
use Rattle.ipc_history.specs.declared.entry.Entry.TheVariants.{Given, Written}
use Rattle.ipc_history.specs.declared.entry.Input.TheVariants.{Called}
use Rattle.ipc_history.specs.declared.entry.Output.TheVariants.{Began, Ended}
use Rattle.ipc_laws.proofs.Befores.{shown_kept}
use Rattle.ipc_laws.specs.Exchange.{Reaches}
use Rattle.ipc_laws.proofs.ExchangeParts.{exchange_begins, exchange_ends, receiver_open}
use Rattle.ipc_laws.proofs.Growth.{caller_of_kept, open_is_called}
use Rattle.ipc_laws.proofs.OpenCalls.{caller_lives}
use Rattle.ipc_laws.proofs.Settling.{legal_push}
use Rattle.ipc_threads.proofs.CallSteps.{new_caller}
use Rattle.ipc_threads.specs.Standings.{may_be_shown}
use Rattle.ipc_desks.proofs.LastCalls.{live_below}
use Rattle.ipc_desks.proofs.OutputDesks.{places_apart}
use Rattle.ipc_compact.specs.Partners.{Joins, Knows, joined_at, meets_receiver, meets_sender, nothing_joined, partner_of}
use Rattle.ipc_compact.specs.declared.partners.Joined.{Joined}
use Rattle.ipc_compact.specs.declared.partners.Partner.{Partner}
use Rattle.ipc_compact.proofs.PartnerLemmas.{alive, began_apart, began_knows, enter_knows, new_shown, other_output}

and_first : (a b c : Bool) → a ≡ false → (a && b && c) ≡ false
and_first a b c h = grind arith

module _ (P : List Entry) (n t r : ℕ) (call : CallParts) (legal : Legal P) (old : List Joined) (knows : Knows P old) (follows : Follows P (Given (Called n t call))) (reaches : Reaches P t call r) where
  abbrev Q : List Entry
  Q = P ++ Given (Called n t call) ∷ []

  abbrev R : List Entry
  R = Q ++ Written (Began n r) ∷ []

  abbrev S : List Entry
  S = R ++ Written (Ended n r) ∷ []

  begins : Follows Q (Written (Began n r))
  begins = exchange_begins P n t r call legal follows reaches

  ends : Follows R (Written (Ended n r))
  ends = exchange_ends P n t r call legal follows reaches

  opened : is_over P r ≡ false
  opened = receiver_open P n t r call legal follows reaches

  legal_one : Legal Q
  legal_one = legal_push P (Given (Called n t call)) legal follows

  legal_two : Legal R
  legal_two = legal_push Q (Written (Began n r)) legal_one begins

  pub there_within : number_of call.to < table_slots
  there_within = rw reaches.to (live_below P legal (caller_of P r) (caller_lives P legal r opened))

  pub here_within : number_of t < table_slots
  here_within = live_below P legal t (alive P legal old knows n t call follows)

  caller_one : caller_of Q n ≡ t
  caller_one = new_caller P n t call legal follows

  caller_two : caller_of Q r ≡ call.to
  caller_two = caller_of_kept P (Given (Called n t call) ∷ []) r (open_is_called P r opened) ∙ sym reaches.to

  shown_itself : (if may_be_shown P t call then call.originator else t) ≡ t
  shown_itself = rw (and_first (propagates call.tag) _ _ reaches.itself) refl

  -- after the call
  abbrev fresh : Joined
  fresh = record { number = n; shown = t; receiver = None; sender = None }

  abbrev first : List Joined
  first = set old (number_of t) fresh

  knows_one : Knows Q first
  knows_one = enter_knows P legal old knows n t call follows (number_of t) t first refl (sym shown_itself) refl

  apart_one : (is_over Q n ≡ false) × (is_over Q r ≡ false) × (n ≢ r)
  apart_one = began_apart Q legal_one first knows_one n r begins

  apart : number_of t ≢ number_of call.to
  apart e = places_apart Q legal_one n r apart_one.0 apart_one.1 apart_one.2 (ap number_of caller_one ∙ (e ∙ sym (ap number_of caller_two)))

  shown_one : shown_sender Q n ≡ t
  shown_one = new_shown P legal old knows n t call follows ∙ shown_itself

  partner_one : ◌≡◌ {A = Partner} (partner_of Q n) (record { number = n; caller = t; shown = t })
  unfolding partner_of
  partner_one = rw (caller_one, shown_one) refl

  partner_two : partner_of Q r ≡ partner_of P r
  unfolding partner_of
  partner_two = let called = open_is_called P r opened in rw (caller_of_kept P (Given (Called n t call) ∷ []) r called, shown_kept P (Given (Called n t call) ∷ []) r called) refl

  in_first : number_of t < length old
  in_first = let size = knows.size in let low = here_within in omega (arith, low, size)

  in_second : number_of call.to < length old
  in_second = let size = knows.size in let low = there_within in omega (arith, low, size)

  turned : number_of call.to ≢ number_of t
  turned e = apart (sym e)

  -- what the program writes
  abbrev whole : Joined
  whole = record { number = n; shown = t; receiver = Some (partner_of P r); sender = None }

  abbrev one : List Joined
  one = set old (number_of t) whole

  abbrev two : List Joined
  two = set one (number_of call.to) (meets_sender (record { number = n; caller = t; shown = t }) (joined_at one (number_of call.to)))

  beside_one : (k : ℕ) → k ≢ number_of t → joined_at one k ≡ joined_at first k
  beside_one k p = get_or-set_other old (number_of t) k whole nothing_joined p ∙ sym (get_or-set_other old (number_of t) k fresh nothing_joined p)

  joins_them : Joins Q n r first two
  joins_them = record {
    size = length-set one (number_of call.to) _ ∙ (length-set old (number_of t) whole ∙ sym (length-set old (number_of t) fresh));
    sender = rw caller_one (get_or-set_other one (number_of call.to) (number_of t) _ nothing_joined apart ∙ (get_or-set_same old (number_of t) whole nothing_joined in_first ∙ (ap (λ p. meets_receiver p fresh) (sym partner_two) ∙ ap (meets_receiver (partner_of Q r)) (sym (get_or-set_same old (number_of t) fresh nothing_joined in_first)))));
    receiver = rw caller_two (get_or-set_same one (number_of call.to) _ nothing_joined (rw (length-set old (number_of t) whole) in_second) ∙ (ap (λ p. meets_sender p (joined_at one (number_of call.to))) (sym partner_one) ∙ ap (meets_sender (partner_of Q n)) (beside_one (number_of call.to) turned)));
    beside = λ k p q. get_or-set_other one (number_of call.to) k _ nothing_joined (rw caller_two at q) ∙ beside_one k (rw caller_one at p);
  }

  pub exchange_knows : Knows S two
  exchange_knows = other_output R legal_two two (began_knows Q legal_one first knows_one n r two begins joins_them) (Ended n r) (λ a b e. absurd (cc)) (λ a b offset e. absurd (cc))

  -- as the program says it
  pub exchanged_knows : (place there : ℕ) (receiver : Partner) (set_one set_two : List Joined) → place ≡ number_of t → there ≡ number_of call.to → receiver ≡ partner_of P r → set_one ≡ set old place (record { number = n; shown = t; receiver = Some receiver; sender = None }) → set_two ≡ set set_one there (meets_sender (record { number = n; caller = t; shown = t }) (joined_at set_one there)) → Knows S set_two
  exchanged_knows place there receiver set_one set_two p q e written again = rw (again, written, p, q, e) exchange_knows
