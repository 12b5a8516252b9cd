-- A transfer that begins and ends: two entries that are taken note of at once.
use Rattle.std.proofs.lemmas.List.{get_or-set_same, get_or-set_other, length-set}
use Rattle.std.proofs.Common.{◌≡◌, ◌≢◌, refl, sym, ap, ◌∙◌, subst, ℕ, ◌<◌, List, [], ◌∷◌, ◌++◌, length, set}
use Rattle.ipc_words.specs.ThreadId.{number_of}
use Rattle.ipc_history.specs.Calls.{caller_of}
use Rattle.ipc_history.specs.Legal.{Legal, Follows}
use Rattle.ipc_history.specs.declared.entry.Entry.{Entry}
use Rattle.ipc_history.specs.declared.entry.Entry.TheVariants.{Written}
use Rattle.ipc_history.specs.declared.entry.Output.TheVariants.{Began, Ended}
use Rattle.ipc_laws.proofs.Settling.{legal_push}
use Rattle.ipc_desks.proofs.OutputDesks.{places_apart}
use Rattle.ipc_compact.specs.Partners.{Joins, Knows, joined_at, meets_receiver, meets_sender, nothing_joined, partner_of}
use Rattle.ipc_compact.specs.declared.partners.Joined.{Joined}
use Rattle.ipc_compact.specs.declared.partners.Partner.{Partner}
use Rattle.ipc_compact.proofs.PartnerLemmas.{began_apart, began_knows, other_output}

module _ (P : List Entry) (n m : ℕ) (legal : Legal P) (begins : Follows P (Written (Began n m))) (ends : Follows (P ++ Written (Began n m) ∷ []) (Written (Ended n m))) (old : List Joined) (knows : Knows P old) where
  abbrev R : List Entry
  R = P ++ Written (Began n m) ∷ []

  apart : number_of (caller_of P n) ≢ number_of (caller_of P m)
  apart = let is = began_apart P legal old knows n m begins in places_apart P legal n m is.0 is.1 is.2

  -- as the program writes it
  module _ (from to : ℕ) (is_from : from ≡ number_of (caller_of P n)) (is_to : to ≡ number_of (caller_of P m)) (in_first : from < length old) (in_second : to < length old) (sender receiver : Partner) (sends : sender ≡ partner_of P n) (receives : receiver ≡ partner_of P m) (one two : List Joined) (written : one ≡ set old from (meets_receiver receiver (joined_at old from))) (again : two ≡ set one to (meets_sender sender (joined_at one to))) where
    far : from ≢ to
    far e = apart (sym is_from ∙ (e ∙ is_to))

    turned : to ≢ from
    turned e = far (sym e)

    in_one : to < length one
    in_one = rw (written, length-set old from (meets_receiver receiver (joined_at old from))) in_second

    at_sender : joined_at two from ≡ meets_receiver receiver (joined_at old from)
    at_sender = rw again (get_or-set_other one to from (meets_sender sender (joined_at one to)) nothing_joined far ∙ rw written (get_or-set_same old from (meets_receiver receiver (joined_at old from)) nothing_joined in_first))

    at_receiver : joined_at two to ≡ meets_sender sender (joined_at old to)
    at_receiver =
        let other : joined_at one to ≡ joined_at old to = rw written (get_or-set_other old from to (meets_receiver receiver (joined_at old from)) nothing_joined turned) in
        rw again (get_or-set_same one to (meets_sender sender (joined_at one to)) nothing_joined in_one ∙ ap (meets_sender sender) other)

    at_other : (k : ℕ) → k ≢ from → k ≢ to → joined_at two k ≡ joined_at old k
    at_other k p q = rw again (get_or-set_other one to k (meets_sender sender (joined_at one to)) nothing_joined q ∙ rw written (get_or-set_other old from k (meets_receiver receiver (joined_at old from)) nothing_joined p))

    joins_them : Joins P n m old two
    joins_them = record {
      size = rw (again, length-set one to (meets_sender sender (joined_at one to)), written, length-set old from (meets_receiver receiver (joined_at old from))) refl;
      sender = subst (λ k. joined_at two k ≡ meets_receiver (partner_of P m) (joined_at old k)) is_from (at_sender ∙ ap (λ p. meets_receiver p (joined_at old from)) receives);
      receiver = subst (λ k. joined_at two k ≡ meets_sender (partner_of P n) (joined_at old k)) is_to (at_receiver ∙ ap (λ p. meets_sender p (joined_at old to)) sends);
      beside = λ k p q. at_other k (λ e. p (e ∙ is_from)) (λ e. q (e ∙ is_to));
    }

    pub pass_knows : Knows (R ++ Written (Ended n m) ∷ []) two
    pass_knows = other_output R (legal_push P (Written (Began n m)) legal begins) two (began_knows P legal old knows n m two begins joins_them) (Ended n m) (λ a b e. absurd (cc)) (λ a b offset e. absurd (cc))
