-- What a rule gives for one call, and what may hold of one call at a time.
use Rattle.std.proofs.lemmas.Bool.{false≢true}
use Rattle.std.proofs.lemmas.Option.{none-some}
use Rattle.std.proofs.Common.{◌≡◌, refl, sym, ap, ◌∙◌, subst, ℕ, ◌+◌, ◌≤◌, Bool, true, false, ◌||◌, ◌&&◌, ◌==◌, eqb-true, List, [], ◌∷◌, ◌++◌, Option, Some, None, find, arith, if◌then◌else◌}
use Rattle.std.specs.List.{list_any}
use Rattle.ipc_history.specs.Words.{first_some, before}
use Rattle.ipc_history.specs.Entries.{names}
use Rattle.ipc_history.specs.Calls.{numbers, message_size}
use Rattle.ipc_history.specs.Phases.{receiver_of, sender_of, is_over, is_sending, is_transferring, is_receiving, moved_bytes}
use Rattle.ipc_history.specs.Matching.{matches, match_of}
use Rattle.ipc_history.specs.NextOutput.{stop_after, turn_after, end_of, is_send_partner_gone, is_receive_partner_gone, is_left, left_sender_code, left_receiver_code, partner_gone_code, partner_gone_of, meeting, meeting_of, next_output}
use Rattle.ipc_history.specs.Legal.{Legal}
use Rattle.ipc_history.specs.declared.entry.Entry.{Entry}
use Rattle.ipc_history.specs.declared.entry.Entry.TheVariants.{Written}
use Rattle.ipc_history.specs.declared.entry.Output.{Output}
use Rattle.ipc_history.specs.declared.entry.Output.TheVariants.{Ended, Failed}
use Rattle.ipc_laws.specs.Laws.{one_if}
use Rattle.ipc_laws.specs.Locality.{Possible}
use Rattle.ipc_laws.specs.Locality.Possible.{Ends, LosesReceiver, LosesSender, LeftSending, LeftReceiving, Meets, Expires}
use Rattle.ipc_laws.proofs.Comes.{later_output}
use Rattle.ipc_laws.proofs.EntryTouches.{meeting_names}
use Rattle.ipc_laws.proofs.Gives.{Gives, Gives-and_then, Gives-at, Gives-find, Gives-if, Gives-map, Gives-or}
use Rattle.ipc_laws.proofs.Gives.Gives.{Nothing, This}
use Rattle.ipc_laws.proofs.Histories.{named_alone, named_by}
use Rattle.ipc_laws.proofs.OnePhase.{one_phase}
use Rattle.ipc_laws.proofs.PhaseParts.{due_open, left_open, meets_parts, partner_gone_receives, partner_gone_sends, passes_parts}
use Rattle.ipc_laws.proofs.Places.{Place, first_none, first_place}
use Rattle.ipc_laws.proofs.Tests.{left, right}
use Rattle.ipc_laws.proofs.WordLemmas.{last_some_push}

-- Lists

-- what f gives first, where it gives nothing else
pub first_is : {X Y : Type 0} (f : X → Option Y) (xs : List X) (x : X) (y : Y) → Place xs x → f x ≡ Some y → ((z : X) (o : Y) → f z ≡ Some o → o ≡ y) → first_some f xs ≡ Some y
first_is {Y} f xs x y at here only = go (first_some f xs) refl
  where
    go : (o : Option Y) → first_some f xs ≡ o → first_some f xs ≡ Some y
    go None e = absurd (none-some y (sym (first_none f xs x at e) ∙ here))
    go (Some z) e = let p = first_place f xs z e in e ∙ ap (λ v. Some v) (only p.0 z p.2)

-- all of a list stands before the first element that passes, which comes behind it
pub before_all : {X : Type 0} (test : X → Bool) (xs : List X) (x : X) → list_any test xs ≡ false → test x ≡ true → before test (xs ++ x ∷ []) ≡ xs
before_all test [] x none holds = rw holds refl
before_all test (y ∷ xs) x none holds = go (test y) refl none (before_all test xs x)
  where
    go : (b : Bool) → test y ≡ b → (b || list_any test xs) ≡ false → (list_any test xs ≡ false → test x ≡ true → before test (xs ++ x ∷ []) ≡ xs) → (if test y then [] else y ∷ before test (xs ++ x ∷ [])) ≡ y ∷ xs
    go true e h later = absurd (false≢true (sym h))
    go false e h later = rw e (ap (λ l. y ∷ l) (later h holds))

-- What the rules give

module _ (P : List Entry) where
  abbrev pub EndOf : ℕ → Output → Type 0
  EndOf k o = (m : ℕ) × (is_transferring P k m ≡ true) × (moved_bytes P k ≡ message_size P k) × (o ≡ Ended k m)

  end_gives : (k : ℕ) → Gives (EndOf k) (end_of P k)
  unfolding end_of
  end_gives k = Gives-and_then _ (receiver_of P k) (λ m e. Gives-if (is_transferring P k m && (moved_bytes P k == message_size P k)) _ _ (λ p. This (m, left _ _ p, eqb-true _ _ (right _ _ p), refl)) (λ q. Nothing))

  pub end_is : (k : ℕ) (o : Output) → end_of P k ≡ Some o → EndOf k o
  end_is k o e = Gives-at (end_of P k) o (end_gives k) e

  abbrev pub MeetingOf : ℕ → Output → Type 0
  MeetingOf k o = (m : ℕ) × (matches P k m ≡ true) × (o ≡ meeting P k m)

  meeting_gives : (k : ℕ) → Gives (MeetingOf k) (meeting_of P k)
  unfolding meeting_of match_of
  meeting_gives k = Gives-map _ (find (matches P k) (numbers P)) (λ m e. (m, Gives-at _ m (Gives-find (matches P k) (numbers P)) e, refl))

  pub meeting_is : (k : ℕ) (o : Output) → meeting_of P k ≡ Some o → MeetingOf k o
  meeting_is k o e = Gives-at (meeting_of P k) o (meeting_gives k) e

  abbrev FailsWith : ℕ → ℕ → Type 0
  FailsWith k code = Possible P (Failed k code)

  left_sender_gives : (k : ℕ) → Gives (FailsWith k) (left_sender_code P k)
  unfolding left_sender_code
  left_sender_gives k = Gives-and_then _ (receiver_of P k) (λ m e. Gives-if (is_left P k k m m) _ _ (λ p. This (LeftSending k m e p refl)) (λ q. Nothing))

  left_receiver_gives : (k : ℕ) → Gives (FailsWith k) (left_receiver_code P k)
  unfolding left_receiver_code
  left_receiver_gives k = Gives-and_then _ (sender_of P k) (λ j e. Gives-if (is_left P k j k j) _ _ (λ p. This (LeftReceiving k j e p refl)) (λ q. Nothing))

  partner_code_gives : (k : ℕ) → Gives (FailsWith k) (partner_gone_code P k)
  unfolding partner_gone_code
  partner_code_gives k = Gives-if (is_send_partner_gone P k) _ _ (λ p. This (LosesReceiver k p refl)) (λ q. Gives-if (is_receive_partner_gone P k) _ _ (λ p. This (LosesSender k p refl)) (λ q. Gives-or (left_sender_gives k) (left_receiver_gives k)))

  abbrev pub FailureOf : ℕ → Output → Type 0
  FailureOf k o = (code : ℕ) × Possible P (Failed k code) × (o ≡ Failed k code)

  partner_gives : (k : ℕ) → Gives (FailureOf k) (partner_gone_of P k)
  unfolding partner_gone_of
  partner_gives k = Gives-map _ (partner_gone_code P k) (λ code e. (code, Gives-at (partner_gone_code P k) code (partner_code_gives k) e, refl))

  pub failure_is : (k : ℕ) (o : Output) → partner_gone_of P k ≡ Some o → FailureOf k o
  failure_is k o e = Gives-at (partner_gone_of P k) o (partner_gives k) e

-- after an output that turns nothing the later rules are asked alone
pub after_output : (P : List Entry) (o : Output) → turn_after (P ++ Written o ∷ []) (Written o) ≡ None → next_output (P ++ Written o ∷ []) ≡ later_output (P ++ Written o ∷ [])
unfolding next_output stop_after
after_output P o none = rw (last_some_push {Y = Entry} (λ e. Some e) P (Written o), none) refl

-- what is possible names open calls alone
pub names_open : (P : List Entry) (output : Output) → Possible P output → (n : ℕ) → names n (Written output) ≡ true → is_over P n ≡ false
names_open P output (Ends a b t full is) n named = let p = passes_parts P a b t in named_by P n a b p.opened p.opened_too (subst (λ o. names n (Written o) ≡ true) is named)
names_open P output (LosesReceiver a g is) n named = named_alone P n a (partner_gone_sends P a g).opened (subst (λ o. names n (Written o) ≡ true) is named)
names_open P output (LosesSender a g is) n named = named_alone P n a (partner_gone_receives P a g).opened (subst (λ o. names n (Written o) ≡ true) is named)
names_open P output (LeftSending a b pair g is) n named = named_alone P n a (left_open P a a b b g) (subst (λ o. names n (Written o) ≡ true) is named)
names_open P output (LeftReceiving a b pair g is) n named = named_alone P n a (left_open P a b a b g) (subst (λ o. names n (Written o) ≡ true) is named)
names_open P output (Meets a b g is) n named = let p = meets_parts P a b g in named_by P n a b p.sends.opened p.receives.opened (sym (meeting_names P a b n) ∙ subst (λ o. names n (Written o) ≡ true) is named)
names_open P output (Expires a g is) n named = named_alone P n a (due_open P a g) (subst (λ o. names n (Written o) ≡ true) is named)

-- One phase at a time

module _ (P : List Entry) (legal : Legal P) where
  first_third : (a b c d : Bool) → one_if a + one_if b + one_if c + one_if d ≤ 1 → a ≡ true → c ≡ true → ⊥
  first_third a b c d h p q = grind arith

  first_fourth : (a b c d : Bool) → one_if a + one_if b + one_if c + one_if d ≤ 1 → a ≡ true → d ≡ true → ⊥
  first_fourth a b c d h p q = grind arith

  second_fourth : (a b c d : Bool) → one_if a + one_if b + one_if c + one_if d ≤ 1 → b ≡ true → d ≡ true → ⊥
  second_fourth a b c d h p q = grind arith

  pub sends_or_receives : (n : ℕ) → is_sending P n ≡ true → is_receiving P n ≡ true → ⊥
  sends_or_receives n s r = first_third (is_sending P n) (is_transferring P n n) (is_receiving P n) (is_transferring P n n) (one_phase P legal n n n) s r

  pub sends_or_takes : (n k : ℕ) → is_sending P n ≡ true → is_transferring P k n ≡ true → ⊥
  sends_or_takes n k s t = first_fourth (is_sending P n) (is_transferring P n n) (is_receiving P n) (is_transferring P k n) (one_phase P legal n n k) s t

  pub passes_or_takes : (n m k : ℕ) → is_transferring P n m ≡ true → is_transferring P k n ≡ true → ⊥
  passes_or_takes n m k p t = second_fourth (is_sending P n) (is_transferring P n m) (is_receiving P n) (is_transferring P k n) (one_phase P legal n m k) p t
