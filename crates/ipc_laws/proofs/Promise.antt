-- A Legal history is Paired.
use Rattle.std.proofs.lemmas.Bool.{false≢true, false_from_ne_true, or_from}
use Rattle.std.proofs.Common.{◌≡◌, refl, ap, ◌∙◌, ℕ, ◌<◌, ◌≢◌, Bool, true, false, ◌||◌, eqb-true, eq-eqb, List, [], ◌∷◌, ◌++◌, IsTrue, IsFalse}
use Rattle.std.specs.List.{list_any}
use Rattle.ipc_history.specs.Words.{before}
use Rattle.ipc_history.specs.Entries.{ends, names}
use Rattle.ipc_history.specs.Calls.{caller_of}
use Rattle.ipc_history.specs.Phases.{is_sent}
use Rattle.ipc_history.specs.Legal.{Legal}
use Rattle.ipc_history.specs.Paired.{Paired, IsPair}
use Rattle.ipc_history.specs.declared.entry.Entry.{Entry}
use Rattle.ipc_history.specs.declared.entry.Entry.TheVariants.{Given, Written}
use Rattle.ipc_history.specs.declared.entry.Input.TheVariants.{Broke}
use Rattle.ipc_history.specs.declared.entry.Output.TheVariants.{Ended}
use Rattle.ipc_laws.proofs.Delivery.{is_shown, is_whole}
use Rattle.ipc_laws.proofs.Endings.{no_more_names, spoiled_unsent}
use Rattle.ipc_laws.proofs.Growth.{is_sent_append}
use Rattle.ipc_laws.proofs.Histories.{sent_place}
use Rattle.ipc_laws.proofs.Order.{in_order}
use Rattle.ipc_laws.proofs.Pairing.{receives_once, sends_once}
use Rattle.ipc_laws.proofs.Places.{Place, any_place}
use Rattle.ipc_laws.proofs.Tests.{left, right}

-- the first that passes, and what stands before it
pub record First {X : Type 0} (test : X → Bool) (xs : List X) : Type 0 where
  pub here : X
  pub at : Place xs here
  pub passes : test here ≡ true
  pub front : at.front ≡ before test xs

pub first_that_passes : {X : Type 0} (test : X → Bool) (xs : List X) → list_any test xs ≡ true → First test xs
first_that_passes test [] h = absurd (false≢true h)
first_that_passes {X} test (x ∷ xs) h = go (test x) refl h (first_that_passes test xs)
  where
    go : (b : Bool) → test x ≡ b → (b || list_any test xs) ≡ true → (list_any test xs ≡ true → First test xs) → First test (x ∷ xs)
    go true e g later = record { here = x; at = record { front = []; rest = xs; whole = refl }; passes = e; front = rw e refl }
    go false e g later =
        let f = later g in
        record { here = f.here; at = record { front = x ∷ f.at.front; rest = f.at.rest; whole = ap (λ l. x ∷ l) f.at.whole }; passes = f.passes; front = rw e (ap (λ l. x ∷ l) f.front) }

first_ended : (H : List Entry) (k j : ℕ) → list_any (ends k j) H ≡ true → (at : Place H (Written (Ended k j))) × (at.front ≡ before (ends k j) H)
first_ended H k j h = let f = first_that_passes (ends k j) H h in go f.here f.at f.passes f.front
  where
    go : (e : Entry) (at : Place H e) → ends k j e ≡ true → at.front ≡ before (ends k j) H → (at : Place H (Written (Ended k j))) × (at.front ≡ before (ends k j) H)
    go (Written (Ended a b)) at g f =
        let p : a ≡ k = eqb-true a k (left _ _ g) in
        let q : b ≡ j = eqb-true b j (right _ _ g) in
        let both : (at : Place H (Written (Ended a b))) × (at.front ≡ before (ends k j) H) = (at, f) in
        rw (p, q) at both
    go _ at g f = absurd (false≢true g)

module _ (H : List Entry) (h : Legal H) where
  no_ended_thread : (thread : ℕ) (P rest : List Entry) → H ≡ P ++ Given (Broke thread) ∷ rest → (n : ℕ) → IsTrue (list_any (names n) rest) → caller_of H n ≢ thread
  no_ended_thread thread P rest whole n named same =
      let t = any_place (names n) rest named in
      no_more_names H h thread (record { front = P; rest = rest; whole = whole }) t.0 t.1 n t.2 same

  broke_before : (n : ℕ) (P rest : List Entry) → H ≡ P ++ Given (Broke (caller_of H n)) ∷ rest → IsFalse (is_sent P n) → IsFalse (is_sent H n)
  unfolding is_sent
  broke_before n P rest whole unsent = ap (λ l. is_sent l n) whole ∙ (is_sent_append P _ n ∙ or_from _ _ unsent (behind (false_from_ne_true (is_sent rest n) (λ s.
      let later = sent_place rest n s in
      no_more_names H h (caller_of H n) (record { front = P; rest = rest; whole = whole }) _ later.1 n (named later.0) refl))))
    where
      named : (m : ℕ) → names n (Written (Ended n m)) ≡ true
      named m = rw (eq-eqb n n refl) refl

      behind : is_sent rest n ≡ false → is_sent (Given (Broke (caller_of H n)) ∷ rest) n ≡ false
      behind e = e

  ordered : (n m k j : ℕ) → IsPair H n m → IsPair H k j → caller_of H n ≡ caller_of H k → caller_of H m ≡ caller_of H j → n < k → (m < j) × IsTrue (list_any (ends n m) (before (ends k j) H))
  ordered n m k j first second callers receivers less =
      let f = first_ended H k j second in
      let o = in_order H h n m k j less first f.0 callers receivers in
      (o.0, rw f.1 at o.1)

  pub paired : Paired H
  paired = record {
    one_send = sends_once H h;
    one_receive = receives_once H h;
    whole = is_whole H h;
    showing = is_shown H h;
    in_order = ordered;
    ended_otherwise = spoiled_unsent H h;
    broke_before = broke_before;
    no_ended_thread = no_ended_thread;
  }
