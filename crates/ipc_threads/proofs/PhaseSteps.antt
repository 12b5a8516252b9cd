-- What one more entry makes of the phase of an open call, and of the moment at which it began.
use Rattle.std.proofs.lemmas.Bool.{false≢true, true≢false}
use Rattle.std.proofs.lemmas.Option.{none-some, cond_some}
use Rattle.std.proofs.Common.{◌≡◌, refl, sym, ap, ap₂, ◌∙◌, ℕ, ◌+◌, add-zero, Bool, true, false, ◌||◌, ◌==◌, eqb-true, if◌then◌else◌, List, [], ◌∷◌, ◌++◌, Option, Some, None, arith}
use Rattle.std.specs.List.{list_any}
use Rattle.std.specs.Option.{option_or, option_map_or}
use Rattle.ipc_words.specs.ThreadId.{nilthread}
use Rattle.ipc_history.specs.Words.{before}
use Rattle.ipc_history.specs.Entries.{receiver_in, sender_in, ends_send, count_in}
use Rattle.ipc_history.specs.Calls.{is_called, caller_of, to_of}
use Rattle.ipc_history.specs.Threads.{now}
use Rattle.ipc_history.specs.Phases.{is_sent, receiver_of, sender_of, is_over, moved_bytes}
use Rattle.ipc_history.specs.Matching.{before_call}
use Rattle.ipc_history.specs.Timing.{before_sent}
use Rattle.ipc_history.specs.Legal.{Legal, Follows}
use Rattle.ipc_history.specs.declared.entry.Entry.{Entry}
use Rattle.ipc_history.specs.declared.entry.Entry.TheVariants.{Written}
use Rattle.ipc_history.specs.declared.entry.Output.TheVariants.{Began, Ended}
use Rattle.ipc_laws.proofs.Befores.{before_call_kept}
use Rattle.ipc_laws.proofs.Changing.{any_push, changes}
use Rattle.ipc_laws.proofs.Growth.{caller_of_kept, open_is_called, to_of_kept}
use Rattle.ipc_laws.proofs.OnePhase.{passes_apart, receiver_turned}
use Rattle.ipc_laws.proofs.OutputLemmas.{next_output_means}
use Rattle.ipc_laws.proofs.Pairing.{pair_called, receiver_of_sender}
use Rattle.ipc_laws.proofs.PhaseParts.{Passes, meets_parts, passes_parts}
use Rattle.ipc_threads.specs.Standings.{phase_of, since_of}
use Rattle.ipc_threads.specs.Steps.{next_phase}
use Rattle.ipc_threads.specs.declared.slot.Phase.TheVariants.{Sending, Passing, Receiving, Taking}

-- a call whose send an entry ends passes its message, and takes none
record EndsSend (P : List Entry) (e : Entry) (n : ℕ) : Type 0 where
  unturned : ((to_of P n == nilthread) || is_sent P n) ≡ false
  receiver : ℕ
  pair : receiver_of P n ≡ Some receiver
  free : sender_of P n ≡ None
  alone : sender_in n e ≡ None

unless : (b : Bool) → (b ≡ true → ⊥) → b ≡ false
unless true h = absurd (h refl)
unless false h = refl

nothing : (o : Option ℕ) → ((k : ℕ) → o ≡ Some k → ⊥) → o ≡ None
nothing None h = refl
nothing (Some k) h = absurd (h k refl)

ends : (P : List Entry) (e : Entry) → Legal P → Follows P e → (n : ℕ) → ends_send n e ≡ true → EndsSend P e n
unfolding Follows
ends P (Written (Ended k m)) legal f n h =
    let same : k ≡ n = eqb-true k n h in
    let p : Passes P n m = rw same at (passes_parts P k m (next_output_means P (Ended k m) f).0) in
    let apart = passes_apart P legal n m p.pair p.running in
    record {
      unturned = unless _ apart;
      receiver = m;
      pair = p.pair;
      free = nothing _ (λ j s. apart (receiver_turned P legal j n (receiver_of_sender P legal j n s)));
      alone = refl;
    }
ends P _ legal f n h = absurd (false≢true h)

-- the sending call of a transfer is called, and that of one that begins too, and has copied nothing
-- with that
record Sender (P : List Entry) (e : Entry) (k : ℕ) : Type 0 where
  called : is_called P k ≡ true
  none : count_in k e ≡ 0

begins : (P : List Entry) (e : Entry) → Follows P e → (n k : ℕ) → sender_in n e ≡ Some k → Sender P e k
unfolding Follows
begins P (Written (Began j m)) f n k h =
    let c = cond_some (m == n) j k h in
    let same : j ≡ k = c.1 in
    record { called = rw same at (open_is_called P j (meets_parts P j m (next_output_means P (Began j m) f).0).sends.opened); none = refl }
begins P _ f n k h = absurd (none-some k h)

-- of two phases
step : (t s e : Bool) (sp si rp ri : Option ℕ) (cq cp mq mp count : ℕ → ℕ) (caller moved : ℕ) → (e ≡ true → ((t || s) ≡ false) × (sp ≡ None) × (si ≡ None) × (m : ℕ) × (rp ≡ Some m)) → ((k : ℕ) → sp ≡ Some k → (cq k ≡ cp k) × (mq k ≡ mp k + count k)) → ((k : ℕ) → si ≡ Some k → (cq k ≡ caller) × (mq k ≡ moved)) → (if t || (s || e) then option_map_or (λ k. Taking k (cq k) (mq k)) (option_or sp si) Receiving else option_map_or (λ m. Passing m) (option_or rp ri) Sending) ≡ next_phase ri e si count caller moved (if t || s then option_map_or (λ k. Taking k (cp k) (mp k)) sp Receiving else option_map_or (λ m. Passing m) rp Sending)
step t s e sp si rp ri cq cp mq mp count caller moved f old new = go t s e f
  where
    taken : (d : Bool) (o i : Option ℕ) → ((k : ℕ) → o ≡ Some k → (cq k ≡ cp k) × (mq k ≡ mp k + count k)) → ((k : ℕ) → i ≡ Some k → (cq k ≡ caller) × (mq k ≡ moved)) → option_map_or (λ k. Taking k (cq k) (mq k)) (option_or o i) Receiving ≡ next_phase ri d i count caller moved (option_map_or (λ k. Taking k (cp k) (mp k)) o Receiving)
    taken d (Some k) i p q = ap₂ (Taking k) (p k refl).0 (p k refl).1
    taken d None (Some k) p q = ap₂ (Taking k) (q k refl).0 (q k refl).1
    taken d None None p q = refl

    passed : (o i : Option ℕ) → option_map_or (λ m. Passing m) (option_or o i) Sending ≡ next_phase i false si count caller moved (option_map_or (λ m. Passing m) o Sending)
    passed (Some m) i = refl
    passed None i = refl

    turns : ((true || false) ≡ true) → ((sp ≡ None) × (si ≡ None) × (m : ℕ) × (rp ≡ Some m)) → option_map_or (λ k. Taking k (cq k) (mq k)) (option_or sp si) Receiving ≡ next_phase ri true si count caller moved (option_map_or (λ m. Passing m) rp Sending)
    turns b h = rw (h.0, h.1, h.3) refl

    go : (t s d : Bool) → (d ≡ true → ((t || s) ≡ false) × (sp ≡ None) × (si ≡ None) × (m : ℕ) × (rp ≡ Some m)) → (if t || (s || d) then option_map_or (λ k. Taking k (cq k) (mq k)) (option_or sp si) Receiving else option_map_or (λ m. Passing m) (option_or rp ri) Sending) ≡ next_phase ri d si count caller moved (if t || s then option_map_or (λ k. Taking k (cp k) (mp k)) sp Receiving else option_map_or (λ m. Passing m) rp Sending)
    go true s d f = taken d sp si old new
    go false true d f = taken d sp si old new
    go false false true f = let g = f refl in turns refl (g.1, g.2, g.3, g.4)
    go false false false f = passed rp ri

-- what stands before the first element that passes
before_kept : (test : Entry → Bool) (xs ys : List Entry) → list_any test xs ≡ true → before test (xs ++ ys) ≡ before test xs
before_kept test [] ys h = absurd (false≢true h)
before_kept test (x ∷ xs) ys h = go (test x) h (before_kept test xs ys)
  where
    go : (b : Bool) → (b || list_any test xs) ≡ true → (list_any test xs ≡ true → before test (xs ++ ys) ≡ before test xs) → (if b then [] else x ∷ before test (xs ++ ys)) ≡ (if b then [] else x ∷ before test xs)
    go true g later = refl
    go false g later = ap (λ l. x ∷ l) (later g)

pub before_new : (test : Entry → Bool) (xs : List Entry) (y : Entry) → list_any test xs ≡ false → test y ≡ true → before test (xs ++ y ∷ []) ≡ xs
before_new test [] y h p = rw p refl
before_new test (x ∷ xs) y h p = go (test x) h (λ g. before_new test xs y g p)
  where
    go : (b : Bool) → (b || list_any test xs) ≡ false → (list_any test xs ≡ false → before test (xs ++ y ∷ []) ≡ xs) → (if b then [] else x ∷ before test (xs ++ y ∷ [])) ≡ x ∷ xs
    go true g later = absurd (true≢false g)
    go false g later = ap (λ l. x ∷ l) (later g)

module _ (P : List Entry) (e : Entry) (legal : Legal P) (follows : Follows P e) (n : ℕ) (open_ : is_over P n ≡ false) where
  called : is_called P n ≡ true
  called = open_is_called P n open_

  -- the caller of a sending call and the bytes that it has copied
  sender_kept : (k : ℕ) → sender_of P n ≡ Some k → (caller_of (P ++ e ∷ []) k ≡ caller_of P k) × (moved_bytes (P ++ e ∷ []) k ≡ moved_bytes P k + count_in k e)
  sender_kept k h = (caller_of_kept P (e ∷ []) k (pair_called P legal k n (receiver_of_sender P legal k n h)).0, (changes P e).bytes k)

  pub phase_after : (caller moved : ℕ) → ((k : ℕ) → sender_in n e ≡ Some k → (caller ≡ caller_of P k) × (moved ≡ moved_bytes P k)) → phase_of (P ++ e ∷ []) n ≡ next_phase (receiver_in n e) (ends_send n e) (sender_in n e) (λ k. count_in k e) caller moved (phase_of P n)
  unfolding phase_of
  phase_after caller moved from = rw (to_of_kept P (e ∷ []) n called, (changes P e).sent n, (changes P e).sender n, (changes P e).receiver n) (step (to_of P n == nilthread) (is_sent P n) (ends_send n e) (sender_of P n) (sender_in n e) (receiver_of P n) (receiver_in n e) (caller_of (P ++ e ∷ [])) (caller_of P) (moved_bytes (P ++ e ∷ [])) (moved_bytes P) (λ k. count_in k e) caller moved
      (λ h. let x = ends P e legal follows n h in (x.unturned, x.free, x.alone, x.receiver, x.pair))
      sender_kept
      (λ k h. let x = begins P e follows n k h in (caller_of_kept P (e ∷ []) k x.called ∙ sym (from k h).0, (changes P e).bytes k ∙ (ap (λ c. moved_bytes P k + c) x.none ∙ (add-zero _ ∙ sym (from k h).1)))))

  -- a call whose send an entry ends was not sent before
  unsent : ends_send n e ≡ true → is_sent P n ≡ false
  unsent h = second _ _ (ends P e legal follows n h).unturned
    where
      second : (a b : Bool) → (a || b) ≡ false → b ≡ false
      second a b h = grind arith

  pub since_after : since_of (P ++ e ∷ []) n ≡ (if ends_send n e then now P else since_of P n)
  unfolding since_of before_sent is_sent
  since_after = rw (any_push (ends_send n) P e) (go (list_any (ends_send n) P) refl (ends_send n e) refl)
    where
      go : (s : Bool) → list_any (ends_send n) P ≡ s → (d : Bool) → ends_send n e ≡ d → now (if s || d then before (ends_send n) (P ++ e ∷ []) else before_call (P ++ e ∷ []) n) ≡ (if d then now P else now (if s then before (ends_send n) P else before_call P n))
      go true h true k = absurd (true≢false (sym h ∙ unsent k))
      go true h false k = ap now (before_kept (ends_send n) P (e ∷ []) h)
      go false h true k = ap now (before_new (ends_send n) P e h k)
      go false h false k = ap now (before_call_kept P (e ∷ []) n called)
