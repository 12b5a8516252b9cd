-- The two calls of a transfer are over together, but for a caller that ends.
use Rattle.std.proofs.lemmas.Bool.{false_from_ne_true}
use Rattle.std.proofs.lemmas.Option.{none-some, cond_some}
use Rattle.std.proofs.Common.{◌≡◌, refl, sym, ap, ◌∙◌, ℕ, Bool, true, false, ◌||◌, ◌&&◌, ◌==◌, eqb-true, List, [], ◌∷◌, ◌++◌, Option, Some, None, arith}
use Rattle.std.specs.List.{list_any}
use Rattle.std.specs.Option.{option_or}
use Rattle.ipc_words.specs.ThreadId.{nilthread}
use Rattle.ipc_history.specs.Entries.{breaks, closes, ends, ends_send, receiver_in}
use Rattle.ipc_history.specs.Calls.{is_called, caller_of, from_of}
use Rattle.ipc_history.specs.Threads.{has_broken}
use Rattle.ipc_history.specs.Phases.{receiver_of, is_over}
use Rattle.ipc_history.specs.Legal.{Legal, Follows}
use Rattle.ipc_history.specs.declared.entry.Entry.{Entry}
use Rattle.ipc_history.specs.declared.entry.Entry.TheVariants.{Written}
use Rattle.ipc_history.specs.declared.entry.Output.TheVariants.{Began}
use Rattle.ipc_laws.proofs.Changing.{any_push, changes}
use Rattle.ipc_laws.proofs.Growth.{caller_of_kept, open_is_called, was_open}
use Rattle.ipc_laws.proofs.Histories.{legal_induction}
use Rattle.ipc_laws.proofs.OutputLemmas.{next_output_means}
use Rattle.ipc_laws.proofs.Pairing.{pair_called}
use Rattle.ipc_laws.proofs.PhaseParts.{meets_parts}
use Rattle.ipc_laws.proofs.Tests.{neither_left, neither_right, not_both}
use Rattle.ipc_laws.proofs.TransferKept.{keeps}

-- Over together

record EitherOpen (P : List Entry) (n m : ℕ) : Type 0 where
  pub receiver : is_over P n ≡ false → has_broken P (caller_of P m) ≡ false → is_over P m ≡ false
  pub sender : is_over P m ≡ false → has_broken P (caller_of P n) ≡ false → is_over P n ≡ false

abbrev AreTogether : List Entry → Type 0
AreTogether P = (n m : ℕ) → receiver_of P n ≡ Some m → list_any (ends n m) P ≡ false → EitherOpen P n m

start : AreTogether []
unfolding receiver_of
start n m pair running = absurd (none-some m pair)

-- the call x stays open where an entry neither closes it nor ends its send, and doesn't break its
-- caller
stays_open : (P : List Entry) (e : Entry) (x : ℕ) → is_over P x ≡ false → closes x e ≡ false → ends_send x e ≡ false → has_broken (P ++ e ∷ []) (caller_of (P ++ e ∷ []) x) ≡ false → is_over (P ++ e ∷ []) x ≡ false
stays_open P e x o c s lives =
    let called = open_is_called P x o in
    let unbroken : breaks (caller_of P x) e ≡ false = neither_right _ _ (sym ((changes P e).broken (caller_of P x)) ∙ (ap (has_broken (P ++ e ∷ [])) (sym (caller_of_kept P (e ∷ []) x called)) ∙ lives)) in
    (changes P e).over x called ∙ nothing (is_over P x) (closes x e) (breaks (caller_of P x) e) (from_of P x == nilthread) (ends_send x e) o c unbroken s
  where
    nothing : (a b c f s : Bool) → a ≡ false → b ≡ false → c ≡ false → s ≡ false → (a || b || c || (f && s)) ≡ false
    nothing a b c f s p q r t = grind arith

-- what stays open isn't closed
unclosed : (P : List Entry) (e : Entry) (x : ℕ) → is_called P x ≡ true → is_over (P ++ e ∷ []) x ≡ false → closes x e ≡ false
unclosed P e x c o = second (is_over P x) (closes x e) (breaks (caller_of P x) e) ((from_of P x == nilthread) && ends_send x e) (sym ((changes P e).over x c) ∙ o)
  where
    second : (a b c d : Bool) → (a || b || c || d) ≡ false → b ≡ false
    second a b c d h = grind arith

lived : (P : List Entry) (e : Entry) (x : ℕ) → is_called P x ≡ true → has_broken (P ++ e ∷ []) (caller_of (P ++ e ∷ []) x) ≡ false → has_broken P (caller_of P x) ≡ false
lived P e x c lives = neither_left _ _ (sym ((changes P e).broken (caller_of P x)) ∙ (ap (has_broken (P ++ e ∷ [])) (sym (caller_of_kept P (e ∷ []) x c)) ∙ lives))

module _ (P : List Entry) (e : Entry) (l : Legal P) (h : AreTogether P) (f : Follows P e) (n m : ℕ) where
  goes_on : receiver_of P n ≡ Some m → list_any (ends n m) (P ++ e ∷ []) ≡ false → EitherOpen (P ++ e ∷ []) n m
  goes_on pair running =
      let called = pair_called P l n m pair in
      let parts = sym (any_push (ends n m) P e) ∙ running in
      let before = h n m pair (neither_left _ _ parts) in
      let unended = neither_right (list_any (ends n m) P) (ends n m e) parts in
      record {
        receiver = λ o lives. (
            let on = was_open P (e ∷ []) n called.0 o in
            let om = before.receiver on (lived P e m called.1 lives) in
            let k = keeps P l n m (record { pair = pair; running = neither_left _ _ parts; opened = on; opened_too = om }) e f unended in
            stays_open P e m om (false_from_ne_true _ (λ c. not_both (k.with_receiver c) (unclosed P e n called.0 o))) k.receiver_unended lives);
        sender = λ o lives. (
            let om = was_open P (e ∷ []) m called.1 o in
            let on = before.sender om (lived P e n called.0 lives) in
            let k = keeps P l n m (record { pair = pair; running = neither_left _ _ parts; opened = on; opened_too = om }) e f unended in
            stays_open P e n on (false_from_ne_true _ (λ c. not_both (k.with_sender c) (unclosed P e m called.1 o))) k.sender_unended lives);
      }

begins : (P : List Entry) (e : Entry) → Follows P e → (n m : ℕ) → receiver_in n e ≡ Some m → EitherOpen (P ++ e ∷ []) n m
unfolding Follows
begins P (Written (Began a b)) f n m g =
    let e = cond_some (a == n) b m g in
    let p : a ≡ n = eqb-true a n e.0 in
    let q : b ≡ m = e.1 in
    let w = meets_parts P a b (next_output_means P (Began a b) f).0 in
    record {
      receiver = λ o lives. stays_open P (Written (Began a b)) m (rw q at w.receives.opened) refl refl lives;
      sender = λ o lives. stays_open P (Written (Began a b)) n (rw p at w.sends.opened) refl refl lives;
    }
begins P _ f n m g = absurd (none-some m g)

step : (P : List Entry) (e : Entry) → Legal P → AreTogether P → Follows P e → AreTogether (P ++ e ∷ [])
step P e l h f n m pair running = go (receiver_of P n) refl (sym ((changes P e).receiver n) ∙ pair)
  where
    go : (o : Option ℕ) → receiver_of P n ≡ o → option_or (receiver_of P n) (receiver_in n e) ≡ Some m → EitherOpen (P ++ e ∷ []) n m
    go None none g = begins P e f n m (sym (ap (λ o. option_or o (receiver_in n e)) none) ∙ g)
    go (Some j) some g = goes_on P e l h f n m (some ∙ (sym (ap (λ o. option_or o (receiver_in n e)) some) ∙ g)) running

together : (P : List Entry) → Legal P → AreTogether P
together P l = legal_induction AreTogether start step P l

-- the receiving call of an open call's transfer is open, unless its caller has ended
pub receiver_open : (P : List Entry) → Legal P → (n m : ℕ) → receiver_of P n ≡ Some m → list_any (ends n m) P ≡ false → is_over P n ≡ false → has_broken P (caller_of P m) ≡ false → is_over P m ≡ false
receiver_open P l n m pair running o lives = (together P l n m pair running).receiver o lives

-- and so the sending call
pub sender_open : (P : List Entry) → Legal P → (n m : ℕ) → receiver_of P n ≡ Some m → list_any (ends n m) P ≡ false → is_over P m ≡ false → has_broken P (caller_of P n) ≡ false → is_over P n ≡ false
sender_open P l n m pair running o lives = (together P l n m pair running).sender o lives

-- so, where neither caller has ended, one is over where the other is
pub over_together : (P : List Entry) → Legal P → (n m : ℕ) → receiver_of P n ≡ Some m → list_any (ends n m) P ≡ false → has_broken P (caller_of P n) ≡ false → has_broken P (caller_of P m) ≡ false → is_over P n ≡ is_over P m
over_together P l n m pair running first second = agree (is_over P n) (is_over P m) (λ o. receiver_open P l n m pair running o second) (λ o. sender_open P l n m pair running o first)
  where
    agree : (a b : Bool) → (a ≡ false → b ≡ false) → (b ≡ false → a ≡ false) → a ≡ b
    agree a b p q = grind arith
