-- A call is in at most one phase.
use Rattle.std.proofs.lemmas.Bool.{or_cases}
use Rattle.std.proofs.lemmas.Option.{none-some}
use Rattle.std.proofs.Common.{◌≡◌, refl, sym, ap, ◌∙◌, ℕ, ◌+◌, ◌≤◌, Bool, true, false, ◌||◌, ◌==◌, List, Some, inl, inr, arith}
use Rattle.ipc_words.specs.ThreadId.{nilthread}
use Rattle.std.specs.List.{list_any}
use Rattle.ipc_history.specs.Entries.{ends}
use Rattle.ipc_history.specs.Calls.{to_of}
use Rattle.ipc_history.specs.Phases.{is_sent, receiver_of, is_sending, is_transferring, is_receiving}
use Rattle.ipc_history.specs.Legal.{Legal}
use Rattle.ipc_laws.specs.Laws.{one_if}
use Rattle.ipc_history.specs.declared.entry.Entry.{Entry}
use Rattle.ipc_laws.proofs.Growth.{is_sent_kept, open_is_called, to_of_kept}
use Rattle.ipc_laws.proofs.Histories.{began_place}
use Rattle.ipc_laws.proofs.Moving.{paired_to}
use Rattle.ipc_laws.proofs.Pairing.{meets_at, sender_of_receiver, unsent_running, unsent_unpaired}
use Rattle.ipc_laws.proofs.PhaseParts.{Receives, Sends, passes_parts, receives_parts, sends_parts}
use Rattle.ipc_laws.proofs.Tests.{not_both}

-- a call that waits to receive, or receives, has nothing to send or has sent it
abbrev pub Turned : List Entry → ℕ → Type 0
Turned H n = ((to_of H n == nilthread) || is_sent H n) ≡ true

pub unsent_apart : (H : List Entry) (n : ℕ) → (to_of H n == nilthread) ≡ false → is_sent H n ≡ false → Turned H n → ⊥
unsent_apart H n t s h = elim (or_cases _ _ h) [ inl a ↦ not_both a t | inr b ↦ not_both b s ]

module _ (H : List Entry) (h : Legal H) where
  pub sends_apart : (n : ℕ) → Sends H n → Turned H n → ⊥
  sends_apart n s t = unsent_apart H n s.named (unsent_unpaired H h n s.unpaired) t

  pub passes_apart : (n m : ℕ) → receiver_of H n ≡ Some m → list_any (ends n m) H ≡ false → Turned H n → ⊥
  passes_apart n m pair running t = unsent_apart H n (paired_to H h n m pair) (unsent_running H h n m pair running) t

  pub receiver_turned : (k n : ℕ) → receiver_of H k ≡ Some n → Turned H n
  receiver_turned k n pair =
      let at = began_place H k n pair in
      let r = (meets_at H h k n at).receives in
      let c = open_is_called at.front n r.opened in
      let same : to_of H n ≡ to_of at.front n = ap (λ l. to_of l n) at.whole ∙ to_of_kept at.front _ n c in
      kept (to_of at.front n == nilthread) (is_sent at.front n) (to_of H n == nilthread) (is_sent H n) (ap (λ t. t == nilthread) same) (λ s. ap (λ l. is_sent l n) at.whole ∙ is_sent_kept at.front _ n s) r.turned
    where
      kept : (a b c d : Bool) → c ≡ a → (b ≡ true → d ≡ true) → (a || b) ≡ true → (c || d) ≡ true
      kept true b c d e k g = rw e refl
      kept false b c d e k g = rw (e, k g) refl

  -- of four tests of which no two hold, at most one does
  four_apart : (a b c d : Bool) → (a ≡ true → b ≡ true → ⊥) → (a ≡ true → c ≡ true → ⊥) → (a ≡ true → d ≡ true → ⊥) → (b ≡ true → c ≡ true → ⊥) → (b ≡ true → d ≡ true → ⊥) → (c ≡ true → d ≡ true → ⊥) → one_if a + one_if b + one_if c + one_if d ≤ 1
  four_apart a b c d ab ac ad bc bd cd = grind arith

  pub one_phase : (n m k : ℕ) → one_if (is_sending H n) + one_if (is_transferring H n m) + one_if (is_receiving H n) + one_if (is_transferring H k n) ≤ 1
  one_phase n m k = four_apart (is_sending H n) (is_transferring H n m) (is_receiving H n) (is_transferring H k n)
      (λ s p. none-some m (sym (sends_parts H n n s).unpaired ∙ (passes_parts H n m p).pair))
      (λ s r. sends_apart n (sends_parts H n n s) (turned (receives_parts H n n r)))
      (λ s q. sends_apart n (sends_parts H n n s) (receiver_turned k n (passes_parts H k n q).pair))
      (λ p r. passes_apart n m (passes_parts H n m p).pair (passes_parts H n m p).running (turned (receives_parts H n n r)))
      (λ p q. passes_apart n m (passes_parts H n m p).pair (passes_parts H n m p).running (receiver_turned k n (passes_parts H k n q).pair))
      (λ r q. none-some k (sym (receives_parts H n n r).unpaired ∙ sender_of_receiver H h k n (passes_parts H k n q).pair))
    where
      turned : Receives H n → Turned H n
      turned r = r.turned
