-- A call in transfer watches the thread that it sends to.
use Rattle.std.proofs.lemmas.Bool.{false≢true, true_from_ne_false}
use Rattle.std.proofs.lemmas.Option.{none-some}
use Rattle.std.proofs.Common.{◌≡◌, refl, sym, ap, ◌∙◌, subst, ℕ, zero, suc, ◌+◌, ◌<◌, Bool, true, false, List, [], ◌∷◌, length, get_or, map, Option, Some, None, arith}
use Rattle.ipc_words.specs.ThreadId.{number_of}
use Rattle.ipc_history.specs.Calls.{caller_of}
use Rattle.ipc_history.specs.Legal.{Legal}
use Rattle.ipc_history.specs.NextOutput.{abort_send}
use Rattle.ipc_history.specs.Phases.{is_over}
use Rattle.ipc_history.specs.declared.entry.Entry.{Entry}
use Rattle.ipc_history.specs.declared.entry.Output.{Output}
use Rattle.ipc_threads.specs.Slot.{Slot}
use Rattle.ipc_threads.specs.Slots.{Stands, slot_at}
use Rattle.ipc_threads.specs.Standings.{IsStanding, partner_by, standing_of}
use Rattle.ipc_threads.specs.Steps.{standing_in}
use Rattle.ipc_threads.specs.declared.kept.KeptSlots.{KeptSlots}
use Rattle.ipc_threads.specs.declared.slot.Phase.{Phase}
use Rattle.ipc_threads.specs.declared.slot.Phase.TheVariants.{Sending, Passing, Receiving, Taking}
use Rattle.ipc_threads.specs.declared.slot.Standing.{Standing}
use Rattle.ipc_threads.proofs.Holders.{standing_number}
use Rattle.ipc_threads.proofs.Overs.{over_no_abort}
use Rattle.ipc_waits.specs.FindingLaws.{AsksOnly}
use Rattle.ipc_waits.specs.Keys.{Mirrors, watches_under}
use Rattle.ipc_waits.specs.Least.{IsLeast, better_of}
use Rattle.ipc_waits.specs.Next.{slots_at}
use Rattle.ipc_waits.specs.Rules.{concerns, rule_of}
use Rattle.ipc_waits.specs.declared.queue.Wait.{Wait}
use Rattle.ipc_waits.specs.declared.rules.Rule.TheVariants.{Copies}
use Rattle.ipc_waits.proofs.Bests.{best_more}
use Rattle.ipc_waits.proofs.Concerns.{unconcerned}
use Rattle.ipc_waits.proofs.WaitFacts.{has_wait, wait_for}
use Rattle.ipc_waits.proofs.WaitLists.{in_map}

-- The places of waits

as_many : (ws : List Wait) → length (map (λ w. w.place) ws) ≡ length ws
as_many [] = refl
as_many (w ∷ ws) = ap suc (as_many ws)

place_there : (ws : List Wait) (i : ℕ) (d : Wait) → get_or (map (λ w. w.place) ws) i d.place ≡ (get_or ws i d).place
place_there [] i d = refl
place_there (w ∷ ws) zero d = refl
place_there (w ∷ ws) (suc i) d = place_there ws i d

-- one more wait
pub best_next : (f : ℕ → Option Output) (table : List Slot) (ws : List Wait) (i : ℕ) (w d : Wait) (best : Option (ℕ × Output)) → i < length ws → w ≡ get_or ws i d → IsLeast f (slots_at table (map (λ w. w.place) ws)) i best → IsLeast f (slots_at table (map (λ w. w.place) ws)) (i + 1) (better_of f (standing_in (slot_at table w.place)) best)
best_next f table ws i w d best within is least =
    let many = as_many ws in
    best_more f table (map (λ w. w.place) ws) i w.place d.place best (omega arith) (ap (λ w. w.place) is ∙ sym (place_there ws i d)) least

-- The calls in transfer

passing_watches : (s : Standing) (p : Phase) → s.phase ≡ p → concerns Copies p ≡ true → watches_under s ≡ Some (partner_by s)
passing_watches s Sending e h = absurd (false≢true h)
passing_watches s (Passing m) e h = rw e refl
passing_watches s Receiving e h = absurd (false≢true h)
passing_watches s (Taking k by bytes) e h = absurd (false≢true h)

module _ (P : List Entry) (slots : KeptSlots) (legal : Legal P) (stands : Stands P slots) (ws : List Wait) (mirrors : Mirrors watches_under slots.table ws) where
  pub copies_ask : AsksOnly P (map (λ w. w.place) ws) (rule_of Copies P)
  copies_ask n output gives = record { opened = o; placed = in_map (λ w. w.place) ws (wait_for P n (partner_by (standing_of P n))) (has_wait P slots legal stands watches_under ws mirrors n (partner_by (standing_of P n)) o watches) }
    where
      of : (b : Bool) → is_over P n ≡ b → is_over P n ≡ false
      of true e = absurd (none-some output (sym (over_no_abort P n e) ∙ gives))
      of false e = e

      o : is_over P n ≡ false
      o = of (is_over P n) refl

      standing : IsStanding P (standing_of P n)
      standing = record { opened = rw (standing_number P n) o; is = ap (standing_of P) (sym (standing_number P n)) }

      concerned : concerns Copies (standing_of P n).phase ≡ true
      concerned = true_from_ne_false _ (λ none. none-some output (sym (unconcerned Copies P legal (standing_of P n) standing none) ∙ (ap (rule_of Copies P) (standing_number P n) ∙ gives)))

      watches : watches_under (standing_of P n) ≡ Some (partner_by (standing_of P n))
      watches = passing_watches (standing_of P n) (standing_of P n).phase refl concerned
