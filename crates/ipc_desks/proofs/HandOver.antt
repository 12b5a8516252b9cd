-- What is handed over where a transfer ends well.
use Rattle.std.proofs.lemmas.Bool.{false≢true, true≢false, false_from_ne_true}
use Rattle.std.proofs.Common.{◌≡◌, ◌≢◌, refl, sym, ap, ◌∙◌, ℕ, ◌≤◌, ◌==◌, ◌&&◌, eqb-true, eq-eqb, if◌then◌else◌, Bool, true, false, List, ◌∷◌, length, Some, arith}
use Rattle.std.specs.List.{list_any}
use Rattle.ipc_words.specs.MsgTag.{propagates}
use Rattle.ipc_words.specs.ThreadId.{number_of}
use Rattle.ipc_history.specs.Words.{before}
use Rattle.ipc_history.specs.Entries.{calls}
use Rattle.ipc_history.specs.Calls.{is_called, caller_of, originator_of, tag_of, strings_of, buffers_of}
use Rattle.ipc_history.specs.Threads.{is_live, space_of}
use Rattle.ipc_history.specs.Matching.{before_call, is_propagated, shown_sender}
use Rattle.ipc_history.specs.Outcomes.{received}
use Rattle.ipc_history.specs.Legal.{Legal, Follows}
use Rattle.ipc_history.specs.declared.entry.Entry.{Entry}
use Rattle.ipc_history.specs.declared.entry.Entry.TheVariants.{Given, Written}
use Rattle.ipc_history.specs.declared.entry.Input.TheVariants.{Called}
use Rattle.ipc_history.specs.declared.entry.Output.TheVariants.{Began, Ended}
use Rattle.ipc_laws.proofs.Growth.{buffers_of_kept, open_is_called, strings_of_kept}
use Rattle.ipc_laws.proofs.Histories.{admitted_at, began_place, called_place, means_at}
use Rattle.ipc_laws.proofs.Moving.{paired_to}
use Rattle.ipc_laws.proofs.Numbering.{called_below, calls_called, entered, number_at}
use Rattle.ipc_laws.proofs.OneOpen.{caller_at, free_parts}
use Rattle.ipc_laws.proofs.Pairing.{legal_before, unsent_running}
use Rattle.ipc_laws.proofs.PhaseParts.{meets_parts}
use Rattle.ipc_desks.specs.Desks.{Keeps, desk_at, is_unsent}
use Rattle.ipc_desks.specs.Messages.{delivered, is_shown, message_of}
use Rattle.ipc_desks.specs.Steps.{Changed, buffers_in, emptied}
use Rattle.ipc_desks.specs.declared.desk.Desk.{Desk}
use Rattle.ipc_desks.proofs.DeskSteps.{desk_open}
use Rattle.ipc_desks.proofs.MessageLemmas.{fitting-length}
use Rattle.ipc_desks.proofs.OutputDesks.{ended_apart, passes, places_apart, untaken}
use Rattle.ipc_threads.proofs.Spaces.{before_at}

-- Whether it is propagated

-- a caller lives where it calls
caller_lived : (P : List Entry) → Legal P → (n : ℕ) → is_called P n ≡ true → is_live (before_call P n) (caller_of P n) ≡ true
unfolding before_call
caller_lived P legal n c =
    let made = called_place P n c in
    let F = made.at.front in
    let old = legal_before P legal (Given (Called n made.thread made.call)) made.at in
    let first = number_at P legal n made.thread made.call made.at in
    let none : list_any (calls n) F ≡ false = false_from_ne_true _ (λ some. let below = called_below F old n (calls_called F n some) in omega (arith, first, below)) in
    let is : before (calls n) P ≡ F = ap (before (calls n)) made.at.whole ∙ before_at (calls n) F made.at.rest (Given (Called n made.thread made.call)) none (eq-eqb n n refl) in
    let there : is_live F made.thread ≡ true = (free_parts F made.thread (entered F n made.thread made.call (admitted_at P legal (Called n made.thread made.call) made.at)).0).0 in
    rw (is, caller_at P n made.thread made.call made.is) there

-- so a message whose tag says so is propagated where it shows its VirtualSender
pub shown_is : (P : List Entry) → Legal P → (n : ℕ) → is_called P n ≡ true → is_shown (message_of P n) (shown_sender P n) ≡ is_propagated P n
unfolding message_of shown_sender is_propagated
shown_is P legal n c = go (propagates (tag_of P n)) (is_live (before_call P n) (originator_of P n)) (space_of (before_call P n) (originator_of P n) == space_of (before_call P n) (caller_of P n)) (λ same. rw same (caller_lived P legal n c)) (λ same. rw same (eq-eqb _ _ refl))
  where
    go : (a l s : Bool) → (originator_of P n ≡ caller_of P n → l ≡ true) → (originator_of P n ≡ caller_of P n → s ≡ true) → (a && (originator_of P n == (if a && l && s then originator_of P n else caller_of P n))) ≡ (a && l && s)
    go false l s f g = refl
    go true true true f g = eq-eqb _ _ refl
    go true true false f g = false_from_ne_true _ (λ e. false≢true (g (eqb-true _ _ e)))
    go true false s f g = false_from_ne_true _ (λ e. false≢true (f (eqb-true _ _ e)))

module _ (P : List Entry) (n m : ℕ) (legal : Legal P) (follows : Follows P (Written (Ended n m))) where
  -- what is delivered
  pub delivered_is : delivered m (message_of P n) (caller_of P n) (shown_sender P n) (buffers_of P m) ≡ received P n m
  unfolding message_of
  delivered_is = rw (shown_is P legal n (open_is_called P n (passes P n m legal follows).opened)) refl

  -- the strings fit the buffer strings
  pub strings_fit : length (strings_of P n) ≤ length (buffers_of P m)
  strings_fit =
      let at = began_place P n m (passes P n m legal follows).pair in
      let F = at.front in
      let R = Written (Began n m) ∷ at.rest in
      let means = means_at P legal (Began n m) at in
      let meets = meets_parts F n m means.0 in
      let strings : strings_of P n ≡ strings_of F n = ap (λ l. strings_of l n) at.whole ∙ strings_of_kept F R n (open_is_called F n meets.sends.opened) in
      let buffers : buffers_of P m ≡ buffers_of F m = ap (λ l. buffers_of l m) at.whole ∙ buffers_of_kept F R m (open_is_called F m meets.receives.opened) in
      rw (strings, buffers) (fitting-length (strings_of F n) (buffers_of F m) means.1)

  unsent : is_unsent P n ≡ true
  unfolding is_unsent
  unsent =
      let p = passes P n m legal follows in
      rw (p.opened, unsent_running P legal n m p.pair p.running, paired_to P legal n m p.pair) refl

  module _ (taken : List ℕ) (old : List Desk) (keeps : Keeps P taken old) where
    -- the message at the sender's desk, and the buffer strings at the receiver's
    pub message_there : (desk_at old (number_of (caller_of P n))).message ≡ Some (message_of P n)
    message_there = ap (λ d. d.message) (keeps.table (number_of (caller_of P n)) ∙ desk_open P legal taken n (passes P n m legal follows).opened) ∙ rw unsent refl

    buffers_at : buffers_in (desk_at old (number_of (caller_of P m))).told ≡ buffers_of P m
    buffers_at = ap (λ d. buffers_in d.told) (keeps.table (number_of (caller_of P m)) ∙ desk_open P legal taken m (passes P n m legal follows).opened_too) ∙ rw (untaken P taken old m keeps (passes P n m legal follows).opened_too, (passes P n m legal follows).opened_too) refl

    pub apart : number_of (caller_of P n) ≢ number_of (caller_of P m)
    apart = places_apart P legal n m (passes P n m legal follows).opened (passes P n m legal follows).opened_too (ended_apart P n m legal follows)

    pub buffers_there : (between : List Desk) → Changed (number_of (caller_of P n)) emptied old between → buffers_in (desk_at between (number_of (caller_of P m))).told ≡ buffers_of P m
    buffers_there between changed = ap (λ d. buffers_in d.told) (changed.beside (number_of (caller_of P m)) (λ same. apart (sym same))) ∙ buffers_at

pub message_strings : (P : List Entry) (n : ℕ) → (message_of P n).strings ≡ strings_of P n
unfolding message_of
message_strings P n = refl
