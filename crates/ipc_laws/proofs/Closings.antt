-- What closes calls makes nothing possible: so after a Broke come only failures of its partners,
-- after an At of what is due.
use Rattle.std.proofs.lemmas.Bool.{false≢true, or_right}
use Rattle.std.proofs.lemmas.Option.{none-some, same_Some}
use Rattle.std.proofs.Common.{◌≡◌, refl, sym, subst, ◌∙◌, ℕ, ◌≤◌, zero-le, true, false, ◌&&◌, ◌==◌, if◌then◌else◌, List, [], ◌∷◌, ◌++◌, append_assoc, length, map, Some, None, inl, inr, arith}
use Rattle.std.specs.List.{list_any}
use Rattle.ipc_words.specs.Control.{stops_receive, stops_send}
use Rattle.ipc_history.specs.Entries.{closes, names}
use Rattle.ipc_history.specs.Threads.{is_live, space_of}
use Rattle.ipc_history.specs.Phases.{receiver_of, sender_of, is_over, open_call, is_sending, is_transferring, is_receiving, moved_bytes}
use Rattle.ipc_history.specs.Timing.{is_due_at}
use Rattle.ipc_history.specs.NextOutput.{abort_send, abort_receive, stop, stop_send, stop_receive, stop_after, turn_after, next_output}
use Rattle.ipc_history.specs.Legal.{Legal, Quiet, Follows}
use Rattle.ipc_history.specs.declared.entry.Entry.{Entry}
use Rattle.ipc_history.specs.declared.entry.Entry.TheVariants.{Given, Written}
use Rattle.ipc_history.specs.declared.entry.Input.TheVariants.{At, Broke, Exreg}
use Rattle.ipc_history.specs.declared.entry.Output.{Output}
use Rattle.ipc_history.specs.declared.entry.Output.TheVariants.{Aborted, Failed}
use Rattle.ipc_laws.specs.Locality.{LosesPartner, Possible, Touched}
use Rattle.ipc_laws.specs.Locality.Possible.{Ends, LosesReceiver, LosesSender, LeftSending, LeftReceiving, Meets, Expires}
use Rattle.ipc_laws.specs.Locality.Touched.{Named, Lost, Due}
use Rattle.ipc_laws.proofs.Changing.{any_push}
use Rattle.ipc_laws.proofs.Comes.{comes, later_output}
use Rattle.ipc_laws.proofs.EntryTouches.{entries_touch, meeting_names}
use Rattle.ipc_laws.proofs.Gives.{Gives, Gives-and_then, Gives-at, Gives-if, Gives-or}
use Rattle.ipc_laws.proofs.Gives.Gives.{Nothing, This}
use Rattle.ipc_laws.proofs.Histories.{follows_at, legal_front, named_alone, named_by}
use Rattle.ipc_laws.proofs.InputLaws.{broke_possible, exreg_brings, later_possible}
use Rattle.ipc_laws.proofs.Order.{closed_over}
use Rattle.ipc_laws.proofs.PhaseParts.{due_open, left_open, meets_parts, partner_gone_receives, partner_gone_sends, passes_parts}
use Rattle.ipc_laws.proofs.Resting.{none_possible}
use Rattle.ipc_laws.proofs.Settling.{written_follows}
use Rattle.ipc_laws.proofs.Tests.{not_both}
use Rattle.ipc_laws.proofs.WordLemmas.{last_some_push}

-- what is possible names open calls alone
possible_open : (P : List Entry) (output : Output) → Possible P output → (n : ℕ) → names n (Written output) ≡ true → is_over P n ≡ false
possible_open P output (Ends a b t full is) n named = let p = passes_parts P a b t in named_by P n a b p.opened p.opened_too (subst (λ o. names n (Written o) ≡ true) is named)
possible_open P output (LosesReceiver a g is) n named = named_alone P n a (partner_gone_sends P a g).opened (subst (λ o. names n (Written o) ≡ true) is named)
possible_open P output (LosesSender a g is) n named = named_alone P n a (partner_gone_receives P a g).opened (subst (λ o. names n (Written o) ≡ true) is named)
possible_open P output (LeftSending a b pair g is) n named = named_alone P n a (left_open P a a b b g) (subst (λ o. names n (Written o) ≡ true) is named)
possible_open P output (LeftReceiving a b pair g is) n named = named_alone P n a (left_open P a b a b g) (subst (λ o. names n (Written o) ≡ true) is named)
possible_open P output (Meets a b g is) n named = let p = meets_parts P a b g in named_by P n a b p.sends.opened p.receives.opened (sym (meeting_names P a b n) ∙ subst (λ o. names n (Written o) ≡ true) is named)
possible_open P output (Expires a g is) n named = named_alone P n a (due_open P a g) (subst (λ o. names n (Written o) ≡ true) is named)

pub closings_open_nothing : (P : List Entry) (closing : Output) → Legal P → next_output P ≡ Some closing → ((n : ℕ) → names n (Written closing) ≡ true → closes n (Written closing) ≡ true) → (output : Output) → Possible (P ++ Written closing ∷ []) output → Possible P output
closings_open_nothing P closing l next closed output possible = elim (entries_touch P (Written closing) l (written_follows P closing next) output possible) [ inl before ↦ before | inr touched ↦ absurd (never touched) ]
  where
    never : Touched P (Written closing) output → ⊥
    never (Named n a b) =
        let over = closed_over (P ++ Written closing ∷ []) n (any_push (closes n) P (Written closing) ∙ or_right (list_any (closes n) P) _ (closed n a)) in
        not_both over (possible_open (P ++ Written closing ∷ []) output possible n b)
    never (Lost thread n code b why is) = false≢true b
    never (Due moment n comes due is) = none-some moment comes

after_written : (P : List Entry) (o : Output) → turn_after (P ++ Written o ∷ []) (Written o) ≡ None → next_output (P ++ Written o ∷ []) ≡ later_output (P ++ Written o ∷ [])
unfolding next_output stop_after
after_written P o none = rw (last_some_push {Y = Entry} (λ e. Some e) P (Written o), none) refl

-- so what comes behind it was possible before it
record ClosesAll (o : Output) : Type 0 where
  pub closed : (n : ℕ) → names n (Written o) ≡ true → closes n (Written o) ≡ true
  pub unturned : (Q : List Entry) → turn_after Q (Written o) ≡ None

behind_closing : (P : List Entry) (o : Output) → Legal P → next_output P ≡ Some o → ClosesAll o → (output : Output) → next_output (P ++ Written o ∷ []) ≡ Some output → Possible P output
behind_closing P o l next closes output e = closings_open_nothing P o l next closes.closed output (comes (P ++ Written o ∷ []) output (sym (after_written P o (closes.unturned (P ++ Written o ∷ []))) ∙ e))

failed_closes : (n code : ℕ) → ClosesAll (Failed n code)
unfolding turn_after
failed_closes n code = record { closed = λ k named. named; unturned = λ Q. refl }

aborted_closes : (n m count : ℕ) → ClosesAll (Aborted n m count)
unfolding turn_after
aborted_closes n m count = record { closed = λ k named. named; unturned = λ Q. refl }

-- where all that is possible are failures of a kind, all outputs that come are of that kind
module _ (Kind : Output → Type 0) (fails : (output : Output) → Kind output → (n : ℕ) × (code : ℕ) × (output ≡ Failed n code)) where
  all_of_kind : (front : List Output) (P : List Entry) (rest : List Output) (output : Output) → Legal (P ++ map Written (front ++ output ∷ rest)) → ((x : Output) → next_output P ≡ Some x → Possible P x) → ((x : Output) → Possible P x → Kind x) → Kind output
  unfolding Follows
  all_of_kind [] P rest output h comes kind = kind output (comes output (follows_at _ h (Written output) (record { front = P; rest = map Written rest; whole = refl })))
  all_of_kind (x ∷ front) P rest output h next kind =
      let follows : next_output P ≡ Some x = follows_at _ h (Written x) (record { front = P; rest = map Written (front ++ output ∷ rest); whole = refl }) in
      let l = legal_front P _ h in
      let f = fails x (kind x (next x follows)) in
      let h' : Legal ((P ++ Written x ∷ []) ++ map Written (front ++ output ∷ rest)) = rw (append_assoc P (Written x ∷ []) (map Written (front ++ output ∷ rest))) h in
      let all = subst ClosesAll (sym f.2) (failed_closes f.0 f.1) in
      all_of_kind front (P ++ Written x ∷ []) rest output h' (λ y e. comes (P ++ Written x ∷ []) y (sym (after_written P x (all.unturned (P ++ Written x ∷ []))) ∙ e)) (λ y possible. kind y (closings_open_nothing P x l follows all.closed y possible))

pub broke_only_fails : (P : List Entry) (thread : ℕ) (front rest : List Output) (output : Output) → Legal (P ++ Given (Broke thread) ∷ map Written (front ++ output ∷ rest)) → (n : ℕ) × (code : ℕ) × (output ≡ Failed n code) × LosesPartner P thread n code
unfolding Follows stop_after
broke_only_fails P thread front rest output h =
    let e : Entry = Given (Broke thread) in
    let follows : Follows P e = follows_at _ h e (record { front = P; rest = map Written (front ++ output ∷ rest); whole = refl }) in
    let h' : Legal ((P ++ e ∷ []) ++ map Written (front ++ output ∷ rest)) = rw (append_assoc P (e ∷ []) (map Written (front ++ output ∷ rest))) h in
    all_of_kind (λ o. (n : ℕ) × (code : ℕ) × (o ≡ Failed n code) × LosesPartner P thread n code) (λ o k. (k.0, k.1, k.2)) front (P ++ e ∷ []) rest output h' (later_possible P (Broke thread) refl) (broke_possible P thread (legal_front P _ h) follows.0)

at_possible : (P : List Entry) (moment : ℕ) → Legal P → Quiet P → Follows P (Given (At moment)) → (output : Output) → Possible (P ++ Given (At moment) ∷ []) output → (n : ℕ) × (output ≡ Failed n (if is_sending P n then 0x2 else 0x3)) × (is_due_at P moment n ≡ true)
at_possible P moment l q f output possible = elim (entries_touch P (Given (At moment)) l f output possible) [ inl before ↦ absurd (none_possible P q output before) | inr touched ↦ go touched ]
  where
    go : Touched P (Given (At moment)) output → (n : ℕ) × (output ≡ Failed n (if is_sending P n then 0x2 else 0x3)) × (is_due_at P moment n ≡ true)
    go (Named n a b) = absurd (false≢true a)
    go (Lost thread n code b why is) = absurd (false≢true b)
    go (Due there n comes due is) = let same : moment ≡ there = same_Some moment there comes in (n, is, subst (λ t. is_due_at P t n ≡ true) (sym same) due)

pub at_only_fails : (P : List Entry) (moment : ℕ) (front rest : List Output) (output : Output) → Legal (P ++ Given (At moment) ∷ map Written (front ++ output ∷ rest)) → (n : ℕ) × (output ≡ Failed n (if is_sending P n then 0x2 else 0x3)) × (is_due_at P moment n ≡ true)
unfolding Follows stop_after
at_only_fails P moment front rest output h =
    let e : Entry = Given (At moment) in
    let follows : Follows P e = follows_at _ h e (record { front = P; rest = map Written (front ++ output ∷ rest); whole = refl }) in
    let h' : Legal ((P ++ e ∷ []) ++ map Written (front ++ output ∷ rest)) = rw (append_assoc P (e ∷ []) (map Written (front ++ output ∷ rest))) h in
    all_of_kind (λ o. (n : ℕ) × (o ≡ Failed n (if is_sending P n then 0x2 else 0x3)) × (is_due_at P moment n ≡ true)) (λ o k. (k.0, _, k.1)) front (P ++ e ∷ []) rest output h' (later_possible P (At moment) refl) (at_possible P moment (legal_front P _ h) follows.0 follows)

-- What an ExchangeRegisters stops is closed, and then nothing comes

stop_closes : (P : List Entry) (control c : ℕ) → Gives ClosesAll (stop P control c)
unfolding stop stop_send stop_receive abort_send abort_receive
stop_closes P control c = Gives-or
    (Gives-if (stops_send control) _ _ (λ s. Gives-if (is_sending P c) _ _ (λ p. This (failed_closes c 0x6)) (λ n. Gives-and_then _ (receiver_of P c) (λ m r. Gives-if (is_transferring P c m) _ _ (λ t. This (aborted_closes c m (moved_bytes P c))) (λ t. Nothing)))) (λ s. Nothing))
    (Gives-if (stops_receive control) _ _ (λ s. Gives-if (is_receiving P c) _ _ (λ p. This (failed_closes c 0x7)) (λ n. Gives-and_then _ (sender_of P c) (λ k r. Gives-if (is_transferring P k c) _ _ (λ t. This (aborted_closes k c (moved_bytes P k))) (λ t. Nothing)))) (λ s. Nothing))

stop_after_closes : (P : List Entry) (thread target control : ℕ) → Gives ClosesAll (stop_after P (Given (Exreg thread target control)))
unfolding stop_after
stop_after_closes P thread target control = Gives-if (is_live P target && (space_of P target == space_of P thread)) _ _ (λ p. Gives-and_then _ (open_call P target) (λ c e. stop_closes P control c)) (λ p. Nothing)

pub exreg_once : (P : List Entry) (thread target control : ℕ) (outputs : List Output) → Legal (P ++ Given (Exreg thread target control) ∷ map Written outputs) → length outputs ≤ 1
unfolding Follows
exreg_once P thread target control [] h = zero-le
exreg_once P thread target control (o ∷ []) h = omega arith
exreg_once P thread target control (o ∷ x ∷ rest) h =
    let e : Entry = Given (Exreg thread target control) in
    let h' : Legal ((P ++ e ∷ []) ++ map Written (o ∷ x ∷ rest)) = rw (append_assoc P (e ∷ []) (map Written (o ∷ x ∷ rest))) h in
    let h'' : Legal (((P ++ e ∷ []) ++ Written o ∷ []) ++ map Written (x ∷ rest)) = rw (append_assoc (P ++ e ∷ []) (Written o ∷ []) (map Written (x ∷ rest))) h' in
    let follows : Follows P e = follows_at _ h e (record { front = P; rest = map Written (o ∷ x ∷ rest); whole = refl }) in
    let first : next_output (P ++ e ∷ []) ≡ Some o = follows_at _ h' (Written o) (record { front = P ++ e ∷ []; rest = map Written (x ∷ rest); whole = refl }) in
    let second : next_output ((P ++ e ∷ []) ++ Written o ∷ []) ≡ Some x = follows_at _ h'' (Written x) (record { front = (P ++ e ∷ []) ++ Written o ∷ []; rest = map Written rest; whole = refl }) in
    let closes = Gives-at _ o (stop_after_closes P thread target control) (sym (exreg_brings P thread target control follows.0) ∙ first) in
    let possible = behind_closing (P ++ e ∷ []) o (legal_front (P ++ e ∷ []) _ h') first closes x second in
    absurd (elim (entries_touch P e (legal_front P _ h) follows x possible) [ inl before ↦ none_possible P follows.0 x before | inr touched ↦ never touched ])
  where
    never : Touched P (Given (Exreg thread target control)) x → ⊥
    never (Named n a b) = false≢true a
    never (Lost t n code b why is) = false≢true b
    never (Due moment n comes due is) = none-some moment comes
