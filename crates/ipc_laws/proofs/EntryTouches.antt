-- What one more entry makes possible, it touches: of a call that it doesn't name, whose partner it
-- doesn't end, and that isn't due by it, nothing is possible that wasn't before.
use Rattle.std.proofs.lemmas.Bool.{false≢true, or_left, or_right}
use Rattle.std.proofs.Common.{◌≡◌, refl, sym, ap, ◌∙◌, ℕ, ◌+◌, ◌*◌, Bool, true, false, ◌||◌, ◌==◌, eq-eqb, eqb-true, if◌then◌else◌, List, [], ◌∷◌, ◌++◌, Option, Some, None, unwrap_or, add-zero, ◌⊎◌, inl, inr}
use Rattle.std.specs.List.{list_any}
use Rattle.ipc_items.specs.Fit.{overflow_offset}
use Rattle.ipc_history.specs.Entries.{moment_in, breaks, calls, count_in, ends, names}
use Rattle.ipc_history.specs.Calls.{is_called, caller_of, to_of, strings_of, buffers_of, message_size}
use Rattle.ipc_history.specs.Threads.{now, has_broken}
use Rattle.ipc_history.specs.Phases.{receiver_of, sender_of, is_over, is_sending, is_transferring, is_receiving, moved_bytes}
use Rattle.ipc_history.specs.Matching.{shown_sender, from_specifier, accepts, matches}
use Rattle.ipc_history.specs.Timing.{is_due, is_due_at}
use Rattle.ipc_history.specs.NextOutput.{is_send_partner_gone, is_receive_partner_gone, is_left, meeting}
use Rattle.ipc_history.specs.Legal.{Legal, Follows}
use Rattle.ipc_history.specs.declared.entry.Entry.{Entry}
use Rattle.ipc_history.specs.declared.entry.Entry.TheVariants.{Given, Written}
use Rattle.ipc_history.specs.declared.entry.Input.TheVariants.{Called, Moved}
use Rattle.ipc_history.specs.declared.entry.Output.{Output}
use Rattle.ipc_history.specs.declared.entry.Output.TheVariants.{Began, Ended, Overflowed, Failed}
use Rattle.ipc_laws.specs.Changes.{Unchanged}
use Rattle.ipc_laws.specs.Locality.{Possible, Touched}
use Rattle.ipc_laws.specs.Locality.LosesPartner.{Sending, Waiting, Passing, Taking}
use Rattle.ipc_laws.specs.Locality.Possible.{Ends, LosesReceiver, LosesSender, LeftSending, LeftReceiving, Meets, Expires}
use Rattle.ipc_laws.specs.Locality.Touched.{Named, Lost, Due}
use Rattle.ipc_laws.proofs.Changing.{any_push, changes, others_unchanged}
use Rattle.ipc_laws.proofs.Gives.{map_or_cases}
use Rattle.ipc_laws.proofs.Growth.{buffers_of_kept, caller_of_kept, open_is_called, open_lives, size_kept, strings_of_kept, to_of_kept}
use Rattle.ipc_laws.proofs.Histories.{moving_passes}
use Rattle.ipc_laws.proofs.EntryLeaves.{had_broken, is_new, receiver_is_gone, sender_is_gone, shown_opened, space_kept}
use Rattle.ipc_laws.proofs.Moving.{transferring_whole}
use Rattle.ipc_laws.proofs.OpenCalls.{caller_opened}
use Rattle.ipc_laws.proofs.Pairing.{pair_called, receiver_of_sender}
use Rattle.ipc_laws.proofs.PhaseParts.{due_open, left_broken, left_open, left_running, meets_parts, partner_gone_receives, partner_gone_sends, passes_parts}
use Rattle.ipc_laws.proofs.Tests.{left, neither_left, neither_right, not_both}
use Rattle.ipc_laws.proofs.Together.{receiver_open, sender_open}
use Rattle.ipc_laws.proofs.Touching.{break_copies_none, other_lives}

pub calls_names : (n : ℕ) (e : Entry) → calls n e ≡ true → names n e ≡ true
calls_names n (Given (Called k thread call)) h = h
calls_names n _ h = absurd (false≢true h)

pub meeting_names : (P : List Entry) (n m x : ℕ) → names x (Written (meeting P n m)) ≡ ((n == x) || (m == x))
unfolding meeting
meeting_names P n m x = map_or_cases (λ output. names x (Written output) ≡ ((n == x) || (m == x))) (λ offset. Overflowed n m offset) (overflow_offset (strings_of P n) (buffers_of P m)) (Began n m) (λ fits. refl) (λ offset at. refl)

-- the bytes of a call whose caller has ended stay
copies_none : (P : List Entry) (k : ℕ) (e : Entry) → Follows P e → has_broken P (caller_of P k) ≡ true → count_in k e ≡ 0
unfolding Follows
copies_none P k (Given (Moved j count)) f broke = go (j == k) refl
  where
    go : (b : Bool) → (j == k) ≡ b → (if b then count else 0) ≡ 0
    go false e = refl
    go true e = let same : j ≡ k = eqb-true j k e in not_both broke (rw same at (open_lives P j (moving_passes P j count f.1).1.opened))
copies_none P k _ f broke = refl

module _ (P : List Entry) (e : Entry) (l : Legal P) (output : Output) where
  abbrev Q : List Entry
  Q = P ++ e ∷ []

  abbrev Answer : Type 0
  Answer = Possible P output ⊎ Touched P e output

  unbroken : (n : ℕ) → is_called P n ≡ true → is_over Q n ≡ false → breaks (caller_of P n) e ≡ false
  unbroken n c o = neither_right _ _ (sym ((changes P e).broken (caller_of P n)) ∙ (ap (has_broken Q) (sym (caller_of_kept P (e ∷ []) n c)) ∙ open_lives Q n o))

  -- of an open call that the output names, the entry names it, or leaves it as it was
  of_call : (n : ℕ) → is_over Q n ≡ false → names n (Written output) ≡ true → (is_called P n ≡ true → Unchanged P e n → Answer) → Answer
  of_call n o named unnamed = go (names n e) refl (is_called P n) refl
    where
      go : (b : Bool) → names n e ≡ b → (c : Bool) → is_called P n ≡ c → Answer
      go true e c is = inr (Named n e named)
      go false e true is = unnamed is (others_unchanged P _ n is e (unbroken n is o))
      go false e false is = not_both (calls_names n _ (is_new P _ n is (open_is_called Q n o))) e

  -- a transfer that hasn't ended hadn't
  running_before : (n m : ℕ) → list_any (ends n m) Q ≡ false → list_any (ends n m) P ≡ false
  running_before n m u = neither_left _ _ (sym (any_push (ends n m) P e) ∙ u)

  fails_itself : (n code : ℕ) → output ≡ Failed n code → names n (Written output) ≡ true
  fails_itself n code is = rw is (eq-eqb n n refl)

  ends_touch : (n m : ℕ) → is_transferring Q n m ≡ true → moved_bytes Q n ≡ message_size Q n → output ≡ Ended n m → Answer
  ends_touch n m t full is =
      let p = passes_parts Q n m t in
      of_call n p.opened (rw is (or_left (n == n) (m == n) (eq-eqb n n refl))) (λ cn u. of_call m p.opened_too (rw is (or_right (n == m) (m == m) (eq-eqb m m refl))) (λ cm v.
      inl (Ends n m (transferring_whole P n m (record { pair = sym u.receiver ∙ p.pair; running = running_before n m p.running; opened = sym u.over ∙ p.opened; opened_too = sym v.over ∙ p.opened_too })) (sym u.bytes ∙ (full ∙ size_kept P (e ∷ []) n cn)) is)))

  loses_receiver : (n : ℕ) → is_send_partner_gone Q n ≡ true → output ≡ Failed n 0x4 → Answer
  unfolding is_send_partner_gone
  loses_receiver n g is = of_call n (partner_gone_sends Q n g).opened (fails_itself n 0x4 is) (λ c u. go c (sym u.sending ∙ left _ _ g) (breaks (to_of P n) e) refl)
    where
      go : is_called P n ≡ true → is_sending P n ≡ true → (b : Bool) → breaks (to_of P n) e ≡ b → Answer
      go c s true b = inr (Lost (to_of P n) n 0x4 b (Sending s refl refl) is)
      go c s false b = inl (LosesReceiver n (receiver_is_gone P e n c b s g) is)

  loses_sender : (n : ℕ) → is_receive_partner_gone Q n ≡ true → output ≡ Failed n 0x5 → Answer
  unfolding is_receive_partner_gone
  loses_sender n g is = of_call n (partner_gone_receives Q n g).opened (fails_itself n 0x5 is) (λ c u. go u.wanted (sym u.receiving ∙ left _ _ (left _ _ (left _ _ g))) (breaks (from_specifier P n) e) refl)
    where
      go : from_specifier Q n ≡ from_specifier P n → is_receiving P n ≡ true → (b : Bool) → breaks (from_specifier P n) e ≡ b → Answer
      go w r true b = inr (Lost (from_specifier P n) n 0x5 b (Waiting r refl refl) is)
      go w r false b = inl (LosesSender n (sender_is_gone P e n w b r g) is)

  left_sending : (n m : ℕ) → receiver_of Q n ≡ Some m → is_left Q n n m m ≡ true → output ≡ Failed n (0xe + 16 * moved_bytes Q n) → Answer
  left_sending n m pair g is = of_call n (left_open Q n n m m g) (fails_itself n _ is) (λ c u. go (sym u.receiver ∙ pair) (sym u.over ∙ left_open Q n n m m g) (is ∙ ap (λ k. Failed n (0xe + 16 * k)) u.bytes) (is_left P n n m m) refl (breaks (caller_of P m) e) refl)
    where
      go : receiver_of P n ≡ Some m → is_over P n ≡ false → output ≡ Failed n (0xe + 16 * moved_bytes P n) → (a : Bool) → is_left P n n m m ≡ a → (b : Bool) → breaks (caller_of P m) e ≡ b → Answer
      go was o code true was_left b lives = inl (LeftSending n m was was_left code)
      go was o code false was_not true broke =
          let running = running_before n m (left_running Q n n m m g) in
          let om = receiver_open P l n m was running o (other_lives P n n m m was_not o running) in
          inr (Lost (caller_of P m) n (0xe + 16 * moved_bytes P n) broke (Passing m (transferring_whole P n m (record { pair = was; running = running; opened = o; opened_too = om })) refl refl) code)
      go was o code false was_not false lives =
          let cm = (pair_called P l n m was).1 in
          let running = running_before n m (left_running Q n n m m g) in
          not_both (had_broken P e (caller_of P m) lives (ap (has_broken Q) (sym (caller_of_kept P (e ∷ []) m cm)) ∙ left_broken Q n n m m g)) (other_lives P n n m m was_not o running)

  module _ (f : Follows P e) where
    left_receiving : (n k : ℕ) → sender_of Q n ≡ Some k → is_left Q n k n k ≡ true → output ≡ Failed n (0xf + 16 * moved_bytes Q k) → Answer
    left_receiving n k pair g is = of_call n (left_open Q n k n k g) (fails_itself n _ is) (λ c u. go (sym u.sender ∙ pair) (sym u.over ∙ left_open Q n k n k g) (is_left P n k n k) refl (breaks (caller_of P k) e) refl)
      where
        code : count_in k e ≡ 0 → output ≡ Failed n (0xf + 16 * moved_bytes P k)
        code none = is ∙ ap (λ j. Failed n (0xf + 16 * j)) ((changes P e).bytes k ∙ (ap (λ j. moved_bytes P k + j) none ∙ add-zero (moved_bytes P k)))

        go : sender_of P n ≡ Some k → is_over P n ≡ false → (a : Bool) → is_left P n k n k ≡ a → (b : Bool) → breaks (caller_of P k) e ≡ b → Answer
        go from o true was_left b lives = inl (LeftReceiving n k from was_left (code (copies_none P k e f (left_broken P n k n k was_left))))
        go from o false was_not true broke =
            let was = receiver_of_sender P l k n from in
            let running = running_before k n (left_running Q n k n k g) in
            let ok = sender_open P l k n was running o (other_lives P n k n k was_not o running) in
            inr (Lost (caller_of P k) n (0xf + 16 * moved_bytes P k) broke (Taking k (transferring_whole P k n (record { pair = was; running = running; opened = ok; opened_too = o })) refl refl) (code (break_copies_none (caller_of P k) k e broke)))
        go from o false was_not false lives =
            let ck = (pair_called P l k n (receiver_of_sender P l k n from)).0 in
            let running = running_before k n (left_running Q n k n k g) in
            not_both (had_broken P e (caller_of P k) lives (ap (has_broken Q) (sym (caller_of_kept P (e ∷ []) k ck)) ∙ left_broken Q n k n k g)) (other_lives P n k n k was_not o running)

  -- two calls that the entry leaves as they were meet where they met
  matched : (n m : ℕ) → is_called P n ≡ true → is_called P m ≡ true → Unchanged P e n → Unchanged P e m → matches Q n m ≡ true → matches P n m ≡ true
  unfolding matches accepts
  matched n m cn cm u v h = rw (u.sending, v.receiving, to_of_kept P (e ∷ []) n cn, caller_of_kept P (e ∷ []) m cm, caller_of_kept P (e ∷ []) n cn, u.shown, v.wanted, space_kept P e (shown_sender P n) (shown_opened P l n cn), space_kept P e (caller_of P m) (caller_opened P l m cm)) at h

  same_meeting : (n m : ℕ) → is_called P n ≡ true → is_called P m ≡ true → meeting Q n m ≡ meeting P n m
  unfolding meeting
  same_meeting n m cn cm = rw (strings_of_kept P (e ∷ []) n cn, buffers_of_kept P (e ∷ []) m cm) refl

  meets : (n m : ℕ) → matches Q n m ≡ true → output ≡ meeting Q n m → Answer
  meets n m g is =
      let p = meets_parts Q n m g in
      of_call n p.sends.opened (rw is (meeting_names Q n m n ∙ or_left (n == n) (m == n) (eq-eqb n n refl))) (λ cn u. of_call m p.receives.opened (rw is (meeting_names Q n m m ∙ or_right (n == m) (m == m) (eq-eqb m m refl))) (λ cm v. inl (Meets n m (matched n m cn cm u v g) (is ∙ same_meeting n m cn cm))))

  expires : (n : ℕ) → is_due Q n ≡ true → output ≡ Failed n (if is_sending Q n then 0x2 else 0x3) → Answer
  unfolding is_due
  expires n g is = of_call n (due_open Q n g) (fails_itself n _ is) (λ c u. go u (is ∙ ap (λ b. Failed n (if b then 0x2 else 0x3)) u.sending) (moment_in e) refl)
    where
      go : Unchanged P e n → output ≡ Failed n (if is_sending P n then 0x2 else 0x3) → (o : Option ℕ) → moment_in e ≡ o → Answer
      go u code None still = inl (Expires n (sym (u.due (now P)) ∙ (ap (λ moment. is_due_at Q moment n) (sym ((changes P e).moment ∙ ap (λ o. unwrap_or o (now P)) still)) ∙ g)) code)
      go u code (Some moment) comes = inr (Due moment n comes (sym (u.due moment) ∙ (ap (λ moment. is_due_at Q moment n) (sym ((changes P e).moment ∙ ap (λ o. unwrap_or o (now P)) comes)) ∙ g)) code)

pub entries_touch : (P : List Entry) (e : Entry) → Legal P → Follows P e → (output : Output) → Possible (P ++ e ∷ []) output → Possible P output ⊎ Touched P e output
entries_touch P e l f output (Ends n m t full is) = ends_touch P e l output n m t full is
entries_touch P e l f output (LosesReceiver n g is) = loses_receiver P e l output n g is
entries_touch P e l f output (LosesSender n g is) = loses_sender P e l output n g is
entries_touch P e l f output (LeftSending n m pair g is) = left_sending P e l output n m pair g is
entries_touch P e l f output (LeftReceiving n k pair g is) = left_receiving P e l output f n k pair g is
entries_touch P e l f output (Meets n m g is) = meets P e l output n m g is
entries_touch P e l f output (Expires n g is) = expires P e l output n g is
