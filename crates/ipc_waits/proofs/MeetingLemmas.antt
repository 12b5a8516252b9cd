-- The meetings under the calls at some places.
use Rattle.std.proofs.lemmas.Bool.{cases_order, false≢true, or_left, or_right}
use Rattle.std.proofs.lemmas.Option.{none-some, same_Some}
use Rattle.std.proofs.Common.{All, ◌≡◌, refl, sym, ap, ◌∙◌, subst, ℕ, zero, suc, ◌+◌, ◌<◌, ◌==◌, ◌&&◌, Bool, true, false, not, List, [], ◌∷◌, length, map, get_or, drop, Option, Some, None, find, is_some, option_map, option_and_then, eqb-true, cond, ◌≤◌, inl, inr, arith, if◌then◌else◌}
use Rattle.std.proofs.lemmas.List.{drop_all}
use Rattle.std.specs.Option.{option_map_or, option_or}
use Rattle.ipc_words.specs.ThreadId.{number_of}
use Rattle.ipc_history.specs.Words.{first_some}
use Rattle.ipc_history.specs.Calls.{numbers, caller_of, to_of}
use Rattle.ipc_history.specs.Legal.{Legal}
use Rattle.ipc_history.specs.Matching.{accepts, shown_sender}
use Rattle.ipc_history.specs.NextOutput.{meeting, meeting_of}
use Rattle.ipc_history.specs.Phases.{is_over, is_receiving, is_sending, open_call}
use Rattle.ipc_history.specs.declared.entry.Entry.{Entry}
use Rattle.ipc_history.specs.declared.entry.Output.{Output}
use Rattle.ipc_laws.proofs.CallOrder.{is_open_call}
use Rattle.ipc_laws.proofs.Tests.{left, right}
use Rattle.ipc_waits.specs.Finding.{CoversAt, senders, sends_to, source_of}
use Rattle.ipc_waits.proofs.Among.{numbers_rise}
use Rattle.ipc_waits.proofs.AtPlaces.{found_at, source_is_sender}
use Rattle.ipc_waits.proofs.Lists.{rising_filter}
use Rattle.ipc_waits.specs.Least.{IsFound, earlier}
use Rattle.ipc_waits.specs.Rules.{waits_to_receive}
use Rattle.ipc_threads.specs.Standings.{IsStanding, standing_of}
use Rattle.ipc_threads.specs.Slots.{Stands, slot_at}
use Rattle.ipc_threads.specs.Steps.{standing_in}
use Rattle.ipc_threads.specs.declared.slot.Phase.{Phase}
use Rattle.ipc_threads.specs.declared.slot.Phase.TheVariants.{Sending, Passing, Receiving, Taking}
use Rattle.ipc_threads.specs.Slot.{Slot}
use Rattle.ipc_threads.specs.declared.slot.Standing.{Standing}
use Rattle.ipc_threads.specs.declared.kept.KeptSlots.{KeptSlots}
use Rattle.ipc_waits.proofs.Betters.{earlier_found, earlier_gives, earlier_keeps}
use Rattle.ipc_threads.proofs.Holders.{slot_of_call, slot_standing, standing_number}
use Rattle.ipc_waits.proofs.LeastLemmas.{first_found}
use Rattle.ipc_waits.proofs.Meets.{match_is, receiving_kept}
use Rattle.ipc_threads.proofs.Overs.{over_no_meeting}
use Rattle.ipc_waits.specs.Keys.{Mirrors, sends_under}
use Rattle.ipc_waits.specs.Next.{IsLeastMeeting, IsOpenAt, better_meeting, meeting_by, meeting_under, slots_at}
use Rattle.ipc_waits.specs.Queues.{IsOrdered, is_in, is_same, under}
use Rattle.ipc_waits.specs.declared.queue.Wait.{Wait}
use Rattle.ipc_waits.proofs.Bests.{seen_there, slot_there}
use Rattle.ipc_waits.proofs.WaitFacts.{sender_is, senders_are, under_is, wait_of}
use Rattle.ipc_waits.proofs.Sames.{same_itself}
use Rattle.ipc_waits.proofs.WaitLists.{IsSorted, all_in, find_mapped, rising_sorted, same_find, under_sorted, under_twice}

-- The best of the meetings

pub least_meeting_none : (P : List Entry) (table : List Slot) → IsLeastMeeting P table 0 None
least_meeting_none P table = record { seen = λ k within s e m g. absurd (omega arith); is = λ b e. absurd (none-some b e) }

-- the meeting under a call is that of its sending call
under_gives : (P : List Entry) (n : ℕ) (m : ℕ × Output) → meeting_under P n ≡ Some m → meeting_of P m.0 ≡ Some m.1
under_gives P n m e = go (source_of P n) e
  where
    by : (k : ℕ) (o : Option Output) → meeting_of P k ≡ o → option_map (λ output. (k, output)) o ≡ Some m → meeting_of P m.0 ≡ Some m.1
    by k None g e = absurd (none-some m e)
    by k (Some y) g e = let same : (k, y) ≡ m = same_Some (k, y) m e in rw (← same) g

    go : (o : Option ℕ) → option_and_then (meeting_by P) o ≡ Some m → meeting_of P m.0 ≡ Some m.1
    go None e = absurd (none-some m e)
    go (Some k) e = by k (meeting_of P k) refl e

-- one more slot
module _ (P : List Entry) (table : List Slot) (i : ℕ) (best : Option (ℕ × Output)) (least : IsLeastMeeting P table i best) where
  better_seen : (held : Option Standing) (n : ℕ) → IsFound best n → IsFound (better_meeting P held best) n
  better_seen None n found = found
  better_seen (Some s) n found = go (meeting_under P s.number)
    where
      go : (o : Option (ℕ × Output)) → IsFound (option_map_or (λ m. earlier best m.0 m.1) o best) n
      go None = found
      go (Some m) = earlier_keeps best m.0 m.1 n found

  better_is : (held : Option Standing) (b : ℕ × Output) → better_meeting P held best ≡ Some b → meeting_of P b.0 ≡ Some b.1
  better_is None b e = least.is b e
  better_is (Some s) b e = go (meeting_under P s.number) refl e
    where
      go : (o : Option (ℕ × Output)) → meeting_under P s.number ≡ o → option_map_or (λ m. earlier best m.0 m.1) o best ≡ Some b → meeting_of P b.0 ≡ Some b.1
      go None g e = least.is b e
      go (Some m) g e = earlier_gives (meeting_of P) best m.0 m.1 least.is (under_gives P s.number m g) b e

  pub least_meeting_more : IsLeastMeeting P table (i + 1) (better_meeting P (standing_in (slot_at table i)) best)
  least_meeting_more = record {
    seen = λ k within s e m g. elim (cases_order k i) [
      | inl same ↦ (
          let here : standing_in (slot_at table i) ≡ Some s = ap (λ k. standing_in (slot_at table k)) (sym same) ∙ e in
          rw (here, g) (earlier_found best m.0 m.1))
      | inr (inl less) ↦ better_seen (standing_in (slot_at table i)) m.0 (least.seen k less s e m g)
      | inr (inr more) ↦ absurd (omega arith)
    ];
    is = better_is (standing_in (slot_at table i));
  }

-- one more place
pub meeting_more : (P : List Entry) (table : List Slot) (places : List ℕ) (i place d : ℕ) (best : Option (ℕ × Output)) → i < length places → place ≡ get_or places i d → IsLeastMeeting P (slots_at table places) i best → IsLeastMeeting P (slots_at table places) (i + 1) (better_meeting P (standing_in (slot_at table place)) best)
meeting_more P table places i place d best within is least =
    let there : slot_at (slots_at table places) i ≡ slot_at table place = slot_there table places i d within ∙ ap (slot_at table) (sym is) in
    subst (λ slot. IsLeastMeeting P (slots_at table places) (i + 1) (better_meeting P (standing_in slot) best)) there (least_meeting_more P (slots_at table places) i best least)

-- so the best is the meeting of the least sending call
pub meeting_is : (P : List Entry) (slots : KeptSlots) (places : List ℕ) (best : Option (ℕ × Output)) → Legal P → Stands P slots → CoversAt P places → IsLeastMeeting P (slots_at slots.table places) (length places) best → first_some (meeting_of P) (numbers P) ≡ option_map (λ b. b.1) best
meeting_is P slots places best legal stands covers least = first_found P legal (meeting_of P) (over_no_meeting P) best least.is found
  where
    found : (n : ℕ) (y : Output) → meeting_of P n ≡ Some y → ((k : ℕ) → k < n → meeting_of P k ≡ None) → IsFound best n
    found n y gives none =
        let at = (found_at P places legal covers).meets n y gives none in
        let i = seen_there P slots legal stands places at.0 at.1.opened at.1.placed in
        let met : meeting_under P (standing_of P at.0).number ≡ Some (n, y) = ap (meeting_under P) (standing_number P at.0) ∙ (ap (option_and_then (meeting_by P)) at.2 ∙ ap (option_map (λ output. (n, output))) gives) in
        least.seen i.0 i.1 (standing_of P at.0) i.2 (n, y) met

-- The meeting of a waiting send

number_is : (P : List Entry) (s : Standing) (n : ℕ) → s ≡ standing_of P n → s.number ≡ n
number_is P s n e = ap (λ s. s.number) e ∙ standing_number P n

module _ (P : List Entry) (slots : KeptSlots) (legal : Legal P) (stands : Stands P slots) (w : Wait) (there : IsOpenAt P w) where
  held_there : standing_in (slot_at slots.table w.place) ≡ Some (standing_of P w.number)
  held_there = ap (λ k. standing_in (slot_at slots.table k)) (sym there.place) ∙ (ap standing_in (stands.table (number_of (caller_of P w.number))) ∙ slot_of_call P legal w.number there.opened)

  pub none_there : standing_in (slot_at slots.table w.place) ≡ None → ⊥
  none_there e = none-some (standing_of P w.number) (sym e ∙ held_there)

  pub call_there : (s : Standing) → standing_in (slot_at slots.table w.place) ≡ Some s → (s.number ≡ w.number) × IsStanding P s
  call_there s e =
      let same : standing_of P w.number ≡ s = same_Some (standing_of P w.number) s (sym held_there ∙ e) in
      (number_is P s w.number (sym same), slot_standing P slots stands w.place s e)

-- the rest of a list
drop_at : {X : Type 0} (xs : List X) (i : ℕ) (d : X) → i < length xs → drop i xs ≡ get_or xs i d ∷ drop (suc i) xs
drop_at [] i d within = absurd (omega arith)
drop_at (x ∷ xs) zero d within = refl
drop_at (x ∷ xs) (suc i) d within = drop_at xs i d (omega arith)

drop_next : {X : Type 0} (xs : List X) (i : ℕ) (d : X) → i < length xs → drop i xs ≡ get_or xs i d ∷ drop (i + 1) xs
drop_next xs i d within = let next : suc i ≡ i + 1 = omega arith in drop_at xs i d within ∙ ap (λ k. get_or xs i d ∷ drop k xs) next

abbrev pub MeetsFrom : List Entry → List Wait → ℕ → Type 0
MeetsFrom P senders i = first_some (meeting_by P) (map (λ w. w.number) senders) ≡ first_some (meeting_by P) (map (λ w. w.number) (drop i senders))

first_step : (P : List Entry) (senders : List Wait) (i : ℕ) (d : Wait) → i < length senders → first_some (meeting_by P) (map (λ w. w.number) (drop i senders)) ≡ option_or (meeting_by P (get_or senders i d).number) (first_some (meeting_by P) (map (λ w. w.number) (drop (i + 1) senders)))
first_step P senders i d within = ap (λ l. first_some (meeting_by P) (map (λ w. w.number) l)) (drop_next senders i d within)

pub meets_here : (P : List Entry) (senders : List Wait) (i : ℕ) (d w : Wait) (met : Option (ℕ × Output)) → i < length senders → w ≡ get_or senders i d → MeetsFrom P senders i → met ≡ meeting_by P w.number → is_some met ≡ true → met ≡ first_some (meeting_by P) (map (λ w. w.number) senders)
meets_here P senders i d w met within is from e some = go met (e ∙ ap (λ w. meeting_by P w.number) is) some
  where
    go : (o : Option (ℕ × Output)) → o ≡ meeting_by P (get_or senders i d).number → is_some o ≡ true → o ≡ first_some (meeting_by P) (map (λ w. w.number) senders)
    go None e some = absurd (false≢true some)
    go (Some m) e some = sym (from ∙ (first_step P senders i d within ∙ ap (λ o. option_or o (first_some (meeting_by P) (map (λ w. w.number) (drop (i + 1) senders)))) (sym e)))

pub meets_later : (P : List Entry) (senders : List Wait) (i : ℕ) (d w : Wait) (met : Option (ℕ × Output)) → i < length senders → w ≡ get_or senders i d → MeetsFrom P senders i → met ≡ meeting_by P w.number → is_some met ≡ false → MeetsFrom P senders (i + 1)
meets_later P senders i d w met within is from e some = from ∙ (first_step P senders i d within ∙ go met (e ∙ ap (λ w. meeting_by P w.number) is) some)
  where
    go : (o : Option (ℕ × Output)) → o ≡ meeting_by P (get_or senders i d).number → is_some o ≡ false → option_or (meeting_by P (get_or senders i d).number) (first_some (meeting_by P) (map (λ w. w.number) (drop (i + 1) senders))) ≡ first_some (meeting_by P) (map (λ w. w.number) (drop (i + 1) senders))
    go None e some = ap (λ o. option_or o (first_some (meeting_by P) (map (λ w. w.number) (drop (i + 1) senders)))) (sym e)
    go (Some m) e some = absurd (false≢true (sym some))

pub meets_nowhere : (P : List Entry) (senders : List Wait) (i : ℕ) → length senders ≤ i → MeetsFrom P senders i → first_some (meeting_by P) (map (λ w. w.number) senders) ≡ None
meets_nowhere P senders i all from = from ∙ ap (λ l. first_some (meeting_by P) (map (λ w. w.number) l)) (drop_all i senders all)

-- The senders of a receiving call

-- of those the first that meets is the first that passes the test of its source
firsts : (P : List Entry) (test : ℕ → Bool) (ws : List Wait) → ((w : Wait) → is_in ws w ≡ true → is_some (meeting_by P w.number) ≡ test w.number) → first_some (meeting_by P) (map (λ w. w.number) ws) ≡ option_and_then (meeting_by P) (option_map (λ w. w.number) (find (λ w. test w.number) ws))
firsts P test [] same = refl
firsts P test (x ∷ ws) same = go (meeting_by P x.number) refl (test x.number) refl (firsts P test ws (λ w there. same w (or_right (is_same w x) _ there)))
  where
    here : is_some (meeting_by P x.number) ≡ test x.number
    here = same x (or_left (is_same x x) _ (same_itself x))

    go : (o : Option (ℕ × Output)) → meeting_by P x.number ≡ o → (b : Bool) → test x.number ≡ b → first_some (meeting_by P) (map (λ w. w.number) ws) ≡ option_and_then (meeting_by P) (option_map (λ w. w.number) (find (λ w. test w.number) ws)) → option_or o (first_some (meeting_by P) (map (λ w. w.number) ws)) ≡ option_and_then (meeting_by P) (option_map (λ w. w.number) (cond b (Some x) (find (λ w. test w.number) ws)))
    go (Some m) e true f later = sym e
    go None e false f later = later
    go (Some m) e false f later = absurd (false≢true (sym f ∙ (sym here ∙ ap is_some e)))
    go None e true f later = absurd (false≢true (sym (sym f ∙ (sym here ∙ ap is_some e))))

module _ (P : List Entry) (slots : KeptSlots) (legal : Legal P) (stands : Stands P slots) (ws : List Wait) (mirrors : Mirrors sends_under slots.table ws) (m : ℕ) (opened : is_over P m ≡ false) (receives : is_receiving P m ≡ true) where
  abbrev accepted : ℕ → Bool
  accepted k = not (to_of P k == caller_of P k) && accepts P m (shown_sender P k)

  meets_if : (k : ℕ) → sends_to P k (caller_of P m) ≡ true → is_some (meeting_by P k) ≡ accepted k
  unfolding meeting_of
  meets_if k sends = ap (λ o. is_some {T = ℕ × Output} (option_map (λ output. (k, output)) (option_map (meeting P k) o))) (match_is P legal k) ∙ go (not (to_of P k == caller_of P k)) refl
    where
      to : to_of P k ≡ caller_of P m
      to = eqb-true _ _ (right (is_sending P k) _ sends)

      theirs : open_call P (to_of P k) ≡ Some m
      theirs = ap (open_call P) to ∙ (is_open_call P legal m opened).found

      of : (b : Bool) → is_some {T = ℕ × Output} (option_map (λ output. (k, output)) (option_map (meeting P k) (option_and_then (λ m. if is_receiving P m && accepts P m (shown_sender P k) then Some m else None) (Some m)))) ≡ accepts P m (shown_sender P k)
      of b = rw receives (plain (accepts P m (shown_sender P k)))
        where
          plain : (b : Bool) → is_some {T = ℕ × Output} (option_map (λ output. (k, output)) (option_map (meeting P k) (if b then Some m else None))) ≡ b
          plain true = refl
          plain false = refl

      go : (b : Bool) → not (to_of P k == caller_of P k) ≡ b → is_some {T = ℕ × Output} (option_map (λ output. (k, output)) (option_map (meeting P k) (if is_sending P k && b then option_and_then (λ m. if is_receiving P m && accepts P m (shown_sender P k) then Some m else None) (open_call P (to_of P k)) else None))) ≡ (b && accepts P m (shown_sender P k))
      go true e = rw (left (is_sending P k) _ sends, theirs) (of true)
      go false e = rw (left (is_sending P k) _ sends) refl

  pub under_meets : IsOrdered (under (caller_of P m) ws) → first_some (meeting_by P) (map (λ w. w.number) (under (caller_of P m) ws)) ≡ meeting_under P m
  under_meets ordered = firsts P accepted (under (caller_of P m) ws) (λ w there. meets_if w.number (sender_is P slots legal stands ws mirrors (caller_of P m) w there)) ∙ ap (option_and_then (meeting_by P)) (sym source)
    where
      sorted : IsSorted (map (λ w. w.number) (under (caller_of P m) ws))
      sorted = subst (λ l. IsSorted (map (λ w. w.number) l)) (under_twice (caller_of P m) ws) (under_sorted (caller_of P m) (under (caller_of P m) ws) ordered)

      source : source_of P m ≡ option_map (λ w. w.number) (find (λ w. accepted w.number) (under (caller_of P m) ws))
      source = source_is_sender P m receives ∙ sym (find_mapped (λ w. w.number) accepted (under (caller_of P m) ws) ∙ same_find accepted _ _ sorted (rising_sorted (senders P (caller_of P m)) (rising_filter (λ n. sends_to P n (caller_of P m)) (numbers P) (numbers_rise P legal))) (λ n. senders_are P slots legal stands ws mirrors n (caller_of P m)))

  pub senders_open : All (IsOpenAt P) (under (caller_of P m) ws)
  senders_open = all_in (IsOpenAt P) (under (caller_of P m) ws) (λ w there.
      let of = wait_of P slots legal stands sends_under ws mirrors w (under_is P slots legal stands sends_under ws mirrors (caller_of P m) w there).1 in
      record { opened = of.opened; place = of.place })

-- of another call it is its own
pub own_meeting : (P : List Entry) (n : ℕ) → is_receiving P n ≡ false → meeting_under P n ≡ meeting_by P n
unfolding source_of
own_meeting P n r = rw r refl

-- In the words of what is kept
module _ (P : List Entry) (legal : Legal P) (s : Standing) (call : IsStanding P s) where
  caller_at : (n : ℕ) → (standing_of P n).caller ≡ caller_of P n
  unfolding standing_of
  caller_at n = refl

  pub caller_is : s.caller ≡ caller_of P s.number
  caller_is = ap (λ s. s.caller) call.is ∙ caller_at s.number

  receives_by : waits_to_receive s.phase ≡ is_receiving P s.number
  receives_by = ap (λ s. waits_to_receive s.phase) call.is ∙ receiving_kept P legal s.number call.opened

  pub receives : s.phase ≡ Receiving → is_receiving P s.number ≡ true
  receives is = sym receives_by ∙ ap waits_to_receive is

  not_waiting : (p : Phase) → (p ≡ Receiving → ⊥) → waits_to_receive p ≡ false
  not_waiting Sending h = refl
  not_waiting (Passing m) h = refl
  not_waiting Receiving h = absurd (h refl)
  not_waiting (Taking k by bytes) h = refl

  pub receives_not : (s.phase ≡ Receiving → ⊥) → is_receiving P s.number ≡ false
  receives_not other = sym receives_by ∙ not_waiting s.phase other
