-- What the last calls of the live threads tell is what a compaction keeps.
use Rattle.std.proofs.lemmas.Bool.{false≢true, true≢false, false_from_ne_true, cases_eq}
use Rattle.std.proofs.lemmas.Option.{none-some, same_Some}
use Rattle.std.proofs.lemmas.List.Folds.{list_any-append}
use Rattle.std.proofs.Common.{◌≡◌, ◌≢◌, refl, sym, ap, ◌∙◌, subst, ℕ, zero, suc, ◌<◌, Bool, true, false, not, ◌&&◌, ◌||◌, ◌==◌, eqb-true, eq-eqb, if◌then◌else◌, List, [], ◌∷◌, Option, Some, None, option_map, option_and_then, filter, ◌⊎◌, inl, inr, arith}
use Rattle.std.specs.List.{list_any}
use Rattle.std.specs.Option.{option_map_or}
use Rattle.ipc_words.specs.Limits.{table_slots}
use Rattle.ipc_words.specs.ThreadId.{number_of}
use Rattle.ipc_history.specs.Entries.{names}
use Rattle.ipc_history.specs.Calls.{caller_of, is_called, last_call, numbers}
use Rattle.ipc_history.specs.Matching.{shown_sender}
use Rattle.ipc_history.specs.Threads.{is_live}
use Rattle.ipc_history.specs.Phases.{is_over}
use Rattle.ipc_history.specs.Legal.{Legal}
use Rattle.ipc_history.specs.declared.entry.Entry.{Entry}
use Rattle.ipc_history.specs.declared.entry.Entry.TheVariants.{Given, Written}
use Rattle.ipc_history.specs.declared.entry.Input.TheVariants.{At, Opened, Called, Exreg, Broke, Moved}
use Rattle.ipc_laws.proofs.Places.{Place, any_at, any_place}
use Rattle.ipc_laws.proofs.Tests.{both, left, not_both, refuted, right}
use Rattle.ipc_threads.specs.Slots.{live_of}
use Rattle.ipc_threads.proofs.Holders.{live_of_at, live_of_is}
use Rattle.ipc_compact.specs.Compact.{further_calls, is_among, is_further, is_kept, is_kept_call, is_kept_thread, is_of_thread, is_told_of, kept_calls, names_one}
use Rattle.ipc_compact.proofs.CallReading as there
use Rattle.ipc_compact.proofs.KeptTold.{among_called, either_of, filter_source}
use Rattle.ipc_compact.proofs.NotNeeded.{named_one}
use Rattle.ipc_compact.proofs.SameCompact.{among_numbers}
use Rattle.ipc_desks.proofs.Finishing.{same_tests}
use Rattle.ipc_desks.proofs.LastCalls.{last_is, live_below}
use Rattle.ipc_compact.specs.Partners.{joined_of, joins, partner_of, receiver_met, sender_met}
use Rattle.ipc_compact.specs.Kept.{KeptParts, TookOthers, calls_at, calls_for, gathered, kept_call, kept_upto, partner_numbers, partner_threads, partners_at, partners_for, passes, threads_at, threads_for}
use Rattle.ipc_compact.proofs.MeetingLemmas.{met_once, two_named}
use Rattle.ipc_compact.proofs.PartnerLemmas.{joined_called, joins_names, receiver_somewhere, sender_somewhere}

or_left : (a b : Bool) → a ≡ true → (a || b) ≡ true
or_left a b h = grind arith

or_right : (a b : Bool) → b ≡ true → (a || b) ≡ true
or_right a b h = grind arith

-- what is among the numbers that were gathered
gathered_from : (f : ℕ → List ℕ) (n count : ℕ) → is_among n (gathered f count) ≡ true → (k : ℕ) × (is_among n (f k) ≡ true)
gathered_from f n zero h = absurd (false≢true h)
gathered_from f n (suc count) h = elim (either_of _ _ (sym (list_any-append (λ k. k == n) (gathered f count) (f count)) ∙ h)) [
  | inl before ↦ gathered_from f n count before
  | inr here ↦ (count, here)
]

among_gathered : (f : ℕ → List ℕ) (n k count : ℕ) → k < count → is_among n (f k) ≡ true → is_among n (gathered f count) ≡ true
among_gathered f n k zero low h = absurd (no_less k low)
  where
    no_less : (k : ℕ) → k < 0 → ⊥
    no_less k h = omega (arith, h)
among_gathered f n k (suc count) low h = elim (cases_eq k count) [
  | inl same ↦ list_any-append (λ k. k == n) (gathered f count) (f count) ∙ or_right (is_among n (gathered f count)) (is_among n (f count)) (subst (λ c. is_among n (f c) ≡ true) same h)
  | inr other ↦ list_any-append (λ k. k == n) (gathered f count) (f count) ∙ or_left _ _ (among_gathered f n k count (below k count low other) h)
]
  where
    below : (k count : ℕ) → k < suc count → k ≢ count → k < count
    below k count low other = omega (arith, low, other)

-- of a test that asks for one number, and of one that asks for a thread
among_one : (n m : ℕ) → is_among n (m ∷ []) ≡ true → m ≡ n
among_one n m h = eqb-true m n (first (m == n) h)
  where
    first : (a : Bool) → (a || false) ≡ true → a ≡ true
    first a h = grind arith

one_among : (n : ℕ) → is_among n (n ∷ []) ≡ true
one_among n = or_left (n == n) false (eq-eqb n n refl)

module _ (H : List Entry) (taken : List ℕ) (legal : Legal H) (over : (n : ℕ) → is_among n taken ≡ true → is_over H n ≡ true) (others : TookOthers H taken) where
  abbrev kept : List ℕ
  kept = kept_calls H taken

  abbrev further : List ℕ
  further = further_calls H taken

  abbrev found : KeptParts
  found = kept_upto H taken table_slots

  -- the last call of a live thread, which was not taken
  pub record IsLast (n : ℕ) : Type 0 where
    pub thread : ℕ
    pub live : live_of H (number_of thread) ≡ Some thread
    pub alive : is_live H thread ≡ true
    pub call : kept_call H taken thread ≡ Some n
    pub caller : caller_of H n ≡ thread
    pub called : is_called H n ≡ true
    pub untaken : is_among n taken ≡ false
    pub within : number_of thread < table_slots

  pub is_last : (k t n : ℕ) → live_of H k ≡ Some t → kept_call H taken t ≡ Some n → IsLast n
  unfolding kept_call
  is_last k t n live call =
      let is = live_of_is H k t live in
      let last = go (last_call H t) refl call in
      record {
        thread = t;
        live = live_of_at H legal t is.live;
        alive = is.live;
        call = call;
        caller = (last_is H legal t n last.0).0;
        called = (last_is H legal t n last.0).1;
        untaken = last.1;
        within = live_below H legal t is.live;
      }
    where
      go : (o : Option ℕ) → last_call H t ≡ o → option_and_then (λ n. if is_among n taken then None else Some n) o ≡ Some n → (last_call H t ≡ Some n) × (is_among n taken ≡ false)
      go None last h = absurd (none-some n h)
      go (Some m) last h = here (is_among m taken) refl h
        where
          here : (b : Bool) → is_among m taken ≡ b → (if b then None else Some m) ≡ Some n → (last_call H t ≡ Some n) × (is_among n taken ≡ false)
          here true among g = absurd (none-some n g)
          here false among g = let same = same_Some m n g in (last ∙ ap Some same, ap (λ x. is_among x taken) (sym same) ∙ among)

  pub last_kept : (n : ℕ) → IsLast n → is_among n kept ≡ true
  unfolding kept_calls is_kept_call
  last_kept n last = there.among_filter n (λ n. is_live H (caller_of H n) && not (is_over H n && is_among n taken)) (numbers H) (among_numbers H n last.called) (rw (last.caller, last.alive, last.untaken) (no_more (is_over H n)))
    where
      no_more : (b : Bool) → (true && not (b && false)) ≡ true
      no_more true = refl
      no_more false = refl

  pub kept_last : (n : ℕ) → is_among n kept ≡ true → IsLast n
  unfolding kept_calls is_kept_call kept_call
  kept_last n h =
      let c = among_called H n (filter_source n (λ n. is_live H (caller_of H n) && not (is_over H n && is_among n taken)) (numbers H) h) in
      let passes = there.filter_among n (λ n. is_live H (caller_of H n) && not (is_over H n && is_among n taken)) (numbers H) h in
      let alive = left (is_live H (caller_of H n)) _ passes in
      let untaken : is_among n taken ≡ false = false_from_ne_true _ (λ t. both_true (is_over H n) (is_among n taken) (over n t) t (right (is_live H (caller_of H n)) _ passes)) in
      let last : last_call H (caller_of H n) ≡ Some n = elim (others n c) [ inl last ↦ last | inr t ↦ not_both t untaken ] in
      record {
        thread = caller_of H n;
        live = live_of_at H legal (caller_of H n) alive;
        alive = alive;
        call = rw (last, untaken) refl;
        caller = refl;
        called = c;
        untaken = untaken;
        within = live_below H legal (caller_of H n) alive;
      }
    where
      both_true : (a b : Bool) → a ≡ true → b ≡ true → not (a && b) ≡ true → ⊥
      both_true a b p q h = not_both (rw (p, q) refl) (refuted (a && b) h)

  -- the calls
  calls_kept : (n : ℕ) → is_among n found.calls ≡ is_among n kept
  unfolding kept_upto
  calls_kept n = same_tests _ _ (λ h. let at = gathered_from (calls_at H taken) n table_slots h in there at.0 (live_of H at.0) refl at.1) (λ h. let last = kept_last n h in among_gathered (calls_at H taken) n (number_of last.thread) table_slots last.within (rw (last.live, last.call) (one_among n)))
    where
      there : (k : ℕ) (o : Option ℕ) → live_of H k ≡ o → is_among n (option_map_or (λ t. calls_for H (kept_call H taken t)) o []) ≡ true → is_among n kept ≡ true
      there k None live h = absurd (false≢true h)
      there k (Some t) live h = here (kept_call H taken t) refl h
        where
          here : (o : Option ℕ) → kept_call H taken t ≡ o → is_among n (calls_for H o) ≡ true → is_among n kept ≡ true
          here None call g = absurd (false≢true g)
          here (Some m) call g = let same = among_one n m g in last_kept n (is_last k t n live (call ∙ ap Some same))

  -- the calls that met them
  abbrev IsMet : ℕ → ℕ → Type 0
  IsMet n k = (receiver_met H n ≡ Some k) ⊎ (sender_met H n ≡ Some k)

  number_met : (o : Option ℕ) (k : ℕ) → is_among k (partner_numbers (option_map (partner_of H) o)) ≡ true → o ≡ Some k
  unfolding partner_of
  number_met None k h = absurd (false≢true h)
  number_met (Some m) k h = ap Some (among_one k m h)

  met_number : (o : Option ℕ) (k : ℕ) → o ≡ Some k → is_among k (partner_numbers (option_map (partner_of H) o)) ≡ true
  unfolding partner_of
  met_number o k is = rw is (one_among k)

  partners_are : (n k : ℕ) → is_among k (partners_for H (Some n)) ≡ true → IsMet n k
  unfolding joined_of
  partners_are n k h = elim (either_of _ _ (sym (list_any-append (λ m. m == k) (partner_numbers (option_map (partner_of H) (receiver_met H n))) (partner_numbers (option_map (partner_of H) (sender_met H n)))) ∙ h)) [
    | inl receives ↦ inl (number_met (receiver_met H n) k receives)
    | inr sends ↦ inr (number_met (sender_met H n) k sends)
  ]

  are_partners : (n k : ℕ) → IsMet n k → is_among k (partners_for H (Some n)) ≡ true
  unfolding joined_of
  are_partners n k (inl receives) = list_any-append (λ m. m == k) (partner_numbers (option_map (partner_of H) (receiver_met H n))) (partner_numbers (option_map (partner_of H) (sender_met H n))) ∙ or_left _ _ (met_number (receiver_met H n) k receives)
  are_partners n k (inr sends) = list_any-append (λ m. m == k) (partner_numbers (option_map (partner_of H) (receiver_met H n))) (partner_numbers (option_map (partner_of H) (sender_met H n))) ∙ or_right (is_among k (partner_numbers (option_map (partner_of H) (receiver_met H n)))) _ (met_number (sender_met H n) k sends)

  partners_met : (k : ℕ) → is_among k found.partners ≡ true → (n : ℕ) × IsLast n × IsMet n k
  unfolding kept_upto
  partners_met k h = let at = gathered_from (partners_at H taken) k table_slots h in there at.0 (live_of H at.0) refl at.1
    where
      there : (i : ℕ) (o : Option ℕ) → live_of H i ≡ o → is_among k (option_map_or (λ t. partners_for H (kept_call H taken t)) o []) ≡ true → (n : ℕ) × IsLast n × IsMet n k
      there i None live h = absurd (false≢true h)
      there i (Some t) live h = here (kept_call H taken t) refl h
        where
          here : (o : Option ℕ) → kept_call H taken t ≡ o → is_among k (partners_for H o) ≡ true → (n : ℕ) × IsLast n × IsMet n k
          here None call g = absurd (false≢true g)
          here (Some n) call g = (n, is_last i t n live call, partners_are n k g)

  pub met_partners : (n k : ℕ) → IsLast n → IsMet n k → is_among k found.partners ≡ true
  unfolding kept_upto
  met_partners n k last met = among_gathered (partners_at H taken) k (number_of last.thread) table_slots last.within (rw (last.live, last.call) (are_partners n k met))

  -- such a call is kept, or named beside one that is
  met_joins : (n k : ℕ) → IsMet n k → (e : Entry) × Place H e × (names n e ≡ true) × (names k e ≡ true)
  met_joins n k (inl receives) = let p = any_place (joins n k) H (receiver_somewhere H n k receives) in let named = joins_names n k p.0 p.2 in (p.0, p.1, named.0, named.1)
  met_joins n k (inr sends) = let p = any_place (joins k n) H (sender_somewhere H k n sends) in let named = joins_names k n p.0 p.2 in (p.0, p.1, named.1, named.0)

  met_called : (n k : ℕ) → IsMet n k → is_called H k ≡ true
  met_called n k (inl receives) = (joined_called H legal n k (receiver_somewhere H n k receives)).1
  met_called n k (inr sends) = (joined_called H legal k n (sender_somewhere H k n sends)).0

  among_named : (ns : List ℕ) (n : ℕ) (e : Entry) → is_among n ns ≡ true → names n e ≡ true → names_one ns e ≡ true
  among_named ns n e h named =
      let p = any_place (λ m. m == n) ns h in
      any_at (λ m. names m e) ns p.0 p.1 (subst (λ m. names m e ≡ true) (sym (eqb-true p.0 n p.2)) named)

  partner_known : (n k : ℕ) → IsLast n → IsMet n k → (is_among k kept ≡ true) ⊎ (is_among k further ≡ true)
  unfolding further_calls is_further
  partner_known n k last met = go (is_among k kept) refl
    where
      beside : list_any (λ e. names k e && names_one kept e) H ≡ true
      beside = let at = met_joins n k met in any_at (λ e. names k e && names_one kept e) H at.0 at.1 (both _ _ at.3 (among_named kept n at.0 (last_kept n last) at.2))

      go : (b : Bool) → is_among k kept ≡ b → (b ≡ true) ⊎ (is_among k (filter (λ m. not (is_among m kept) && list_any (λ e. names m e && names_one kept e) H) (numbers H)) ≡ true)
      go true is = inl refl
      go false is = inr (there.among_filter k (λ m. not (is_among m kept) && list_any (λ e. names m e && names_one kept e) H) (numbers H) (among_numbers H k (met_called n k met)) (rw (is, beside) refl))

  pub further_known : (k : ℕ) → is_among k further ≡ true → (n : ℕ) × IsLast n × IsMet n k
  unfolding further_calls is_further
  further_known k h =
      let passes = there.filter_among k (λ m. not (is_among m kept) && list_any (λ e. names m e && names_one kept e) H) (numbers H) h in
      let other : is_among k kept ≡ false = refuted (is_among k kept) (left (not (is_among k kept)) _ passes) in
      let p = any_place (λ e. names k e && names_one kept e) H (right (not (is_among k kept)) _ passes) in
      let one = named_one kept p.0 (right (names k p.0) _ p.2) in
      let apart : one.0 ≢ k = λ same. true≢false (sym one.1 ∙ (ap (λ x. is_among x kept) same ∙ other)) in (
        one.0,
        kept_last one.0 one.1,
        elim (two_named one.0 k p.0 one.2 (left (names k p.0) _ p.2) apart) [
          | inl joined ↦ inl (met_once H legal one.0 k (any_at (joins one.0 k) H p.0 p.1 joined)).0
          | inr joined ↦ inr (met_once H legal k one.0 (any_at (joins k one.0) H p.0 p.1 joined)).1
        ],
      )

  -- so the same entries name them
  named_same : (e : Entry) → (names_one found.calls e || (is_told_of e && names_one found.partners e)) ≡ (names_one kept e || (is_told_of e && names_one further e))
  named_same e = same_tests _ _ forth back
    where
      forth : (names_one found.calls e || (is_told_of e && names_one found.partners e)) ≡ true → (names_one kept e || (is_told_of e && names_one further e)) ≡ true
      forth h = elim (either_of (names_one found.calls e) (is_told_of e && names_one found.partners e) h) [
        | inl calls ↦ (
            let one = named_one found.calls e calls in
            or_left _ (is_told_of e && names_one further e) (among_named kept one.0 e (sym (calls_kept one.0) ∙ one.1) one.2))
        | inr told ↦ (
            let one = named_one found.partners e (right (is_told_of e) _ told) in
            let met = partners_met one.0 one.1 in
            elim (partner_known met.0 one.0 met.1 met.2) [
              | inl k ↦ or_left _ (is_told_of e && names_one further e) (among_named kept one.0 e k one.2)
              | inr f ↦ or_right (names_one kept e) _ (both (is_told_of e) _ (left (is_told_of e) _ told) (among_named further one.0 e f one.2))
            ])
      ]

      back : (names_one kept e || (is_told_of e && names_one further e)) ≡ true → (names_one found.calls e || (is_told_of e && names_one found.partners e)) ≡ true
      back h = elim (either_of (names_one kept e) (is_told_of e && names_one further e) h) [
        | inl calls ↦ (
            let one = named_one kept e calls in
            or_left _ (is_told_of e && names_one found.partners e) (among_named found.calls one.0 e (calls_kept one.0 ∙ one.1) one.2))
        | inr told ↦ (
            let one = named_one further e (right (is_told_of e) _ told) in
            let met = further_known one.0 one.1 in
            or_right (names_one found.calls e) _ (both (is_told_of e) _ (left (is_told_of e) _ told) (among_named found.partners one.0 e (met_partners met.0 one.0 met.1 met.2) one.2)))
      ]

  -- the threads
  abbrev shows : ℕ → ℕ → Bool
  shows t n = (caller_of H n == t) || (shown_sender H n == t)

  among_shows : (ns : List ℕ) (n t : ℕ) → is_among n ns ≡ true → shows t n ≡ true → is_kept_thread H ns t ≡ true
  unfolding is_kept_thread
  among_shows ns n t h s =
      let p = any_place (λ m. m == n) ns h in
      or_right (is_live H t) _ (any_at (shows t) ns p.0 p.1 (subst (λ m. shows t m ≡ true) (sym (eqb-true p.0 n p.2)) s))

  live_stays : (ns : List ℕ) (t : ℕ) → is_live H t ≡ true → is_kept_thread H ns t ≡ true
  unfolding is_kept_thread
  live_stays ns t l = or_left (is_live H t) _ l

  stays_for : (ns : List ℕ) (t : ℕ) → is_kept_thread H ns t ≡ true → (is_live H t ≡ true) ⊎ ((n : ℕ) × (is_among n ns ≡ true) × (shows t n ≡ true))
  unfolding is_kept_thread
  stays_for ns t h = elim (either_of (is_live H t) (list_any (shows t) ns) h) [
    | inl l ↦ inl l
    | inr some ↦ inr (let p = any_place (shows t) ns some in (p.0, any_at (λ m. m == p.0) ns p.0 p.1 (eq-eqb p.0 p.0 refl), p.2))
  ]

  abbrev stays : ℕ → Bool
  stays t = is_kept_thread H kept t || is_kept_thread H further t

  partner_stays : (n k t : ℕ) → IsLast n → IsMet n k → shows t k ≡ true → stays t ≡ true
  partner_stays n k t last met s = elim (partner_known n k last met) [
    | inl among ↦ or_left _ (is_kept_thread H further t) (among_shows kept k t among s)
    | inr among ↦ or_right (is_kept_thread H kept t) _ (among_shows further k t among s)
  ]

  threads_met : (o : Option ℕ) (t : ℕ) → is_among t (partner_threads (option_map (partner_of H) o)) ≡ true → (k : ℕ) × (o ≡ Some k) × (shows t k ≡ true)
  unfolding partner_of
  threads_met None t h = absurd (false≢true h)
  threads_met (Some k) t h = (k, refl, two (caller_of H k == t) (shown_sender H k == t) h)
    where
      two : (a b : Bool) → (a || (b || false)) ≡ true → (a || b) ≡ true
      two a b h = grind arith

  met_threads : (o : Option ℕ) (k t : ℕ) → o ≡ Some k → shows t k ≡ true → is_among t (partner_threads (option_map (partner_of H) o)) ≡ true
  unfolding partner_of
  met_threads o k t is s = rw is (two (caller_of H k == t) (shown_sender H k == t) s)
    where
      two : (a b : Bool) → (a || b) ≡ true → (a || (b || false)) ≡ true
      two a b h = grind arith

  threads_are : (n t : ℕ) → IsLast n → is_among t (threads_for H (Some n)) ≡ true → stays t ≡ true
  unfolding joined_of
  threads_are n t last h = elim (either_of (shown_sender H n == t) _ h) [
    | inl shown ↦ or_left _ (is_kept_thread H further t) (among_shows kept n t (last_kept n last) (or_right (caller_of H n == t) (shown_sender H n == t) shown))
    | inr met ↦ elim (either_of _ _ (sym (list_any-append (λ m. m == t) (partner_threads (option_map (partner_of H) (receiver_met H n))) (partner_threads (option_map (partner_of H) (sender_met H n)))) ∙ met)) [
      | inl receives ↦ (let it = threads_met (receiver_met H n) t receives in partner_stays n it.0 t last (inl it.1) it.2)
      | inr sends ↦ (let it = threads_met (sender_met H n) t sends in partner_stays n it.0 t last (inr it.1) it.2)
    ]
  ]

  are_threads : (n k t : ℕ) → IsMet n k → shows t k ≡ true → is_among t (threads_for H (Some n)) ≡ true
  unfolding joined_of
  are_threads n k t (inl receives) s = or_right (shown_sender H n == t) _ (list_any-append (λ m. m == t) (partner_threads (option_map (partner_of H) (receiver_met H n))) (partner_threads (option_map (partner_of H) (sender_met H n))) ∙ or_left _ _ (met_threads (receiver_met H n) k t receives s))
  are_threads n k t (inr sends) s = or_right (shown_sender H n == t) _ (list_any-append (λ m. m == t) (partner_threads (option_map (partner_of H) (receiver_met H n))) (partner_threads (option_map (partner_of H) (sender_met H n))) ∙ or_right (is_among t (partner_threads (option_map (partner_of H) (receiver_met H n)))) _ (met_threads (sender_met H n) k t sends s))

  shown_thread : (n t : ℕ) → (shown_sender H n == t) ≡ true → is_among t (threads_for H (Some n)) ≡ true
  unfolding joined_of
  shown_thread n t s = or_left (shown_sender H n == t) _ s

  live_thread : (t : ℕ) → is_live H t ≡ true → is_among t found.threads ≡ true
  unfolding kept_upto
  live_thread t l = among_gathered (threads_at H taken) t (number_of t) table_slots (live_below H legal t l) (rw (live_of_at H legal t l) (or_left (t == t) _ (eq-eqb t t refl)))

  last_thread : (n t : ℕ) → IsLast n → is_among t (threads_for H (Some n)) ≡ true → is_among t found.threads ≡ true
  unfolding kept_upto
  last_thread n t last h = among_gathered (threads_at H taken) t (number_of last.thread) table_slots last.within (rw (last.live, last.call) (or_right (last.thread == t) _ h))

  thread_same : (t : ℕ) → is_among t found.threads ≡ stays t
  unfolding kept_upto
  thread_same t = same_tests _ _ (λ h. let at = gathered_from (threads_at H taken) t table_slots h in there at.0 (live_of H at.0) refl at.1) back
    where
      there : (i : ℕ) (o : Option ℕ) → live_of H i ≡ o → is_among t (option_map_or (λ u. u ∷ threads_for H (kept_call H taken u)) o []) ≡ true → stays t ≡ true
      there i None live h = absurd (false≢true h)
      there i (Some u) live h = elim (either_of (u == t) _ h) [
        | inl same ↦ or_left _ (is_kept_thread H further t) (live_stays kept t (subst (λ u. is_live H u ≡ true) (eqb-true u t same) (live_of_is H i u live).live))
        | inr more ↦ here (kept_call H taken u) refl more
      ]
        where
          here : (o : Option ℕ) → kept_call H taken u ≡ o → is_among t (threads_for H o) ≡ true → stays t ≡ true
          here None call g = absurd (false≢true g)
          here (Some n) call g = threads_are n t (is_last i u n live call) g

      back : stays t ≡ true → is_among t found.threads ≡ true
      back h = elim (either_of (is_kept_thread H kept t) (is_kept_thread H further t) h) [
        | inl k ↦ elim (stays_for kept t k) [
          | inl l ↦ live_thread t l
          | inr it ↦ (
              let last = kept_last it.0 it.1 in
              elim (either_of (caller_of H it.0 == t) (shown_sender H it.0 == t) it.2) [
                | inl by ↦ live_thread t (subst (λ u. is_live H u ≡ true) (sym last.caller ∙ eqb-true (caller_of H it.0) t by) last.alive)
                | inr by ↦ last_thread it.0 t last (shown_thread it.0 t by)
              ])
        ]
        | inr f ↦ elim (stays_for further t f) [
          | inl l ↦ live_thread t l
          | inr it ↦ (let met = further_known it.0 it.1 in last_thread met.0 t met.1 (are_threads met.0 it.0 t met.2 it.2))
        ]
      ]

  of_thread_same : (p q : ℕ → Bool) → ((t : ℕ) → p t ≡ q t) → (e : Entry) → is_of_thread p e ≡ is_of_thread q e
  of_thread_same p q same (Given (Opened t space)) = same t
  of_thread_same p q same (Given (Broke t)) = same t
  of_thread_same p q same (Given (At moment)) = refl
  of_thread_same p q same (Given (Called n thread call)) = refl
  of_thread_same p q same (Given (Exreg thread target control)) = refl
  of_thread_same p q same (Given (Moved n count)) = refl
  of_thread_same p q same (Written output) = refl

  together : (a b c x y z : Bool) → (a || b) ≡ (x || y) → c ≡ z → (a || b || c) ≡ (x || y || z)
  together a b c x y z h k = grind arith

  pub kept_is : (e : Entry) → passes found e ≡ is_kept H taken e
  unfolding is_kept
  kept_is e = together (names_one found.calls e) (is_told_of e && names_one found.partners e) (is_of_thread (λ t. is_among t found.threads) e) (names_one kept e) (is_told_of e && names_one further e) (is_of_thread stays e) (named_same e) (of_thread_same (λ t. is_among t found.threads) stays thread_same e)
