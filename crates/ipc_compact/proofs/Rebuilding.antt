-- The slots of a past, made one by one from its base and what was kept of it.
use Rattle.std.proofs.lemmas.Bool.{cases_eq, cases_order}
use Rattle.std.proofs.lemmas.Bool.Decides.{nat_tests}
use Rattle.std.proofs.lemmas.List.{get_or-set_same, get_or-set_other, length-set}
use Rattle.std.proofs.lemmas.List.Sums.{sum_by-cons}
use Rattle.std.proofs.Common.{◌≡◌, refl, sym, ap, ◌∙◌, subst, append-nil, append_assoc, ℕ, zero, suc, ◌+◌, ◌^◌, ◌<◌, ◌≤◌, Bool, true, false, ◌==◌, List, [], ◌∷◌, ◌++◌, length, get_or, map, Option, Some, None, option_map, sum_by, unwrap_or, slice_set, if◌then◌else◌, inl, inr, arith}
use Rattle.std.specs.Prelude.{replicate}
use Rattle.std.specs.Option.{option_map_or, option_or}
use Rattle.ipc_words.specs.Limits.{max_space, table_slots}
use Rattle.ipc_words.specs.ThreadId.{id_of, number_of, version_of}
use Rattle.ipc_history.specs.Calls.{calls_made}
use Rattle.ipc_history.specs.Entries.{count_in, space_in}
use Rattle.ipc_history.specs.Keeping.{keeps, kept_list}
use Rattle.ipc_history.specs.Legal.{Follows, Legal, is_admissible, may_open}
use Rattle.ipc_history.specs.Phases.{moved_bytes}
use Rattle.ipc_history.specs.Threads.{now, space_of}
use Rattle.ipc_history.specs.Words.{first_some}
use Rattle.ipc_history.specs.declared.entry.Entry.{Entry}
use Rattle.ipc_history.specs.declared.entry.Entry.TheVariants.{Given, Written}
use Rattle.ipc_history.specs.declared.entry.Input.TheVariants.{At, Opened, Called, Exreg, Broke, Moved}
use Rattle.ipc_laws.proofs.Normal.{moves_fit}
use Rattle.ipc_laws.proofs.WordLemmas.{first_some_push}
use Rattle.ipc_threads.specs.Making.{IsMade, IsOfNumber, made_slot}
use Rattle.ipc_threads.specs.Slots.{Stands, blank, live_at, live_of, slot_at, slot_of}
use Rattle.ipc_threads.specs.declared.slot.Live.{Live}
use Rattle.ipc_threads.specs.declared.kept.KeptSlots.{KeptSlots}
use Rattle.ipc_threads.proofs.Holders.{live_of_is}
use Rattle.ipc_threads.proofs.MadeSlots.{slot_above, stands_made}
use Rattle.ipc_threads.proofs.Starting.{length_replicate}
use Rattle.ipc_threads.proofs.Tables.{slot_at-past, slot_at-replicate}
use Rattle.ipc_compact.specs.Compact.{Base, base_of, from, further_calls, is_kept, kept_of, last_version}
use Rattle.ipc_compact.specs.Making.{Before, Fit, IsCompactOf}
use Rattle.ipc_compact.specs.SlotsKept.{live_from}
use Rattle.ipc_compact.proofs.SlotReading.{slots_kept}

-- What is kept copies no more bytes than all

kept_sum : (f : Entry → ℕ) (test : Entry → Bool) (H : List Entry) → sum_by f (kept_list test H) ≤ sum_by f H
kept_sum f test [] = omega arith
kept_sum f test (e ∷ H) = go (kept_sum f test H) (keeps test e H)
  where
    go : sum_by f (kept_list test H) ≤ sum_by f H → (b : Bool) → sum_by f (if b then e ∷ kept_list test H else kept_list test H) ≤ sum_by f (e ∷ H)
    go later true = omega (arith, later, sum_by-cons f e H, sum_by-cons f e (kept_list test H))
    go later false = omega (arith, later, sum_by-cons f e H)

kept_moved : (P : List Entry) (taken : List ℕ) (n : ℕ) → moved_bytes (kept_of P taken) n ≤ moved_bytes P n
unfolding moved_bytes kept_of
kept_moved P taken n = kept_sum (count_in n) (is_kept P taken) P

-- Spaces are within their limit

space_push : (P : List Entry) (e : Entry) (t : ℕ) → space_of (P ++ e ∷ []) t ≡ unwrap_or (option_or (first_some (space_in t) P) (space_in t e)) 0
unfolding space_of
space_push P e t = ap (λ o. unwrap_or o 0) (first_some_push (space_in t) P e)

opened_space : (P : List Entry) (t space : ℕ) → Follows P (Given (Opened t space)) → space ≤ max_space
unfolding Follows is_admissible may_open
opened_space P t space follows = grind (arith, nat_tests, follows.1)

space_more : (P : List Entry) (e : Entry) (t : ℕ) → Follows P e → space_of P t ≤ max_space → space_of (P ++ e ∷ []) t ≤ max_space
unfolding space_of
space_more P e t follows was = rw (space_push P e t) (go (first_some (space_in t) P) was e follows)
  where
    here : (u space : ℕ) → space ≤ max_space → (b : Bool) → unwrap_or (if b then Some space else None) 0 ≤ max_space
    here u space most true = most
    here u space most false = omega arith

    go : (o : Option ℕ) → unwrap_or o 0 ≤ max_space → (e : Entry) → Follows P e → unwrap_or (option_or o (space_in t e)) 0 ≤ max_space
    go (Some space) most e follows = most
    go None most (Given (Opened u space)) follows = here u space (opened_space P u space follows) (u == t)
    go None most (Given (At moment)) follows = most
    go None most (Given (Called n caller call)) follows = most
    go None most (Given (Exreg caller target control)) follows = most
    go None most (Given (Broke u)) follows = most
    go None most (Given (Moved n count)) follows = most
    go None most (Written output) follows = most

next_follows : (P : List Entry) (e : Entry) (rest : List Entry) → Legal (P ++ e ∷ rest) → Follows P e
unfolding Legal
next_follows P e rest legal = legal P e rest refl

spaces_on : (rest P : List Entry) (t : ℕ) → Legal (P ++ rest) → space_of P t ≤ max_space → space_of (P ++ rest) t ≤ max_space
spaces_on [] P t legal most = subst (λ l. space_of l t ≤ max_space) (sym (append-nil P)) most
spaces_on (e ∷ rest) P t legal most =
    let whole = append_assoc P (e ∷ []) rest in
    subst (λ l. space_of l t ≤ max_space) whole (spaces_on rest (P ++ e ∷ []) t (subst Legal (sym whole) legal) (space_more P e t (next_follows P e rest legal) most))

no_space : (t : ℕ) → space_of [] t ≤ max_space
unfolding space_of
no_space t = omega arith

space_within : (P : List Entry) → Legal P → (t : ℕ) → space_of P t ≤ max_space
space_within P legal t = spaces_on P [] t legal (no_space t)

-- The live thread of a number has the number and its last version

id_parts : (t : ℕ) → id_of (number_of t) (version_of t) ≡ t
id_parts t = omega arith

of_number : (P : List Entry) → Legal P → (k version : ℕ) → version ≡ last_version P k → IsOfNumber k version (option_map (live_at P) (live_of P k))
unfolding live_at last_version
of_number P legal k version is = go (live_of P k) refl
  where
    go : (o : Option ℕ) → live_of P k ≡ o → IsOfNumber k version (option_map (live_at P) o)
    go None h = tt
    go (Some t) h =
        let live = live_of_is P k t h in
        let same : version ≡ version_of t = is ∙ ap (λ o. option_map_or version_of o 0) live.last in
        (sym (id_parts t) ∙ (ap (λ n. id_of n (version_of t)) live.number ∙ ap (id_of k) (sym same)), space_within P legal t)

-- The versions of the base

from_at : (f : ℕ → ℕ) (k j n d : ℕ) → k < n → get_or (map f (from j n)) k d ≡ f (j + k)
from_at f k j zero d h = absurd (omega arith)
from_at f zero j (suc n) d h = let same : j ≡ j + 0 = omega arith in ap f same
from_at f (suc k) j (suc n) d h = let same : j + 1 + k ≡ j + suc k = omega arith in from_at f k (j + 1) n d (omega (arith, h)) ∙ ap f same

first_is : (k : ℕ) → 0 + k ≡ k
first_is k = omega arith

module _ (base : Base) (kept : List Entry) (before : Before) (is : IsCompactOf base kept before) where
  abbrev P : List Entry
  P = before.past

  base_is : base_of P before.taken ≡ base
  base_is = ap (λ c. c.base) is.compact

  pub kept_is : kept_of P before.taken ≡ kept
  kept_is = ap (λ c. c.kept) is.compact

  moment_is : now P ≡ base.moment
  unfolding base_of
  moment_is = ap (λ b. b.moment) base_is

  calls_is : calls_made P ≡ base.calls
  unfolding base_of
  calls_is = ap (λ b. b.calls) base_is

  pub over_is : further_calls P before.taken ≡ base.over
  unfolding base_of
  over_is = ap (λ b. b.over) base_is

  pub version_at : (k d : ℕ) → k < table_slots → get_or base.versions k d ≡ last_version P k
  unfolding base_of
  version_at k d h = ap (λ b. get_or b.versions k d) (sym base_is) ∙ from_at (last_version P) k 0 table_slots d h ∙ ap (last_version P) (first_is k)

  pub versions_len : length base.versions ≡ table_slots
  unfolding base_of
  versions_len = ap (λ b. length b.versions) (sym base_is) ∙ len 0 table_slots
    where
      len : (j n : ℕ) → length (map (last_version P) (from j n)) ≡ n
      len j zero = refl
      len j (suc n) = ap suc (len (j + 1) n)

  pub fit : Fit kept
  fit n = subst (λ K. moved_bytes K n < 2 ^ 64) kept_is (let most = moves_fit P is.legal n in let less = kept_moved P before.taken n in omega (arith, most, less))

  slot_is : (k : ℕ) → slot_of P k ≡ made_slot (last_version P k) (option_map (live_from kept base.over) (live_of kept k))
  slot_is k = slots_kept P before.taken is.legal k ∙ rw (kept_is, over_is) refl

  live_is : (k : ℕ) → option_map (live_at P) (live_of P k) ≡ option_map (live_from kept base.over) (live_of kept k)
  unfolding slot_of
  live_is k = ap (λ s. s.live) (slot_is k)

  -- so many slots are made, and the others are blank
  pub record IsMadeTo (place : ℕ) (slots : KeptSlots) : Type 0 where
    pub made : IsMade slots base.moment base.calls
    pub size : length slots.table ≡ table_slots
    pub done : (k : ℕ) → k < place → slot_at slots.table k ≡ slot_of P k
    pub rest : (k : ℕ) → place ≤ k → slot_at slots.table k ≡ blank

  pub made_start : (slots : KeptSlots) → slots.table ≡ replicate table_slots blank → IsMade slots base.moment base.calls → IsMadeTo 0 slots
  made_start slots table made = record {
    made = made;
    size = ap length table ∙ length_replicate table_slots;
    done = λ k h. absurd (omega arith);
    rest = λ k h. ap (λ l. slot_at l k) table ∙ slot_at-replicate table_slots k;
  }

  pub made_free : (slots : KeptSlots) (place : ℕ) → IsMadeTo place slots → (slot_at slots.table place).live ≡ None
  made_free slots place was = ap (λ s. s.live) (was.rest place (omega arith))

  pub made_live : (place version : ℕ) (live : Option Live) → version ≡ last_version P place → live ≡ option_map (live_from kept base.over) (live_of kept place) → IsOfNumber place version live
  made_live place version live same is_live = subst (IsOfNumber place version) (live_is place ∙ sym is_live) (of_number P is.legal place version same)

  pub made_more : (slots now : KeptSlots) (place version : ℕ) (live : Option Live) → place < table_slots → IsMadeTo place slots → version ≡ last_version P place → live ≡ option_map (live_from kept base.over) (live_of kept place) → now ≡ record slots { table = slice_set slots.table place (made_slot version live) } → IsMadeTo (place + 1) now
  made_more slots now place version live within was same is_live set = rw set (record {
    made = record { moment = was.made.moment; calls_made = was.made.calls_made; top = was.made.top; last = was.made.last };
    size = length-set slots.table place (made_slot version live) ∙ was.size;
    done = λ k h. elim (cases_eq k place) [
      | inl e ↦ rw e (get_or-set_same slots.table place (made_slot version live) blank (rw was.size within) ∙ (rw (same, is_live) refl ∙ sym (slot_is place)))
      | inr p ↦ get_or-set_other slots.table place k (made_slot version live) blank p ∙ was.done k (omega (arith, h, p))
    ];
    rest = λ k h. get_or-set_other slots.table place k (made_slot version live) blank (λ e. omega (arith, e, h)) ∙ was.rest k (omega (arith, h));
  })

  pub made_end : (slots : KeptSlots) (place : ℕ) → table_slots ≤ place → IsMadeTo place slots → Stands P slots
  made_end slots place all was =
      stands_made P slots is.legal is.quiet
      (record { moment = was.made.moment ∙ sym moment_is; calls_made = was.made.calls_made ∙ sym calls_is; top = was.made.top; last = was.made.last })
      was.size
      (λ k. elim (cases_order k table_slots) [
        | inl e ↦ past k (omega (arith, e))
        | inr (inl less) ↦ was.done k (omega (arith, less, all))
        | inr (inr more) ↦ past k (omega (arith, more))
      ])
    where
      past : (k : ℕ) → table_slots ≤ k → slot_at slots.table k ≡ slot_of P k
      past k h = slot_at-past slots.table k (rw was.size h) ∙ sym (slot_above P is.legal k h)
