-- What a table of slots says after a change of its threads or of an open call.
use Rattle.std.proofs.Common.{◌≡◌, refl, sym, ap, ◌∙◌, ℕ, zero, suc, ◌+◌, ◌*◌, ◌^◌, ◌<◌, ◌≤◌, ◌==◌, eq-eqb, eqb-true, true, false, Bool, List, [], ◌∷◌, length, Option, Some, None, Ok, ◌&&◌, inl, inr, subst, option_map, option_and_then, is_some, if◌then◌else◌, arith}
use Rattle.std.specs.Prelude.{replicate, slice_index_or, slice_set}
use Rattle.std.specs.Option.{option_map_or}
use Rattle.std.proofs.lemmas.Bool.{false≢true, ne_eqb, cases_order}
use Rattle.std.proofs.lemmas.Bool.Decides.{nat_tests}
use Rattle.std.proofs.lemmas.List.{get_or_default, get_or_past}
use Rattle.std.proofs.lemmas.List.Sums.{sum_by-cons}
use Rattle.std.proofs.lemmas.Option.{none-some, same_Some}
use Rattle.ipc_threads.specs.Threads.{slot_of, live_count, live_id_of, live_space_of, next_id_of, blank as unused}
use Rattle.ipc_threads.specs.Ids.{IsPlace, is_space, is_thread_number}
use Rattle.ipc_threads.specs.declared.table.Slot.{Slot as Numbered}
use Rattle.ipc_words.specs.ThreadId.{id_of, number_of, version_of}
use Rattle.ipc_words.specs.Version.{next_version_of}
use Rattle.ipc_threads.specs.Slot.{Slot}
use Rattle.ipc_threads.specs.Steps.{calling, with_call, live_with, called_live, standing_in}
use Rattle.ipc_threads.specs.Table.{blank, open_call_in, ended, fresh, live_slots, if_thread, live_in, slot_at, slots_from, slot_from, space_in, live_from}
use Rattle.ipc_threads.specs.declared.slot.Live.{Live}
use Rattle.ipc_threads.specs.declared.slot.Standing.{Standing}
use Rattle.ipc_laws.specs.Laws.{one_if}

-- a live thread with this number, version, call and space
abbrev made : ℕ → ℕ → Option Standing → ℕ → Live
made k last call space = record { thread = id_of k last; space = space; call = call }

abbrev with_id : ℕ → Option Standing → ℕ → Live
with_id t call space = record { thread = t; space = space; call = call }

abbrev call_with : Live → Option Standing
call_with l = l.call

pub from_blank : (n k : ℕ) → slots_from k (replicate n unused) (replicate n None) ≡ replicate n blank
from_blank zero k = refl
from_blank (suc n) k = ap (λ slots. blank ∷ slots) (from_blank n (k + 1))

pub length_from : (k : ℕ) (xs : List Numbered) (cs : List (Option Standing)) → length xs ≡ length cs → length (slots_from k xs cs) ≡ length xs
length_from k [] cs h = refl
length_from k (x ∷ xs) [] h = absurd (omega (arith, h))
length_from k (x ∷ xs) (c ∷ cs) h = ap suc (length_from (k + 1) xs cs (omega (arith, h)))

at_first : (k : ℕ) → k + 0 ≡ k
at_first k = omega arith

at_zero : (k : ℕ) → 0 + k ≡ k
at_zero k = omega arith

at_next : (k p : ℕ) → k + suc p ≡ k + 1 + p
at_next k p = omega arith

-- how many are live
pub live_from_threads : (k : ℕ) (xs : List Numbered) (cs : List (Option Standing)) → length xs ≡ length cs → live_slots (slots_from k xs cs) ≡ live_count xs
live_from_threads k [] cs h = refl
live_from_threads k (x ∷ xs) [] h = absurd (omega (arith, h))
live_from_threads k (x ∷ xs) (c ∷ cs) h =
    let first : one_if (is_some (slot_from k x c).live) ≡ one_if (is_some x.space) = ap one_if (go x.space) in
    omega (arith, first, live_from_threads (k + 1) xs cs (omega (arith, h)), sum_by-cons (λ slot. one_if (is_some slot.live)) (slot_from k x c) (slots_from (k + 1) xs cs), sum_by-cons (λ slot. one_if (is_some slot.space)) x xs)
  where
    go : (o : Option ℕ) → is_some (option_map (made k x.last c) o) ≡ is_some o
    go None = refl
    go (Some space) = refl

-- the slot of a number
pub slot_from_at : (k p : ℕ) (xs : List Numbered) (cs : List (Option Standing)) → length xs ≡ length cs → slot_at (slots_from k xs cs) p ≡ slot_from (k + p) (slot_of xs p) (slice_index_or cs p None)
slot_from_at k p [] [] h = refl
slot_from_at k p [] (c ∷ cs) h = absurd (omega (arith, h))
slot_from_at k p (x ∷ xs) [] h = absurd (omega (arith, h))
slot_from_at k zero (x ∷ xs) (c ∷ cs) h = rw (at_first k) refl
slot_from_at k (suc p) (x ∷ xs) (c ∷ cs) h = rw (at_next k p) (slot_from_at (k + 1) p xs cs (omega (arith, h)))

-- a thread and an open call that are set
pub both_set : (k p : ℕ) (xs : List Numbered) (cs : List (Option Standing)) (x : Numbered) (c : Option Standing) → slots_from k (slice_set xs p x) (slice_set cs p c) ≡ slice_set (slots_from k xs cs) p (slot_from (k + p) x c)
both_set k p [] cs x c = refl
both_set k zero (y ∷ xs) [] x c = refl
both_set k (suc p) (y ∷ xs) [] x c = refl
both_set k zero (y ∷ xs) (d ∷ cs) x c = rw (at_first k) refl
both_set k (suc p) (y ∷ xs) (d ∷ cs) x c = rw (at_next k p) (ap (λ slots. slot_from k y d ∷ slots) (both_set (k + 1) p xs cs x c))

-- an open call alone
call_from : (k : ℕ) (x : Numbered) (c d : Option Standing) → slot_from k x c ≡ calling c (slot_from k x d)
call_from k x c d = ap (λ l. record { version = next_version_of x.last; live = l }) (go x.space)
  where
    go : (o : Option ℕ) → option_map (made k x.last c) o ≡ option_map (called_live c) (option_map (made k x.last d) o)
    go None = refl
    go (Some space) = refl

pub call_set : (k p : ℕ) (xs : List Numbered) (cs : List (Option Standing)) (c : Option Standing) → slots_from k xs (slice_set cs p c) ≡ slice_set (slots_from k xs cs) p (calling c (slot_at (slots_from k xs cs) p))
call_set k p [] cs c = refl
call_set k zero (x ∷ xs) [] c = refl
call_set k (suc p) (x ∷ xs) [] c = refl
call_set k zero (x ∷ xs) (d ∷ cs) c = ap (λ slot. slot ∷ slots_from (k + 1) xs cs) (call_from k x c d)
call_set k (suc p) (x ∷ xs) (d ∷ cs) c = ap (λ slots. slot_from k x d ∷ slots) (call_set (k + 1) p xs cs c)

-- the number and the version of an id that is found
pub found_within : (xs : List Numbered) (t space : ℕ) → live_space_of xs t ≡ Some space → number_of t < length xs
found_within xs t space found = elim (cases_order (number_of t) (length xs)) [ inl e ↦ past (omega arith) | inr (inl less) ↦ less | inr (inr more) ↦ past (omega arith) ]
  where
    none : (b : Bool) (o : Option ℕ) → o ≡ None → (if b then o else None) ≡ Some space → ⊥
    none true o e h = none-some space (sym e ∙ h)
    none false o e h = none-some space h

    past : length xs ≤ number_of t → number_of t < length xs
    past more = absurd (none ((slot_of xs (number_of t)).last == version_of t) (slot_of xs (number_of t)).space (ap (λ (slot : Numbered). slot.space) (get_or_past xs (number_of t) unused more)) found)

pub found_version : (xs : List Numbered) (t space : ℕ) → live_space_of xs t ≡ Some space → (slot_of xs (number_of t)).last ≡ version_of t
found_version xs t space found = go ((slot_of xs (number_of t)).last == version_of t) refl
  where
    go : (b : Bool) → ((slot_of xs (number_of t)).last == version_of t) ≡ b → (slot_of xs (number_of t)).last ≡ version_of t
    go true h = eqb-true _ _ h
    go false h = absurd (none-some space (rw h at found))

-- a thread opens where its number has a version left
pub opens : (xs : List Numbered) (number space version : ℕ) → IsPlace number space → (slot_of xs number).space ≡ None → next_version_of (slot_of xs number).last ≡ Some version → next_id_of xs number space ≡ Ok (id_of number version)
opens xs number space version place free next =
    let within : (is_thread_number number && is_space space) ≡ true = grind (arith, nat_tests) in
    rw (within, free, next) refl

module _ (xs : List Numbered) (cs : List (Option Standing)) (table : List Slot) (same : length xs ≡ length cs) (slots : slots_from 0 xs cs ≡ table) where
  pub slot_is : (k : ℕ) → slot_at table k ≡ slot_from k (slot_of xs k) (slice_index_or cs k None)
  slot_is k = ap (λ table. slot_at table k) (sym slots) ∙ slot_from_at 0 k xs cs same ∙ ap (λ j. slot_from j (slot_of xs k) (slice_index_or cs k None)) (at_zero k)

  pub version_is : (k : ℕ) → (slot_at table k).version ≡ next_version_of (slot_of xs k).last
  version_is k = ap (λ slot. slot.version) (slot_is k)

  pub live_is : (k : ℕ) → (slot_at table k).live ≡ live_from k (slot_of xs k) (slice_index_or cs k None)
  live_is k = ap (λ slot. slot.live) (slot_is k)

  pub taken_is : (k : ℕ) → is_some (slot_at table k).live ≡ is_some (slot_of xs k).space
  taken_is k = ap is_some (live_is k) ∙ go (slot_of xs k).space
    where
      go : (o : Option ℕ) → is_some (option_map (made k (slot_of xs k).last (slice_index_or cs k None)) o) ≡ is_some o
      go None = refl
      go (Some space) = refl

  -- the open call of a number that has a live thread, and of one that has none
  pub standing_is : (k : ℕ) → standing_in (slot_at table k) ≡ (if is_some (slot_of xs k).space then slice_index_or cs k None else None)
  standing_is k = ap standing_in (slot_is k) ∙ go (slot_of xs k).space
    where
      go : (o : Option ℕ) → option_and_then call_with (option_map (made k (slot_of xs k).last (slice_index_or cs k None)) o) ≡ (if is_some o then slice_index_or cs k None else None)
      go None = refl
      go (Some space) = refl

  pub standing_past : (k : ℕ) → length cs ≤ k → standing_in (slot_at table k) ≡ None
  standing_past k past = standing_is k ∙ go (is_some (slot_of xs k).space)
    where
      go : (b : Bool) → (if b then slice_index_or cs k None else None) ≡ None
      go true = get_or_past cs k None past
      go false = refl

  pub standing_none : (k : ℕ) → slice_index_or cs k None ≡ None → standing_in (slot_at table k) ≡ None
  standing_none k none = standing_is k ∙ go (is_some (slot_of xs k).space)
    where
      go : (b : Bool) → (if b then slice_index_or cs k None else None) ≡ None
      go true = none
      go false = refl

  -- the live thread of an id
  id_is : (t last : ℕ) → (id_of (number_of t) last == t) ≡ (last == version_of t)
  id_is t last = go (last == version_of t) refl
    where
      parts : version_of t + 2 ^ 32 * number_of t ≡ t
      parts = omega arith

      go : (b : Bool) → (last == version_of t) ≡ b → (id_of (number_of t) last == t) ≡ b
      go true h = eq-eqb (id_of (number_of t) last) t (ap (id_of (number_of t)) (eqb-true last (version_of t) h) ∙ parts)
      go false h = ne_eqb (id_of (number_of t) last) t (λ e. let same : last ≡ version_of t = omega (arith, e, parts) in false≢true (sym h ∙ eq-eqb last (version_of t) same))

  pub live_in_is : (t : ℕ) → live_in table t ≡ option_map (with_id t (slice_index_or cs (number_of t) None)) (live_space_of xs t)
  live_in_is t = ap (option_and_then (if_thread t)) (live_is (number_of t)) ∙ go (slot_of xs (number_of t)).last (slot_of xs (number_of t)).space
    where
      found : (last space : ℕ) (b : Bool) → (last == version_of t) ≡ b → if_thread t (made (number_of t) last (slice_index_or cs (number_of t) None) space) ≡ option_map (with_id t (slice_index_or cs (number_of t) None)) (if b then Some space else None)
      found last space true h = let id : (id_of (number_of t) last == t) ≡ true = id_is t last ∙ h in rw id (ap (λ thread. Some (record { thread = thread; space = space; call = slice_index_or cs (number_of t) None })) (eqb-true (id_of (number_of t) last) t id))
      found last space false h = let id : (id_of (number_of t) last == t) ≡ false = id_is t last ∙ h in rw id refl

      none : (b : Bool) → None ≡ option_map (with_id t (slice_index_or cs (number_of t) None)) (if b then None else None)
      none true = refl
      none false = refl

      go : (last : ℕ) (o : Option ℕ) → option_and_then (if_thread t) (option_map (made (number_of t) last (slice_index_or cs (number_of t) None)) o) ≡ option_map (with_id t (slice_index_or cs (number_of t) None)) (if last == version_of t then o else None)
      go last None = none (last == version_of t)
      go last (Some space) = found last space (last == version_of t) refl

  pub live_found : (t space : ℕ) → live_space_of xs t ≡ Some space → (default : Option Standing) → Some (record { thread = t; space = space; call = slice_index_or cs (number_of t) default }) ≡ live_in table t
  live_found t space found default = ap (λ c. Some (with_id t c space)) (get_or_default cs (number_of t) default None (subst (λ n. number_of t < n) same (found_within xs t space found))) ∙ sym (live_in_is t ∙ rw found refl)

  pub live_missed : (t : ℕ) → live_space_of xs t ≡ None → live_in table t ≡ None
  live_missed t missed = live_in_is t ∙ rw missed refl

  -- whether it is live, its space, and its open call
  pub some_live : (t : ℕ) → is_some (live_in table t) ≡ is_some (live_space_of xs t)
  some_live t = ap is_some (live_in_is t) ∙ go (live_space_of xs t)
    where
      go : (o : Option ℕ) → is_some (option_map (with_id t (slice_index_or cs (number_of t) None)) o) ≡ is_some o
      go None = refl
      go (Some space) = refl

  pub space_live : (t : ℕ) → space_in table t ≡ option_map_or (λ space. space) (live_space_of xs t) 0
  space_live t = ap (λ l. option_map_or (λ (l : Live). l.space) l 0) (live_in_is t) ∙ go (live_space_of xs t)
    where
      go : (o : Option ℕ) → option_map_or (λ (l : Live). l.space) (option_map (with_id t (slice_index_or cs (number_of t) None)) o) 0 ≡ option_map_or (λ space. space) o 0
      go None = refl
      go (Some space) = refl

  pub call_live : (t space : ℕ) → live_space_of xs t ≡ Some space → (default : Option Standing) → slice_index_or cs (number_of t) default ≡ open_call_in table t
  call_live t space found default = ap (option_and_then (λ (l : Live). l.call)) (live_found t space found default)

  pub call_missed : (t : ℕ) → live_space_of xs t ≡ None → open_call_in table t ≡ None
  call_missed t missed = ap (option_and_then (λ (l : Live). l.call)) (live_missed t missed)

  -- the live thread of a number, by its id
  pub live_by_id : (k t : ℕ) → live_id_of xs k ≡ Some t → number_of t ≡ k → live_in table t ≡ (slot_at table k).live
  live_by_id k t found number = ap (λ j. option_and_then (if_thread t) (slot_at table j).live) number ∙ (ap (option_and_then (if_thread t)) (live_is k) ∙ go (slot_of xs k).space found ∙ sym (live_is k))
    where
      go : (o : Option ℕ) → option_map (λ space. id_of k (slot_of xs k).last) o ≡ Some t → option_and_then (if_thread t) (option_map (made k (slot_of xs k).last (slice_index_or cs k None)) o) ≡ option_map (made k (slot_of xs k).last (slice_index_or cs k None)) o
      go None h = refl
      go (Some space) h = let id : (id_of k (slot_of xs k).last == t) ≡ true = eq-eqb _ t (same_Some _ t h) in rw id refl

  pub live_by_none : (k : ℕ) → live_id_of xs k ≡ None → (slot_at table k).live ≡ None
  live_by_none k missed = live_is k ∙ go (slot_of xs k).space missed
    where
      go : (o : Option ℕ) → option_map (λ space. id_of k (slot_of xs k).last) o ≡ None → option_map (made k (slot_of xs k).last (slice_index_or cs k None)) o ≡ None
      go None h = refl
      go (Some space) h = absurd (none-some _ (sym h))

  id_parts : (t : ℕ) → id_of (number_of t) (version_of t) ≡ t
  id_parts t = omega arith

  -- a thread that opens
  pub free_is : (k : ℕ) → (slot_at table k).live ≡ None → (slot_of xs k).space ≡ None
  free_is k free = go (slot_of xs k).space (sym (live_is k) ∙ free)
    where
      go : (o : Option ℕ) → option_map (made k (slot_of xs k).last (slice_index_or cs k None)) o ≡ None → o ≡ None
      go None h = refl
      go (Some space) h = absurd (none-some _ (sym h))

  pub next_is : (k version : ℕ) → (slot_at table k).version ≡ Some version → next_version_of (slot_of xs k).last ≡ Some version
  next_is k version is = sym (version_is k) ∙ is

  pub opened_is : (t space version : ℕ) → version ≡ version_of t → slots_from 0 (slice_set xs (number_of t) (record { last = version; space = Some space })) (slice_set cs (number_of t) None) ≡ slice_set table (number_of t) (fresh t space)
  opened_is t space version is =
      both_set 0 (number_of t) xs cs (record { last = version; space = Some space }) None
      ∙ ap (λ table. slice_set table (number_of t) (slot_from (0 + number_of t) (record { last = version; space = Some space }) None)) slots
      ∙ ap (slice_set table (number_of t)) (rw (at_zero (number_of t), is) (ap (λ thread. record { version = next_version_of (version_of t); live = Some (with_id thread None space) }) (id_parts t)))

  -- a live thread that ends
  pub live_some : (t : ℕ) → is_some (live_in table t) ≡ true → (space : ℕ) × (live_space_of xs t ≡ Some space)
  live_some t some = go (live_space_of xs t) refl
    where
      go : (o : Option ℕ) → live_space_of xs t ≡ o → (space : ℕ) × (live_space_of xs t ≡ Some space)
      go None e = absurd (false≢true (ap is_some (sym (live_missed t e)) ∙ some))
      go (Some space) e = (space, e)

  pub closed_is : (t space : ℕ) → live_space_of xs t ≡ Some space → slots_from 0 (slice_set xs (number_of t) (record { last = version_of t; space = None })) (slice_set cs (number_of t) None) ≡ slice_set table (number_of t) (ended (slot_at table (number_of t)))
  closed_is t space found =
      both_set 0 (number_of t) xs cs (record { last = version_of t; space = None }) None
      ∙ ap (λ table. slice_set table (number_of t) (slot_from (0 + number_of t) (record { last = version_of t; space = None }) None)) slots
      ∙ ap (λ version. slice_set table (number_of t) (record { version = version; live = None })) (ap next_version_of (sym (found_version xs t space found)) ∙ sym (version_is (number_of t)))

-- the call that a change leaves is set
pub calling_after : (change : Standing → Option Standing) (slot : Slot) → calling (standing_in (with_call change slot)) slot ≡ with_call change slot
calling_after change slot = ap (λ l. record slot { live = l }) (go slot.live)
  where
    go : (o : Option Live) → option_map (called_live (option_and_then (λ l. l.call) (option_map (live_with change) o))) o ≡ option_map (live_with change) o
    go None = refl
    go (Some l) = refl

standing_with : (change : Standing → Option Standing) (slot : Slot) → standing_in (with_call change slot) ≡ option_and_then change (standing_in slot)
standing_with change slot = go slot.live
  where
    go : (o : Option Live) → option_and_then (λ l. l.call) (option_map (live_with change) o) ≡ option_and_then change (option_and_then (λ l. l.call) o)
    go None = refl
    go (Some l) = refl

pub standing_of_some : (change : Standing → Option Standing) (slot : Slot) (s : Standing) → standing_in slot ≡ Some s → standing_in (with_call change slot) ≡ change s
standing_of_some change slot s e = standing_with change slot ∙ ap (option_and_then change) e

pub standing_of_none : (change : Standing → Option Standing) (slot : Slot) → standing_in slot ≡ None → standing_in (with_call change slot) ≡ None
standing_of_none change slot e = standing_with change slot ∙ ap (option_and_then change) e

-- a call that is set over one that was set
calling_again : (c d : Option Standing) (slot : Slot) → calling c (calling d slot) ≡ calling c slot
calling_again c d slot = ap (λ l. record slot { live = l }) (go slot.live)
  where
    go : (o : Option Live) → option_map (called_live c) (option_map (called_live d) o) ≡ option_map (called_live c) o
    go None = refl
    go (Some l) = refl

pub calling_beside : (table : List Slot) (i j : ℕ) (c d : Option Standing) → calling c (slot_at (slice_set table i (calling d (slot_at table i))) j) ≡ calling c (slot_at table j)
calling_beside [] i j c d = refl
calling_beside (x ∷ xs) zero zero c d = calling_again c d x
calling_beside (x ∷ xs) zero (suc j) c d = refl
calling_beside (x ∷ xs) (suc i) zero c d = refl
calling_beside (x ∷ xs) (suc i) (suc j) c d = calling_beside xs i j c d

-- the slots of two calls that are changed
pub both_calling : (first second : Standing → Option Standing) (table : List Slot) (i j : ℕ) → slice_set (slice_set table i (calling (standing_in (with_call first (slot_at table i))) (slot_at table i))) j (calling (standing_in (with_call second (slot_at table j))) (slot_at (slice_set table i (calling (standing_in (with_call first (slot_at table i))) (slot_at table i))) j)) ≡ slice_set (slice_set table i (with_call first (slot_at table i))) j (with_call second (slot_at table j))
both_calling first second table i j =
    let c = standing_in (with_call first (slot_at table i)) in
    ap (slice_set (slice_set table i (calling c (slot_at table i))) j) (calling_beside table i j (standing_in (with_call second (slot_at table j))) c ∙ calling_after second (slot_at table j))
    ∙ ap (λ slot. slice_set (slice_set table i slot) j (with_call second (slot_at table j))) (calling_after first (slot_at table i))

-- a number that is set, with the open call of its live thread
pub made_is : (xs : List Numbered) (cs : List (Option Standing)) (table : List Slot) (k version : ℕ) (live : Live) → slots_from 0 xs cs ≡ table → live.thread ≡ id_of k version → slots_from 0 (slice_set xs k (record { last = version; space = Some live.space })) (slice_set cs k live.call) ≡ slice_set table k (record { version = next_version_of version; live = Some live })
made_is xs cs table k version live slots thread =
    both_set 0 k xs cs (record { last = version; space = Some live.space }) live.call
    ∙ (ap (λ l. slice_set l k (slot_from (0 + k) (record { last = version; space = Some live.space }) live.call)) slots
    ∙ ap (λ t. slice_set table k (record { version = next_version_of version; live = Some (record { thread = t; space = live.space; call = live.call }) })) (ap (λ j. id_of j version) (at_zero k) ∙ sym thread))

pub made_none : (xs : List Numbered) (cs : List (Option Standing)) (table : List Slot) (k version : ℕ) → slots_from 0 xs cs ≡ table → slots_from 0 (slice_set xs k (record { last = version; space = None })) (slice_set cs k None) ≡ slice_set table k (record { version = next_version_of version; live = None })
made_none xs cs table k version slots =
    both_set 0 k xs cs (record { last = version; space = None }) None
    ∙ ap (λ l. slice_set l k (record { version = next_version_of version; live = None })) slots
