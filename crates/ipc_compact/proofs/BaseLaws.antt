-- What is kept of a history, and what its slots know, tell its base.
use Rattle.std.proofs.lemmas.Bool.{false_from_ne_true}
use Rattle.std.proofs.lemmas.Option.{none-some, cond_some}
use Rattle.std.proofs.Common.{◌≡◌, refl, sym, ap, ◌∙◌, subst, ℕ, ◌+◌, ◌-◌, ◌%◌, ◌^◌, ◌<◌, Bool, true, false, not, ◌&&◌, ◌||◌, ◌==◌, eq-eqb, cond, if◌then◌else◌, List, [], ◌∷◌, Option, Some, None, filter, option_and_then, arith}
use Rattle.std.specs.List.{list_any}
use Rattle.std.specs.Option.{option_map_or}
use Rattle.ipc_words.specs.ThreadId.{number_of, version_of}
use Rattle.ipc_words.specs.Version.{next_version_of}
use Rattle.ipc_history.specs.CallParts.{CallParts}
use Rattle.ipc_history.specs.Words.{last_some}
use Rattle.ipc_history.specs.Entries.{thread_in, number_in}
use Rattle.ipc_history.specs.Calls.{numbers}
use Rattle.ipc_history.specs.Threads.{is_live, next_version}
use Rattle.ipc_history.specs.Legal.{Legal, is_admissible, may_open}
use Rattle.ipc_history.specs.declared.entry.Entry.{Entry}
use Rattle.ipc_history.specs.declared.entry.Entry.TheVariants.{Given, Written}
use Rattle.ipc_history.specs.declared.entry.Input.TheVariants.{At, Opened, Called, Exreg, Broke, Moved}
use Rattle.ipc_laws.proofs.Histories.{admitted_at}
use Rattle.ipc_laws.proofs.Places.{Place}
use Rattle.ipc_laws.proofs.Tests.{held, left, not_both, right}
use Rattle.ipc_threads.specs.Slots.{live_of}
use Rattle.ipc_compact.specs.BaseTold.{DroppedTold, OverTold, VersionsTold, dropped_by, version_before}
use Rattle.ipc_compact.specs.Compact.{dropped_of, further_calls, is_among, is_further, is_kept, keeps, kept_calls, kept_list, kept_of, last_version, made_in}
use Rattle.ipc_compact.proofs.CallReading as there
use Rattle.ipc_compact.proofs.SameCompact as compacts
use Rattle.ipc_desks.proofs.LastCalls.{last_place}

-- The last version

-- a version that follows another one has low six bits that are not all zero
next_odd : (v w : ℕ) → next_version_of v ≡ Some w → (w % 64 == 0) ≡ false
next_odd v w h = go (v == 0xffff_ffff) ((v + 1) % 64 == 0) refl h
  where
    skips : (v w : ℕ) → ((v + 1) % 64 == 0) ≡ true → Some (v + 2) ≡ Some w → (w % 64 == 0) ≡ false
    skips v w h g = grind arith

    next : (v w : ℕ) → ((v + 1) % 64 == 0) ≡ false → Some (v + 1) ≡ Some w → (w % 64 == 0) ≡ false
    next v w h g = grind arith

    go : (a b : Bool) → ((v + 1) % 64 == 0) ≡ b → (if a then None else (if b then Some (v + 2) else Some (v + 1))) ≡ Some w
        → (w % 64 == 0) ≡ false
    go true b is g = absurd (none-some w g)
    go false true is g = skips v w is g
    go false false is g = next v w is g

opened_version : (P : List Entry) (t space : ℕ) → is_admissible P (Opened t space) ≡ true
    → next_version P (number_of t) ≡ Some (version_of t)
unfolding is_admissible may_open
opened_version P t space h = held _ (version_of t) (right _ _ (left _ _ (left _ _ h)))

next_from : (o : Option ℕ) (w : ℕ) → option_map_or (λ thread. next_version_of (version_of thread)) o (Some 1) ≡ Some w
    → (w % 64 == 0) ≡ false
next_from None w h = next_odd 0 w h
next_from (Some t) w h = next_odd (version_of t) w h

opened_odd : (H : List Entry) → Legal H → (k t : ℕ) → last_some (thread_in k) H ≡ Some t → (version_of t % 64 == 0) ≡ false
unfolding next_version
opened_odd H legal k t last = let p = last_place (thread_in k) H t last in go p.0 p.1 p.2
  where
    go : (e : Entry) → Place H e → thread_in k e ≡ Some t → (version_of t % 64 == 0) ≡ false
    go (Given (Opened u space)) at is =
        let same = (cond_some (number_of u == k) u t is).1 in
        subst (λ u. (version_of u % 64 == 0) ≡ false) same (next_from (last_some (thread_in (number_of u)) at.front) (version_of u) (opened_version at.front u space (admitted_at H legal (Opened u space) at)))
    go _ at is = absurd (none-some t is)

-- the next version goes back to it
goes_back : (v : ℕ) → v < 2 ^ 32 → (v % 64 == 0) ≡ false → v ≡ version_before (next_version_of v)
goes_back v small odd = go (v == 0xffff_ffff) refl ((v + 1) % 64 == 0) refl
  where
    worn : (v : ℕ) → (v == 0xffff_ffff) ≡ true → v ≡ 0xffff_ffff
    worn v h = grind arith

    skipped : (v : ℕ) → ((v + 1) % 64 == 0) ≡ true
        → v ≡ (if (v + 2) == 1 then 0 else (if ((v + 2) - 1) % 64 == 0 then (v + 2) - 2 else (v + 2) - 1))
    skipped v h = grind arith

    next : (v : ℕ) → (v % 64 == 0) ≡ false
        → v ≡ (if (v + 1) == 1 then 0 else (if ((v + 1) - 1) % 64 == 0 then (v + 1) - 2 else (v + 1) - 1))
    next v h = grind arith

    go : (a : Bool) → (v == 0xffff_ffff) ≡ a → (b : Bool) → ((v + 1) % 64 == 0) ≡ b
        → v ≡ version_before (if a then None else (if b then Some (v + 2) else Some (v + 1)))
    go true is b other = worn v is
    go false is true skips = skipped v skips
    go false is false stays = next v odd

module _ (H : List Entry) (legal : Legal H) (k : ℕ) where
  version_told : last_version H k ≡ version_before (next_version_of (last_version H k))
  unfolding last_version
  version_told = go (last_some (thread_in k) H) refl
    where
      small : (t : ℕ) → version_of t < 2 ^ 32
      small t = grind arith

      go : (o : Option ℕ) → last_some (thread_in k) H ≡ o
          → option_map_or version_of o 0 ≡ version_before (next_version_of (option_map_or version_of o 0))
      go None last = refl
      go (Some t) last = goes_back (version_of t) (small t) (opened_odd H legal k t last)

pub versions_told : VersionsTold
versions_told H legal k = version_told H legal k ∙ ap version_before (sym (compacts.version_by H [] legal k))

-- How many calls are not kept

pub dropped_told : DroppedTold
unfolding dropped_of live_of
dropped_told H kept k = go (last_some (thread_in k) H)
  where
    of : (t : ℕ) (b : Bool) → (if b then made_in H t - made_in kept t else 0) ≡ dropped_by H kept (if b then Some t else None)
    of t true = refl
    of t false = refl

    go : (o : Option ℕ)
        → option_map_or (λ t. if is_live H t then made_in H t - made_in kept t else 0) o 0 ≡ dropped_by H kept (option_and_then (λ t. if is_live H t then Some t else None) o)
    go None = refl
    go (Some t) = of t (is_live H t)

-- The calls that count as over

pub flipped : (n : ℕ) (ns : List ℕ) → list_any (λ k. n == k) ns ≡ is_among n ns
flipped n [] = refl
flipped n (k ∷ ns) = go (flipped n ns)
  where
    turned : (a b : ℕ) → (a == b) ≡ (b == a)
    turned a b = grind arith

    go : list_any (λ k. n == k) ns ≡ is_among n ns → ((n == k) || list_any (λ k. n == k) ns) ≡ ((k == n) || is_among n ns)
    go again = rw (again, turned n k) refl

module _ (H : List Entry) (taken : List ℕ) where
  abbrev kept : List ℕ
  kept = kept_calls H taken

  abbrev further : List ℕ
  further = further_calls H taken

  abbrev other : ℕ → Bool
  other n = not (is_among n kept)

  -- a call is a further one
  further_is : (n : ℕ) → is_among n (numbers H) ≡ true → is_among n further ≡ is_further H kept n
  unfolding further_calls
  further_is n c = go (is_further H kept n) refl
    where
      go : (b : Bool) → is_further H kept n ≡ b → is_among n (filter (is_further H kept) (numbers H)) ≡ is_further H kept n
      go true h = there.among_filter n (is_further H kept) (numbers H) c h ∙ sym h
      go false h = false_from_ne_true _ (λ t. not_both (there.filter_among n (is_further H kept) (numbers H) t) h) ∙ sym h

  further_other : (n : ℕ) → is_further H kept n ≡ true → is_among n kept ≡ false
  unfolding is_further
  further_other n h = first (is_among n kept) _ h
    where
      first : (a b : Bool) → (not a && b) ≡ true → a ≡ false
      first a b h = grind arith

  -- its Called is kept
  called_kept : (n t : ℕ) (call : CallParts) → is_kept H taken (Given (Called n t call)) ≡ (is_among n kept || is_among n further)
  unfolding is_kept
  called_kept n t call = rw (flipped n kept, flipped n further) (no_third (is_among n kept) (is_among n further))
    where
      no_third : (a b : Bool) → (a || b || false) ≡ (a || b)
      no_third a b = grind arith

  abbrev FromPart : List Entry → Type 0
  FromPart P = (n : ℕ) → is_among n (numbers P) ≡ true → is_among n (numbers H) ≡ true

  abbrev AreFurther : List Entry → Type 0
  AreFurther P = filter other (numbers (kept_list (is_kept H taken) P)) ≡ filter (is_further H kept) (numbers P)

  over_part : (P : List Entry) → FromPart P → AreFurther P
  unfolding numbers
  over_part [] part = refl
  over_part (e ∷ P) part = one e (over_part P later) part
    where
      second : (a b : Bool) → b ≡ true → (a || b) ≡ true
      second a b h = grind arith

      later : FromPart P
      later n h = part n (more e)
        where
          more : (e : Entry) → is_among n (numbers (e ∷ P)) ≡ true
          more (Given (Called m t call)) = second (m == n) _ h
          more (Given (At moment)) = h
          more (Given (Opened thread space)) = h
          more (Given (Exreg thread target control)) = h
          more (Given (Broke thread)) = h
          more (Given (Moved m count)) = h
          more (Written output) = h

      -- an entry that enters no call
      skips : (e : Entry) → number_in e ≡ None → AreFurther P
          → filter other (numbers (kept_list (is_kept H taken) (e ∷ P))) ≡ filter (is_further H kept) (numbers P)
      skips e none again = go (keeps (is_kept H taken) e P)
        where
          rest : List Entry
          rest = kept_list (is_kept H taken) P

          go : (b : Bool) → filter other (numbers (if b then e ∷ rest else rest)) ≡ filter (is_further H kept) (numbers P)
          go true = rw none again
          go false = again

      one : (e : Entry) → AreFurther P → FromPart (e ∷ P) → AreFurther (e ∷ P)
      one (Given (Called n t call)) again part = rw (called_kept n t call, further_is n (part n (first (n == n) _ (eq-eqb n n refl)))) (go (is_among n kept) refl (is_further H kept n) refl)
        where
          first : (a b : Bool) → a ≡ true → (a || b) ≡ true
          first a b h = grind arith

          rest : List Entry
          rest = kept_list (is_kept H taken) P

          go : (a : Bool) → is_among n kept ≡ a → (b : Bool) → is_further H kept n ≡ b
              → filter other (numbers (if a || b then Given (Called n t call) ∷ rest else rest)) ≡ cond b (n ∷ filter (is_further H kept) (numbers P)) (filter (is_further H kept) (numbers P))
          go true k true f = not_both k (further_other n f)
          go true k false f = rw k again
          go false k true f = rw k (ap (λ l. n ∷ l) again)
          go false k false f = again
      one (Given (At moment)) again part = skips (Given (At moment)) refl again
      one (Given (Opened thread space)) again part = skips (Given (Opened thread space)) refl again
      one (Given (Exreg thread target control)) again part = skips (Given (Exreg thread target control)) refl again
      one (Given (Broke thread)) again part = skips (Given (Broke thread)) refl again
      one (Given (Moved m count)) again part = skips (Given (Moved m count)) refl again
      one (Written output) again part = skips (Written output) refl again

pub over_told : OverTold
unfolding kept_of further_calls
over_told H taken = over_part H taken H (λ n h. h)
