-- The walk that follows from a place and marks the places that it has seen.
use Rattle.std.proofs.Common.{◌≡◌, ◌≢◌, refl, sym, ap, ◌∙◌, ℕ, zero, suc, ◌+◌, ◌<◌, ◌≤◌, List, length, get_or, Option, Some, None, Bool, true, false, arith, inl, inr, ◌⊎◌, add-one}
use Rattle.std.specs.Prelude.{sum_by, replicate}
use Rattle.std.proofs.Math.ListN.{set}
use Rattle.std.proofs.lemmas.List.{get_or-set_same, get_or-set_other}
use Rattle.std.proofs.lemmas.List.Sums.{sum_by-set}
use Rattle.std.proofs.lemmas.Bool.{eqb-true, eqb-false}
use Rattle.std.specs.Prelude.{◌==◌}
use Rattle.std.proofs.Math.ListN.{length-set}
use Rattle.l4sh_state.specs.Waits.{awaited_at, follow, places, ComesBack, GoesRound}

-- one for a place that was not seen
abbrev pub unseen : Bool → ℕ
unseen true = 0
unseen false = 1

-- a place that was seen waits for one that was seen or is met next, and not for the start
pub record GoesOn (waits : List (Option ℕ)) (start : ℕ) (seen : List Bool) (current i : ℕ) : Type 0 where
  pub next : ℕ
  pub is : awaited_at waits i ≡ Some next
  pub away : next ≡ start → ⊥
  pub within : (get_or seen next false ≡ true) ⊎ (next ≡ current)

-- so many steps from the start the walk is at the current place, and has not come back
pub record IsWalking (waits : List (Option ℕ)) (start : ℕ) (seen : List Bool) (current steps : ℕ) : Type 0 where
  pub whole : length seen ≡ places
  pub here : follow waits start steps ≡ Some current
  pub fresh : (m : ℕ) → 0 < m → m ≤ steps → follow waits start m ≡ Some start → ⊥
  pub begun : (get_or seen start false ≡ true) ⊎ (current ≡ start)
  pub goes : (i : ℕ) → get_or seen i false ≡ true → GoesOn waits start seen current i
  pub counted : steps + sum_by unseen seen ≡ places

pub follow_next : (waits : List (Option ℕ)) (k n i : ℕ) → follow waits k n ≡ Some i → follow waits k (n + 1) ≡ awaited_at waits i
unfolding follow
follow_next waits k n i at = rw (add-one, at) refl

pub follow_none : (waits : List (Option ℕ)) (start current steps : ℕ) → follow waits start steps ≡ Some current → awaited_at waits current ≡ None
    → follow waits start (steps + 1) ≡ None
follow_none waits start current steps here none = follow_next waits start steps current here ∙ none

nothing_seen : (n i : ℕ) → get_or (replicate n false) i false ≡ true → ⊥
nothing_seen zero i seen = cc
nothing_seen (suc n) zero seen = cc
nothing_seen (suc n) (suc i) seen = nothing_seen n i seen

pub walk_start : (waits : List (Option ℕ)) (start : ℕ) → IsWalking waits start (replicate places false) start 0
unfolding follow
walk_start waits start = record {
  whole = refl;
  here = refl;
  fresh = λ m some most back. absurd (omega arith);
  begun = inr refl;
  goes = λ i seen. absurd (nothing_seen places i seen);
  counted = refl;
}

-- the places that were seen are closed where the current one was seen
stays : (waits : List (Option ℕ)) (start : ℕ) (seen : List Bool) (current steps : ℕ) → IsWalking waits start seen current steps
    → get_or seen current false ≡ true → (n : ℕ) → (j : ℕ) × (follow waits start n ≡ Some j) × (get_or seen j false ≡ true)
unfolding follow
stays waits start seen current steps walking again zero =
    (start, refl, elim walking.begun [ inl h ↦ h | inr h ↦ rw (← h) again ])
stays waits start seen current steps walking again (suc n) =
    let before = stays waits start seen current steps walking again n in
    let on = walking.goes before.0 before.2 in
    (on.next, rw before.1 on.is, elim on.within [ inl h ↦ h | inr h ↦ rw h again ])

away : (waits : List (Option ℕ)) (start : ℕ) (seen : List Bool) (current steps : ℕ) → IsWalking waits start seen current steps
    → get_or seen current false ≡ true → (n : ℕ) → 0 < n → follow waits start n ≡ Some start → ⊥
unfolding follow
away waits start seen current steps walking again zero some back = absurd (omega arith)
away waits start seen current steps walking again (suc n) some back =
    let before = stays waits start seen current steps walking again n in
    let on = walking.goes before.0 before.2 in
    let moved : follow waits start (suc n) ≡ Some on.next = rw before.1 on.is in
    let same : Some on.next ≡ Some start = sym moved ∙ back in
    on.away (cc)

pub walk_round : (waits : List (Option ℕ)) (start : ℕ) (seen : List Bool) (current steps : ℕ) → IsWalking waits start seen current steps
    → get_or seen current false ≡ true → GoesRound waits start
walk_round waits start seen current steps walking again = record {
  goes_on = λ n. let at = stays waits start seen current steps walking again n in rw at.1 refl;
  never_back = away waits start seen current steps walking again;
}

pub walk_back : (waits : List (Option ℕ)) (start : ℕ) (seen : List Bool) (current steps next : ℕ) → IsWalking waits start seen current steps
    → awaited_at waits current ≡ Some next → next ≡ start → ComesBack waits start (steps + 1)
walk_back waits start seen current steps next walking is same = record {
  some = omega arith;
  back = follow_next waits start steps current walking.here ∙ is ∙ ap Some same;
  first = λ m some less. walking.fresh m some (omega arith);
}

-- a place that is marked is the one of the mark or was marked before
marked : (seen : List Bool) (current i : ℕ) → get_or (set seen current true) i false ≡ true → (i ≡ current) ⊎ (get_or seen i false ≡ true)
marked seen current i now = go (i == current) refl
  where
    go : (b : Bool) → (i == current) ≡ b → (i ≡ current) ⊎ (get_or seen i false ≡ true)
    go true e = inl (eqb-true i current e)
    go false e =
        let other : i ≢ current = eqb-false i current e in
        inr (sym (get_or-set_other seen current i true false other) ∙ now)

-- and what was marked stays marked
kept : (seen : List Bool) (current i : ℕ) → current < length seen → (get_or seen i false ≡ true) ⊎ (i ≡ current) → get_or (set seen current true) i false ≡ true
kept seen current i within was = go (i == current) refl
  where
    go : (b : Bool) → (i == current) ≡ b → get_or (set seen current true) i false ≡ true
    go true e =
        let same : i ≡ current = eqb-true i current e in
        rw same (get_or-set_same seen current true false within)
    go false e =
        let other : i ≢ current = eqb-false i current e in
        get_or-set_other seen current i true false other ∙ elim was [ inl h ↦ h | inr h ↦ absurd (other h) ]

never_yet : (waits : List (Option ℕ)) (start current steps next : ℕ) → follow waits start steps ≡ Some current
    → ((m : ℕ) → 0 < m → m ≤ steps → follow waits start m ≡ Some start → ⊥) → awaited_at waits current ≡ Some next → (next ≡ start → ⊥)
    → (m : ℕ) → 0 < m → m ≤ steps + 1 → follow waits start m ≡ Some start → ⊥
never_yet waits start current steps next here fresh is other m some most back = go (m == steps + 1) refl
  where
    go : (b : Bool) → (m == steps + 1) ≡ b → ⊥
    go true e =
        let last : m ≡ steps + 1 = eqb-true m (steps + 1) e in
        let moved : follow waits start (steps + 1) ≡ Some next = follow_next waits start steps current here ∙ is in
        let same : Some next ≡ Some start = sym moved ∙ ap (follow waits start) (sym last) ∙ back in
        other (cc)
    go false e =
        let less : m ≢ steps + 1 = eqb-false m (steps + 1) e in
        fresh m some (omega arith) back

pub walk_on : (waits : List (Option ℕ)) (start : ℕ) (seen : List Bool) (current steps next : ℕ) → IsWalking waits start seen current steps
    → current < places → get_or seen current false ≡ false → awaited_at waits current ≡ Some next → (next ≡ start → ⊥)
    → IsWalking waits start (set seen current true) next (steps + 1)
walk_on waits start seen current steps next walking below new is other =
    let within : current < length seen = rw walking.whole below in
    let fewer = sum_by-set unseen seen current true false within in
    let one : unseen (get_or seen current false) ≡ 1 = ap unseen new in
    record {
      whole = ◌∙◌ (length-set seen current true) walking.whole;
      here = follow_next waits start steps current walking.here ∙ is;
      fresh = never_yet waits start current steps next walking.here walking.fresh is other;
      begun = inl (kept seen current start within (elim walking.begun [ inl h ↦ inl h | inr h ↦ inr (sym h) ]));
      goes = λ i now. elim (marked seen current i now) [
        | inl same ↦ record { next = next; is = rw same is; away = other; within = inr refl }
        | inr was ↦
            let on = walking.goes i was in
            record { next = on.next; is = on.is; away = on.away; within = inl (kept seen current on.next within on.within) }
      ];
      counted = let c = walking.counted in omega (arith, fewer, one, c);
    }
