-- The sweep of the front of a list from its end.
use Rattle.std.proofs.lemmas.List.{ext_get_or, get_or-take, get_or-drop, length-take-le, length-drop, drop_more, drop_all}
use lib.Seq.{take-append_seam, drop-append_seam}
use Rattle.std.proofs.Common.{◌≡◌, ◌≢◌, refl, sym, ap, ◌∙◌, subst, ℕ, ◌+◌, ◌-◌, ◌<◌, ◌≤◌, length, length-append, take, drop, get_or, Bool, true, false, not, ◌&&◌, ◌||◌, List, [], ◌∷◌, ◌++◌, arith}
use Rattle.std.specs.List.{list_any, SwappedAt}
use Rattle.ipc_history.specs.declared.entry.Entry.{Entry}
use Rattle.ipc_history.specs.Gathering.{ArePlacesGathered, IsGathered}
use Rattle.ipc_history.specs.Keeping.{is_at, has_moment, keeps_at, keeps, kept_ahead}

-- one more entry before the rest: whether an At before it is kept
pub wanted_at : (test : Entry → Bool) (e : Entry) (rest : List Entry) → is_at e ≡ true → keeps_at test (e ∷ rest) ≡ false
wanted_at test e rest at = rw at refl

no_at : (a b m t : Bool) → (not a || ((m && t) || b)) ≡ (((not a) || b) || (m && t))
no_at a b m t = grind arith

pub wanted_after : (test : Entry → Bool) (e : Entry) (rest : List Entry) → is_at e ≡ false → keeps_at test (e ∷ rest) ≡ (keeps_at test rest || (has_moment e && test e))
wanted_after test e rest at = rw at (no_at (list_any is_at rest) _ (has_moment e) (test e))

-- a swap puts the element of a place before those that were moved to the end
pub moved_before : {A : Type 0} (now new : List A) (place first : ℕ) (d : A) → length new ≡ length now → place < first → first ≤ length now → SwappedAt now new place (first - 1) → drop (first - 1) new ≡ get_or now place d ∷ drop first now
moved_before now new place first d same order within swapped = drop_more new (first - 1) d (omega (arith, same)) ∙ rw (swapped.1 d, above) refl
  where
    up : first - 1 + 1 ≡ first
    up = omega (arith, order)

    above : drop (first - 1 + 1) new ≡ drop first now
    above = rw up (ext_get_or d (drop first new) (drop first now) (length-drop first new ∙ (ap (λ n. n - first) same ∙ sym (length-drop first now))) (λ i h.
        get_or-drop first new i d ∙ (swapped.2 (first + i) d (λ s. omega (arith, s, order)) (λ s. omega (arith, s, order)) ∙ sym (get_or-drop first now i d))))

-- nothing was looked at
pub gathered_none : (test : Entry → Bool) (old : List Entry) (behind : ℕ) (wanted : Bool) → behind ≤ length old → wanted ≡ keeps_at test (drop behind old) → IsGathered test old old behind behind behind wanted
gathered_none test old behind wanted few is =
    let long = length-take-le behind old few in
    let none : drop behind (take behind old) ≡ [] = drop_all behind (take behind old) (omega (arith, long)) in
    record {
      size = refl;
      within = omega arith;
      order = omega arith;
      kept = rw none refl;
      front = λ k h d. refl;
      wanted_is = rw none is;
    }

module _ (test : Entry → Bool) (old now : List Entry) (behind place first : ℕ) (wanted : Bool) (few : behind ≤ length old) (g : IsGathered test old now behind (place + 1) first wanted) (d : Entry) where
  abbrev R : List Entry
  R = drop behind old

  abbrev rest : List Entry
  rest = drop (place + 1) (take behind old)

  abbrev e : Entry
  e = get_or old place d

  more : drop place (take behind old) ≡ e ∷ rest
  more =
      let o = g.order in
      let w = g.within in
      let long = length-take-le behind old few in
      drop_more (take behind old) place d (omega (arith, o, w, long)) ∙ ap (λ x. x ∷ rest) (get_or-take behind old place d (omega (arith, o, w)))

  -- one that is not kept stays where it is
  pub gathered_skip : (w : Bool) → keeps test e (rest ++ R) ≡ false → w ≡ keeps_at test (e ∷ (rest ++ R)) → IsGathered test old now behind place first w
  gathered_skip w dropped is = record {
    size = g.size;
    within = g.within;
    order = let o = g.order in omega (arith, o);
    kept = rw more (rw dropped g.kept);
    front = λ k h d. g.front k (omega (arith, h)) d;
    wanted_is = rw more is;
  }

  -- one that is kept is moved to the others
  pub gathered_move : (w : Bool) (new : List Entry) → length new ≡ length now → SwappedAt now new place (first - 1) → keeps test e (rest ++ R) ≡ true → w ≡ keeps_at test (e ∷ (rest ++ R)) → IsGathered test old new behind place (first - 1) w
  gathered_move w new same swapped keep is = record {
    size = same ∙ g.size;
    within = let w = g.within in omega (arith, w);
    order = let o = g.order in omega (arith, o);
    kept = rw more (rw keep (moved ∙ ap (λ l. e ∷ l) g.kept));
    front = λ k h d. swapped.2 k d (apart k place (omega (arith, h))) (apart k (first - 1) (let o = g.order in omega (arith, h, o))) ∙ g.front k (omega (arith, h)) d;
    wanted_is = rw more is;
  }
    where
      apart : (a b : ℕ) → a < b → a ≢ b
      apart a b h same = omega (arith, h, same)

      moved : drop (first - 1) new ≡ e ∷ drop first now
      moved =
          let o = g.order in
          let w = g.within in
          let z = g.size in
          moved_before now new place first d same (omega (arith, o)) (omega (arith, w, z, few)) swapped ∙ ap (λ x. x ∷ drop first now) (g.front place (omega arith) d)

-- no place was looked at
pub no_place_gathered : (test : Entry → Bool) (old : List Entry) (places : List ℕ) (behind : ℕ) → behind ≤ length old → length places ≡ behind → ArePlacesGathered test old places places behind behind behind
no_place_gathered test old places behind few long =
    let all = length-take-le behind old few in
    let none : drop behind (take behind old) ≡ [] = drop_all behind (take behind old) (omega (arith, all)) in
    let no_place : drop behind places ≡ [] = drop_all behind places (omega (arith, long)) in
    record { size = refl; kept = rw (none, no_place) refl; front = λ k h d. refl }

-- one more place is looked at
module _ (test : Entry → Bool) (old : List Entry) (places now : List ℕ) (behind place first : ℕ) (few : behind ≤ length old) (long : length places ≡ behind) (order : place + 1 ≤ first) (within : first ≤ behind) (g : ArePlacesGathered test old places now behind (place + 1) first) (d : Entry) where
  abbrev kept_before_it : Bool
  kept_before_it = keeps test (get_or old place d) (drop (place + 1) (take behind old) ++ drop behind old)

  entry_here : drop place (take behind old) ≡ get_or old place d ∷ drop (place + 1) (take behind old)
  entry_here =
      let all = length-take-le behind old few in
      drop_more (take behind old) place d (omega (arith, order, within, all)) ∙ ap (λ x. x ∷ drop (place + 1) (take behind old)) (get_or-take behind old place d (omega (arith, order, within)))

  place_here : drop place places ≡ get_or places place 0 ∷ drop (place + 1) places
  place_here = drop_more places place 0 (omega (arith, order, within, long))

  pub place_stays : kept_before_it ≡ false → ArePlacesGathered test old places now behind place first
  place_stays dropped = record {
    size = g.size;
    kept = rw (entry_here, place_here) (rw dropped g.kept);
    front = λ k h d. g.front k (omega (arith, h)) d;
  }

  pub place_goes : (new : List ℕ) → length new ≡ length now → SwappedAt now new place (first - 1) → kept_before_it ≡ true → ArePlacesGathered test old places new behind place (first - 1)
  place_goes new same swapped keep = record {
    size = same ∙ g.size;
    kept = rw (entry_here, place_here) (rw keep (moved ∙ ap (λ l. get_or places place 0 ∷ l) g.kept));
    front = λ k h d. swapped.2 k d (apart k place (omega (arith, h))) (apart k (first - 1) (omega (arith, h, order))) ∙ g.front k (omega (arith, h)) d;
  }
    where
      apart : (a b : ℕ) → a < b → a ≢ b
      apart a b h same = omega (arith, h, same)

      moved : drop (first - 1) new ≡ get_or places place 0 ∷ drop first now
      moved =
          let z = g.size in
          moved_before now new place first 0 same (omega (arith, order)) (omega (arith, within, z, long)) swapped ∙ ap (λ x. x ∷ drop first now) (g.front place (omega arith) 0)

-- the entry before the place that was reached, as the loop reads it
module _ (test : Entry → Bool) (old now : List Entry) (behind up first : ℕ) (wanted : Bool) (some : 0 < up) (few : behind ≤ length old) (g : IsGathered test old now behind up first wanted) (x : Entry) (read : x ≡ get_or now (up - 1) x) where
  below : IsGathered test old now behind (up - 1 + 1) first wanted
  below = subst (λ k. IsGathered test old now behind k first wanted) (omega (arith, some)) g

  same : get_or old (up - 1) x ≡ x
  same = sym (read ∙ g.front (up - 1) (omega (arith, some)) x)

  abbrev behind_it : List Entry
  behind_it = drop (up - 1 + 1) (take behind old) ++ drop behind old

  wanted_before : wanted ≡ keeps_at test behind_it
  wanted_before = below.wanted_is

  at_kept : is_at x ≡ true → keeps test (get_or old (up - 1) x) behind_it ≡ keeps_at test behind_it
  at_kept at = rw (same, at) refl

  other_kept : is_at x ≡ false → keeps test (get_or old (up - 1) x) behind_it ≡ test x
  other_kept at = rw (same, at) refl

  pub at_skipped : is_at x ≡ true → wanted ≡ false → IsGathered test old now behind (up - 1) first false
  at_skipped at un = gathered_skip test old now behind (up - 1) first wanted few below x false (at_kept at ∙ (sym wanted_before ∙ un)) (sym (wanted_at test _ behind_it (rw same at)))

  pub at_moved : (new : List Entry) → length new ≡ length now → SwappedAt now new (up - 1) (first - 1) → is_at x ≡ true → wanted ≡ true → IsGathered test old new behind (up - 1) (first - 1) false
  at_moved new size swapped at so = gathered_move test old now behind (up - 1) first wanted few below x false new size swapped (at_kept at ∙ (sym wanted_before ∙ so)) (sym (wanted_at test _ behind_it (rw same at)))

  more_wanted : is_at x ≡ false → keeps_at test (get_or old (up - 1) x ∷ behind_it) ≡ (wanted || (has_moment x && test x))
  more_wanted at = rw same (wanted_after test x behind_it at ∙ ap (λ b. b || (has_moment x && test x)) (sym wanted_before))

  pub other_skipped : is_at x ≡ false → test x ≡ false → IsGathered test old now behind (up - 1) first wanted
  other_skipped at un = gathered_skip test old now behind (up - 1) first wanted few below x wanted (other_kept at ∙ un) (sym (more_wanted at ∙ nothing wanted (has_moment x) (test x) un))
    where
      nothing : (w m t : Bool) → t ≡ false → (w || (m && t)) ≡ w
      nothing w m t h = grind arith

  pub other_moved : (new : List Entry) → length new ≡ length now → SwappedAt now new (up - 1) (first - 1) → is_at x ≡ false → test x ≡ true → (w : Bool) → w ≡ (wanted || has_moment x) → IsGathered test old new behind (up - 1) (first - 1) w
  other_moved new size swapped at so w is = gathered_move test old now behind (up - 1) first wanted few below x w new size swapped (other_kept at ∙ so) (is ∙ (something wanted (has_moment x) (test x) so ∙ sym (more_wanted at)))
    where
      something : (w m t : Bool) → t ≡ true → (w || m) ≡ (w || (m && t))
      something w m t h = grind arith

  -- and its place
  module _ (places there : List ℕ) (long : length places ≡ behind) (placed : ArePlacesGathered test old places there behind up first) where
    placed_below : ArePlacesGathered test old places there behind (up - 1 + 1) first
    placed_below = subst (λ k. ArePlacesGathered test old places there behind k first) (omega (arith, some)) placed

    pub place_skipped : keeps test (get_or old (up - 1) x) behind_it ≡ false → ArePlacesGathered test old places there behind (up - 1) first
    place_skipped un = place_stays test old places there behind (up - 1) first few long below.order below.within placed_below x un

    pub place_moved : (new : List ℕ) → length new ≡ length there → SwappedAt there new (up - 1) (first - 1) → keeps test (get_or old (up - 1) x) behind_it ≡ true → ArePlacesGathered test old places new behind (up - 1) (first - 1)
    place_moved new size swapped so = place_goes test old places there behind (up - 1) first few long below.order below.within placed_below x new size swapped so

    pub at_place_skipped : is_at x ≡ true → wanted ≡ false → ArePlacesGathered test old places there behind (up - 1) first
    at_place_skipped at un = place_skipped (at_kept at ∙ (sym wanted_before ∙ un))

    pub at_place_moved : (new : List ℕ) → length new ≡ length there → SwappedAt there new (up - 1) (first - 1) → is_at x ≡ true → wanted ≡ true → ArePlacesGathered test old places new behind (up - 1) (first - 1)
    at_place_moved new size swapped at so = place_moved new size swapped (at_kept at ∙ (sym wanted_before ∙ so))

    pub other_place_skipped : is_at x ≡ false → test x ≡ false → ArePlacesGathered test old places there behind (up - 1) first
    other_place_skipped at un = place_skipped (other_kept at ∙ un)

    pub other_place_moved : (new : List ℕ) → length new ≡ length there → SwappedAt there new (up - 1) (first - 1) → is_at x ≡ false → test x ≡ true → ArePlacesGathered test old places new behind (up - 1) (first - 1)
    other_place_moved new size swapped at so = place_moved new size swapped (other_kept at ∙ so)

-- what is at the end of the sweep: what is kept of the front, and then the rest
pub swept : (test : Entry → Bool) (old now : List Entry) (behind first : ℕ) → behind ≤ length old → first ≤ behind → length now ≡ length old → drop first now ≡ kept_ahead test (take behind old) (drop behind old) ++ drop behind old → (take (behind - first) (drop first now) ≡ kept_ahead test (take behind old) (drop behind old)) × (drop (behind - first) (drop first now) ≡ drop behind old)
swept test old now behind first few within size is =
    let kept = kept_ahead test (take behind old) (drop behind old) in
    let rest = drop behind old in
    let long : length kept ≡ behind - first = omega (arith, few, within, size, length-drop first now, length-drop behind old, length-append kept rest, ap length is) in
    rw (is, ← long) (take-append_seam kept rest, drop-append_seam kept rest)
