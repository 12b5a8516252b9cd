-- Compacting up to a place, and once more up to a later one.
use Rattle.std.proofs.lemmas.Bool.{true≢false}
use Rattle.std.proofs.lemmas.List.{append-nil, append_assoc, drop-append-le, drop-drop, drop_all, length-take-le, take-append-drop, take-append-le, take_all}
use lib.Seq.{take-add}
use Rattle.std.proofs.Common.{◌≡◌, refl, sym, ap, ◌∙◌, subst, ℕ, zero, suc, ◌+◌, ◌-◌, ◌≤◌, Bool, true, false, ◌&&◌, ◌||◌, List, [], ◌∷◌, ◌++◌, length, take, drop, if◌then◌else◌, arith}
use Rattle.std.specs.List.{range_with_len}
use Rattle.std.proofs.lemmas.List.FromFn.{length-range_with_len}
use Rattle.ipc_history.specs.Legal.{Legal}
use Rattle.ipc_history.specs.declared.entry.Entry.{Entry}
use Rattle.ipc_compact.specs.Compact.{has_moment, is_at, is_kept, keeps, keeps_at, kept_ahead, kept_before, kept_list, kept_of, kept_places, places_ahead}
use Rattle.ipc_compact.specs.Places.{KeptAtPlaces, KeptToTheEnd, PlacesKept, PlacesTell}
use Rattle.ipc_compact.specs.Reads.{Narrower}
use Rattle.ipc_history.proofs.PlaceLemmas.{at_ahead, at_range}
use Rattle.ipc_compact.proofs.Again.{at_wanted, first_no, other_wanted, second_no}
use Rattle.ipc_compact.proofs.NotNeeded.{not_needed_again}

narrower_front : (t u : Entry → Bool) (F R : List Entry) → Narrower t u (F ++ R) → Narrower t u F
narrower_front t u [] R n = _
narrower_front t u (e ∷ F) R n = (n.0, narrower_front t u F R n.1)

narrower_rest : (t u : Entry → Bool) (F R : List Entry) → Narrower t u (F ++ R) → Narrower t u R
narrower_rest t u [] R n = n
narrower_rest t u (e ∷ F) R n = narrower_rest t u F R n.1

none : (m a b : Bool) → (m && a) ≡ false → (b ≡ true → a ≡ true) → (m && b) ≡ false
none m a true h w = let up = w refl in grind arith
none m a false h w = grind arith

both_no : (a b : Bool) → a ≡ false → b ≡ false → (a || b) ≡ false
both_no a b h k = grind arith

lost : (a b : Bool) → (b ≡ true → a ≡ true) → a ≡ false → b ≡ false
lost a true w h = absurd (true≢false (sym (w refl) ∙ h))
lost a false w h = refl

-- an At that is not wanted before a list is not wanted later either
unwanted_later : (t u : Entry → Bool) (X R : List Entry) → Narrower t u R → keeps_at t R ≡ false → keeps_at u (R ++ X) ≡ false
unwanted_later t u X [] n h = absurd (true≢false h)
unwanted_later t u X (e ∷ R) n h = go (unwanted_later t u X R n.1) (is_at e) refl
  where
    go : (keeps_at t R ≡ false → keeps_at u (R ++ X) ≡ false) → (a : Bool) → is_at e ≡ a → keeps_at u (e ∷ (R ++ X)) ≡ false
    go again true at = at_wanted u e (R ++ X) at
    go again false at =
        let all = sym (other_wanted t e R at) ∙ h in
        other_wanted u e (R ++ X) at ∙ both_no _ _ (again (first_no _ _ all)) (none (has_moment e) (t e) (u e) (second_no _ _ all) n.0)

chosen : {A : Type 0} (x : A) (b c : Bool) (r s : List A) → b ≡ c → r ≡ s → (if b then x ∷ r else r) ≡ (if c then x ∷ s else s)
chosen x b c r s h k = rw (h, k) refl

skipped : {A : Type 0} (x : A) (b : Bool) (s : List A) → b ≡ false → s ≡ (if b then x ∷ s else s)
skipped x b s h = rw h refl

module _ (t u : Entry → Bool) (R X : List Entry) (narrow : Narrower t u R) where
  abbrev Z : List Entry
  Z = R ++ X

  unwanted : (F : List Entry) → Narrower t u F → keeps_at t (F ++ R) ≡ false → keeps_at u (kept_ahead t F R ++ Z) ≡ false
  unwanted [] n h = unwanted_later t u X R narrow h
  unwanted (e ∷ F) n h = go (unwanted F n.1) (is_at e) refl (keeps t e (F ++ R)) refl
    where
      yes_no : (m a b : Bool) → (m && a) ≡ false → a ≡ true → (m && b) ≡ false
      yes_no m a b h k = grind arith

      go : (keeps_at t (F ++ R) ≡ false → keeps_at u (kept_ahead t F R ++ Z) ≡ false) → (a : Bool) → is_at e ≡ a → (b : Bool) → keeps t e (F ++ R) ≡ b → keeps_at u ((if b then e ∷ kept_ahead t F R else kept_ahead t F R) ++ Z) ≡ false
      go again true at true k = at_wanted u e (kept_ahead t F R ++ Z) at
      go again true at false k = again (rw at at k)
      go again false at true k =
          let all = sym (other_wanted t e (F ++ R) at) ∙ h in
          other_wanted u e (kept_ahead t F R ++ Z) at ∙ both_no _ _ (again (first_no _ _ all)) (yes_no (has_moment e) (t e) (u e) (second_no _ _ all) (rw at at k))
      go again false at false k = again (first_no _ _ (sym (other_wanted t e (F ++ R) at) ∙ h))

  -- so it is wanted before what was kept where it is wanted before all
  wanted_same : (F : List Entry) → Narrower t u F → keeps_at u (kept_ahead t F R ++ Z) ≡ keeps_at u (F ++ Z)
  wanted_same [] n = refl
  wanted_same (e ∷ F) n = go (wanted_same F n.1) (is_at e) refl (keeps t e (F ++ R)) refl
    where
      and_no : (m a : Bool) → a ≡ false → (m && a) ≡ false
      and_no m a h = grind arith

      or_no : (a b : Bool) → b ≡ false → a ≡ (a || b)
      or_no a b h = grind arith

      go : keeps_at u (kept_ahead t F R ++ Z) ≡ keeps_at u (F ++ Z) → (a : Bool) → is_at e ≡ a → (b : Bool) → keeps t e (F ++ R) ≡ b → keeps_at u ((if b then e ∷ kept_ahead t F R else kept_ahead t F R) ++ Z) ≡ keeps_at u (e ∷ (F ++ Z))
      go again true at true k = at_wanted u e (kept_ahead t F R ++ Z) at ∙ sym (at_wanted u e (F ++ Z) at)
      go again true at false k = unwanted F n.1 (rw at at k) ∙ sym (at_wanted u e (F ++ Z) at)
      go again false at true k = other_wanted u e (kept_ahead t F R ++ Z) at ∙ (ap (λ b. b || (has_moment e && u e)) again ∙ sym (other_wanted u e (F ++ Z) at))
      go again false at false k = again ∙ (or_no (keeps_at u (F ++ Z)) (has_moment e && u e) (and_no (has_moment e) (u e) (lost (t e) (u e) n.0 (rw at at k))) ∙ sym (other_wanted u e (F ++ Z) at))

  module _ (M S : List Entry) (all : M ++ S ≡ Z) where
    behind : (L : List Entry) → (L ++ M) ++ S ≡ L ++ Z
    behind L = append_assoc L M S ∙ ap (λ l. L ++ l) all

    whether : (e : Entry) (L : List Entry) → is_at e ≡ true → keeps u e ((L ++ M) ++ S) ≡ keeps_at u (L ++ Z)
    whether e L at = rw (behind L, at) refl

    plain : (e : Entry) (rest : List Entry) → is_at e ≡ false → keeps u e rest ≡ u e
    plain e rest at = rw at refl

    -- an entry that was kept is kept later before what was kept where it is kept before all
    same_choice : (F : List Entry) → Narrower t u F → (e : Entry) → keeps u e ((kept_ahead t F R ++ M) ++ S) ≡ keeps u e ((F ++ M) ++ S)
    same_choice F n e = go (is_at e) refl
      where
        go : (a : Bool) → is_at e ≡ a → keeps u e ((kept_ahead t F R ++ M) ++ S) ≡ keeps u e ((F ++ M) ++ S)
        go true at = whether e (kept_ahead t F R) at ∙ (wanted_same F n ∙ sym (whether e F at))
        go false at = plain e ((kept_ahead t F R ++ M) ++ S) at ∙ sym (plain e ((F ++ M) ++ S) at)

    -- one that was not kept is not kept later
    no_choice : (F : List Entry) → Narrower t u F → (e : Entry) → (u e ≡ true → t e ≡ true) → keeps t e (F ++ R) ≡ false → keeps u e ((F ++ M) ++ S) ≡ false
    no_choice F n e up k = go (is_at e) refl
      where
        go : (a : Bool) → is_at e ≡ a → keeps u e ((F ++ M) ++ S) ≡ false
        go true at = whether e F at ∙ (sym (wanted_same F n) ∙ unwanted F n (rw at at k))
        go false at = plain e ((F ++ M) ++ S) at ∙ lost (t e) (u e) up (rw at at k)

    -- what is kept of what was kept, up to a later place, is what is kept of all
    kept_on : (F : List Entry) → Narrower t u F → kept_ahead u (kept_ahead t F R ++ M) S ≡ kept_ahead u (F ++ M) S
    kept_on [] n = refl
    kept_on (e ∷ F) n = go (kept_on F n.1) (keeps t e (F ++ R)) refl
      where
        go : kept_ahead u (kept_ahead t F R ++ M) S ≡ kept_ahead u (F ++ M) S → (b : Bool) → keeps t e (F ++ R) ≡ b → kept_ahead u ((if b then e ∷ kept_ahead t F R else kept_ahead t F R) ++ M) S ≡ (if keeps u e ((F ++ M) ++ S) then e ∷ kept_ahead u (F ++ M) S else kept_ahead u (F ++ M) S)
        go again true k = chosen e _ _ _ _ (same_choice F n.1 e) again
        go again false k = again ∙ skipped e _ _ (no_choice F n.1 e n.0 k)

    -- and so are its places
    places_on : (F : List Entry) (places more : List ℕ) → length places ≡ length F → Narrower t u F → places_ahead u (kept_ahead t F R ++ M) (places_ahead t F places R ++ more) S ≡ places_ahead u (F ++ M) (places ++ more) S
    places_on [] [] more long n = refl
    places_on [] (p ∷ places) more long n = absurd (omega (arith, long))
    places_on (e ∷ F) [] more long n = absurd (omega (arith, long))
    places_on (e ∷ F) (p ∷ places) more long n = go (places_on F places more (omega (arith, long)) n.1) (keeps t e (F ++ R)) refl
      where
        go : places_ahead u (kept_ahead t F R ++ M) (places_ahead t F places R ++ more) S ≡ places_ahead u (F ++ M) (places ++ more) S → (b : Bool) → keeps t e (F ++ R) ≡ b → places_ahead u ((if b then e ∷ kept_ahead t F R else kept_ahead t F R) ++ M) ((if b then p ∷ places_ahead t F places R else places_ahead t F places R) ++ more) S ≡ (if keeps u e ((F ++ M) ++ S) then p ∷ places_ahead u (F ++ M) (places ++ more) S else places_ahead u (F ++ M) (places ++ more) S)
        go again true k = chosen p _ _ _ _ (same_choice F n.1 e) again
        go again false k = again ∙ skipped p _ _ (no_choice F n.1 e n.0 k)

ahead_all : (test : Entry → Bool) (H : List Entry) → kept_ahead test H [] ≡ kept_list test H
ahead_all test [] = refl
ahead_all test (e ∷ H) = rw (append-nil H) (ap (λ l. if keeps test e H then e ∷ l else l) (ahead_all test H))

pub to_the_end : KeptToTheEnd
unfolding kept_before kept_of
to_the_end H taken = rw (take_all (length H) H (omega arith), drop_all (length H) H (omega arith)) (ahead_all (is_kept H taken) H)

module _ (P X : List Entry) (place upto : ℕ) (low : place ≤ upto) (high : upto ≤ length (P ++ X)) (within : place ≤ length P) where
  abbrev H : List Entry
  H = P ++ X

  front : take place P ≡ take place H
  front = sym (take-append-le place P X within)

  rest : drop place P ++ X ≡ drop place H
  rest = sym (drop-append-le place P X within)

  middle : take (upto - place) (drop place H) ++ drop upto H ≡ drop place P ++ X
  middle =
      let at : place + (upto - place) ≡ upto = omega (arith, low) in
      ap (λ l. take (upto - place) (drop place H) ++ l) (ap (λ k. drop k H) (sym at) ∙ sym (drop-drop (upto - place) place H)) ∙ (take-append-drop (upto - place) (drop place H) ∙ sym rest)

  together : take place P ++ take (upto - place) (drop place H) ≡ take upto H
  together =
      let at : place + (upto - place) ≡ upto = omega (arith, low) in
      ap (λ l. l ++ take (upto - place) (drop place H)) front ∙ (sym (take-add place (upto - place) H) ∙ ap (λ k. take k H) at)

abbrev Goal : List ℕ → List Entry → ℕ → ℕ → List Entry → Type 0
Goal taken front place upto H =
    upto ≤ length H → Legal H
    → kept_ahead (is_kept H taken) (front ++ take (upto - place) (drop place H)) (drop upto H) ≡ kept_ahead (is_kept H taken) (take upto H) (drop upto H)

pub at_places : KeptAtPlaces
unfolding kept_before
at_places H taken front place upto legal was low high = subst (Goal taken front place upto) (sym was.whole) go high legal
  where
    go : Goal taken front place upto (was.past ++ was.since)
    go high legal =
        let P = was.past in
        let X = was.since in
        let t = is_kept P was.took in
        let u = is_kept (P ++ X) taken in
        let narrow = subst (Narrower t u) (sym (take-append-drop place P)) (not_needed_again P X was.took taken legal was.among) in
        ap (λ f. kept_ahead u (f ++ take (upto - place) (drop place (P ++ X))) (drop upto (P ++ X))) was.kept
        ∙ (kept_on t u (drop place P) X (narrower_rest t u (take place P) (drop place P) narrow) (take (upto - place) (drop place (P ++ X))) (drop upto (P ++ X)) (middle P X place upto low high was.within) (take place P) (narrower_front t u (take place P) (drop place P) narrow)
        ∙ ap (λ l. kept_ahead u l (drop upto (P ++ X))) (together P X place upto low high was.within))

-- numbers one after the other
numbers_on : (a m n : ℕ) → range_with_len a m ++ range_with_len (a + m) n ≡ range_with_len a (m + n)
numbers_on a zero n =
    let here : a + 0 ≡ a = omega arith in
    let none : 0 + n ≡ n = omega arith in
    ap (λ k. range_with_len k n) here ∙ ap (range_with_len a) (sym none)
numbers_on a (suc m) n =
    let here : a + suc m ≡ a + 1 + m = omega arith in
    let more : suc m + n ≡ suc (m + n) = omega arith in
    ap (λ k. a ∷ (range_with_len (a + 1) m ++ range_with_len k n)) here ∙ (ap (λ l. a ∷ l) (numbers_on (a + 1) m n) ∙ ap (range_with_len a) (sym more))

abbrev PlacesGoal : List ℕ → List Entry → List ℕ → ℕ → ℕ → List Entry → Type 0
PlacesGoal taken front places place upto H =
    upto ≤ length H → Legal H
    → places_ahead (is_kept H taken) (front ++ take (upto - place) (drop place H)) (places ++ range_with_len place (upto - place)) (drop upto H)
    ≡ places_ahead (is_kept H taken) (take upto H) (range_with_len 0 upto) (drop upto H)

pub places_kept : PlacesKept
unfolding kept_before kept_places
places_kept H taken front places place upto legal placed low high = subst (PlacesGoal taken front places place upto) (sym placed.was.whole) go high legal
  where
    go : PlacesGoal taken front places place upto (placed.was.past ++ placed.was.since)
    go high legal =
        let P = placed.was.past in
        let X = placed.was.since in
        let t = is_kept P placed.was.took in
        let u = is_kept (P ++ X) taken in
        let narrow = subst (Narrower t u) (sym (take-append-drop place P)) (not_needed_again P X placed.was.took taken legal placed.was.among) in
        let within = placed.was.within in
        let long = length-range_with_len 0 place ∙ sym (length-take-le place P within) in
        let along : place + (upto - place) ≡ upto = omega (arith, low) in
        let zero_on : 0 + place ≡ place = omega arith in
        let all : range_with_len 0 place ++ range_with_len place (upto - place) ≡ range_with_len 0 upto = ap (λ k. range_with_len 0 place ++ range_with_len k (upto - place)) (sym zero_on) ∙ (numbers_on 0 place (upto - place) ∙ ap (range_with_len 0) along) in
        (λ i. places_ahead u (placed.was.kept i ++ take (upto - place) (drop place (P ++ X))) (placed.places_are i ++ range_with_len place (upto - place)) (drop upto (P ++ X)))
        ∙ (places_on t u (drop place P) X (narrower_rest t u (take place P) (drop place P) narrow) (take (upto - place) (drop place (P ++ X))) (drop upto (P ++ X)) (middle P X place upto low high within) (take place P) (range_with_len 0 place) (range_with_len place (upto - place)) long (narrower_front t u (take place P) (drop place P) narrow)
        ∙ (λ i. places_ahead u (together P X place upto low high within i) (all i) (drop upto (P ++ X))))

pub places_tell : PlacesTell
unfolding kept_before kept_places
places_tell H taken place within = at_ahead H (is_kept H taken) (take place H) (range_with_len 0 place) (drop place H) (at_range H place 0 (omega (arith, within)))
