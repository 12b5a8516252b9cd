-- The places of the entries that are held in front.
use Rattle.std.proofs.lemmas.List.{append_assoc, drop-drop, length-drop, length-take-le, length_push, take-append-drop, take-append-le}
use Rattle.std.proofs.lemmas.Option.{slice_get-get_or, slice_get_past, slice_get_within}
use Rattle.std.proofs.Common.{◌≡◌, ◌≢◌, refl, sym, ap, ◌∙◌, subst, ℕ, zero, suc, ◌+◌, ◌-◌, ◌<◌, ◌≤◌, Bool, true, false, ◌||◌, ◌==◌, not, List, [], ◌∷◌, ◌++◌, length, take, drop, get_or, Option, Some, None, if◌then◌else◌, nat_lt, eq-eqb, slice_index_or, option_copied, Bor, MatchOption, arith}
use Rattle.std.specs.List.{list_any, range_with_len, slice_get}
use Rattle.ipc_history.specs.Holding.{AreAt, IsHeld, IsPlaced, Rise, held_entry}
use Rattle.ipc_history.specs.HistoryParts.{HeldParts}
use Rattle.ipc_history.specs.Keeping.{keeps, kept_ahead, places_ahead}
use Rattle.ipc_history.specs.declared.entry.Entry.{Entry}
use Rattle.ipc_history.proofs.HoldingLemmas.{drop_at, take_at}

-- one more number
pub range_more : (a n : ℕ) → range_with_len a (n + 1) ≡ range_with_len a n ++ (a + n) ∷ []
range_more a zero = let same : a ≡ a + 0 = omega arith in ap (λ k. k ∷ []) same
range_more a (suc n) =
    let up : suc n + 1 ≡ suc (n + 1) = omega arith in
    let along : a + 1 + n ≡ a + suc n = omega arith in
    ap (range_with_len a) up ∙ (ap (λ l. a ∷ l) (range_more (a + 1) n) ∙ ap (λ k. a ∷ (range_with_len (a + 1) n ++ k ∷ [])) along)

pub place_numbered : (old now new : List ℕ) (from place : ℕ) → from ≤ place → now ≡ old ++ range_with_len from (place - from) → new ≡ now ++ place ∷ [] → new ≡ old ++ range_with_len from (place + 1 - from)
place_numbered old now new from place low is one =
    let up : place + 1 - from ≡ place - from + 1 = omega (arith, low) in
    let here : from + (place - from) ≡ place = omega (arith, low) in
    one ∙ (ap (λ l. l ++ place ∷ []) is ∙ (append_assoc old (range_with_len from (place - from)) (place ∷ []) ∙ (ap (λ k. old ++ (range_with_len from (place - from) ++ k ∷ [])) (sym here) ∙ (ap (λ l. old ++ l) (sym (range_more from (place - from))) ∙ ap (λ k. old ++ range_with_len from k) (sym up)))))

nth_drop : (n : ℕ) (xs : List Entry) → slice_get (drop n xs) 0 ≡ slice_get xs n
nth_drop zero xs = refl
nth_drop (suc n) [] = refl
nth_drop (suc n) (x ∷ xs) = nth_drop n xs

nth_left : (xs ys : List Entry) (k : ℕ) → k < length xs → slice_get (xs ++ ys) k ≡ slice_get xs k
nth_left [] ys k h = absurd (omega (arith, h))
nth_left (x ∷ xs) ys zero h = refl
nth_left (x ∷ xs) ys (suc k) h = nth_left xs ys k (omega (arith, h))

pub at_long : (P front : List Entry) (places : List ℕ) → AreAt P front places → length places ≡ length front
at_long P [] [] at = refl
at_long P [] (p ∷ places) at = absurd at
at_long P (e ∷ front) [] at = absurd at
at_long P (e ∷ front) (p ∷ places) at = let h = at_long P front places at.1 in omega (arith, h)

-- they stay so with one more entry
pub at_push : (P front : List Entry) (places : List ℕ) (x : Entry) → AreAt P front places → AreAt (P ++ x ∷ []) front places
at_push P [] [] x at = tt
at_push P [] (p ∷ places) x at = absurd at
at_push P (e ∷ front) [] x at = absurd at
at_push P (e ∷ front) (p ∷ places) x at = (nth_left P (x ∷ []) p (slice_get_within P p e at.0) ∙ at.0, at_push P front places x at.1)

pub at_append : (P front more : List Entry) (places others : List ℕ) → AreAt P front places → AreAt P more others → AreAt P (front ++ more) (places ++ others)
at_append P [] more [] others at also = also
at_append P [] more (p ∷ places) others at also = absurd at
at_append P (e ∷ front) more [] others at also = absurd at
at_append P (e ∷ front) more (p ∷ places) others at also = (at.0, at_append P front more places others at.1 also)

-- those of a stretch of the past
pub at_range : (P : List Entry) (k from : ℕ) → from + k ≤ length P → AreAt P (take k (drop from P)) (range_with_len from k)
at_range P zero from h = tt
at_range P (suc k) from h = go (drop from P) refl (λ more. at_range P k (from + 1) more)
  where
    go : (rest : List Entry) → drop from P ≡ rest → (from + 1 + k ≤ length P → AreAt P (take k (drop (from + 1) P)) (range_with_len (from + 1) k)) → AreAt P (take (suc k) rest) (range_with_len from (suc k))
    go [] is again = absurd (let long = ap length is in omega (arith, h, long, length-drop from P))
    go (e ∷ rest) is again = (
      sym (nth_drop from P) ∙ ap (λ l. slice_get l 0) is,
      subst (λ l. AreAt P (take k l) (range_with_len (from + 1) k)) (sym (drop-drop 1 from P) ∙ ap (drop 1) is) (again (omega (arith, h))),
    )

pub at_ahead : (P : List Entry) (test : Entry → Bool) (front : List Entry) (places : List ℕ) (rest : List Entry) → AreAt P front places → AreAt P (kept_ahead test front rest) (places_ahead test front places rest)
at_ahead P test [] [] rest at = tt
at_ahead P test [] (p ∷ places) rest at = absurd at
at_ahead P test (e ∷ front) [] rest at = absurd at
at_ahead P test (e ∷ front) (p ∷ places) rest at = go (at_ahead P test front places rest at.1) (keeps test e (front ++ rest))
  where
    go : AreAt P (kept_ahead test front rest) (places_ahead test front places rest) → (b : Bool) → AreAt P (if b then e ∷ kept_ahead test front rest else kept_ahead test front rest) (if b then p ∷ places_ahead test front places rest else places_ahead test front places rest)
    go more true = (at.0, more)
    go more false = more

pub at_get : (P front : List Entry) (places : List ℕ) (i : ℕ) → AreAt P front places → i < length places → slice_get front i ≡ slice_get P (get_or places i 0)
at_get P [] [] i at h = absurd (omega (arith, h))
at_get P [] (p ∷ places) i at h = absurd at
at_get P (e ∷ front) [] i at h = absurd at
at_get P (e ∷ front) (p ∷ places) zero at h = sym at.0
at_get P (e ∷ front) (p ∷ places) (suc i) at h = at_get P front places i at.1 (omega (arith, h))

-- what a slice gives at an index
pub got_item : {X : Type 0} (xs : List X) (i : ℕ) (given : Option (Bor X)) → MatchOption given (length xs ≤ i) (λ x. (i < length xs) × ((d : X) → x.now ≡ slice_index_or xs i d)) → option_copied given ≡ slice_get xs i
got_item xs i None h = sym (slice_get_past xs i h)
got_item xs i (Some x) h = ap Some (h.1 x.now) ∙ sym (slice_get-get_or xs i x.now h.0)

pub rise_from : (low from behind : ℕ) (places : List ℕ) → low ≤ from → Rise from behind places → Rise low behind places
rise_from low from behind [] h rise = tt
rise_from low from behind (p ∷ places) h rise = (let least = rise.0 in omega (arith, h, least), rise.1, rise.2)

pub rise_range : (k from behind : ℕ) → from + k ≤ behind → Rise from behind (range_with_len from k)
rise_range zero from behind h = tt
rise_range (suc k) from behind h = (omega arith, omega (arith, h), rise_range k (from + 1) behind (omega (arith, h)))

pub rise_append : (low middle behind : ℕ) (places others : List ℕ) → low ≤ middle → middle ≤ behind → Rise low middle places → Rise middle behind others → Rise low behind (places ++ others)
rise_append low middle behind [] others h k rise also = rise_from low middle behind others h also
rise_append low middle behind (p ∷ places) others h k rise also = (rise.0, (let most = rise.1 in omega (arith, k, most)), rise_append (p + 1) middle behind places others (let most = rise.1 in omega (arith, most)) k rise.2 also)

pub rise_ahead : (test : Entry → Bool) (low behind : ℕ) (front : List Entry) (places : List ℕ) (rest : List Entry) → Rise low behind places → Rise low behind (places_ahead test front places rest)
rise_ahead test low behind [] places rest rise = tt
rise_ahead test low behind (e ∷ front) [] rest rise = tt
rise_ahead test low behind (e ∷ front) (p ∷ places) rest rise = go (rise_ahead test (p + 1) behind front places rest rise.2) (keeps test e (front ++ rest))
  where
    go : Rise (p + 1) behind (places_ahead test front places rest) → (b : Bool) → Rise low behind (if b then p ∷ places_ahead test front places rest else places_ahead test front places rest)
    go more true = (rise.0, rise.1, more)
    go more false = rise_from low (p + 1) behind (places_ahead test front places rest) (let least = rise.0 in omega (arith, least)) more

pub rise_least : (low behind : ℕ) (places : List ℕ) (i : ℕ) → Rise low behind places → i < length places → low ≤ get_or places i 0
rise_least low behind [] i rise h = absurd (omega (arith, h))
rise_least low behind (p ∷ places) zero rise h = rise.0
rise_least low behind (p ∷ places) (suc i) rise h = let least = rise.0 in let more = rise_least (p + 1) behind places i rise.2 (omega (arith, h)) in omega (arith, least, more)

pub rise_sorted : (low behind : ℕ) (places : List ℕ) → Rise low behind places → (i j : ℕ) → i ≤ j → j < length places → get_or places i 0 ≤ get_or places j 0
rise_sorted low behind [] rise i j h k = absurd (omega (arith, k))
rise_sorted low behind (p ∷ places) rise zero zero h k = omega arith
rise_sorted low behind (p ∷ places) rise zero (suc j) h k = let more = rise_least (p + 1) behind places j rise.2 (omega (arith, k)) in omega (arith, more)
rise_sorted low behind (p ∷ places) rise (suc i) zero h k = absurd (omega (arith, h))
rise_sorted low behind (p ∷ places) rise (suc i) (suc j) h k = rise_sorted (p + 1) behind places rise.2 i j (omega (arith, h)) (omega (arith, k))

any_here : (place : ℕ) (places : List ℕ) (i : ℕ) → i < length places → get_or places i 0 ≡ place → list_any (λ p. p == place) places ≡ true
any_here place [] i h is = absurd (omega (arith, h))
any_here place (p ∷ places) zero h is = or_left _ _ (eq-eqb p place is)
  where
    or_left : (a b : Bool) → a ≡ true → (a || b) ≡ true
    or_left a b h = grind arith
any_here place (p ∷ places) (suc i) h is = or_right _ _ (any_here place places i (omega (arith, h)) is)
  where
    or_right : (a b : Bool) → b ≡ true → (a || b) ≡ true
    or_right a b h = grind arith

none_here : (place : ℕ) (places : List ℕ) → ((i : ℕ) → i < length places → get_or places i 0 ≢ place) → list_any (λ p. p == place) places ≡ false
none_here place [] none = refl
none_here place (p ∷ places) none = neither _ _ (other p place (none 0 (omega arith))) (none_here place places (λ i h. none (suc i) (omega (arith, h))))
  where
    neither : (a b : Bool) → a ≡ false → b ≡ false → (a || b) ≡ false
    neither a b h k = grind arith

    other : (a b : ℕ) → a ≢ b → (a == b) ≡ false
    other a b h = grind arith

pub placed_none : (one other : ℕ) → IsPlaced [] [] [] 0 0 0 one other
placed_none one other = record { beside = refl; at = tt; rise = tt; within = omega arith; entries_fit = omega arith; places_fit = omega arith }

module _ (P items : List Entry) (places : List ℕ) (kept gone room one other : ℕ) (was : IsHeld P items kept gone) (placed : IsPlaced P items places kept gone room one other) where
  pub placed_push : (x : Entry) → length items < room → IsPlaced (P ++ x ∷ []) (items ++ x ∷ []) places kept gone room one other
  placed_push x few = record {
    beside = placed.beside;
    at = subst (λ l. AreAt (P ++ x ∷ []) l places) (sym (take-append-le kept items (x ∷ []) was.within)) (at_push P (take kept items) places x placed.at);
    rise = placed.rise;
    within = omega (arith, few, length_push items x);
    entries_fit = placed.entries_fit;
    places_fit = placed.places_fit;
  }

  pub placed_roomy : (more one2 other2 : ℕ) → length items ≤ more → more ≤ one2 → more ≤ other2 → IsPlaced P items places kept gone more one2 other2
  placed_roomy more one2 other2 h k l = record { beside = placed.beside; at = placed.at; rise = placed.rise; within = h; entries_fit = k; places_fit = l }

  pub placed_ahead : (now : List Entry) (there : List ℕ) (test : Entry → Bool) (place k : ℕ) → kept + gone ≤ place → place ≤ length P → k ≤ place - gone → take k now ≡ kept_ahead test (take (place - gone) items) (drop (place - gone) items) → there ≡ places_ahead test (take (place - gone) items) (places ++ range_with_len (kept + gone) (place - (kept + gone))) (drop (place - gone) items) → length now + (place - gone) ≡ length items + k → IsPlaced P now there k (gone + (place - gone - k)) room one other
  placed_ahead now there test place k low high less front is len =
      let size = was.size in
      let within = was.within in
      let fits = placed.within in
      let all : k + (gone + (place - gone - k)) ≡ place = omega (arith, low, less) in
      let before : AreAt P (take (place - gone) items) (places ++ range_with_len (kept + gone) (place - (kept + gone))) = subst (λ l. AreAt P l (places ++ range_with_len (kept + gone) (place - (kept + gone)))) (sym (take_at P items kept gone was place low)) (at_append P (take kept items) (take (place - (kept + gone)) (drop (kept + gone) P)) places (range_with_len (kept + gone) (place - (kept + gone))) placed.at (at_range P (place - (kept + gone)) (kept + gone) (omega (arith, low, high)))) in
      let at : AreAt P (take k now) there = subst (λ l. AreAt P l there) (sym front) (subst (AreAt P (kept_ahead test (take (place - gone) items) (drop (place - gone) items))) (sym is) (at_ahead P test (take (place - gone) items) (places ++ range_with_len (kept + gone) (place - (kept + gone))) (drop (place - gone) items) before)) in
      record {
        beside = at_long P (take k now) there at ∙ length-take-le k now (omega (arith, len, low, high, size, less));
        at = at;
        rise = subst (λ b. Rise 0 b there) (sym all) (subst (Rise 0 place) (sym is) (rise_ahead test 0 place (take (place - gone) items) (places ++ range_with_len (kept + gone) (place - (kept + gone))) (drop (place - gone) items) (rise_append 0 (kept + gone) place places (range_with_len (kept + gone) (place - (kept + gone))) (omega arith) low placed.rise (rise_range (place - (kept + gone)) (kept + gone) place (omega (arith, low))))));
        within = omega (arith, len, less, fits);
        entries_fit = placed.entries_fit;
        places_fit = placed.places_fit;
      }

  module _ (mark place : ℕ) where
    abbrev held : HeldParts
    held = record { front = take kept items; places = places; whole_from = kept + gone; mark = mark }

    pub entry_behind : kept + gone ≤ place → slice_get items (place - gone) ≡ held_entry held P place
    entry_behind low = here ∙ rw (nat_lt-false place (kept + gone) low) refl
      where
        nat_lt-false : (a b : ℕ) → b ≤ a → nat_lt a b ≡ false
        nat_lt-false a b h = grind arith

        here : slice_get items (place - gone) ≡ slice_get P place
        here = sym (nth_drop (place - gone) items) ∙ (ap (λ l. slice_get l 0) (drop_at P items kept gone was place low) ∙ nth_drop place P)

    pub entry_found : (i : ℕ) → i < length places → get_or places i 0 ≡ place → slice_get items i ≡ held_entry held P place
    entry_found i within is = here ∙ rw (any_here place places i within is) (held_so (nat_lt place (kept + gone)))
      where
        held_so : (b : Bool) → slice_get P place ≡ (if not b || true then slice_get P place else None)
        held_so true = refl
        held_so false = refl

        front : slice_get (take kept items) i ≡ slice_get items i
        front = let beside = placed.beside in
            let some = was.within in
            sym (nth_left (take kept items) (drop kept items) i (omega (arith, within, beside, some, length-take-le kept items some))) ∙ ap (λ l. slice_get l i) (take-append-drop kept items)

        here : slice_get items i ≡ slice_get P place
        here = sym front ∙ (at_get P (take kept items) places i placed.at within ∙ ap (slice_get P) is)

    pub entry_missing : (i : ℕ) → place < kept + gone → ((k : ℕ) → k < i → get_or places k 0 < place) → ((k : ℕ) → i ≤ k → k < length places → place < get_or places k 0) → ◌≡◌ {A = Option Entry} None (held_entry held P place)
    entry_missing i high below above = rw (nat_lt-true place (kept + gone) high, none_here place places (λ k within is. apart k within (is) (nat_lt k i) refl)) refl
      where
        nat_lt-true : (a b : ℕ) → a < b → nat_lt a b ≡ true
        nat_lt-true a b h = grind arith

        lt-of : (a b : ℕ) → nat_lt a b ≡ true → a < b
        lt-of a b h = grind arith

        ge-of : (a b : ℕ) → nat_lt a b ≡ false → b ≤ a
        ge-of a b h = grind arith

        apart : (k : ℕ) → k < length places → get_or places k 0 ≡ place → (b : Bool) → nat_lt k i ≡ b → ⊥
        apart k within is true h = let less = below k (lt-of k i h) in omega (arith, less, is)
        apart k within is false h = let more = above k (ge-of k i h) within in omega (arith, more, is)
