-- Places, each once, are few.
use Rattle.std.proofs.lemmas.Bool.{false≢true, or_cases}
use Rattle.std.proofs.lemmas.List.{length-append, map-append, take_all, take_more}
use Rattle.std.proofs.lemmas.List.Folds.{list_any-append}
use Rattle.std.proofs.lemmas.List.Elements.{All-head, All-nil, All-push, All-tail}
use Rattle.std.proofs.lemmas.Map.Keys.{IsDistinct-push}
use Rattle.std.proofs.lemmas.Map.Steps.{length-le_from_distinct_below}
use Rattle.std.proofs.Common.{◌≡◌, refl, sym, ap, ap₂, ◌∙◌, subst, ℕ, ◌+◌, ◌<◌, ◌≤◌, ◌||◌, ◌==◌, eqb-true, Bool, true, false, List, [], ◌∷◌, ◌++◌, length, take, map, get_or, if◌then◌else◌, inl, inr, arith}
use Rattle.std.specs.Prelude.{All}
use Rattle.std.specs.List.{IsDistinct, list_any}
use Rattle.ipc_waits.specs.Finding.{is_among}
use Rattle.ipc_words.specs.Limits.{table_slots}
use Rattle.ipc_waits.specs.Candidates.{ArePlaces, with_place}
use Rattle.ipc_waits.specs.declared.queue.Wait.{Wait}
use Rattle.ipc_waits.proofs.Numbers.{eqb_equivalence, eqb_sym}

among_either : (places : List ℕ) (n : ℕ) → is_among places n ≡ list_any (λ k. n == k) places
among_either [] n = refl
among_either (x ∷ xs) n = ap₂ (λ a b. a || b) (eqb_sym x n) (among_either xs n)

among_all : (P : ℕ → Type 0) (xs : List ℕ) (n : ℕ) → All P xs → is_among xs n ≡ true → P n
among_all P [] n all among = absurd (false≢true among)
among_all P (x ∷ xs) n all among = elim (or_cases (x == n) (is_among xs n) among) [
  | inl same ↦ subst P (eqb-true x n same) (All-head P x xs all)
  | inr later ↦ among_all P xs n (All-tail P x xs all) later
]

pub places_none : ArePlaces []
unfolding IsDistinct
places_none = record { once = tt; within = All-nil (λ k. k < table_slots) }

pub places_more : (places : List ℕ) (place : ℕ) → ArePlaces places → place < table_slots → is_among places place ≡ false → ArePlaces (places ++ place ∷ [])
places_more places place are below absent = record {
  once = IsDistinct-push eqb_equivalence places place are.once (sym (among_either places place) ∙ absent);
  within = All-push (λ k. k < table_slots) places place are.within below;
}

-- so there is room for one more
pub places_few : (places : List ℕ) (place : ℕ) → ArePlaces places → place < table_slots → is_among places place ≡ false → length places < table_slots
places_few places place are below absent =
    let more = places_more places place are below absent in
    let few = length-le_from_distinct_below (places ++ place ∷ []) table_slots more.once (λ q found. among_all (λ k. k < table_slots) (places ++ place ∷ []) q more.within (among_either (places ++ place ∷ []) q ∙ found)) in
    omega (arith, few, length-append places (place ∷ []))

-- One more place

or_none : (b : Bool) → (b || false) ≡ b
or_none true = refl
or_none false = refl

pub or_assoc : (a b c : Bool) → ((a || b) || c) ≡ (a || (b || c))
or_assoc true b c = refl
or_assoc false b c = refl

pub among_with : (places : List ℕ) (k j : ℕ) → is_among (with_place places k) j ≡ (is_among places j || (k == j))
among_with places k j = go (is_among places k) refl
  where
    either : (a b : Bool) → (b ≡ true → a ≡ true) → a ≡ (a || b)
    either true b h = refl
    either false true h = absurd (false≢true (h refl))
    either false false h = refl

    go : (b : Bool) → is_among places k ≡ b → is_among (if b then places else places ++ k ∷ []) j ≡ (is_among places j || (k == j))
    go true there = either (is_among places j) (k == j) (λ same. ap (is_among places) (sym (eqb-true k j same)) ∙ there)
    go false absent = list_any-append (λ x. x == j) places (k ∷ []) ∙ ap (λ b. is_among places j || b) (or_none (k == j))

-- The places of the first i of some waits

abbrev pub Added : List ℕ → List Wait → ℕ → List ℕ → Type 0
Added old waits i new = (j : ℕ) → is_among new j ≡ (is_among old j || is_among (map (λ w. w.place) (take i waits)) j)

pub added_none : (places : List ℕ) (waits : List Wait) → Added places waits 0 places
added_none places waits j = sym (or_none (is_among places j))

pub added_more : (old new after : List ℕ) (waits : List Wait) (i : ℕ) (w : Wait) → i < length waits → Added old waits i new → after ≡ with_place new (get_or waits i w).place → Added old waits (i + 1) after
added_more old new after waits i w within added is j =
    let front = map (λ w. w.place) (take i waits) in
    let k = (get_or waits i w).place in
    let longer : map (λ w. w.place) (take (i + 1) waits) ≡ front ++ k ∷ [] = ap (map (λ w. w.place)) (take_more waits i w within) ∙ map-append (λ w. w.place) (take i waits) (get_or waits i w ∷ []) in
    let right : is_among (map (λ w. w.place) (take (i + 1) waits)) j ≡ (is_among front j || (k == j)) = ap (λ l. is_among l j) longer ∙ (list_any-append (λ x. x == j) front (k ∷ []) ∙ ap (λ b. is_among front j || b) (or_none (k == j))) in
    ap (λ l. is_among l j) is ∙ (among_with new k j ∙ (ap (λ b. b || (k == j)) (added j) ∙ (or_assoc (is_among old j) (is_among front j) (k == j) ∙ ap (λ b. is_among old j || b) (sym right))))

pub added_all : (old new : List ℕ) (waits : List Wait) (i : ℕ) → length waits ≤ i → Added old waits i new → (j : ℕ) → is_among new j ≡ (is_among old j || is_among (map (λ w. w.place) waits) j)
added_all old new waits i all added j = added j ∙ ap (λ l. is_among old j || is_among (map (λ w. w.place) l) j) (take_all i waits all)
