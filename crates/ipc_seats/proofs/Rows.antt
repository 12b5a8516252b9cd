-- The boxes that are looked into behind a step, one after the other.
use Rattle.std.proofs.Common.{◌≡◌, ℕ, zero, suc, ◌+◌, ◌<◌, List, [], ◌∷◌, ◌++◌, Option, Some, length, map, take, drop, refl, sym, ap, ◌∙◌, subst, arith}
use Rattle.std.proofs.lemmas.List.{map_more}
use Rattle.std.proofs.lemmas.Option.{slice_get-get_or}
use Rattle.std.specs.Prelude.{slice_get, slice_index_or, slice_set}
use Rattle.ipc_core.specs.KernelParts.{KernelParts}
use Rattle.ipc_seats.specs.Boxes.{BoxParts}
use Rattle.ipc_seats.specs.Places.{LoadsOne, LoadsRow, place_at, place_of, places_told}
use Rattle.ipc_seats.specs.declared.errands.Errands.{Errands}

-- no box was looked into
pub row_none : {C P : Type 0} (kernel : KernelParts) (boxes : List BoxParts) (errands : Errands C P) → LoadsRow [] kernel kernel boxes boxes errands errands
row_none kernel boxes errands = (record { no_step = refl; no_change = refl }, refl)

-- and then one box more
pub row_and : {C P : Type 0} (places : List (Option ℕ)) (place : Option ℕ) (old between new : KernelParts) (boxes middle after : List BoxParts) (errands next errands_now : Errands C P)
    → LoadsRow places old between boxes middle errands next → LoadsOne place between new middle after next errands_now
    → LoadsRow (places ++ place ∷ []) old new boxes after errands errands_now
row_and {C} {P} [] place old between new boxes middle after errands next errands_now h one = (
  new,
  after,
  errands_now,
  subst (λ (k : KernelParts). LoadsOne place k new boxes after errands errands_now) h.0.no_step
      (subst (λ (m : List BoxParts). LoadsOne place between new m after errands errands_now) h.0.no_change
      (subst (λ (e : Errands C P). LoadsOne place between new middle after e errands_now) h.1 one)),
  row_none new after errands_now,
)
row_and (p ∷ places) place old between new boxes middle after errands next errands_now h one =
    (h.0, h.1, h.2, h.3, row_and places place h.0 between new h.1 middle after h.2 next errands_now h.4 one)

-- first that of who asked
pub row_first : {C P : Type 0} (own : Option ℕ) (owners owners_now : List (Option ℕ)) (finished finished_now : List ℕ) (old between new : KernelParts) (boxes middle after : List BoxParts) (errands next errands_now : Errands C P)
    → owners_now ≡ owners → finished_now ≡ finished → LoadsOne own old between boxes middle errands next
    → LoadsRow (map (place_of owners_now) finished_now) between new middle after next errands_now
    → LoadsRow (places_told own owners finished) old new boxes after errands errands_now
row_first {C} {P} own owners owners_now finished finished_now old between new boxes middle after errands next errands_now h k one row = (
  between,
  middle,
  next,
  one,
  subst (λ (o : List (Option ℕ)). LoadsRow (map (place_of o) finished) between new middle after next errands_now) h
      (subst (λ (f : List ℕ). LoadsRow (map (place_of owners_now) f) between new middle after next errands_now) k row),
)

-- the same behind what changed nothing of these
pub row_from : {C P : Type 0} (own : Option ℕ) (owners owners_now : List (Option ℕ)) (finished finished_now : List ℕ) (old old_now new : KernelParts) (boxes boxes_now after : List BoxParts) (errands errands_now : Errands C P)
    → owners_now ≡ owners → finished_now ≡ finished → old_now ≡ old → boxes_now ≡ boxes
    → LoadsRow (places_told own owners_now finished_now) old_now new boxes_now after errands errands_now
    → LoadsRow (places_told own owners finished) old new boxes after errands errands_now
row_from {C} {P} own owners owners_now finished finished_now old old_now new boxes boxes_now after errands errands_now h k l m row =
    subst (λ (o : List (Option ℕ)). LoadsRow (places_told own o finished) old new boxes after errands errands_now) h
    (subst (λ (f : List ℕ). LoadsRow (places_told own owners_now f) old new boxes after errands errands_now) k
    (subst (λ (x : KernelParts). LoadsRow (places_told own owners_now finished_now) x new boxes after errands errands_now) l
    (subst (λ (b : List BoxParts). LoadsRow (places_told own owners_now finished_now) old_now new b after errands errands_now) m row)))

-- those of the first threads, and then that of one thread more
pub row_more : {C P : Type 0} (owners : List (Option ℕ)) (finished : List ℕ) (i : ℕ) (old between new : KernelParts) (boxes middle after : List BoxParts) (errands next errands_now : Errands C P)
    → i < length finished → LoadsRow (map (place_of owners) (take i finished)) old between boxes middle errands next
    → LoadsOne (place_at owners (slice_get finished i)) between new middle after next errands_now
    → LoadsRow (map (place_of owners) (take (i + 1) finished)) old new boxes after errands errands_now
row_more {C} {P} owners finished i old between new boxes middle after errands next errands_now within h one =
    let there : slice_get finished i ≡ Some (slice_index_or finished i 0) = slice_get-get_or finished i 0 within in
    let last : LoadsOne (place_of owners (slice_index_or finished i 0)) between new middle after next errands_now =
    subst (λ (t : Option ℕ). LoadsOne (place_at owners t) between new middle after next errands_now) there one in
    subst (λ (places : List (Option ℕ)). LoadsRow places old new boxes after errands errands_now) (sym (map_more (place_of owners) finished i 0 within))
    (row_and (map (place_of owners) (take i finished)) (place_of owners (slice_index_or finished i 0)) old between new boxes middle after errands next errands_now h last)

kept_then : {X : Type 0} (f : X → X) (old : List X) (i : ℕ) (d : X)
    → slice_set (map f (take i old) ++ drop i old) i (f (slice_index_or (map f (take i old) ++ drop i old) i d)) ≡ map f (take (suc i) old) ++ drop (suc i) old
kept_then f [] zero d = refl
kept_then f [] (suc i) d = refl
kept_then f (x ∷ xs) zero d = refl
kept_then f (x ∷ xs) (suc i) d = ap (λ l. f x ∷ l) (kept_then f xs i d)

-- of a list one item more was changed
pub kept_more : {X : Type 0} (f : X → X) (old items : List X) (i : ℕ) (d y : X) → items ≡ map f (take i old) ++ drop i old → y ≡ f (slice_index_or items i d)
    → slice_set items i y ≡ map f (take (i + 1) old) ++ drop (i + 1) old
kept_more {X} f old items i d y is changed =
    let on : suc i ≡ i + 1 = omega arith in
    ap (λ (v : X). slice_set items i v) changed
    ∙ (subst (λ (l : List X). slice_set l i (f (slice_index_or l i d)) ≡ map f (take (suc i) old) ++ drop (suc i) old) (sym is) (kept_then f old i d)
    ∙ ap (λ (n : ℕ). map f (take n old) ++ drop n old) on)
