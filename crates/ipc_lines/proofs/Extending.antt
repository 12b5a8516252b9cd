-- A list that is extended by the parts of a text.
use Rattle.std.proofs.Common.{◌≡◌, Bool, false, List, map, OnOk}
use Rattle.std.specs.Result.{MatchResult}
use Rattle.std.specs.declared.result.Result.{Result}
use Rattle.std.specs.Fn.{CalledAt}
use Rattle.std.specs.Iterator.{Drains, Yields}
use Rattle.std.specs.List.{slice_split}
use Rattle.std.specs.Slice.Iter.{split_rest, split_done, split_callee, split_steps}
use Rattle.std.specs.Borrow.{Bor}
use denote.Param.Members.{Mut}
use Rattle.std.proofs.lemmas.Iterator.Adapters.{fact_from_extend}
use Rattle.std.proofs.lemmas.Iterator.Consumers.{YieldsList-at}
use Rattle.std.proofs.lemmas.Iterator.Splits.{YieldsList-from_slice_split}

-- what follows of the parts that a split gives, with p the test that its closure computes
pub extended_by_parts : {A F E Q : Type 0} {g : Mut F (Bor A × Unit {0}) Bool} {s : _} {P : List (Bor (List A)) → Type 0} (p : A → Bool) {f : F} (xs : List A) (r : Result (Unit {0}) E)
    → ((it : _) × (ys : List (Bor (List A))) × (it ≡ s) × P ys × MatchResult r (λ _. Drains (split_steps g) it ys) (λ _. (t : _) × Yields (split_steps g) it ys t))
    → split_rest s ≡ xs → split_done s ≡ false → split_callee s ≡ f → ((x : A) (b : Bool) (q : F) → CalledAt g f x b q → (q ≡ f) × (b ≡ p x))
    → ((ys : List (Bor (List A))) → map (λ y. y.now) ys ≡ slice_split p xs → P ys → Q) → OnOk r Q
extended_by_parts {g = g} p {f} xs r ran rest done closure called says =
    fact_from_extend (λ y. y.now) r ran (λ it b. YieldsList-at b (YieldsList-from_slice_split g p xs rest done closure called)) says
