-- What a queue has at one place.
use Rattle.std.proofs.Common.{◌≡◌, refl, sym, ap, ap₂, ◌∙◌, ℕ, Bool, true, false, not, ◌&&◌, ◌==◌, eqb-true, Option, None, List, [], ◌∷◌}
use Rattle.std.proofs.lemmas.Bool.{or_from, or_parts, true≢false}
use Rattle.ipc_waits.specs.Places.{HasHere, is_one}
use Rattle.ipc_waits.specs.Queues.{is_in, is_placed, is_same}
use Rattle.ipc_waits.specs.declared.queue.Wait.{Wait}
use Rattle.ipc_waits.proofs.Sames.{same_itself}

-- where it has none
pub placed_none : (place : ℕ) (ws : List Wait) → ((w : Wait) → w.place ≡ place → is_in ws w ≡ false) → is_placed ws place ≡ false
placed_none place [] none = refl
placed_none place (x ∷ xs) none = or_from _ _ (here (x.place == place) refl) (placed_none place xs (λ w at. (or_parts (is_same w x) (is_in xs w) (none w at)).1))
  where
    here : (b : Bool) → (x.place == place) ≡ b → b ≡ false
    here true e = absurd (true≢false (sym (same_itself x) ∙ (or_parts (is_same x x) (is_in xs x) (none x (eqb-true x.place place e))).0))
    here false e = refl

pub fresh_in : (place : ℕ) (mid ws : List Wait) (w : Wait) → mid ≡ ws → w.place ≡ place → HasHere ws place None → is_placed mid w.place ≡ false
fresh_in place mid ws w same at none = ap₂ (λ l k. is_placed l k) same at ∙ placed_none place ws none

emptied : (b : Bool) → (b && not b) ≡ false
emptied true = refl
emptied false = refl

-- after its wait is taken out
pub taken_out : (old new : List Wait) (place : ℕ) (wait : Option Wait) → HasHere old place wait → ((w : Wait) → is_in new w ≡ (is_in old w && not (is_one wait w))) → HasHere new place None
taken_out old new place wait has taken w at = taken w ∙ ap (λ b. b && not (is_one wait w)) (has w at) ∙ emptied (is_one wait w)
