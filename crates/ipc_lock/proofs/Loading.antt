-- Pens that come out of boxes stand behind those that are out.
use Rattle.std.proofs.Common.{◌≡◌, ℕ, List, [], ◌∷◌, ◌++◌, append_assoc, append-nil, Bool, true, false, MatchBool, Option, Some, None, refl, sym, ap, ◌∙◌, subst}
use Rattle.std.specs.Prelude.{is_some, slice_get}
use Rattle.ipc_core.specs.KernelParts.{KernelParts}
use Rattle.ipc_connection.specs.Pens.{Page}
use Rattle.ipc_seats.specs.Boxes.{BoxParts}
use Rattle.ipc_seats.specs.Gifts.{gift_in, gifts}
use Rattle.ipc_seats.specs.Places.{LoadsAt, LoadsOne, LoadsRow, LooksAt, StaysAll, added}
use Rattle.ipc_seats.specs.declared.errands.Errands.{Errands}
use Rattle.ipc_seats.specs.declared.events.Gift.{Gift}
use Rattle.ipc_lock.specs.Handing.{InOrder}
use Rattle.ipc_lock.proofs.Handed.{added_gifts, added_order}
use Rattle.ipc_lock.proofs.Looking.{Known, Tells, kept_there, tells_at, tells_both, tells_none}

-- boxes were looked into whose pens came behind those that were out
pub record TellsMore {C P : Type 0} (known : ℕ → Known) (old new : KernelParts) (boxes after : List BoxParts) (errands errands_now : Errands C P) : Type 0 where
  pub gave : List Gift
  pub gifts_are : gifts errands_now ≡ gifts errands ++ gave
  pub order : InOrder errands_now
  pub tells : Tells known old new boxes after gave

more_none : {C P : Type 0} (known : ℕ → Known) (old new : KernelParts) (boxes after : List BoxParts) (errands errands_now : Errands C P)
    → InOrder errands → StaysAll old new boxes after → errands_now ≡ errands → TellsMore known old new boxes after errands errands_now
more_none {C} {P} known old new boxes after errands errands_now order stays same = record {
  gave = [];
  gifts_are = ap (λ (e : Errands C P). gifts e) same ∙ sym (append-nil (gifts errands));
  order = subst (λ (e : Errands C P). InOrder e) (sym same) order;
  tells = tells_none known old new boxes after stays;
}

pub loads_at : {C P : Type 0} (known : ℕ → Known) (old new : KernelParts) (boxes after : List BoxParts) (place : ℕ) (errands errands_now : Errands C P)
    → InOrder errands → LoadsAt old new boxes after place (slice_get boxes place) errands errands_now → TellsMore known old new boxes after errands errands_now
loads_at {C} {P} known old new boxes after place errands errands_now order h = go (slice_get boxes place) refl h
  where
    of_box : (b : Bool) (box : BoxParts) → slice_get boxes place ≡ Some box → is_some errands.third ≡ b
        → MatchBool b (StaysAll old new boxes after × (errands_now ≡ errands)) ((out : Option Page) × LooksAt old new boxes after place box out × (errands_now ≡ added out errands))
        → TellsMore known old new boxes after errands errands_now
    of_box true box is room h = more_none known old new boxes after errands errands_now order h.0 h.1
    of_box false box is room h = record {
      gave = gift_in h.0;
      gifts_are = ap (λ (e : Errands C P). gifts e) h.2 ∙ added_gifts C P h.0 errands.first errands.second errands.third order room;
      order = subst (λ (e : Errands C P). InOrder e) (sym h.2) (added_order C P h.0 errands.first errands.second errands.third order room);
      tells = tells_at known old new boxes after place box h.0 (kept_there known boxes place box is) h.1;
    }

    go : (o : Option BoxParts) → slice_get boxes place ≡ o → LoadsAt old new boxes after place o errands errands_now → TellsMore known old new boxes after errands errands_now
    go None is h = more_none known old new boxes after errands errands_now order h.0 h.1
    go (Some box) is h = of_box (is_some errands.third) box is refl h

loads_one : {C P : Type 0} (known : ℕ → Known) (place : Option ℕ) (old new : KernelParts) (boxes after : List BoxParts) (errands errands_now : Errands C P)
    → InOrder errands → LoadsOne place old new boxes after errands errands_now → TellsMore known old new boxes after errands errands_now
loads_one known None old new boxes after errands errands_now order h = more_none known old new boxes after errands errands_now order h.0 h.1
loads_one known (Some place) old new boxes after errands errands_now order h = loads_at known old new boxes after place errands errands_now order h

pub loads_row : {C P : Type 0} (known : ℕ → Known) (places : List (Option ℕ)) (old new : KernelParts) (boxes after : List BoxParts) (errands errands_now : Errands C P)
    → InOrder errands → LoadsRow places old new boxes after errands errands_now → TellsMore known old new boxes after errands errands_now
loads_row known [] old new boxes after errands errands_now order h = more_none known old new boxes after errands errands_now order h.0 h.1
loads_row known (place ∷ places) old new boxes after errands errands_now order h =
    let one = loads_one known place old h.0 boxes h.1 errands h.2 order h.3 in
    let row = loads_row known places h.0 new h.1 after h.2 errands_now one.order h.4 in
    record {
      gave = one.gave ++ row.gave;
      gifts_are = row.gifts_are ∙ (ap (λ (l : List Gift). l ++ row.gave) one.gifts_are ∙ append_assoc (gifts errands) one.gave row.gave);
      order = row.order;
      tells = tells_both known old h.0 new boxes h.1 after one.gave row.gave one.tells row.tells;
    }
