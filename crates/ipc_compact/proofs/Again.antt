-- Compacting again: of what was kept and what came since, the same is kept as of all.
use Rattle.std.proofs.lemmas.Bool.{true≢false}
use Rattle.std.proofs.Common.{◌≡◌, refl, sym, ap, ◌∙◌, Bool, true, false, not, ◌&&◌, ◌||◌, List, [], ◌∷◌, ◌++◌, if◌then◌else◌, arith}
use Rattle.std.specs.List.{list_any}
use Rattle.ipc_history.specs.declared.entry.Entry.{Entry}
use Rattle.ipc_compact.specs.Compact.{is_at, has_moment, keeps_at, keeps, kept_list}
use Rattle.ipc_compact.specs.Reads.{Narrower}

-- whether an At before one more entry is kept
pub at_wanted : (test : Entry → Bool) (e : Entry) (rest : List Entry) → is_at e ≡ true → keeps_at test (e ∷ rest) ≡ false
at_wanted test e rest at = rw at refl

no_at : (a b m t : Bool) → (not a || ((m && t) || b)) ≡ (((not a) || b) || (m && t))
no_at a b m t = grind arith

pub other_wanted : (test : Entry → Bool) (e : Entry) (rest : List Entry) → is_at e ≡ false → keeps_at test (e ∷ rest) ≡ (keeps_at test rest || (has_moment e && test e))
other_wanted test e rest at = rw at (no_at (list_any is_at rest) _ (has_moment e) (test e))

pub first_no : (a b : Bool) → (a || b) ≡ false → a ≡ false
first_no a b h = grind arith

pub second_no : (a b : Bool) → (a || b) ≡ false → b ≡ false
second_no a b h = grind arith

module _ (t u : Entry → Bool) (X : List Entry) where
  -- where an At before the list is not wanted, it is not wanted before what is kept of it either
  unwanted : (H : List Entry) → Narrower t u H → keeps_at t H ≡ false → keeps_at u (kept_list t H ++ X) ≡ false
  unwanted [] n h = absurd (true≢false h)
  unwanted (e ∷ H) n h = go (unwanted H n.1) (is_at e) refl (keeps t e H) refl
    where
      none : (m a b : Bool) → (m && a) ≡ false → a ≡ true → (m && b) ≡ false
      none m a b h k = grind arith

      both : (a b : Bool) → a ≡ false → b ≡ false → (a || b) ≡ false
      both a b h k = grind arith

      go : (keeps_at t H ≡ false → keeps_at u (kept_list t H ++ X) ≡ false) → (a : Bool) → is_at e ≡ a → (b : Bool) → keeps t e H ≡ b → keeps_at u ((if b then e ∷ kept_list t H else kept_list t H) ++ X) ≡ false
      go again true at true k = at_wanted u e (kept_list t H ++ X) at
      go again true at false k = again (rw at at k)
      go again false at true k =
          let all = sym (other_wanted t e H at) ∙ h in
          other_wanted u e (kept_list t H ++ X) at ∙ both _ _ (again (first_no _ _ all)) (none (has_moment e) (t e) (u e) (second_no _ _ all) (rw at at k))
      go again false at false k = again (first_no _ _ (sym (other_wanted t e H at) ∙ h))

  -- so it is wanted before the one where it is before the other
  wanted_same : (H : List Entry) → Narrower t u H → keeps_at u (kept_list t H ++ X) ≡ keeps_at u (H ++ X)
  wanted_same [] n = refl
  wanted_same (e ∷ H) n = go (wanted_same H n.1) (is_at e) refl (keeps t e H) refl
    where
      and_no : (m a : Bool) → a ≡ false → (m && a) ≡ false
      and_no m a h = grind arith

      or_no : (a b : Bool) → b ≡ false → a ≡ (a || b)
      or_no a b h = grind arith

      lost : (a b : Bool) → (b ≡ true → a ≡ true) → a ≡ false → b ≡ false
      lost a true w h = absurd (true≢false (sym (w refl) ∙ h))
      lost a false w h = refl

      go : keeps_at u (kept_list t H ++ X) ≡ keeps_at u (H ++ X) → (a : Bool) → is_at e ≡ a → (b : Bool) → keeps t e H ≡ b → keeps_at u ((if b then e ∷ kept_list t H else kept_list t H) ++ X) ≡ keeps_at u (e ∷ (H ++ X))
      go again true at true k = at_wanted u e (kept_list t H ++ X) at ∙ sym (at_wanted u e (H ++ X) at)
      go again true at false k = unwanted H n.1 (rw at at k) ∙ sym (at_wanted u e (H ++ X) at)
      go again false at true k = other_wanted u e (kept_list t H ++ X) at ∙ (ap (λ b. b || (has_moment e && u e)) again ∙ sym (other_wanted u e (H ++ X) at))
      go again false at false k = again ∙ (or_no (keeps_at u (H ++ X)) (has_moment e && u e) (and_no (has_moment e) (u e) (lost (t e) (u e) n.0 (rw at at k))) ∙ sym (other_wanted u e (H ++ X) at))

  pub kept_again : (H : List Entry) → Narrower t u H → kept_list u (kept_list t H ++ X) ≡ kept_list u (H ++ X)
  kept_again [] n = refl
  kept_again (e ∷ H) n = go (kept_again H n.1) (is_at e) refl (keeps t e H) refl
    where
      lost : (a b : Bool) → (b ≡ true → a ≡ true) → a ≡ false → b ≡ false
      lost a true w h = absurd (true≢false (sym (w refl) ∙ h))
      lost a false w h = refl

      chosen : (x y : Bool) (r s : List Entry) → x ≡ y → r ≡ s → (if x then e ∷ r else r) ≡ (if y then e ∷ s else s)
      chosen x y r s h k = rw (h, k) refl

      skipped : (x : Bool) (s : List Entry) → x ≡ false → s ≡ (if x then e ∷ s else s)
      skipped x s h = rw h refl

      whether : (rest : List Entry) → is_at e ≡ true → keeps u e rest ≡ keeps_at u rest
      whether rest at = rw at refl

      plain : (rest : List Entry) → is_at e ≡ false → keeps u e rest ≡ u e
      plain rest at = rw at refl

      go : kept_list u (kept_list t H ++ X) ≡ kept_list u (H ++ X) → (a : Bool) → is_at e ≡ a → (b : Bool) → keeps t e H ≡ b → kept_list u ((if b then e ∷ kept_list t H else kept_list t H) ++ X) ≡ (if keeps u e (H ++ X) then e ∷ kept_list u (H ++ X) else kept_list u (H ++ X))
      go again true at true k = chosen _ _ _ _ (whether (kept_list t H ++ X) at ∙ (wanted_same H n.1 ∙ sym (whether (H ++ X) at))) again
      go again true at false k = again ∙ skipped _ _ (whether (H ++ X) at ∙ (sym (wanted_same H n.1) ∙ unwanted H n.1 (rw at at k)))
      go again false at true k = chosen _ _ _ _ (plain (kept_list t H ++ X) at ∙ sym (plain (H ++ X) at)) again
      go again false at false k = again ∙ skipped _ _ (plain (H ++ X) at ∙ lost (t e) (u e) n.0 (rw at at k))
