-- What the kept entries say of threads: the same live in them, and the same sender is shown.
use Rattle.std.proofs.lemmas.Bool.{false≢true, true≢false}
use Rattle.std.proofs.Common.{◌≡◌, refl, sym, ap, ◌∙◌, ℕ, eqb-true, Bool, true, false, not, ◌&&◌, ◌||◌, List, [], ◌∷◌, None, unwrap_or, if◌then◌else◌, ◌⊎◌, inl, inr, arith}
use Rattle.std.specs.List.{list_any}
use Rattle.ipc_history.specs.Words.{first_some}
use Rattle.ipc_history.specs.Entries.{opens, breaks, space_in}
use Rattle.ipc_history.specs.Threads.{is_live, was_opened, has_broken, space_of}
use Rattle.ipc_history.specs.declared.entry.Entry.{Entry}
use Rattle.ipc_history.specs.declared.entry.Entry.TheVariants.{Given, Written}
use Rattle.ipc_history.specs.declared.entry.Input.TheVariants.{At, Opened, Called, Exreg, Broke, Moved}
use Rattle.ipc_compact.specs.Compact.{kept_calls, further_calls, is_kept_thread, is_at, keeps, is_kept, kept_list, kept_of}
use Rattle.ipc_compact.proofs.KeepLemmas.{IsKept, first_kept, any_kept}

third : (a b c : Bool) → c ≡ true → (a || b || c) ≡ true
third a b c h = grind arith

no_third : (a b c : Bool) → a ≡ false → b ≡ false → c ≡ false → (a || b || c) ≡ false
no_third a b c h k l = grind arith

any_never : (ns : List ℕ) → list_any (λ n. false) ns ≡ false
any_never [] = refl
any_never (n ∷ ns) = any_never ns

-- entries that are not kept are not there
pub any_gone : (test : Entry → Bool) (p : Entry → Bool) → ((e : Entry) → p e ≡ true → (is_at e ≡ false) × (test e ≡ false)) → (H : List Entry) → list_any p (kept_list test H) ≡ false
any_gone test p h [] = refl
any_gone test p h (e ∷ H) = go (any_gone test p h H) (keeps test e H) refl (p e) refl
  where
    lost : p e ≡ true → keeps test e H ≡ false
    lost passes = let gone = h e passes in rw gone.0 gone.1

    go : list_any p (kept_list test H) ≡ false → (b : Bool) → keeps test e H ≡ b → (a : Bool) → p e ≡ a → list_any p (if b then e ∷ kept_list test H else kept_list test H) ≡ false
    go again true is true passes = absurd (true≢false (sym is ∙ lost passes))
    go again true is false other = rw other again
    go again false is a passes = again

module _ (H : List Entry) (taken : List ℕ) (t : ℕ) where
  -- its Opened and Broke are kept
  abbrev pub stays : Bool
  stays = is_kept_thread H (kept_calls H taken) t || is_kept_thread H (further_calls H taken) t

  abbrev test : ℕ → Bool
  test t = is_kept_thread H (kept_calls H taken) t || is_kept_thread H (further_calls H taken) t

  pub opened_is : (e : Entry) → opens t e ≡ true → (is_at e ≡ false) × (is_kept H taken e ≡ stays)
  unfolding is_kept
  opened_is (Given (Opened u space)) h = let same : u ≡ t = eqb-true u t h in (refl, rw (any_never (kept_calls H taken)) (ap test same))
  opened_is (Given (At moment)) h = absurd (false≢true h)
  opened_is (Given (Called n thread call)) h = absurd (false≢true h)
  opened_is (Given (Exreg thread target control)) h = absurd (false≢true h)
  opened_is (Given (Broke thread)) h = absurd (false≢true h)
  opened_is (Given (Moved n count)) h = absurd (false≢true h)
  opened_is (Written output) h = absurd (false≢true h)

  pub broken_is : (e : Entry) → breaks t e ≡ true → (is_at e ≡ false) × (is_kept H taken e ≡ stays)
  unfolding is_kept
  broken_is (Given (Broke u)) h = let same : u ≡ t = eqb-true u t h in (refl, rw (any_never (kept_calls H taken)) (ap test same))
  broken_is (Given (At moment)) h = absurd (false≢true h)
  broken_is (Given (Opened thread space)) h = absurd (false≢true h)
  broken_is (Given (Called n thread call)) h = absurd (false≢true h)
  broken_is (Given (Exreg thread target control)) h = absurd (false≢true h)
  broken_is (Given (Moved n count)) h = absurd (false≢true h)
  broken_is (Written output) h = absurd (false≢true h)

  pub spaced_is : (e : Entry) → opens t e ≡ false → space_in t e ≡ None
  spaced_is (Given (Opened u space)) h = rw h refl
  spaced_is (Given (At moment)) h = refl
  spaced_is (Given (Called n thread call)) h = refl
  spaced_is (Given (Exreg thread target control)) h = refl
  spaced_is (Given (Broke thread)) h = refl
  spaced_is (Given (Moved n count)) h = refl
  spaced_is (Written output) h = refl

  pub by_test : (p : Entry → Bool) → ((e : Entry) → p e ≡ true → (is_at e ≡ false) × (is_kept H taken e ≡ stays)) → stays ≡ true → (e : Entry) → IsKept (is_kept H taken) e ⊎ (p e ≡ false)
  by_test p kept s e = go (p e) refl
    where
      go : (b : Bool) → p e ≡ b → IsKept (is_kept H taken) e ⊎ (p e ≡ false)
      go true is = inl ((kept e is).0, (kept e is).1 ∙ s)
      go false is = inr is

  pub opened_read : stays ≡ true → was_opened (kept_of H taken) t ≡ was_opened H t
  unfolding was_opened kept_of
  opened_read s = any_kept (is_kept H taken) (opens t) (by_test (opens t) opened_is s) H

  pub broken_read : stays ≡ true → has_broken (kept_of H taken) t ≡ has_broken H t
  unfolding has_broken kept_of
  broken_read s = any_kept (is_kept H taken) (breaks t) (by_test (breaks t) broken_is s) H

  pub spaces_read : stays ≡ true → first_some (space_in t) (kept_of H taken) ≡ first_some (space_in t) H
  unfolding kept_of
  spaces_read s = first_kept (is_kept H taken) (space_in t) each H
    where
      each : (e : Entry) → IsKept (is_kept H taken) e ⊎ (space_in t e ≡ None)
      each e = elim (by_test (opens t) opened_is s e) [ inl kept ↦ inl kept | inr none ↦ inr (spaced_is e none) ]

  pub space_read : stays ≡ true → space_of (kept_of H taken) t ≡ space_of H t
  unfolding space_of
  space_read s = ap (λ o. unwrap_or o 0) (spaces_read s)

  pub never_opened : stays ≡ false → was_opened (kept_of H taken) t ≡ false
  unfolding was_opened kept_of
  never_opened s = any_gone (is_kept H taken) (opens t) (λ e h. ((opened_is e h).0, (opened_is e h).1 ∙ s)) H

  pub never_broken : stays ≡ false → has_broken (kept_of H taken) t ≡ false
  unfolding has_broken kept_of
  never_broken s = any_gone (is_kept H taken) (breaks t) (λ e h. ((broken_is e h).0, (broken_is e h).1 ∙ s)) H

  pub lives_stays : is_live H t ≡ true → stays ≡ true
  unfolding is_kept_thread
  lives_stays h = first _ _ _ h
    where
      first : (a b c : Bool) → a ≡ true → ((a || b) || c) ≡ true
      first a b c h = grind arith

  -- the same threads live
  pub live_read : is_live (kept_of H taken) t ≡ is_live H t
  unfolding is_live
  live_read = go stays refl (is_live H t) refl
    where
      no_left : (a b : Bool) → a ≡ false → (a && b) ≡ false
      no_left a b h = grind arith

      go : (b : Bool) → stays ≡ b → (l : Bool) → is_live H t ≡ l → (was_opened (kept_of H taken) t && not (has_broken (kept_of H taken) t)) ≡ (was_opened H t && not (has_broken H t))
      go true s l is = rw (opened_read s, broken_read s) refl
      go false s true is = absurd (false≢true (sym s ∙ lives_stays is))
      go false s false is = no_left _ _ (never_opened s) ∙ sym is
