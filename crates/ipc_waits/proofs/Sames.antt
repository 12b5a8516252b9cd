-- The same wait, and which waits are in a list.
use Rattle.std.proofs.Common.{◌≡◌, refl, sym, ap, ◌∙◌, ℕ, ◌<◌, Bool, true, false, cond, ◌||◌, eq-eqb, eqb-true, List, [], ◌∷◌, ◌++◌, length, get_or, filter, inl, inr, arith}
use Rattle.std.proofs.lemmas.Bool.{and_from, and_parts, and_right, false≢true, or_cases, or_from, or_left, or_parts, or_right}
use Rattle.std.proofs.lemmas.List.Folds.{list_any-append, list_any_at}
use Rattle.ipc_waits.specs.Queues.{is_in, is_placed, is_same}
use Rattle.ipc_waits.specs.declared.queue.Wait.{Wait}
use Rattle.ipc_waits.proofs.Numbers.{eqb_sym}

pub same_itself : (w : Wait) → is_same w w ≡ true
same_itself w = and_from _ _ (and_from _ _ (eq-eqb w.key w.key refl) (eq-eqb w.number w.number refl)) (eq-eqb w.place w.place refl)

pub same_is : (a b : Wait) → is_same a b ≡ true → a ≡ b
same_is a b h =
    let made : ℕ → ℕ → ℕ → Wait = λ k n p. record { key = k; number = n; place = p } in
    let whole = and_parts _ _ h in
    let first = and_parts _ _ whole.0 in
    ap (λ k. made k a.number a.place) (eqb-true a.key b.key first.0)
    ∙ ap (λ n. made b.key n a.place) (eqb-true a.number b.number first.1)
    ∙ ap (λ p. made b.key b.number p) (eqb-true a.place b.place whole.1)

pub in_at : (ws : List Wait) (k : ℕ) (d : Wait) → k < length ws → is_in ws (get_or ws k d) ≡ true
in_at ws k d within = list_any_at (is_same (get_or ws k d)) ws k d within (same_itself (get_or ws k d))

-- in a list with one more
swapped : (a b c : Bool) → (a || (b || c)) ≡ ((a || c) || b)
swapped a b c = grind arith

pub in_with : (xs ys : List Wait) (v w : Wait) → is_in (xs ++ v ∷ ys) w ≡ (is_in (xs ++ ys) w || is_same w v)
in_with xs ys v w =
    list_any-append (is_same w) xs (v ∷ ys) ∙ swapped (is_in xs w) (is_same w v) (is_in ys w)
    ∙ ap (λ b. b || is_same w v) (sym (list_any-append (is_same w) xs ys))

-- in what a test keeps
pub in_filter : (p : Wait → Bool) (ws : List Wait) (w : Wait) → is_in (filter p ws) w ≡ true → is_in ws w ≡ true
in_filter p [] w h = h
in_filter p (x ∷ xs) w h = go (in_filter p xs w) (p x) h
  where
    go : (is_in (filter p xs) w ≡ true → is_in xs w ≡ true) → (b : Bool) → is_in (cond b (x ∷ filter p xs) (filter p xs)) w ≡ true → (is_same w x || is_in xs w) ≡ true
    go rest true k = elim (or_cases _ _ k) [
      | inl it ↦ or_left (is_same w x) (is_in xs w) it
      | inr later ↦ or_right (is_same w x) (is_in xs w) (rest later)
    ]
    go rest false k = or_right (is_same w x) (is_in xs w) (rest k)

pub filter_passes : (p : Wait → Bool) (ws : List Wait) (w : Wait) → is_in (filter p ws) w ≡ true → p w ≡ true
filter_passes p [] w h = absurd (false≢true h)
filter_passes p (x ∷ xs) w h = go (filter_passes p xs w) (p x) refl h
  where
    go : (is_in (filter p xs) w ≡ true → p w ≡ true) → (b : Bool) → p x ≡ b → is_in (cond b (x ∷ filter p xs) (filter p xs)) w ≡ true → p w ≡ true
    go rest true passes k = elim (or_cases _ _ k) [
      | inl it ↦ ap p (same_is w x it) ∙ passes
      | inr later ↦ rest later
    ]
    go rest false fails k = rest k

-- where a place has no wait
pub unplaced : (ws : List Wait) (w : Wait) → is_placed ws w.place ≡ false → is_in ws w ≡ false
unplaced [] w none = refl
unplaced (x ∷ xs) w none =
    let parts = or_parts _ _ none in
    or_from _ _ (and_right _ _ (eqb_sym w.place x.place ∙ parts.0)) (unplaced xs w parts.1)
