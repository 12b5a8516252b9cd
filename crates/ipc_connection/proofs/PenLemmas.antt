-- What goes out of a pen, piece by piece and frame by frame.
use Rattle.std.proofs.Common.{◌≡◌, ℕ, ◌+◌, ◌≤◌, List, [], ◌∷◌, ◌++◌, Option, Some, None, take, drop, length, refl, sym, ap, ◌∙◌, subst, arith}
use Rattle.std.proofs.Math.Seq.{take-add}
use Rattle.std.proofs.lemmas.List.{append_assoc, append-nil, length-drop, drop-drop, take-append-drop}
use Rattle.ipc_frame.specs.Frames.{spelling}
use Rattle.ipc_connection.specs.declared.given.Given.{Given}
use Rattle.ipc_connection.specs.Pens.{BeginsEmpty, Follows, Grows, Passes, frame_of, text_of}

pub grows_none : {A : Type 0} (a : Option (List A)) → Grows a a []
grows_none None = tt
grows_none (Some xs) = sym (append-nil xs)

pub grows_both : {A : Type 0} (a b c : Option (List A)) (xs ys : List A) → Grows a b xs → Grows b c ys → Grows a c (xs ++ ys)
grows_both a b None xs ys h k = tt
grows_both a None (Some c) xs ys h k = absurd k
grows_both None (Some b) (Some c) xs ys h k = absurd h
grows_both (Some a) (Some b) (Some c) xs ys h k = k ∙ (ap (λ l. l ++ ys) h ∙ append_assoc a xs ys)

-- nothing went out
pub passes_none : (a b : Option (List ℕ)) (xs : List ℕ) → Grows a b [] → Passes a b xs xs
passes_none a b xs h = (0, omega arith, h, refl)

-- more of the same bytes
pub passes_more : (a b c : Option (List ℕ)) (xs ys zs : List ℕ) → Passes a b xs ys → Passes b c ys zs → Passes a c xs zs
passes_more a b c xs ys zs h k =
    let n = h.0 in
    let m = k.0 in
    let left : ys ≡ drop n xs = h.3 in
    let some : m ≤ length (drop n xs) = subst (λ (l : List ℕ). m ≤ length l) left k.1 in
    let next : Grows b c (take m (drop n xs)) = subst (λ (l : List ℕ). Grows b c (take m l)) left k.2 in (
      n + m,
      omega (arith, length-drop n xs, some, h.1),
      rw (take-add n m xs) (grows_both a b c (take n xs) (take m (drop n xs)) h.2 next),
      k.3 ∙ (ap (λ (l : List ℕ). drop m l) left ∙ drop-drop m n xs),
    )

-- what went out is gone from the rest
pub follows_passes : (a b : Option (List ℕ)) (xs ys : List ℕ) (given : List Given) → Follows a xs given → Passes a b xs ys → Follows b ys given
follows_passes a None xs ys given h k = tt
follows_passes None (Some b) xs ys given h k = absurd k.2
follows_passes (Some a) (Some b) xs ys given h k =
    let n = k.0 in
    let out : b ≡ a ++ take n xs = k.2 in
    let left : ys ≡ drop n xs = k.3 in
    ap (λ (l : List ℕ). l ++ ys) out
    ∙ (ap (λ (l : List ℕ). (a ++ take n xs) ++ l) left
    ∙ (append_assoc a (take n xs) (drop n xs)
    ∙ (ap (λ (l : List ℕ). a ++ l) (take-append-drop n xs) ∙ h)))

pub text_append : (xs ys : List Given) → text_of (xs ++ ys) ≡ text_of xs ++ text_of ys
unfolding text_of
text_append [] ys = refl
text_append (x ∷ xs) ys = ap (λ (t : List ℕ). spelling (frame_of x) ++ t) (text_append xs ys) ∙ sym (append_assoc (spelling (frame_of x)) (text_of xs) (text_of ys))

pub text_of_one : (next : Given) → text_of (next ∷ []) ≡ spelling (frame_of next)
unfolding text_of
text_of_one next = append-nil (spelling (frame_of next))

-- something is given where nothing is left
pub follows_given : (a : Option (List ℕ)) (given : List Given) (next : Given) → Follows a [] given → Follows a (spelling (frame_of next)) (given ++ next ∷ [])
follows_given None given next h = tt
follows_given (Some a) given next h =
    let whole : a ≡ text_of given = sym (append-nil a) ∙ h in
    ap (λ (l : List ℕ). l ++ spelling (frame_of next)) whole
    ∙ (ap (λ (l : List ℕ). text_of given ++ l) (sym (text_of_one next))
    ∙ sym (text_append given (next ∷ [])))

-- a pen that was given nothing
pub follows_nothing : (a : Option (List ℕ)) → BeginsEmpty a → Follows a [] []
unfolding text_of
follows_nothing None h = tt
follows_nothing (Some a) h = append-nil a ∙ h
