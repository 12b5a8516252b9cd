-- Lists of texts with a byte between each two.
use Rattle.std.proofs.Common.{◌≡◌, ◌≢◌, ℕ, zero, suc, ◌+◌, ◌<◌, ◌≤◌, false, List, [], ◌∷◌, ◌++◌, length, get_or, take, drop, map, refl, sym, ap, ◌∙◌, arith, Bor}
use Rattle.std.specs.Prelude.{◌==◌}
use Rattle.std.specs.List.{All, join_with_byte}
use Rattle.std.proofs.lemmas.List.{map-append, take-append-drop, length-map, take_more}
use Rattle.std.proofs.lemmas.List.Elements.{All-head, All-tail, All-weaker}
use Rattle.std.proofs.lemmas.List.Splits.{length-slice_split, join_with_byte-slice_split, slice_split_none, slice_split_at}
use Rattle.ipc_lines.specs.Texts.{listed}
use Rattle.ipc_lines.specs.Lines.{spaced}
use Rattle.ipc_lines.specs.Reading.{parts_at}
use borrow.Author.Tests.{eq-eqb, ne_eqb}

-- a list of at least one text, taken apart
pub listed_found : {X : Type 0} (none : List ℕ) (separator : ℕ) (text : X → List ℕ) (bytes : List ℕ) (xs : List X) → parts_at separator bytes ≡ map text xs → bytes ≡ listed none separator text xs
listed_found none separator text bytes [] e = absurd (omega (arith, length-slice_split (λ b. b == separator) bytes, ap length e))
listed_found none separator text bytes (x ∷ xs) e = sym (join_with_byte-slice_split separator bytes) ∙ ap (join_with_byte separator) e

pub spaced_found : (line : List ℕ) (fields : List (List ℕ)) → parts_at 32 line ≡ fields → line ≡ spaced fields
spaced_found line fields e = sym (join_with_byte-slice_split 32 line) ∙ ap (join_with_byte 32) e

pub map_halves : {A B : Type 0} (f : A → B) (n : ℕ) (xs : List A) → map f (take n xs) ++ map f (drop n xs) ≡ map f xs
map_halves f n xs = sym (map-append f (take n xs) (drop n xs)) ∙ ap (map f) (take-append-drop n xs)

-- a text without a separator
abbrev pub Lacks : ℕ → List ℕ → Type 0
Lacks separator text = All (λ byte. byte ≢ separator) text

-- texts without a separator
pub data AllLack (separator : ℕ) : List (List ℕ) → Type 0 where
  lack_nil : AllLack separator []
  lack_cons : (x : List ℕ) (xs : List (List ℕ)) → Lacks separator x → AllLack separator xs → AllLack separator (x ∷ xs)

no_test : (separator : ℕ) (text : List ℕ) → Lacks separator text → All (λ byte. (byte == separator) ≡ false) text
no_test separator text h = All-weaker (λ byte. byte ≢ separator) (λ byte. (byte == separator) ≡ false) (λ byte n. ne_eqb byte separator n) text h

-- joined texts, taken apart
pub parts_join : (separator : ℕ) (x : List ℕ) (xs : List (List ℕ)) → AllLack separator (x ∷ xs) → parts_at separator (join_with_byte separator (x ∷ xs)) ≡ x ∷ xs
parts_join separator x [] (lack_cons _ _ h rest) = slice_split_none (λ b. b == separator) x (no_test separator x h)
parts_join separator x (y ∷ ys) (lack_cons _ _ h rest) =
    slice_split_at (λ b. b == separator) x separator (join_with_byte separator (y ∷ ys)) (no_test separator x h) (eq-eqb separator separator refl)
    ∙ ap (λ ps. x ∷ ps) (parts_join separator y ys rest)

module _ {X : Type 0} (none : List ℕ) (separator : ℕ) (text : X → List ℕ) (P : X → Type 0) (lacks : (x : X) → P x → Lacks separator (text x)) where
  pub map_lacks : (xs : List X) → All P xs → AllLack separator (map text xs)
  map_lacks [] h = lack_nil
  map_lacks (x ∷ xs) h = lack_cons (text x) (map text xs) (lacks x (All-head P x xs h)) (map_lacks xs (All-tail P x xs h))

  -- a list that is spelled, taken apart
  pub listed_only : (bytes : List ℕ) (xs : List X) → All P xs → (bytes ≡ none → ⊥) → bytes ≡ listed none separator text xs → parts_at separator bytes ≡ map text xs
  listed_only bytes [] h other e = absurd (other e)
  listed_only bytes (x ∷ xs) h other e = ap (parts_at separator) e ∙ parts_join separator (text x) (map text xs) (map_lacks (x ∷ xs) h)

  -- what is spelled as no element has none
  pub listed_none : (bytes : List ℕ) (xs : List X) → All P xs → Lacks separator none → ((x : X) → P x → text x ≡ none → ⊥) → bytes ≡ none → bytes ≡ listed none separator text xs → xs ≡ []
  listed_none bytes [] h clean other is e = refl
  listed_none bytes (x ∷ xs) h clean other is e =
      let parts : none ∷ [] ≡ text x ∷ map text xs = sym (slice_split_none (λ b. b == separator) none (no_test separator none clean)) ∙ ap (parts_at separator) (sym is ∙ e) ∙ parts_join separator (text x) (map text xs) (map_lacks (x ∷ xs) h) in
      let first : text x ≡ none = cc in
      absurd (other x (All-head P x xs h) first)

-- the element of a list that a text spells
pub record ItemAt {X : Type 0} (text : X → List ℕ) (P : X → Type 0) (list : List X) (i : ℕ) (t : List ℕ) : Type 0 where
  pub item : X
  pub text_is : t ≡ text item
  pub holds : P item
  pub take_is : take i list ++ item ∷ [] ≡ take (i + 1) list

-- what reads as the text past the end of texts
abbrev pub unread : Bor (List ℕ)
unread = record { ref_ptr = (0, 0); now = [] }

pub item_at : {X : Type 0} (text : X → List ℕ) (P : X → Type 0) (texts : List (Bor (List ℕ))) (list : List X) (i : ℕ)
    → map (λ b. b.now) texts ≡ map text list → All P list → i < length texts → ItemAt text P list i (get_or texts i unread).now
item_at text P [] list i e h lt = absurd (omega arith)
item_at text P (a ∷ as') [] i e h lt = cc
item_at text P (a ∷ as') (x ∷ xs) zero e h lt =
    let first : a.now ≡ text x = cc in
    record { item = x; text_is = first; holds = All-head P x xs h; take_is = refl }
item_at text P (a ∷ as') (x ∷ xs) (suc k) e h lt =
    let rest : map (λ b. b.now) as' ≡ map text xs = cc in
    let r = item_at text P as' xs k rest (All-tail P x xs h) (omega arith) in
    let next : suc k + 1 ≡ suc (k + 1) = omega arith in
    record { item = r.item; text_is = r.text_is; holds = r.holds; take_is = ap (λ ys. x ∷ ys) r.take_is ∙ ap (λ n. take n (x ∷ xs)) (sym next) }

pub length_same : {X : Type 0} (text : X → List ℕ) (texts : List (Bor (List ℕ))) (list : List X) → map (λ b. b.now) texts ≡ map text list → length texts ≡ length list
length_same text texts list e = omega (arith, length-map texts (λ b. b.now), length-map list text, ap length e)

-- one text more is read
pub found_more : {X : Type 0} (text : X → List ℕ) (texts : List (Bor (List ℕ))) (list : List X) (i : ℕ) (x : X) → map (λ b. b.now) (take i texts) ≡ map text list → i < length texts → (get_or texts i unread).now ≡ text x
    → map (λ b. b.now) (take (i + 1) texts) ≡ map text (list ++ x ∷ [])
found_more text texts list i x e lt is =
    ap (map (λ b. b.now)) (take_more texts i unread lt) ∙ map-append (λ b. b.now) (take i texts) (get_or texts i unread ∷ []) ∙ (λ j. e j ++ is j ∷ []) ∙ sym (map-append text list (x ∷ []))

-- the fields that are read, by what they spell
pub field_at : (fields : List (Bor (List ℕ))) (texts : List (List ℕ)) (i : ℕ) → map (λ b. b.now) fields ≡ texts → (get_or fields i unread).now ≡ get_or texts i []
field_at [] texts i e = ap (λ xs. get_or xs i []) e
field_at (f ∷ fs) [] i e = cc
field_at (f ∷ fs) (t ∷ ts) zero e = cc
field_at (f ∷ fs) (t ∷ ts) (suc i) e = let rest : map (λ b. b.now) fs ≡ ts = cc in field_at fs ts i rest

pub two_of : (fields : List (Bor (List ℕ))) → 2 ≤ length fields → length fields < 3 → map (λ b. b.now) fields ≡ (get_or fields 0 unread).now ∷ (get_or fields 1 unread).now ∷ []
two_of [] low high = absurd (omega arith)
two_of (a ∷ []) low high = absurd (omega arith)
two_of (a ∷ b ∷ []) low high = refl
two_of (a ∷ b ∷ x ∷ xs) low high = absurd (omega arith)

pub three_of : (fields : List (Bor (List ℕ))) → 3 ≤ length fields → length fields < 4 → map (λ b. b.now) fields ≡ (get_or fields 0 unread).now ∷ (get_or fields 1 unread).now ∷ (get_or fields 2 unread).now ∷ []
three_of [] low high = absurd (omega arith)
three_of (a ∷ []) low high = absurd (omega arith)
three_of (a ∷ b ∷ []) low high = absurd (omega arith)
three_of (a ∷ b ∷ d ∷ []) low high = refl
three_of (a ∷ b ∷ d ∷ x ∷ xs) low high = absurd (omega arith)

pub six_of : (fields : List (Bor (List ℕ))) → 6 ≤ length fields → length fields < 7 → map (λ b. b.now) fields ≡ (get_or fields 0 unread).now ∷ (get_or fields 1 unread).now ∷ (get_or fields 2 unread).now ∷ (get_or fields 3 unread).now ∷ (get_or fields 4 unread).now ∷ (get_or fields 5 unread).now ∷ []
six_of [] low high = absurd (omega arith)
six_of (a ∷ []) low high = absurd (omega arith)
six_of (a ∷ b ∷ []) low high = absurd (omega arith)
six_of (a ∷ b ∷ d ∷ []) low high = absurd (omega arith)
six_of (a ∷ b ∷ d ∷ g ∷ []) low high = absurd (omega arith)
six_of (a ∷ b ∷ d ∷ g ∷ h ∷ []) low high = absurd (omega arith)
six_of (a ∷ b ∷ d ∷ g ∷ h ∷ k ∷ []) low high = refl
six_of (a ∷ b ∷ d ∷ g ∷ h ∷ k ∷ x ∷ xs) low high = absurd (omega arith)

pub map_take : {A B : Type 0} (f : A → B) (n : ℕ) (xs : List A) → map f (take n xs) ≡ take n (map f xs)
map_take f zero xs = refl
map_take f (suc n) [] = refl
map_take f (suc n) (x ∷ xs) = ap (λ ys. f x ∷ ys) (map_take f n xs)

pub map_drop : {A B : Type 0} (f : A → B) (n : ℕ) (xs : List A) → map f (drop n xs) ≡ drop n (map f xs)
map_drop f zero xs = refl
map_drop f (suc n) [] = refl
map_drop f (suc n) (x ∷ xs) = map_drop f n xs
