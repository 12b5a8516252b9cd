-- The calls of a Legal history are numbered 1, 2, 3, ..
use Rattle.std.proofs.lemmas.Bool.{false≢true, true≢false, true_from_ne_false}
use Rattle.std.proofs.lemmas.Option.{none-some}
use Rattle.std.proofs.lemmas.List.Elements.{filter_map-append}
use Rattle.std.proofs.Common.{◌≡◌, refl, sym, ap, ◌∙◌, ℕ, ◌+◌, ◌<◌, ◌≤◌, suc, true, false, ◌||◌, ◌==◌, eq-eqb, eqb-true, List, [], ◌∷◌, ◌++◌, Option, Some, None, is_some, length, length-append, filter_map, arith, ap₂, append-nil, add-one}
use Rattle.std.specs.Option.{option_or}
use Rattle.std.specs.List.{list_any, cons_option}
use Rattle.ipc_history.specs.Words.{first_some}
use Rattle.ipc_history.specs.CallParts.{CallParts}
use Rattle.ipc_history.specs.Entries.{calls, call_in, number_in}
use Rattle.ipc_history.specs.Calls.{numbers, call_at, is_called, calls_made}
use Rattle.ipc_history.specs.Legal.{Follows, Legal, is_admissible, is_free}
use Rattle.ipc_history.specs.declared.entry.Entry.{Entry}
use Rattle.ipc_history.specs.declared.entry.Entry.TheVariants.{Given, Written}
use Rattle.ipc_history.specs.declared.entry.Input.TheVariants.{At, Opened, Called, Exreg, Broke, Moved}
use Rattle.ipc_laws.specs.Laws.{up_to}
use Rattle.ipc_laws.proofs.Histories.{admitted_at, called_place, legal_induction}
use Rattle.ipc_laws.proofs.Places.{Place, any_at, any_place, first_none, place_behind}
use Rattle.ipc_laws.proofs.Tests.{left, right}
use Rattle.ipc_laws.proofs.WordLemmas.{first_some_append}

calls_made_append : (P Q : List Entry) → calls_made (P ++ Q) ≡ calls_made P + calls_made Q
unfolding calls_made numbers
calls_made_append P Q = ap length (filter_map-append number_in P Q) ∙ length-append (filter_map number_in P) (filter_map number_in Q)

calls_made_called : (n thread : ℕ) (call : CallParts) (Q : List Entry) → calls_made (Given (Called n thread call) ∷ Q) ≡ suc (calls_made Q)
unfolding calls_made numbers
calls_made_called n thread call Q = refl

pub entered : (P : List Entry) (n thread : ℕ) (call : CallParts) → is_admissible P (Called n thread call) ≡ true → (is_free P thread ≡ true) × (n ≡ calls_made P + 1)
unfolding is_admissible
entered P n thread call h = (left _ _ (left _ _ h), eqb-true _ _ (right _ _ (left _ _ h)))

pub number_at : (H : List Entry) → Legal H → (n thread : ℕ) (call : CallParts) (at : Place H (Given (Called n thread call))) → n ≡ calls_made at.front + 1
number_at H h n thread call at = (entered at.front n thread call (admitted_at H h (Called n thread call) at)).1

pub called_below : (H : List Entry) → Legal H → (n : ℕ) → is_called H n ≡ true → n ≤ calls_made H
called_below H h n c =
    let made = called_place H n c in
    let first = number_at H h n made.thread made.call made.at in
    let whole : calls_made H ≡ calls_made made.at.front + suc (calls_made made.at.rest) = ap calls_made made.at.whole ∙ (calls_made_append made.at.front _ ∙ ap (λ k. calls_made made.at.front + k) (calls_made_called n made.thread made.call made.at.rest)) in
    omega arith

-- a call that comes in the second part has a greater number than all of the first part
is_called_append : (P Q : List Entry) (n : ℕ) → is_called P n ≡ false → is_called (P ++ Q) n ≡ true → is_called Q n ≡ true
unfolding is_called call_at
is_called_append P Q n h g = from_second (call_at P n) (call_at Q n) h (rw (first_some_append (call_in n) P Q) at g)
  where
    from_second : {X : Type 0} (a b : Option X) → is_some a ≡ false → is_some (option_or a b) ≡ true → is_some b ≡ true
    from_second None b p q = q
    from_second (Some x) b p q = absurd (true≢false p)

pub called_later : (P Q : List Entry) → Legal (P ++ Q) → (n : ℕ) → is_called P n ≡ false → is_called (P ++ Q) n ≡ true → calls_made P < n
called_later P Q h n absent there =
    let made = called_place Q n (is_called_append P Q n absent there) in
    let at = place_behind P Q _ made.at in
    let first = number_at (P ++ Q) h n made.thread made.call at in
    let whole : calls_made (P ++ made.at.front) ≡ calls_made P + calls_made made.at.front = calls_made_append P made.at.front in
    omega arith

abbrev IsNumbered : List Entry → Type 0
IsNumbered P = numbers P ≡ up_to (calls_made P)

start : IsNumbered []
unfolding numbers calls_made
start = refl

pub numbers_push : (P : List Entry) (e : Entry) → number_in e ≡ None → numbers (P ++ e ∷ []) ≡ numbers P
unfolding numbers
numbers_push P e none = filter_map-append number_in P (e ∷ []) ∙ (ap (λ l. filter_map number_in P ++ l) (rw none refl) ∙ append-nil (filter_map number_in P))

pub numbers_push_called : (P : List Entry) (n thread : ℕ) (call : CallParts) → numbers (P ++ Given (Called n thread call) ∷ []) ≡ numbers P ++ n ∷ []
unfolding numbers
numbers_push_called P n thread call = filter_map-append number_in P (Given (Called n thread call) ∷ [])

made : (P : List Entry) → calls_made P ≡ length (numbers P)
unfolding calls_made
made P = refl

same : (P : List Entry) (e : Entry) → number_in e ≡ None → IsNumbered P → IsNumbered (P ++ e ∷ [])
same P e none h =
    let n = numbers_push P e none in
    n ∙ (h ∙ ap up_to (made P ∙ (ap length (sym n) ∙ sym (made (P ++ e ∷ [])))))

step : (P : List Entry) (e : Entry) → Legal P → IsNumbered P → Follows P e → IsNumbered (P ++ e ∷ [])
unfolding Follows
step P (Given (Called n thread call)) l h f =
    let next : n ≡ suc (calls_made P) = (entered P n thread call f.1).1 ∙ add-one (calls_made P) in
    let more = numbers_push_called P n thread call in
    let count : calls_made (P ++ Given (Called n thread call) ∷ []) ≡ suc (calls_made P) = made _ ∙ (ap length more ∙ (length-append (numbers P) (n ∷ []) ∙ (add-one (length (numbers P)) ∙ ap suc (sym (made P))))) in
    more ∙ (ap₂ (λ l k. l ++ k ∷ []) h next ∙ ap up_to (sym count))
step P (Given (At moment)) l h f = same P _ refl h
step P (Given (Opened thread space)) l h f = same P _ refl h
step P (Given (Exreg thread target control)) l h f = same P _ refl h
step P (Given (Broke thread)) l h f = same P _ refl h
step P (Given (Moved n count)) l h f = same P _ refl h
step P (Written output) l h f = same P _ refl h

pub numbered : (H : List Entry) → Legal H → numbers H ≡ up_to (calls_made H)
numbered H h = legal_induction IsNumbered start step H h

-- What stands among the numbers is a call

any_number : (P : List Entry) (x : ℕ) → list_any (λ y. y == x) (filter_map number_in P) ≡ list_any (calls x) P
any_number [] x = refl
any_number (e ∷ P) x = one e (filter_map number_in P) ∙ ap (λ b. calls x e || b) (any_number P x)
  where
    one : (e : Entry) (l : List ℕ) → list_any (λ y. y == x) (cons_option (number_in e) l) ≡ (calls x e || list_any (λ y. y == x) l)
    one (Given (Called k thread call)) l = refl
    one _ l = refl

pub calls_called : (P : List Entry) (x : ℕ) → list_any (calls x) P ≡ true → is_called P x ≡ true
unfolding is_called call_at
calls_called P x h = let p = any_place (calls x) P h in true_from_ne_false _ (λ f. gives p.0 p.2 (first_none (call_in x) P p.0 p.1 (none_is (first_some (call_in x) P) f)))
  where
    none_is : {X : Type 0} (o : Option X) → is_some o ≡ false → o ≡ None
    none_is None f = refl
    none_is (Some y) f = absurd (true≢false f)

    gives : (e : Entry) → calls x e ≡ true → call_in x e ≡ None → ⊥
    gives (Given (Called k thread call)) c none = none-some (thread, call) (sym none ∙ rw c refl)
    gives _ c none = false≢true c

pub number_was_called : (P : List Entry) (x : ℕ) → Place (numbers P) x → is_called P x ≡ true
unfolding numbers
number_was_called P x at = calls_called P x (sym (any_number P x) ∙ any_at (λ y. y == x) (filter_map number_in P) x at (eq-eqb x x refl))
