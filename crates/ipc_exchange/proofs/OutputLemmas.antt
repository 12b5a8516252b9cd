-- Putting out what waits, answer by answer.
use Rattle.std.proofs.Common.{◌≡◌, ℕ, ◌+◌, ◌-◌, ◌≤◌, List, [], ◌∷◌, ◌++◌, length, min, take, drop, refl, sym, ap, ◌∙◌, subst, arith, length-append, length-drop}
use Rattle.std.proofs.lemmas.Bool.{false≢true}
use Rattle.std.proofs.Math.Seq.{drop-length, take-add, take-length}
use Rattle.std.proofs.lemmas.List.{append-nil, drop-append-le, drop-drop, drop_at, length-take, length-take-le, take-append-le, take_at}
use Rattle.std.specs.Prelude.{◌≢◌, Result, Ok, Err, IsOk, is_ok, ⊤, if◌then◌else◌}
use Rattle.std.specs.List.{flat_map}

-- so many bytes of all were put into the slice, and the answers that are left are the rest
pub record HasPut (all : List ℕ) (before : List ℕ) (answers : List (List ℕ)) (out : List ℕ) (filled : ℕ) : Type 0 where
  pub within : filled ≤ length out
  pub long : length out ≡ length before
  pub put : take filled out ≡ take filled all
  pub behind : drop filled out ≡ drop filled before
  pub left : flat_map (λ bytes. bytes) answers ≡ drop filled all
  pub few : filled ≤ length all

-- nothing was put
pub put_none : (all before : List ℕ) (answers : List (List ℕ)) → flat_map (λ bytes. bytes) answers ≡ all → HasPut all before answers before 0
put_none all before answers is = record { within = omega arith; long = refl; put = refl; behind = refl; left = is; few = omega arith }

module _ (all before out tail answer : List ℕ) (rest answers : List (List ℕ)) (filled count : ℕ)
    (has : HasPut all before (answer ∷ rest) out filled)
    (given : count ≡ min (length (take (length out - filled) (drop filled out))) (length answer))
    (long : length tail ≡ length (take (length out - filled) (drop filled out)))
    (bytes : take count tail ≡ take count answer)
    (behind : drop count tail ≡ drop count (take (length out - filled) (drop filled out)))
    (left : flat_map (λ bytes. bytes) answers ≡ drop count answer ++ flat_map (λ bytes. bytes) rest)
  where
    abbrev others : List ℕ
    others = flat_map (λ bytes. bytes) rest

    room : length (drop filled out) ≡ length out - filled
    room = length-drop filled out

    whole : take (length out - filled) (drop filled out) ≡ drop filled out
    whole = rw (← room) (take-length (drop filled out))

    none : drop (length out - filled) (drop filled out) ≡ []
    none = rw (← room) (drop-length (drop filled out))

    front : length (take filled out) ≡ filled
    front = length-take-le filled out has.within

    new_is : take filled out ++ (tail ++ drop (length out - filled) (drop filled out)) ≡ take filled out ++ tail
    new_is = ap (λ l. take filled out ++ (tail ++ l)) none ∙ ap (λ l. take filled out ++ l) (append-nil tail)

    in_tail : count ≤ length tail
    in_tail = omega (arith, given, long)

    in_answer : count ≤ length answer
    in_answer = omega (arith, given)

    tail_long : length tail ≡ length out - filled
    tail_long = long ∙ (ap length whole ∙ room)

    here : take filled (take filled out ++ tail) ≡ take filled out
    here = take_at (take filled out) tail filled front

    there : drop filled (take filled out ++ tail) ≡ tail
    there = drop_at (take filled out) tail filled front

    waits : drop filled all ≡ answer ++ others
    waits = sym has.left

    more_put : HasPut all before answers (take filled out ++ tail) (filled + count)
    more_put = record {
      within = omega (arith, length-append (take filled out) tail, front, in_tail);
      long = omega (arith, length-append (take filled out) tail, front, tail_long, has.within, has.long);
      put = take-add filled count (take filled out ++ tail) ∙ (rw (here, there) (ap (λ l. l ++ take count tail) has.put ∙ (ap (λ l. take filled all ++ l) (bytes ∙ (sym (take-append-le count answer others in_answer) ∙ ap (take count) (sym waits))) ∙ sym (take-add filled count all))));
      behind = sym (drop-drop count filled (take filled out ++ tail)) ∙ (ap (drop count) there ∙ (behind ∙ (ap (drop count) (whole ∙ has.behind) ∙ drop-drop count filled before)));
      left = left ∙ (sym (drop-append-le count answer others in_answer) ∙ (ap (drop count) (sym waits) ∙ drop-drop count filled all));
      few = omega (arith, ap length waits, length-append answer others, length-drop filled all, in_answer, has.few);
    }

    pub put_more : HasPut all before answers (take filled out ++ (tail ++ drop (length out - filled) (drop filled out))) (filled + count)
    put_more = subst (λ l. HasPut all before answers l (filled + count)) (sym new_is) more_put

-- all that has room was put
pub put_full : (all before out : List ℕ) (answers : List (List ℕ)) (filled : ℕ) → HasPut all before answers out filled → length out ≤ filled → filled ≡ min (length before) (length all)
put_full all before out answers filled has full = omega (arith, has.within, has.long, has.few)

pub put_all : (all before out : List ℕ) (answers : List (List ℕ)) (filled : ℕ) → length answers ≡ 0 → HasPut all before answers out filled → filled ≡ min (length before) (length all)
put_all all before out [] filled none has = let e = ap length has.left in omega (arith, e, length-drop filled all, has.within, has.long, has.few)
put_all all before out (answer ∷ answers) filled none has = absurd (omega (arith, none))

-- the answer that waits first
pub first_waits : (all before out : List ℕ) (items rest : List (List ℕ)) (answer : List ℕ) (filled : ℕ) → items ≡ answer ∷ rest → HasPut all before items out filled → HasPut all before (answer ∷ rest) out filled
first_waits all before out items rest answer filled is has = subst (λ l. HasPut all before l out filled) is has

-- an answer that was put back first
pub put_back : {E : Type 0} (result : Result ⊤ E) (old new : List (List ℕ)) (answer left : List ℕ) (count : ℕ) → new ≡ (if is_ok result then left ∷ old else old) → IsOk result → left ≡ drop count answer → flat_map (λ bytes. bytes) new ≡ drop count answer ++ flat_map (λ bytes. bytes) old
put_back (Ok done) old new answer left count is ok e = ap (λ l. flat_map (λ bytes. bytes) l) is ∙ ap (λ l. l ++ flat_map (λ bytes. bytes) old) e
put_back (Err failed) old new answer left count is ok e = absurd (false≢true ok)

pub put_back_room : {E : Type 0} (result : Result ⊤ E) (free cap new_cap len popped pushed : ℕ) → free ≤ cap - len → popped + 1 ≡ len → pushed ≡ (if is_ok result then popped + 1 else popped) → cap ≤ new_cap → free ≤ new_cap - pushed
put_back_room (Ok done) free cap new_cap len popped pushed a b is d = omega (arith, a, b, is, d)
put_back_room (Err failed) free cap new_cap len popped pushed a b is d = omega (arith, a, b, is, d)

-- one that is used up
pub used_up : (out answer : List ℕ) (rest : List (List ℕ)) (filled count long : ℕ) → count ≡ min (length (take (length out - filled) (drop filled out))) (length answer) → (filled + count) ≢ long → long ≡ length out → filled ≤ length out → flat_map (λ bytes. bytes) rest ≡ drop count answer ++ flat_map (λ bytes. bytes) rest
used_up out answer rest filled count long given other same within =
    let room = length-drop filled out in
    let taken = length-take (length out - filled) (drop filled out) in
    let apart : filled + count ≢ length out = λ e. other (e ∙ sym same) in
    let all : count ≡ length answer = grind (arith, room, taken, apart, given, within) in
    sym (ap (λ l. l ++ flat_map (λ bytes. bytes) rest) (ap (λ n. drop n answer) all ∙ drop-length answer))

-- the slice is as long as before
pub mid_long : (out tail : List ℕ) (filled : ℕ) → filled ≤ length out → length tail ≡ length (take (length out - filled) (drop filled out)) → length (take filled out ++ (tail ++ drop (length out - filled) (drop filled out))) ≡ length out
mid_long out tail filled within long =
    let room = length-drop filled out in
    let taken = length-take (length out - filled) (drop filled out) in
    omega (arith, length-append (take filled out) (tail ++ drop (length out - filled) (drop filled out)), length-append tail (drop (length out - filled) (drop filled out)), length-take-le filled out within, length-drop (length out - filled) (drop filled out), room, taken, long, within)
