-- What is kept of calls, and the last calls that the entries tell of.
use Rattle.std.proofs.Common.{◌≡◌, ℕ, zero, suc, ◌<◌, ◌≤◌, List, [], ◌∷◌, ◌++◌, Bool, true, false, ◌==◌, cond, Some, None, find, map, option_map, length, get_or, remove, set, nat_lt, refl, ap, sym, arith}
use Rattle.std.specs.List.{position, position_or_len}
use Rattle.std.proofs.lemmas.Bool.{ltb-false}
use Rattle.std.proofs.lemmas.List.Quantifiers.{position-Some}
use Rattle.std.proofs.lemmas.List.Sums.{fails_before_first, fold_push}
use Rattle.ipc_history.specs.declared.entry.Entry.{Entry}
use Rattle.l4sh_look.specs.Following.{call_at, call_of_note, last_calls, noted, turned_note, turned_to, with_call, without}
use Rattle.l4sh_look.specs.declared.notes.Note.{Note}

-- of no entry there is none, and one entry more is noted
pub none_noted : last_calls [] ≡ []
unfolding last_calls
none_noted = refl

pub noted_more : (entries : List Entry) (entry : Entry) → last_calls (entries ++ entry ∷ []) ≡ noted (last_calls entries) entry
unfolding last_calls
noted_more entries entry = fold_push noted [] entries entry

-- the note at the place of the first of its thread
pub replaced : (notes : List Note) (note : Note) (place : ℕ) (d : Note) → place < length notes
    → (get_or notes place d).caller == note.caller ≡ true
    → ((k : ℕ) → k < place → (get_or notes k d).caller == note.caller ≡ false)
    → map call_of_note (set notes place note) ≡ with_call (call_of_note note) (map call_of_note notes)
replaced [] note place d within is before = absurd (omega arith)
replaced (kept ∷ notes) note zero d within is before = rw is refl
replaced (kept ∷ notes) note (suc place) d within is before =
    let first : kept.caller == note.caller ≡ false = before zero (omega arith) in
    rw first (
    ap (λ calls. call_of_note kept ∷ calls) (
    replaced notes note place d (omega arith) is (λ k less. before (suc k) (omega arith))
    )
    )

-- a note behind those of other threads
pub appended : (notes : List Note) (note d : Note) → ((k : ℕ) → k < length notes → (get_or notes k d).caller == note.caller ≡ false)
    → map call_of_note (notes ++ note ∷ []) ≡ with_call (call_of_note note) (map call_of_note notes)
appended [] note d others = refl
appended (kept ∷ notes) note d others =
    let first : kept.caller == note.caller ≡ false = others zero (omega arith) in
    rw first (ap (λ calls. call_of_note kept ∷ calls) (appended notes note d (λ k less. others (suc k) (omega arith))))

cond_none : {X : Type 0} (b : Bool) (x : X) → cond b (Some x) None ≡ None → b ≡ false
cond_none true x none = absurd (cc none)
cond_none false x none = refl

-- where none is the first, none is any
pub none_of : (test : Note → Bool) (notes : List Note) (d : Note) (k : ℕ) → position test notes ≡ None → k < length notes
    → test (get_or notes k d) ≡ false
none_of test notes d k none within =
    let far : nat_lt (position_or_len test notes) (length notes) ≡ false = cond_none _ _ none in
    let past : length notes ≤ position_or_len test notes = ltb-false (position_or_len test notes) (length notes) far in
    let less : k < position_or_len test notes = omega (arith, past, within) in
    fails_before_first test notes k d less

-- the note at the place of the first of its thread, taken away
pub removed : (notes : List Note) (thread place : ℕ) (d : Note) → place < length notes
    → (get_or notes place d).caller == thread ≡ true
    → ((k : ℕ) → k < place → (get_or notes k d).caller == thread ≡ false)
    → map call_of_note (remove notes place) ≡ without thread (map call_of_note notes)
removed [] thread place d within is before = absurd (omega arith)
removed (kept ∷ notes) thread zero d within is before = rw is refl
removed (kept ∷ notes) thread (suc place) d within is before =
    let first : kept.caller == thread ≡ false = before zero (omega arith) in
    rw first (
    ap (λ calls. call_of_note kept ∷ calls) (
    removed notes thread place d (omega arith) is (λ k less. before (suc k) (omega arith))
    )
    )

-- notes of other threads
pub absent : (notes : List Note) (thread : ℕ) (d : Note) → ((k : ℕ) → k < length notes → (get_or notes k d).caller == thread ≡ false)
    → map call_of_note notes ≡ without thread (map call_of_note notes)
absent [] thread d others = refl
absent (kept ∷ notes) thread d others =
    let first : kept.caller == thread ≡ false = others zero (omega arith) in
    rw first (ap (λ calls. call_of_note kept ∷ calls) (absent notes thread d (λ k less. others (suc k) (omega arith))))

-- the call of a number
pub found : (notes : List Note) (number : ℕ)
    → option_map call_of_note (find (λ note. note.number == number) notes) ≡ call_at (map call_of_note notes) number
found [] number = refl
found (note ∷ notes) number = elim (note.number == number) as (λ (b : Bool).
    option_map call_of_note (cond b (Some note) (find (λ note. note.number == number) notes))
    ≡ cond b (Some (call_of_note note)) (call_at (map call_of_note notes) number)) [ true ↦ refl | false ↦ found notes number ]

-- what is found at the place of the first that passes
pub found_at : (test : Note → Bool) (notes : List Note) (place : ℕ) (d : Note) → place < length notes → test (get_or notes place d) ≡ true
    → ((k : ℕ) → k < place → test (get_or notes k d) ≡ false) → Some (get_or notes place d) ≡ find test notes
found_at test [] place d within is before = absurd (omega arith)
found_at test (kept ∷ notes) zero d within is before = rw is refl
found_at test (kept ∷ notes) (suc place) d within is before =
    let first : test kept ≡ false = before zero (omega arith) in
    rw first (found_at test notes place d (omega arith) is (λ k less. before (suc k) (omega arith)))

pub none_found : (test : Note → Bool) (notes : List Note) (d : Note) → ((k : ℕ) → k < length notes → test (get_or notes k d) ≡ false)
    → None ≡ find test notes
none_found test [] d others = refl
none_found test (kept ∷ notes) d others =
    let first : test kept ≡ false = others zero (omega arith) in
    rw first (none_found test notes d (λ k less. others (suc k) (omega arith)))

-- a call that turned
turned_one : (number thread : ℕ) (note : Note) → call_of_note (turned_note number thread note) ≡ turned_to number thread (call_of_note note)
turned_one number thread note = elim (note.number == number) as (λ (b : Bool).
    call_of_note (cond b (record note { from = thread }) note) ≡ cond b (record (call_of_note note) { from = thread }) (call_of_note note)) [
      | true ↦ refl
      | false ↦ refl
    ]

pub turned_all : (number thread : ℕ) (notes : List Note)
    → map call_of_note (map (turned_note number thread) notes) ≡ map (turned_to number thread) (map call_of_note notes)
turned_all number thread [] = refl
turned_all number thread (note ∷ notes) =
    rw (turned_one number thread note) (ap (λ calls. turned_to number thread (call_of_note note) ∷ calls) (turned_all number thread notes))

-- a note of nothing, where one has to be named
no_note : Note
no_note = record {
  number = 0;
  caller = 0;
  to = 0;
  from = 0;
  label = 0;
  words = 0;
  strings = 0;
  bytes = 0;
  shown = 0;
  dropped = 0;
}

-- the same by the place of the first of its thread
pub replaced_at : (notes : List Note) (note : Note) (place : ℕ) → position (λ kept. kept.caller == note.caller) notes ≡ Some place
    → map call_of_note (set notes place note) ≡ with_call (call_of_note note) (map call_of_note notes)
replaced_at notes note place first =
    let is = position-Some (λ (kept : Note). kept.caller == note.caller) notes place note first in replaced notes note place note is.0 is.1 is.2

pub appended_to : (notes : List Note) (note : Note) → position (λ kept. kept.caller == note.caller) notes ≡ None
    → map call_of_note (notes ++ note ∷ []) ≡ with_call (call_of_note note) (map call_of_note notes)
appended_to notes note none = appended notes note note (λ k within. none_of (λ kept. kept.caller == note.caller) notes note k none within)

pub removed_at : (notes : List Note) (thread place : ℕ) → position (λ note. note.caller == thread) notes ≡ Some place
    → map call_of_note (remove notes place) ≡ without thread (map call_of_note notes)
removed_at notes thread place first =
    let is = position-Some (λ (note : Note). note.caller == thread) notes place no_note first in removed notes thread place no_note is.0 is.1 is.2

pub absent_from : (notes : List Note) (thread : ℕ) → position (λ note. note.caller == thread) notes ≡ None
    → map call_of_note notes ≡ without thread (map call_of_note notes)
absent_from notes thread none = absent notes thread no_note (λ k within. none_of (λ note. note.caller == thread) notes no_note k none within)

-- a place of the first that passes is within
pub within_notes : (test : Note → Bool) (notes : List Note) (place : ℕ) → position test notes ≡ Some place → place < length notes
within_notes test notes place first = (position-Some test notes place no_note first).0

pub found_first : (test : Note → Bool) (notes : List Note) (place : ℕ) (d : Note) → position test notes ≡ Some place
    → find test notes ≡ Some (get_or notes place d)
found_first test notes place d first =
    let is = position-Some test notes place d first in sym (found_at test notes place d is.0 is.1 is.2)

pub found_none : (test : Note → Bool) (notes : List Note) → position test notes ≡ None → find test notes ≡ None
found_none test notes none = sym (none_found test notes no_note (λ k within. none_of test notes no_note k none within))

pub ruleset entering = (replaced_at, appended_to, within_notes)

pub ruleset leaving = (removed_at, absent_from, within_notes)

pub ruleset finding = (found_first, found_none, within_notes)
