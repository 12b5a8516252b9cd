-- Where no connection has a box any more each that got one has ended.
use Rattle.std.proofs.Common.{◌≡◌, ◌||◌, ℕ, zero, suc, List, [], ◌∷◌, Bool, true, false, Option, Some, None, eqb-true, true≢false, arith, refl, sym, ap, ◌∙◌, subst}
use Rattle.std.proofs.lemmas.List.Elements.{Contains-append_left, Contains-append_right}
use Rattle.std.specs.List.{list_any}
use Rattle.std.specs.Prelude.{Contains, is_some, slice_get}
use mathlib.Core.List.{IsPrefix}
use Rattle.ipc_base.specs.LogRules.{EndsOnce, numbers_of}
use Rattle.ipc_seats.specs.Boxes.{BoxParts, has_connection, is_of}
use Rattle.ipc_seats.specs.Owning.{ended_by, is_by}
use Rattle.ipc_seats.specs.Places.{is_in}
use Rattle.ipc_seats.specs.declared.events.Event.{Event}
use Rattle.ipc_seats.specs.declared.events.Event.TheVariants as event
use Rattle.ipc_lock.specs.Above.{EndsAll}
use Rattle.ipc_lock.specs.InsideParts.{InsideParts, LoggedParts}
use Rattle.ipc_lock.specs.Logs.{is_box_of, is_release}
use Rattle.ipc_lock.specs.Turns.{Runs}
use Rattle.ipc_lock.proofs.Homes.{first_false, logs_keep_boxes, second_false}

nobodys : (number : ℕ) (own : Option ℕ) → is_some own ≡ false → is_of number own ≡ false
nobodys number None is = refl
nobodys number (Some own) is = absurd (true≢false is)

none_in : (boxes : List BoxParts) (number place : ℕ) → list_any has_connection boxes ≡ false → is_in number (slice_get boxes place) ≡ false
none_in [] number zero none = refl
none_in [] number (suc place) none = refl
none_in (box ∷ boxes) number zero none = nobodys number box.number (first_false (is_some box.number) (list_any has_connection boxes) none)
none_in (box ∷ boxes) number (suc place) none = none_in boxes number place (second_false (is_some box.number) (list_any has_connection boxes) none)

-- who gives its box back ends
ends_then : (number : ℕ) (next : Event) → is_release number next ≡ true → Contains (ended_by next) number
ends_then number (event.Released place own) is = (0, omega arith, eqb-true own number is)
ends_then number (event.Connected place own) is = absurd (true≢false (sym is))
ends_then number (event.Declined own) is = absurd (true≢false (sym is))
ends_then number (event.Acted now commands answers gave) is = absurd (true≢false (sym is))
ends_then number (event.Asked now place owns requests space said gave) is = absurd (true≢false (sym is))
ends_then number (event.Ended now place own is_by_reader gave) is = absurd (true≢false (sym is))
ends_then number (event.Posted place owns said) is = absurd (true≢false (sym is))
ends_then number (event.Looked place gave) is = absurd (true≢false (sym is))
ends_then number (event.Laid gave) is = absurd (true≢false (sym is))
ends_then number (event.Worked place own gave) is = absurd (true≢false (sym is))
ends_then number (event.Took thread taken outcomes) is = absurd (true≢false (sym is))
ends_then number (event.Marked upto) is = absurd (true≢false (sym is))
ends_then number event.Parted is = absurd (true≢false (sym is))

ends_in : (number : ℕ) (log : List Event) → list_any (is_release number) log ≡ true → Contains (numbers_of ended_by log) number
ends_in number [] is = absurd (true≢false (sym is))
ends_in number (next ∷ log) is = go (is_release number next) refl is (ends_in number log)
  where
    go : (b : Bool) → is_release number next ≡ b → b || list_any (is_release number) log ≡ true
        → (list_any (is_release number) log ≡ true → Contains (numbers_of ended_by log) number) → Contains (numbers_of ended_by (next ∷ log)) number
    go true this h rest = Contains-append_left (ended_by next) (numbers_of ended_by log) number (ends_then number next this)
    go false other h rest = Contains-append_right (ended_by next) (numbers_of ended_by log) number (rest h)

all_ended : (C P : Type 0) (log : List Event) (inside : InsideParts) → Runs C P log inside → list_any has_connection inside.boxes ≡ false
    → (number place : ℕ) → list_any (is_box_of number place) log ≡ true → Contains (numbers_of ended_by log) number
all_ended C P log inside runs left number place got = go (list_any (is_release number) log) refl
  where
    go : (b : Bool) → list_any (is_release number) log ≡ b → Contains (numbers_of ended_by log) number
    go true gone = ends_in number log gone
    go false stays = absurd (true≢false (sym (logs_keep_boxes C P log inside runs number place got stays) ∙ none_in inside.boxes number place left))

pub ends_all : (C P : Type 0) (before there : LoggedParts) (roll roll_now : List Event) → before ≡ there → list_any has_connection there.inside.boxes ≡ false
    → Runs C P before.log before.inside → roll_now ≡ before.log → IsPrefix roll before.log → numbers_of ended_by roll ≡ numbers_of ended_by before.log
    → EndsOnce is_by ended_by before.log → EndsAll C P roll roll_now
ends_all C P before there roll roll_now same left runs now began ended once =
    subst (λ (l : List Event). EndsAll C P roll l) (sym now) (record {
      inside = before.inside;
      runs = runs;
      began = began;
      ended = ended;
      once = once;
      all = all_ended C P before.log before.inside runs (ap (λ (l : LoggedParts). list_any has_connection l.inside.boxes) same ∙ left);
    })
