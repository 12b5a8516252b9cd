-- An end has its box until it gives that back.
use Rattle.std.proofs.Common.{◌≡◌, ◌==◌, ◌&&◌, ◌||◌, ℕ, List, [], ◌∷◌, ◌++◌, Bool, true, false, cond, filter, inl, inr, refl, sym, ap, ◌∙◌, subst, eq-eqb, true≢false}
use Rattle.std.proofs.lemmas.List.Folds.{list_any-append}
use Rattle.std.specs.List.{list_any}
use Rattle.ipc_connection.specs.declared.asking.Request.{Request}
use Rattle.ipc_connection.specs.declared.replying.Told.{Told}
use Rattle.ipc_frame.specs.declared.frame.Frame.{Frame}
use Rattle.ipc_seats.specs.Owning.{is_by}
use Rattle.ipc_seats.specs.declared.events.Event.{Event}
use Rattle.ipc_seats.specs.declared.events.Event.TheVariants as event
use Rattle.ipc_lock.specs.Above.{AsksOrRefuses, FindsNone, PostsOrDrops}
use Rattle.ipc_lock.specs.Logs.{is_box_of, is_release}
use Rattle.ipc_lock.specs.declared.ends.PostEnd.{PostEnd}
use Rattle.ipc_lock.proofs.Homes.{logs_keep_boxes}
use Rattle.ipc_base.specs.LogViews.{Known}
use Rattle.ipc_server.specs.Doing.{AsksBy, BreaksBy, DidAll, Does, PostsBy, begun}
use Rattle.ipc_session.specs.declared.deed.Deed.{Deed}
use Rattle.ipc_session.specs.declared.deed.Deed.TheVariants as deed

-- by these events the connection of a number got the box of a place, and did not give it back
pub record HasBox (place number : ℕ) (mine : List Event) : Type 0 where
  pub got : list_any (is_box_of number place) mine ≡ true
  pub kept : list_any (is_release number) mine ≡ false

has_more : (place number : ℕ) (mine mine_now : List Event) (next : Event) → HasBox place number mine → mine_now ≡ mine ++ next ∷ [] → is_release number next ≡ false
    → HasBox place number mine_now
has_more place number mine mine_now next h grows is = record {
  got = ap (list_any (is_box_of number place)) grows ∙ (list_any-append (is_box_of number place) mine (next ∷ [])
      ∙ ap (λ (b : Bool). b || list_any (is_box_of number place) (next ∷ [])) h.got);
  kept = ap (list_any (is_release number)) grows ∙ (list_any-append (is_release number) mine (next ∷ [])
      ∙ (ap (λ (b : Bool). b || list_any (is_release number) (next ∷ [])) h.kept ∙ ap (λ (b : Bool). b || false) is));
}

has_same : (place number : ℕ) (mine mine_now : List Event) → HasBox place number mine → mine_now ≡ mine → HasBox place number mine_now
has_same place number mine mine_now h same = subst (λ (l : List Event). HasBox place number l) (sym same) h

asked_keeps : {C : Type 0} (P : Type 0) (place number : ℕ) (end end_now : PostEnd C) (request : Request) (said : Told) → HasBox place number end.own.mine
    → AsksBy P end request said end_now → HasBox place number end_now.own.mine
asked_keeps {C} P place number end end_now request said has h = go h.asks
  where
    go : AsksOrRefuses P h.now end.place end.seat request end.space said end.own end_now.own → HasBox place number end_now.own.mine
    go (inl some) = has_more place number end.own.mine end_now.own.mine _ has some.makes.mine refl
    go (inr gone) = has_same place number end.own.mine end_now.own.mine has gone.1.sees.mine

posted_keeps : {C : Type 0} (P : Type 0) (place number : ℕ) (end end_now : PostEnd C) (frame : Frame) → HasBox place number end.own.mine
    → PostsBy P end frame end_now → HasBox place number end_now.own.mine
posted_keeps {C} P place number end end_now frame has h = go h.posts
  where
    go : PostsOrDrops C P end.place h.said end.own end_now.own → HasBox place number end_now.own.mine
    go (inl some) = has_more place number end.own.mine end_now.own.mine _ has some.makes.mine refl
    go (inr gone) = has_same place number end.own.mine end_now.own.mine has gone.sees.mine

does_keep : {C : Type 0} (P : Type 0) (place number : ℕ) (deeds : List Deed) (end left : PostEnd C) → HasBox place number end.own.mine → Does P end deeds left
    → HasBox place number left.own.mine
unfolding Does
does_keep P place number [] end left has h = subst (λ e. HasBox place number e.own.mine) (sym h) has
does_keep P place number (deed.Asked request said ∷ deeds) end left has h =
    does_keep P place number deeds h.0 left (asked_keeps P place number end h.0 request said has h.1) h.2
does_keep P place number (deed.Posted frame ∷ deeds) end left has h =
    does_keep P place number deeds h.0 left (posted_keeps P place number end h.0 frame has h.1) h.2
does_keep P place number (deed.Broke ∷ deeds) end left has h =
    does_keep P place number deeds h.0 left (has_more place number end.own.mine h.0.own.mine _ has h.1.ends.makes.mine refl) h.2

does_number : {C : Type 0} (P : Type 0) (deeds : List Deed) (end left : PostEnd C) → Does P end deeds left → left.own.number ≡ end.own.number
unfolding Does
does_number P [] end left h = ap (λ e. e.own.number) h
does_number P (deed.Asked request said ∷ deeds) end left h = does_number P deeds h.0 left h.2 ∙ h.1.home.number
does_number P (deed.Posted frame ∷ deeds) end left h = does_number P deeds h.0 left h.2 ∙ h.1.home.number
does_number P (deed.Broke ∷ deeds) end left h = does_number P deeds h.0 left h.2 ∙ h.1.home.number

-- by the event that it began with
has_first : (place : ℕ) (own : Known Event) → own.mine ≡ event.Connected place own.number ∷ [] → HasBox place own.number own.mine
has_first place own is = record {
  got = ap (list_any (is_box_of own.number place)) is
      ∙ ap (λ (b : Bool). b || false) (ap (λ (b : Bool). b && (own.number == own.number)) (eq-eqb place place refl) ∙ eq-eqb own.number own.number refl);
  kept = ap (list_any (is_release own.number)) is;
}

-- an end that did all of this, and nothing else, has the box that it began with
pub did_keep : {C : Type 0} (P : Type 0) (deeds : List Deed) (end : PostEnd C) → DidAll P deeds end → HasBox end.place end.own.number end.own.mine
did_keep P deeds end did =
    subst (λ (n : ℕ). HasBox end.place n end.own.mine) (sym (does_number P deeds (begun did.first end) end did.does))
    (does_keep P end.place did.first.number deeds (begun did.first end) end (has_first end.place did.first did.connects.begins.mine) did.does)

-- what tests find among some they find among all
any_kept : (test its : Event → Bool) (log : List Event) → list_any test (filter its log) ≡ true → list_any test log ≡ true
any_kept test its [] h = h
any_kept test its (next ∷ log) h = go (its next) h (any_kept test its log)
  where
    either : (t : Bool) → t || list_any test (filter its log) ≡ true → (list_any test (filter its log) ≡ true → list_any test log ≡ true) → t || list_any test log ≡ true
    either true h rest = refl
    either false h rest = rest h

    second : (t : Bool) → list_any test log ≡ true → t || list_any test log ≡ true
    second true h = refl
    second false h = h

    go : (b : Bool) → list_any test (cond b (next ∷ filter its log) (filter its log)) ≡ true → (list_any test (filter its log) ≡ true → list_any test log ≡ true)
        → test next || list_any test log ≡ true
    go true h rest = either (test next) h rest
    go false h rest = second (test next) (rest h)

-- what all that pass a test are among some is not among all where it is not among those
none_kept : (test its : Event → Bool) → ((e : Event) → test e ≡ true → its e ≡ true) → (log : List Event) → list_any test (filter its log) ≡ false → list_any test log ≡ false
none_kept test its own [] h = h
none_kept test its own (next ∷ log) h = go (its next) refl h (none_kept test its own log)
  where
    neither : (t : Bool) → t || list_any test (filter its log) ≡ false → (list_any test (filter its log) ≡ false → list_any test log ≡ false) → t || list_any test log ≡ false
    neither true h rest = absurd (true≢false h)
    neither false h rest = rest h

    other : (t : Bool) → test next ≡ t → its next ≡ false → list_any test log ≡ false → t || list_any test log ≡ false
    other true is not_its h = absurd (true≢false (sym (own next is) ∙ not_its))
    other false is not_its h = h

    go : (b : Bool) → its next ≡ b → list_any test (cond b (next ∷ filter its log) (filter its log)) ≡ false → (list_any test (filter its log) ≡ false → list_any test log ≡ false)
        → test next || list_any test log ≡ false
    go true is h rest = neither (test next) h rest
    go false is h rest = other (test next) refl is (rest h)

-- who gives a box back makes that event
release_by : (number : ℕ) (next : Event) → is_release number next ≡ true → is_by next number ≡ true
release_by number (event.Released place own) is = is
release_by number (event.Connected place own) is = absurd (true≢false (sym is))
release_by number (event.Declined own) is = absurd (true≢false (sym is))
release_by number (event.Acted now commands answers gave) is = absurd (true≢false (sym is))
release_by number (event.Asked now place owns requests space said gave) is = absurd (true≢false (sym is))
release_by number (event.Ended now place own is_by_reader gave) is = absurd (true≢false (sym is))
release_by number (event.Posted place owns said) is = absurd (true≢false (sym is))
release_by number (event.Looked place gave) is = absurd (true≢false (sym is))
release_by number (event.Laid gave) is = absurd (true≢false (sym is))
release_by number (event.Worked place own gave) is = absurd (true≢false (sym is))
release_by number (event.Took thread taken outcomes) is = absurd (true≢false (sym is))
release_by number (event.Marked upto) is = absurd (true≢false (sym is))
release_by number event.Parted is = absurd (true≢false (sym is))

-- so its box is found
pub is_found : (C P : Type 0) (place : ℕ) (own : Known Event) → HasBox place own.number own.mine → FindsNone C P place own → ⊥
is_found C P place own has h =
    let all : own.mine ≡ filter (λ e. is_by e own.number) h.releases.before.log = h.releases.knew.all in
    let got : list_any (is_box_of own.number place) h.releases.before.log ≡ true =
    any_kept (is_box_of own.number place) (λ e. is_by e own.number) h.releases.before.log (sym (ap (list_any (is_box_of own.number place)) all) ∙ has.got) in
    let kept : list_any (is_release own.number) h.releases.before.log ≡ false =
    none_kept (is_release own.number) (λ e. is_by e own.number) (release_by own.number) h.releases.before.log (sym (ap (list_any (is_release own.number)) all) ∙ has.kept) in
    true≢false (sym (logs_keep_boxes C P h.releases.before.log h.releases.before.inside h.releases.turned.runs own.number place got kept) ∙ h.gone)
