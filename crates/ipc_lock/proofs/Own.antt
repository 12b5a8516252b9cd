-- What a connection was told stands in the events of its reader's end.
use Rattle.std.proofs.Common.{◌≡◌, ℕ, List, [], ◌∷◌, ◌++◌, Bool, true, false, cond, if◌then◌else◌, refl, sym, ap, ◌∙◌}
use Rattle.ipc_connection.specs.declared.replying.Told.{Told}
use Rattle.ipc_connection.specs.declared.replying.Told.TheVariants as told
use Rattle.ipc_seats.specs.Owning.{done_by, is_by, is_only}
use Rattle.ipc_seats.specs.declared.events.Event.{Event}
use Rattle.ipc_seats.specs.declared.events.Event.TheVariants as event
use Rattle.ipc_lock.specs.Logs.{EndsKnowAll, opened_by, opened_for, opened_in, said_by, said_for, said_in}

-- what others made tells it nothing
said_none : (number : ℕ) (owns : List ℕ) (said : Told) → is_only number owns ≡ false → said_in number owns said ≡ []
said_none number [] said is = refl
said_none number (own ∷ []) said is = ap (λ (b : Bool). if b then said ∷ [] else []) is
said_none number (own ∷ other ∷ owns) said is = refl

opened_none : (number : ℕ) (owns : List ℕ) (said : Told) → is_only number owns ≡ false → opened_in number owns said ≡ []
opened_none number [] said is = refl
opened_none number (own ∷ other ∷ owns) said is = refl
opened_none number (own ∷ []) (told.Opened thread version) is = ap (λ (b : Bool). if b then thread ∷ [] else []) is
opened_none number (own ∷ []) told.Entered is = refl
opened_none number (own ∷ []) (told.Exchanged result stopped code moment) is = refl
opened_none number (own ∷ []) (told.Refused refusal) is = refl
opened_none number (own ∷ []) (told.Faulted class n) is = refl
opened_none number (own ∷ []) told.Left is = refl

no_said : (number : ℕ) (next : Event) → is_by next number ≡ false → said_by number next ≡ []
no_said number (event.Asked now place owns requests space said gave) is = said_none number owns said is
no_said number (event.Posted place owns said) is = said_none number owns said is
no_said number (event.Connected place own) is = refl
no_said number (event.Declined own) is = refl
no_said number (event.Acted now commands answers gave) is = refl
no_said number (event.Ended now place own is_by_reader gave) is = refl
no_said number (event.Looked place gave) is = refl
no_said number (event.Laid gave) is = refl
no_said number (event.Worked place own gave) is = refl
no_said number (event.Released place own) is = refl
no_said number (event.Took thread taken outcomes) is = refl
no_said number (event.Marked upto) is = refl
no_said number event.Parted is = refl

no_opened : (number : ℕ) (next : Event) → is_by next number ≡ false → opened_by number next ≡ []
no_opened number (event.Asked now place owns requests space said gave) is = opened_none number owns said is
no_opened number (event.Posted place owns said) is = refl
no_opened number (event.Connected place own) is = refl
no_opened number (event.Declined own) is = refl
no_opened number (event.Acted now commands answers gave) is = refl
no_opened number (event.Ended now place own is_by_reader gave) is = refl
no_opened number (event.Looked place gave) is = refl
no_opened number (event.Laid gave) is = refl
no_opened number (event.Worked place own gave) is = refl
no_opened number (event.Released place own) is = refl
no_opened number (event.Took thread taken outcomes) is = refl
no_opened number (event.Marked upto) is = refl
no_opened number event.Parted is = refl

-- one event more, where that of others tells nothing
one_more : {X : Type 0} (told_by : Event → List X) (told_for : List Event → List X)
    → ((next : Event) (log : List Event) → told_for (next ∷ log) ≡ told_by next ++ told_for log) → (next : Event) (own log : List Event) (its : Bool)
    → (its ≡ false → told_by next ≡ []) → told_for own ≡ told_for log → told_for (cond its (next ∷ own) own) ≡ told_by next ++ told_for log
one_more told_by told_for step next own log true none same = step next own ∙ ap (λ l. told_by next ++ l) same
one_more told_by told_for step next own log false none same = same ∙ ap (λ l. l ++ told_for log) (sym (none refl))

pub ends_know_all : EndsKnowAll
ends_know_all number [] = (refl, refl)
ends_know_all number (next ∷ log) =
    let rest = ends_know_all number log in (
      one_more (said_by number) (said_for number) (λ e l. refl) next (done_by number log) log (is_by next number) (no_said number next) rest.0,
      one_more (opened_by number) (opened_for number) (λ e l. refl) next (done_by number log) log (is_by next number) (no_opened number next) rest.1,
    )
