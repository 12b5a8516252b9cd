-- What was asked, and what was typed, so far.
use Rattle.std.proofs.Common.{◌≡◌, ◌⊎◌, inl, inr, ℕ, zero, suc, ◌+◌, add-one, List, [], Option, Some, None, refl, subst, sym}
use Rattle.std.specs.Prelude.{IfNone, IfSome}
use Rattle.std.specs.Io.KnownBytes.{Appends, prepend_known}
use Rattle.ipc_client.specs.ClientParts.{ClientParts}
use Rattle.ipc_trace.specs.Reading.{TakesLine}
use Rattle.ipc_trace.specs.declared.lines.LineEnd.TheVariants.{Newline, Input}
use Rattle.l4sh_talk.specs.Talks.{EndsAtLine, EndsVisit, EndsWelcomed, HasTalked, Obeys, PartsBy, Quits, TakesTurn, TalkParts}
use Rattle.l4sh_talk.specs.Talks.{TalksToEnd, TalksUntil, talk_of}
use Rattle.l4sh_talk.specs.declared.ending.Ending.{Ending}
use Rattle.l4sh_talk.specs.Versions.{AnswersVersion, HasMissed, IsMissing, request_of_version}
use Rattle.l4sh_talk.specs.declared.request.Request.{Request}
use Rattle.l4sh_talk.specs.declared.request.Reply.{Reply}

-- one version more
pub missed_one : (old now new : ClientParts) (asked : Request) (missed : ℕ) (answered : Reply) → HasMissed old now asked missed
    → AnswersVersion now new (request_of_version (missed + 1) asked) answered → IsMissing asked answered
    → HasMissed old new asked (missed + 1)
missed_one old now new asked missed answered before answers missing =
    subst (λ (version : ℕ). HasMissed old new asked version) (sym (add-one missed)) (
      now,
      before,
      answered,
      subst (λ (version : ℕ). AnswersVersion now new (request_of_version version asked) answered) (add-one missed) answers,
      missing,
    )

-- before the first line a buffer holds nothing
nothing_held : (typed : Option (List ℕ)) → prepend_known [] typed ≡ typed
nothing_held None = refl
nothing_held (Some bytes) = refl

pub before_lines : (typed : Option (List ℕ)) (held : List ℕ) (client : ClientParts) (said : Option (List ℕ)) → held ≡ []
    → HasTalked 0 (talk_of typed client said) (talk_of (prepend_known held typed) client said)
before_lines typed held client said none =
    subst (λ h. HasTalked 0 (talk_of typed client said) (talk_of (prepend_known h typed) client said)) (sym none)
    (subst (λ t. HasTalked 0 (talk_of typed client said) (talk_of t client said)) (sym (nothing_held typed)) refl)

-- a line more was obeyed
pub turn_more : (old now new : TalkParts) (line : List ℕ) → (count : ℕ) × HasTalked count old now → TakesLine now.typed new.typed line Newline
    → Obeys now.client new.client now.said new.said line → (count : ℕ) × HasTalked count old new
turn_more old now new line (count, talked) read obeys =
    (suc count, (now, talked, record { line = line; read = read; obeys = obeys }))

-- a line asks to end
pub quits_at : (old now : TalkParts) (typed : Option (List ℕ)) (client : ClientParts) (said : Option (List ℕ)) (line : List ℕ)
    → (count : ℕ) × HasTalked count old now → TakesLine now.typed typed line Newline → Quits now.client client now.said said line
    → TalksToEnd old client said
quits_at old now typed client said line (count, talked) read quits = (count, now, talked, (line, typed, inl (read, quits)))

-- a line ends the talk
pub ends_at : (old now : TalkParts) (typed : Option (List ℕ)) (client : ClientParts) (line : List ℕ) (ending : Ending)
    → (count : ℕ) × HasTalked count old now → TakesLine now.typed typed line Newline → EndsAtLine now.client client line ending
    → TalksUntil old client ending
ends_at old now typed client line ending (count, talked) read ends = (count, now, talked, inr (line, typed, inl read, ends))

-- and the last one
pub last_done : (result : Option Ending) (old now : TalkParts) (typed : Option (List ℕ)) (client : ClientParts) (said : Option (List ℕ))
    (line : List ℕ) → (count : ℕ) × HasTalked count old now → TakesLine now.typed typed line Input
    → IfNone result (Obeys now.client client now.said said line ⊎ Quits now.client client now.said said line)
    → IfNone result (TalksToEnd old client said)
last_done None old now typed client said line (count, talked) read goes = (count, now, talked, (line, typed, inr (read, goes)))
last_done (Some ending) old now typed client said line talked read goes = tt

pub last_ends : (result : Option Ending) (old now : TalkParts) (typed : Option (List ℕ)) (client : ClientParts) (line : List ℕ)
    → (count : ℕ) × HasTalked count old now → TakesLine now.typed typed line Input
    → IfSome result (EndsAtLine now.client client line) → IfSome result (TalksUntil old client)
last_ends None old now typed client line talked read ends = tt
last_ends (Some ending) old now typed client line (count, talked) read ends = (count, now, talked, inr (line, typed, inr read, ends))

-- how a visit ends
pub ends_all : (old : TalkParts) (now : ClientParts) (said : Option (List ℕ)) (client : ClientParts) (ending : Ending) → TalksToEnd old now said
    → PartsBy now client ending → EndsWelcomed old client ending
ends_all old now said client ending talks parts = inr (now, said, talks, parts)

pub visits : (typed : Option (List ℕ)) (client : ClientParts) (before said : Option (List ℕ)) (text : List ℕ) (now : ClientParts) (ending : Ending)
    → Appends before said text → EndsWelcomed (talk_of typed client said) now ending → EndsVisit (talk_of typed client before) now ending
visits typed client before said text now ending appends ends = inr (text, said, appends, ends)
