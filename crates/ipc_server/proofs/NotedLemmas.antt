-- What was asked by an end, as calls of a kernel port.
use Rattle.std.proofs.Common.{◌≡◌, ℕ, List, [], ◌∷◌, ◌++◌, map, drop, Option, Some, None, refl, sym, ap, subst, ◌∙◌}
use Rattle.std.proofs.lemmas.List.{map-append}
use Rattle.ipc_frame.specs.declared.frame.Frame.{Frame}
use Rattle.ipc_frame.specs.declared.frame.Frame.TheVariants as frame
use Rattle.ipc_connection.specs.KernelCalls.{Asks, Breaks, KernelCall, Posts, TellsMore, left_to_post, post_of, posted}
use Rattle.ipc_connection.specs.declared.asking.Request.{Request}
use Rattle.ipc_connection.specs.declared.replying.Told.{Told}
use Rattle.ipc_connection.specs.declared.stage.Stage.{Stage}
use Rattle.ipc_connection.specs.declared.stage.Stage.TheVariants.{Greeting}
use Rattle.ipc_lock.specs.declared.ends.PostEnd.{PostEnd}
use Rattle.ipc_base.specs.Ports.{Gives, input_of}
use Rattle.ipc_server.proofs.DoingLemmas.{at_home}
use Rattle.ipc_server.specs.Doing.{AsksBy, BreaksBy, IsAtHome, PostsIfLeft, PostsWith, told_at}
use Rattle.ipc_session.specs.Keeping.{call_of}
use Rattle.ipc_session.specs.Reading.{EndsSo, HasEnded, HasServed, Log}
use Rattle.ipc_session.specs.Sessions.{AsksFor, deed_of, deeds_left}
use Rattle.ipc_session.specs.declared.deed.Deed.{Deed}
use Rattle.ipc_session.specs.declared.deed.Deed.TheVariants as deed
use Rattle.ipc_session.specs.declared.ending.Ending.{Ending}
use Rattle.ipc_session.specs.declared.ending.Ending.TheVariants as ending

abbrev Tells : {C : Type 0} → PostEnd C → PostEnd C → List Deed → List Deed → List KernelCall → Type 0
Tells end end_now old new calls = TellsMore (Some (told_at end old)) (Some (told_at end_now new)) calls

same_told : {C : Type 0} (end end_now : PostEnd C) (deeds : List Deed) → IsAtHome end end_now → told_at end_now deeds ≡ told_at end deeds
same_told end end_now deeds home =
    ap (λ (p : ℕ). Posts (frame.Fault p end_now.own.number) ∷ Posts (frame.Refused end_now.space) ∷ map call_of deeds) home.place
    ∙ (ap (λ (n : ℕ). Posts (frame.Fault end.place n) ∷ Posts (frame.Refused end_now.space) ∷ map call_of deeds) home.number
    ∙ ap (λ (s : ℕ). Posts (frame.Fault end.place end.own.number) ∷ Posts (frame.Refused s) ∷ map call_of deeds) home.space)

tells_on : {C : Type 0} (end end_now : PostEnd C) (old new : List Deed) (calls : List KernelCall) → IsAtHome end end_now
    → map call_of new ≡ map call_of old ++ calls → Tells end end_now old new calls
tells_on end end_now old new calls home is =
    same_told end end_now new home
    ∙ ap (λ (l : List KernelCall). Posts (frame.Fault end.place end.own.number) ∷ Posts (frame.Refused end.space) ∷ l) is

pub tells_asked : {C : Type 0} (P : Type 0) (end end_now : PostEnd C) (old new : List Deed) (request : Request) (told : Told) → AsksBy P end request told end_now
    → new ≡ old ++ deed.Asked request told ∷ [] → Tells end end_now old new (Asks request told ∷ [])
tells_asked P end end_now old new request told asks is =
    tells_on end end_now old new (Asks request told ∷ []) asks.home
    (ap (map call_of) is ∙ map-append call_of old (deed.Asked request told ∷ []))

pub tells_posted : {C : Type 0} (P : Type 0) (end end_now : PostEnd C) (old new : List Deed) (told : Told) → PostsIfLeft P end told end_now
    → new ≡ old ++ deeds_left told → Tells end end_now old new (left_to_post told)
tells_posted P end end_now old new told posts is =
    tells_on end end_now old new (left_to_post told) (home (posted told) posts)
    (ap (map call_of) is ∙ (map-append call_of old (deeds_left told) ∙ ap (λ (l : List KernelCall). map call_of old ++ l) (left (posted told))))
  where
    left : (frame : Option Frame) → map call_of (deed_of frame) ≡ post_of frame
    left None = refl
    left (Some frame) = refl

    home : (f : Option Frame) → PostsWith P end f end_now → IsAtHome end end_now
    home None same = subst (λ e. IsAtHome end e) (sym same) (at_home end)
    home (Some frame) by = by.home

pub tells_broke : {C : Type 0} (P : Type 0) (end end_now : PostEnd C) (old new : List Deed) → BreaksBy P end end_now → new ≡ old ++ deed.Broke ∷ []
    → Tells end end_now old new (Breaks ∷ [])
tells_broke P end end_now old new breaks is =
    tells_on end end_now old new (Breaks ∷ []) breaks.home (ap (map call_of) is ∙ map-append call_of old (deed.Broke ∷ []))

-- whose port tells these calls
place_in : List KernelCall → ℕ
place_in (Posts (frame.Fault place number) ∷ calls) = place
place_in calls = 0

number_in : List KernelCall → ℕ
number_in (Posts (frame.Fault place number) ∷ calls) = number
number_in calls = 0

space_in : List KernelCall → ℕ
space_in (first ∷ Posts (frame.Refused space) ∷ calls) = space
space_in calls = 0

-- a port that told nothing is that of the same end
same_port : {C : Type 0} (end end_now : PostEnd C) (new : List Deed) (calls : List KernelCall) → Tells end end_now [] new calls → IsAtHome end end_now
unfolding place_in number_in space_in
same_port end end_now new calls h = record { place = ap place_in h; number = ap number_in h; space = ap space_in h }

-- what was told so to an ending, whoever tells
tells_of : (ended : Ending) (old new : Log) (bytes : List ℕ) (input : Option (List ℕ)) (last : List KernelCall) → EndsSo ended old new bytes input last
    → (calls : List KernelCall) × TellsMore old new calls
tells_of ending.Protocol old new bytes input last h = (h.calls ++ last, h.tells)
tells_of ending.Device old new bytes input last h = (h.2.calls ++ last, h.2.tells)
tells_of ending.Stopped old new bytes input last h = (h.2.calls ++ last, h.2.tells)
tells_of ending.Gone old new bytes input last h = (h.calls ++ last, h.tells)
tells_of ending.Bye old new bytes input last h = (h.calls ++ last, h.tells)
tells_of ending.EndOfInput old new bytes input last h = (h.1.calls ++ last, h.1.tells)

-- the calls alone
served_alone : {C : Type 0} (end end_now : PostEnd C) (new : List Deed) (bytes left : List ℕ) (stage : Stage) (last : List KernelCall)
    → HasServed (Some (told_at end [])) (Some (told_at end_now new)) Greeting bytes left stage last
    → HasServed (Some []) (Some (map call_of new)) Greeting bytes left stage last
served_alone end end_now new bytes left stage last h = record { calls = h.calls; tells = ap (drop 2) h.tells; serves = h.serves; rest = h.rest }

ended_alone : {C : Type 0} (end end_now : PostEnd C) (new : List Deed) (bytes : List ℕ) (input : Option (List ℕ)) (ended : Ending) (last : List KernelCall)
    → HasEnded (Some (told_at end [])) (Some (told_at end_now new)) Greeting bytes input ended last
    → HasEnded (Some []) (Some (map call_of new)) Greeting bytes input ended last
ended_alone end end_now new bytes input ended last h = record {
  heard = h.heard;
  up_to = h.up_to;
  calls = h.calls;
  tells = ap (drop 2) h.tells;
  serves = h.serves;
  cause = h.cause;
}

ends_alone : {C : Type 0} (end end_now : PostEnd C) (new : List Deed) (ended : Ending) (bytes : List ℕ) (input : Option (List ℕ)) (last : List KernelCall)
    → EndsSo ended (Some (told_at end [])) (Some (told_at end_now new)) bytes input last
    → EndsSo ended (Some []) (Some (map call_of new)) bytes input last
ends_alone end end_now new ending.Protocol bytes input last h = ended_alone end end_now new bytes input ending.Protocol last h
ends_alone end end_now new ending.Device bytes input last h = (h.0, h.1, served_alone end end_now new bytes h.0 h.1 last h.2)
ends_alone end end_now new ending.Stopped bytes input last h = (h.0, h.1, served_alone end end_now new bytes h.0 h.1 last h.2)
ends_alone end end_now new ending.Gone bytes input last h = ended_alone end end_now new bytes input ending.Gone last h
ends_alone end end_now new ending.Bye bytes input last h = ended_alone end end_now new bytes input ending.Bye last h
ends_alone end end_now new ending.EndOfInput bytes input last h = (h.0, served_alone end end_now new bytes [] h.0 last h.1)

-- what a reader of a port by which nothing was asked before says of its bytes
abbrev Reads : {C : Type 0} → Option (List ℕ) → Option (List ℕ) → Option (List ℕ) → Option (List ℕ) → Ending → PostEnd C → PostEnd C → List Deed → List Deed → Type 0
Reads came came_now left left_now ended end end_now old new =
    (bytes : List ℕ) × Gives (input_of came left) (input_of came_now left_now) bytes
    × EndsSo ended (Some (told_at end old)) (Some (told_at end_now new)) bytes left_now (Breaks ∷ [])

pub asks_for : {C : Type 0} (came came_now left left_now : Option (List ℕ)) (ended : Ending) (end end_now : PostEnd C) (old new : List Deed) → old ≡ []
    → Reads came came_now left left_now ended end end_now old new → AsksFor came came_now (map call_of new)
asks_for came came_now left left_now ended end end_now old new none h = record {
  bytes = h.0;
  came = h.1.came;
  ending = ended;
  left = left_now;
  ends = ends_alone end end_now new ended h.0 left_now (Breaks ∷ [])
      (subst (λ (l : List Deed). EndsSo ended (Some (told_at end l)) (Some (told_at end_now new)) h.0 left_now (Breaks ∷ [])) none h.2);
}

pub stays_home : {C : Type 0} (came came_now left left_now : Option (List ℕ)) (ended : Ending) (end end_now : PostEnd C) (old new : List Deed) → old ≡ []
    → Reads came came_now left left_now ended end end_now old new → IsAtHome end end_now
stays_home came came_now left left_now ended end end_now old new none h =
    let tells = tells_of ended _ _ h.0 left_now (Breaks ∷ [])
    (subst (λ (l : List Deed). EndsSo ended (Some (told_at end l)) (Some (told_at end_now new)) h.0 left_now (Breaks ∷ [])) none h.2) in
    same_port end end_now new tells.0 tells.1
