-- A piece is served frame by frame.
use Rattle.std.proofs.Common.{◌≡◌, ◌⊎◌, inl, inr, ℕ, ◌+◌, true, false, List, [], ◌∷◌, ◌++◌, Option, Some, None, Result, Ok, Err, refl, sym, ap, subst, ◌∙◌, length, drop, length-append}
use Rattle.std.specs.Bool.{⊤}
use Rattle.ipc_frame.specs.Stream.{Stream, put_front, stream_of}
use Rattle.ipc_frame.specs.declared.fault.FrameFault.{FrameFault}
use Rattle.ipc_frame.specs.declared.fault.FrameFault.TheVariants.{NoMemory, Unfinished}
use Rattle.ipc_frame.specs.declared.frame.Frame.{Frame}
use Rattle.ipc_frame.specs.declared.kind.Side.TheVariants.{Server}
use Rattle.ipc_connection.specs.Hearing.{IsCut, heard_in, heard_of, left_in}
use Rattle.ipc_connection.specs.Taking as taking
use Rattle.ipc_connection.specs.Taking.{Decoding, Finishes, Holds, Takes}
use Rattle.ipc_connection.specs.declared.heard.Heard.{Heard}
use Rattle.ipc_connection.specs.declared.heard.Heard.TheVariants.{Bye}
use Rattle.ipc_connection.proofs.PieceLemmas.{FailsFirst, cut_cons, cut_first, take_fails, take_hears, take_rests}
use Rattle.ipc_connection.specs.Chain.{Chain}
use Rattle.ipc_connection.specs.declared.stage.Stage.{Stage}
use Rattle.ipc_connection.specs.declared.stage.Stage.TheVariants.{Greeting, Serving, Finished}
use Rattle.ipc_exchange.specs.Service.{ServiceParts, connection_at}
use Rattle.ipc_exchange.specs.Serving.{Asked, Hears, MayLack, MayWant, Serves}
use Rattle.ipc_exchange.specs.Rooms.{RoomyService, WantsRoom, service_of, stage_at}
use Rattle.ipc_exchange.specs.Exchange.{ClosesConnection}
use Rattle.ipc_exchange.specs.Feeding.{FeedsConnection, FeedsFirst, HearsOne, HoldsFor, IsHeard, has_finished}
use Rattle.ipc_exchange.proofs.ServingLemmas.{all_idle_again, fault_finishes}
use Rattle.ipc_exchange.proofs.TellingLemmas.{connection_there}

-- the stage of a connection
pub service_stage : (s : RoomyService) (place : ℕ) → (connection_at (service_of s).connections place).stage ≡ stage_at s.connections place
service_stage s place = ap (λ l. l.stage) (connection_there s.connections place)

pub finished_is : (stage : Stage) → has_finished stage ≡ true → stage ≡ Finished
finished_is Finished e = refl
finished_is Greeting e = absurd cc
finished_is (Serving thread) e = absurd cc

holds_ended : (stage : Stage) (decoder : Decoding) (bytes : List ℕ) → stage ≡ Finished → HoldsFor stage decoder bytes
holds_ended Finished decoder bytes e = tt
holds_ended Greeting decoder bytes e = absurd cc
holds_ended (Serving thread) decoder bytes e = absurd cc

holds_all : (stage : Stage) (decoder : Decoding) (bytes : List ℕ) → Holds decoder bytes → HoldsFor stage decoder bytes
holds_all Finished decoder bytes holds = tt
holds_all Greeting decoder bytes holds = holds
holds_all (Serving thread) decoder bytes holds = holds

-- what the first frame says, and then the rest
said_first : (f : Frame) (heard : Heard) (stream behind : Stream) → stream ≡ put_front (f ∷ []) behind → heard_of f ≡ Ok heard → heard_in stream ≡ Ok heard ∷ heard_in behind
said_first f heard stream behind is says = ap heard_in is ∙ ap (λ h. h ∷ heard_in behind) says

-- where its call may lack memory a frame may want it
cut_wants : (stream : Stream) (heard : List (Result Heard FrameFault)) → IsCut taking.MayLack stream heard → IsCut MayWant stream heard
cut_wants stream heard cut = record { front = cut.front; frame = cut.frame; behind = cut.behind; frames_are = cut.frames_are; may = inr cut.may; heard_is = cut.heard_is }

-- what was heard last ended the connection: the rest of the piece is not served
ends_so : (old new : ServiceParts) (place : ℕ) (bytes piece : List ℕ) (decoder : Decoding) (heard : Result Heard FrameFault) (asked : List Asked)
    → ((rest : List (Result Heard FrameFault)) × (heard_in (stream_of Server (bytes ++ piece)) ≡ heard ∷ rest)) ⊎ IsCut MayWant (stream_of Server (bytes ++ piece)) (heard ∷ [])
    → Serves MayLack old place heard asked new → (connection_at new.connections place).stage ≡ Finished → FeedsConnection old place bytes piece new decoder
unfolding Chain
ends_so old new place bytes piece decoder heard asked (inl (rest, said)) serves ended = record {
  heard = heard ∷ rest;
  hears = inl (sym said);
  asked = asked ++ [];
  serves = (asked, [], new, refl, serves, all_idle_again MayLack place rest new ended);
  holds = holds_ended _ decoder _ ended;
}
ends_so old new place bytes piece decoder heard asked (inr cut) serves ended = record {
  heard = heard ∷ [];
  hears = inr cut;
  asked = asked ++ [];
  serves = (asked, [], new, refl, serves, (refl, refl));
  holds = holds_ended _ decoder _ ended;
}

-- no frame ends in the piece
pub rests : (old : ServiceParts) (place : ℕ) (bytes piece : List ℕ) (used : ℕ) (decoder : Decoding) → Takes bytes piece decoder (Ok (used, None)) → FeedsConnection old place bytes piece old decoder
unfolding Chain
rests old place bytes piece used decoder takes =
    let back = take_rests decoder bytes piece used takes in
    let left : left_in (stream_of Server (bytes ++ piece)).end ≡ bytes ++ piece = ap left_in back.end in
    record {
      heard = [];
      hears = inl (sym back.said);
      asked = [];
      serves = (refl, refl);
      holds = holds_all _ decoder _ (subst (Holds decoder) (sym left) back.holds);
    }

-- a fault
pub fails : (old new : ServiceParts) (place : ℕ) (bytes piece : List ℕ) (fault : FrameFault) (decoder : Decoding) → Takes bytes piece decoder (Err fault) → HearsOne old place (Err fault) new → FeedsConnection old place bytes piece new decoder
fails old new place bytes piece fault decoder takes hears = go hears.is (take_fails decoder bytes piece fault takes)
  where
    go : IsHeard (Err fault) hears.heard → FailsFirst (bytes ++ piece) fault → FeedsConnection old place bytes piece new decoder
    go (inr lacks) said = absurd lacks.1
    go (inl is) (inl said) =
        let serves = subst (λ h. Serves MayLack old place h hears.asked new) is hears.serves in
        ends_so old new place bytes piece decoder (Err fault) hears.asked (inl said) serves (fault_finishes MayLack place old new fault hears.asked serves)
    go (inl is) (inr (lacks, cut)) =
        let serves = subst (λ h. Serves MayLack old place h hears.asked new) is hears.serves in
        let stream = stream_of Server (bytes ++ piece) in
        let wants = subst (λ f. IsCut MayWant stream (Err f ∷ [])) (sym lacks) (cut_wants stream (Err NoMemory ∷ []) cut) in
        ends_so old new place bytes piece decoder (Err fault) hears.asked (inr wants) serves (fault_finishes MayLack place old new fault hears.asked serves)

-- a frame, behind which the connection has ended
pub ends : (old new : ServiceParts) (place : ℕ) (bytes piece : List ℕ) (used : ℕ) (heard : Heard) (decoder : Decoding) → Takes bytes piece decoder (Ok (used, Some heard)) → HearsOne old place (Ok heard) new → (connection_at new.connections place).stage ≡ Finished → FeedsConnection old place bytes piece new decoder
ends old new place bytes piece used heard decoder takes hears ended = go hears.is
  where
    go : IsHeard (Ok heard) hears.heard → FeedsConnection old place bytes piece new decoder
    go (inl is) =
        let first = take_hears decoder bytes piece used heard takes in
        let serves = subst (λ h. Serves MayLack old place h hears.asked new) is hears.serves in
        let said = said_first first.frame heard _ (stream_of Server (drop used piece)) first.stream first.says in
        ends_so old new place bytes piece decoder (Ok heard) hears.asked (inl (heard_in (stream_of Server (drop used piece)), said)) serves ended
    go (inr lacks) =
        let first = take_hears decoder bytes piece used heard takes in
        let serves = subst (λ h. Serves MayLack old place h hears.asked new) lacks.0 hears.serves in
        let cut = cut_first MayWant first.frame _ (stream_of Server (drop used piece)) first.stream (inl (subst WantsRoom (sym first.says) lacks.1)) in
        ends_so old new place bytes piece decoder (Err NoMemory) hears.asked (inr cut) serves ended

-- a frame, behind which it goes on
pub goes_on : (old new : ServiceParts) (place : ℕ) (bytes piece : List ℕ) (used : ℕ) (heard : Heard) (decoder : Decoding) → Takes bytes piece decoder (Ok (used, Some heard)) → HearsOne old place (Ok heard) new → has_finished (connection_at new.connections place).stage ≡ false → FeedsFirst old place bytes piece used new
goes_on old new place bytes piece used heard decoder takes hears lives = go hears.is
  where
    go : IsHeard (Ok heard) hears.heard → FeedsFirst old place bytes piece used new
    go (inl is) = record {
      frame = (take_hears decoder bytes piece used heard takes).frame;
      stream = (take_hears decoder bytes piece used heard takes).stream;
      heard = heard;
      says = (take_hears decoder bytes piece used heard takes).says;
      asked = hears.asked;
      serves = subst (λ h. Serves MayLack old place h hears.asked new) is hears.serves;
    }
    go (inr lacks) =
        let serves = subst (λ h. Serves MayLack old place h hears.asked new) lacks.0 hears.serves in
        let ended = fault_finishes MayLack place old new NoMemory hears.asked serves in
        let no : true ≡ false = ap has_finished (sym ended) ∙ lives in
        absurd cc

-- the first frame, and then the rest
pub feeds_both : (old between new : ServiceParts) (place : ℕ) (bytes piece : List ℕ) (used : ℕ) (decoder : Decoding) → FeedsFirst old place bytes piece used between → FeedsConnection between place [] (drop used piece) new decoder → FeedsConnection old place bytes piece new decoder
unfolding Chain
feeds_both old between new place bytes piece used decoder first later = record {
  heard = Ok first.heard ∷ later.heard;
  hears = go later.hears;
  asked = first.asked ++ later.asked;
  serves = (first.asked, later.asked, between, refl, first.serves, later.serves);
  holds = subst (λ (s : Stream). HoldsFor (connection_at new.connections place).stage decoder (left_in s.end)) (sym first.stream) later.holds;
}
  where
    go : Hears MayLack (stream_of Server (drop used piece)) later.heard → Hears MayLack (stream_of Server (bytes ++ piece)) (Ok first.heard ∷ later.heard)
    go (inl whole) = inl (ap (λ l. Ok first.heard ∷ l) whole ∙ sym (said_first first.frame first.heard _ (stream_of Server (drop used piece)) first.stream first.says))
    go (inr cut) =
        inr (subst (λ s. IsCut MayWant s (Ok first.heard ∷ later.heard)) (sym first.stream) (cut_cons MayWant first.frame first.heard (stream_of Server (drop used piece)) later.heard first.says cut))

-- what was answered, as it is named
pub taken_as : (bytes piece : List ℕ) (new : Decoding) (used : ℕ) (o p : Option Heard) (r : Result (ℕ × Option Heard) FrameFault) → r ≡ Ok (used, o) → o ≡ p → Takes bytes piece new r → Takes bytes piece new (Ok (used, p))
taken_as bytes piece new used o p r is some takes = subst (λ x. Takes bytes piece new (Ok (used, x))) some (subst (Takes bytes piece new) is takes)

-- how many bytes a decoder holds
pub held_size : (decoder : Decoding) (bytes : List ℕ) → Holds decoder bytes → length bytes ≡ length decoder.kept + decoder.lost
held_size decoder bytes holds = ap length holds.bytes_are ∙ (length-append decoder.kept holds.gone ∙ ap (λ n. length decoder.kept + n) holds.counted)

-- the end of the input
pub ends_well : (old new : ServiceParts) (place : ℕ) (bytes : List ℕ) (decoder after : Decoding) (result : Result ⊤ FrameFault) → Finishes bytes decoder after result → result ≡ Ok tt → Holds decoder bytes → ((asked : List Asked) × Serves MayLack old place (Ok Bye) asked new) → ClosesConnection old place bytes new after
ends_well old new place [] decoder after result finishes ok holds served = record { asked = served.0; serves = served.1; holds = holds_all (connection_at new.connections place).stage after [] (subst (λ d. Holds d []) (sym finishes.1) holds) }
ends_well old new place (byte ∷ bytes) decoder after result finishes ok holds served = let no = sym finishes.0 ∙ ok in absurd (cc)

pub ends_inside : (old new : ServiceParts) (place : ℕ) (bytes : List ℕ) (decoder after : Decoding) (result : Result ⊤ FrameFault) (fault : FrameFault) → Finishes bytes decoder after result → result ≡ Err fault → ((asked : List Asked) × Serves MayLack old place (Err fault) asked new) → ClosesConnection old place bytes new after
ends_inside old new place [] decoder after result fault finishes err served = let no = sym finishes.0 ∙ err in absurd (cc)
ends_inside old new place (byte ∷ bytes) decoder after result fault finishes err served =
    let same = sym finishes.0 ∙ err in
    let is : Unfinished ≡ fault = cc in
    let serves = subst (λ f. Serves MayLack old place (Err f) served.0 new) (sym is) served.1 in
    record { asked = served.0; serves = serves; holds = holds_ended (connection_at new.connections place).stage after [] (fault_finishes MayLack place old new Unfinished served.0 serves) }
