-- The bytes that are read are served, piece by piece and frame by frame.
use Rattle.std.specs.Prelude.{⊤}
use Rattle.std.proofs.Common.{◌≡◌, ◌≢◌, ◌⊎◌, inl, inr, ℕ, ◌-◌, ◌<◌, ◌≤◌, min, List, [], ◌∷◌, ◌++◌, map, Option, Result, Ok, Err, refl, sym, ap, subst, ◌∙◌, length, drop, take, arith, length-drop}
use Rattle.std.proofs.lemmas.List.{append-nil, append_assoc, map-append}
use Rattle.std.specs.Io.KnownBytes.{IsAtEnd}
use Rattle.ipc_frame.specs.Reading.{reading}
use Rattle.ipc_frame.specs.Stream.{End, Rest, Stream, put_front, stream_of}
use Rattle.ipc_frame.specs.declared.fault.FrameFault.{FrameFault}
use Rattle.ipc_frame.specs.declared.fault.FrameFault.TheVariants.{Unfinished}
use Rattle.ipc_frame.specs.declared.frame.Frame.{Frame}
use Rattle.ipc_frame.specs.declared.kind.Side.TheVariants.{Server}
use Rattle.ipc_connection.proofs.HearingLemmas.{joined}
use Rattle.ipc_connection.proofs.PieceLemmas.{stream_short}
use Rattle.ipc_connection.specs.Hearing.{heard_of}
use Rattle.ipc_connection.specs.Taking.{Decoding, Finishes, Holds}
use Rattle.ipc_connection.specs.declared.heard.Heard.{Heard}
use Rattle.ipc_connection.proofs.ChainLemmas.{chain_both, chain_none, chain_push}
use Rattle.ipc_connection.specs.Chain.{Chain}
use Rattle.ipc_connection.specs.KernelCalls.{KernelCall, Breaks, TellsMore}
use Rattle.ipc_connection.specs.declared.stage.Stage.{Stage}
use Rattle.ipc_connection.specs.declared.stage.Stage.TheVariants.{Greeting, Finished}
use Rattle.ipc_session.proofs.CauseLemmas.{cause_of, fault_ends, still_on}
use Rattle.ipc_session.proofs.TakeLemmas.{TookFault, TookNone, TookOne}
use Rattle.ipc_session.proofs.TellLemmas.{tells_both, tells_none}
use Rattle.ipc_session.specs.Reading.{EndsSo, HasEnded, HasServed, HeardUpTo, IsCause, IsNext, Leaves, Log, ServesPiece}
use Rattle.ipc_session.specs.Serving.{Serves, ServesAll, Steps}
use Rattle.ipc_session.specs.declared.ending.Ending.{Ending}
use Rattle.ipc_session.specs.declared.ending.Ending.TheVariants as ending
use Rattle.ipc_session.specs.declared.turned.Turned.{Turned}
use Rattle.ipc_session.specs.declared.turned.Turned.TheVariants.{On, Over}

-- calls, and then more of them
tells_then : (a b c : Log) (xs ys : List KernelCall) → TellsMore a b (xs ++ []) → TellsMore b c ys → TellsMore a c (xs ++ ys)
tells_then a b c xs ys h k = tells_both a b c xs ys (subst (λ (l : List KernelCall). TellsMore a b l) (append-nil xs) h) k

tells_end : (a b c : Log) (xs ys : List KernelCall) → TellsMore a b (xs ++ []) → TellsMore b c ys → TellsMore a c ((xs ++ ys) ++ [])
tells_end a b c xs ys h k = subst (λ (l : List KernelCall). TellsMore a c l) (sym (append-nil (xs ++ ys))) (tells_then a b c xs ys h k)

-- a connection that goes on has not finished
pub all_on : (heard : List (Result Heard FrameFault)) (before after : Stage) (calls : List KernelCall) → before ≢ Finished → ServesAll (On before) heard calls (On after) → after ≢ Finished
unfolding Chain
all_on [] before after calls is_on s e = let same = s.1 in is_on (cc)
all_on (x ∷ xs) before after calls is_on (first, rest, On next, both, here, later) e = all_on xs next after rest (still_on before x first next is_on here) later e
all_on (x ∷ xs) before after calls is_on (first, rest, Over ending, both, here, later) e = stays xs rest later
  where
    stays : (xs : List (Result Heard FrameFault)) (rest : List KernelCall) → Chain Steps (Over ending) xs rest (On after) → ⊥
    stays [] rest s = let no = s.1 in cc
    stays (x ∷ xs) rest s = s.4

-- ---- piece by piece

-- nothing was read yet
pub served_none : (log : Log) (stage : Stage) → HasServed log log stage [] [] stage []
unfolding reading
served_none log stage =
    let none = stream_short [] 4 refl in
    record {
      calls = [];
      tells = tells_none log;
      serves = rw none (chain_none Steps (On stage));
      rest = ap (λ (s : Stream). s.end) none;
    }

-- a piece more
pub served_then : (a b c : Log) (first between after : Stage) (bytes left piece left_now : List ℕ) → HasServed a b first bytes left between [] → HasServed b c between (left ++ piece) left_now after [] → HasServed a c first (bytes ++ piece) left_now after []
served_then a b c first between after bytes left piece left_now one two =
    let whole = joined bytes left piece one.rest in
    let front = (stream_of Server bytes).frames in
    let back = (stream_of Server (left ++ piece)).frames in
    record {
      calls = one.calls ++ two.calls;
      tells = tells_end a b c one.calls two.calls one.tells (subst (λ (l : List KernelCall). TellsMore b c l) (append-nil two.calls) two.tells);
      serves = rw (whole, map-append heard_of front back) (chain_both Steps (map heard_of front) (map heard_of back) (On first) (On between) (On after) one.calls two.calls one.serves two.serves);
      rest = ap (λ (s : Stream). s.end) whole ∙ two.rest;
    }

-- frames in front of what was heard
heard_then : (whole stream : Stream) (frames : List Frame) (input : Option (List ℕ)) (heard : List (Result Heard FrameFault)) → whole ≡ put_front frames stream → HeardUpTo stream input heard → HeardUpTo whole input (map heard_of frames ++ heard)
heard_then whole stream frames input heard is h = record {
  front = frames ++ h.front;
  behind = h.behind;
  stream_is = is ∙ (ap (put_front frames) h.stream_is ∙ ap (λ (l : List Frame). record { frames = l; end = h.behind.end }) (sym (append_assoc frames h.front h.behind.frames)));
  last = h.last;
  is_next = h.is_next;
  heard_is = ap (λ (l : List (Result Heard FrameFault)). map heard_of frames ++ l) h.heard_is ∙ (sym (append_assoc (map heard_of frames) (map heard_of h.front) (h.last ∷ [])) ∙ ap (λ (l : List (Result Heard FrameFault)). l ++ h.last ∷ []) (sym (map-append heard_of frames h.front)));
}

-- calls and what was heard in front of what caused an ending
cause_then : (ending : Ending) (front heard : List (Result Heard FrameFault)) (before calls : List KernelCall) → IsCause ending heard calls → IsCause ending (front ++ heard) (before ++ calls)
cause_then ending.Protocol front heard before calls (inl (early, request, is)) = inl (before ++ early, request, ap (λ (l : List KernelCall). before ++ l) is ∙ sym (append_assoc before early _))
cause_then ending.Protocol front heard before calls (inr (inl (first, early, fault, said, is))) = inr (inl (front ++ first, before ++ early, fault, ap (λ (l : List (Result Heard FrameFault)). front ++ l) said ∙ sym (append_assoc front first _), ap (λ (l : List KernelCall). before ++ l) is ∙ sym (append_assoc before early _)))
cause_then ending.Protocol front heard before calls (inr (inr (first, early, other, said, is))) = inr (inr (front ++ first, before ++ early, other, ap (λ (l : List (Result Heard FrameFault)). front ++ l) said ∙ sym (append_assoc front first _), ap (λ (l : List KernelCall). before ++ l) is ∙ sym (append_assoc before early _)))
cause_then ending.Gone front heard before calls (early, request, is) = (before ++ early, request, ap (λ (l : List KernelCall). before ++ l) is ∙ sym (append_assoc before early _))
cause_then ending.Bye front heard before calls (early, is) = (front ++ early, ap (λ (l : List (Result Heard FrameFault)). front ++ l) is ∙ sym (append_assoc front early _))
cause_then ending.Device front heard before calls c = absurd c
cause_then ending.Stopped front heard before calls c = absurd c
cause_then ending.EndOfInput front heard before calls c = absurd c

-- an ending behind frames that were served
ended_behind : (a b c : Log) (first between : Stage) (whole_bytes bytes : List ℕ) (input : Option (List ℕ)) (e : Ending) (frames : List Frame) (calls : List KernelCall) → stream_of Server whole_bytes ≡ put_front frames (stream_of Server bytes) → TellsMore a b (calls ++ []) → ServesAll (On first) (map heard_of frames) calls (On between) → HasEnded b c between bytes input e [] → HasEnded a c first whole_bytes input e []
ended_behind a b c first between whole_bytes bytes input e frames calls is tells serves two = record {
  heard = map heard_of frames ++ two.heard;
  up_to = heard_then (stream_of Server whole_bytes) (stream_of Server bytes) frames input two.heard is two.up_to;
  calls = calls ++ two.calls;
  tells = tells_end a b c calls two.calls tells (subst (λ (l : List KernelCall). TellsMore b c l) (append-nil two.calls) two.tells);
  serves = chain_both Steps (map heard_of frames) two.heard (On first) (On between) (Over e) calls two.calls serves two.serves;
  cause = cause_then e (map heard_of frames) two.heard calls two.calls two.cause;
}

pub ended_then : (a b c : Log) (first between : Stage) (bytes left piece : List ℕ) (input : Option (List ℕ)) (e : Ending) → HasServed a b first bytes left between [] → HasEnded b c between (left ++ piece) input e [] → HasEnded a c first (bytes ++ piece) input e []
ended_then a b c first between bytes left piece input e one two =
    ended_behind a b c first between (bytes ++ piece) (left ++ piece) input e (stream_of Server bytes).frames one.calls (joined bytes left piece one.rest) one.tells one.serves two

-- what was heard behind frames that were served ended the connection
ended_by : (a b c : Log) (first between : Stage) (bytes : List ℕ) (input : Option (List ℕ)) (e : Ending) (frames : List Frame) (behind : Stream) (last : Result Heard FrameFault) (before calls : List KernelCall) → first ≢ Finished → stream_of Server bytes ≡ put_front frames behind → IsNext behind.frames behind.end input last → TellsMore a b (before ++ []) → ServesAll (On first) (map heard_of frames) before (On between) → TellsMore b c calls → Serves between last calls (Over e) → HasEnded a c first bytes input e []
ended_by a b c first between bytes input e frames behind last before calls is_on is is_next tells serves more serves_more = record {
  heard = map heard_of frames ++ last ∷ [];
  up_to = record { front = frames; behind = behind; stream_is = is; last = last; is_next = is_next; heard_is = refl };
  calls = before ++ calls;
  tells = tells_end a b c before calls tells more;
  serves = chain_push Steps (map heard_of frames) last (On first) (On between) (Over e) before calls serves serves_more;
  cause = cause_of between last calls e (map heard_of frames) before (all_on (map heard_of frames) first between before is_on serves) serves_more;
}

abbrev pub ServedNext : Log → Log → Stage → Result Heard FrameFault → Turned → Type 0
ServedNext old new stage heard turned = (calls : List KernelCall) × TellsMore old new calls × Serves stage heard calls turned

-- the input ended inside a frame
pub ended_inside : (a b c : Log) (stage : Stage) (bytes : List ℕ) (byte : ℕ) (left : List ℕ) (input : Option (List ℕ)) (e : Ending) → HasServed a b Greeting bytes (byte ∷ left) stage [] → IsAtEnd input → ServedNext b c stage (Err Unfinished) (Over e) → HasEnded a c Greeting bytes input e []
ended_inside a b c stage bytes byte left input e one at_end served =
    let front = (stream_of Server bytes).frames in
    let is : stream_of Server bytes ≡ put_front front (record { frames = []; end = Rest (byte ∷ left) }) =
    ap (λ (end : End). record { frames = front; end = end }) one.rest ∙ ap (λ (l : List Frame). record { frames = l; end = Rest (byte ∷ left) }) (sym (append-nil front)) in
    ended_by a b c Greeting stage bytes input e front (record { frames = []; end = Rest (byte ∷ left) }) (Err Unfinished) one.calls served.0 (λ no. cc) is (refl, at_end) one.tells one.serves served.1 served.2

-- the end of the input, between two frames and inside one
pub finished_ok : (left : List ℕ) (old new : Decoding) (x : ⊤) → Finishes left old new (Ok x) → left ≡ []
finished_ok [] old new x h = refl
finished_ok (byte ∷ bytes) old new x h = let no = h.0 in absurd (cc)

pub nothing_left : (a b : Log) (stage : Stage) (bytes left : List ℕ) → HasServed a b Greeting bytes left stage [] → left ≡ [] → HasServed a b Greeting bytes [] stage []
nothing_left a b stage bytes left one none = subst (λ (l : List ℕ). HasServed a b Greeting bytes l stage []) none one

pub finished_bad : (a b c : Log) (stage : Stage) (bytes left : List ℕ) (old new : Decoding) (fault : FrameFault) (input : Option (List ℕ)) (e : Ending) → Finishes left old new (Err fault) → HasServed a b Greeting bytes left stage [] → IsAtEnd input → ServedNext b c stage (Err fault) (Over e) → HasEnded a c Greeting bytes input e []
finished_bad a b c stage bytes [] old new fault input e h one at_end served = let no = h.0 in absurd (cc)
finished_bad a b c stage bytes (byte ∷ left) old new fault input e h one at_end served =
    let is = h.0 in
    let same : fault ≡ Unfinished = cc in
    ended_inside a b c stage bytes byte left input e one at_end (subst (λ (f : FrameFault). ServedNext b c stage (Err f) (Over e)) same served)

-- ---- frame by frame

-- so far these frames of a stream were served, and this is left of it
pub record InPiece (old new : Log) (before : Stage) (whole : Stream) (after : Stage) (behind : Stream) : Type 0 where
  pub frames : List Frame
  pub stream_is : whole ≡ put_front frames behind
  pub calls : List KernelCall
  pub tells : TellsMore old new (calls ++ [])
  pub serves : ServesAll (On before) (map heard_of frames) calls (On after)

-- the bytes held with what is left of the piece, and that each turn uses some
pub record Progress (old new : Log) (before : Stage) (bytes : List ℕ) (after : Stage) (decoder : Decoding) (rest : List ℕ) (turns : ℕ) : Type 0 where
  pub held : List ℕ
  pub holds : Holds decoder held
  pub served : InPiece old new before (stream_of Server bytes) after (stream_of Server (held ++ rest))
  pub moves : (length rest < turns) ⊎ ((held ≡ []) × (length rest ≤ turns))

pub begin : (log : Log) (stage : Stage) (left piece : List ℕ) (decoder : Decoding) (turns : ℕ) → Holds decoder left → length piece < turns → Progress log log stage (left ++ piece) stage decoder piece turns
begin log stage left piece decoder turns holds few = record {
  held = left;
  holds = holds;
  served = record { frames = []; stream_is = refl; calls = []; tells = tells_none log; serves = chain_none Steps (On stage) };
  moves = inl few;
}

-- one frame more; behind it no more turns are left than bytes
pub step : (a b c : Log) (before stage next : Stage) (bytes : List ℕ) (decoder new : Decoding) (rest : List ℕ) (turns used : ℕ) (heard : Heard) → (p : Progress a b before bytes stage decoder rest turns) → 0 < turns → TookOne p.held rest new used heard → ServedNext b c stage (Ok heard) (On next) → Progress a c before bytes next new (drop used rest) (min (turns - 1) (length (drop used rest)))
step a b c before stage next bytes decoder new rest turns used heard p some one served =
    let left = length-drop used rest in
    let within = one.within in
    record {
      held = [];
      holds = one.holds;
      served = record {
        frames = p.served.frames ++ one.frame ∷ [];
        stream_is = p.served.stream_is ∙ (ap (put_front p.served.frames) one.stream_is ∙ ap (λ (l : List Frame). record { frames = l; end = (stream_of Server (drop used rest)).end }) (sym (append_assoc p.served.frames (one.frame ∷ []) (stream_of Server (drop used rest)).frames)));
        calls = p.served.calls ++ served.0;
        tells = tells_end a b c p.served.calls served.0 p.served.tells served.1;
        serves = rw (map-append heard_of p.served.frames (one.frame ∷ []), one.says) (chain_push Steps (map heard_of p.served.frames) (Ok heard) (On before) (On stage) (On next) p.served.calls served.0 p.served.serves served.2);
      };
      moves = inr (refl, let few = fewer p.moves in omega (arith, few));
    }
  where
    fewer : (length rest < turns) ⊎ ((p.held ≡ []) × (length rest ≤ turns)) → length (drop used rest) ≤ turns - 1
    fewer (inl few) = let left = length-drop used rest in omega (arith, left, few)
    fewer (inr (none, few)) = let left = length-drop used rest in let more = one.moves none in let within = one.within in omega (arith, left, few, more, within)

-- no frame ends in what is left
pub stop : (a b : Log) (before stage : Stage) (bytes : List ℕ) (decoder new : Decoding) (rest : List ℕ) (turns : ℕ) (input : Option (List ℕ)) → (p : Progress a b before bytes stage decoder rest turns) → TookNone p.held rest new → ServesPiece a b before bytes input new (On stage)
stop a b before stage bytes decoder new rest turns input p (is, holds) = (p.held ++ rest, served, holds)
  where
    whole : stream_of Server bytes ≡ record { frames = p.served.frames; end = Rest (p.held ++ rest) }
    whole = p.served.stream_is ∙ (ap (put_front p.served.frames) is ∙ ap (λ (l : List Frame). record { frames = l; end = Rest (p.held ++ rest) }) (append-nil p.served.frames))

    served : HasServed a b before bytes (p.held ++ rest) stage []
    served = record { calls = p.served.calls; tells = p.served.tells; serves = rw whole p.served.serves; rest = ap (λ (s : Stream). s.end) whole }

-- the piece is used up
pub used_up : (a b : Log) (before stage : Stage) (bytes : List ℕ) (decoder : Decoding) (rest : List ℕ) (turns : ℕ) (input : Option (List ℕ)) → Progress a b before bytes stage decoder rest turns → turns ≡ 0 → ServesPiece a b before bytes input decoder (On stage)
unfolding reading
used_up a b before stage bytes decoder rest turns input p no_turn = elim p.moves [
  | inl few ↦ absurd (omega (arith, few, no_turn))
  | inr last ↦
      let none : rest ≡ [] = empty rest (omega (arith, last.1, no_turn)) in
      let nothing : p.held ++ rest ≡ [] = ap (λ (l : List ℕ). l ++ rest) last.0 ∙ none in
      let is : stream_of Server (p.held ++ rest) ≡ record { frames = []; end = Rest [] } = ap (stream_of Server) nothing ∙ stream_short [] 4 refl in
      let whole : stream_of Server bytes ≡ record { frames = p.served.frames; end = Rest [] } =
      p.served.stream_is ∙ (ap (put_front p.served.frames) is ∙ ap (λ (l : List Frame). record { frames = l; end = Rest [] }) (append-nil p.served.frames)) in (
        [],
        record { calls = p.served.calls; tells = p.served.tells; serves = rw whole p.served.serves; rest = ap (λ (s : Stream). s.end) whole },
        subst (λ (l : List ℕ). Holds decoder l) last.0 p.holds,
      )
]
  where
    empty : (l : List ℕ) → length l ≡ 0 → l ≡ []
    empty [] e = refl
    empty (x ∷ xs) e = absurd (omega (arith, e))

-- the frame ended the connection
pub over : (a b c : Log) (before stage : Stage) (bytes : List ℕ) (decoder new after : Decoding) (rest : List ℕ) (turns used : ℕ) (heard : Heard) (input : Option (List ℕ)) (e : Ending) → before ≢ Finished → (p : Progress a b before bytes stage decoder rest turns) → TookOne p.held rest new used heard → ServedNext b c stage (Ok heard) (Over e) → ServesPiece a c before bytes input after (Over e)
over a b c before stage bytes decoder new after rest turns used heard input e is_on p one served =
    ended_by a b c before stage bytes input e p.served.frames (stream_of Server (p.held ++ rest)) (Ok heard) p.served.calls served.0 is_on p.served.stream_is (rw one.stream_is (inl (sym one.says))) p.served.tells p.served.serves served.1 served.2

-- a fault did
pub failed : (a b c : Log) (before stage : Stage) (bytes : List ℕ) (decoder after : Decoding) (rest : List ℕ) (turns : ℕ) (fault : FrameFault) (input : Option (List ℕ)) (turned : Turned) → before ≢ Finished → (p : Progress a b before bytes stage decoder rest turns) → TookFault (stream_of Server (p.held ++ rest)) fault → ServedNext b c stage (Err fault) turned → ServesPiece a c before bytes input after turned
failed a b c before stage bytes decoder after rest turns fault input (On next) is_on p took served = absurd (fault_ends stage fault served.0 next (all_on (map heard_of p.served.frames) before stage p.served.calls is_on p.served.serves) served.2)
failed a b c before stage bytes decoder after rest turns fault input (Over e) is_on p took served =
    ended_by a b c before stage bytes input e p.served.frames (stream_of Server (p.held ++ rest)) (Err fault) p.served.calls served.0 is_on p.served.stream_is (next took) p.served.tells p.served.serves served.1 served.2
  where
    next : TookFault (stream_of Server (p.held ++ rest)) fault → IsNext (stream_of Server (p.held ++ rest)).frames (stream_of Server (p.held ++ rest)).end input (Err fault)
    next (inl is) = rw is refl
    next (inr (frame, behind, is, hears)) = rw is hears

-- ---- how a reader ends

ended_breaks : (e : Ending) (a b c : Log) (bytes : List ℕ) (input : Option (List ℕ)) → HasEnded a b Greeting bytes input e [] → TellsMore b c (Breaks ∷ []) → HasEnded a c Greeting bytes input e (Breaks ∷ [])
ended_breaks e a b c bytes input h more = record { heard = h.heard; up_to = h.up_to; calls = h.calls; tells = tells_then a b c h.calls (Breaks ∷ []) h.tells more; serves = h.serves; cause = h.cause }

-- and then the kernel port is told
pub breaks : (ending : Ending) (a b c : Log) (bytes : List ℕ) (input : Option (List ℕ)) → EndsSo ending a b bytes input [] → TellsMore b c (Breaks ∷ []) → EndsSo ending a c bytes input (Breaks ∷ [])
breaks ending.Device a b c bytes input (left, stage, s) more = (left, stage, record { calls = s.calls; tells = tells_then a b c s.calls (Breaks ∷ []) s.tells more; serves = s.serves; rest = s.rest })
breaks ending.Stopped a b c bytes input (left, stage, s) more = (left, stage, record { calls = s.calls; tells = tells_then a b c s.calls (Breaks ∷ []) s.tells more; serves = s.serves; rest = s.rest })
breaks ending.EndOfInput a b c bytes input (stage, s) more = (stage, record { calls = s.calls; tells = tells_then a b c s.calls (Breaks ∷ []) s.tells more; serves = s.serves; rest = s.rest })
breaks ending.Protocol a b c bytes input s more = ended_breaks ending.Protocol a b c bytes input s more
breaks ending.Gone a b c bytes input s more = ended_breaks ending.Gone a b c bytes input s more
breaks ending.Bye a b c bytes input s more = ended_breaks ending.Bye a b c bytes input s more

-- an ending by what was heard is one of three
pub ends_by : (e : Ending) (a b : Log) (bytes : List ℕ) (input : Option (List ℕ)) → HasEnded a b Greeting bytes input e [] → EndsSo e a b bytes input []
ends_by ending.Protocol a b bytes input h = h
ends_by ending.Gone a b bytes input h = h
ends_by ending.Bye a b bytes input h = h
ends_by ending.Device a b bytes input h = absurd h.cause
ends_by ending.Stopped a b bytes input h = absurd h.cause
ends_by ending.EndOfInput a b bytes input h = absurd h.cause

pub not_device : (e : Ending) (a b : Log) (first : Stage) (bytes : List ℕ) (input : Option (List ℕ)) → HasEnded a b first bytes input e [] → e ≡ ending.Device → ⊥
not_device e a b first bytes input h is = (subst (λ (x : Ending). HasEnded a b first bytes input x []) is h).cause

pub not_stopped : (e : Ending) (a b : Log) (first : Stage) (bytes : List ℕ) (input : Option (List ℕ)) → HasEnded a b first bytes input e [] → e ≡ ending.Stopped → ⊥
not_stopped e a b first bytes input h is = (subst (λ (x : Ending). HasEnded a b first bytes input x []) is h).cause

pub not_at_end : (e : Ending) (a b : Log) (first : Stage) (bytes : List ℕ) (input : Option (List ℕ)) → HasEnded a b first bytes input e [] → e ≡ ending.EndOfInput → ⊥
not_at_end e a b first bytes input h is = (subst (λ (x : Ending). HasEnded a b first bytes input x []) is h).cause

pub goes_on : (a b : Log) (bytes left : List ℕ) (stage : Stage) → HasServed a b Greeting bytes left stage [] → stage ≡ Finished → ⊥
goes_on a b bytes left stage s = all_on (map heard_of (stream_of Server bytes).frames) Greeting stage s.calls (λ e. cc) s.serves

-- what a piece was served of, behind what was served before
pub leaves_piece : (a b c : Log) (between : Stage) (bytes left piece : List ℕ) (input : Option (List ℕ)) (decoder : Decoding) (turned : Turned) → HasServed a b Greeting bytes left between [] → ServesPiece b c between (left ++ piece) input decoder turned → Leaves turned a c (bytes ++ piece) input decoder
leaves_piece a b c between bytes left piece input decoder (On stage) one two = (two.0, served_then a b c Greeting between stage bytes left piece two.0 one two.1, two.2)
leaves_piece a b c between bytes left piece input decoder (Over e) one two = ends_by e a c (bytes ++ piece) input (ended_then a b c Greeting between bytes left piece input e one two)

-- a piece ends a reader by what it says alone
pub not_by_piece : (turned : Turned) (a b : Log) (before : Stage) (bytes : List ℕ) (input : Option (List ℕ)) (decoder : Decoding) (e : Ending) → ServesPiece a b before bytes input decoder turned → turned ≡ Over e → HasEnded a b before bytes input e []
not_by_piece turned a b before bytes input decoder e h is = subst (λ (t : Turned). ServesPiece a b before bytes input decoder t) is h

-- what a turn left, by whether the connection goes on
pub goes_on_with : (turned : Turned) (a b : Log) (bytes : List ℕ) (input : Option (List ℕ)) (decoder : Decoding) (stage : Stage) → turned ≡ On stage → Leaves turned a b bytes input decoder → (left : List ℕ) × HasServed a b Greeting bytes left stage [] × Holds decoder left
goes_on_with turned a b bytes input decoder stage is h = subst (λ (t : Turned). Leaves t a b bytes input decoder) is h

pub ends_with : (turned : Turned) (a b : Log) (bytes : List ℕ) (input : Option (List ℕ)) (decoder : Decoding) (e : Ending) → turned ≡ Over e → Leaves turned a b bytes input decoder → EndsSo e a b bytes input []
ends_with turned a b bytes input decoder e is h = subst (λ (t : Turned). Leaves t a b bytes input decoder) is h

-- what a turn answers is one of the two, and says how the reader ends
pub over_is : (a b : Ending) → Over a ≡ Over b → a ≡ b
over_is a b is = cc

pub over_not_on : (e : Ending) (stage : Stage) → Over e ≡ On stage → ⊥
over_not_on e stage is = cc

pub on_not_over : (stage : Stage) (e : Ending) → On stage ≡ Over e → ⊥
on_not_over stage e is = cc

pub device_not_end : Over ending.Device ≡ Over ending.EndOfInput → ⊥
device_not_end is = cc

pub device_not_stopped : Over ending.Device ≡ Over ending.Stopped → ⊥
device_not_stopped is = cc
