-- What a client carries, frame by frame.
use Rattle.std.proofs.Common.{◌≡◌, ℕ, ◌≤◌, suc, Bool, true, false, List, [], ◌∷◌, ◌++◌, Option, Result, Ok, Err, OnOk, OnErr, length, length-append, take, sym, ap, ◌∙◌, refl, subst, arith, inl, inr, ◌⊎◌}
use Rattle.std.proofs.Math.Seq.{take-length}
use Rattle.std.proofs.lemmas.List.{append_assoc, append-nil}
use Rattle.std.proofs.KnownBytes.{Appends-nil, Appends-trans}
use Rattle.std.specs.Io.KnownBytes.{Appends}
use Rattle.ipc_base.proofs.Giving.{gives_none, gives_then}
use Rattle.ipc_base.specs.Ports.{AppendsFront, Gives, Input}
use Rattle.ipc_frame.specs.declared.frame.Frame.{Frame}
use Rattle.ipc_frame.specs.declared.fault.FrameFault.{FrameFault}
use Rattle.ipc_frame.specs.declared.kind.Side.TheVariants.{Client}
use Rattle.ipc_frame.specs.Frames.{spelling}
use Rattle.ipc_client.specs.ClientParts.{start_input, started}
use Rattle.ipc_client.specs.Reading.{TakesFrame, TakesNoFrame}
use Rattle.ipc_client.specs.Wires.{IsAnswered, IsCarried, LacksLast, text_of}
use Rattle.ipc_client.specs.declared.start.Start.{Start}

text_more : (frames : List Frame) (last : Frame) → text_of (frames ++ last ∷ []) ≡ text_of frames ++ spelling last
unfolding text_of
text_more [] last = append-nil (spelling last)
text_more (next ∷ frames) last =
    ap (λ (text : List ℕ). spelling next ++ text) (text_more frames last)
    ∙ sym (append_assoc (spelling next) (text_of frames) (spelling last))

text_none : text_of [] ≡ []
unfolding text_of
text_none = refl

length_more : (frames : List Frame) (last : Frame) → length (frames ++ last ∷ []) ≡ suc (length frames)
length_more frames last = omega (arith, length-append frames (last ∷ []))

-- nothing yet
nothing_carried : (input : Input) (written : Option (List ℕ)) → IsAnswered (started input written) input written [] []
nothing_carried input written = record {
  out = subst (λ (text : List ℕ). Appends written written text) (sym text_none) (Appends-nil written);
  came = subst (λ (text : List ℕ). Gives input input text) (sym text_none) (gives_none input);
  each = refl;
}

pub carried_none : (start : Start) (input : Input) (written : Option (List ℕ)) (sent answers : List Frame)
    → start ≡ started input written → sent ≡ [] → answers ≡ [] → IsCarried start input written sent answers false
carried_none start input written sent answers is unsent unheard = rw (is, unsent, unheard) (inl (nothing_carried input written))

-- of one that is open
open_answered : (start : Start) (input : Input) (written : Option (List ℕ)) (sent answers : List Frame) (closed : Bool)
    → IsCarried start input written sent answers closed → closed ≡ false → IsAnswered start input written sent answers
open_answered start input written sent answers closed (inl h) is_open = h
open_answered start input written sent answers closed (inr h) is_open = absurd (cc)

-- it is closed
pub carried_closed : (start : Start) (input : Input) (written : Option (List ℕ)) (sent answers : List Frame) (closed : Bool)
    → IsCarried start input written sent answers closed → IsCarried start input written sent answers true
carried_closed start input written sent answers closed (inl h) = inl h
carried_closed start input written sent answers closed (inr h) = inr (refl, h.1)

-- a frame went out, and the next one answered it
both_carried : (start : Start) (old new : Input) (before after : Option (List ℕ)) (sent answers : List Frame)
    (asked answered : Frame) → IsAnswered start old before sent answers
    → Appends before after (spelling asked) → Gives old new (spelling answered)
    → IsAnswered start new after (sent ++ asked ∷ []) (answers ++ answered ∷ [])
both_carried start old new before after sent answers asked answered h out gave = record {
  out = subst (λ (text : List ℕ). Appends start.written after text) (sym (text_more sent asked))
      (Appends-trans start.written before after (text_of sent) (spelling asked) h.out out);
  came = subst (λ (text : List ℕ). Gives (start_input start) new text) (sym (text_more answers answered))
      (gives_then (start_input start) old new (text_of answers) (spelling answered) h.came gave);
  each = length_more answers answered ∙ (ap suc h.each ∙ sym (length_more sent asked));
}

pub carried_answer : (start : Start) (old new : Input) (before after : Option (List ℕ)) (sent sent_now answers answers_now : List Frame)
    (closed : Bool) (asked answered : Frame) → IsCarried start old before sent answers closed → closed ≡ false
    → Appends before after (spelling asked) → TakesFrame Client old new answered
    → sent_now ≡ sent ++ asked ∷ [] → answers_now ≡ answers ++ answered ∷ []
    → IsCarried start new after sent_now answers_now closed
carried_answer start old new before after sent sent_now answers answers_now closed asked answered h is_open out read sends hears =
    rw (sends, hears) (inl (both_carried start old new before after sent answers asked answered
    (open_answered start old before sent answers closed h is_open) out read.taken))

-- a front of a frame went out, and nothing came
front_carried : (start : Start) (input : Input) (before after : Option (List ℕ)) (sent answers : List Frame)
    (asked : Frame) → IsAnswered start input before sent answers → AppendsFront before after (spelling asked)
    → LacksLast start input after (sent ++ asked ∷ []) answers
front_carried start input before after sent answers asked h front = record {
  before = sent;
  last = asked;
  is = refl;
  count = front.0;
  within = front.1;
  out = Appends-trans start.written before after (text_of sent) (take front.0 (spelling asked)) h.out front.2;
  rest = [];
  came = subst (λ (text : List ℕ). Gives (start_input start) input text) (sym (append-nil (text_of answers))) h.came;
  behind = λ short. refl;
  each = h.each;
}

pub carried_front : (start : Start) (input : Input) (before after : Option (List ℕ)) (sent sent_now answers : List Frame) (closed : Bool)
    (asked : Frame) → IsCarried start input before sent answers closed → closed ≡ false
    → AppendsFront before after (spelling asked) → sent_now ≡ sent ++ asked ∷ []
    → IsCarried start input after sent_now answers true
carried_front start input before after sent sent_now answers closed asked h is_open front sends =
    rw sends (inr (
      refl,
      front_carried start input before after sent answers asked
          (open_answered start input before sent answers closed h is_open) front,
    ))

-- all of it did, and these bytes came
rest_carried : (start : Start) (old new : Input) (before after : Option (List ℕ)) (sent answers : List Frame)
    (asked : Frame) (bytes : List ℕ) → IsAnswered start old before sent answers
    → Appends before after (spelling asked) → Gives old new bytes
    → LacksLast start new after (sent ++ asked ∷ []) answers
rest_carried start old new before after sent answers asked bytes h out gave =
    let text = spelling asked in
    let all : Appends before after (take (length text) text) = subst (λ (l : List ℕ). Appends before after l) (sym (take-length text)) out in record {
      before = sent;
      last = asked;
      is = refl;
      count = length text;
      within = omega arith;
      out = Appends-trans start.written before after (text_of sent) (take (length text) text) h.out all;
      rest = bytes;
      came = gives_then (start_input start) old new (text_of answers) bytes h.came gave;
      behind = λ short. absurd (omega (arith, short));
      each = h.each;
    }

-- which are no frame
pub carried_torn : (start : Start) (old new : Input) (before after : Option (List ℕ)) (sent sent_now answers : List Frame) (closed : Bool)
    (asked : Frame) (fault : FrameFault) → IsCarried start old before sent answers closed → closed ≡ false
    → Appends before after (spelling asked) → TakesNoFrame Client old new fault → sent_now ≡ sent ++ asked ∷ []
    → IsCarried start new after sent_now answers true
carried_torn start old new before after sent sent_now answers closed asked fault h is_open out none sends =
    rw sends (inr (
      refl,
      rest_carried start old new before after sent answers asked none.0
          (open_answered start old before sent answers closed h is_open) out none.1,
    ))

-- or none came
carried_last : (start : Start) (input : Input) (before after : Option (List ℕ)) (sent sent_now answers : List Frame) (closed : Bool)
    (asked : Frame) → IsCarried start input before sent answers closed → closed ≡ false
    → Appends before after (spelling asked) → sent_now ≡ sent ++ asked ∷ []
    → IsCarried start input after sent_now answers true
carried_last start input before after sent sent_now answers closed asked h is_open out sends =
    rw sends (inr (
      refl,
      rest_carried start input input before after sent answers asked []
          (open_answered start input before sent answers closed h is_open) out (gives_none input),
    ))

-- or a front of it went out
pub carried_out : {A E : Type 0} (result : Result A E) (start : Start) (input : Input) (before after : Option (List ℕ))
    (sent sent_now answers : List Frame) (closed : Bool) (asked : Frame) → IsCarried start input before sent answers closed → closed ≡ false
    → OnOk result (Appends before after (spelling asked)) → OnErr result (AppendsFront before after (spelling asked))
    → sent_now ≡ sent ++ asked ∷ [] → IsCarried start input after sent_now answers true
carried_out (Ok a) start input before after sent sent_now answers closed asked h is_open whole front sends =
    carried_last start input before after sent sent_now answers closed asked h is_open whole sends
carried_out (Err e) start input before after sent sent_now answers closed asked h is_open whole front sends =
    carried_front start input before after sent sent_now answers closed asked h is_open front sends
