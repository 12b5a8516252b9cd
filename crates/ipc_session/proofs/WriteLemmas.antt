-- What goes out, piece by piece and frame by frame.
use Rattle.std.proofs.Common.{◌≡◌, ℕ, ◌+◌, ◌≤◌, ◌<◌, List, [], ◌∷◌, ◌++◌, Option, Some, None, Bool, true, false, IsTrue, take, drop, length, map, refl, sym, ap, ◌∙◌, subst, arith}
use Rattle.std.proofs.Math.Seq.{drop-nil, take-add, take-append-add, take-length}
use Rattle.std.proofs.lemmas.List.{append_assoc, append-nil, length-drop, length-append, take_all, drop-drop}
use Rattle.std.proofs.KnownBytes.{Appends-trans, Appends-nil}
use Rattle.std.specs.Io.KnownBytes.{Appends}
use Rattle.ipc_frame.specs.Frames.{spelling}
use Rattle.ipc_frame.specs.Replies.{ipcr_of}
use Rattle.ipc_frame.specs.declared.frame.Frame.{Frame}
use Rattle.ipc_base.specs.Ports.{AppendsPart}
use Rattle.ipc_session.specs.Taking.{TakeCall, Gave, Breaks, Encodes, TellsTaken, Wrote, given_by, text_of}
use Rattle.ipc_session.specs.declared.next.Next.{Next}
use Rattle.ipc_session.specs.declared.next.Next.TheVariants as next

not_true : {A : Type 0} → IsTrue false → A
not_true w = cc

pub text_append : (xs ys : List Frame) → text_of (xs ++ ys) ≡ text_of xs ++ text_of ys
unfolding text_of
text_append [] ys = refl
text_append (x ∷ xs) ys = ap (λ (t : List ℕ). spelling x ++ t) (text_append xs ys) ∙ sym (append_assoc (spelling x) (text_of xs) (text_of ys))

pub tells_both : (a b c : Option (List TakeCall)) (xs ys : List TakeCall) → TellsTaken a b xs → TellsTaken b c ys → TellsTaken a c (xs ++ ys)
tells_both a b None xs ys h k = tt
tells_both a None (Some c) xs ys h k = absurd k
tells_both None (Some b) (Some c) xs ys h k = absurd h
tells_both (Some a) (Some b) (Some c) xs ys h k = k ∙ (ap (λ (l : List TakeCall). l ++ ys) h ∙ append_assoc a xs ys)

pub tells_none : (log : Option (List TakeCall)) → TellsTaken log log []
tells_none None = tt
tells_none (Some calls) = sym (append-nil calls)

given_both : (xs ys : List Frame) (last : List TakeCall) → (map Gave xs ++ []) ++ (map Gave ys ++ last) ≡ map Gave (xs ++ ys) ++ last
given_both [] ys last = refl
given_both (x ∷ xs) ys last = ap (λ (l : List TakeCall). Gave x ∷ l) (given_both xs ys last)

-- one after the other
pub wrote_then : (a b c : Option (List TakeCall)) (p q r : Option (List ℕ)) (last : List TakeCall) (is_whole : Bool) → Wrote a b p q [] true → Wrote b c q r last is_whole → Wrote a c p r last is_whole
wrote_then a b c p q r last is_whole one two =
    let full : Appends p q (text_of one.frames) = subst (λ (l : List ℕ). Appends p q l) (ap (λ (n : ℕ). take n (text_of one.frames)) (one.whole refl) ∙ take-length (text_of one.frames)) one.appends in
    record {
      frames = one.frames ++ two.frames;
      tells = subst (λ (l : List TakeCall). TellsTaken a c l) (given_both one.frames two.frames last) (tells_both a b c (map Gave one.frames ++ []) (map Gave two.frames ++ last) one.tells two.tells);
      count = length (text_of one.frames) + two.count;
      appends = rw (text_append one.frames two.frames, take-append-add (text_of one.frames) (text_of two.frames) two.count) (Appends-trans p q r (text_of one.frames) (take two.count (text_of two.frames)) full two.appends);
      whole = λ w. let e = two.whole w in rw (text_append one.frames two.frames) (omega (arith, length-append (text_of one.frames) (text_of two.frames), e));
    }

-- nothing was given
pub wrote_none : (a b : Option (List TakeCall)) (p : Option (List ℕ)) → TellsTaken a b [] → Wrote a b p p [] true
unfolding text_of
wrote_none a b p tells = record { frames = []; tells = tells; count = 0; appends = Appends-nil p; whole = λ w. refl }

-- these frames went out whole
pub wrote_whole : (a b : Option (List TakeCall)) (p q : Option (List ℕ)) (frames : List Frame) → TellsTaken a b (map Gave frames) → Appends p q (text_of frames) → Wrote a b p q [] true
wrote_whole a b p q frames tells appends = record {
  frames = frames;
  tells = rw (append-nil (map Gave frames)) tells;
  count = length (text_of frames);
  appends = rw (take-length (text_of frames)) appends;
  whole = λ w. refl;
}

-- or in part, and the answer port was told
pub wrote_part : (a b c : Option (List TakeCall)) (p q : Option (List ℕ)) (frames : List Frame) → TellsTaken a b (map Gave frames) → TellsTaken b c (Breaks ∷ []) → AppendsPart p q (text_of frames) → Wrote a c p q (Breaks ∷ []) false
wrote_part a b c p q frames tells breaks part = record {
  frames = frames;
  tells = tells_both a b c (map Gave frames) (Breaks ∷ []) tells breaks;
  count = part.0;
  appends = part.2;
  whole = λ w. not_true w;
}

pub text_of_one : (frame : Frame) → text_of (frame ∷ []) ≡ spelling frame
unfolding text_of
text_of_one frame = append-nil (spelling frame)

-- what was given went out whole, or in part
pub wrote_given : (a b : Option (List TakeCall)) (p q : Option (List ℕ)) (next : Next) (bytes : List ℕ) → TellsTaken a b (given_by next) → Encodes next (Some bytes) → Appends p q bytes → Wrote a b p q [] true
wrote_given a b p q (next.Frame frame) bytes tells is appends = wrote_whole a b p q (frame ∷ []) tells (rw is appends)
wrote_given a b p q (next.Outcome version outcome) bytes tells is appends = wrote_whole a b p q (ipcr_of version outcome ∷ []) tells (rw is appends)
wrote_given a b p q next.Gone bytes tells is appends = absurd is

pub wrote_given_part : (a b c : Option (List TakeCall)) (p q : Option (List ℕ)) (next : Next) (bytes : List ℕ) → TellsTaken a b (given_by next) → Encodes next (Some bytes) → TellsTaken b c (Breaks ∷ []) → AppendsPart p q bytes → Wrote a c p q (Breaks ∷ []) false
wrote_given_part a b c p q (next.Frame frame) bytes tells is breaks part = wrote_part a b c p q (frame ∷ []) tells breaks (rw is part)
wrote_given_part a b c p q (next.Outcome version outcome) bytes tells is breaks part = wrote_part a b c p q (ipcr_of version outcome ∷ []) tells breaks (rw is part)
wrote_given_part a b c p q next.Gone bytes tells is breaks part = absurd is

-- nothing more comes
pub wrote_gone : (a b : Option (List TakeCall)) (p : Option (List ℕ)) (next : Next) → TellsTaken a b (given_by next) → Encodes next None → Wrote a b p p [] true
wrote_gone a b p (next.Frame frame) tells is = absurd is
wrote_gone a b p (next.Outcome version outcome) tells is = absurd is
wrote_gone a b p next.Gone tells is = wrote_none a b p tells
