-- What a kernel port tells of calls one after the other.
use Rattle.std.proofs.Common.{◌≡◌, true, false, is_some, List, [], ◌∷◌, ◌++◌, Option, Some, None, refl, sym, ap, ◌∙◌}
use Rattle.std.proofs.lemmas.List.{append-nil, append_assoc}
use Rattle.ipc_frame.specs.declared.frame.Frame.{Frame}
use Rattle.ipc_frame.specs.declared.version.WireVersion.{WireVersion}
use Rattle.ipc_connection.specs.KernelCalls.{Asks, Posts, KernelCall, TellsMore, left_to_post, post_of, posted}
use Rattle.ipc_connection.specs.Replying.{reply}
use Rattle.ipc_connection.specs.declared.asking.Request.{Request}
use Rattle.ipc_connection.specs.declared.stage.Stage.{Stage}
use Rattle.ipc_session.specs.Serving.{AsksSo, IsAnswer, ends_with}
use Rattle.ipc_session.specs.declared.turned.Turned.{Turned}
use Rattle.ipc_connection.specs.declared.replying.Told.{Told}
use Rattle.ipc_connection.specs.declared.replying.Told.TheVariants as told

pub tells_none : (log : Option (List KernelCall)) → TellsMore log log []
tells_none None = tt
tells_none (Some calls) = sym (append-nil calls)

pub tells_both : (a b c : Option (List KernelCall)) (xs ys : List KernelCall) → TellsMore a b xs → TellsMore b c ys → TellsMore a c (xs ++ ys)
tells_both a b None xs ys h k = tt
tells_both a None (Some c) xs ys h k = absurd k
tells_both None (Some b) (Some c) xs ys h k = absurd h
tells_both (Some a) (Some b) (Some c) xs ys h k = k ∙ (ap (λ (l : List KernelCall). l ++ ys) h ∙ append_assoc a xs ys)

-- what a kernel port leaves to be posted is told by its frame, in any version
pub leaves : (version : WireVersion) (t : Told) → is_some (posted t) ≡ true → posted t ≡ reply version t
unfolding reply
leaves version (told.Opened thread named) e = absurd cc
leaves version told.Entered e = absurd cc
leaves version (told.Exchanged result control code moment) e = absurd cc
leaves version (told.Refused refusal) e = refl
leaves version (told.Faulted class number) e = refl
leaves version told.Left e = absurd cc

pub leaves_one : (version : WireVersion) (t : Told) (frame : Frame) → is_some (posted t) ≡ true → reply version t ≡ Some frame → Posts frame ∷ [] ≡ left_to_post t
leaves_one version t frame some e = sym (ap post_of (leaves version t some ∙ e))

pub leaves_some : {A : Type 0} (version : WireVersion) (t : Told) → is_some (posted t) ≡ true → reply version t ≡ None → A
leaves_some version t some e = let no = sym (ap is_some (leaves version t some ∙ e)) ∙ some in absurd (cc)

pub leaves_none : (log : Option (List KernelCall)) (t : Told) → is_some (posted t) ≡ false → TellsMore log log (left_to_post t)
leaves_none log t none = go (posted t) none
  where
    go : (f : Option Frame) → is_some f ≡ false → TellsMore log log (post_of f)
    go None e = tells_none log
    go (Some frame) e = absurd cc

-- the kernel port was asked, and what it left was posted
pub asked : (old between new : Option (List KernelCall)) (stage : Stage) (turned : Turned) (request : Request) (told : Told) → TellsMore old between (Asks request told ∷ []) → IsAnswer request told → TellsMore between new (left_to_post told) → turned ≡ ends_with told stage → (calls : List KernelCall) × TellsMore old new calls × AsksSo stage request calls turned
asked old between new stage turned request told asks is_answer posts is =
    (Asks request told ∷ left_to_post told, tells_both old between new (Asks request told ∷ []) (left_to_post told) asks posts, (told, is_answer, refl, is))
