-- What was heard and what the kernel port answered determine its calls.
use Rattle.std.proofs.Common.{◌≡◌, List, [], ◌∷◌, ◌++◌, Option, Some, None, Result, refl, sym, ap, ap₂, subst, ◌∙◌}
use Rattle.ipc_frame.specs.declared.fault.FrameFault.{FrameFault}
use Rattle.ipc_frame.specs.declared.frame.Frame.{Frame}
use Rattle.ipc_connection.specs.declared.heard.Heard.{Heard}
use Rattle.ipc_connection.specs.Asking.{asks}
use Rattle.ipc_connection.specs.Chain.{Chain}
use Rattle.ipc_connection.specs.KernelCalls.{Asks, KernelCall, left_to_post, post_of, posted}
use Rattle.ipc_connection.specs.declared.asking.Request.{Request}
use Rattle.ipc_connection.specs.declared.asking.Reaction.{Reaction}
use Rattle.ipc_connection.specs.declared.asking.Reaction.TheVariants.{Ask, Leave, Refuse, Nothing}
use Rattle.ipc_connection.specs.declared.replying.Told.{Told}
use Rattle.ipc_connection.specs.declared.replying.Told.TheVariants as told
use Rattle.ipc_connection.specs.declared.stage.Stage.{Stage}
use Rattle.ipc_session.specs.Laws.{AnswersDetermine, answers_in}
use Rattle.ipc_session.specs.Serving.{AsksSo, Serves, ServesAll, ServesBy, Steps, ends_with}
use Rattle.ipc_session.specs.declared.turned.Turned.{Turned}
use Rattle.ipc_session.specs.declared.turned.Turned.TheVariants.{On, Over}

-- what is posted is no answer
posts_none : (frame : Option Frame) (calls : List KernelCall) → answers_in (post_of frame ++ calls) ≡ answers_in calls
posts_none None calls = refl
posts_none (Some frame) calls = refl

-- the first calls and what comes next are the same, and so are the answers behind them
abbrev Alike : List KernelCall → List KernelCall → Turned → Turned → List KernelCall → List KernelCall → Type 0
Alike first first' next next' rest rest' = (first ≡ first') × (next ≡ next') × (answers_in rest ≡ answers_in rest')

alike : (calls first first' : List KernelCall) (turned next next' : Turned) (rest rest' : List KernelCall) → first ≡ calls → first' ≡ calls → next ≡ turned → next' ≡ turned → answers_in (calls ++ rest) ≡ answers_in rest → answers_in (calls ++ rest') ≡ answers_in rest' → answers_in (first ++ rest) ≡ answers_in (first' ++ rest') → Alike first first' next next' rest rest'
alike calls first first' turned next next' rest rest' is is' to to' none none' same = (
  is ∙ sym is',
  to ∙ sym to',
  sym none ∙ (ap (λ (l : List KernelCall). answers_in (l ++ rest)) (sym is) ∙ (same ∙ (ap (λ (l : List KernelCall). answers_in (l ++ rest')) is' ∙ none'))),
)

head_same : (t t' : Told) (ts ts' : List Told) → t ∷ ts ≡ t' ∷ ts' → (t ≡ t') × (ts ≡ ts')
head_same t t' ts ts' e = (cc, cc)

asked_alike : (stage : Stage) (r : Request) (first first' : List KernelCall) (next next' : Turned) (rest rest' : List KernelCall) → AsksSo stage r first next → AsksSo stage r first' next' → answers_in (first ++ rest) ≡ answers_in (first' ++ rest') → Alike first first' next next' rest rest'
asked_alike stage r first first' next next' rest rest' (t, answer, is, to) (t', answer', is', to') same =
    let both : answers_in (Asks r t ∷ left_to_post t ++ rest) ≡ answers_in (Asks r t' ∷ left_to_post t' ++ rest') =
    ap (λ (l : List KernelCall). answers_in (l ++ rest)) (sym is) ∙ (same ∙ ap (λ (l : List KernelCall). answers_in (l ++ rest')) is') in
    let parts = head_same t t' _ _ both in (
      is ∙ (ap (λ (x : Told). Asks r x ∷ left_to_post x) parts.0 ∙ sym is'),
      to ∙ (ap (λ (x : Told). ends_with x stage) parts.0 ∙ sym to'),
      sym (posts_none (posted t) rest) ∙ (parts.1 ∙ posts_none (posted t') rest'),
    )

by_alike : (stage : Stage) (r : Reaction) (first first' : List KernelCall) (next next' : Turned) (rest rest' : List KernelCall) → ServesBy stage r first next → ServesBy stage r first' next' → answers_in (first ++ rest) ≡ answers_in (first' ++ rest') → Alike first first' next next' rest rest'
by_alike stage Nothing first first' next next' rest rest' s s' same = alike [] first first' _ next next' rest rest' s.0 s'.0 s.1 s'.1 refl refl same
by_alike stage (Ask request) first first' next next' rest rest' s s' same = asked_alike stage request first first' next next' rest rest' s s' same
by_alike stage Leave first first' next next' rest rest' s s' same = alike [] first first' _ next next' rest rest' s.0 s'.0 s.1 s'.1 refl refl same
by_alike stage (Refuse class number) first first' next next' rest rest' s s' same =
    let fault = posted (told.Faulted class number) in
    alike _ first first' _ next next' rest rest' s.0 s'.0 s.1 s'.1 (posts_none fault rest) (posts_none fault rest') same

step_alike : (turned : Turned) (heard : Result Heard FrameFault) (first first' : List KernelCall) (next next' : Turned) (rest rest' : List KernelCall) → Steps turned heard first next → Steps turned heard first' next' → answers_in (first ++ rest) ≡ answers_in (first' ++ rest') → Alike first first' next next' rest rest'
unfolding Serves
step_alike (On stage) heard first first' next next' rest rest' s s' same = by_alike stage (asks stage heard) first first' next next' rest rest' s s' same
step_alike (Over ending) heard first first' next next' rest rest' s s' same = absurd s

all_alike : (heard : List (Result Heard FrameFault)) (before after other : Turned) (calls others : List KernelCall) → ServesAll before heard calls after → ServesAll before heard others other → answers_in calls ≡ answers_in others → (calls ≡ others) × (after ≡ other)
unfolding Chain
all_alike [] before after other calls others (is, to) (is', to') same = (is ∙ sym is', to ∙ sym to')
all_alike (x ∷ xs) before after other calls others (first, rest, next, both, here, later) (first', rest', next', both', here', later') same =
    let one = step_alike before x first first' next next' rest rest' here here' (ap answers_in (sym both) ∙ (same ∙ ap answers_in both')) in
    let more = all_alike xs next after other rest rest' later (subst (λ (t : Turned). Chain Steps t xs rest' other) (sym one.1) later') one.2 in
    (both ∙ (ap₂ (λ (a b : List KernelCall). a ++ b) one.0 more.0 ∙ sym both'), more.1)

pub answers_determine : AnswersDetermine
answers_determine before after other heard calls others s s' same = all_alike heard before after other calls others s s' same
