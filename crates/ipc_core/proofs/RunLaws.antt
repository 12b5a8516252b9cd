-- The same commands, each obeyed, have one list of answers and one end.
use Rattle.std.proofs.lemmas.Option.{none-some, same_Some}
use Rattle.std.proofs.Common.{◌≡◌, refl, sym, ap, ap₂, ◌∙◌, subst, ℕ, Bool, true, false, List, [], ◌∷◌, ◌++◌, length, map, Option, Some, None, unwrap_or, arith}
use Rattle.std.specs.Prelude.{MatchBool}
use Rattle.ipc_words.specs.Control.{masked_of}
use Rattle.ipc_words.specs.ThreadId.{number_of, version_of}
use Rattle.ipc_history.specs.Blocks.{block_of}
use Rattle.ipc_history.specs.CallParts.{CallParts}
use Rattle.ipc_history.specs.Threads.{next_version}
use Rattle.ipc_history.specs.Legal.{Legal, next_moving}
use Rattle.ipc_history.specs.Settled.{Settled}
use Rattle.ipc_history.specs.declared.entry.Entry.{Entry}
use Rattle.ipc_history.specs.declared.entry.Entry.TheVariants.{Given, Written}
use Rattle.ipc_history.specs.declared.entry.Input.{Input}
use Rattle.ipc_history.specs.declared.entry.Input.TheVariants as input
use Rattle.ipc_laws.proofs.Histories.{legal_front}
use Rattle.ipc_laws.proofs.Settling.{settles_once}
use Rattle.ipc_core.specs.Effects.{Ticks}
use Rattle.ipc_core.specs.KernelParts.{KernelParts, without_room}
use Rattle.ipc_core.specs.Obeying.{Does, Obeys, ObeysOr, Runs, cause_of}
use Rattle.ipc_core.specs.Steps.{Takes, at_moment, taken_after}
use Rattle.ipc_core.specs.Laws.{RunsOnce}
use Rattle.ipc_core.specs.declared.answers.Advance.TheVariants.{Moved, Idle}
use Rattle.ipc_core.specs.declared.command.Answer.{Answer}
use Rattle.ipc_core.specs.declared.command.Answer.TheVariants.{Opened, Entered, Exchanged, Done, Advanced, Taken}
use Rattle.ipc_core.specs.declared.command.Command.{Command}
use Rattle.ipc_core.specs.declared.command.Command.TheVariants.{Open, Enter, Exreg, Broke, At, Advance, Take}
use Rattle.ipc_core.specs.declared.refusal.Refusal.{Refusal}
use Rattle.ipc_core.proofs.SeenFrom.{cause_seen, does_seen}

-- a thread is its number and its version
same_thread : (t u number version : ℕ) → number_of t ≡ number → number_of u ≡ number → Some (version_of t) ≡ Some version → Some (version_of u) ≡ Some version → t ≡ u
same_thread t u number version a b v w =
    let a' : version_of t ≡ version = same_Some _ _ v in
    let b' : version_of u ≡ version = same_Some _ _ w in
    omega (arith, a, b, a', b')

-- kernels whose parts are the same but for the room are the same but for it
same_kernel : (a b : KernelParts) → a.entries_limit ≡ b.entries_limit → a.calls_limit ≡ b.calls_limit → a.moment ≡ b.moment → a.history ≡ b.history → a.held ≡ b.held → a.taken ≡ b.taken → a.since ≡ b.since → without_room a ≡ without_room b
same_kernel a b e c m h k t s = λ i. record { entries_limit = e i; calls_limit = c i; moment = m i; history = h i; held = k i; taken = t i; since = s i; room = 0 }

-- a legal end has a legal beginning
begun : (P Q : List Entry) → Settled P Q → Legal Q → Legal P
begun P Q settled legal = legal_front P (map Written settled.outputs) (subst Legal settled.appended legal)

took_once : (old one other : KernelParts) (given : Input) → Legal old.history → Takes old one given → Takes old other given → one.taken ≡ old.taken → other.taken ≡ old.taken → without_room one ≡ without_room other
took_once old one other given legal a b t u =
    let start = begun _ _ a.history (a.legal legal) in
    same_kernel one other (a.entries_limit ∙ sym b.entries_limit) (a.calls_limit ∙ sym b.calls_limit) (a.moment ∙ sym b.moment) (settles_once _ _ _ start a.history b.history) (a.held ∙ sym b.held) (t ∙ sym u) (a.since ∙ sym b.since)

-- under two names of one input
took_one : (old one other : KernelParts) (given named : Input) → given ≡ named → Legal old.history → Takes old one given → Takes old other named → one.taken ≡ old.taken → other.taken ≡ old.taken → without_room one ≡ without_room other
took_one old one other given named same legal a b t u = took_once old one other named legal (subst (Takes old one) same a) b t u

ticked_history : (b : Bool) (H K L : List Entry) (moment : ℕ) → Legal K → MatchBool b (Settled (H ++ Given (input.At moment) ∷ []) K) (K ≡ H) → MatchBool b (Settled (H ++ Given (input.At moment) ∷ []) L) (L ≡ H) → K ≡ L
ticked_history true H K L moment legal a b = settles_once _ _ _ (begun _ _ a legal) a b
ticked_history false H K L moment legal a b = a ∙ sym b

ticked_once : (old one other : KernelParts) (reading : ℕ) → Legal old.history → Ticks old one reading → Ticks old other reading → without_room one ≡ without_room other
ticked_once old one other reading legal a b = same_kernel one other (a.entries_limit ∙ sym b.entries_limit) (a.calls_limit ∙ sym b.calls_limit) (a.moment ∙ sym b.moment) (ticked_history _ old.history one.history other.history (at_moment old reading) (a.legal legal) a.history b.history) (a.held ∙ sym b.held) (a.taken ∙ sym b.taken) (a.since ∙ sym b.since)

-- a version that is there
known : {version : ℕ} {o : Option ℕ} → o ≡ Some version → Some version ≡ Some (unwrap_or o 0)
known {version} h = rw h refl

none_is_not : {X : Type 0} (x : X) (o : Option X) → o ≡ None → o ≡ Some x → ⊥
none_is_not x o n s = absurd (none-some x (sym n ∙ s))

-- a command does one thing
module _ (old one other : KernelParts) (legal : Legal old.history) where
  abbrev OneEnd : Answer → Answer → Type 0
  OneEnd answer answer' = (answer ≡ answer') × (without_room one ≡ without_room other)

  open_once : (number space : ℕ) (answer answer' : Answer) → Does old (Open number space) answer one → Does old (Open number space) answer' other → OneEnd answer answer'
  unfolding Does
  open_once number space (Opened t) (Opened u) a b =
      let same : t ≡ u = same_thread t u number (unwrap_or (next_version old.history number) 0) a.number_is b.number_is (known a.version_is) (known b.version_is) in
      (ap Opened same, took_one old one other (input.Opened t space) (input.Opened u space) (ap (λ x. input.Opened x space) same) legal a.takes b.takes a.taken b.taken)
  open_once number space (Opened t) _ a b = absurd b
  open_once number space _ _ a b = absurd a

  enter_once : (thread : ℕ) (call : CallParts) (answer answer' : Answer) → Does old (Enter thread call) answer one → Does old (Enter thread call) answer' other → OneEnd answer answer'
  unfolding Does
  enter_once thread call (Entered n) (Entered m) a b =
      let same : n ≡ m = a.number_is ∙ sym b.number_is in
      (ap Entered same, took_one old one other (input.Called n thread call) (input.Called m thread call) (ap (λ x. input.Called x thread call) same) legal a.takes b.takes a.taken b.taken)
  enter_once thread call (Entered n) _ a b = absurd b
  enter_once thread call _ _ a b = absurd a

  exreg_once : (thread target control : ℕ) (answer answer' : Answer) → Does old (Exreg thread target control) answer one → Does old (Exreg thread target control) answer' other → OneEnd answer answer'
  unfolding Does
  exreg_once thread target control (Exchanged x) (Exchanged y) a b = (ap Exchanged (a.answer_is ∙ sym b.answer_is), took_once old one other (input.Exreg thread target (masked_of control)) legal a.takes b.takes a.taken b.taken)
  exreg_once thread target control (Exchanged x) _ a b = absurd b
  exreg_once thread target control _ _ a b = absurd a

  broke_once : (thread : ℕ) (answer answer' : Answer) → Does old (Broke thread) answer one → Does old (Broke thread) answer' other → OneEnd answer answer'
  unfolding Does
  broke_once thread Done Done a b = (refl, took_once old one other (input.Broke thread) legal a.takes b.takes a.taken b.taken)
  broke_once thread Done _ a b = absurd b
  broke_once thread _ _ a b = absurd a

  at_once : (reading : ℕ) (answer answer' : Answer) → Does old (At reading) answer one → Does old (At reading) answer' other → OneEnd answer answer'
  unfolding Does
  at_once reading Done Done a b = (refl, ticked_once old one other reading legal a b)
  at_once reading Done _ a b = absurd b
  at_once reading _ _ a b = absurd a

  advance_once : (answer answer' : Answer) → Does old Advance answer one → Does old Advance answer' other → OneEnd answer answer'
  unfolding Does
  advance_once (Advanced Moved) (Advanced Moved) a b =
      let same : a.number ≡ b.number = same_Some a.number b.number (sym a.is_next ∙ b.is_next) in
      (refl, took_one old one other (input.Moved a.number (block_of old.history a.number)) (input.Moved b.number (block_of old.history b.number)) (ap (λ n. input.Moved n (block_of old.history n)) same) legal a.takes b.takes a.taken b.taken)
  advance_once (Advanced Idle) (Advanced Idle) a b = (refl, ap without_room (a.1 ∙ sym b.1))
  advance_once (Advanced Moved) (Advanced Idle) a b = absurd (none_is_not a.number (next_moving old.history) b.0 a.is_next)
  advance_once (Advanced Idle) (Advanced Moved) a b = absurd (none_is_not b.number (next_moving old.history) a.0 b.is_next)
  advance_once (Advanced Moved) _ a b = absurd b
  advance_once (Advanced Idle) _ a b = absurd b
  advance_once _ _ a b = absurd a

  take_once : (thread : ℕ) (answer answer' : Answer) → Does old (Take thread) answer one → Does old (Take thread) answer' other → OneEnd answer answer'
  unfolding Does
  take_once thread (Taken x) (Taken y) a b =
      let same : x ≡ y = a.outcome_is ∙ sym b.outcome_is in
      (ap Taken same, ap without_room (a.taken ∙ (ap (λ o. record old { taken = taken_after o old.taken; since = length old.history }) same ∙ sym b.taken)))
  take_once thread (Taken x) _ a b = absurd b
  take_once thread _ _ a b = absurd a

  does_once : (command : Command) (answer answer' : Answer) → Does old command answer one → Does old command answer' other → OneEnd answer answer'
  does_once (Open number space) answer answer' a b = open_once number space answer answer' a b
  does_once (Enter thread call) answer answer' a b = enter_once thread call answer answer' a b
  does_once (Exreg thread target control) answer answer' a b = exreg_once thread target control answer answer' a b
  does_once (Broke thread) answer answer' a b = broke_once thread answer answer' a b
  does_once (At reading) answer answer' a b = at_once reading answer answer' a b
  does_once Advance answer answer' a b = advance_once answer answer' a b
  does_once (Take thread) answer answer' a b = take_once thread answer answer' a b

  obeyed_once : (command : Command) (answer answer' : Answer) → Obeys old command answer one → Obeys old command answer' other → OneEnd answer answer'
  unfolding Obeys
  obeyed_once command answer answer' a b = go (cause_of old command) a b
    where
      go : (cause : Option Refusal) → ObeysOr cause old command answer one → ObeysOr cause old command answer' other → OneEnd answer answer'
      go (Some refusal) x y = (x.0 ∙ sym y.0, ap without_room (x.1 ∙ sym y.1))
      go None x y = does_once command answer answer' x y

-- what a command that is obeyed leaves legal
took_legal : (old new : KernelParts) (given : Input) → Legal old.history → Takes old new given → Legal new.history
took_legal old new given legal takes = takes.legal legal

pub does_legal : (old new : KernelParts) (command : Command) (answer : Answer) → Legal old.history → Does old command answer new → Legal new.history
unfolding Does
does_legal old new (Open number space) (Opened t) legal a = a.takes.legal legal
does_legal old new (Enter thread call) (Entered n) legal a = a.takes.legal legal
does_legal old new (Exreg thread target control) (Exchanged x) legal a = a.takes.legal legal
does_legal old new (Broke thread) Done legal a = a.takes.legal legal
does_legal old new (At reading) Done legal a = a.legal legal
does_legal old new Advance (Advanced Moved) legal a = a.takes.legal legal
does_legal old new Advance (Advanced Idle) legal a = rw a.1 legal
does_legal old new (Take thread) (Taken outcome) legal a = rw a.taken legal
does_legal old new _ _ legal a = absurd a

pub obeys_legal : (old new : KernelParts) (command : Command) (answer : Answer) → Legal old.history → Obeys old command answer new → Legal new.history
unfolding Obeys
obeys_legal old new command answer legal obeys = go (cause_of old command) obeys
  where
    go : (cause : Option Refusal) → ObeysOr cause old command answer new → Legal new.history
    go (Some refusal) x = rw x.1 legal
    go None x = does_legal old new command answer legal x

-- a command that is obeyed, said without the room
obeys_bare : (old new : KernelParts) (command : Command) (answer : Answer) → Obeys old command answer new → Obeys (without_room old) command answer (without_room new)
unfolding Obeys
obeys_bare old new command answer obeys = subst (λ cause. ObeysOr cause (without_room old) command answer (without_room new)) (sym (cause_seen old.since old command)) (go (cause_of old command) obeys)
  where
    go : (cause : Option Refusal) → ObeysOr cause old command answer new → ObeysOr cause (without_room old) command answer (without_room new)
    go (Some refusal) x = (x.0, ap without_room x.1)
    go None x = does_seen old.since old new command answer x

-- one after the other, from kernels that are the same but for the room
runs_from : (old again one other : KernelParts) (commands : List Command) (answers others : List Answer) → without_room old ≡ without_room again → Legal old.history → Runs old commands answers one → Runs again commands others other → (answers ≡ others) × (without_room one ≡ without_room other)
unfolding Runs
runs_from old again one other [] [] [] same legal a b = (refl, ap without_room a ∙ (same ∙ sym (ap without_room b)))
runs_from old again one other (c ∷ cs) (x ∷ xs) (y ∷ ys) same legal a b =
    let second : Obeys (without_room old) c y (without_room b.0) = subst (λ k. Obeys k c y (without_room b.0)) (sym same) (obeys_bare again b.0 c y b.1) in
    let first = obeyed_once (without_room old) (without_room a.0) (without_room b.0) legal c x y (obeys_bare old a.0 c x a.1) second in
    let rest = runs_from a.0 b.0 one other cs xs ys first.1 (obeys_legal old a.0 c x legal a.1) a.2 b.2 in
    (ap₂ (λ z zs. z ∷ zs) first.0 rest.0, rest.1)
runs_from old again one other [] (x ∷ xs) _ same legal a b = absurd a
runs_from old again one other [] [] (y ∷ ys) same legal a b = absurd b
runs_from old again one other (c ∷ cs) [] _ same legal a b = absurd a
runs_from old again one other (c ∷ cs) (x ∷ xs) [] same legal a b = absurd b

pub runs_once : RunsOnce
runs_once old one other commands answers others legal a b = runs_from old old one other commands answers others refl legal a b
