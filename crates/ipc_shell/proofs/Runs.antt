-- Runs of commands, one behind the other.
use Rattle.std.proofs.Common.{◌≡◌, refl, sym, subst, List, [], ◌∷◌, ◌++◌, arith}
use Rattle.std.specs.List.{All}
use Rattle.std.proofs.lemmas.List.Elements.{All-nil, All-cons, All-append}
use Rattle.ipc_core.specs.KernelParts.{KernelParts}
use Rattle.ipc_core.specs.Obeying.{Obeys, Runs}
use Rattle.ipc_core.specs.declared.command.Answer.{Answer}
use Rattle.ipc_core.specs.declared.command.Command.{Command}
use Rattle.ipc_shell.specs.Replays.{IsDone}

runs_append : (one two : List Command) (answers more : List Answer) (first between last : KernelParts) → Runs first one answers between
    → Runs between two more last → Runs first (one ++ two) (answers ++ more) last
unfolding Runs
runs_append [] two [] more first between last a b = subst (λ k. Runs k two more last) a b
runs_append (c ∷ one) two (x ∷ answers) more first between last a b = (a.0, a.1, runs_append one two answers more a.0 between last a.2 b)
runs_append [] two (x ∷ answers) more first between last a b = absurd a
runs_append (c ∷ one) two [] more first between last a b = absurd a

-- commands that are all done, and lead to a kernel of which something holds
pub record Leads (first : KernelParts) (commands : List Command) (Q : KernelParts → Type 0) : Type 0 where
  pub answers : List Answer
  pub last : KernelParts
  pub runs : Runs first commands answers last
  pub done : All IsDone answers
  pub holds : Q last

-- no command, one command, and some before others
pub leads_none : (k : KernelParts) (Q : KernelParts → Type 0) → Q k → Leads k [] Q
unfolding Runs
leads_none k Q holds = record { answers = []; last = k; runs = refl; done = All-nil IsDone; holds = holds }

pub leads_before : (k between : KernelParts) (command : Command) (answer : Answer) (commands : List Command) (Q : KernelParts → Type 0)
    → Obeys k command answer between → IsDone answer → Leads between commands Q → Leads k (command ∷ commands) Q
unfolding Runs
leads_before k between command answer commands Q obeys done rest = record {
  answers = answer ∷ rest.answers;
  last = rest.last;
  runs = (between, obeys, rest.runs);
  done = All-cons IsDone answer rest.answers done rest.done;
  holds = rest.holds;
}

pub leads_one : (k new : KernelParts) (command : Command) (answer : Answer) (Q : KernelParts → Type 0) → Obeys k command answer new
    → IsDone answer → Q new → Leads k (command ∷ []) Q
leads_one k new command answer Q obeys done holds = leads_before k new command answer [] Q obeys done (leads_none new Q holds)

pub leads_append : (k : KernelParts) (one two : List Command) (P Q : KernelParts → Type 0) → Leads k one P
    → ((between : KernelParts) → P between → Leads between two Q) → Leads k (one ++ two) Q
leads_append k one two P Q a go =
    let b = go a.last a.holds in
    record {
      answers = a.answers ++ b.answers;
      last = b.last;
      runs = runs_append one two a.answers b.answers k a.last b.last a.runs b.runs;
      done = All-append IsDone a.answers b.answers a.done b.done;
      holds = b.holds;
    }
