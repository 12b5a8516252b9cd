-- What goes over the ports of a sleeper, byte by byte.
use Rattle.std.proofs.Common.{◌≡◌, Bool, true, false, if◌then◌else◌, None, ℕ, List, [], ◌++◌, Option, Some, Result, Ok, Err, OnOk, ap, ◌∙◌, subst, sym}
use Rattle.std.proofs.KnownBytes.{Appends-trans}
use Rattle.std.specs.Io.KnownBytes.{Appends}
use Rattle.ipc_frame.specs.declared.frame.Frame.TheVariants as frame
use Rattle.ipc_frame.specs.declared.version.WireVersion.TheVariants.{One}
use Rattle.ipc_frame.specs.Frames.{spelling}
use Rattle.ipc_base.specs.Ports.{Input}
use Rattle.ipc_client.specs.Asking.{Answers, SaysBye, answer_frame}
use Rattle.ipc_client.specs.ClientParts.{ClientParts}
use Rattle.ipc_client.specs.Receiving.{message_in}
use Rattle.ipc_client.specs.Timeouts.{IsLeastPeriod}
use Rattle.ipc_client.specs.declared.answer.Answer.{Answer}
use Rattle.ipc_client.specs.declared.answer.Answer.TheVariants as answer
use Rattle.ipc_client.specs.declared.answer.Failure.TheVariants.{Failed}
use Rattle.ipc_frame.specs.Parts.{IpcrParts}
use Rattle.ipc_words.specs.MsgTag.{has_failed}
use Rattle.l4x.specs.Sleeping.{Sleeps, SleepsOver, SleepsThrough, failed_code, sleep_frame, sleeper_number, timed_out}

-- between ports that had moved nothing and those that moved this
known : (a b : Option (List ℕ)) (now bytes : List ℕ) → a ≡ Some [] → b ≡ Some now → Appends a b bytes → now ≡ bytes
known a b now bytes none is h =
    subst (λ (c : Option (List ℕ)). Appends (Some []) c bytes) is (subst (λ (c : Option (List ℕ)). Appends c b bytes) none h)

sleeps_over : (old new : ClientParts) (sent came : List ℕ) (micros : ℕ) → old.written ≡ Some [] → old.input.came ≡ Some []
    → new.written ≡ Some sent → new.input.came ≡ Some came → SleepsThrough old new micros → SleepsOver sent came micros
sleeps_over old new sent came micros unsent unheard sent_is came_is h =
    let hello = h.hello.exchanges in
    let slept = h.sleeps.asks.exchanges in
    let asked = sleep_frame h.own h.sleeps.period in
    let out : Appends old.written new.written (spelling (frame.Hello sleeper_number One) ++ (spelling asked ++ spelling frame.Bye)) =
    Appends-trans old.written h.greeted.written new.written (spelling (frame.Hello sleeper_number One)) (spelling asked ++ spelling frame.Bye) hello.sent
    (Appends-trans h.greeted.written h.slept.written new.written (spelling asked) (spelling frame.Bye) slept.sent h.bye.sent) in
    let back : Appends old.input.came h.slept.input.came (spelling (frame.Welcome h.own) ++ spelling (answer_frame h.sleeps.answer)) =
    Appends-trans old.input.came h.greeted.input.came h.slept.input.came (spelling (frame.Welcome h.own)) (spelling (answer_frame h.sleeps.answer))
    hello.read.taken.came slept.read.taken.came in
    let text = spelling (frame.Welcome h.own) ++ spelling (answer_frame h.sleeps.answer) in
    let heard : Appends old.input.came new.input.came text =
    subst (λ (input : Input). Appends old.input.came input.came text) (sym h.bye.unread) back in record {
      own = h.own;
      period = h.sleeps.period;
      least = h.sleeps.least;
      answer = h.sleeps.answer;
      over = h.sleeps.over;
      out = known old.written new.written sent _ unsent sent_is out;
      back = known old.input.came new.input.came came _ unheard came_is heard;
    }

-- what goes over noting ports, where a sleeper ends well
pub sleeps_noted : {A E : Type 0} (end : Result A E) (old new : ClientParts) (sent came : List ℕ) (micros : ℕ) → old.written ≡ Some []
    → old.input.came ≡ Some [] → new.written ≡ Some sent → new.input.came ≡ Some came → OnOk end (SleepsThrough old new micros)
    → OnOk end (SleepsOver sent came micros)
sleeps_noted (Ok a) old new sent came micros unsent unheard sent_is came_is h =
    sleeps_over old new sent came micros unsent unheard sent_is came_is h
sleeps_noted (Err e) old new sent came micros unsent unheard sent_is came_is h = tt

-- the three of them
pub slept_through : (old greeted slept new : ClientParts) (own micros : ℕ)
    → Answers old greeted (frame.Hello sleeper_number One) (frame.Welcome own) → Sleeps greeted slept own micros
    → SaysBye slept new → SleepsThrough old new micros
slept_through old greeted slept new own micros hello sleeps bye =
    record { own = own; greeted = greeted; hello = hello; slept = slept; sleeps = sleeps; bye = bye }

-- a message came
pub slept_to_message : (old new : ClientParts) (own micros period : ℕ) (answer : Answer) (message : IpcrParts) → IsLeastPeriod micros period
    → Answers old new (sleep_frame own period) (answer_frame answer) → Ok message ≡ message_in answer → Sleeps old new own micros
slept_to_message old new own micros period answer message least asks is =
    record { period = period; least = least; answer = answer; asks = asks; over = rw (← is) tt }

-- which code a call that failed has
code_if : (failed : Bool) (ipcr : IpcrParts) (error : ℕ) → Err (Failed error) ≡ (if failed then Err (Failed ipcr.error) else Ok ipcr)
    → (if failed then Some ipcr.error else None) ≡ Some error
code_if true ipcr error is = cc
code_if false ipcr error is = absurd (cc)

code_in : (asked : Answer) (error : ℕ) → Err (Failed error) ≡ message_in asked → failed_code asked ≡ Some error
code_in (answer.Outcome ipcr) error is = code_if (has_failed ipcr.tag) ipcr error is
code_in (answer.Refused number) error is = absurd (cc)

-- or the time was over
pub slept_in_time : {A E : Type 0} (result : Result A E) (old new : ClientParts) (own micros period : ℕ) (answer : Answer) (error code : ℕ)
    → IsLeastPeriod micros period → Answers old new (sleep_frame own period) (answer_frame answer)
    → Err (Failed error) ≡ message_in answer → (failed_code answer ≡ Some error → code ≡ error) → OnOk result (code ≡ timed_out)
    → OnOk result (Sleeps old new own micros)
slept_in_time (Ok a) old new own micros period answer error code least asks is same over =
    record {
      period = period;
      least = least;
      answer = answer;
      asks = asks;
      over = rw (← is) (ap Failed (sym (same (code_in answer error is)) ∙ over));
    }
slept_in_time (Err e) old new own micros period answer error code least asks is same over = tt
