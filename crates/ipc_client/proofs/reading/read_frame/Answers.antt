use Rattle.std.proofs.Common.{◌≡◌, ◌≢◌, ◌<◌, ap, refl, sym, subst, ◌∙◌, ◌++◌, length, arith}
use Rattle.ipc_base.proofs.Giving.{gives_none, gives_then}
use Rattle.ipc_base.specs.Ports.{Gives, Input, input_of}
use Rattle.ipc_frame.specs.Reading.{Short, Bad, reading}
use Rattle.ipc_frame.specs.declared.judging.Judgement.TheVariants as judged
use Rattle.ipc_frame.specs.declared.fault.FrameFault.TheVariants as fault
use Rattle.ipc_frame.proofs.DecodeLemmas.{told_alone}
use Rattle.ipc_frame.proofs.ShortLemmas.{short_within}
use Rattle.ipc_frame.proofs.StreamLemmas.{short_is_exact}
use Rattle.ipc_client.specs.Devices.{IsDeviceFault}
use Rattle.ipc_client.specs.Reading.{TakesFrame, TakesNoFrame}
use Rattle.ipc_client.proofs.ReadLemmas.{IsTight, tight_start, tight_more, whole_taken, bad_taken}
use Rattle.ipc_client.proofs.ReadLemmas.{bad_is_no_device, part_missing, memory_missing}
use Rattle.ipc_client.proofs.ReadLemmas.{bad_is_memory, memory_is_no_device, ok_has_no_err, ok_is_no_err, if_ok, if_err, on_ok}
use Rattle.ipc_client.proofs.reading.read_frame.Goals as goal

pub parts-init : goal.parts-init
parts-init g c =
    let none = c.in-Ok.ensures.items in
    let input = input_of (g.P.PortRead.came c.args.port.now) (g.P.PortRead.remaining c.args.port.now) in
    record {
      taken = subst (Gives input input) (sym none) (gives_none input);
      tight = tight_start c.args.side c.in-Ok.held.items (ap length none);
      kept = refl;
    }

pub read_part-requires : goal.read_part-requires
read_part-requires g c =
    let short = told_alone (judged.Short c.in-Short.wanted) c.args.side c.deref.result.now c.in-Short.ensures in
    record { some = (short_is_exact c.args.side c.deref.result.now c.deref.result.now c.in-Short.wanted short).0 }

pub returns-then-is_err-clause-ample : goal.returns-then-is_err-clause-ample
returns-then-is_err-clause-ample g c ample =
    let short = told_alone (judged.Short c.in-Short.wanted) c.args.side c.deref.result.now c.in-Short.ensures in
    let within = short_within c.args.side c.deref.result.now c.in-Short.wanted short in
    let given = c.reserve.ensures.ample ample (omega (arith, within)) in
    absurd (ok_is_no_err c.reserve.result given (sym c.is_err.ensures.value ∙ c.if-is_err.true))

pub parts-preserved : goal.parts-preserved
parts-preserved g c =
    let short = told_alone (judged.Short c.in-Short.wanted) c.args.side c.deref.result.now c.in-Short.ensures in
    let short_here : reading c.args.side c.parts.held.items ≡ Short c.in-Short.wanted = ap
    (reading c.args.side) (sym c.deref.ensures.value) ∙ short in
    let takes = c.in-Ok-read_part.ensures.ok in
    let roomy = c.reserve.ensures.items in
    let held = takes.held ∙ ap (λ xs. xs ++ takes.part) roomy in
    let all = gives_then _ _ _ c.parts.held.items takes.part c.parts.invariant.taken takes.taken in
    record {
      taken = subst (Gives (input_of (g.P.PortRead.came c.args.port.now) (g.P.PortRead.remaining c.args.port.now))
          (input_of (g.P.PortRead.came c.read_part.new.port) (g.P.PortRead.remaining c.read_part.new.port))) (sym held) all;
      tight = tight_more c.args.side c.parts.held.items c.read_part.new.held.items takes.part
          c.in-Short.wanted held takes.few short_here;
      kept = c.in-Ok-read_part.ensures.kept ∙ c.parts.invariant.kept;
    }

pub returns-in-Err-clause-err : goal.returns-in-Err-clause-err
returns-in-Err-clause-err g c =
    let short = told_alone (judged.Short c.in-Short.wanted) c.args.side c.deref.result.now c.in-Short.ensures in
    let short_here : reading c.args.side c.parts.held.items ≡ Short c.in-Short.wanted = ap
    (reading c.args.side) (sym c.deref.ensures.value) ∙ short in
    part_missing c.args.side _ _ _ c.parts.held.items c.in-Short.wanted c.in-Err.fault
    c.parts.invariant.taken short_here c.in-Err.ensures.err

pub returns-in-Bad : goal.returns-in-Bad
returns-in-Bad g c =
    let bad = told_alone (judged.Bad c.in-Bad.fault) c.args.side c.deref.result.now c.in-Bad.ensures in
    let here : reading c.args.side c.parts.held.items ≡ Bad c.in-Bad.fault = ap
    (reading c.args.side) (sym c.deref.ensures.value) ∙ bad in
    record {
      ok = tt;
      err = bad_taken c.args.side _ _ c.parts.held.items c.in-Bad.fault c.parts.invariant.taken here;
      failed = λ device. absurd (bad_is_no_device c.args.side c.parts.held.items c.in-Bad.fault here device);
      kept = tt;
      ample = λ _. bad_is_memory c.args.side c.parts.held.items c.in-Bad.fault here;
    }

pub returns-in-Whole : goal.returns-in-Whole
returns-in-Whole g c =
    let side = c.args.side in
    let old = input_of (g.P.PortRead.came c.args.port.now) (g.P.PortRead.remaining c.args.port.now) in
    let new = input_of (g.P.PortRead.came c.parts.port) (g.P.PortRead.remaining c.parts.port) in
    let bytes = c.deref-in-Whole.result.now in
    let same = sym c.deref-in-Whole.ensures.value in
    let taken : Gives old new bytes = subst (Gives old new) same c.parts.invariant.taken in
    let tight : IsTight side bytes = subst (IsTight side) same c.parts.invariant.tight in
    let result = c.whole_frame.result in
    record {
      ok = if_ok _ (λ f. TakesFrame side old new f) result (λ f h. whole_taken side old new bytes f
          h.0 c.whole_frame.ensures.bytes taken tight h.1) c.whole_frame.ensures.ok;
      err = if_err (λ e. e ≡ fault.NoMemory) (λ e. TakesNoFrame side old new e) result
          (λ e h. memory_missing side old new bytes e taken h) c.whole_frame.ensures.memory;
      failed = if_err (λ e. e ≡ fault.NoMemory) (λ e. IsDeviceFault e
          → g.P.PortRead.failures c.args.port.now < g.P.PortRead.failures c.parts.port) result
          (λ e h device. absurd (memory_is_no_device e h device)) c.whole_frame.ensures.memory;
      kept = on_ok result c.parts.invariant.kept;
      ample = λ ample. ok_has_no_err result (λ e. e ≢ fault.NoMemory) (c.whole_frame.ensures.ample ample);
    }
