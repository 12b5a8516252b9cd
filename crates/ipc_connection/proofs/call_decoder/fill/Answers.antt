use Rattle.std.proofs.Common.{[], ℕ, ◌≡◌, ◌≤◌, ◌+◌, ◌-◌, ◌++◌, length, take, drop, sym, ap, ◌∙◌, arith, length-drop, length-take, length-append, replicate}
use Rattle.std.proofs.lemmas.List.{length-take-le, length-replicate, take_rest, take-take}
use Rattle.std.proofs.lemmas.Bool.{eqb-false, eqb-true}
use Rattle.ipc_frame.specs.declared.kind.Side.TheVariants.{Server}
use Rattle.ipc_frame.specs.Numbers.{IsBytes}
use Rattle.ipc_frame.specs.Reading.{reading}
use Rattle.ipc_frame.proofs.NumberLemmas.{bytes_take, bytes_drop, bytes_append}
use Rattle.ipc_frame.proofs.StreamLemmas.{short_is_exact}
use Rattle.ipc_frame.proofs.EndLemmas.{ends_exactly}
use Rattle.ipc_frame.proofs.ShortLemmas.{short_within}
use Rattle.ipc_connection.proofs.FillLemmas.{not_both, some_gone, keeps_moved, keeps_before, step_joined, fills_bad, fills_whole, fills_short}
use Rattle.ipc_connection.proofs.call_decoder.fill.Goals as goal

pub returns-in-Bad : goal.returns-in-Bad
returns-in-Bad g c =
    let inv = c.loop-fault.invariant in
    record {
      fills = λ gone are. let j = inv.joined gone are in fills_bad _ c.args.piece.now c.loop-fault.held j.0 j.1 c.loop-fault.used j.2 inv.within c.in-Bad.fault (c.in-Bad.ensures.tells j.0 j.1);
      rest = λ used e. absurd (cc);
      ample = inv.ample;
    }

pub returns-in-Whole : goal.returns-in-Whole
returns-in-Whole g c =
    let inv = c.loop-fault.invariant in
    record {
      fills = λ gone are.
          let j = inv.joined gone are in
          let told = c.in-Whole.ensures.tells j.0 j.1 in
          fills_whole _ c.args.piece.now c.loop-fault.held j.0 j.1 c.loop-fault.used j.2 inv.within told.0 told.1.0 told.1.1 (inv.exact j.0 told.0 told.1.0 j.1 told.1.1);
      rest = λ used e. absurd (not_both _ used e);
      ample = inv.ample;
    }

pub returns-then-is_empty : goal.returns-then-is_empty
returns-then-is_empty g c =
    let inv = c.loop-fault.invariant in
    let next = take (length c.args.piece.now - c.loop-fault.used) (drop c.loop-fault.used c.args.piece.now) in
    let none = eqb-true (length next) 0 (sym c.is_empty.ensures ∙ c.if-is_empty.true) in
    let all = ap length (take_rest c.args.piece.now c.loop-fault.used) in
    let done : length c.args.piece.now ≤ c.loop-fault.used = omega (arith, none, all, length-drop c.loop-fault.used c.args.piece.now) in
    record {
      fills = λ gone are. let j = inv.joined gone are in fills_short _ c.args.piece.now c.loop-fault.held j.0 j.1 c.loop-fault.used j.2 inv.within c.in-Short.wanted (c.in-Short.ensures.tells j.0 j.1) done;
      rest = λ used e gone are. (c.in-Short.wanted, c.in-Short.ensures.tells gone are);
      ample = inv.ample;
    }

pub keep-used-requires-clause-some : goal.keep-used-requires-clause-some
keep-used-requires-clause-some g c =
    let next = take (length c.args.piece.now - c.loop-fault.used) (drop c.loop-fault.used c.args.piece.now) in
    let some = eqb-false (length next) 0 (sym c.is_empty.ensures ∙ c.if-is_empty.false) in
    let held = c.loop-fault.held in
    let wants = (short_is_exact Server _ [] c.in-Short.wanted (c.in-Short.ensures.tells _ (some_gone held))).0 in
    let size = length-take c.min-count.result next in
    omega (arith, some, wants, size, c.min-count.ensures)

pub keep-used-requires-clause-few : goal.keep-used-requires-clause-few
keep-used-requires-clause-few g c =
    let held = c.loop-fault.held in
    let next = take (length c.args.piece.now - c.loop-fault.used) (drop c.loop-fault.used c.args.piece.now) in
    let most = short_within Server _ c.in-Short.wanted (c.in-Short.ensures.tells _ (some_gone held)) in
    let total = length-append held.bytes (replicate held.lost 0) in
    let zeros = length-replicate {A = ℕ} held.lost 0 in
    let size = length-take c.min-count.result next in
    omega (arith, most, total, zeros, size, c.min-count.ensures)

pub loop-fault-preserved : goal.loop-fault-preserved
loop-fault-preserved g c =
    let inv = c.loop-fault.invariant in
    let piece = c.args.piece.now in
    let used = c.loop-fault.used in
    let held = c.loop-fault.held in
    let new = c.keep-used.new.self in
    let count = c.keep-used.result in
    let left = drop used piece in
    let next = take (length piece - used) left in
    let more = take count (take c.min-count.result next) in
    let all : next ≡ left = take_rest piece used in
    let size = length-take c.min-count.result next in
    let few : count ≤ c.min-count.result = omega (arith, size, c.keep-used.ensures.within) in
    let shorter : more ≡ take count left = take-take count c.min-count.result next few ∙ ap (take count) all in
    let count_here : length more ≡ count = ap length shorter ∙ length-take-le count left (omega (arith, size, c.keep-used.ensures.within, ap length all)) in
    let piece_bytes : IsBytes piece = λ i. omega (arith, c.type_inv.piece i) in
    let more_bytes : IsBytes more = bytes_take count _ (bytes_take c.min-count.result _ (bytes_take (length piece - used) _ (bytes_drop used piece piece_bytes))) in
    let most = short_within Server _ c.in-Short.wanted (c.in-Short.ensures.tells _ (some_gone held)) in
    record {
      ample = λ ample none. c.keep-used.ensures.ample ample (omega (arith, most)) (inv.ample ample none);
      within = omega (arith, size, c.keep-used.ensures.within, ap length all, length-drop used piece, inv.within);
      joined = λ gone are.
          let j = inv.joined gone are in
          let m = keeps_moved held new j.0 more j.1 more_bytes c.keep-used.ensures.keeps in
          (m.gone, m.are_gone, ap (λ xs. xs ++ drop (used + count) piece) (m.bytes_are ∙ ap (λ xs. (held.bytes ++ j.0) ++ xs) shorter) ∙ step_joined (held.bytes ++ j.0) piece used count _ j.2);
      exact = λ back f n are e.
          let b = keeps_before held new back more are more_bytes c.keep-used.ensures.keeps in
          let told = c.in-Short.ensures.tells b.back b.are_gone in
          let old_bytes = bytes_append held.bytes b.back c.in-Short.ensures.bytes b.are_gone.are_bytes in
          ends_exactly Server (held.bytes ++ b.back) b.more c.in-Short.wanted f n old_bytes b.are_bytes told (omega (arith, b.count_is, count_here, few, c.min-count.ensures)) (ap (reading Server) (sym b.bytes_are) ∙ e) ∙ ap length (sym b.bytes_are);
    }
