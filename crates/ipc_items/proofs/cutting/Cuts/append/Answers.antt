use Rattle.std.proofs.Common.{◌+◌, ◌∙◌, sym, ap, length, refl, get_or, arith}
use Rattle.std.specs.List.{slice_range}
use Rattle.ipc_items.specs.Rows.{grown}
use Rattle.ipc_items.proofs.ReadLemmas.{grown_nil, grown_bytes, length_grown}
use Rattle.ipc_items.proofs.cutting.Cuts.append.Goals as goal

pub loop-pointer-init : goal.loop-pointer-init
loop-pointer-init c = record { some = c.requires.some; so_far = sym (grown_nil c.args.self.now.rows c.requires.some); payload = refl }

pub loop-pointer-preserved : goal.loop-pointer-preserved
loop-pointer-preserved c =
    let inv = c.loop-pointer.invariant in
    let xs = c.pointers-pointer-items.result.now in
    let payload = c.args.self.now.payload in
    let count = c.length-count.result in
    let start = get_or xs c.loop-pointer.pointer-index 0 in
    let grew = c.if-not-extend_last.ensures.rows refl ∙ ap (λ bytes. grown c.loop-pointer.self.rows (slice_range bytes start (start + count))) inv.payload in
    record {
      some = omega (arith, ap length grew, length_grown c.loop-pointer.self.rows (slice_range payload start (start + count)), inv.some);
      so_far = grown_bytes (λ p. slice_range payload p (p + count)) c.args.self.now.rows c.loop-pointer.self.rows _ _ xs c.loop-pointer.pointer-index c.requires.some c.loop-pointer-test.true inv.so_far refl grew;
      payload = c.extend_last.ensures.payload ∙ inv.payload;
    }
