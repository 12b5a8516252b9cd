use Rattle.std.proofs.Common.{◌∙◌, ap, refl}
use Rattle.ipc_items.specs.Rows.{grown}
use Rattle.ipc_items.specs.StringItem.{bytes_of}
use Rattle.ipc_items.proofs.ReadLemmas.{turned_rows, some_begun, some_grew}
use Rattle.ipc_items.proofs.cutting.Cuts.cut.Goals as goal

pub loop-item-preserved : goal.loop-item-preserved
loop-item-preserved g c =
    let inv = c.loop-item.invariant in
    let payload = c.args.self.now.payload in
    let item = c.in-Some.item in
    let same = c.begin.ensures.payload ∙ inv.payload in
    let begun = c.in_ok-begin.ensures.rows in
    let some = some_begun c.loop-item.goes_on c.loop-item.self.rows c.begin.new.self.rows begun inv.some in
    let grew = c.if-not-append.ensures.rows refl ∙ ap (λ bytes. grown c.begin.new.self.rows (bytes_of bytes item)) same in
    record {
      some = λ _. some_grew (bytes_of payload item) c.begin.new.self.rows _ grew some;
      so_far = turned_rows (bytes_of payload) c.loop-item.goes_on c.goes_on-goes_on.result c.loop-item.self.rows c.begin.new.self.rows _ _ item _ _ c.in-Some.ensures.first begun grew c.goes_on-goes_on.ensures inv.some inv.so_far;
      payload = c.append.ensures.payload ∙ same;
    }
