use Rattle.std.proofs.Common.{◌≡◌, ◌∙◌, [], ap, arith, length, refl, subst, sym, true}
use Rattle.ipc_compact.specs.Compact.{Base}
use Rattle.ipc_chain.specs.Chains.{IsCount, callers_kept}
use Rattle.ipc_chain.proofs.Walking.{begun_at, count_moved, rebuilt}
use Rattle.ipc_chain.proofs.chain.Chain.put_begun.Goals as goal

pub returns-in-Ok-clause-done : goal.returns-in-Ok-clause-done
returns-in-Ok-clause-done g c = λ done.
    let old = c.args.self.now in
    let made = c.new-numbers.result in
    let kept = c.held-kept.result.now in
    let compacted = c.in_ok-base.ensures in
    let same = rebuilt c.in_ok-base.base made _ _ _ _ _ _ c.new-numbers.ensures c.versions.ensures c.dropped.ensures c.moment.ensures c.calls-2.ensures c.over.ensures in
    let counts : c.counts.result ≡ true = grind (arith, c.if-not-counts.false) in
    let number : c.len-2.result ≡ length (callers_kept made kept) = omega (arith, ap length (c.in_ok-callers.ensures ∙ ap (λ (b : Base). callers_kept b kept) same)) in
    record {
      part = record { base = made; kept = kept; entries = [] };
      put = c.in-Ok.ensures.ok;
      empty = refl;
      taken = old.taken;
      begins = begun_at old c.in_ok-base.base made kept c.requires.quiet c.books.ensures (c.held-kept.ensures ∙ compacted.kept) compacted.base same
          (count_moved old.past c.compacted.new.self.past old.told c.compacted.new.self.told (length (callers_kept made kept)) c.len-2.result made.takes compacted.past compacted.told number (subst (λ k. IsCount c.compacted.new.self.past c.compacted.new.self.told c.len-2.result k) (sym (ap (λ (b : Base). b.takes) c.new-numbers.ensures)) (c.counts.ensures.0 counts)));
    }
