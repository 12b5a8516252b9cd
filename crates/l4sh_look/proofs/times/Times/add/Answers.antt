use Rattle.std.proofs.Common.{refl, ◌+◌, ◌++◌, ◌∷◌, []}
use Rattle.l4sh_look.proofs.RunLemmas.{held_more}
use Rattle.l4sh_look.proofs.times.Times.add.Goals as goal

pub returns-in_ok-join : goal.returns-in_ok-join
returns-in_ok-join c times held =
    c.in_ok-join.ensures (times ++ c.args.time ∷ [])
    (held_more times c.args.self.now (record { runs = c.push.new.self; count = c.args.self.now.count + 1; enough = c.args.self.now.enough })
    c.args.time held c.in_ok-push.ensures.items refl c.if-self-ge-MAX_TIMES.false)

pub returns-else-len-self : goal.returns-else-len-self
returns-else-len-self c times held =
    held_more times c.args.self.now (record { runs = c.push.new.self; count = c.args.self.now.count + 1; enough = c.args.self.now.enough })
    c.args.time held c.in_ok-push.ensures.items refl c.if-self-ge-MAX_TIMES.false
