use Rattle.std.proofs.Common.{◌∙◌, ◌∷◌, [], ap, refl}
use Rattle.std.specs.Vec.{vec_items}
use Rattle.ipc_lock.proofs.Handed.{hands_all}
use Rattle.ipc_lock.proofs.Together.{tells_on}
use Rattle.ipc_lock.proofs.Turning.{one_only}
use Rattle.ipc_lock.proofs.logged.Logged.act_and_tell.Goals as goal

pub invariant_of-self : goal.invariant_of-self
invariant_of-self g c =
    tells_on _ _ _ _ _ _ _ c.self.invariant c.add-3.ensures
    (hands_all _ _ _ _ _ c.requires.none c.gifts.ensures c.act_and_tell-answered.ensures.hands) refl (record {
      command = c.args.command;
      answer = c.act_and_tell-answered.result.0.answer;
      is_it = one_only _ _ _ c.new-commands.ensures c.add.ensures;
      is_answered = one_only _ _ _ c.new-answers.ensures c.add-2.ensures ∙ ap (λ a. a ∷ []) c.answer.ensures;
      seat = c.args.seat;
      errands = c.act_and_tell-answered.new.errands;
      gifts_are = c.gifts.ensures;
      acts = rw (← c.requires.none) c.act_and_tell-answered.ensures.acts;
      owners = ap vec_items c.act_and_tell-answered.ensures.owners;
      numbers = refl;
    })
