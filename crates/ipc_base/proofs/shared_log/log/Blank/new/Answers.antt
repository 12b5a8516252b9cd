use Rattle.std.proofs.Common.{◌∷◌, []}
use Rattle.ipc_base.proofs.LogKeeping.{opens}
use Rattle.ipc_base.proofs.shared_log.log.Blank.new.Goals as goal

pub of_words-requires : goal.of_words-requires
of_words-requires g c = opens g.E.Entry.is_of g.E.Entry.begins g.E.Entry.ends (0 ∷ [])
