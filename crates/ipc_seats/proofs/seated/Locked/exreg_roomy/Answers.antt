use Rattle.ipc_seats.proofs.seated.Locked.exreg_roomy.Goals as goal

pub returns-clause-obeys : goal.returns-clause-obeys
returns-clause-obeys g c = record {
  roomy = c.compact_marked.new.self.kernel;
  done = c.compact_marked.result;
  compacts = c.compact_marked.ensures;
  obeys = c.exreg_seated.ensures.obeys;
}
