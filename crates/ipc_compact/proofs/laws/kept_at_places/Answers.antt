use Rattle.ipc_compact.proofs.PlaceLemmas as places
use Rattle.ipc_compact.proofs.laws.kept_at_places.Goals as goal

pub returns-clause-end : goal.returns-clause-end
returns-clause-end c = places.to_the_end

pub returns-clause-again : goal.returns-clause-again
returns-clause-again c = places.at_places

pub returns-clause-places : goal.returns-clause-places
returns-clause-places c = places.places_kept

pub returns-clause-tell : goal.returns-clause-tell
returns-clause-tell c = places.places_tell
