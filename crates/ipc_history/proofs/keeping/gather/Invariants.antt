use Rattle.std.proofs.Common.{◌≡◌, vec_len, vec_capacity}
use Rattle.ipc_history.specs.Gathering.{ArePlacesGathered, IsGathered}
use Rattle.ipc_history.proofs.keeping.gather.Given as goal

abbrev pub invariant-loop-place : goal.invariant-loop-place
invariant-loop-place g l = record {
  gathered : IsGathered (g.K.Keeps.test l.keeps) l.fn.entries.items l.entries.items l.behind l.place l.first l.is_wanted;
  placed : ArePlacesGathered (g.K.Keeps.test l.keeps) l.fn.entries.items l.fn.places.items l.places.items l.behind l.place l.first;
  len : vec_len l.entries ≡ vec_len l.fn.entries;
  capacity : vec_capacity l.entries ≡ vec_capacity l.fn.entries;
  places_len : vec_len l.places ≡ vec_len l.fn.places;
  places_capacity : vec_capacity l.places ≡ vec_capacity l.fn.places;
}

abbrev pub decreases-loop-place : goal.decreases-loop-place
decreases-loop-place g l = l.place
