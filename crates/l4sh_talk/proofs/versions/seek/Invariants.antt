-- So many versions were asked, and none is there.
use Rattle.std.proofs.Common.{◌<◌, ◌-◌}
use Rattle.l4sh_talk.specs.Versions.{HasMissed}
use Rattle.l4sh_talk.proofs.versions.seek.Given as goal

abbrev pub invariant-versions : goal.invariant-versions
invariant-versions g l = record {
  few : l.missed < 63;
  missed : HasMissed l.fn.client l.client l.request l.missed;
}

abbrev pub decreases-versions : goal.decreases-versions
decreases-versions g l = 63 - l.missed
