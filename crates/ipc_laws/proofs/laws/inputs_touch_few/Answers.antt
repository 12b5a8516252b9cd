use Rattle.ipc_laws.proofs.Closings.{at_only_fails, broke_only_fails, exreg_once}
use Rattle.ipc_laws.proofs.InputLaws.{broke_fails, called_brings, exreg_brings, exreg_stops, moved_ends, opened_stays_quiet}
use Rattle.ipc_laws.proofs.laws.inputs_touch_few.Goals as goal

pub returns-clause-opened : goal.returns-clause-opened
returns-clause-opened c = opened_stays_quiet

pub returns-clause-called : goal.returns-clause-called
returns-clause-called c = called_brings

pub returns-clause-exreg : goal.returns-clause-exreg
returns-clause-exreg c = exreg_brings

pub returns-clause-stopped : goal.returns-clause-stopped
returns-clause-stopped c = exreg_stops

pub returns-clause-stops_once : goal.returns-clause-stops_once
returns-clause-stops_once c = exreg_once

pub returns-clause-broke : goal.returns-clause-broke
returns-clause-broke c = broke_fails

pub returns-clause-lost : goal.returns-clause-lost
returns-clause-lost c = broke_only_fails

pub returns-clause-due : goal.returns-clause-due
returns-clause-due c = at_only_fails

pub returns-clause-moved : goal.returns-clause-moved
returns-clause-moved c = moved_ends
