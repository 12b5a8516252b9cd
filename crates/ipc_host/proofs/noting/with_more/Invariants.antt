-- What the system moved: these bytes, behind those before.
use Rattle.std.specs.Prelude.{◌++◌, take}
use Rattle.ipc_host.proofs.noting.with_more.Given as goal

abbrev pub ghost-told : goal.ghost-told
ghost-told a = a.moved.now ++ take a.count a.buf.now
