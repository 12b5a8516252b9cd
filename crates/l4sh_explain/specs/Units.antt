-- Units of time, in microseconds.
use Rattle.std.specs.Prelude.{ℕ, ◌*◌}
use Rattle.l4sh_explain.specs.declared.times.TimeUnit.{TimeUnit}
use Rattle.l4sh_explain.specs.declared.times.TimeUnit.TheVariants.{Micro, Milli, Second, Minute}

abbrev pub micros_of : TimeUnit → ℕ
micros_of Micro = 1
micros_of Milli = 1000
micros_of Second = 1000 * 1000
micros_of Minute = 60 * 1000 * 1000
