-- How much memory that is ample gives at once.
use Rattle.std.specs.Prelude.{ℕ, ◌^◌}

-- of a growth by more items than so many nothing is said: no memory holds any number of them. So no
-- code can ask for what cannot be had and conclude that memory is not ample
abbrev pub ample_items : ℕ
ample_items = 2 ^ 22
