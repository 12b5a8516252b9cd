-- The first entries of a trace, which are looked at, and those behind them.
use Rattle.std.specs.Prelude.{◌≡◌, ℕ, ◌^◌, ◌<◌, ◌≤◌, List, length}
use Rattle.ipc_history.specs.declared.entry.Entry.{Entry}

-- the entries that are looked at, those behind them, and how many are looked at at most
pub record FrontParts : Type 0 where
  pub shown : List Entry
  pub behind : List Entry
  pub last : ℕ

-- none is behind before as many are looked at as may be
pub record IsFront (shown behind : List Entry) (count last : ℕ) : Type 0 where
  pub counted : count ≡ length behind
  pub few : count ≤ 2 ^ 62
  pub within : length shown ≤ last
  pub full : 0 < length behind → length shown ≡ last
