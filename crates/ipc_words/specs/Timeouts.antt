-- L4 X.2 manual, Ipc: the word of the two timeouts, the receive timeout in bits 0 to 15 and the
-- send timeout in bits 16 to 31.
use Rattle.std.specs.Prelude.{ℕ, ◌+◌, ◌*◌, ◌/◌, ◌%◌, ◌^◌, Option}
use Rattle.ipc_words.specs.Time.{period_in}

-- the word of a receive time and a send time
abbrev pub timeouts_of : ℕ → ℕ → ℕ
timeouts_of receive send = send * 2 ^ 16 + receive

-- the time of each phase
abbrev pub receive_time : ℕ → ℕ
receive_time timeouts = timeouts % 2 ^ 16

abbrev pub send_time : ℕ → ℕ
send_time timeouts = timeouts / 2 ^ 16

-- the period of each phase; none where its time is a time point
abbrev pub receive_period : ℕ → Option ℕ
receive_period timeouts = period_in (receive_time timeouts)

abbrev pub send_period : ℕ → Option ℕ
send_period timeouts = period_in (send_time timeouts)
