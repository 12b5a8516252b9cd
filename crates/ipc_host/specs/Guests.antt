-- The connections that are there.
use Rattle.std.specs.Prelude.{ℕ, ◌==◌, if◌then◌else◌, Some}
use Rattle.ipc_host.specs.declared.guest.Guest.{Guest}
use Rattle.ipc_host.specs.declared.thread_socket.ThreadSocket.{ThreadSocket}

-- a connection once that of a ticket is a thread, which has this socket
abbrev pub greeted : ℕ → ThreadSocket → Guest → Guest
greeted ticket socket guest = if guest.ticket == ticket then record guest { socket = Some socket } else guest
