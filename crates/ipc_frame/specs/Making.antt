-- What is wrong with the parts of a frame: too many words first, then a count that is not that of
-- the words, then the length.
use Rattle.std.specs.Prelude.{◌==◌, ◌||◌, Bool, not, nat_lt, length, Option, Some, None, if◌then◌else◌}
use Rattle.ipc_words.specs.Limits.{max_message_words, max_buffer_words, max_frame_body, max_pieces}
use Rattle.ipc_frame.specs.declared.fault.FrameFault.{FrameFault}
use Rattle.ipc_frame.specs.declared.fault.FrameFault.TheVariants.{TooLong, WrongSize, TooManyWords}
use Rattle.ipc_frame.specs.Parts.{IpcParts, IpcrParts, words_of, ipc_size, ipcr_size}

-- the first fault of three tests
abbrev pub first_fault : Bool → Bool → Bool → Option FrameFault
first_fault many other long =
    (if many then Some TooManyWords
    else if other then Some WrongSize
    else if long then Some TooLong
    else None)

abbrev pub ipc_fault : IpcParts → Option FrameFault
ipc_fault ipc =
    first_fault (nat_lt max_message_words (words_of ipc.tag) || nat_lt max_buffer_words (length ipc.buffer_words))
    (not (length ipc.words == words_of ipc.tag))
    (nat_lt max_frame_body (ipc_size ipc))

-- an IPCR frame counts its pieces in one byte
abbrev pub ipcr_fault : IpcrParts → Option FrameFault
ipcr_fault ipcr =
    first_fault (nat_lt max_message_words (words_of ipcr.tag))
    (not (length ipcr.words == words_of ipcr.tag) || nat_lt max_pieces (length ipcr.pieces))
    (nat_lt max_frame_body (ipcr_size ipcr))
