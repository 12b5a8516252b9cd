-- Worked histories, computed: inputs in, the whole history out.
use Rattle.std.proofs.Common.{◌≡◌, refl, ℕ, ◌+◌, ◌*◌, ◌^◌, List, [], ◌∷◌, Some, None}
use Rattle.ipc_words.specs.ThreadId.{anythread, anylocalthread}
use Rattle.ipc_items.specs.declared.buffer_list.Substring.{Substring}
use Rattle.ipc_history.specs.CallParts.{CallParts, is_normal}
use Rattle.ipc_history.specs.Calls.{numbers, calls_made, call_at, caller_of, to_of, from_of, send_period_of, receive_period_of, tag_of, originator_of, words_of, strings_of, buffers_of, message_size}
use Rattle.ipc_history.specs.Threads.{now, has_broken, was_opened, is_live, space_of, is_taken, next_version}
use Rattle.ipc_history.specs.Phases.{is_sent, receiver_of, sender_of, is_over, open_call, is_sending, is_transferring, moved_bytes, is_receiving}
use Rattle.ipc_history.specs.Matching.{before_call, is_propagated, shown_sender, from_specifier, accepts, matches, match_of}
use Rattle.ipc_history.specs.Timing.{before_sent, receive_start, is_past, is_due_at, is_due}
use Rattle.ipc_history.specs.NextOutput.{abort_send, abort_receive, stop_send, stop_receive, stop, stop_after, turn_after, end_of, is_send_partner_gone, is_receive_partner_gone, is_left, left_sender_code, left_receiver_code, partner_gone_code, partner_gone_of, meeting, meeting_of, timeout_of, next_output}
use Rattle.ipc_history.specs.Legal.{is_free, next_moving, may_open, may_move, is_admissible}
use Rattle.ipc_history.specs.Outcomes.{end_moment, failure, nothing, outcome_of}
use Rattle.ipc_history.specs.declared.entry.Entry.TheVariants.{Given, Written}
use Rattle.ipc_history.specs.declared.entry.Input.TheVariants.{At, Opened, Called, Exreg, Broke, Moved}
use Rattle.ipc_history.specs.declared.entry.Output.TheVariants.{Began, Turned, Ended, Overflowed, Aborted, Failed}
use Rattle.ipc_history.proofs.Settling.{settled, run}

-- the first thread of a number
abbrev t : ℕ → ℕ
t number = number * 2 ^ 32 + 1

-- the period of 0 microseconds
abbrev at_once : ℕ
at_once = 0x400

-- a send of the word 7
abbrev send : ℕ → ℕ → CallParts
send to period = record { to = to; from = 0; send_period = period; receive_period = 0; tag = 1; originator = 0; words = 7 ∷ []; strings = []; buffers = None }

-- a send of the word 6 for an originator
abbrev send_for : ℕ → ℕ → CallParts
send_for originator to = record { to = to; from = 0; send_period = 0; receive_period = 0; tag = 0x1001; originator = originator; words = 6 ∷ []; strings = []; buffers = None }

-- a send of the strings abc and hello, of 8 bytes
abbrev send_strings : ℕ → CallParts
send_strings to = record { to = to; from = 0; send_period = 0; receive_period = 0; tag = 0x100; originator = 0; words = []; strings = (0x61 ∷ 0x62 ∷ 0x63 ∷ []) ∷ (0x68 ∷ 0x65 ∷ 0x6c ∷ 0x6c ∷ 0x6f ∷ []) ∷ []; buffers = None }

-- a send of one empty string
abbrev send_empty : ℕ → CallParts
send_empty to = record { to = to; from = 0; send_period = 0; receive_period = 0; tag = 0x80; originator = 0; words = []; strings = [] ∷ []; buffers = None }

abbrev receive : ℕ → ℕ → CallParts
receive from period = record { to = 0; from = from; send_period = 0; receive_period = period; tag = 0; originator = 0; words = []; strings = []; buffers = None }

abbrev receive_strings : ℕ → List (List Substring) → CallParts
receive_strings from buffers = record { to = 0; from = from; send_period = 0; receive_period = 0; tag = 0; originator = 0; words = []; strings = []; buffers = Some buffers }

-- a send of the word 7, then a receive
abbrev both : ℕ → ℕ → ℕ → ℕ → CallParts
both to from send_period receive_period = record { to = to; from = from; send_period = send_period; receive_period = receive_period; tag = 1; originator = 0; words = 7 ∷ []; strings = []; buffers = None }

abbrev buffer : ℕ → ℕ → Substring
buffer length pointer = record { length = length; pointer = pointer }

-- buffers of 3 and 5 bytes, the second in two parts
abbrev fitting : List (List Substring)
fitting = (buffer 3 0x1000 ∷ []) ∷ (buffer 2 0x2000 ∷ buffer 3 0x3000 ∷ []) ∷ []

-- buffers of 3 and 4 bytes
abbrev short : List (List Substring)
short = (buffer 3 0x1000 ∷ []) ∷ (buffer 4 0x2000 ∷ []) ∷ []

-- the receiver waits first
a_receive_meets_a_later_send : run [] (Opened (t 1) 1 ∷ Opened (t 2) 1 ∷ Called 1 (t 1) (receive anythread 0) ∷ Called 2 (t 2) (send (t 1) 0) ∷ []) ≡ Some (Given (Opened (t 1) 1) ∷ Given (Opened (t 2) 1) ∷ Given (Called 1 (t 1) (receive anythread 0)) ∷ Given (Called 2 (t 2) (send (t 1) 0)) ∷ Written (Began 2 1) ∷ Written (Ended 2 1) ∷ [])
unfolding is_normal numbers calls_made call_at caller_of to_of from_of send_period_of receive_period_of tag_of originator_of words_of strings_of buffers_of message_size now has_broken was_opened is_live space_of is_taken next_version is_sent receiver_of sender_of is_over open_call is_sending is_transferring moved_bytes is_receiving before_call is_propagated shown_sender from_specifier accepts matches match_of before_sent receive_start is_past is_due_at is_due abort_send abort_receive stop_send stop_receive stop stop_after turn_after end_of is_send_partner_gone is_receive_partner_gone is_left left_sender_code left_receiver_code partner_gone_code partner_gone_of meeting meeting_of timeout_of next_output is_free next_moving may_open may_move is_admissible settled run
a_receive_meets_a_later_send = refl

-- the sender waits first
a_send_meets_a_later_receive : run [] (Opened (t 1) 1 ∷ Opened (t 2) 1 ∷ Called 1 (t 2) (send (t 1) 0) ∷ Called 2 (t 1) (receive anythread 0) ∷ []) ≡ Some (Given (Opened (t 1) 1) ∷ Given (Opened (t 2) 1) ∷ Given (Called 1 (t 2) (send (t 1) 0)) ∷ Given (Called 2 (t 1) (receive anythread 0)) ∷ Written (Began 1 2) ∷ Written (Ended 1 2) ∷ [])
unfolding is_normal numbers calls_made call_at caller_of to_of from_of send_period_of receive_period_of tag_of originator_of words_of strings_of buffers_of message_size now has_broken was_opened is_live space_of is_taken next_version is_sent receiver_of sender_of is_over open_call is_sending is_transferring moved_bytes is_receiving before_call is_propagated shown_sender from_specifier accepts matches match_of before_sent receive_start is_past is_due_at is_due abort_send abort_receive stop_send stop_receive stop stop_after turn_after end_of is_send_partner_gone is_receive_partner_gone is_left left_sender_code left_receiver_code partner_gone_code partner_gone_of meeting meeting_of timeout_of next_output is_free next_moving may_open may_move is_admissible settled run
a_send_meets_a_later_receive = refl

-- a period of 0 is past where the phase begins
a_send_at_once_fails_where_nobody_waits : run [] (Opened (t 1) 1 ∷ Opened (t 2) 1 ∷ Called 1 (t 2) (send (t 1) at_once) ∷ []) ≡ Some (Given (Opened (t 1) 1) ∷ Given (Opened (t 2) 1) ∷ Given (Called 1 (t 2) (send (t 1) at_once)) ∷ Written (Failed 1 2) ∷ [])
unfolding is_normal numbers calls_made call_at caller_of to_of from_of send_period_of receive_period_of tag_of originator_of words_of strings_of buffers_of message_size now has_broken was_opened is_live space_of is_taken next_version is_sent receiver_of sender_of is_over open_call is_sending is_transferring moved_bytes is_receiving before_call is_propagated shown_sender from_specifier accepts matches match_of before_sent receive_start is_past is_due_at is_due abort_send abort_receive stop_send stop_receive stop stop_after turn_after end_of is_send_partner_gone is_receive_partner_gone is_left left_sender_code left_receiver_code partner_gone_code partner_gone_of meeting meeting_of timeout_of next_output is_free next_moving may_open may_move is_admissible settled run
a_send_at_once_fails_where_nobody_waits = refl

-- a match comes before a timeout
a_send_at_once_meets_who_waits : run [] (Opened (t 1) 1 ∷ Opened (t 2) 1 ∷ Called 1 (t 1) (receive anythread 0) ∷ Called 2 (t 2) (send (t 1) at_once) ∷ []) ≡ Some (Given (Opened (t 1) 1) ∷ Given (Opened (t 2) 1) ∷ Given (Called 1 (t 1) (receive anythread 0)) ∷ Given (Called 2 (t 2) (send (t 1) at_once)) ∷ Written (Began 2 1) ∷ Written (Ended 2 1) ∷ [])
unfolding is_normal numbers calls_made call_at caller_of to_of from_of send_period_of receive_period_of tag_of originator_of words_of strings_of buffers_of message_size now has_broken was_opened is_live space_of is_taken next_version is_sent receiver_of sender_of is_over open_call is_sending is_transferring moved_bytes is_receiving before_call is_propagated shown_sender from_specifier accepts matches match_of before_sent receive_start is_past is_due_at is_due abort_send abort_receive stop_send stop_receive stop stop_after turn_after end_of is_send_partner_gone is_receive_partner_gone is_left left_sender_code left_receiver_code partner_gone_code partner_gone_of meeting meeting_of timeout_of next_output is_free next_moving may_open may_move is_admissible settled run
a_send_at_once_meets_who_waits = refl

-- a closed receive picks its sender, an open one takes the least call
an_open_receive_takes_the_least_sender : run [] (Opened (t 1) 1 ∷ Opened (t 2) 1 ∷ Opened (t 3) 1 ∷ Opened (t 4) 1 ∷ Called 1 (t 2) (send (t 1) 0) ∷ Called 2 (t 3) (send (t 1) 0) ∷ Called 3 (t 4) (send (t 1) 0) ∷ Called 4 (t 1) (receive (t 4) 0) ∷ Called 5 (t 1) (receive anythread 0) ∷ []) ≡ Some (Given (Opened (t 1) 1) ∷ Given (Opened (t 2) 1) ∷ Given (Opened (t 3) 1) ∷ Given (Opened (t 4) 1) ∷ Given (Called 1 (t 2) (send (t 1) 0)) ∷ Given (Called 2 (t 3) (send (t 1) 0)) ∷ Given (Called 3 (t 4) (send (t 1) 0)) ∷ Given (Called 4 (t 1) (receive (t 4) 0)) ∷ Written (Began 3 4) ∷ Written (Ended 3 4) ∷ Given (Called 5 (t 1) (receive anythread 0)) ∷ Written (Began 1 5) ∷ Written (Ended 1 5) ∷ [])
unfolding is_normal numbers calls_made call_at caller_of to_of from_of send_period_of receive_period_of tag_of originator_of words_of strings_of buffers_of message_size now has_broken was_opened is_live space_of is_taken next_version is_sent receiver_of sender_of is_over open_call is_sending is_transferring moved_bytes is_receiving before_call is_propagated shown_sender from_specifier accepts matches match_of before_sent receive_start is_past is_due_at is_due abort_send abort_receive stop_send stop_receive stop stop_after turn_after end_of is_send_partner_gone is_receive_partner_gone is_left left_sender_code left_receiver_code partner_gone_code partner_gone_of meeting meeting_of timeout_of next_output is_free next_moving may_open may_move is_admissible settled run
an_open_receive_takes_the_least_sender = refl

-- not a microsecond earlier
a_receive_times_out_at_its_moment : run [] (Opened (t 1) 1 ∷ Opened (t 2) 1 ∷ At 100 ∷ Called 1 (t 1) (receive anythread 5) ∷ At 104 ∷ At 105 ∷ Called 2 (t 2) (send (t 1) at_once) ∷ []) ≡ Some (Given (Opened (t 1) 1) ∷ Given (Opened (t 2) 1) ∷ Given (At 100) ∷ Given (Called 1 (t 1) (receive anythread 5)) ∷ Given (At 104) ∷ Given (At 105) ∷ Written (Failed 1 3) ∷ Given (Called 2 (t 2) (send (t 1) at_once)) ∷ Written (Failed 2 2) ∷ [])
unfolding is_normal numbers calls_made call_at caller_of to_of from_of send_period_of receive_period_of tag_of originator_of words_of strings_of buffers_of message_size now has_broken was_opened is_live space_of is_taken next_version is_sent receiver_of sender_of is_over open_call is_sending is_transferring moved_bytes is_receiving before_call is_propagated shown_sender from_specifier accepts matches match_of before_sent receive_start is_past is_due_at is_due abort_send abort_receive stop_send stop_receive stop stop_after turn_after end_of is_send_partner_gone is_receive_partner_gone is_left left_sender_code left_receiver_code partner_gone_code partner_gone_of meeting meeting_of timeout_of next_output is_free next_moving may_open may_move is_admissible settled run
a_receive_times_out_at_its_moment = refl

-- the offset is the length of the strings before it
a_string_that_does_not_fit_fails_both : run [] (Opened (t 1) 1 ∷ Opened (t 2) 1 ∷ Called 1 (t 1) (receive_strings anythread short) ∷ Called 2 (t 2) (send_strings (t 1)) ∷ []) ≡ Some (Given (Opened (t 1) 1) ∷ Given (Opened (t 2) 1) ∷ Given (Called 1 (t 1) (receive_strings anythread short)) ∷ Given (Called 2 (t 2) (send_strings (t 1))) ∷ Written (Overflowed 2 1 3) ∷ [])
unfolding is_normal numbers calls_made call_at caller_of to_of from_of send_period_of receive_period_of tag_of originator_of words_of strings_of buffers_of message_size now has_broken was_opened is_live space_of is_taken next_version is_sent receiver_of sender_of is_over open_call is_sending is_transferring moved_bytes is_receiving before_call is_propagated shown_sender from_specifier accepts matches match_of before_sent receive_start is_past is_due_at is_due abort_send abort_receive stop_send stop_receive stop stop_after turn_after end_of is_send_partner_gone is_receive_partner_gone is_left left_sender_code left_receiver_code partner_gone_code partner_gone_of meeting meeting_of timeout_of next_output is_free next_moving may_open may_move is_admissible settled run
a_string_that_does_not_fit_fails_both = refl

-- without acceptance the first string doesn't fit
no_buffers_take_no_string : run [] (Opened (t 1) 1 ∷ Opened (t 2) 1 ∷ Called 1 (t 1) (receive anythread 0) ∷ Called 2 (t 2) (send_strings (t 1)) ∷ []) ≡ Some (Given (Opened (t 1) 1) ∷ Given (Opened (t 2) 1) ∷ Given (Called 1 (t 1) (receive anythread 0)) ∷ Given (Called 2 (t 2) (send_strings (t 1))) ∷ Written (Overflowed 2 1 0) ∷ [])
unfolding is_normal numbers calls_made call_at caller_of to_of from_of send_period_of receive_period_of tag_of originator_of words_of strings_of buffers_of message_size now has_broken was_opened is_live space_of is_taken next_version is_sent receiver_of sender_of is_over open_call is_sending is_transferring moved_bytes is_receiving before_call is_propagated shown_sender from_specifier accepts matches match_of before_sent receive_start is_past is_due_at is_due abort_send abort_receive stop_send stop_receive stop stop_after turn_after end_of is_send_partner_gone is_receive_partner_gone is_left left_sender_code left_receiver_code partner_gone_code partner_gone_of meeting meeting_of timeout_of next_output is_free next_moving may_open may_move is_admissible settled run
no_buffers_take_no_string = refl

-- the transfer ends with its last byte
strings_that_fit_are_copied : run [] (Opened (t 1) 1 ∷ Opened (t 2) 1 ∷ Called 1 (t 1) (receive_strings anythread fitting) ∷ Called 2 (t 2) (send_strings (t 1)) ∷ Moved 2 8 ∷ []) ≡ Some (Given (Opened (t 1) 1) ∷ Given (Opened (t 2) 1) ∷ Given (Called 1 (t 1) (receive_strings anythread fitting)) ∷ Given (Called 2 (t 2) (send_strings (t 1))) ∷ Written (Began 2 1) ∷ Given (Moved 2 8) ∷ Written (Ended 2 1) ∷ [])
unfolding is_normal numbers calls_made call_at caller_of to_of from_of send_period_of receive_period_of tag_of originator_of words_of strings_of buffers_of message_size now has_broken was_opened is_live space_of is_taken next_version is_sent receiver_of sender_of is_over open_call is_sending is_transferring moved_bytes is_receiving before_call is_propagated shown_sender from_specifier accepts matches match_of before_sent receive_start is_past is_due_at is_due abort_send abort_receive stop_send stop_receive stop stop_after turn_after end_of is_send_partner_gone is_receive_partner_gone is_left left_sender_code left_receiver_code partner_gone_code partner_gone_of meeting meeting_of timeout_of next_output is_free next_moving may_open may_move is_admissible settled run
strings_that_fit_are_copied = refl

-- no byte is to be copied
an_empty_string_is_there_at_once : run [] (Opened (t 1) 1 ∷ Opened (t 2) 1 ∷ Called 1 (t 1) (receive_strings anythread ((buffer 4 0x10 ∷ []) ∷ [])) ∷ Called 2 (t 2) (send_empty (t 1)) ∷ []) ≡ Some (Given (Opened (t 1) 1) ∷ Given (Opened (t 2) 1) ∷ Given (Called 1 (t 1) (receive_strings anythread ((buffer 4 0x10 ∷ []) ∷ []))) ∷ Given (Called 2 (t 2) (send_empty (t 1))) ∷ Written (Began 2 1) ∷ Written (Ended 2 1) ∷ [])
unfolding is_normal numbers calls_made call_at caller_of to_of from_of send_period_of receive_period_of tag_of originator_of words_of strings_of buffers_of message_size now has_broken was_opened is_live space_of is_taken next_version is_sent receiver_of sender_of is_over open_call is_sending is_transferring moved_bytes is_receiving before_call is_propagated shown_sender from_specifier accepts matches match_of before_sent receive_start is_past is_due_at is_due abort_send abort_receive stop_send stop_receive stop stop_after turn_after end_of is_send_partner_gone is_receive_partner_gone is_left left_sender_code left_receiver_code partner_gone_code partner_gone_of meeting meeting_of timeout_of next_output is_free next_moving may_open may_move is_admissible settled run
an_empty_string_is_there_at_once = refl

-- S stops the send phase, also in mid-transfer
a_cancelled_sender_aborts_its_transfer : run [] (Opened (t 1) 1 ∷ Opened (t 2) 1 ∷ Opened (t 3) 1 ∷ Called 1 (t 1) (receive_strings anythread fitting) ∷ Called 2 (t 2) (send_strings (t 1)) ∷ Exreg (t 3) (t 2) 4 ∷ []) ≡ Some (Given (Opened (t 1) 1) ∷ Given (Opened (t 2) 1) ∷ Given (Opened (t 3) 1) ∷ Given (Called 1 (t 1) (receive_strings anythread fitting)) ∷ Given (Called 2 (t 2) (send_strings (t 1))) ∷ Written (Began 2 1) ∷ Given (Exreg (t 3) (t 2) 4) ∷ Written (Aborted 2 1 0) ∷ [])
unfolding is_normal numbers calls_made call_at caller_of to_of from_of send_period_of receive_period_of tag_of originator_of words_of strings_of buffers_of message_size now has_broken was_opened is_live space_of is_taken next_version is_sent receiver_of sender_of is_over open_call is_sending is_transferring moved_bytes is_receiving before_call is_propagated shown_sender from_specifier accepts matches match_of before_sent receive_start is_past is_due_at is_due abort_send abort_receive stop_send stop_receive stop stop_after turn_after end_of is_send_partner_gone is_receive_partner_gone is_left left_sender_code left_receiver_code partner_gone_code partner_gone_of meeting meeting_of timeout_of next_output is_free next_moving may_open may_move is_admissible settled run
a_cancelled_sender_aborts_its_transfer = refl

-- R stops the receive phase
a_cancelled_receiver_aborts_its_transfer : run [] (Opened (t 1) 1 ∷ Opened (t 2) 1 ∷ Opened (t 3) 1 ∷ Called 1 (t 1) (receive_strings anythread fitting) ∷ Called 2 (t 2) (send_strings (t 1)) ∷ Exreg (t 3) (t 1) 2 ∷ []) ≡ Some (Given (Opened (t 1) 1) ∷ Given (Opened (t 2) 1) ∷ Given (Opened (t 3) 1) ∷ Given (Called 1 (t 1) (receive_strings anythread fitting)) ∷ Given (Called 2 (t 2) (send_strings (t 1))) ∷ Written (Began 2 1) ∷ Given (Exreg (t 3) (t 1) 2) ∷ Written (Aborted 2 1 0) ∷ [])
unfolding is_normal numbers calls_made call_at caller_of to_of from_of send_period_of receive_period_of tag_of originator_of words_of strings_of buffers_of message_size now has_broken was_opened is_live space_of is_taken next_version is_sent receiver_of sender_of is_over open_call is_sending is_transferring moved_bytes is_receiving before_call is_propagated shown_sender from_specifier accepts matches match_of before_sent receive_start is_past is_due_at is_due abort_send abort_receive stop_send stop_receive stop stop_after turn_after end_of is_send_partner_gone is_receive_partner_gone is_left left_sender_code left_receiver_code partner_gone_code partner_gone_of meeting meeting_of timeout_of next_output is_free next_moving may_open may_move is_admissible settled run
a_cancelled_receiver_aborts_its_transfer = refl

-- the sending call's period is past, but its transfer has begun
no_timeout_ends_a_transfer : run [] (Opened (t 1) 1 ∷ Opened (t 2) 1 ∷ Called 1 (t 1) (receive_strings anythread fitting) ∷ Called 2 (t 2) (record { to = t 1; from = 0; send_period = at_once; receive_period = 0; tag = 0x100; originator = 0; words = []; strings = (0x61 ∷ 0x62 ∷ 0x63 ∷ []) ∷ (0x68 ∷ 0x65 ∷ 0x6c ∷ 0x6c ∷ 0x6f ∷ []) ∷ []; buffers = None }) ∷ At 1000 ∷ Moved 2 8 ∷ []) ≡ Some (Given (Opened (t 1) 1) ∷ Given (Opened (t 2) 1) ∷ Given (Called 1 (t 1) (receive_strings anythread fitting)) ∷ Given (Called 2 (t 2) (record { to = t 1; from = 0; send_period = at_once; receive_period = 0; tag = 0x100; originator = 0; words = []; strings = (0x61 ∷ 0x62 ∷ 0x63 ∷ []) ∷ (0x68 ∷ 0x65 ∷ 0x6c ∷ 0x6c ∷ 0x6f ∷ []) ∷ []; buffers = None })) ∷ Written (Began 2 1) ∷ Given (At 1000) ∷ Given (Moved 2 8) ∷ Written (Ended 2 1) ∷ [])
unfolding is_normal numbers calls_made call_at caller_of to_of from_of send_period_of receive_period_of tag_of originator_of words_of strings_of buffers_of message_size now has_broken was_opened is_live space_of is_taken next_version is_sent receiver_of sender_of is_over open_call is_sending is_transferring moved_bytes is_receiving before_call is_propagated shown_sender from_specifier accepts matches match_of before_sent receive_start is_past is_due_at is_due abort_send abort_receive stop_send stop_receive stop stop_after turn_after end_of is_send_partner_gone is_receive_partner_gone is_left left_sender_code left_receiver_code partner_gone_code partner_gone_of meeting meeting_of timeout_of next_output is_free next_moving may_open may_move is_admissible settled run
no_timeout_ends_a_transfer = refl

-- in mid-transfer
a_receiver_that_ends_fails_its_sender : run [] (Opened (t 1) 1 ∷ Opened (t 2) 1 ∷ Called 1 (t 1) (receive_strings anythread fitting) ∷ Called 2 (t 2) (send_strings (t 1)) ∷ Broke (t 1) ∷ []) ≡ Some (Given (Opened (t 1) 1) ∷ Given (Opened (t 2) 1) ∷ Given (Called 1 (t 1) (receive_strings anythread fitting)) ∷ Given (Called 2 (t 2) (send_strings (t 1))) ∷ Written (Began 2 1) ∷ Given (Broke (t 1)) ∷ Written (Failed 2 0xe) ∷ [])
unfolding is_normal numbers calls_made call_at caller_of to_of from_of send_period_of receive_period_of tag_of originator_of words_of strings_of buffers_of message_size now has_broken was_opened is_live space_of is_taken next_version is_sent receiver_of sender_of is_over open_call is_sending is_transferring moved_bytes is_receiving before_call is_propagated shown_sender from_specifier accepts matches match_of before_sent receive_start is_past is_due_at is_due abort_send abort_receive stop_send stop_receive stop stop_after turn_after end_of is_send_partner_gone is_receive_partner_gone is_left left_sender_code left_receiver_code partner_gone_code partner_gone_of meeting meeting_of timeout_of next_output is_free next_moving may_open may_move is_admissible settled run
a_receiver_that_ends_fails_its_sender = refl

-- and nothing more comes of the receiver's own end
a_sender_that_ends_fails_its_receiver : run [] (Opened (t 1) 1 ∷ Opened (t 2) 1 ∷ Called 1 (t 1) (receive_strings anythread fitting) ∷ Called 2 (t 2) (send_strings (t 1)) ∷ Broke (t 2) ∷ Broke (t 1) ∷ []) ≡ Some (Given (Opened (t 1) 1) ∷ Given (Opened (t 2) 1) ∷ Given (Called 1 (t 1) (receive_strings anythread fitting)) ∷ Given (Called 2 (t 2) (send_strings (t 1))) ∷ Written (Began 2 1) ∷ Given (Broke (t 2)) ∷ Written (Failed 1 0xf) ∷ Given (Broke (t 1)) ∷ [])
unfolding is_normal numbers calls_made call_at caller_of to_of from_of send_period_of receive_period_of tag_of originator_of words_of strings_of buffers_of message_size now has_broken was_opened is_live space_of is_taken next_version is_sent receiver_of sender_of is_over open_call is_sending is_transferring moved_bytes is_receiving before_call is_propagated shown_sender from_specifier accepts matches match_of before_sent receive_start is_past is_due_at is_due abort_send abort_receive stop_send stop_receive stop stop_after turn_after end_of is_send_partner_gone is_receive_partner_gone is_left left_sender_code left_receiver_code partner_gone_code partner_gone_of meeting meeting_of timeout_of next_output is_free next_moving may_open may_move is_admissible settled run
a_sender_that_ends_fails_its_receiver = refl

-- a call to the first thread of the number fails, and the second one hears nothing of it
a_reused_number_is_another_thread : run [] (Opened (t 1) 1 ∷ Opened (t 2) 1 ∷ Called 1 (t 1) (send (t 2) 0) ∷ Broke (t 2) ∷ Opened (2 * 2 ^ 32 + 2) 1 ∷ Called 2 (2 * 2 ^ 32 + 2) (receive anythread 0) ∷ []) ≡ Some (Given (Opened (t 1) 1) ∷ Given (Opened (t 2) 1) ∷ Given (Called 1 (t 1) (send (t 2) 0)) ∷ Given (Broke (t 2)) ∷ Written (Failed 1 4) ∷ Given (Opened (2 * 2 ^ 32 + 2) 1) ∷ Given (Called 2 (2 * 2 ^ 32 + 2) (receive anythread 0)) ∷ [])
unfolding is_normal numbers calls_made call_at caller_of to_of from_of send_period_of receive_period_of tag_of originator_of words_of strings_of buffers_of message_size now has_broken was_opened is_live space_of is_taken next_version is_sent receiver_of sender_of is_over open_call is_sending is_transferring moved_bytes is_receiving before_call is_propagated shown_sender from_specifier accepts matches match_of before_sent receive_start is_past is_due_at is_due abort_send abort_receive stop_send stop_receive stop stop_after turn_after end_of is_send_partner_gone is_receive_partner_gone is_left left_sender_code left_receiver_code partner_gone_code partner_gone_of meeting meeting_of timeout_of next_output is_free next_moving may_open may_move is_admissible settled run
a_reused_number_is_another_thread = refl

-- the originator waited for the sender, and from then on for the receiver
a_propagated_message_turns_its_originator : run [] (Opened (t 1) 1 ∷ Opened (t 2) 1 ∷ Opened (t 3) 1 ∷ Called 1 (t 2) (receive anythread 0) ∷ Called 2 (t 3) (receive anythread 0) ∷ Called 3 (t 1) (both (t 2) (t 2) 0 0) ∷ Called 4 (t 2) (send_for (t 1) (t 3)) ∷ Called 5 (t 3) (send (t 1) at_once) ∷ []) ≡ Some (Given (Opened (t 1) 1) ∷ Given (Opened (t 2) 1) ∷ Given (Opened (t 3) 1) ∷ Given (Called 1 (t 2) (receive anythread 0)) ∷ Given (Called 2 (t 3) (receive anythread 0)) ∷ Given (Called 3 (t 1) (both (t 2) (t 2) 0 0)) ∷ Written (Began 3 1) ∷ Written (Ended 3 1) ∷ Given (Called 4 (t 2) (send_for (t 1) (t 3))) ∷ Written (Began 4 2) ∷ Written (Turned 3 (t 3)) ∷ Written (Ended 4 2) ∷ Given (Called 5 (t 3) (send (t 1) at_once)) ∷ Written (Began 5 3) ∷ Written (Ended 5 3) ∷ [])
unfolding is_normal numbers calls_made call_at caller_of to_of from_of send_period_of receive_period_of tag_of originator_of words_of strings_of buffers_of message_size now has_broken was_opened is_live space_of is_taken next_version is_sent receiver_of sender_of is_over open_call is_sending is_transferring moved_bytes is_receiving before_call is_propagated shown_sender from_specifier accepts matches match_of before_sent receive_start is_past is_due_at is_due abort_send abort_receive stop_send stop_receive stop stop_after turn_after end_of is_send_partner_gone is_receive_partner_gone is_left left_sender_code left_receiver_code partner_gone_code partner_gone_of meeting meeting_of timeout_of next_output is_free next_moving may_open may_move is_admissible settled run
a_propagated_message_turns_its_originator = refl

-- the originator is of another space, so the caller is shown and nobody turns
a_propagation_across_spaces_is_dropped : run [] (Opened (t 1) 2 ∷ Opened (t 2) 1 ∷ Opened (t 3) 1 ∷ Called 1 (t 2) (receive anythread 0) ∷ Called 2 (t 3) (receive anythread 0) ∷ Called 3 (t 1) (both (t 2) (t 2) 0 0) ∷ Called 4 (t 2) (send_for (t 1) (t 3)) ∷ []) ≡ Some (Given (Opened (t 1) 2) ∷ Given (Opened (t 2) 1) ∷ Given (Opened (t 3) 1) ∷ Given (Called 1 (t 2) (receive anythread 0)) ∷ Given (Called 2 (t 3) (receive anythread 0)) ∷ Given (Called 3 (t 1) (both (t 2) (t 2) 0 0)) ∷ Written (Began 3 1) ∷ Written (Ended 3 1) ∷ Given (Called 4 (t 2) (send_for (t 1) (t 3))) ∷ Written (Began 4 2) ∷ Written (Ended 4 2) ∷ [])
unfolding is_normal numbers calls_made call_at caller_of to_of from_of send_period_of receive_period_of tag_of originator_of words_of strings_of buffers_of message_size now has_broken was_opened is_live space_of is_taken next_version is_sent receiver_of sender_of is_over open_call is_sending is_transferring moved_bytes is_receiving before_call is_propagated shown_sender from_specifier accepts matches match_of before_sent receive_start is_past is_due_at is_due abort_send abort_receive stop_send stop_receive stop stop_after turn_after end_of is_send_partner_gone is_receive_partner_gone is_left left_sender_code left_receiver_code partner_gone_code partner_gone_of meeting meeting_of timeout_of next_output is_free next_moving may_open may_move is_admissible settled run
a_propagation_across_spaces_is_dropped = refl

-- the receive phase begins where the send phase ends, and meets who waits
both_phases_may_end_in_one_command : run [] (Opened (t 1) 1 ∷ Opened (t 2) 1 ∷ Opened (t 3) 1 ∷ Called 1 (t 1) (receive anythread 0) ∷ Called 2 (t 2) (both (t 1) (t 1) 0 0) ∷ Called 3 (t 3) (send (t 1) 0) ∷ Called 4 (t 1) (both (t 2) anythread at_once 0) ∷ []) ≡ Some (Given (Opened (t 1) 1) ∷ Given (Opened (t 2) 1) ∷ Given (Opened (t 3) 1) ∷ Given (Called 1 (t 1) (receive anythread 0)) ∷ Given (Called 2 (t 2) (both (t 1) (t 1) 0 0)) ∷ Written (Began 2 1) ∷ Written (Ended 2 1) ∷ Given (Called 3 (t 3) (send (t 1) 0)) ∷ Given (Called 4 (t 1) (both (t 2) anythread at_once 0)) ∷ Written (Began 4 2) ∷ Written (Ended 4 2) ∷ Written (Began 3 4) ∷ Written (Ended 3 4) ∷ [])
unfolding is_normal numbers calls_made call_at caller_of to_of from_of send_period_of receive_period_of tag_of originator_of words_of strings_of buffers_of message_size now has_broken was_opened is_live space_of is_taken next_version is_sent receiver_of sender_of is_over open_call is_sending is_transferring moved_bytes is_receiving before_call is_propagated shown_sender from_specifier accepts matches match_of before_sent receive_start is_past is_due_at is_due abort_send abort_receive stop_send stop_receive stop stop_after turn_after end_of is_send_partner_gone is_receive_partner_gone is_left left_sender_code left_receiver_code partner_gone_code partner_gone_of meeting meeting_of timeout_of next_output is_free next_moving may_open may_move is_admissible settled run
both_phases_may_end_in_one_command = refl

-- the call is over with it: a later send finds nobody
no_receive_phase_after_a_failed_send : run [] (Opened (t 1) 1 ∷ Opened (t 2) 1 ∷ Called 1 (t 1) (both (t 2) (t 2) at_once 0) ∷ Called 2 (t 2) (send (t 1) at_once) ∷ []) ≡ Some (Given (Opened (t 1) 1) ∷ Given (Opened (t 2) 1) ∷ Given (Called 1 (t 1) (both (t 2) (t 2) at_once 0)) ∷ Written (Failed 1 2) ∷ Given (Called 2 (t 2) (send (t 1) at_once)) ∷ Written (Failed 2 2) ∷ [])
unfolding is_normal numbers calls_made call_at caller_of to_of from_of send_period_of receive_period_of tag_of originator_of words_of strings_of buffers_of message_size now has_broken was_opened is_live space_of is_taken next_version is_sent receiver_of sender_of is_over open_call is_sending is_transferring moved_bytes is_receiving before_call is_propagated shown_sender from_specifier accepts matches match_of before_sent receive_start is_past is_due_at is_due abort_send abort_receive stop_send stop_receive stop stop_after turn_after end_of is_send_partner_gone is_receive_partner_gone is_left left_sender_code left_receiver_code partner_gone_code partner_gone_of meeting meeting_of timeout_of next_output is_free next_moving may_open may_move is_admissible settled run
no_receive_phase_after_a_failed_send = refl

-- and a cancel across spaces stops nothing
anylocalthread_takes_its_own_space : run [] (Opened (t 1) 1 ∷ Opened (t 2) 2 ∷ Opened (t 3) 1 ∷ Called 1 (t 1) (receive anylocalthread 0) ∷ Called 2 (t 2) (send (t 1) 0) ∷ Called 3 (t 3) (send (t 1) 0) ∷ Exreg (t 1) (t 2) 4 ∷ []) ≡ Some (Given (Opened (t 1) 1) ∷ Given (Opened (t 2) 2) ∷ Given (Opened (t 3) 1) ∷ Given (Called 1 (t 1) (receive anylocalthread 0)) ∷ Given (Called 2 (t 2) (send (t 1) 0)) ∷ Given (Called 3 (t 3) (send (t 1) 0)) ∷ Written (Began 3 1) ∷ Written (Ended 3 1) ∷ Given (Exreg (t 1) (t 2) 4) ∷ [])
unfolding is_normal numbers calls_made call_at caller_of to_of from_of send_period_of receive_period_of tag_of originator_of words_of strings_of buffers_of message_size now has_broken was_opened is_live space_of is_taken next_version is_sent receiver_of sender_of is_over open_call is_sending is_transferring moved_bytes is_receiving before_call is_propagated shown_sender from_specifier accepts matches match_of before_sent receive_start is_past is_due_at is_due abort_send abort_receive stop_send stop_receive stop stop_after turn_after end_of is_send_partner_gone is_receive_partner_gone is_left left_sender_code left_receiver_code partner_gone_code partner_gone_of meeting meeting_of timeout_of next_output is_free next_moving may_open may_move is_admissible settled run
anylocalthread_takes_its_own_space = refl

-- a receive from oneself waits until it is cancelled
a_cancelled_receive_and_a_send_to_oneself_fail : run [] (Opened (t 1) 1 ∷ Opened (t 2) 1 ∷ Called 1 (t 1) (receive (t 1) 0) ∷ Exreg (t 2) (t 1) 2 ∷ Called 2 (t 2) (send (t 2) 0) ∷ []) ≡ Some (Given (Opened (t 1) 1) ∷ Given (Opened (t 2) 1) ∷ Given (Called 1 (t 1) (receive (t 1) 0)) ∷ Given (Exreg (t 2) (t 1) 2) ∷ Written (Failed 1 7) ∷ Given (Called 2 (t 2) (send (t 2) 0)) ∷ Written (Failed 2 4) ∷ [])
unfolding is_normal numbers calls_made call_at caller_of to_of from_of send_period_of receive_period_of tag_of originator_of words_of strings_of buffers_of message_size now has_broken was_opened is_live space_of is_taken next_version is_sent receiver_of sender_of is_over open_call is_sending is_transferring moved_bytes is_receiving before_call is_propagated shown_sender from_specifier accepts matches match_of before_sent receive_start is_past is_due_at is_due abort_send abort_receive stop_send stop_receive stop stop_after turn_after end_of is_send_partner_gone is_receive_partner_gone is_left left_sender_code left_receiver_code partner_gone_code partner_gone_of meeting meeting_of timeout_of next_output is_free next_moving may_open may_move is_admissible settled run
a_cancelled_receive_and_a_send_to_oneself_fail = refl

-- a thread that was never opened is not live
a_receive_from_nobody_fails : run [] (Opened (t 1) 1 ∷ Called 1 (t 1) (receive (t 9) 0) ∷ []) ≡ Some (Given (Opened (t 1) 1) ∷ Given (Called 1 (t 1) (receive (t 9) 0)) ∷ Written (Failed 1 5) ∷ [])
unfolding is_normal numbers calls_made call_at caller_of to_of from_of send_period_of receive_period_of tag_of originator_of words_of strings_of buffers_of message_size now has_broken was_opened is_live space_of is_taken next_version is_sent receiver_of sender_of is_over open_call is_sending is_transferring moved_bytes is_receiving before_call is_propagated shown_sender from_specifier accepts matches match_of before_sent receive_start is_past is_due_at is_due abort_send abort_receive stop_send stop_receive stop stop_after turn_after end_of is_send_partner_gone is_receive_partner_gone is_left left_sender_code left_receiver_code partner_gone_code partner_gone_of meeting meeting_of timeout_of next_output is_free next_moving may_open may_move is_admissible settled run
a_receive_from_nobody_fails = refl

-- what the receiver is told
a_receiver_is_told_the_message : outcome_of (Given (Opened (t 1) 1) ∷ Given (Opened (t 2) 1) ∷ Given (Called 1 (t 1) (receive anythread 0)) ∷ Given (Called 2 (t 2) (send (t 1) 0)) ∷ Written (Began 2 1) ∷ Written (Ended 2 1) ∷ []) 1 ≡ Some (record (nothing 1) { tag = 1; sender = t 2; words = 7 ∷ [] })
unfolding is_normal numbers calls_made call_at caller_of to_of from_of send_period_of receive_period_of tag_of originator_of words_of strings_of buffers_of message_size now has_broken was_opened is_live space_of is_taken next_version is_sent receiver_of sender_of is_over open_call is_sending is_transferring moved_bytes is_receiving before_call is_propagated shown_sender from_specifier accepts matches match_of before_sent receive_start is_past is_due_at is_due abort_send abort_receive stop_send stop_receive stop stop_after turn_after end_of is_send_partner_gone is_receive_partner_gone is_left left_sender_code left_receiver_code partner_gone_code partner_gone_of meeting meeting_of timeout_of next_output is_free next_moving may_open may_move is_admissible settled run end_moment outcome_of
a_receiver_is_told_the_message = refl

-- and the sender
a_sender_is_told_nothing : outcome_of (Given (Opened (t 1) 1) ∷ Given (Opened (t 2) 1) ∷ Given (Called 1 (t 1) (receive anythread 0)) ∷ Given (Called 2 (t 2) (send (t 1) 0)) ∷ Written (Began 2 1) ∷ Written (Ended 2 1) ∷ []) 2 ≡ Some (nothing 2)
unfolding is_normal numbers calls_made call_at caller_of to_of from_of send_period_of receive_period_of tag_of originator_of words_of strings_of buffers_of message_size now has_broken was_opened is_live space_of is_taken next_version is_sent receiver_of sender_of is_over open_call is_sending is_transferring moved_bytes is_receiving before_call is_propagated shown_sender from_specifier accepts matches match_of before_sent receive_start is_past is_due_at is_due abort_send abort_receive stop_send stop_receive stop stop_after turn_after end_of is_send_partner_gone is_receive_partner_gone is_left left_sender_code left_receiver_code partner_gone_code partner_gone_of meeting meeting_of timeout_of next_output is_free next_moving may_open may_move is_admissible settled run end_moment outcome_of
a_sender_is_told_nothing = refl

-- two words for each string
strings_are_told_as_simple_items : outcome_of (Given (Opened (t 1) 1) ∷ Given (Opened (t 2) 1) ∷ Given (Called 1 (t 1) (receive_strings anythread fitting)) ∷ Given (Called 2 (t 2) (send_strings (t 1))) ∷ Written (Began 2 1) ∷ Given (Moved 2 8) ∷ Written (Ended 2 1) ∷ []) 1 ≡ Some (record (nothing 1) { tag = 0x100; sender = t 2; words = 0xc00 ∷ 0x1000 ∷ 0x1400 ∷ 0x2000 ∷ []; strings = (0x61 ∷ 0x62 ∷ 0x63 ∷ []) ∷ (0x68 ∷ 0x65 ∷ 0x6c ∷ 0x6c ∷ 0x6f ∷ []) ∷ []; buffers = fitting })
unfolding is_normal numbers calls_made call_at caller_of to_of from_of send_period_of receive_period_of tag_of originator_of words_of strings_of buffers_of message_size now has_broken was_opened is_live space_of is_taken next_version is_sent receiver_of sender_of is_over open_call is_sending is_transferring moved_bytes is_receiving before_call is_propagated shown_sender from_specifier accepts matches match_of before_sent receive_start is_past is_due_at is_due abort_send abort_receive stop_send stop_receive stop stop_after turn_after end_of is_send_partner_gone is_receive_partner_gone is_left left_sender_code left_receiver_code partner_gone_code partner_gone_of meeting meeting_of timeout_of next_output is_free next_moving may_open may_move is_admissible settled run end_moment outcome_of
strings_are_told_as_simple_items = refl

-- both partners are told of an overflow
an_overflow_is_told_to_the_sender : outcome_of (Given (Opened (t 1) 1) ∷ Given (Opened (t 2) 1) ∷ Given (Called 1 (t 1) (receive_strings anythread short)) ∷ Given (Called 2 (t 2) (send_strings (t 1))) ∷ Written (Overflowed 2 1 3) ∷ []) 2 ≡ Some (failure 2 0x38)
unfolding is_normal numbers calls_made call_at caller_of to_of from_of send_period_of receive_period_of tag_of originator_of words_of strings_of buffers_of message_size now has_broken was_opened is_live space_of is_taken next_version is_sent receiver_of sender_of is_over open_call is_sending is_transferring moved_bytes is_receiving before_call is_propagated shown_sender from_specifier accepts matches match_of before_sent receive_start is_past is_due_at is_due abort_send abort_receive stop_send stop_receive stop stop_after turn_after end_of is_send_partner_gone is_receive_partner_gone is_left left_sender_code left_receiver_code partner_gone_code partner_gone_of meeting meeting_of timeout_of next_output is_free next_moving may_open may_move is_admissible settled run end_moment outcome_of
an_overflow_is_told_to_the_sender = refl

-- and the receiver
an_overflow_is_told_to_the_receiver : outcome_of (Given (Opened (t 1) 1) ∷ Given (Opened (t 2) 1) ∷ Given (Called 1 (t 1) (receive_strings anythread short)) ∷ Given (Called 2 (t 2) (send_strings (t 1))) ∷ Written (Overflowed 2 1 3) ∷ []) 1 ≡ Some (failure 1 0x39)
unfolding is_normal numbers calls_made call_at caller_of to_of from_of send_period_of receive_period_of tag_of originator_of words_of strings_of buffers_of message_size now has_broken was_opened is_live space_of is_taken next_version is_sent receiver_of sender_of is_over open_call is_sending is_transferring moved_bytes is_receiving before_call is_propagated shown_sender from_specifier accepts matches match_of before_sent receive_start is_past is_due_at is_due abort_send abort_receive stop_send stop_receive stop stop_after turn_after end_of is_send_partner_gone is_receive_partner_gone is_left left_sender_code left_receiver_code partner_gone_code partner_gone_of meeting meeting_of timeout_of next_output is_free next_moving may_open may_move is_admissible settled run end_moment outcome_of
an_overflow_is_told_to_the_receiver = refl

-- the receiver sees the VirtualSender, and the ActualSender beside it
a_propagated_message_shows_its_originator : outcome_of (Given (Opened (t 1) 1) ∷ Given (Opened (t 2) 1) ∷ Given (Opened (t 3) 1) ∷ Given (Called 1 (t 2) (receive anythread 0)) ∷ Given (Called 2 (t 3) (receive anythread 0)) ∷ Given (Called 3 (t 1) (both (t 2) (t 2) 0 0)) ∷ Written (Began 3 1) ∷ Written (Ended 3 1) ∷ Given (Called 4 (t 2) (send_for (t 1) (t 3))) ∷ Written (Began 4 2) ∷ Written (Turned 3 (t 3)) ∷ Written (Ended 4 2) ∷ Given (Called 5 (t 3) (send (t 1) at_once)) ∷ Written (Began 5 3) ∷ Written (Ended 5 3) ∷ []) 2 ≡ Some (record (nothing 2) { tag = 0x1001; sender = t 1; actual = t 2; words = 6 ∷ [] })
unfolding is_normal numbers calls_made call_at caller_of to_of from_of send_period_of receive_period_of tag_of originator_of words_of strings_of buffers_of message_size now has_broken was_opened is_live space_of is_taken next_version is_sent receiver_of sender_of is_over open_call is_sending is_transferring moved_bytes is_receiving before_call is_propagated shown_sender from_specifier accepts matches match_of before_sent receive_start is_past is_due_at is_due abort_send abort_receive stop_send stop_receive stop stop_after turn_after end_of is_send_partner_gone is_receive_partner_gone is_left left_sender_code left_receiver_code partner_gone_code partner_gone_of meeting meeting_of timeout_of next_output is_free next_moving may_open may_move is_admissible settled run end_moment outcome_of
a_propagated_message_shows_its_originator = refl

-- p is dropped too
a_dropped_propagation_shows_the_caller : outcome_of (Given (Opened (t 1) 2) ∷ Given (Opened (t 2) 1) ∷ Given (Opened (t 3) 1) ∷ Given (Called 1 (t 2) (receive anythread 0)) ∷ Given (Called 2 (t 3) (receive anythread 0)) ∷ Given (Called 3 (t 1) (both (t 2) (t 2) 0 0)) ∷ Written (Began 3 1) ∷ Written (Ended 3 1) ∷ Given (Called 4 (t 2) (send_for (t 1) (t 3))) ∷ Written (Began 4 2) ∷ Written (Ended 4 2) ∷ []) 2 ≡ Some (record (nothing 2) { tag = 1; sender = t 2; words = 6 ∷ [] })
unfolding is_normal numbers calls_made call_at caller_of to_of from_of send_period_of receive_period_of tag_of originator_of words_of strings_of buffers_of message_size now has_broken was_opened is_live space_of is_taken next_version is_sent receiver_of sender_of is_over open_call is_sending is_transferring moved_bytes is_receiving before_call is_propagated shown_sender from_specifier accepts matches match_of before_sent receive_start is_past is_due_at is_due abort_send abort_receive stop_send stop_receive stop stop_after turn_after end_of is_send_partner_gone is_receive_partner_gone is_left left_sender_code left_receiver_code partner_gone_code partner_gone_of meeting meeting_of timeout_of next_output is_free next_moving may_open may_move is_admissible settled run end_moment outcome_of
a_dropped_propagation_shows_the_caller = refl
