-- The worked rows compute.
use Rattle.std.specs.Prelude.{refl}
use Rattle.ipc_history.specs.Calls.{numbers, calls_made, call_at, is_called, caller_of, to_of, from_of, tag_of, originator_of}
use Rattle.ipc_history.specs.Threads.{now, has_broken, was_opened, is_live, space_of}
use Rattle.ipc_history.specs.Phases.{is_sent, is_over}
use Rattle.ipc_history.specs.Matching.{before_call, is_propagated, shown_sender}
use Rattle.ipc_compact.specs.Compact.{is_kept_call, kept_calls, is_further, further_calls, is_kept_thread, is_kept, kept_of}
use Rattle.ipc_compact.specs.Compact.{last_version, dropped_of}
use Rattle.ipc_compact.specs.Rows.{ReceivedRow, BrokenRow, NeitherRow, MomentsRow, SenderRow, StringsRow}

pub received_row : ReceivedRow
unfolding numbers calls_made call_at is_called caller_of to_of from_of tag_of originator_of now has_broken was_opened is_live space_of is_sent is_over before_call is_propagated shown_sender is_kept_call kept_calls is_further further_calls is_kept_thread is_kept kept_of last_version dropped_of
received_row = (refl, refl, refl, refl)

pub broken_row : BrokenRow
unfolding numbers calls_made call_at is_called caller_of to_of from_of tag_of originator_of now has_broken was_opened is_live space_of is_sent is_over before_call is_propagated shown_sender is_kept_call kept_calls is_further further_calls is_kept_thread is_kept kept_of last_version dropped_of
broken_row = (refl, refl, refl, refl)

pub neither_row : NeitherRow
unfolding numbers calls_made call_at is_called caller_of to_of from_of tag_of originator_of now has_broken was_opened is_live space_of is_sent is_over before_call is_propagated shown_sender is_kept_call kept_calls is_further further_calls is_kept_thread is_kept kept_of last_version dropped_of
neither_row = refl

pub moments_row : MomentsRow
unfolding numbers calls_made call_at is_called caller_of to_of from_of tag_of originator_of now has_broken was_opened is_live space_of is_sent is_over before_call is_propagated shown_sender is_kept_call kept_calls is_further further_calls is_kept_thread is_kept kept_of last_version dropped_of
moments_row = (refl, refl)

pub strings_row : StringsRow
unfolding numbers calls_made call_at is_called caller_of to_of from_of tag_of originator_of now has_broken was_opened is_live space_of is_sent is_over before_call is_propagated shown_sender is_kept_call kept_calls is_further further_calls is_kept_thread is_kept kept_of last_version dropped_of
strings_row = (refl, refl)

pub sender_row : SenderRow
unfolding numbers calls_made call_at is_called caller_of to_of from_of tag_of originator_of now has_broken was_opened is_live space_of is_sent is_over before_call is_propagated shown_sender is_kept_call kept_calls is_further further_calls is_kept_thread is_kept kept_of last_version dropped_of
sender_row = refl
