-- A call of Ipc (L4 X.2 manual, Ipc), and which calls are in normal form.
use Rattle.std.specs.Prelude.{ℕ, ◌+◌, ◌*◌, List, [], Bool, ◌&&◌, ◌||◌, not, Option, is_none}
use Rattle.std.specs.Prelude.{unwrap_or, length, sum_by, nat_lt, nat_le, ◌==◌}
use Rattle.ipc_words.specs.ThreadId.{nilthread}
use Rattle.ipc_words.specs.MsgTag.{untyped_of, typed_of, propagates, redirects, crosses, has_failed}
use Rattle.std.specs.List.{list_all}
use Rattle.ipc_words.specs.Limits.{max_message_words, max_string_bytes, max_substrings, substring_length_limit}
use Rattle.ipc_items.specs.Strings.{size_of}
use Rattle.ipc_items.specs.declared.buffer_list.Substring.{Substring}

-- the parts of a call: the receiver of its send phase, its FromSpecifier, the two periods, the tag,
-- the VirtualSender, the untyped words, the strings, and the buffer strings; no buffer strings at
-- all where it accepts no strings
pub record CallParts : Type 0 where
  pub to : ℕ
  pub from : ℕ
  pub send_period : ℕ
  pub receive_period : ℕ
  pub tag : ℕ
  pub originator : ℕ
  pub words : List ℕ
  pub strings : List (List ℕ)
  pub buffers : Option (List (List Substring))

-- the tag says how many untyped words there are, and two typed words for each string, within the
-- words of a message; it says nothing else but its label and p
abbrev pub is_tag_normal : CallParts → Bool
is_tag_normal call =
    (untyped_of call.tag == length call.words)
    && (typed_of call.tag == 2 * length call.strings)
    && nat_le (length call.words + 2 * length call.strings) max_message_words
    && not (redirects call.tag)
    && not (crosses call.tag)
    && not (has_failed call.tag)

-- without a send phase there is nothing to send; without a receive phase nowhere to receive to
abbrev pub is_empty_send : CallParts → Bool
is_empty_send call = (call.tag == 0) && (call.send_period == 0)

abbrev pub is_empty_receive : CallParts → Bool
is_empty_receive call = (call.receive_period == 0) && is_none call.buffers

-- the limits of buffer strings: each has a substring, each length is below its limit, and so is
-- their number together
abbrev pub is_buffer : List Substring → Bool
is_buffer parts = nat_lt 0 (length parts) && list_all (λ part. nat_lt part.length substring_length_limit) parts

abbrev pub are_buffers : List (List Substring) → Bool
are_buffers buffers = list_all is_buffer buffers && nat_le (sum_by (λ parts. length parts) buffers) max_substrings

-- Our choice (docs/PROFILE.md): the normal form, within the limits of a call. A message has at most
-- max_string_bytes bytes of strings
unfoldable pub is_normal : CallParts → Bool
is_normal call =
    is_tag_normal call
    && (propagates call.tag || (call.originator == nilthread))
    && (not (call.to == nilthread) || is_empty_send call)
    && ((not (call.from == nilthread) || is_empty_receive call)
    && are_buffers (unwrap_or call.buffers []))
    && nat_le (size_of call.strings) max_string_bytes
