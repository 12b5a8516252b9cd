-- What contracts see of the parts of a call.
use Rattle.ipc_history.specs.CallParts.{CallParts}
use Rattle.ipc_history.specs.declared.call.CallFields.{CallFields}

abbrev pub parts_of : CallFields → CallParts
parts_of fields = record {
  to = fields.to;
  from = fields.from;
  send_period = fields.send_period;
  receive_period = fields.receive_period;
  tag = fields.tag;
  originator = fields.originator;
  words = fields.words.items;
  strings = fields.strings;
  buffers = fields.buffers;
}
