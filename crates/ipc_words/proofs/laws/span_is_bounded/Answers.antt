use Rattle.ipc_words.proofs.SpanLemmas.{span-le-longest}
use Rattle.ipc_words.proofs.laws.span_is_bounded.Goals as goal

pub returns : goal.returns
returns c = span-le-longest
