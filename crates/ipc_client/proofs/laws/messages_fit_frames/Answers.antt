use Rattle.ipc_client.proofs.LawLemmas.{messages_fit_frames}
use Rattle.ipc_client.proofs.laws.messages_fit_frames.Goals as goal

pub returns : goal.returns
returns c = messages_fit_frames c.fields_of_tag_read_back.ensures
