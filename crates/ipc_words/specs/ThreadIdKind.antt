-- L4 X.2 manual, ThreadId: what an id stands for.
use Rattle.std.specs.Prelude.{ℕ, ◌%◌, ◌^◌, ◌==◌, if◌then◌else◌}
use Rattle.ipc_words.specs.ThreadId.{nilthread, anythread, anylocalthread, number_of, version_of}
use Rattle.ipc_words.specs.declared.thread_id.ThreadIdKind.{ThreadIdKind}
use Rattle.ipc_words.specs.declared.thread_id.ThreadIdKind.TheVariants.{Nilthread, Anythread, Anylocalthread, Global, Other}

-- the three ids that name no thread; a local id, whose low six bits are all zero, is none of ours;
-- any other is global
abbrev pub kind_of : ℕ → ThreadIdKind
kind_of id =
    (if id == nilthread then Nilthread
    else (if id == anythread then Anythread
    else (if id == anylocalthread then Anylocalthread
    else (if id % 2 ^ 6 == 0 then Other
    else Global (number_of id) (version_of id)))))
