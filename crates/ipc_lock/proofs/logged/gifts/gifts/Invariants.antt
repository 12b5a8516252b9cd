use Rattle.ipc_seats.specs.Gifts as words
use Rattle.ipc_lock.proofs.logged.gifts.gifts.Given as goal

abbrev pub ghost-told : goal.ghost-told
ghost-told g a = words.gifts a.errands.now
