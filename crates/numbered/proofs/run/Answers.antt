-- `numbered::run` meets its contract: the fields, copied to locals, are lent to the passes and put together again. Assumes nothing.
use Rattle.numbered.proofs.run.Goals as goal

pub run-ran-requires : goal.run-ran-requires
run-ran-requires c =
    let p = c.requires in
    record { ready = p.ready; numbers_fit = (p.slots_fit, p.numbers_fit); count_bound = p.count_fits }
