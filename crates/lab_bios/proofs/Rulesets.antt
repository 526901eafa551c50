-- What the answers of functions are searched with, each ruleset by its function's name.
use Rattle.lab_model.proofs.Common.{drop_all, append-nil, length-append, fold_more, take_all}
use Rattle.lab_bios.proofs.Living.{count-there}
use Rattle.lab_bios.proofs.Sums.{some-counted}
use Rattle.std.proofs.lemmas.List.{drop-replicate}
use Rattle.lab_bios.proofs.WrittenLemmas.{take-copies}

-- the zero bytes are there before they are put among them
pub ruleset answered_record = (drop_all, append-nil, length-append)

-- a child that lives is counted, and one that is counted lives
pub ruleset has_child = (count-there, some-counted)

-- changes that are made one by one are all made at the end
pub ruleset part = (fold_more, take_all)

-- as many are left as the span has of them
pub ruleset filled_part = (take-copies, drop-replicate)
