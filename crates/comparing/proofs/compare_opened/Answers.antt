-- `compare_opened` tells the end that the search came to; the word of "different" is read off the table that stands in the pair room.
use Rattle.std.proofs.Common.{rules}
use Rattle.comparing.proofs.Laws.Ending.{search_made, is_same, is_different, is_stopped, told_same, told_stopped, can_read_off, told_different, told_short}
use Rattle.comparing.proofs.compare_opened.Goals as goal

pub tell_found-requires-clause-origin_bound : goal.tell_found-requires-clause-origin_bound
tell_found-requires-clause-origin_bound c =
    let made = search_made c.requires.stand (λ i. (c.type_inv.letters i).fits) c.search-end.ensures.ends in
    let end = c.in-Err-Different in
    (can_read_off made (is_different end.is (rw end.is at end.field-0-is))).1

pub returns-in-Ok-clause-leaves : goal.returns-in-Ok-clause-leaves
returns-in-Ok-clause-leaves c =
    let made = search_made c.requires.stand (λ i. (c.type_inv.letters i).fits) c.search-end.ensures.ends in
    told_same made (is_same c.in-Ok.is) c.args.word.now

pub returns-in-Ok-tell_found-clause-leaves : goal.returns-in-Ok-tell_found-clause-leaves
returns-in-Ok-tell_found-clause-leaves c =
    let made = search_made c.requires.stand (λ i. (c.type_inv.letters i).fits) c.search-end.ensures.ends in
    let end = c.in-Err-Different in
    told_different made (is_different end.is (rw end.is at end.field-0-is)) c.args.word.now c.tell_found.ensures c.in-Ok-tell_found.is

pub returns-in-Err-clause-leaves : goal.returns-in-Err-clause-leaves
returns-in-Err-clause-leaves c =
    let made = search_made c.requires.stand (λ i. (c.type_inv.letters i).fits) c.search-end.ensures.ends in
    let end = c.in-Err-Different in
    told_short made (is_different end.is (rw end.is at end.field-0-is)) c.args.word.now c.tell_found.ensures c.in-Err.is

pub returns-in-Err-Refused-clause-leaves : goal.returns-in-Err-Refused-clause-leaves
returns-in-Err-Refused-clause-leaves c =
    let made = search_made c.requires.stand (λ i. (c.type_inv.letters i).fits) c.search-end.ensures.ends in
    let end = c.in-Err-Refused in
    told_stopped made (is_stopped end.is (rw end.is at end.field-0-is) (search rules)) c.args.word.now
