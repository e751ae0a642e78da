-- The bytes stand behind the key, and are those that were read into the room.
use mathlib.Core.Path.{◌∙◌, ap}
use Rattle.std.proofs.Common.{length}
use Rattle.lines.proofs.Stands.{bytes_stand, digits_end}
use Rattle.lines.proofs.keys.Keys.bytes.Goals as goal

pub returns-clause-stands : goal.returns-clause-stands
returns-clause-stands c =
    bytes_stand c.in_ok-key.ensures.same_text c.in_ok-key.ensures.passes c.hex-count.ensures.reads c.hex-count.ensures.goes_on
    c.in_ok-bytes.ensures.cases.1

pub returns-clause-digits_end : goal.returns-clause-digits_end
returns-clause-digits_end c =
    let k = c.in_ok-key.ensures.room_kept in
    digits_end c.in_ok-key.ensures.same_text c.hex-count.ensures.reads c.hex-count.ensures.goes_on c.in_ok-bytes.ensures.cases.1
    (c.hex-count.auto.room ∙ ap length k)
