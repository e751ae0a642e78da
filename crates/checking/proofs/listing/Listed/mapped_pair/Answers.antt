-- `mapped_pair` reads the pair at its number, and its two fields go through the map.
use mathlib.Core.Path.{sym, ◌∙◌, ap}
use Rattle.checking.proofs.Laws.Listing.{mapped_pair, listed_pair_at}
use Rattle.checking.proofs.listing.Listed.mapped_pair.Goals as goal

pub returns : goal.returns
returns c =
    let s = c.args.self in
    ap (mapped_pair s.map.now) c.read-p.ensures ∙ sym (listed_pair_at s.map.now s.list.now c.args.n c.requires)
