-- `enter` loads the card and answers the place of its last record, which is the root: a card in good standing can be loaded, and the map
-- begins with the place of each of its records.
use Rattle.std.specs.Prelude.{refl}
use Rattle.language.proofs.Laws.Words.{bytes_all}
use Rattle.loading.proofs.Laws.Entering.{loadable, some_last, last_mapped, root_stands, entered_at, entered_grows}
use Rattle.loading.proofs.entering.enter.Goals as goal

pub load-requires : goal.load-requires
load-requires c = loadable c.args.card.now _ c.requires refl

pub returns-in_err-load-clause-grows : goal.returns-in_err-load-clause-grows
returns-in_err-load-clause-grows c =
    entered_grows c.args.work.now c.args.card.now (bytes_all c.args.card.now (λ i. (c.type_inv.card i).fits)) c.requires
    c.load.ensures.loads

pub overflow_sub-result : goal.overflow_sub-result
overflow_sub-result c = some_last c.args.card.now c.requires

pub bounds-map-card : goal.bounds-map-card
bounds-map-card c = last_mapped c.args.card.now c.requires

pub returns-clause-enters : goal.returns-clause-enters
returns-clause-enters c =
    entered_at c.args.work.now c.args.card.now (bytes_all c.args.card.now (λ i. (c.type_inv.card i).fits)) c.requires
    c.load.ensures.loads c.load.new.map c.load.ensures.mapped c.in_ok-load.was

pub returns-clause-inside : goal.returns-clause-inside
returns-clause-inside c =
    root_stands c.args.work.now c.args.card.now (bytes_all c.args.card.now (λ i. (c.type_inv.card i).fits)) c.requires
    c.load.ensures.loads c.load.new.map c.load.ensures.mapped c.in_ok-load.was

pub returns-clause-grows : goal.returns-clause-grows
returns-clause-grows c =
    entered_grows c.args.work.now c.args.card.now (bytes_all c.args.card.now (λ i. (c.type_inv.card i).fits)) c.requires
    c.load.ensures.loads
