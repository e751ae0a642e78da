-- `check_opened` loads the proof card and checks the list: a proof card in good standing can be loaded, the map then maps the list as the definition
-- does, and what the code answers of the list is told of the whole.
use mathlib.Core.Path.{refl}
use Rattle.language.proofs.Laws.Words.{bytes_all}
use Rattle.records.specs.Record.{records}
use Rattle.store.specs.Work.{store_of, space_of}
use Rattle.loading.specs.Loading.{load}
use Rattle.checking.proofs.Laws.Rooms.{both_inside}
use Rattle.checking.proofs.Laws.ProofCard.{ProofLoaded, loadable_proof, proof_full, proof_loaded, list_named, list_inside, told_of_list}
use Rattle.checking.proofs.opened.check_opened.Goals as goal
use Rattle.checking.proofs.opened.check_opened.Goals.{In_default}

pub load-requires : goal.load-requires
load-requires c = loadable_proof c.args.proof.now _ c.requires.good_proof.good refl

pub returns-in-Err-clause-tells : goal.returns-in-Err-clause-tells
returns-in-Err-clause-tells c =
    let a = c.args in
    proof_full a.proof.now (bytes_all a.proof.now (λ i. (c.type_inv.proof i).fits)) a.list.now c.requires.good_proof c.load.ensures.loads
    a.letters.now a.x a.y c.in-Err.is

-- What is known once the proof card was loaded.
loaded : (c : In_default)
    → ProofLoaded c.args.work.now c.args.proof.now (load (space_of c.args.work.now) (store_of c.args.work.now) (records c.args.proof.now)) c.load.new.map c.load.new.work
loaded c =
    let a = c.args in
    proof_loaded a.proof.now (bytes_all a.proof.now (λ i. (c.type_inv.proof i).fits)) a.list.now c.requires.good_proof c.load.ensures.loads
    c.load.ensures.mapped c.in_default.is

pub invariant_of-listed : goal.invariant_of-listed
invariant_of-listed c = record { named = list_named (loaded (goal.at.invariant_of-listed c).In_default) c.requires.good_proof }

pub check_list-requires-clause-inside : goal.check_list-requires-clause-inside
check_list-requires-clause-inside c = list_inside (loaded (goal.at.check_list-requires-clause-inside c).In_default) c.requires.good_proof

pub check_list-requires-clause-stand : goal.check_list-requires-clause-stand
check_list-requires-clause-stand c = both_inside (loaded (goal.at.check_list-requires-clause-stand c).In_default).leaves c.requires.stand

pub returns-clause-tells : goal.returns-clause-tells
returns-clause-tells c =
    let a = c.args in
    told_of_list (loaded (goal.at.returns-clause-tells c).In_default) c.requires.good_proof a.letters.now a.x a.y c.check_list.ensures.ends
