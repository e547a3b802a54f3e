use Rattle.std.proofs.Common.{rules, ◌≡◌, refl}
use Rattle.pieces.proofs.BorderLemmas.{grown-over}
use Rattle.pieces.proofs.replace.insert_vec.Goals as goal

pub returns-then-grow-clause-items : goal.returns-then-grow-clause-items
returns-then-grow-clause-items c =
    let here : c.args.hint.begin ≡ c.args.place = search rules in
    grown-over c.args.place c.args.address c.args.hint.piece c.args.hint.begin
    c.args.pieces.now.items c.grow.new.pieces.items c.requires.solid c.requires.hint here
    (c.if-grow.ensures.items refl)
