use Rattle.std.proofs.Common.{map}
use Rattle.record.proofs.Lists.{few_kinds}
use Rattle.count.specs.CountView.{kinds_of, signals_of, state_of}
use Rattle.count.proofs.Sound.{checked}
use Rattle.count.proofs.TakenOver.{few_signals}
use Rattle.relay.specs.Asked.{asked}
use Rattle.relay.proofs.Resumed.{resumed, goes_on, refuses_on}
use Rattle.relay.proofs.resumes.resume.Goals as goal

abbrev tells : goal.returns-clause-tells
tells g c =
    let ear = g.L.Listener.ear in
    let one = c.carry_out_all.new in
    let two = c.carry_out_all-2.new in
    let three = c.carry_out_all-3.new in
    resumed g.B.Board.present c.args.count.now one.count two.count three.count
    (map asked c.args.earlier.now) c.args.handed.now (map asked c.args.later.now)
    (ear c.args.listener.now) (ear one.listener) (ear two.listener) (ear three.listener)
    c.carry_out_all.ensures c.carry_out_all-2.ensures c.carry_out_all-3.ensures

pub returns-clause-tells : goal.returns-clause-tells
returns-clause-tells g c = tells g c

pub returns-clause-goes_on : goal.returns-clause-goes_on
returns-clause-goes_on g c =
    let d = c.args.count.now in
    goes_on (signals_of d) (kinds_of d) (state_of g.B.Board.present d)
    (map asked c.args.earlier.now) c.args.handed.now (map asked c.args.later.now) _ _
    (tells g c).tells (checked d.rows) (few_kinds d.rows.routine.table) (few_signals d.rows)

pub returns-clause-refused : goal.returns-clause-refused
returns-clause-refused g c =
    let d = c.args.count.now in
    refuses_on (signals_of d) (kinds_of d) (state_of g.B.Board.present d)
    (map asked c.args.earlier.now) c.args.handed.now (map asked c.args.later.now) _ _
    (tells g c).tells
