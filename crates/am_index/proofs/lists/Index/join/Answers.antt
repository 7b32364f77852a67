use Rattle.std.proofs.Common.{◌<◌, length, arith, rules}
use Rattle.am_index.specs.{listed}
use Rattle.am_index.proofs.JoinLemmas.{joins_back, joins_more}
use Rattle.am_index.proofs.lists.Index.join.Goals as goal

pub returns-in-Err-clause-err : goal.returns-in-Err-clause-err
returns-in-Err-clause-err c =
    joins_back c.loop-at.at c.args.from c.args.to c.args.self.now c.loop-at.self c.make_room.new.self c.part.new.self
    c.requires.others c.loop-at.invariant.1 c.make_room.ensures.same c.part.ensures

pub loop-at-preserved : goal.loop-at-preserved
loop-at-preserved c =
    let within : c.loop-at.at < length (listed c.args.self.now c.args.from) = search rules in (
      omega arith,
      joins_more c.loop-at.at c.args.from c.args.to _ c.args.self.now c.loop-at.self c.make_room.new.self c.put.new.self
          c.requires.others within (search rules) c.loop-at.invariant.1 c.make_room.ensures.same c.put.ensures,
    )
