use Rattle.am_script.proofs.PlayerLemmas.{flush_stands, flush_loses}
use Rattle.am_script.proofs.player.Player.flush.Goals as goal

pub returns-in-None-clause-ok : goal.returns-in-None-clause-ok
returns-in-None-clause-ok g c = λ form front start stands.
    flush_stands form c.args.self.now.place c.args.self.now.number c.args.self.now.summary c.args.self.now.output c.flush.new.self front start _ _ c.flush.ensures.settles stands

pub returns-in-Some-clause-err : goal.returns-in-Some-clause-err
returns-in-Some-clause-err g c = λ form front start stands.
    flush_loses form c.args.self.now.place c.args.self.now.number c.args.self.now.summary c.args.self.now.output c.flush.new.self front c.in-Some.line start _ _ c.flush.ensures.settles c.in-Some.is stands
