use Rattle.am_script.proofs.PlayerLemmas.{long_stops}
use Rattle.am_script.proofs.player.Player.stop_long.Goals as goal

pub returns : goal.returns
returns g c = λ form line long front start stands.
    long_stops form c.args.self.now.place c.args.self.now.number c.args.self.now.summary c.args.self.now.output front line start _ _ _ c.stop.ensures long stands
