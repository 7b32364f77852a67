use Rattle.std.proofs.Common.{rules, tests, ap, ◌∙◌}
use Rattle.std.specs.Prelude.{find}
use Rattle.std.proofs.lemmas.Iterator.{YieldsList-from_slice, YieldsList-from_zip}
use Rattle.std.proofs.lemmas.Iterator.Consumers.{YieldsList-at, YieldsList-from_enumerate}
use Rattle.std.proofs.lemmas.Iterator.Search.{find_from_yields_List}
use Rattle.am_names.specs.{names_of}
use Rattle.am_daemon.specs.{Line, has_key, lines_of, DaemonTable, rows_of}
use Rattle.am_daemon.proofs.daemon.Daemon.line_with_key.Goals as goal

pub returns : goal.returns
returns c =
    find_from_yields_List (λ (line : Line). has_key (names_of c.args.path.now) line.1.0.point line.1.1) c.find.new.self _ _ c.find.ensures.ran
    (YieldsList-from_enumerate (YieldsList-at c.enumerate.ensures.source (YieldsList-from_zip (YieldsList-at c.zip.ensures.first (YieldsList-from_slice c.self.inside.master cc)) (YieldsList-at c.zip.ensures.second (YieldsList-from_slice c.self.inside.maps.items cc)))) c.enumerate.ensures.count)
    (λ x b q k. search (rules, tests))
    ∙ ap (λ (t : DaemonTable). find (λ (line : Line). has_key (names_of c.args.path.now) line.1.0.point line.1.1) (lines_of (rows_of t))) c.self.view_is
