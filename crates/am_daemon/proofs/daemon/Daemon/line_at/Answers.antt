use Rattle.std.proofs.Common.{◌≡◌, refl, ap, sym, ◌∙◌, Some}
use Rattle.std.proofs.lemmas.Option.{slice_get_past, slice_get_read}
use Rattle.std.specs.Prelude.{find, slice_get}
use Rattle.am_names.proofs.Basics.{none_is_not_some}
use Rattle.am_names.specs.{names_of}
use Rattle.am_daemon.specs.{Line, has_point, lines_of, DaemonTable, rows_of}
use Rattle.am_daemon.specs.Lent.{line_in}
use Rattle.am_daemon.proofs.LineLemmas.{line_is, no_line, none_beside, one_beside}
use Rattle.am_daemon.proofs.daemon.Daemon.line_at.Goals as goal

pub returns-in_err-at : goal.returns-in_err-at
returns-in_err-at c =
    ap line_in c.from_residual.ensures
    ∙ sym (no_line (names_of c.args.path.now) c.self.inside.master c.self.inside.maps.items (sym c.in_err-at.ensures))
    ∙ ap (λ (t : DaemonTable). find (λ (line : Line). has_point (names_of c.args.path.now) line.1.0.point) (lines_of (rows_of t))) c.self.view_is

pub returns-in_err-line : goal.returns-in_err-line
returns-in_err-line c =
    let line = line_is (names_of c.args.path.now) c.self.inside.master c.self.inside.maps.items c.in_ok-at.at (sym c.in_ok-at.ensures) in
    let past = slice_get_past c.self.inside.master c.in_ok-at.at (rw c.entries.ensures at c.in_err-line.ensures.lookup.3) in
    absurd (none_is_not_some _ (sym past ∙ line.1.row_is))

pub returns-in_err-map : goal.returns-in_err-map
returns-in_err-map c =
    let line = line_is (names_of c.args.path.now) c.self.inside.master c.self.inside.maps.items c.in_ok-at.at (sym c.in_ok-at.ensures) in
    let past = slice_get_past c.self.inside.maps.items c.in_ok-at.at (rw c.deref.ensures.value at c.in_err-map.ensures.lookup.3) in
    ap line_in c.from_residual-in_err-map.ensures
    ∙ sym (none_beside (names_of c.args.path.now) c.self.inside.master c.self.inside.maps.items c.in_ok-at.at line.0 line.1 past)
    ∙ ap (λ (t : DaemonTable). find (λ (line : Line). has_point (names_of c.args.path.now) line.1.0.point) (lines_of (rows_of t))) c.self.view_is

pub returns : goal.returns
returns c =
    let at = c.in_ok-at.at in
    let line = line_is (names_of c.args.path.now) c.self.inside.master c.self.inside.maps.items at (sym c.in_ok-at.ensures) in
    let row_is : slice_get c.self.inside.master at ≡ Some c.in_ok-line.line.now = slice_get_read c.self.inside.master _ at c.in_ok-line.line.now refl (rw c.entries.ensures at c.in_ok-line.ensures.lookup.3.0) (rw c.entries.ensures at c.in_ok-line.ensures.lookup.1) in
    let map_is : slice_get c.self.inside.maps.items at ≡ Some c.in_ok-map.map.now = slice_get_read c.self.inside.maps.items _ at c.in_ok-map.map.now refl (rw c.deref.ensures.value at c.in_ok-map.ensures.lookup.3.0) (rw c.deref.ensures.value at c.in_ok-map.ensures.lookup.1) in
    sym (one_beside (names_of c.args.path.now) c.self.inside.master c.self.inside.maps.items at line.0 c.in_ok-line.line.now c.in_ok-map.map.now line.1 row_is map_is)
    ∙ ap (λ (t : DaemonTable). find (λ (line : Line). has_point (names_of c.args.path.now) line.1.0.point) (lines_of (rows_of t))) c.self.view_is
