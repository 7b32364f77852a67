use Rattle.std.proofs.Common.{◌≡◌, ◌-◌, ℕ, List, ◌++◌, length, Option, option_copied, sym, ap, ap₂, ◌∙◌, subst}
use Rattle.am_names.specs.{Position, text_of}
use Rattle.am_script.specs.{Puts}
use Rattle.am_script.proofs.Pieces.{puts_two}
use Rattle.am_draw.specs.{between, path_to, tree_rows, xml}
use Rattle.am_draw.proofs.MountPathLemmas.{path_dots, path_step, xml_two}
use Rattle.am_draw.proofs.mount_paths.+put_between.Goals as goal

pub returns-then-most-eq0 : goal.returns-then-most-eq0
returns-then-most-eq0 g t c =
    let contents = g.W.Write.contents in
    let rows = tree_rows c.args.rows.now in
    let from = c.args.from in
    let to = c.args.to in
    let dots = path_dots c.args.most rows c.in-Some.point.now c.if-most-eq0.true in
    subst (λ (x : List ℕ). Puts c.args.output.now c.put_xml.new.output (xml x) (contents c.args.writer.now) (contents c.put_xml.new.writer))
    (c.between.ensures ∙ ap (between from to) (sym (ap (λ o. path_to c.args.most rows (option_copied o)) c.in-Some.is ∙ dots)))
    c.put_xml.ensures

pub returns : goal.returns
returns g t c =
    let contents = g.W.Write.contents in
    let rows = tree_rows c.args.rows.now in
    let most = c.args.most in
    let from = c.args.from in
    let to = c.args.to in
    let place = text_of c.in-Some.point.now.place in
    let front = path_to (most - 1) rows (option_copied c.point_of-above.result) in
    let long = c.path_length-length.ensures.length in
    let rest : c.between-2.result.now ≡ between (from - length front) (to - length front) place =
    c.between-2.ensures
    ∙ ap₂ (λ (f u : ℕ). between f u c.text.result.now) (c.saturating_sub-from_here.ensures ∙ ap (λ (n : ℕ). from - n) long) (c.saturating_sub-to_here.ensures ∙ ap (λ (n : ℕ). to - n) long)
    ∙ ap (between (from - length front) (to - length front)) c.text.ensures.text in
    let step : path_to most rows (option_copied c.args.point) ≡ front ++ place =
    ap (λ o. path_to most rows (option_copied o)) c.in-Some.is
    ∙ path_step most rows c.in-Some.point.now c.if-most-eq0.false
    ∙ ap (λ (o : Option Position). path_to (most - 1) rows o ++ place) (sym c.point_of-above.ensures) in
    subst (λ (x : List ℕ). Puts c.args.output.now c.put_xml-2.new.output x (contents c.args.writer.now) (contents c.put_xml-2.new.writer))
    (ap (λ (r : List ℕ). xml (between from to front) ++ xml r) rest
    ∙ xml_two from to front place
    ∙ ap (λ (p : List ℕ). xml (between from to p)) (sym step))
    (puts_two _ _ _ _ _ _ _ _ c.put_between.ensures c.put_xml-2.ensures)
