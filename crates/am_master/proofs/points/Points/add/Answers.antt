use Rattle.std.proofs.Common.{◌≡◌, false, refl, List, ◌∷◌, ◌++◌, [], sym, ap, ◌∙◌, map}
use Rattle.std.specs.Str.{bytes_eq}
use Rattle.std.specs.List.{list_any}
use Rattle.am_names.specs.{text_of}
use Rattle.am_master.specs.{Point, Placed, placed_at}
use Rattle.am_master.proofs.TextLemmas.{insert_new}
use Rattle.am_master.proofs.points.Points.add.Goals as goal

pub returns-in_ok-insert-clause-ok : goal.returns-in_ok-insert-clause-ok
returns-in_ok-insert-clause-ok c =
    let pairs = c.self.inside.places.entries in
    let text = text_of c.in-Indirect.path in
    let text_is : c.in_ok-text.text.items ≡ text = c.in_ok-text.ensures.items ∙ c.text.ensures.text in
    let none : list_any (λ (p : Placed). bytes_eq text p.0) (map (λ e. (e.0.items, e.1)) pairs) ≡ false = ap (list_any (λ (p : Placed). bytes_eq text p.0)) c.self.view_is ∙ (rw c.in-Indirect.is at c.requires) in
    ap (map (λ e. (e.0.items, e.1))) c.in_ok-insert.ensures.entries
    ∙ insert_new (λ key. key.items) _ (λ x y. refl) text pairs c.in_ok-text.text c.args.at text_is none
    ∙ ap (λ (points : List Placed). points ++ (text, c.args.at) ∷ []) c.self.view_is
    ∙ ap (λ (point : Point). c.args.self.now ++ placed_at c.args.at point) (sym c.in-Indirect.is)
