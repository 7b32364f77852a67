use Rattle.std.proofs.Common.{◌≡◌, ℕ, Some, get_or, sym, ap, ◌∙◌}
use Rattle.std.specs.Prelude.{slice_get}
use Rattle.std.specs.Map.Iter.{deref_pair}
use Rattle.std.specs.Option.{option_map}
use Rattle.std.proofs.lemmas.Option.{same_Some}
use Rattle.am_expire.specs.{no_use, rows_in}
use Rattle.am_expire.proofs.PlaceLemmas.{part_row, some_where_mapped}
use Rattle.am_expire.proofs.order.Part.row.Goals as goal

pub unwrap-requires : goal.unwrap-requires
unwrap-requires c =
    let part = c.args.self.now in
    let uses = part.triggers.now.rows.uses in
    let place = c.index-place.result.now in
    let there : slice_get uses place ≡ Some (get_or (rows_in part) c.args.index no_use) =
    ap (slice_get uses) c.index-place.ensures ∙ part_row part c.requires.part c.args.index place c.requires.within in
    some_where_mapped deref_pair c.use_ref.result _ (c.use_ref.ensures ∙ there)

pub returns : goal.returns
returns c =
    let part = c.args.self.now in
    let uses = part.triggers.now.rows.uses in
    let place = c.index-place.result.now in
    let there : slice_get uses place ≡ Some (get_or (rows_in part) c.args.index no_use) =
    ap (slice_get uses) c.index-place.ensures ∙ part_row part c.requires.part c.args.index place c.requires.within in
    same_Some (deref_pair c.unwrap.result) (get_or (rows_in part) c.args.index no_use)
    (sym (ap (option_map deref_pair) c.unwrap.ensures) ∙ c.use_ref.ensures ∙ there)
