use Rattle.std.proofs.Common.{ap, ◌∙◌, List}
use Rattle.std.specs.Prelude.{find}
use Rattle.std.specs.Option.{option_map}
use Rattle.am_map.specs.EntryText.{EntryText}
use Rattle.am_map.specs.{Row, has_key}
use Rattle.am_map.proofs.StoredLemmas.{lookup_is}
use Rattle.am_map.proofs.map.Map.line_with.Goals as goal

pub returns : goal.returns
returns c =
    c.get.ensures.value ∙ lookup_is (λ key. key.items) c.args.key.now c.self.inside.rows.entries
    ∙ ap (λ (rows : List Row). option_map {T = Row} {U = EntryText} (λ row. row.entry) (find (has_key c.args.key.now) rows)) c.self.view_is
