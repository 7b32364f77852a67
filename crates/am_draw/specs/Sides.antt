-- What is said at the sides of a row, as the code holds it. For the code alone:
-- own choice.
use Rattle.am_draw.specs.declared.scene.Said.{Said}
use Rattle.am_draw.specs.Rows.{RowSides, labels}

-- the labels that it has the words of
abbrev pub sides_said : Said → RowSides
sides_said said = record {
  words = labels said.number said.event.items said.answer.items said.went;
  went = said.went;
}
