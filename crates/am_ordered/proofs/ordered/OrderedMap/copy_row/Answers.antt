use Rattle.std.proofs.Common.{take, is_some, option_map, sym, ap, ◌∙◌}
use Rattle.std.specs.Map.{lookup}
use Rattle.std.specs.Map.Iter.{deref_pair}
use Rattle.indexmap.specs.IndexMap.{insert_entry}
use Rattle.am_ordered.proofs.CopyLemmas.{is_new, row_taken, none_taken}
use Rattle.am_ordered.proofs.RowLemmas.{inserted_last}
use Rattle.am_ordered.proofs.ordered.OrderedMap.copy_row.Goals as goal

pub append-requires-clause-fresh : goal.append-requires-clause-fresh
append-requires-clause-fresh g c =
    let eq = g.K.PartialEq.eq in
    let key = c.in-Some.key.now in
    ap is_some (ap (lookup (eq key)) c.requires.before ∙ is_new eq g.met.K.Eq.laws c.args.other.now.entries c.args.index (key, c.in-Some.value.now) c.requires.unique (sym c.get_index.ensures ∙ ap (option_map deref_pair) c.in-Some.is))

pub returns-in-Some-clause-entries : goal.returns-in-Some-clause-entries
returns-in-Some-clause-entries g c =
    let eq = g.K.PartialEq.eq in
    let key = c.in-Some.key.now in
    let value = c.in-Some.value.now in
    let rows = c.args.other.now.entries in
    let there = sym c.get_index.ensures ∙ ap (option_map deref_pair) c.in-Some.is in
    c.append.ensures.entries
    ∙ ap (λ rows. insert_entry eq rows key value) c.requires.before
    ∙ inserted_last eq key value (take c.args.index rows) (is_new eq g.met.K.Eq.laws rows c.args.index (key, value) c.requires.unique there)
    ∙ sym (row_taken rows c.args.index (key, value) there)

pub returns-in_default-clause-entries : goal.returns-in_default-clause-entries
returns-in_default-clause-entries g c =
    c.requires.before ∙ sym (none_taken c.args.other.now.entries c.args.index (sym c.get_index.ensures ∙ ap (option_map deref_pair) c.in_default.is))
