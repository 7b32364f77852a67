use Rattle.std.proofs.Common.{ℕ, List, take, nat_eq, option_map, sym, ap, ◌∙◌}
use Rattle.std.proofs.lemmas.Cmp.{nat_eq_equiv}
use Rattle.std.specs.Map.Iter.{deref_pair}
use Rattle.am_ordered.specs.{insert_entry}
use Rattle.am_ordered.proofs.CopyLemmas.{is_new, row_taken}
use Rattle.am_ordered.proofs.RowLemmas.{inserted_last}
use Rattle.am_daemon.proofs.known.copy_row.Goals as goal

pub returns-clause-entries : goal.returns-clause-entries
returns-clause-entries c =
    let fs = c.in-Some.fs.now in
    let place = c.in-Some.place.now in
    let rows = c.args.places.now.entries in
    let before = take c.args.index rows in
    let there = sym c.get_index.ensures ∙ ap (option_map deref_pair) c.in-Some.is in
    c.insert_reserved.ensures.entries
    ∙ ap (λ (es : List (ℕ × List (List ℕ))). insert_entry nat_eq es fs c.in_ok-copy.field-0) c.requires.before
    ∙ ap (λ (path : List (List ℕ)). insert_entry nat_eq before fs path) c.in_ok-copy.ensures
    ∙ inserted_last nat_eq fs place before (is_new nat_eq nat_eq_equiv rows c.args.index (fs, place) c.requires.unique there)
    ∙ sym (row_taken rows c.args.index (fs, place) there)
