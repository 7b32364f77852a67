use Rattle.std.proofs.Common.{◌<◌, ◌==◌, ◌++◌, ◌∷◌, [], List, ℕ, sym, ap, subst, ◌∙◌, arith}
use Rattle.std.specs.Prelude.{find, nat_eq}
use Rattle.std.specs.Map.{values_of}
use Rattle.indexmap.specs.IndexMap.{spare, insert_entry}
use Rattle.am_names.proofs.Basics.{holds_where_ok}
use Rattle.am_trigger.specs.{Autofs}
use Rattle.am_trigger.specs.FileSystemTable.{FileSystemTable}
use Rattle.am_trigger.specs.FileSystemView.{AreAtTheirs}
use Rattle.am_trigger.proofs.FileSystemLemmas.{new_goes_last, new_at_its}
use Rattle.am_trigger.proofs.file_systems.FileSystems.push_reserved.Goals as goal

pub invariant_of-self : goal.invariant_of-self
invariant_of-self c =
    let old = c.self.inside.entries.entries in
    let there = ap (λ (t : FileSystemTable). t.room) c.self.view_is in
    let room : 0 < spare c.self.inside.entries = omega (arith, c.requires.room, there, c.self.invariant.room) in
    let entries = holds_where_ok c.insert-none.result (c.insert-none.ensures.succeeds room) c.insert-none.ensures.entries in
    let its = ap (λ (r : Autofs). r.fs) c.row.view_is in
    record {
      numbers = subst (λ (es : List (ℕ × Autofs)). AreAtTheirs es) (sym (entries ∙ ap (λ (n : ℕ). insert_entry nat_eq old n c.args.row) its))
          (new_at_its c.args.row old c.self.invariant.numbers);
      room = omega (arith, c.requires.room, there, c.self.invariant.room, c.insert-none.ensures.spare);
    }

pub returns-clause-rows : goal.returns-clause-rows
returns-clause-rows c =
    let old = c.self.inside.entries.entries in
    let there = ap (λ (t : FileSystemTable). t.room) c.self.view_is in
    let room : 0 < spare c.self.inside.entries = omega (arith, c.requires.room, there, c.self.invariant.room) in
    let entries = holds_where_ok c.insert-none.result (c.insert-none.ensures.succeeds room) c.insert-none.ensures.entries in
    let its = ap (λ (r : Autofs). r.fs) c.row.view_is in
    let fresh = ap (λ (t : FileSystemTable). find (λ (other : Autofs). other.fs == c.args.row.fs) t.rows) c.self.view_is ∙ c.requires.fresh in
    ap (λ (es : List (ℕ × Autofs)). values_of es) (entries ∙ ap (λ (n : ℕ). insert_entry nat_eq old n c.args.row) its)
    ∙ new_goes_last c.args.row old c.self.invariant.numbers fresh
    ∙ ap (λ (t : FileSystemTable). t.rows ++ c.args.row ∷ []) c.self.view_is
