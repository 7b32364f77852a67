use Rattle.std.proofs.Common.{◌≡◌, map, ℕ, List, None, Some, sym, ap, subst, ◌∙◌, arith}
use Rattle.std.specs.Prelude.{nat_eq}
use Rattle.std.specs.Map.{lookup, values_of}
use Rattle.std.specs.Option.{option_copied_mut}
use Rattle.am_trigger.specs.{Autofs, catatonic_row}
use Rattle.am_trigger.specs.FileSystemTable.{FileSystemTable}
use Rattle.am_trigger.specs.FileSystemView.{AreAtTheirs, IsNumbered}
use Rattle.am_trigger.specs.declared.file_systems.FileSystems.TheInside.{Inside}
use Rattle.am_trigger.proofs.FileSystemLemmas.{none_changes, one_changes, changed_at_its, found_has_its}
use Rattle.am_trigger.proofs.file_systems.FileSystems.set_catatonic.Goals.{in-Some, in_default}
use Rattle.am_trigger.proofs.file_systems.FileSystems.set_catatonic.Goals as goal

pub invariant_of-self : goal.invariant_of-self
invariant_of-self c =
    let i = c.self.inside in
    let fs = c.fs.inside.0 in
    elim c.match-get_mut.branch [
      | in-Some w ↦
          let row : Autofs = w.in-Some.row.now in
          let new : Autofs = record row { catatonic = c.args.catatonic } in
          let writes = c.get_mut.follows.holds new in
          let found : lookup (nat_eq fs) i.entries.entries ≡ Some row = sym c.get_mut.ensures.value ∙ ap (λ o. option_copied_mut o) w.in-Some.is in
          let its = found_has_its fs row i.entries.entries c.self.invariant.numbers found in
          subst (λ (inside : Inside). IsNumbered inside) (sym w.self-inside-is) (record {
            numbers = subst (λ (es : List (ℕ × Autofs)). AreAtTheirs es) (sym writes.0) (changed_at_its fs new i.entries.entries c.self.invariant.numbers its);
            room = omega (arith, writes.6, c.self.invariant.room);
          })
      | in_default w ↦
          let same = c.get_mut.follows.holds-at-none in
          subst (λ (inside : Inside). IsNumbered inside) (sym w.self-inside-is) (rw same (record { numbers = c.self.invariant.numbers; room = c.self.invariant.room }))
    ]

pub returns-clause-rows : goal.returns-clause-rows
returns-clause-rows c =
    let i = c.self.inside in
    let fs = c.fs.inside.0 in
    let rows = ap (λ (t : FileSystemTable). map (catatonic_row c.args.fs c.args.catatonic) t.rows) c.self.view_is in
    let number = ap (λ (n : ℕ). map (catatonic_row n c.args.catatonic) (values_of i.entries.entries)) c.fs.view_is in
    elim c.match-get_mut.branch [
      | in-Some w ↦
          let row : Autofs = w.in-Some.row.now in
          let new : Autofs = record row { catatonic = c.args.catatonic } in
          let writes = c.get_mut.follows.holds new in
          let found : lookup (nat_eq fs) i.entries.entries ≡ Some row = sym c.get_mut.ensures.value ∙ ap (λ o. option_copied_mut o) w.in-Some.is in
          ap (λ (inside : Inside). values_of inside.entries.entries) w.self-inside-is
          ∙ ap (λ (es : List (ℕ × Autofs)). values_of es) writes.0
          ∙ one_changes fs c.args.catatonic row i.entries.entries c.self.invariant.numbers c.get_mut.ensures.unique found
          ∙ number ∙ rows
      | in_default w ↦
          let same = c.get_mut.follows.holds-at-none in
          let none : lookup (nat_eq fs) i.entries.entries ≡ None = sym c.get_mut.ensures.value ∙ ap (λ o. option_copied_mut o) w.in_default.is in
          ap (λ (inside : Inside). values_of inside.entries.entries) w.self-inside-is
          ∙ ap (λ m. values_of m.entries) same
          ∙ none_changes fs c.args.catatonic i.entries.entries c.self.invariant.numbers none
          ∙ number ∙ rows
    ]
