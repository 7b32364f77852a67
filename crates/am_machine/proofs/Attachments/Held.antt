-- The daemon holds an attachment to a file system: its attachments by their file systems.
use Rattle.std.proofs.Common.{◌≡◌, ℕ, ◌≤◌, ◌==◌, false, List, map, filter, Some, ap, ◌∙◌}
use Rattle.std.specs.Prelude.{not, find}
use Rattle.std.specs.List.{All}
use Rattle.std.specs.Option.{option_map}
use Rattle.std.proofs.lemmas.List.Elements.{All-push, All-filter}
use Rattle.am_names.proofs.Basics.{equal_to_itself, differ_the_other_way}
use Rattle.am_state.specs.{HeldRow}
use Rattle.am_daemon.specs.{held_as}
use Rattle.am_machine.specs.{AreDifferent}
use Rattle.am_machine.proofs.Lists.Found.{find_others, find_new, absent, different_more, gone, found_left}
use Rattle.am_machine.proofs.Lists.Different.{differ_filter}

module _ (held : List HeldRow) (fs attach : ℕ) where
  abbrev left : List HeldRow
  left = filter (λ (row : HeldRow). not (row.fs == fs)) held

  abbrev new : HeldRow
  new = record { fs = fs; attach = attach }

  -- it holds this one, of the file system
  pub held_new : option_map (λ (row : HeldRow). row.attach) (find (λ (row : HeldRow). row.fs == fs) (held_as fs attach held)) ≡ Some attach
  held_new =
      ap (option_map (λ (row : HeldRow). row.attach))
      (find_new (λ (row : HeldRow). row.fs == fs) left new (absent (λ (row : HeldRow). row.fs) fs left (gone (λ (row : HeldRow). row.fs) fs held)) (equal_to_itself fs))

  -- and of the others what it held
  pub held_others : (f : ℕ) → (fs == f) ≡ false → option_map (λ (row : HeldRow). row.attach) (find (λ (row : HeldRow). row.fs == f) (held_as fs attach held)) ≡ option_map (λ (row : HeldRow). row.attach) (find (λ (row : HeldRow). row.fs == f) held)
  held_others f other =
      ap (option_map (λ (row : HeldRow). row.attach))
      (find_others (λ (row : HeldRow). row.fs == f) left new other ∙ found_left (λ (row : HeldRow). row.fs) fs f held (differ_the_other_way fs f other))

  pub held_differ : AreDifferent (map (λ (row : HeldRow). row.fs) held) → AreDifferent (map (λ (row : HeldRow). row.fs) (held_as fs attach held))
  held_differ h =
      different_more (λ (row : HeldRow). row.fs) left new (differ_filter (λ (row : HeldRow). row.fs) (λ (row : HeldRow). not (row.fs == fs)) held h) (gone (λ (row : HeldRow). row.fs) fs held)

  pub held_below : (last : ℕ) → fs ≤ last → All (λ (row : HeldRow). row.fs ≤ last) held → All (λ (row : HeldRow). row.fs ≤ last) (held_as fs attach held)
  held_below last le h =
      All-push (λ (row : HeldRow). row.fs ≤ last) left new (All-filter (λ (row : HeldRow). not (row.fs == fs)) (λ (row : HeldRow). row.fs ≤ last) held h) le
