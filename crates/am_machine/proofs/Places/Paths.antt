-- A path that is followed with the traps off leads to a mount of its namespace.
use Rattle.std.proofs.Common.{◌≡◌, ◌≤◌, ◌+◌, ℕ, zero, suc, Bool, true, false, cond, List, [], ◌∷◌, ◌++◌, length, reverse, Option, Some, None, refl, sym, ◌∙◌, ap, subst, arith}
use Rattle.std.specs.Prelude.{◌==◌, ◌||◌, is_none, find, IfSome, Ok}
use Rattle.std.specs.Option.{option_map}
use Rattle.std.proofs.lemmas.Bool.{eqb-true, eq-eqb, ne_eqb, and_parts}
use Rattle.am_names.specs.declared.errno.Errno.TheVariants.{ENOENT}
use Rattle.am_names.specs.declared.trigger.Trigger.{Trigger}
use Rattle.am_names.specs.{MountRow, Position}
use Rattle.am_names.proofs.Basics.{some_injective}
use Rattle.am_group.proofs.LookupLemmas.{found_passes}
use Rattle.am_mount.specs.{RiseFrom, mount_row, top_of, HasRow, IsIn, IsTop}
use Rattle.am_mount.specs.Rows as rows
use Rattle.am_mount.proofs.RowLemmas.{top_is, some_greatest}
use Rattle.am_propagate.specs.{IsWhole}
use Rattle.am_trigger.specs.{Autofs, is_made, trigger_in}
use Rattle.am_walk.specs.{Next, autofs_at, has_names, if_entered, at_directory, at_autofs, at_site, next_at, Visit, Stands, Stops, followed, settled_within, settled, onward, after, visit_from, visit_of, ended, reached}
use Rattle.am_walk.specs.declared.stop.Next.TheVariants as nexts
use Rattle.am_walk.specs.declared.stop.Stop.TheVariants as stops
use Rattle.am_walk.proofs.RestLemmas.{IsHalt, IsTopIn}
use Rattle.am_kernel.specs.{KernelState, open_scene, position_at}
use Rattle.am_machine.proofs.Places.Rows.{parent_row}

-- ---- what is entered is the top

entered_top : (top : Option ℕ) (others : Next) → IsTopIn top others → IsTopIn top (if_entered top others)
entered_top (Some mount) others h = refl
entered_top None others h = h

directory_top : (top : Option ℕ) (b : Bool) → IsTopIn top (cond b nexts.Rests (nexts.Halts (stops.Refuse ENOENT)))
directory_top top true = tt
directory_top top false = tt

module _ (k : KernelState) where
  autofs_top : (row : Autofs) (trigger : Option Trigger) (mount : ℕ) (place : List (List ℕ)) → IsTopIn (top_of k.table.rows mount place) (at_autofs (open_scene k) row trigger mount place)
  autofs_top row None mount place = entered_top (top_of k.table.rows mount place) nexts.Rests tt
  autofs_top row (Some trigger) mount place = entered_top (top_of k.table.rows mount place) (at_directory (open_scene k) row trigger) (directory_top (top_of k.table.rows mount place) (row.direct || is_made k.triggers trigger))

  site_top : (row : Option Autofs) (mount : ℕ) (place : List (List ℕ)) → IsTopIn (top_of k.table.rows mount place) (at_site (open_scene k) row mount place)
  site_top None mount place = entered_top (top_of k.table.rows mount place) nexts.Rests tt
  site_top (Some row) mount place = autofs_top row (trigger_in row place) mount place

-- ---- a root is found by its own number

record IsFound (mounts : List MountRow) (low : ℕ) (row : MountRow) : Type 0 where
  above : low ≤ row.mount
  is_row : mount_row mounts row.mount ≡ Some row

found_itself : (test : MountRow → Bool) (low : ℕ) (mounts : List MountRow) → RiseFrom low mounts → (row : MountRow) → find test mounts ≡ Some row → IsFound mounts low row
found_itself test low [] rises row e = absurd cc
found_itself test low (x ∷ mounts) rises row e = go (test x) e (found_itself test (x.mount + 1) mounts rises.1 row)
  where
    go : (b : Bool) → cond b (Some x) (find test mounts) ≡ Some row → (find test mounts ≡ Some row → IsFound mounts (x.mount + 1) row) → IsFound (x ∷ mounts) low row
    go true e ih = subst (λ (r : MountRow). IsFound (x ∷ mounts) low r) (some_injective e) (record { above = rises.0; is_row = rw (eq-eqb x.mount x.mount refl) refl })
    go false e ih =
        let found = ih e in
        let first : low ≤ x.mount = rises.0 in
        let up : x.mount + 1 ≤ row.mount = found.above in
        record { above = omega arith; is_row = rw (ne_eqb x.mount row.mount (λ same. omega arith)) (found.is_row) }

-- ---- a walk stays in its namespace

module _ (k : KernelState) (whole : IsWhole k.table) (ns : ℕ) where
  abbrev StandsIn : Visit → Type 0
  StandsIn (Stands mount place passed) = HasRow (IsIn ns) k.table.rows mount
  StandsIn (Stops stop passed) = IsHalt stop

  below_inside : (mount below : ℕ) (place : List (List ℕ)) → top_of k.table.rows mount place ≡ Some below → HasRow (IsIn ns) k.table.rows mount → HasRow (IsIn ns) k.table.rows below
  below_inside mount below place e inside =
      let top : IsTop k.table.rows mount place below = subst (λ (o : Option ℕ). IfSome o (IsTop k.table.rows mount place)) e (some_greatest k.table.rows mount place (top_of k.table.rows mount place) (top_is k.table.rows whole.rising mount place)) in
      let parent = parent_row k.table whole below mount top.is_there.0 place top.is_there.1 top.is_there.2 in
      let same : parent.0 ≡ inside.0 = some_injective (sym parent.1 ∙ inside.1) in
      (top.is_there.0, top.is_there.1, sym parent.2 ∙ ap (λ (r : MountRow). r.ns) same ∙ inside.2)

  followed_inside : (next : Next) (mount : ℕ) (place : List (List ℕ)) (passed : List Trigger) (enter : ℕ → List Trigger → Visit) → IsTopIn (top_of k.table.rows mount place) next → HasRow (IsIn ns) k.table.rows mount →
      ((below : ℕ) (gs : List Trigger) → HasRow (IsIn ns) k.table.rows below → StandsIn (enter below gs)) → StandsIn (followed next mount place passed enter)
  followed_inside nexts.Rests mount place passed enter h inside later = inside
  followed_inside (nexts.Halts stop) mount place passed enter h inside later = h
  followed_inside (nexts.Enters below) mount place passed enter h inside later = later below passed (below_inside mount below place h inside)
  followed_inside (nexts.Passes below trigger) mount place passed enter h inside later = later below (passed ++ trigger ∷ []) (below_inside mount below place h inside)

  within_inside : (steps mount : ℕ) (place : List (List ℕ)) (passed : List Trigger) → HasRow (IsIn ns) k.table.rows mount → StandsIn (settled_within steps (open_scene k) mount place passed)
  within_inside zero mount place passed inside = inside
  within_inside (suc steps) mount place passed inside =
      followed_inside (next_at (open_scene k) mount place) mount place passed (λ m gs. settled_within steps (open_scene k) m [] gs) (site_top k (autofs_at (open_scene k) mount) mount place) inside (λ below gs h. within_inside steps below [] gs h)

  onward_by_cases : (b : Bool) (mount : ℕ) (place : List (List ℕ)) (passed : List Trigger) → HasRow (IsIn ns) k.table.rows mount → StandsIn (cond b (settled (open_scene k) mount place passed) (Stops (stops.Refuse ENOENT) passed))
  onward_by_cases true mount place passed inside = within_inside (length k.table.rows + 1) mount place passed inside
  onward_by_cases false mount place passed inside = tt

  onward_inside : (name : List ℕ) (visit : Visit) → StandsIn visit → StandsIn (onward (open_scene k) name visit)
  onward_inside name (Stops stop passed) h = h
  onward_inside name (Stands mount place passed) h = onward_by_cases (has_names (autofs_at (open_scene k) mount) place) mount (place ++ name ∷ []) passed h

  after_inside : (root : ℕ) (names : List (List ℕ)) → HasRow (IsIn ns) k.table.rows root → StandsIn (after (open_scene k) root names)
  after_inside root [] inside = within_inside (length k.table.rows + 1) root [] [] inside
  after_inside root (name ∷ earlier) inside = onward_inside name (after (open_scene k) root earlier) (after_inside root earlier inside)

  root_inside : (o : Option MountRow) → find (λ row. rows.is_root ns row) k.table.rows ≡ o → (names : List (List ℕ)) → StandsIn (visit_from (open_scene k) names (option_map (λ row. row.mount) o))
  root_inside None e names = tt
  root_inside (Some row) e names =
      let found = found_itself (λ r. rows.is_root ns r) 0 k.table.rows whole.rising row e in
      let passes : rows.is_root ns row ≡ true = found_passes (λ r. rows.is_root ns r) k.table.rows row e in
      after_inside row.mount (reverse names) (row, found.is_row, eqb-true row.ns ns (and_parts (row.ns == ns) (is_none row.mountpoint) passes).0)

  ended_inside : (visit : Visit) → StandsIn visit → (at : Position) → reached (ended visit).stop ≡ Ok at → HasRow (IsIn ns) k.table.rows at.mount
  ended_inside (Stands mount place passed) h at e = subst (λ (n : ℕ). HasRow (IsIn ns) k.table.rows n) (let same : mount ≡ at.mount = cc in same) h
  ended_inside (Stops (stops.Arrive other) passed) h at e = absurd h
  ended_inside (Stops (stops.Block token) passed) h at e = absurd cc
  ended_inside (Stops (stops.Missing trigger) passed) h at e = absurd cc
  ended_inside (Stops (stops.Refuse errno) passed) h at e = absurd cc

  pub position_inside : (names : List (List ℕ)) (at : Position) → position_at k ns names ≡ Ok at → HasRow (IsIn ns) k.table.rows at.mount
  position_inside names at e = ended_inside (visit_of (open_scene k) ns names) (root_inside (find (λ row. rows.is_root ns row) k.table.rows) refl names) at e
