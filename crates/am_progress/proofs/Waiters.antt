-- A walk that would wait on a missing token passes the trigger once the mount has come.
use Rattle.std.proofs.Common.{◌≡◌, ℕ, Bool, true, false, List, reverse, Option, Some, None, refl, sym, ap, subst, inl, inr, ⊎_elim, ◌∙◌}
use Rattle.std.specs.Prelude.{◌==◌, ◌||◌, is_none, is_some, find, if◌then◌else◌}
use Rattle.std.specs.Option.{option_map}
use Rattle.std.specs.List.{Contains}
use Rattle.std.proofs.lemmas.List.{reverse-reverse}
use Rattle.am_names.specs.declared.errno.Errno.TheVariants.{ENOENT, ELOOP}
use Rattle.am_names.specs.declared.fail_no.FailNo.{FailNo}
use Rattle.am_names.specs.{MountRow}
use Rattle.am_names.specs.declared.trigger.Trigger.{Trigger}
use Rattle.am_names.proofs.Basics.{both_of_and, equal_by_test, found_passes, some_injective}
use Rattle.am_mount.specs.{HasRow, IsAt, mount_row, root_of, top_of}
use Rattle.am_mount.specs.Rows.{is_root}
use Rattle.am_trigger.specs.{Autofs, autofs_of, place_of, trigger_in}
use Rattle.am_wait.proofs.KeptLemmas.{all_find, all_found}
use Rattle.am_walk.specs.{Next, Stands, Stop, Stops, Visit, after, at_autofs, at_site, autofs_at, ended, has_names, if_entered, if_failing, next_at, visit_from, visit_of, walk_of, RestsAt}
use Rattle.am_walk.specs.declared.stop.Next.TheVariants as nexts
use Rattle.am_walk.specs.declared.stop.Stop.TheVariants as stops
use Rattle.am_walk.specs.Scene.{Scene}
use Rattle.am_walk.proofs.RestLemmas.{rests}
use Rattle.am_kernel.specs.{KernelState, scene_of}
use Rattle.am_machine.specs.{PlacesAgree}
use Rattle.am_machine.proofs.TriggerMounts.Tops.{top_there}
use Rattle.am_progress.proofs.Passing.{GoesPast, HasPassed, past_after}
use Rattle.am_progress.proofs.Through.{IsOpenOn, Leaves, autofs_first, autofs_second, met_as, trap_by}

-- ---- what is entered is the top where the walk stands

-- the mount that it enters
abbrev below_of : Next → Option ℕ
below_of nexts.Rests = None
below_of (nexts.Halts stop) = None
below_of (nexts.Enters below) = Some below
below_of (nexts.Passes below trigger) = Some below

-- none, or the top
abbrev IsTopOrNone : Option ℕ → Next → Type 0
IsTopOrNone top next = (below : ℕ) → below_of next ≡ Some below → top ≡ Some below

plain_top : (top : Option ℕ) → IsTopOrNone top (if_entered top nexts.Rests)
plain_top (Some mount) below e = e
plain_top None below e = absurd cc

halts_top : (catatonic direct made behind : Bool) (failing : Option FailNo) (trigger : Trigger) (top : Option ℕ) →
    IsTopOrNone top (if catatonic then (if direct || made then nexts.Rests else nexts.Halts (stops.Refuse ENOENT)) else if behind then nexts.Halts (stops.Refuse ELOOP) else if_failing failing (nexts.Halts (stops.Missing trigger)))
halts_top true true made behind failing trigger top below e = absurd cc
halts_top true false true behind failing trigger top below e = absurd cc
halts_top true false false behind failing trigger top below e = absurd cc
halts_top false direct made true failing trigger top below e = absurd cc
halts_top false direct made false (Some error) trigger top below e = absurd cc
halts_top false direct made false None trigger top below e = absurd cc

trap_top : (expiring pending top : Option ℕ) (made : Bool) (behind : Option ℕ) (failing : Option FailNo) (row : Autofs) (trigger : Trigger) → IsTopOrNone top (trap_by expiring pending top made behind failing row trigger)
trap_top (Some n) pending top made behind failing row trigger below e = absurd cc
trap_top None (Some n) top made behind failing row trigger below e = absurd cc
trap_top None None (Some n) made behind failing row trigger below e = e
trap_top None None None made behind failing row trigger below e = halts_top row.catatonic row.direct made (is_some behind) failing trigger None below e

module _ (k : KernelState) (moment : ℕ) where
  autofs_top : (row : Autofs) (trigger : Option Trigger) (x : ℕ) (place : List (List ℕ)) → IsTopOrNone (top_of k.table.rows x place) (at_autofs (scene_of k moment) row trigger x place)
  autofs_top row None x place = plain_top (top_of k.table.rows x place)
  autofs_top row (Some trigger) x place = trap_top _ _ (top_of k.table.rows x place) _ _ _ row trigger

  site_top : (row : Option Autofs) (x : ℕ) (place : List (List ℕ)) → IsTopOrNone (top_of k.table.rows x place) (at_site (scene_of k moment) row x place)
  site_top None x place = plain_top (top_of k.table.rows x place)
  site_top (Some row) x place = autofs_top row (trigger_in row place) x place

  enters_top : (x : ℕ) (place : List (List ℕ)) → IsTopOrNone (top_of k.table.rows x place) (next_at (scene_of k moment) x place)
  enters_top x place = site_top (autofs_at (scene_of k moment) x) x place

-- ---- mounts of a namespace

-- a mount of the namespace
abbrev pub IsOfNs : KernelState → ℕ → ℕ → Type 0
IsOfNs k ns x = (row : MountRow) × (mount_row k.table.rows x ≡ Some row) × (row.ns ≡ ns)

root_row : (k : KernelState) → PlacesAgree k → (ns root : ℕ) → root_of k.table.rows ns ≡ Some root → IsOfNs k ns root
root_row k places ns root e = by (find (λ (r : MountRow). is_root ns r) k.table.rows) refl e
  where
    by : (o : Option MountRow) → find (λ (r : MountRow). is_root ns r) k.table.rows ≡ o → option_map (λ (r : MountRow). r.mount) o ≡ Some root → IsOfNs k ns root
    by None is e = absurd cc
    by (Some row) is e =
        let own = all_find (λ (r : MountRow). mount_row k.table.rows r.mount ≡ Some r) (λ (r : MountRow). is_root ns r) k.table.rows row
        (all_found (λ (r : MountRow). mount_row k.table.rows r.mount ≡ Some r) (λ (r : MountRow). r.mount) 0 k.table.rows places.whole.rising (λ r found. found)) is in
        let of = both_of_and (row.ns == ns) (is_none row.mountpoint) (found_passes (λ (r : MountRow). is_root ns r) k.table.rows row is) in
        (row, ap (mount_row k.table.rows) (sym (some_injective e)) ∙ own, equal_by_test row.ns ns of.0)

-- what is mounted on a mount is of its namespace
below_ns : (k : KernelState) → PlacesAgree k → (ns x below : ℕ) (place : List (List ℕ)) → IsOfNs k ns x → top_of k.table.rows x place ≡ Some below → IsOfNs k ns below
below_ns k places ns x below place of e =
    let there : HasRow (IsAt x place) k.table.rows below = top_there k.table.rows x place below places.whole.rising e in
    let parent = places.whole.parents below x there.0 there.1 (place, there.2) in
    let one : parent.0 ≡ of.0 = some_injective (sym parent.1 ∙ of.1) in
    (there.0, there.1, sym parent.2 ∙ ap (λ (r : MountRow). r.ns) one ∙ of.2)

-- ---- the walk

passed_ended : (g : Trigger) (v : Visit) → HasPassed g v → Contains (ended v).passed g
passed_ended g (Stands mount place passed) h = h
passed_ended g (Stops stop passed) h = h

stopped : (v : Visit) (token : ℕ) → (ended v).stop ≡ stops.Block token → (gs : List Trigger) × (v ≡ Stops (stops.Block token) gs)
stopped (Stands mount place passed) token e = absurd cc
stopped (Stops stop passed) token e = (passed, ap (λ (s : Stop). Stops s passed) e)

arrived_at : (m : ℕ) (p : List (List ℕ)) (gs : List Trigger) (scene : Scene) (v : Visit) → v ≡ Stands m p gs → RestsAt scene (ended v).stop → next_at scene m p ≡ nexts.Rests
arrived_at m p gs scene v e h = subst (λ (x : Visit). RestsAt scene (ended x).stop) e h

module _ (k made : KernelState) (places : PlacesAgree k) (g : Trigger) (token moment ns : ℕ) (t : IsOpenOn k g token) (l : Leaves k made g token) (a : Autofs) (is_a : autofs_of k.triggers g.fs ≡ Some a) (own : trigger_in a (place_of g) ≡ Some g)
    (past : (x : ℕ) (row : MountRow) → mount_row k.table.rows x ≡ Some row → row.fs ≡ g.fs → row.ns ≡ ns → (below : ℕ) × (next_at (scene_of made moment) x (place_of g) ≡ nexts.Passes below g)) where
  goes : GoesPast (scene_of k moment) (scene_of made moment) token g (IsOfNs k ns)
  goes = record {
    same = λ x place of. ⊎_elim (λ at. inl at.2) (λ same. inr same.0) (met_as k made places g token moment t l a is_a own x of.0 of.1 place);
    past = λ x place of waits. ⊎_elim
        (λ at. let p = past x of.0 of.1 at.0 of.2 in (p.0, ap (next_at (scene_of made moment) x) at.1 ∙ p.1))
        (λ same. absurd (same.1 waits))
        (met_as k made places g token moment t l a is_a own x of.0 of.1 place);
    enters = λ x below place of is. below_ns k places ns x below place of (enters_top k moment x place below (ap below_of is));
    passes = λ x below place trigger of is. below_ns k places ns x below place of (enters_top k moment x place below (ap below_of is));
    names = λ x place of.
        ap (λ (o : Option Autofs). has_names o place) (autofs_second k made places g token moment t l a is_a own x of.0 of.1 ∙ sym (autofs_first k made places g token moment t l a is_a own x of.0 of.1));
    more = l.table.more;
  }

  pub walks_past : (path : List (List ℕ)) → (walk_of (scene_of k moment) ns path).stop ≡ stops.Block token → Contains (walk_of (scene_of made moment) ns path).passed g
  walks_past path e = by (root_of k.table.rows ns) refl e
    where
      by : (root : Option ℕ) → root_of k.table.rows ns ≡ root → (ended (visit_from (scene_of k moment) path root)).stop ≡ stops.Block token → Contains (walk_of (scene_of made moment) ns path).passed g
      by None is e = absurd cc
      by (Some root) is e =
          let s = stopped (after (scene_of k moment) root (reverse path)) token e in
          let rest : (names : List (List ℕ)) (m : ℕ) (p : List (List ℕ)) (gs : List Trigger) → after (scene_of k moment) root names ≡ Stands m p gs → next_at (scene_of k moment) m p ≡ nexts.Rests =
          λ names m p gs there.
          arrived_at m p gs (scene_of k moment) (visit_of (scene_of k moment) ns (reverse names))
          (ap (visit_from (scene_of k moment) (reverse names)) is ∙ ap (after (scene_of k moment) root) (reverse-reverse names) ∙ there)
          (rests (scene_of k moment) places.whole.rising places.whole.older ns (reverse names)) in
          let passed = past_after (scene_of k moment) (scene_of made moment) token g (IsOfNs k ns) goes root (root_row k places ns root is) rest (reverse path) s.0 s.1 in
          let there : root_of made.table.rows ns ≡ Some root = l.table.roots ns root is in
          passed_ended g (visit_of (scene_of made moment) ns path) (subst (HasPassed g) (sym (ap (visit_from (scene_of made moment) path) there)) passed)
