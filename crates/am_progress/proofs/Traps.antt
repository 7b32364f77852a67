-- A trigger on which nothing is open and nothing mounted is one at which a walk notifies; one on which
-- something is mounted is passed.
use Rattle.std.proofs.Common.{◌≡◌, ℕ, Bool, true, false, cond, List, [], ◌∷◌, Option, Some, None, refl, sym, ap, ◌∙◌}
use Rattle.std.specs.Prelude.{◌==◌, is_some, is_none, find, if◌then◌else◌}
use Rattle.std.specs.Option.{option_map, option_and_then}
use Rattle.std.specs.List.{All}
use Rattle.std.proofs.lemmas.List.Elements.{All-head, All-tail, All-weaker}
use Rattle.am_names.specs.{same_trigger, MountRow, OpenToken, TokenKind}
use Rattle.am_names.specs.declared.trigger.Trigger.{Trigger}
use Rattle.am_names.specs.declared.row.TokenKind.TheVariants.{Missing, Expire}
use Rattle.am_names.proofs.Basics.{equal_by_test, found_passes, and_where_left_is_false}
use Rattle.am_group.specs.{Receives}
use Rattle.am_mount.specs.{mount_row, top_of}
use Rattle.am_trigger.specs.{Failure, failure_of, error_while, Autofs, autofs_of, trigger_in, place_named, place_of}
use Rattle.am_wait.specs.{open_on, is_open_on, same_kind}
use Rattle.am_walk.specs.declared.stop.Next.TheVariants as nexts
use Rattle.am_walk.specs.declared.stop.Stop.TheVariants as stops
use Rattle.am_walk.specs.{at_trap, at_autofs, at_site, next_at, autofs_at}
use Rattle.am_walk.specs.Scene.{Scene}
use Rattle.am_kernel.specs.{is_live_row, attach_of, scene_of, is_trigger_of, location_in, location_of, mounted_on}
use Rattle.am_machine.specs.State.{State}
use Rattle.am_machine.specs.{HasCopy}
use Rattle.am_machine.proofs.TriggerMounts.Unchanged.{attached_autofs}
use Rattle.am_machine.proofs.TriggerMounts.Mounts.{trigger_same}
use Rattle.am_machine.proofs.TriggerMounts.Tops.{none_there}
use Rattle.am_machine.proofs.Places.Rows.{receiver_fs, receiver_row}
use Rattle.am_progress.proofs.Found.{live_of}
use Rattle.am_progress.proofs.Triggers.Walks.{IsSite}
use Rattle.am_progress.proofs.Worlds.{IsWorld}

find_none : {X : Type 0} (test : X → Bool) (rows : List X) → All (λ (x : X). test x ≡ false) rows → find test rows ≡ None
find_none test [] h = refl
find_none {X} test (x ∷ rows) h =
    ap (λ (b : Bool). cond b (Some x) (find test rows)) (All-head (λ y. test y ≡ false) x rows h) ∙ find_none test rows (All-tail (λ y. test y ≡ false) x rows h)

none_is_open_on : (kind : TokenKind) (g : Trigger) (tokens : List OpenToken) → All (λ (r : OpenToken). same_trigger r.trigger g ≡ false) tokens → open_on tokens kind g ≡ None
none_is_open_on kind g tokens h =
    ap (option_map (λ (r : OpenToken). r.token))
    (find_none (λ (r : OpenToken). is_open_on kind g r) tokens
    (All-weaker (λ (r : OpenToken). same_trigger r.trigger g ≡ false) (λ (r : OpenToken). is_open_on kind g r ≡ false) (λ r other. and_where_left_is_false (same_trigger r.trigger g) (same_kind r.kind kind) other) tokens h))

pub trigger_by_cases : (a : Autofs) (g : Trigger) (name : Option (List ℕ)) (direct : Bool) → g.name ≡ name → a.direct ≡ direct → a.fs ≡ g.fs → (if direct then is_none name else is_some name) ≡ true → trigger_in a (place_named name) ≡ Some g
trigger_by_cases a g None true named d same h =
    ap (λ (b : Bool). if b then Some (record { fs = a.fs; name = None }) else None) d
    ∙ ap (λ (t : Trigger). Some t) (trigger_same (record { fs = a.fs; name = None }) g same (sym (ap place_named named)))
trigger_by_cases a g (Some name) false named d same h =
    ap (λ (b : Bool). if b then None else Some (record { fs = a.fs; name = Some name })) d
    ∙ ap (λ (t : Trigger). Some t) (trigger_same (record { fs = a.fs; name = Some name }) g same (sym (ap place_named named)))
trigger_by_cases a g None false named d same h = absurd cc
trigger_by_cases a g (Some name) true named d same h = absurd cc

not_catatonic : (a : Autofs) (catatonic : Bool) → a.catatonic ≡ catatonic → is_live_row (Some a) ≡ true → catatonic ≡ false
not_catatonic a true is live = absurd cc
not_catatonic a false is live = refl

trap_is : (tokens : List OpenToken) (scene : Scene) (a : Autofs) (g : Trigger) → open_on tokens Expire g ≡ None → open_on tokens Missing g ≡ None → top_of scene.mounts a.location (place_of g) ≡ None → a.catatonic ≡ false → scene.failing g ≡ None → at_trap tokens scene a g a.location (place_of g) ≡ nexts.Halts (stops.Missing g)
trap_is tokens scene a g expire missing free live well = rw (expire, missing, free, live, well) refl

pub notifies : (s : State) → IsWorld s → (attach : ℕ) (g : Trigger) → attach_of s.kernel g.fs ≡ Some attach → IsSite s.kernel.triggers g → All (λ (r : OpenToken). same_trigger r.trigger g ≡ false) s.kernel.waits.tokens → mounted_on s.kernel g ≡ None → failure_of s.kernel.failures g ≡ None → (moment : ℕ) →
    next_at (scene_of s.kernel moment) (location_of s.kernel g.fs) (place_of g) ≡ nexts.Halts (stops.Missing g)
notifies s world attach g current site off free well moment =
    let k = s.kernel in
    let scene = scene_of k moment in
    let its = attached_autofs k g.fs attach current in
    let a = its.0 in
    let is : autofs_of k.triggers g.fs ≡ Some a = its.1 in
    let place = world.consistent.agreed.places.locations g.fs a is in
    let here : location_of k g.fs ≡ a.location = ap location_in is in
    let at : autofs_at scene a.location ≡ Some a =
    ap (λ (o : Option MountRow). option_and_then (λ fs. autofs_of k.triggers fs) (option_map (λ (r : MountRow). r.fs) o)) place.is_row ∙ ap (autofs_of k.triggers) place.fs ∙ is in
    let same : a.fs ≡ g.fs = equal_by_test a.fs g.fs (found_passes (λ (r : Autofs). r.fs == g.fs) k.triggers.autofs a is) in
    let trigger : trigger_in a (place_of g) ≡ Some g = trigger_by_cases a g g.name a.direct refl refl same (sym (ap (λ (o : Option Autofs). is_trigger_of o g) is) ∙ site) in
    let live : is_live_row (Some a) ≡ true = sym (ap is_live_row is) ∙ live_of k g.fs attach current in
    ap (λ (n : ℕ). next_at scene n (place_of g)) here
    ∙ ap (λ (o : Option Autofs). at_site scene o a.location (place_of g)) at
    ∙ ap (λ (o : Option Trigger). at_autofs scene a o a.location (place_of g)) trigger
    ∙ trap_is k.waits.tokens scene a g (none_is_open_on Expire g k.waits.tokens off) (none_is_open_on Missing g k.waits.tokens off)
    (sym (ap (λ (n : ℕ). top_of k.table.rows n (place_of g)) here) ∙ free) (not_catatonic a a.catatonic refl live)
    (ap (λ (o : Option Failure). option_and_then (error_while moment k.negative) o) well)

-- ---- what is mounted there is passed

passed_there : (tokens : List OpenToken) (scene : Scene) (a : Autofs) (g : Trigger) (x n : ℕ) → open_on tokens Expire g ≡ None → open_on tokens Missing g ≡ None → top_of scene.mounts x (place_of g) ≡ Some n → at_trap tokens scene a g x (place_of g) ≡ nexts.Passes n g
passed_there tokens scene a g x n expire missing there = rw (expire, missing, there) refl

-- at each mount of the file system on which something is mounted there
pub passes_at : (s : State) (attach : ℕ) (g : Trigger) (x n : ℕ) (row : MountRow) → attach_of s.kernel g.fs ≡ Some attach → IsSite s.kernel.triggers g → All (λ (r : OpenToken). same_trigger r.trigger g ≡ false) s.kernel.waits.tokens →
    mount_row s.kernel.table.rows x ≡ Some row → row.fs ≡ g.fs → top_of s.kernel.table.rows x (place_of g) ≡ Some n → (moment : ℕ) → next_at (scene_of s.kernel moment) x (place_of g) ≡ nexts.Passes n g
passes_at s attach g x n row current site off is_row fs there moment =
    let k = s.kernel in
    let scene = scene_of k moment in
    let its = attached_autofs k g.fs attach current in
    let a = its.0 in
    let is : autofs_of k.triggers g.fs ≡ Some a = its.1 in
    let at : autofs_at scene x ≡ Some a =
    ap (λ (o : Option MountRow). option_and_then (λ fs. autofs_of k.triggers fs) (option_map (λ (r : MountRow). r.fs) o)) is_row ∙ ap (autofs_of k.triggers) fs ∙ is in
    let same : a.fs ≡ g.fs = equal_by_test a.fs g.fs (found_passes (λ (r : Autofs). r.fs == g.fs) k.triggers.autofs a is) in
    let trigger : trigger_in a (place_of g) ≡ Some g = trigger_by_cases a g g.name a.direct refl refl same (sym (ap (λ (o : Option Autofs). is_trigger_of o g) is) ∙ site) in
    ap (λ (o : Option Autofs). at_site scene o x (place_of g)) at
    ∙ ap (λ (o : Option Trigger). at_autofs scene a o x (place_of g)) trigger
    ∙ passed_there k.waits.tokens scene a g x n (none_is_open_on Expire g k.waits.tokens off) (none_is_open_on Missing g k.waits.tokens off) there

-- at the daemon's
pub passes_here : (s : State) → IsWorld s → (attach : ℕ) (g : Trigger) (n : ℕ) → attach_of s.kernel g.fs ≡ Some attach → IsSite s.kernel.triggers g → All (λ (r : OpenToken). same_trigger r.trigger g ≡ false) s.kernel.waits.tokens →
    mounted_on s.kernel g ≡ Some n → (moment : ℕ) → next_at (scene_of s.kernel moment) (location_of s.kernel g.fs) (place_of g) ≡ nexts.Passes n g
passes_here s world attach g n current site off there moment =
    let k = s.kernel in
    let its = attached_autofs k g.fs attach current in
    let place = world.consistent.agreed.places.locations g.fs its.0 its.1 in
    let here : location_of k g.fs ≡ its.0.location = ap location_in its.1 in
    passes_at s attach g (location_of k g.fs) n place.row current site off (ap (mount_row k.table.rows) here ∙ place.is_row) place.fs there moment

-- at one that has a copy
pub passes_copy : (s : State) → IsWorld s → (attach : ℕ) (g : Trigger) (y m : ℕ) → attach_of s.kernel g.fs ≡ Some attach → IsSite s.kernel.triggers g → All (λ (r : OpenToken). same_trigger r.trigger g ≡ false) s.kernel.waits.tokens →
    Receives s.kernel.table.groups (location_of s.kernel g.fs) y → HasCopy s.kernel.table.rows y (place_of g) m → (copy : ℕ) × ((moment : ℕ) → next_at (scene_of s.kernel moment) y (place_of g) ≡ nexts.Passes copy g)
passes_copy s world attach g y m current site off receives copy =
    let k = s.kernel in
    let its_row = receiver_row k.table world.consistent.agreed.places.whole (location_of k g.fs) y receives in
    let row = its_row.0 in
    let is_row = its_row.1 in
    let its = attached_autofs k g.fs attach current in
    let place = world.consistent.agreed.places.locations g.fs its.0 its.1 in
    let there : mount_row k.table.rows (location_of k g.fs) ≡ Some place.row = ap (mount_row k.table.rows) (ap location_in its.1) ∙ place.is_row in
    let fs : row.fs ≡ g.fs = sym (receiver_fs k.table world.consistent.agreed.places.whole (location_of k g.fs) y receives place.row row there is_row) ∙ place.fs in
    by row is_row fs (top_of s.kernel.table.rows y (place_of g)) refl
  where
    by : (row : MountRow) → mount_row s.kernel.table.rows y ≡ Some row → row.fs ≡ g.fs → (o : Option ℕ) → top_of s.kernel.table.rows y (place_of g) ≡ o → (n : ℕ) × ((moment : ℕ) → next_at (scene_of s.kernel moment) y (place_of g) ≡ nexts.Passes n g)
    by row is_row fs None free = absurd (none_there s.kernel.table.rows y (place_of g) world.consistent.agreed.places.whole.rising free copy.number (copy.row, copy.is_row, copy.at))
    by row is_row fs (Some n) there = (n, passes_at s attach g y n row current site off is_row fs there)
