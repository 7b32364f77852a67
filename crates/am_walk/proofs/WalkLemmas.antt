-- A walk is followed step by step, and name by name.
use Rattle.std.proofs.Common.{◌≡◌, ℕ, suc, ◌-◌, ◌<◌, List, [], ◌∷◌, ◌++◌, Option, Some, None, refl, sym, ap, ◌∙◌, arith}
use mathlib.Core.List.{reverse_aux}
use Rattle.am_names.specs.declared.errno.Errno.TheVariants.{ENOENT}
use Rattle.am_names.specs.declared.trigger.Trigger.{Trigger}
use Rattle.am_mount.specs.{root_of}
use Rattle.am_walk.specs.{Next, Stop, next_at, Visit, Stands, Stops, followed, settled_within, settled, onward, after, visit_from, visit_of, ended}
use Rattle.am_walk.specs.declared.stop.Next.TheVariants as nexts
use Rattle.am_walk.specs.declared.stop.Stop.TheVariants as stops
use Rattle.am_walk.specs.Scene.{Scene}

met : (steps fewer : ℕ) (scene : Scene) (mount : ℕ) (place : List (List ℕ)) (passed : List Trigger) (next : Next) → steps ≡ suc fewer → next ≡ next_at scene mount place → followed next mount place passed (λ m gs. settled_within fewer scene m [] gs) ≡ settled_within steps scene mount place passed
met steps fewer scene mount place passed next e n =
    ap (λ (x : Next). followed x mount place passed (λ m gs. settled_within fewer scene m [] gs)) n ∙ ap (λ (k : ℕ). settled_within k scene mount place passed) (sym e)

pub rests : (steps : ℕ) (scene : Scene) (mount : ℕ) (place : List (List ℕ)) (passed : List Trigger) (whole : Visit) → settled_within steps scene mount place passed ≡ whole → 0 < steps → nexts.Rests ≡ next_at scene mount place → Stands mount place passed ≡ whole
rests steps scene mount place passed whole h more n = met steps (steps - 1) scene mount place passed nexts.Rests (omega arith) n ∙ h

pub halts : (steps : ℕ) (scene : Scene) (mount : ℕ) (place : List (List ℕ)) (passed : List Trigger) (stop : Stop) (whole : Visit) → settled_within steps scene mount place passed ≡ whole → 0 < steps → nexts.Halts stop ≡ next_at scene mount place → Stops stop passed ≡ whole
halts steps scene mount place passed stop whole h more n = met steps (steps - 1) scene mount place passed (nexts.Halts stop) (omega arith) n ∙ h

pub enters : (steps fewer : ℕ) (scene : Scene) (mount : ℕ) (place : List (List ℕ)) (passed : List Trigger) (below : ℕ) (whole : Visit) → settled_within steps scene mount place passed ≡ whole → steps ≡ suc fewer → nexts.Enters below ≡ next_at scene mount place → settled_within fewer scene below [] passed ≡ whole
enters steps fewer scene mount place passed below whole h e n = met steps fewer scene mount place passed (nexts.Enters below) e n ∙ h

pub goes_past : (steps fewer : ℕ) (scene : Scene) (mount : ℕ) (place : List (List ℕ)) (passed : List Trigger) (below : ℕ) (trigger : Trigger) (whole : Visit) → settled_within steps scene mount place passed ≡ whole → steps ≡ suc fewer → nexts.Passes below trigger ≡ next_at scene mount place → settled_within fewer scene below [] (passed ++ trigger ∷ []) ≡ whole
goes_past steps fewer scene mount place passed below trigger whole h e n = met steps fewer scene mount place passed (nexts.Passes below trigger) e n ∙ h

pub ends : (steps : ℕ) (scene : Scene) (mount : ℕ) (place : List (List ℕ)) (passed : List Trigger) (whole : Visit) → settled_within steps scene mount place passed ≡ whole → steps ≡ 0 → Stands mount place passed ≡ whole
ends steps scene mount place passed whole h e = ap (λ (k : ℕ). settled_within k scene mount place passed) (sym e) ∙ h

-- ---- along the names

-- the walk goes on by these names, the first one first
abbrev pub along : Scene → List (List ℕ) → Visit → Visit
along scene [] visit = visit
along scene (name ∷ names) visit = along scene names (onward scene name visit)

-- where it has stopped it stays
pub stays : (scene : Scene) (names : List (List ℕ)) (stop : Stop) (passed : List Trigger) → along scene names (Stops stop passed) ≡ Stops stop passed
stays scene [] stop passed = refl
stays scene (name ∷ names) stop passed = stays scene names stop passed

after_along : (scene : Scene) (root : ℕ) (names earlier : List (List ℕ)) → after scene root (reverse_aux names earlier) ≡ along scene names (after scene root earlier)
after_along scene root [] earlier = refl
after_along scene root (name ∷ names) earlier = after_along scene root names (name ∷ earlier)

-- from the root on
pub begins : (scene : Scene) (ns root : ℕ) (names : List (List ℕ)) → root_of scene.mounts ns ≡ Some root → along scene names (settled scene root [] []) ≡ visit_of scene ns names
begins scene ns root names e =
    sym (ap (visit_from scene names) e ∙ after_along scene root names [])

pub no_root : (scene : Scene) (ns : ℕ) (names : List (List ℕ)) → root_of scene.mounts ns ≡ None → ended (Stops (stops.Refuse ENOENT) []) ≡ ended (visit_of scene ns names)
no_root scene ns names e = ap (λ (o : Option ℕ). ended (visit_from scene names o)) (sym e)

-- the walk has stopped before these names
pub stopped : (scene : Scene) (names : List (List ℕ)) (stop : Stop) (passed : List Trigger) (visit whole : Visit) → along scene names visit ≡ whole → visit ≡ Stops stop passed → ended (Stops stop passed) ≡ ended whole
stopped scene names stop passed visit whole h e =
    ap ended (sym (stays scene names stop passed) ∙ ap (along scene names) (sym e) ∙ h)

pub names_end : (scene : Scene) (names : List (List ℕ)) (visit whole : Visit) → along scene names visit ≡ whole → names ≡ [] → ended visit ≡ ended whole
names_end scene names visit whole h e = ap ended (ap (λ (ns : List (List ℕ)). along scene ns visit) (sym e) ∙ h)

pub goes_on : (scene : Scene) (names : List (List ℕ)) (name : List ℕ) (others : List (List ℕ)) (visit there whole : Visit) → along scene names visit ≡ whole → names ≡ name ∷ others → there ≡ onward scene name visit → along scene others there ≡ whole
goes_on scene names name others visit there whole h e v =
    ap (along scene others) v ∙ ap (λ (ns : List (List ℕ)). along scene ns visit) (sym e) ∙ h
