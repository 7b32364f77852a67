-- A walk that would wait on a token goes past the trigger, where all else that it meets is as before.
use Rattle.std.proofs.Common.{◌≡◌, ◌⊎◌, ◌≤◌, ℕ, zero, suc, ◌+◌, Bool, true, false, cond, List, [], ◌∷◌, ◌++◌, length, refl, sym, ap, subst, ⊎_elim, ◌∙◌, arith}
use Rattle.std.specs.List.{Contains}
use Rattle.std.proofs.lemmas.List.Elements.{Contains-append_left, Contains-push}
use Rattle.am_names.specs.declared.errno.Errno.TheVariants.{ENOENT}
use Rattle.am_names.specs.declared.trigger.Trigger.{Trigger}
use Rattle.am_walk.specs.{Next, Stop, autofs_at, has_names, next_at, Visit, Stands, Stops, followed, settled_within, settled, onward, after}
use Rattle.am_walk.specs.declared.stop.Next.TheVariants as nexts
use Rattle.am_walk.specs.declared.stop.Stop.TheVariants as stops
use Rattle.am_walk.specs.Scene.{Scene}

-- what the walk has passed
abbrev pub HasPassed : Trigger → Visit → Type 0
HasPassed g (Stands mount place passed) = Contains passed g
HasPassed g (Stops stop passed) = Contains passed g

-- ---- what was passed stays passed

module _ (scene : Scene) (g : Trigger) where
  followed_keeps : (next : Next) (mount : ℕ) (place : List (List ℕ)) (passed : List Trigger) (enter : ℕ → List Trigger → Visit) → Contains passed g → ((m : ℕ) (gs : List Trigger) → Contains gs g → HasPassed g (enter m gs)) →
      HasPassed g (followed next mount place passed enter)
  followed_keeps nexts.Rests mount place passed enter h later = h
  followed_keeps (nexts.Halts stop) mount place passed enter h later = h
  followed_keeps (nexts.Enters below) mount place passed enter h later = later below passed h
  followed_keeps (nexts.Passes below trigger) mount place passed enter h later = later below (passed ++ trigger ∷ []) (Contains-append_left passed (trigger ∷ []) g h)

  within_keeps : (steps mount : ℕ) (place : List (List ℕ)) (passed : List Trigger) → Contains passed g → HasPassed g (settled_within steps scene mount place passed)
  within_keeps zero mount place passed h = h
  within_keeps (suc steps) mount place passed h =
      followed_keeps (next_at scene mount place) mount place passed (λ m gs. settled_within steps scene m [] gs) h (λ m gs later. within_keeps steps m [] gs later)

  below_keeps : (b : Bool) (mount : ℕ) (place : List (List ℕ)) (passed : List Trigger) → Contains passed g → HasPassed g (cond b (settled scene mount place passed) (Stops (stops.Refuse ENOENT) passed))
  below_keeps true mount place passed h = within_keeps (length scene.mounts + 1) mount place passed h
  below_keeps false mount place passed h = h

  onward_keeps : (name : List ℕ) (visit : Visit) → HasPassed g visit → HasPassed g (onward scene name visit)
  onward_keeps name (Stops stop passed) h = h
  onward_keeps name (Stands mount place passed) h = below_keeps (has_names (autofs_at scene mount) place) mount (place ++ name ∷ []) passed h

-- ---- two scenes

-- In the first a walk waits on the token at some places, and meets the same in both at each other place. Of
-- is said of the mounts to which it comes: where it waits at one of those, it passes the trigger in the
-- second.
pub record GoesPast (first second : Scene) (token : ℕ) (g : Trigger) (Of : ℕ → Type 0) : Type 0 where
  pub same : (mount : ℕ) (place : List (List ℕ)) → Of mount →
      (next_at first mount place ≡ nexts.Halts (stops.Block token)) ⊎ (next_at second mount place ≡ next_at first mount place)
  pub past : (mount : ℕ) (place : List (List ℕ)) → Of mount → next_at first mount place ≡ nexts.Halts (stops.Block token) →
      (below : ℕ) × (next_at second mount place ≡ nexts.Passes below g)
  pub enters : (mount below : ℕ) (place : List (List ℕ)) → Of mount → next_at first mount place ≡ nexts.Enters below → Of below
  pub passes : (mount below : ℕ) (place : List (List ℕ)) (trigger : Trigger) → Of mount → next_at first mount place ≡ nexts.Passes below trigger → Of below
  pub names : (mount : ℕ) (place : List (List ℕ)) → Of mount → has_names (autofs_at second mount) place ≡ has_names (autofs_at first mount) place
  pub more : length first.mounts ≤ length second.mounts

module _ (first second : Scene) (token : ℕ) (g : Trigger) (Of : ℕ → Type 0) (h : GoesPast first second token g Of) where
  -- what it meets is the same, unless it waits there
  meets_same : (mount : ℕ) (place : List (List ℕ)) (next : Next) → Of mount → next_at first mount place ≡ next → (next ≡ nexts.Halts (stops.Block token) → ⊥) → next_at second mount place ≡ next
  meets_same mount place next of is other = ⊎_elim (λ waits. absurd (other (sym is ∙ waits))) (λ same. same ∙ is) (h.same mount place of)

  abbrev enters_first : ℕ → ℕ → List Trigger → Visit
  enters_first steps m gs = settled_within steps first m [] gs

  abbrev enters_second : ℕ → ℕ → List Trigger → Visit
  enters_second steps m gs = settled_within steps second m [] gs

  -- ---- where it comes to rest

  record Arrives (steps mount : ℕ) (place : List (List ℕ)) (passed : List Trigger) (m : ℕ) (p : List (List ℕ)) (gs : List Trigger) : Type 0 where
    there : settled_within steps second mount place passed ≡ Stands m p gs
    of : Of m

  rests_in : (steps mount : ℕ) (place : List (List ℕ)) (passed : List Trigger) → next_at second mount place ≡ nexts.Rests → settled_within steps second mount place passed ≡ Stands mount place passed
  rests_in zero mount place passed e = refl
  rests_in (suc steps) mount place passed e = ap (λ (next : Next). followed next mount place passed (enters_second steps)) e

  stands_same : (x y : ℕ) (p q : List (List ℕ)) (a b : List Trigger) → Stands x p a ≡ Stands y q b → (x ≡ y) × (p ≡ q) × (a ≡ b)
  stands_same x y p q a b e = (let one : x ≡ y = cc in one, let two : p ≡ q = cc in two, let three : a ≡ b = cc in three)

  rest_here : (steps mount : ℕ) (place : List (List ℕ)) (passed : List Trigger) (m : ℕ) (p : List (List ℕ)) (gs : List Trigger) → Of mount → Stands mount place passed ≡ Stands m p gs → next_at first m p ≡ nexts.Rests → Arrives steps mount place passed m p gs
  rest_here steps mount place passed m p gs of e rests =
      let same = stands_same mount m place p passed gs e in
      let here : next_at first mount place ≡ nexts.Rests = ap (λ (x : ℕ). next_at first x place) same.0 ∙ ap (next_at first m) same.1 ∙ rests in
      record {
        there = rests_in steps mount place passed (meets_same mount place nexts.Rests of here (λ no. absurd cc)) ∙ e;
        of = subst Of same.0 of;
      }

  settles : (few steps mount : ℕ) (place : List (List ℕ)) (passed : List Trigger) (m : ℕ) (p : List (List ℕ)) (gs : List Trigger) → few ≤ steps → Of mount → settled_within few first mount place passed ≡ Stands m p gs → next_at first m p ≡ nexts.Rests → Arrives steps mount place passed m p gs
  settles zero steps mount place passed m p gs less of e rests = rest_here steps mount place passed m p gs of e rests
  settles (suc few) zero mount place passed m p gs less of e rests = absurd (omega (arith, less))
  settles (suc few) (suc steps) mount place passed m p gs less of e rests =
      by (λ below ps of e. settles few steps below [] ps m p gs (omega (arith, less)) of e rests) (next_at first mount place) refl e
    where
      by : ((below : ℕ) (ps : List Trigger) → Of below → settled_within few first below [] ps ≡ Stands m p gs → Arrives steps below [] ps m p gs) → (next : Next) → next_at first mount place ≡ next → followed next mount place passed (enters_first few) ≡ Stands m p gs → Arrives (suc steps) mount place passed m p gs
      by on nexts.Rests is e = rest_here (suc steps) mount place passed m p gs of e rests
      by on (nexts.Halts stop) is e = absurd cc
      by on (nexts.Enters below) is e =
          let later = on below passed (h.enters mount below place of is) e in
          record { there = ap (λ (next : Next). followed next mount place passed (enters_second steps)) (meets_same mount place (nexts.Enters below) of is (λ no. absurd cc)) ∙ later.there; of = later.of }
      by on (nexts.Passes below trigger) is e =
          let later = on below (passed ++ trigger ∷ []) (h.passes mount below place trigger of is) e in
          record { there = ap (λ (next : Next). followed next mount place passed (enters_second steps)) (meets_same mount place (nexts.Passes below trigger) of is (λ no. absurd cc)) ∙ later.there; of = later.of }

  -- ---- where it waits

  goes_past : (few steps mount : ℕ) (place : List (List ℕ)) (passed gs : List Trigger) → few ≤ steps → Of mount → settled_within few first mount place passed ≡ Stops (stops.Block token) gs → HasPassed g (settled_within steps second mount place passed)
  goes_past zero steps mount place passed gs less of e = absurd cc
  goes_past (suc few) zero mount place passed gs less of e = absurd (omega (arith, less))
  goes_past (suc few) (suc steps) mount place passed gs less of e =
      by (λ below ps of e. goes_past few steps below [] ps gs (omega (arith, less)) of e) (next_at first mount place) refl e
    where
      by : ((below : ℕ) (ps : List Trigger) → Of below → settled_within few first below [] ps ≡ Stops (stops.Block token) gs → HasPassed g (settled_within steps second below [] ps)) → (next : Next) → next_at first mount place ≡ next → followed next mount place passed (enters_first few) ≡ Stops (stops.Block token) gs → HasPassed g (settled_within (suc steps) second mount place passed)
      by on nexts.Rests is e = absurd cc
      by on (nexts.Halts stop) is e =
          let waits : stop ≡ stops.Block token = cc in
          let past = h.past mount place of (is ∙ ap (λ (s : Stop). nexts.Halts s) waits) in
          subst (λ (next : Next). HasPassed g (followed next mount place passed (enters_second steps))) (sym past.1) (within_keeps second g steps past.0 [] (passed ++ g ∷ []) (Contains-push passed g))
      by on (nexts.Enters below) is e =
          subst (λ (next : Next). HasPassed g (followed next mount place passed (enters_second steps))) (sym (meets_same mount place (nexts.Enters below) of is (λ no. absurd cc)))
          (on below passed (h.enters mount below place of is) e)
      by on (nexts.Passes below trigger) is e =
          subst (λ (next : Next). HasPassed g (followed next mount place passed (enters_second steps))) (sym (meets_same mount place (nexts.Passes below trigger) of is (λ no. absurd cc)))
          (on below (passed ++ trigger ∷ []) (h.passes mount below place trigger of is) e)

  fuel : (length first.mounts + 1) ≤ (length second.mounts + 1)
  fuel = let more = h.more in omega (arith, more)

  -- ---- along the names

  -- wherever it stands after some names nothing is in its way
  abbrev RestsAlong : ℕ → Type 0
  RestsAlong root = (names : List (List ℕ)) (m : ℕ) (p : List (List ℕ)) (gs : List Trigger) → after first root names ≡ Stands m p gs → next_at first m p ≡ nexts.Rests

  record Stood (root : ℕ) (names : List (List ℕ)) (m : ℕ) (p : List (List ℕ)) (gs : List Trigger) : Type 0 where
    there : after second root names ≡ Stands m p gs
    of : Of m

  module _ (root : ℕ) (of_root : Of root) (rests : RestsAlong root) where
    stands_after : (names : List (List ℕ)) (m : ℕ) (p : List (List ℕ)) (gs : List Trigger) → after first root names ≡ Stands m p gs → Stood root names m p gs
    stands_after [] m p gs e =
        let a = settles (length first.mounts + 1) (length second.mounts + 1) root [] [] m p gs fuel of_root e (rests [] m p gs e) in
        record { there = a.there; of = a.of }
    stands_after (name ∷ earlier) m p gs whole = by (λ x q before is. stands_after earlier x q before is) (after first root earlier) refl whole
      where
        go : (x : ℕ) (q : List (List ℕ)) (before : List Trigger) → Stood root earlier x q before → (b : Bool) → has_names (autofs_at first x) q ≡ b → cond b (settled first x (q ++ name ∷ []) before) (Stops (stops.Refuse ENOENT) before) ≡ Stands m p gs → Stood root (name ∷ earlier) m p gs
        go x q before was true is e =
            let a = settles (length first.mounts + 1) (length second.mounts + 1) x (q ++ name ∷ []) before m p gs fuel was.of e (rests (name ∷ earlier) m p gs whole) in
            record { there = ap (onward second name) was.there ∙ ap (λ (b : Bool). cond b (settled second x (q ++ name ∷ []) before) (Stops (stops.Refuse ENOENT) before)) (h.names x q was.of ∙ is) ∙ a.there; of = a.of }
        go x q before was false is e = absurd cc

        by : ((x : ℕ) (q : List (List ℕ)) (before : List Trigger) → after first root earlier ≡ Stands x q before → Stood root earlier x q before) → (v : Visit) → after first root earlier ≡ v → onward first name v ≡ Stands m p gs → Stood root (name ∷ earlier) m p gs
        by on (Stops stop before) is e = absurd cc
        by on (Stands x q before) is e = go x q before (on x q before is) (has_names (autofs_at first x) q) refl e

    pub past_after : (names : List (List ℕ)) (gs : List Trigger) → after first root names ≡ Stops (stops.Block token) gs → HasPassed g (after second root names)
    past_after [] gs e = goes_past (length first.mounts + 1) (length second.mounts + 1) root [] [] gs fuel of_root e
    past_after (name ∷ earlier) gs e = by (λ gs e. past_after earlier gs e) (after first root earlier) refl e
      where
        go : (x : ℕ) (q : List (List ℕ)) (before : List Trigger) → Stood root earlier x q before → (b : Bool) → has_names (autofs_at first x) q ≡ b → cond b (settled first x (q ++ name ∷ []) before) (Stops (stops.Refuse ENOENT) before) ≡ Stops (stops.Block token) gs → HasPassed g (after second root (name ∷ earlier))
        go x q before was true is e =
            subst (HasPassed g) (sym (ap (onward second name) was.there ∙ ap (λ (b : Bool). cond b (settled second x (q ++ name ∷ []) before) (Stops (stops.Refuse ENOENT) before)) (h.names x q was.of ∙ is)))
            (goes_past (length first.mounts + 1) (length second.mounts + 1) x (q ++ name ∷ []) before gs fuel was.of e)
        go x q before was false is e = absurd cc

        by : ((gs : List Trigger) → after first root earlier ≡ Stops (stops.Block token) gs → HasPassed g (after second root earlier)) → (v : Visit) → after first root earlier ≡ v → onward first name v ≡ Stops (stops.Block token) gs → HasPassed g (after second root (name ∷ earlier))
        by on (Stops stop before) is e = onward_keeps second g name (after second root earlier) (on gs (is ∙ e))
        by on (Stands x q before) is e = go x q before (stands_after earlier x q before is) (has_names (autofs_at first x) q) refl e
